use Rattle.std.proofs.Common.{ℕ, ◌≡◌, ◌∙◌, ap, sym, length}
use Rattle.sdf_check.specs.Rules.{count_of}
use Rattle.sdf_check.proofs.RuleLemmas.{permissions-iff}
use Rattle.sdf_check.proofs.numbers.are_permissions.Goals as goal

pub returns : goal.returns
returns c =
    let counted : (letter n : ℕ) → n ≡ count_of letter c.as_bytes-letters.result.now → n ≡ count_of letter c.args.perms.now =
    λ letter n e. e ∙ ap (count_of letter) c.as_bytes-letters.ensures.value in
    let iff = permissions-iff c.args.perms.now _ _ _ (counted 114 _ c.count_of-reads.ensures) (counted 119 _ c.count_of-writes.ensures) (counted 120 _ c.count_of-runs.ensures) in
    let same : length c.as_bytes-letters.result.now ≡ length c.args.perms.now = ap length c.as_bytes-letters.ensures.value in (
      λ t. let h = c.are_once.ensures.0 t in iff.0 (h.0, h.1, h.2, h.3 ∙ same, h.4),
      λ p. let h = iff.1 p in c.are_once.ensures.1 (h.0, h.1, h.2, h.3 ∙ sym same, h.4),
    )
