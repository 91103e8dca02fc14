use Rattle.std.proofs.Common.{◌≡◌, true, false, sym}
use Rattle.std.specs.BTreeMap.{get}
use Rattle.sdf_check.specs.Uses.{use_cmp}
use Rattle.sdf_check.proofs.UseLemmas.{use-found, use-none}
use Rattle.sdf_check.proofs.uses.is_used_before.Goals as goal

pub returns-in-Some : goal.returns-in-Some
returns-in-Some c = λ plan u.
    let iff = use-found (get use_cmp c.args.uses.now) plan c.args.channel c.args.at c.args.domain c.args.id c.in-Some.field-0.now.0 c.in-Some.field-0.now.1 u (sym c.in-Some.ensures.value) in
    (λ t. iff.0 (c.is_earlier.ensures.0 t), λ h. c.is_earlier.ensures.1 (iff.1 h))

pub returns-in-None : goal.returns-in-None
returns-in-None c = λ plan u.
    (λ h. let no : false ≡ true = h in cc, λ h. absurd (use-none (get use_cmp c.args.uses.now) plan c.args.channel c.args.at c.args.domain c.args.id u (sym c.in-None.ensures.value) h))
