use Rattle.std.proofs.Common.{◌≡◌, ap, length, arith, List, subst, ℕ}
use Rattle.std.specs.Map.{lookup}
use Rattle.std.specs.BTreeMap.{is_at, get}
use Rattle.sdf_plan.specs.declared.plan.Channel.{Channel}
use Rattle.sdf_check.specs.Uses.{use_cmp, UsesUpTo}
use Rattle.sdf_check.proofs.UseLemmas.{uses-none, channel-there}
use Rattle.sdf_check.proofs.uses.uses_of.Goals as goal

pub loop-number-init : goal.loop-number-init
loop-number-init c =
    uses-none (get use_cmp c.new-uses.result) c.args.plan.now (λ q. ap (λ (es : List ((ℕ × ℕ) × (ℕ × ℕ))). lookup (is_at (use_cmp q)) es) c.new-uses.ensures.empty)

pub loop-number-preserved : goal.loop-number-preserved
loop-number-preserved c =
    c.in_ok-note_ends.ensures c.args.plan.now c.requires
    (channel-there c.args.plan.now c.as_slice-channel-items.result.now c.loop-number.number c.channel-item.result c.as_slice-channel-items.ensures c.loop-number-test.true c.channel-item.is)
    c.loop-number.invariant

pub returns : goal.returns
returns c =
    let same : length c.as_slice-channel-items.result.now ≡ length c.args.plan.now.channel = ap (λ (xs : List Channel). length xs) c.as_slice-channel-items.ensures in
    let over : c.loop-number.number ≡ length c.args.plan.now.channel = omega (arith, same, c.loop-number-test.false, c.loop-number.auto.number-end) in
    subst (λ n. UsesUpTo (get use_cmp c.loop-number.uses) c.args.plan.now n 0) over c.loop-number.invariant
