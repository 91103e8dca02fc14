use Rattle.std.proofs.Common.{◌≡◌, ap, length, arith, ◌≤◌}
use Rattle.sdf_plan.specs.declared.plan.End.{End}
use Rattle.std.proofs.Common.{List}
use Rattle.sdf_check.proofs.UseLemmas.{end-there, uses-next}
use Rattle.sdf_check.proofs.uses.note_ends.Goals as goal

pub loop-at-preserved : goal.loop-at-preserved
loop-at-preserved c = λ plan finds is u.
    c.in_ok-note.ensures plan finds
    (end-there plan c.args.number c.loop-at.at c.args.channel.now c.as_slice-end-items.result.now c.end-item.result is c.as_slice-end-items.ensures c.loop-at-test.true c.end-item.is)
    (c.loop-at.invariant plan finds is u)

pub returns : goal.returns
returns c = λ plan finds is u.
    let same : length c.as_slice-end-items.result.now ≡ length c.args.channel.now.end = ap (λ (xs : List End). length xs) c.as_slice-end-items.ensures in
    let over : length c.args.channel.now.end ≤ c.loop-at.at = omega (arith, same, c.loop-at-test.false) in
    uses-next _ plan c.args.number c.loop-at.at c.args.channel.now is over (c.loop-at.invariant plan finds is u)
