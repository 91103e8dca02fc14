use Rattle.export_text.proofs.NumberLemmas.{grouped-step}
use Rattle.export_text.proofs.number.push_grouped.Goals as goal

pub loop-at-preserved : goal.loop-at-preserved
loop-at-preserved c =
    grouped-step _ _ _ c.args.digits.now c.loop-at.at c.loop-at-test.true c.in_ok-push_digit.ensures c.loop-at.invariant
