use Rattle.sdf_plan.specs.Walks.{member}
use Rattle.sdf_plan.proofs.WalkLemmas.{members-step}
use Rattle.sdf_plan.proofs.places.push_members.Goals as goal

pub loop-number-preserved : goal.loop-number-preserved
loop-number-preserved c =
    members-step (member c.args.sort) _ _ _ _ _ c.loop-number-test.true (rw (← c.member.ensures) c.in_ok-push.ensures.items) c.loop-number.invariant
