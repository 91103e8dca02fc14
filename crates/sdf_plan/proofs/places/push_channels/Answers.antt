use Rattle.std.proofs.Common.{refl}
use Rattle.sdf_plan.proofs.WalkLemmas.{channels-step}
use Rattle.sdf_plan.proofs.places.push_channels.Goals as goal

pub loop-at-preserved : goal.loop-at-preserved
loop-at-preserved c =
    channels-step _ _ _ _ _ _ _ _ _ c.loop-at-test.true c.index-channels-at.is refl c.len.ensures c.in_ok-push.ensures.items
    c.in_ok-push_members.ensures c.loop-at.invariant
