use Rattle.std.proofs.Common.{refl}
use Rattle.sdf_plan.proofs.WalkLemmas.{domains-step}
use Rattle.sdf_plan.proofs.places.push_domains.Goals as goal

pub loop-at-preserved : goal.loop-at-preserved
loop-at-preserved c =
    domains-step _ _ _ _ _ _ _ _ _ _ _ c.loop-at-test.true c.index-domains-at.is refl c.len.ensures c.len-in-loop-at.ensures c.in_ok-push.ensures.items
    c.in_ok-push_members.ensures c.in_ok-push_members-2.ensures c.loop-at.invariant
