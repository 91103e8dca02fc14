-- A layout has as few actors and queues as its plan.
use Rattle.std.proofs.Common.{◌≡◌, ◌≤◌, length, ap, arith}
use Rattle.sdf_plan.specs.declared.plan.Plan.{Plan}
use Rattle.region_layout.specs.declared.layout.Layout.{Layout}
use Rattle.region_layout.specs.Layouts.{layout_of}
use Rattle.region_layout.specs.Rows.{actors_of, queues_of}

pub few-actors : (plan : Plan) (layout : Layout) → layout ≡ layout_of plan → length (actors_of plan) ≤ 65536 → length layout.actors ≤ 65536
unfolding layout_of
few-actors plan layout is few = let e = ap (λ (l : Layout). length l.actors) is in omega (arith, e, few)

pub few-queues : (plan : Plan) (layout : Layout) → layout ≡ layout_of plan → length (queues_of plan) ≤ 65536 → length layout.queues ≤ 65536
unfolding layout_of
few-queues plan layout is few = let e = ap (λ (l : Layout). length l.queues) is in omega (arith, e, few)
