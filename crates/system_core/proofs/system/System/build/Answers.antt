use Rattle.std.proofs.Common.{◌∙◌, sym, subst}
use Rattle.std.proofs.lemmas.Result.{IfOk-weaker}
use Rattle.wire_core.specs.Queues.{starts}
use Rattle.system_core.specs.Builds.{IsBuilt}
use Rattle.system_core.proofs.Built.{layout_queues, layout_pools, are_seated, are_pooled, is_built}
use Rattle.system_core.proofs.Together.{both_ok}
use Rattle.system_core.proofs.system.System.build.Goals as goal

pub net_crew-requires-clause-rows : goal.net_crew-requires-clause-rows
net_crew-requires-clause-rows c = c.deref.ensures.value ∙ (c.in_ok-rows.ensures ∙ (c.queues.ensures ∙ layout_queues c.args.plan.now c.args.layout.now c.requires.layout))

pub serial_crew-requires-clause-rows : goal.serial_crew-requires-clause-rows
serial_crew-requires-clause-rows c = c.deref-2.ensures.value ∙ (c.in_ok-rows.ensures ∙ (c.queues.ensures ∙ layout_queues c.args.plan.now c.args.layout.now c.requires.layout))

pub blk_crew-requires-clause-rows : goal.blk_crew-requires-clause-rows
blk_crew-requires-clause-rows c = c.deref-3.ensures.value ∙ (c.in_ok-rows.ensures ∙ (c.queues.ensures ∙ layout_queues c.args.plan.now c.args.layout.now c.requires.layout))

pub start-requires-clause-pooled : goal.start-requires-clause-pooled
start-requires-clause-pooled c =
    are_pooled c.args.plan.now c.requires.valid c.args.trace.now c.requires.trace c.in_ok-actors.actors.items c.in_ok-actors.ensures c.in_ok-rows.rows.items
    (c.in_ok-rows.ensures ∙ (c.queues.ensures ∙ layout_queues c.args.plan.now c.args.layout.now c.requires.layout)) c.in_ok-pools.pools.items (c.in_ok-pools.ensures ∙ (c.pools.ensures ∙ layout_pools c.args.plan.now c.args.layout.now c.requires.layout))

pub start-requires-clause-seated : goal.start-requires-clause-seated
start-requires-clause-seated c =
    are_seated c.args.plan.now c.requires.valid c.args.trace.now c.requires.trace c.in_ok-actors.actors.items c.in_ok-actors.ensures c.in_ok-rows.rows.items
    (c.in_ok-rows.ensures ∙ (c.queues.ensures ∙ layout_queues c.args.plan.now c.args.layout.now c.requires.layout))

pub returns-clause-built : goal.returns-clause-built
returns-clause-built c =
    let built = is_built c.args.plan.now c.requires.valid c.args.trace.now c.requires.trace c.in_ok-actors.actors.items c.in_ok-actors.ensures c.in_ok-rows.rows.items
    (c.in_ok-rows.ensures ∙ (c.queues.ensures ∙ layout_queues c.args.plan.now c.args.layout.now c.requires.layout)) c.in_ok-pools.pools.items (c.in_ok-pools.ensures ∙ (c.pools.ensures ∙ layout_pools c.args.plan.now c.args.layout.now c.requires.layout)) (starts c.in_ok-rows.rows.items) c.in_ok-net.net c.in_ok-serial.serial c.in_ok-blk.blk c.in_ok-net.ensures c.in_ok-serial.ensures c.in_ok-blk.ensures in
    IfOk-weaker c.start.result _ _ (λ s e. subst (IsBuilt c.args.plan.now c.args.trace.now) (sym e) built) c.start.ensures.state

pub returns-clause-system : goal.returns-clause-system
returns-clause-system c = both_ok c.start.result _ _ _ (λ s built of. of c.args.plan.now c.args.trace.now c.requires.valid c.requires.trace built.cast) (returns-clause-built c) c.start.ensures.of_plan
