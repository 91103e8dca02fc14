use Rattle.export_text.specs.ConfigText.Config.{actor_text}
use Rattle.export_text.proofs.ConfigText.LineLemmas.{numbered-step}
use Rattle.export_text.proofs.config_text.row.push_actors.Goals as goal

pub loop-at-preserved : goal.loop-at-preserved
loop-at-preserved c =
    numbered-step actor_text c.args.actors.now c.loop-at.at c.index-actors-at.result _ _ _ c.loop-at-test.true c.index-actors-at.is c.in_ok-push_actor.ensures c.loop-at.invariant
