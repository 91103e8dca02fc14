use Rattle.actor_rows.proofs.NetTx.Fitting.{after_step}
use Rattle.actor_rows.proofs.alone.NetVirtTxAlone.call.Goals as goal

pub returns : goal.returns
returns c = after_step _ _ c.args.self.now c.step.new.self c.step.result c.requires c.step.ensures.fits c.step.ensures.stepped c.step.ensures.same
