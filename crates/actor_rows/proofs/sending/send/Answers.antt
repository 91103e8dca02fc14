use Rattle.actor_rows.proofs.NetTx.Fitting.{after_send}
use Rattle.actor_rows.proofs.sending.send.Goals as goal

pub settle-requires : goal.settle-requires
settle-requires c = after_send _ _ c.args.virt.now c.requires c.put_in-given.ensures
