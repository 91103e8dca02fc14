use Rattle.actor_rows.proofs.NetTx.Fitting.{after_get}
use Rattle.actor_rows.proofs.sending.sent.Goals as goal

pub settle-requires : goal.settle-requires
settle-requires c = after_get _ _ c.args.virt.now 0 (λ e. absurd cc) (λ e. absurd cc) c.requires c.get-got.ensures
