use Rattle.std.proofs.Common.{subst}
use Rattle.wire_core.specs.Ends.{role_of}
use Rattle.net_virt_tx.specs.declared.NetVirtTx.{NetVirtTx}
use Rattle.net_virt_tx.specs.Sending.{TxEnd}
use Rattle.net_virt_tx.proofs.Rounds.{tx_turned}
use Rattle.net_virt_tx.proofs.NetVirtTx.step.Goals as goal

pub returns-clause-turned : goal.returns-clause-turned
returns-clause-turned g c = tx_turned c.args.self.now c.choose-at.new.self c.step_at.new.self c.step_at.result c.choose-at.result c.choose-at.ensures.place c.choose-at.ensures.there c.choose-at.ensures.after c.step_at.ensures.posted c.step_at.ensures.same c.step_at.ensures.turn c.step_at.ensures.still

pub returns-clause-own : goal.returns-clause-own
returns-clause-own g c = subst (λ (v : NetVirtTx). TxEnd v (role_of c.step_at.result.op) c.step_at.result.queue.0) c.choose-at.ensures.after c.step_at.ensures.own
