use Rattle.std.proofs.Common.{◌∙◌}
use Rattle.buffer_kit.proofs.VirtTurns.{all_settled}
use Rattle.buffer_kit.proofs.virt_ends.VirtEnds.settled.Goals as goal

pub returns : goal.returns
returns g c = c.are_all.ensures ∙ all_settled c.args.self.now c.args.need c.args.owed c.settled-input.result c.settled-output.result c.settled-from_clients.result c.settled-to_clients.result (g.N.Needs.need c.args.needs.now) (g.L.Needs.need c.args.loads.now) c.settled-input.ensures c.settled-output.ensures c.settled-from_clients.ensures c.settled-to_clients.ensures
