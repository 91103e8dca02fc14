use Rattle.std.proofs.Common.{refl}
use Rattle.std.proofs.lemmas.Option.{slice_get_read}
use Rattle.i2c_virt.proofs.Lowest.{from_there, to_there, from_queue, to_queue}
use Rattle.i2c_virt.proofs.virtualiser.I2cVirt.queue_at.Goals as goal

pub returns-in-FromClient : goal.returns-in-FromClient
returns-in-FromClient c = from_queue c.args.self.now c.args.at c.in-FromClient.place c.index-end.result.now c.in-FromClient.is (slice_get_read c.args.self.now.ends.from_clients.ends.items _ c.in-FromClient.place c.index-end.result.now refl (from_there c.args.self.now.ends c.args.at c.in-FromClient.place c.in-FromClient.is c.requires) c.index-end.ensures)

pub returns-in-ToClient : goal.returns-in-ToClient
returns-in-ToClient c = to_queue c.args.self.now c.args.at c.in-ToClient.place c.index-end-in-ToClient.result.now c.in-ToClient.is (slice_get_read c.args.self.now.ends.to_clients.ends.items _ c.in-ToClient.place c.index-end-in-ToClient.result.now refl (to_there c.args.self.now.ends c.args.at c.in-ToClient.place c.in-ToClient.is c.requires) c.index-end-in-ToClient.ensures)
