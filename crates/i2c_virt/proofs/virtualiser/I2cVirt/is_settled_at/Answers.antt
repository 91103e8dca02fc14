use Rattle.std.proofs.Common.{refl}
use Rattle.std.proofs.lemmas.Option.{slice_get_read}
use Rattle.i2c_virt.proofs.Lowest.{from_there, to_there, from_settled, to_settled}
use Rattle.i2c_virt.proofs.virtualiser.I2cVirt.is_settled_at.Goals as goal

pub returns-in-FromClient : goal.returns-in-FromClient
returns-in-FromClient c = from_settled c.args.self.now c.args.at c.in-FromClient.place c.index-end.result.now c.settled-in-FromClient.result c.wants.result c.in-FromClient.is (slice_get_read c.args.self.now.ends.from_clients.ends.items _ c.in-FromClient.place c.index-end.result.now refl (from_there c.args.self.now.ends c.args.at c.in-FromClient.place c.in-FromClient.is c.requires) c.index-end.ensures) c.wants.ensures c.settled-in-FromClient.ensures

pub returns-in-ToClient : goal.returns-in-ToClient
returns-in-ToClient c = to_settled c.args.self.now c.args.at c.in-ToClient.place c.index-end-in-ToClient.result.now c.settled-in-ToClient.result c.gives.result c.in-ToClient.is (slice_get_read c.args.self.now.ends.to_clients.ends.items _ c.in-ToClient.place c.index-end-in-ToClient.result.now refl (to_there c.args.self.now.ends c.args.at c.in-ToClient.place c.in-ToClient.is c.requires) c.index-end-in-ToClient.ensures) c.gives.ensures c.settled-in-ToClient.ensures
