use Rattle.std.proofs.Common.{List, refl, subst}
use Rattle.std.proofs.lemmas.Option.{slice_get_read}
use Rattle.i2c_text.specs.declared.bus.BusAsk.{BusAsk}
use Rattle.bus_law.specs.I2cActors.Starting.{IsFresh}
use Rattle.bus_law.proofs.I2cActors.Fresh.{one_fresh}
use Rattle.bus_law.proofs.i2c_actors.cast.clients.Goals as goal

pub loop-place-preserved : goal.loop-place-preserved
loop-place-preserved c =
    let k = c.loop-place.place in
    let script = c.index-asks-place.result in
    one_fresh k c.as_slice-asks.result.now c.loop-place.members.items c.push.new.self.items script c.in_ok-client.client c.loop-place.invariant
    (slice_get_read c.as_slice-asks.result.now _ k script refl c.loop-place-test.true c.index-asks-place.is)
    (subst (λ (asks : List BusAsk). IsFresh k asks c.in_ok-client.client) c.as_slice.ensures c.in_ok-client.ensures)
    c.in_ok-push.ensures.items
