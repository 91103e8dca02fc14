use Rattle.std.proofs.Common.{ap, ◌∙◌, slice_get}
use Rattle.wire_core.specs.declared.names.Op.TheVariants as Do
use Rattle.wire_core.specs.Deeds.{plain_deed}
use Rattle.wire_core.specs.Ends.{Producer}
use Rattle.seat_wires.specs.Places.{end_or}
use Rattle.seat_wires.specs.Places.Are.{SeatsAre}
use Rattle.seat_wires.proofs.Seating.{made_by, there_of}
use Rattle.seat_wires.proofs.seats.Seats.store_by_producer.Goals as goal

pub returns : goal.returns
returns c = made_by Producer _ _ (plain_deed c.args.q (Do.Store c.args.word c.args.value)) c.in-Some.end c.store.new.self tt c.self.view_is (there_of c.self.inside.producers.items c.args.q.0 c.index_mut.result.now c.in-Some.end (ap (λ (s : SeatsAre). (end_or (slice_get s.producers c.args.q.0)).owned) c.self.view_is ∙ c.requires.owned) c.index_mut.ensures.value c.in-Some.is) c.store.ensures.own c.store.ensures.did (λ e. cc)
