use Rattle.std.proofs.Common.{refl}
use Rattle.cargo_core.specs.declared.act.Act.TheVariants as Acts
use Rattle.client_programs.proofs.RogueLemmas.Stepping.{next_at}
use Rattle.client_programs.proofs.rogue.Rogue.step.Goals as goal

pub take-requires-clause-at : goal.take-requires-clause-at
take-requires-clause-at g c = next_at c.args.self.now c.upcoming-place.result (Acts.Take c.in-Take-true.end) c.index.result.now c.upcoming-place.ensures.next c.requires.going (c.upcoming-place.ensures.within c.requires.fits.is.place) c.index.ensures c.in-Take-true.is-0

pub see-requires-clause-at : goal.see-requires-clause-at
see-requires-clause-at g c = next_at c.args.self.now c.upcoming-place.result (Acts.Take c.in-Take-false.end) c.index.result.now c.upcoming-place.ensures.next c.requires.going (c.upcoming-place.ensures.within c.requires.fits.is.place) c.index.ensures c.in-Take-false.is-0

pub put-requires-clause-at : goal.put-requires-clause-at
put-requires-clause-at g c = next_at c.args.self.now c.upcoming-place.result (Acts.Put c.in-Put-true.end c.in-Put-true.addr c.in-Put-true.length) c.index.result.now c.upcoming-place.ensures.next c.requires.going (c.upcoming-place.ensures.within c.requires.fits.is.place) c.index.ensures c.in-Put-true.is-0

pub give-requires-clause-at : goal.give-requires-clause-at
give-requires-clause-at g c = next_at c.args.self.now c.upcoming-place.result (Acts.Give c.in-Give-true.end c.in-Give-true.at c.in-Give-true.addr c.in-Give-true.length) c.index.result.now c.upcoming-place.ensures.next c.requires.going (c.upcoming-place.ensures.within c.requires.fits.is.place) c.index.ensures c.in-Give-true.is-0

pub store-requires-clause-at : goal.store-requires-clause-at
store-requires-clause-at g c = next_at c.args.self.now c.upcoming-place.result (Acts.Store c.in-Store-default.end c.in-Store-default.word c.in-Store-default.value) c.index.result.now c.upcoming-place.ensures.next c.requires.going (c.upcoming-place.ensures.within c.requires.fits.is.place) c.index.ensures c.in-Store-default.is-0

pub room-requires-clause-at : goal.room-requires-clause-at
room-requires-clause-at g c = record {
  act = c.index.result.now;
  at = next_at c.args.self.now c.upcoming-place.result c.index.result.now c.index.result.now c.upcoming-place.ensures.next c.requires.going (c.upcoming-place.ensures.within c.requires.fits.is.place) c.index.ensures refl;
  puts = rw c.in-Put-false.is-0 refl;
}

pub room-requires-in-Give-false-clause-at : goal.room-requires-in-Give-false-clause-at
room-requires-in-Give-false-clause-at g c = record {
  act = c.index.result.now;
  at = next_at c.args.self.now c.upcoming-place.result c.index.result.now c.index.result.now c.upcoming-place.ensures.next c.requires.going (c.upcoming-place.ensures.within c.requires.fits.is.place) c.index.ensures refl;
  puts = rw c.in-Give-false.is-0 refl;
}
