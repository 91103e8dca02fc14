use Rattle.std.proofs.Common.{rules, ap}
use Rattle.spsc_queue.specs.Steps.{Seated}
use Rattle.spsc_queue.proofs.Views.{splits}
use Rattle.spsc_queue.proofs.Opening.{capacity_fits}
use Rattle.spsc_queue.proofs.ring.two_ends.Goals as goal

pub split_seat-other-requires : goal.split_seat-other-requires
split_seat-other-requires c = (search rules, search rules, λ s r at. splits c.args.table.shared.key.wild c.args.table.shared.key.kind s r c.args.seat.id c.args.seat.me.0 at (ap (λ (m : Seated). m.0.produces) c.requires.seat.1) (ap (λ (m : Seated). m.0.consumes) c.requires.seat.1))

pub invariant_of-result : goal.invariant_of-result
invariant_of-result c = let fits = capacity_fits c.args.capacity c.requires.capacity in record { power = c.requires.capacity; words = c.requires.table.0; slots = c.requires.table.1; some_place = fits.0; few = fits.1; divides = fits.2 }
