use Rattle.std.proofs.Common.{arith, refl}
use Rattle.library_examples.proofs.seats.show_seats.Goals as goal

pub open-requires : goal.open-requires
open-requires c = (2, omega arith, refl)

pub open-requires-2 : goal.open-requires-2
open-requires-2 c = (2, omega arith, refl)
