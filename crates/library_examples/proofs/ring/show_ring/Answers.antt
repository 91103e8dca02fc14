use Rattle.std.proofs.Common.{arith, refl}
use Rattle.library_examples.proofs.ring.show_ring.Goals as goal

pub open-requires : goal.open-requires
open-requires c = (2, omega arith, refl)
