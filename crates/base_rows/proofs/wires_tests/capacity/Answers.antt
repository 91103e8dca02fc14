use Rattle.std.proofs.Common.{arith, refl}
use Rattle.base_rows.proofs.wires_tests.capacity.Goals as goal

pub returns-in-0 : goal.returns-in-0
returns-in-0 c = (0, omega arith, refl)

pub returns-in-1 : goal.returns-in-1
returns-in-1 c = (1, omega arith, refl)

pub returns-in-2 : goal.returns-in-2
returns-in-2 c = (4, omega arith, refl)

pub returns-in_default : goal.returns-in_default
returns-in_default c = (15, omega arith, refl)
