use Rattle.std.proofs.Common.{arith, refl}
use Rattle.base_rows.proofs.rows.one_or_two.Goals as goal

pub returns-then-two : goal.returns-then-two
returns-then-two c = (1, omega arith, refl)

pub returns-else-two : goal.returns-else-two
returns-else-two c = (0, omega arith, refl)
