use Rattle.cast_law.proofs.PoolLines.Counting.{lines_are}
use Rattle.cast_law.proofs.pool_lines.lines_law.Goals as goal

pub returns : goal.returns
returns c = λ naming lender hostile history rows sizes holders start journal passed world x pools sized. lines_are naming lender hostile history rows sizes holders start journal passed world x 0 pools sized
