use Rattle.std.proofs.Common.{◌≡◌, ◌≤◌, length}
use Rattle.line_text.specs.Texts.{parts_of}
use Rattle.line_text.specs.Data.{all_pieces, data_of}
use Rattle.line_text.proofs.DataPieces.{with_rest}
use Rattle.line_text.proofs.data.read_data.Given as goal

abbrev pub invariant-loop-piece : goal.invariant-loop-piece
invariant-loop-piece l = (length l.data ≤ l.most) × (with_rest l.data (all_pieces (parts_of 44 l.rest)) ≡ data_of l.word)

abbrev pub decreases-loop-piece : goal.decreases-loop-piece
decreases-loop-piece l = length l.rest
