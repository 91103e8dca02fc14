use Rattle.std.proofs.Common.{arith}
use Rattle.line_text.specs.Texts.{parts_of}
use Rattle.line_text.specs.Data.{all_pieces, data_of}
use Rattle.line_text.proofs.DataPieces.{with_rest_none}
use Rattle.line_text.proofs.data.read_data.Goals as goal

pub loop-piece-init : goal.loop-piece-init
unfolding data_of
loop-piece-init c = rw c.new-data.ensures (omega arith, with_rest_none (all_pieces (parts_of 44 c.args.word.now)))
