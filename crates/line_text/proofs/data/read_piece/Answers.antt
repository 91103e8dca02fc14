use Rattle.line_text.proofs.DataPieces.{piece_of_digits, piece_of_repeated}
use Rattle.line_text.proofs.data.read_piece.Goals as goal

pub returns-in-None : goal.returns-in-None
returns-in-None c = rw (piece_of_digits _ c.in-None.ensures.parts) c.read_digits.ensures

pub returns-in-Some : goal.returns-in-Some
returns-in-Some c = rw (piece_of_repeated c.args.piece.now c.in-Some.count.now c.in-Some.digits.now c.in-Some.ensures.parts) c.read_repeated.ensures
