use Rattle.line_text.proofs.DataPieces.{no_third_part}
use Rattle.line_text.proofs.data.read_repeated.Goals as goal

pub returns-in-Some : goal.returns-in-Some
returns-in-Some c = λ bytes is. absurd (no_third_part c.args.count.now c.args.digits.now c.in-Some.field-0.0.now c.in-Some.field-0.1.now c.in-Some.ensures.parts bytes is)
