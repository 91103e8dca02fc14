use Rattle.std.proofs.Common.{length, arith}
use Rattle.std.proofs.lemmas.List.{drop_all}
use Rattle.line_text.proofs.Pieces.{lines_more, lines_last}
use Rattle.line_text.proofs.text.next_line.Goals as goal

pub returns-in-Some-clause-lines : goal.returns-in-Some-clause-lines
returns-in-Some-clause-lines c = lines_more c.args.text.now c.in-Some.line.now c.in-Some.rest.now c.in-Some.ensures.parts

pub returns-in-None-clause-lines : goal.returns-in-None-clause-lines
returns-in-None-clause-lines c =
    rw (c.split_at.ensures.back, drop_all (length c.args.text.now) c.args.text.now (omega arith)) (lines_last c.args.text.now c.in-None.ensures.parts (omega arith))
