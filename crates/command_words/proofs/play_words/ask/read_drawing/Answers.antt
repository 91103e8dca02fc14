use Rattle.std.proofs.Common.{arith}
use Rattle.command_words.specs.Words.{texts_of}
use Rattle.command_words.specs.PlayWords.Words.{IsBadWord}
use Rattle.command_words.proofs.PlayWords.CountLemmas.{bad-early}
use Rattle.command_words.proofs.play_words.ask.read_drawing.Goals as goal

pub overflow_cast-result : goal.overflow_cast-result
overflow_cast-result c =
    let bad : IsBadWord (texts_of c.args.words.now) c.in-Err.place = rw c.in-Err.is at c.in_ok-drawing.ensures.err in
    let early = bad-early _ _ bad in
    omega arith
