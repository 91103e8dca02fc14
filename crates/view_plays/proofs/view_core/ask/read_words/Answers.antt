use Rattle.std.proofs.Common.{refl}
use Rattle.command_words.specs.Words.{texts_of}
use Rattle.view_plays.proofs.ViewCore.WordLemmas.{bad-first}
use Rattle.view_plays.proofs.view_core.ask.read_words.Goals as goal

pub returns-in-None-clause-bad : goal.returns-in-None-clause-bad
returns-in-None-clause-bad c = bad-first (texts_of c.args.words.now) (c.in-None.ensures.none refl)
