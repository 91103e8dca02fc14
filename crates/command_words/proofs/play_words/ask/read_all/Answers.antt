use Rattle.command_words.proofs.PlayWords.WordLemmas.{bad-asked}
use Rattle.command_words.proofs.play_words.ask.read_all.Goals as goal

pub returns-in-Err-2-clause-err : goal.returns-in-Err-2-clause-err
returns-in-Err-2-clause-err c = bad-asked _ c.in-Ok.page c.in-Ok.ensures.ok _ (rw c.in-Err-2.is at c.in_ok-settings.ensures.err)
