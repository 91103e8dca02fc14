use Rattle.std.proofs.lemmas.Result.{err_from_is_err_and}
use Rattle.command_words.specs.Words.{texts_of}
use Rattle.command_words.proofs.SoFar.{schedule-is, bad-schedule}
use Rattle.command_words.proofs.words.read_schedule.Goals as goal

pub returns-in_err-chosen-clause-err : goal.returns-in_err-chosen-clause-err
returns-in_err-chosen-clause-err c =
    let p = err_from_is_err_and c.from_residual.result c.from_residual.ensures.1 in
    rw (p.1, p.2) (bad-schedule (texts_of c.args.words.now) 2 _ (rw c.without_journal.ensures at c.in_err-chosen.ensures.err))

pub returns-clause-ok : goal.returns-clause-ok
returns-clause-ok c = rw c.schedule.ensures (schedule-is _ _ (rw c.without_journal.ensures at c.in_ok-chosen.ensures.ok))
