use Rattle.std.proofs.lemmas.Result.{err_from_is_err_and}
use Rattle.command_words.specs.Words.{texts_of}
use Rattle.command_words.proofs.SoFar.{options-are, bad-options}
use Rattle.command_words.proofs.words.read_options.Goals as goal

pub returns-in_err-chosen-clause-err : goal.returns-in_err-chosen-clause-err
returns-in_err-chosen-clause-err c =
    let p = err_from_is_err_and c.from_residual.result c.from_residual.ensures.1 in
    rw (p.1, p.2) (bad-options (texts_of c.args.words.now) 3 _ (rw c.nothing.ensures at c.in_err-chosen.ensures.err))

pub returns-clause-ok : goal.returns-clause-ok
returns-clause-ok c = rw c.options.ensures (options-are _ _ (rw c.nothing.ensures at c.in_ok-chosen.ensures.ok))
