use Rattle.std.proofs.lemmas.Result.{err_from_is_err_and}
use Rattle.command_words.specs.Reading.{OptionsAre}
use Rattle.command_words.proofs.Names.{bad-names, ok-asked, err-asked, three-words, no-options}
use Rattle.command_words.proofs.words.read_play.Goals as goal

pub returns-in_err-read_names-clause-err : goal.returns-in_err-read_names-clause-err
returns-in_err-read_names-clause-err c =
    let p = err_from_is_err_and c.from_residual.result c.from_residual.ensures.1 in
    rw (p.1, p.2) (bad-names OptionsAre no-options _ _ c.in_err-read_names.ensures.err)

pub read_options-requires : goal.read_options-requires
read_options-requires c = three-words c.args.words.now c.in_ok-read_names.ensures.ok.1

pub returns-clause-ok : goal.returns-clause-ok
returns-clause-ok c = ok-asked OptionsAre no-options _ c.in_ok-read_names.ensures.ok _ c.read_options.ensures.ok

pub returns-clause-err : goal.returns-clause-err
returns-clause-err c = err-asked OptionsAre no-options _ c.in_ok-read_names.ensures.ok _ c.read_options.ensures.err
