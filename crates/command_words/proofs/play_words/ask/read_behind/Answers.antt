use Rattle.command_words.proofs.Names.{bad-names, ok-asked, err-asked, three-words}
use Rattle.command_words.specs.PlayWords.Reading.{OptionsAre}
use Rattle.command_words.proofs.PlayWords.WordLemmas.{no-options, map-ok}
use Rattle.command_words.proofs.play_words.ask.read_behind.Goals as goal

pub returns-in-Err-clause-err : goal.returns-in-Err-clause-err
returns-in-Err-clause-err c = bad-names OptionsAre no-options _ _ c.in-Err.ensures.err

pub read_options-requires : goal.read_options-requires
read_options-requires c = three-words c.args.words.now c.in_default.ensures.ok.1

pub returns-clause-ok : goal.returns-clause-ok
returns-clause-ok c = map-ok c.read_options.result _ _ (λ read h. ok-asked OptionsAre no-options _ c.in_default.ensures.ok read h) c.read_options.ensures.ok

pub returns-clause-err : goal.returns-clause-err
returns-clause-err c = map-ok c.read_options.result _ _ (λ read h. err-asked OptionsAre no-options _ c.in_default.ensures.ok read h) c.read_options.ensures.err
