use Rattle.std.proofs.Common.{◌≡◌, drop}
use Rattle.command_words.specs.PlayWords.Words.{number_of}
use Rattle.command_words.proofs.play_words.options.number_of.Given as goal

-- none of those before has the name
abbrev pub invariant-loop-setting : goal.invariant-loop-setting
invariant-loop-setting l = number_of l.name (drop l.setting-index l.settings) ≡ number_of l.name l.settings
