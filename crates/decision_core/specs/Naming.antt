-- Which commands name a description.
use Rattle.command_words.specs.declared.command.Command.{Command}
use Rattle.command_words.specs.declared.command.Command.TheVariants as Do

-- the command names a description
abbrev pub HasDescription : Command → Type 0
HasDescription Do.Check = Unit {0}
HasDescription Do.Layout = Unit {0}
HasDescription (Do.Play options) = Unit {0}
HasDescription (Do.Run steps) = Unit {0}
HasDescription (Do.Gen n) = ⊥
HasDescription (Do.I2c schedule) = ⊥
HasDescription (Do.Switch schedule) = ⊥
