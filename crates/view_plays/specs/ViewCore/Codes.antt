-- The status codes.
use Rattle.std.specs.Prelude.{ℕ}
use Rattle.view_plays.specs.declared.view_core.ended.Ended.{Ended}
use Rattle.view_plays.specs.declared.view_core.ended.Ended.TheVariants as End

-- the number with which the program ends
abbrev pub code_of : Ended → ℕ
code_of End.Ok = 0
code_of (End.Usage k) = 2
code_of (End.Refused rule) = 3
code_of End.ReadFault = 5
code_of End.WriteFault = 6
code_of End.TooLong = 8
code_of (End.Memory memory) = 9
code_of End.NoIdentifier = 10
