-- The status codes.
use Rattle.std.specs.Prelude.{ℕ}
use Rattle.decision_core.specs.declared.status.Status.{Status}
use Rattle.decision_core.specs.declared.status.Status.TheVariants as Ended

-- the number with which the program ends
abbrev pub code_of : Status → ℕ
code_of Ended.Ok = 0
code_of (Ended.Usage k) = 2
code_of (Ended.Refused n) = 3
code_of (Ended.BadTrace l) = 4
code_of Ended.ReadFault = 5
code_of Ended.WriteFault = 6
code_of (Ended.Spent s) = 7
code_of Ended.TooLong = 8
code_of (Ended.Memory memory) = 9
