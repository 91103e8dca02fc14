-- Which queue an item is for, and the numbers of codes and statuses.
use Rattle.std.specs.Prelude.{ℕ}
use Rattle.cargo_core.specs.declared.item.Item.{Item}
use Rattle.cargo_core.specs.declared.item.Item.TheVariants as Carried
use Rattle.cargo_core.specs.declared.item.QueueKind.{QueueKind}
use Rattle.cargo_core.specs.declared.item.QueueKind.TheVariants as Kind
use Rattle.cargo_core.specs.declared.item.Code.{Code}
use Rattle.cargo_core.specs.declared.item.Code.TheVariants as Asked
use Rattle.cargo_core.specs.declared.item.BlkStatus.{BlkStatus}
use Rattle.cargo_core.specs.declared.item.BlkStatus.TheVariants as Answered

-- the kind of queue that an item is for
abbrev pub kind_of : Item → QueueKind
kind_of (Carried.Net d) = Kind.Net
kind_of (Carried.Byte b) = Kind.Byte
kind_of (Carried.Req r) = Kind.Req
kind_of (Carried.Resp r) = Kind.Resp

-- the number of a request's code
abbrev pub code_number : Code → ℕ
code_number Asked.Read = 0
code_number Asked.Write = 1
code_number Asked.Flush = 2
code_number Asked.Barrier = 3

-- the number of a response's status
abbrev pub status_number : BlkStatus → ℕ
status_number Answered.Ok = 0
status_number Answered.Invalid = 1
status_number Answered.NoDevice = 2
