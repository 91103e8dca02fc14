-- Where the bound holds: it counts what the queues show, and a hostile end may show anything.
use Rattle.std.specs.Prelude.{◌≡◌, ℕ, true, Some, List, slice_get}
use Rattle.wire_core.specs.declared.names.QueueRow.{QueueRow}
use Rattle.wire_core.specs.Journal.{Hostiles, is_calm}

-- no queue has a hostile end
abbrev pub AreCalm : Hostiles → List QueueRow → Type 0
AreCalm hostile rows =
    (n : ℕ) (row : QueueRow) → slice_get rows n ≡ Some row → is_calm hostile row ≡ true
