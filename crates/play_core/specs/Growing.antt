-- What is said of a cast in the names that are told of pages, and that it stays said as more are
-- told.
use Rattle.std.specs.Prelude.{◌≡◌, ℕ, Some, List, slice_get}
use Rattle.wire_core.specs.declared.names.QueueRow.{QueueRow}
use Rattle.wire_core.specs.declared.names.Entry.{Entry}
use Rattle.wire_core.specs.Journal.{History, Hostiles}
use Rattle.play_core.specs.Moved.{Moved, moved}
use Rattle.play_core.specs.Manners.{Manners}
use Rattle.play_core.specs.Names.{Names, GrowsTo}
use Rattle.play_core.specs.Runs.{runnable}
use Rattle.play_core.specs.Sheets.{Sheet, RowsHold, needful}

-- a sheet in the names of what a queue's entries carry says the same as more names are told, where
-- those that it asks of what passed are told already
pub record Stays {P : Type 0} (sheet : Names → P → Sheet) (within : Names → P → Moved → Type 0) :
    Type 0 where
  pub row : (names grown : Names) → GrowsTo names grown → (p : P) (m : Moved) → within names p m
      → (sheet names p).row m → (sheet grown p).row m
  pub back : (names grown : Names) → GrowsTo names grown → (p : P) (m : Moved) → within names p m
      → (sheet grown p).row m → (sheet names p).row m
  pub wants : (names grown : Names) → GrowsTo names grown → (p : P) (m : Moved)
      → within names p m → (sheet names p).wants m ≡ (sheet grown p).wants m
  pub dues : (names grown : Names) → GrowsTo names grown → (p : P) (m : Moved)
      → within names p m → (sheet names p).dues m ≡ (sheet grown p).dues m

-- the names that the sheets of a cast ask of what passed by a journal are told
abbrev pub AllWithin : {P : Type 0} → (Names → P → Moved → Type 0) → Names → History → List P
    → List Entry → Type 0
AllWithin {P} within names history cast journal =
    (k : ℕ) (p : P) → slice_get cast k ≡ Some p → within names p (moved history journal)

-- the actors that are runnable after a journal, by these names
abbrev pub runs_in : {P : Type 0} → (Names → P → Sheet) → Names → Manners → History
    → List QueueRow → List P → List Entry → List ℕ
runs_in sheet names manner history rows cast journal =
    runnable manner history rows (needful (sheet names) cast (moved history journal)) journal

-- the rows of the actors that aren't hostile hold after a journal, by these names
abbrev pub RowsStandIn : {P : Type 0} → (Names → P → Sheet) → Names → Hostiles → History → List P
    → List Entry → Type 0
RowsStandIn sheet names hostile history cast journal =
    RowsHold (sheet names) hostile cast (moved history journal)
