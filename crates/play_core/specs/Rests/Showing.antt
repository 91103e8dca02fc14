-- Where the lists for which actors stand, and the queues as they are, are what history and journal
-- show.
use Rattle.std.specs.Prelude.{◌≡◌, ◌<◌, ℕ, List, length}
use Rattle.wire_core.specs.declared.names.Entry.{Entry}
use Rattle.wire_core.specs.Ends.{Role}
use Rattle.wire_core.specs.Fates.{noes_at}
use Rattle.wire_core.specs.Lists.{Passed}
use Rattle.wire_core.specs.Queues.{Queue, queue_at, items_of}
use Rattle.wire_core.specs.Journal.{History, track}
use Rattle.play_core.specs.Moved.{Moved}

-- entries, whatever their bodies are, have these items; and by the calls each end looked in vain as
-- often
pub record HaveItems (passed : Passed) (m : Moved) : Type 0 where
  pub taken : (n : ℕ) → items_of (passed.taken n) ≡ m.taken n
  pub sent : (n : ℕ) → items_of (passed.sent n) ≡ m.sent n
  pub noes : (r : Role) (n : ℕ) → noes_at r n passed.calls ≡ m.noes r n

-- each queue has the bells that history and journal show
abbrev pub HaveBells : List Queue → History → List Entry → Type 0
HaveBells world history journal = (n : ℕ) → n < length world
    → (queue_at world n).bells ≡ (track history n journal).bells
