-- What an actor moved, queue by queue, and what one step of it adds: the words in which each
-- actor's contract speaks.
use Rattle.std.specs.Prelude.{◌==◌, ℕ, Bool, true, false, Option, List, [], ◌∷◌, ◌++◌}
use Rattle.cargo_core.specs.declared.item.Body.{Body}
use Rattle.wire_core.specs.declared.names.Event.{Event}
use Rattle.wire_core.specs.declared.names.Op.{Op}
use Rattle.wire_core.specs.declared.names.Op.TheVariants as Do
use Rattle.wire_core.specs.Deeds.{Deed, Cargo, cargo_of}

-- for each queue, the entries that were put there, or taken from there
abbrev pub Lists : Type 0
Lists = ℕ → List Cargo

-- some entries, where a condition holds
abbrev pub if_there : Bool → List Cargo → List Cargo
if_there true c = c
if_there false c = []

-- the entry of a take
abbrev pub if_taken : Op → List Cargo → List Cargo
if_taken Do.Take c = c
if_taken Do.Put c = []
if_taken Do.See c = []
if_taken Do.Room c = []
if_taken (Do.Ask s) c = []
if_taken (Do.Waive s) c = []
if_taken (Do.Wake s) c = []
if_taken (Do.Wanted s) c = []
if_taken (Do.Settle s) c = []
if_taken (Do.Ring s) c = []
if_taken (Do.Store w v) c = []

-- the entry of a put
abbrev pub if_put : Op → List Cargo → List Cargo
if_put Do.Put c = c
if_put Do.Take c = []
if_put Do.See c = []
if_put Do.Room c = []
if_put (Do.Ask s) c = []
if_put (Do.Waive s) c = []
if_put (Do.Wake s) c = []
if_put (Do.Wanted s) c = []
if_put (Do.Settle s) c = []
if_put (Do.Ring s) c = []
if_put (Do.Store w v) c = []

-- what a deed takes from each queue
abbrev pub taken_by : Deed → Lists
taken_by d n = if_there (d.event.queue.0 == n) (if_taken d.event.op (cargo_of d))

-- what a deed puts at each queue
abbrev pub put_by : Deed → Lists
put_by d n = if_there (d.event.queue.0 == n) (if_put d.event.op (cargo_of d))

-- lists with what was added to each
abbrev pub with : Lists → Lists → Lists
with old more n = old n ++ more n

-- what passed: for each queue the entries that were taken there and those that were put there, and
-- the calls of all actors, one after another
pub record Passed : Type 0 where
  pub taken : Lists
  pub sent : Lists
  pub calls : List Event

-- nothing passed yet
abbrev pub nothing_passed : Passed
nothing_passed = record { taken = λ n. []; sent = λ n. []; calls = [] }

-- with what this deed took and put, and its call
abbrev pub with_deed : Passed → Deed → Passed
with_deed p d = record {
  taken = with p.taken (taken_by d);
  sent = with p.sent (put_by d);
  calls = p.calls ++ d.event ∷ [];
}

-- one step of an actor that stands for what passed at its ends:
-- one call happened, and whatever it stood for, it now stands for that with this event's entry
-- added
pub record Stepped {A W : Type 0} (StandsFor : A → Passed → Type 0) (did : W → Deed → W → Type 0)
    (wires wires' : W) (old new : A) (event : Event) : Type 0 where
  pub body : Option Body
  pub happened : did wires (record { event = event; body = body }) wires'
  pub kept : (p : Passed) → StandsFor old p
      → StandsFor new (with_deed p (record { event = event; body = body }))
