-- Lists of ends: their queues, what they must fit, and which of them are needed or loaded.
use Rattle.std.specs.Prelude.{◌≡◌, ◌+◌, ℕ, Bool, false, nat_eq, Option, Some, None, List, [], ◌∷◌}
use Rattle.std.specs.Prelude.{map, slice_get}
use Rattle.wire_core.specs.declared.names.QueueId.{QueueId}
use Rattle.wire_core.specs.Ends.{Role, Consumer, Producer, End}
use Rattle.turn_kit.specs.Table.{Agrees}
use Rattle.turn_kit.specs.Turns.{Post}
use Rattle.turn_kit.specs.Posts.{intake_post, outlet_post}
use Rattle.turn_kit.specs.declared.ends.Intake.{Intake}
use Rattle.turn_kit.specs.declared.ends.Outlet.{Outlet}
use Rattle.turn_kit.specs.declared.intakes.Intakes.{Intakes}
use Rattle.turn_kit.specs.declared.outlets.Outlets.{Outlets}

-- no two of these queues are one
abbrev pub AreApart : List QueueId → Type 0
AreApart qs =
    (k j : ℕ) (q q' : QueueId) → slice_get qs k ≡ Some q → slice_get qs j ≡ Some q' → q.0 ≡ q'.0
    → k ≡ j

-- the queues of consuming ends, in their order
abbrev pub intake_queues : Intakes → List QueueId
intake_queues xs = map (λ i. i.queue) xs.ends.items

-- the queues of producing ends
abbrev pub outlet_queues : Outlets → List QueueId
outlet_queues xs = map (λ i. i.queue) xs.ends.items

-- consuming ends, as their actor keeps them
abbrev pub intake_posts : Intakes → List Post
intake_posts xs = map intake_post xs.ends.items

-- producing ends, as their actor keeps them
abbrev pub outlet_posts : Outlets → List Post
outlet_posts xs = map outlet_post xs.ends.items

-- consuming ends are the caller's own as they are kept, each on another queue
pub record FitsIntakes (ends : Role → ℕ → End) (xs : Intakes) : Type 0 where
  pub agrees : (k : ℕ) (i : Intake) → slice_get xs.ends.items k ≡ Some i
      → Agrees (ends Consumer i.queue.0) i.state
  pub apart : AreApart (intake_queues xs)

-- producing ends are the caller's own as they are kept, each on another queue
pub record FitsOutlets (ends : Role → ℕ → End) (xs : Outlets) : Type 0 where
  pub agrees : (k : ℕ) (i : Outlet) → slice_get xs.ends.items k ≡ Some i
      → Agrees (ends Producer i.queue.0) i.state
  pub apart : AreApart (outlet_queues xs)

-- a place is this one
abbrev pub is_here : Option ℕ → ℕ → Bool
is_here (Some k) place = nat_eq k place
is_here None place = false

-- which of the ends are needed, or loaded: each by its place
abbrev pub needs_from : (ℕ → Bool) → ℕ → List QueueId → List Bool
needs_from need place [] = []
needs_from need place (q ∷ qs) = need place ∷ needs_from need (place + 1) qs
