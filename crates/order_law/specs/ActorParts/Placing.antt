-- Ends by the places of their queues.
use Rattle.std.specs.Prelude.{◌≡◌, ◌<◌, ℕ, Option, Some, List, [], ◌∷◌, slice_get, slice_set}
use Rattle.wire_core.specs.declared.names.QueueId.{QueueId}

-- each of these ends at its queue's place, the last of a place
abbrev pub placed : {X : Type 0} → List (QueueId × X) → List (Option X) → List (Option X)
placed [] places = places
placed (x ∷ xs) places = placed xs (slice_set places x.0.0 (Some x.1))

-- each of these ends has a place among so many
abbrev pub AreWithin : {X : Type 0} → ℕ → List (QueueId × X) → Type 0
AreWithin {X} many ends = (i : ℕ) (x : QueueId × X) → slice_get ends i ≡ Some x → x.0.0 < many

-- the ends that each of these has, each at its queue's place
abbrev pub all_placed : {P X : Type 0} → (P → List (QueueId × X)) → List P → List (Option X)
    → List (Option X)
all_placed ends [] places = places
all_placed ends (p ∷ ps) places = all_placed ends ps (placed (ends p) places)
