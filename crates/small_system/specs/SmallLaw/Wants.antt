-- What the actors of a class want of their ends, by their own states.
use Rattle.std.specs.Prelude.{ℕ, List}
use Rattle.wire_core.specs.Ends.{Role, End}
use Rattle.play_core.specs.Wants.{Want}
use Rattle.play_core.specs.Rests.Meeting.{Meet}
use Rattle.small_system.specs.Meanings.{Means}

-- the ends that an actor keeps are those that it wants, each as its queue has it and needed so
abbrev pub WantsAre : {A : Type 0} → Means A → (A → List Want) → Type 0
WantsAre {A} m wants = (ends : Role → ℕ → End) (x : A) → m.Fits ends x
    → Meet ends (m.round x).posts (m.round x).needs (wants x)
