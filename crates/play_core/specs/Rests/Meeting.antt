-- The ends of an actor as it keeps them, beside those that are wanted of it.
use Rattle.std.specs.Prelude.{◌≡◌, ℕ, Bool, List, [], ◌∷◌}
use Rattle.wire_core.specs.Ends.{Role, End}
use Rattle.turn_kit.specs.Table.{Agrees}
use Rattle.turn_kit.specs.Turns.{Post}
use Rattle.play_core.specs.Wants.{Want}

-- an end is kept as its queue has it, and needed where it is wanted so
pub record Met (ends : Role → ℕ → End) (p : Post) (need : Bool) (w : Want) : Type 0 where
  pub needs : need ≡ w.need
  pub agrees : Agrees (ends w.role w.queue) p.state

-- each of these ends is, in their order
abbrev pub Meet : (Role → ℕ → End) → List Post → List Bool → List Want → Type 0
Meet ends [] [] [] = Unit {0}
Meet ends [] [] (w ∷ ws) = ⊥
Meet ends [] (n ∷ ns) ws = ⊥
Meet ends (p ∷ ps) [] ws = ⊥
Meet ends (p ∷ ps) (n ∷ ns) [] = ⊥
Meet ends (p ∷ ps) (n ∷ ns) (w ∷ ws) = Met ends p n w × Meet ends ps ns ws
