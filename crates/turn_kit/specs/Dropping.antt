-- An end where its actor may drop in place of waiting.
use Rattle.std.specs.Prelude.{◌≡◌, ◌≢◌, Bool, true, false, Some, List, [], ◌∷◌}
use Rattle.wire_core.specs.Ends.{is_busy_or_off}
use Rattle.turn_kit.specs.declared.end_state.EndState.{EndState}
use Rattle.turn_kit.specs.Turns.{Post}

-- a post where its actor drops, or where it waits
abbrev pub dropping : Bool → Post → Post
dropping drops p = record p { drops = drops }

-- a waiter that asked for no notification and waits for none, at an end that doesn't keep a no: so
-- it is never settled while it is needed
pub record IsEager (k : EndState) : Type 0 where
  pub waiter : is_busy_or_off k.waiter ≡ true
  pub look : k.look ≢ Some false

-- ends of which each may drop or not, by its place
abbrev pub with_drops : List Bool → List Post → List Post
with_drops [] ps = ps
with_drops (d ∷ ds) [] = []
with_drops (d ∷ ds) (p ∷ ps) = dropping d p ∷ with_drops ds ps
