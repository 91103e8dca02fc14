use Rattle.std.proofs.Common.{◌≡◌, ℕ, ◌<◌, false, Some, List}
use Rattle.std.specs.Prelude.{bytes_eq, slice_get}
use Rattle.region_layout.proofs.actors.place_of_text.Given as goal

abbrev pub invariant-loop-place : goal.invariant-loop-place
invariant-loop-place l = (k : ℕ) (text : List ℕ) → k < l.place → slice_get l.texts k ≡ Some text → bytes_eq text l.name ≡ false
