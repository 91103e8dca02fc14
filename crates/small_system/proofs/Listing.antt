use Rattle.std.proofs.Common.{◌≡◌, ◌<◌, ◌≤◌, ◌+◌, ℕ, Bool, not, Some, List, [], ◌∷◌, ◌++◌, length, slice_get, slice_index_or, refl, sym, ap, ◌∙◌, arith}
use Rattle.std.proofs.lemmas.Option.{slice_get_read}
use Rattle.wire_core.specs.Queues.{Queue}
use Rattle.small_system.specs.Meanings.{Means}
use Rattle.small_system.specs.Tales.{is_runnable, flags_in}
use Rattle.small_system.proofs.Keeping.{flag_at}
use Rattle.player_kit.proofs.Listing.{not_not}

-- The list of the runnable actors before the first call grows by one actor after another.

-- whether an actor is runnable then
pub flag_start : {A : Type 0} (m : Means A) (w : List Queue) (actors : List A) (k : ℕ) (x : A) (idle : Bool) → k < length actors → x ≡ slice_index_or actors k x → idle ≡ not (is_runnable m w k x) → slice_get (flags_in m w 0 actors) k ≡ Some (not idle)
flag_start m w actors k x idle lt at is =
    let here : slice_get actors k ≡ Some x = slice_get_read actors _ k x refl lt at in
    flag_at m w 0 k k actors x (omega arith) here ∙ ap Some (not_not (is_runnable m w k x) ∙ ap not (sym is))
