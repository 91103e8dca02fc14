-- A reply that was decided is no fault of reading, and once it is written it became what the words
-- ask for.
use Rattle.std.proofs.Common.{◌≡◌, ◌⊎◌, inl, inr, ℕ, Bool, Option, List, refl, sym, subst}
use Rattle.decision_core.specs.declared.status.Status.{Status}
use Rattle.decision_core.specs.declared.status.Status.TheVariants as Ended
use Rattle.view_plays.specs.Deciding.{Answered, Drawn, Refused, DrawsPlay}
use Rattle.view_plays.specs.ToldPlays.Progress.{IsProgress}
use Rattle.view_plays.specs.Viewed.{IsTold, whole, begun, IsWritten, Draws, drew, refused as was_refused}

pub told-ends : {K : Type 0} (written : K → Option (List ℕ)) (faults : K → ℕ) (failed : K → Bool) (old new : K) (text : List ℕ) (why status : Status)
    → IsTold written faults failed old new text why status → (status ≡ why) ⊎ (status ≡ Ended.WriteFault)
told-ends written faults failed old new text why _ (whole a b) = inl refl
told-ends written faults failed old new text why _ (begun part a b c) = inr refl

pub written-draws : {K E : Type 0} (written : K → Option (List ℕ)) (writes : K → ℕ) (unwritable : K → Bool) (lined : E → Option (List ℕ)) (lines : E → ℕ) (unlinable : E → Bool)
    (reads : List ℕ → List ℕ → Type 0) (words : List (List ℕ)) (a : Answered) (out out' : K) (err mid err' : E) (status : Status)
    → DrawsPlay reads words a → IsProgress lined err mid → IsWritten written writes unwritable lined lines unlinable a out out' mid err' status
    → Draws written writes unwritable lined lines unlinable reads words out out' err err' status
written-draws written writes unwritable lined lines unlinable reads words (Drawn why text) out out' err mid err' status h p w = drew why status text h (subst (λ e. IsProgress lined err e) (sym w.1) p) w.0
written-draws written writes unwritable lined lines unlinable reads words (Refused why line) out out' err mid err' status h p w = was_refused why status line mid h w.1 p w.0
