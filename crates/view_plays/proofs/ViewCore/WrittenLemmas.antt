-- An answer that was decided and written became what the words ask for.
use Rattle.std.proofs.Common.{◌≡◌, ℕ, Bool, Option, List}
use Rattle.view_plays.specs.declared.view_core.ended.Ended.{Ended}
use Rattle.view_plays.specs.ViewCore.Deciding.{Decision, Show, Refuse, Decides}
use Rattle.view_plays.specs.ViewCore.Viewed.{IsWritten, Views, showed, refused}

pub written-views : {K E : Type 0} (written : K → Option (List ℕ)) (writes : K → ℕ) (unwritable : K → Bool) (lined : E → Option (List ℕ)) (lines : E → ℕ) (unlinable : E → Bool)
    (reads : List ℕ → List ℕ → Type 0) (words : List (List ℕ)) (d : Decision) (out out' : K) (err err' : E) (ended : Ended)
    → Decides reads words d → IsWritten written writes unwritable lined lines unlinable d out out' err err' ended
    → Views written writes unwritable lined lines unlinable reads words out out' err err' ended
written-views written writes unwritable lined lines unlinable reads words (Show text) out out' err err' ended h w = showed text ended h w.1 w.0
written-views written writes unwritable lined lines unlinable reads words (Refuse why line) out out' err err' ended h w = refused why ended line h w.1 w.0
