-- What is said of each moment stays said as more names are told.
use Rattle.std.proofs.Common.{◌≡◌, ℕ, List, [], ◌∷◌, ◌++◌, length, slice_get, append_assoc, refl, ap, ◌∙◌, subst}
use Rattle.std.specs.Prelude.{Some}
use Rattle.wire_core.specs.declared.names.QueueRow.{QueueRow}
use Rattle.wire_core.specs.declared.names.Entry.{Entry}
use Rattle.wire_core.specs.Picks.{PickedFrom, next_seed, place_of}
use Rattle.wire_core.specs.Journal.{History, Hostiles, EachMoment}
use Rattle.play_core.specs.Moved.{Moved, moved}
use Rattle.play_core.specs.Manners.{Manners}
use Rattle.play_core.specs.Names.{Names, GrowsTo}
use Rattle.play_core.specs.Runs.{runnable}
use Rattle.play_core.specs.Sheets.{Sheet}
use Rattle.play_core.specs.Growing.{AllWithin, RowsStandIn, Stays, runs_in}
use Rattle.play_core.proofs.Lists.{map_alike}
use Rattle.play_core.proofs.Moments.{each_moment}

-- picks by one account of who is runnable are picks by another that agrees at each moment
pub picked_same : (runs others : List Entry → List ℕ) (x : ℕ) (before es : List Entry) → ((some rest : List Entry) → some ++ rest ≡ before ++ es → runs some ≡ others some) → PickedFrom runs x before es → PickedFrom others x before es
picked_same runs others x before [] same h = tt
picked_same runs others x before (e ∷ es) same h = (
  subst (λ (l : List ℕ). slice_get l (place_of (next_seed x) (length l)) ≡ Some e.actor.0) (same before (e ∷ es) refl) h.0,
  picked_same runs others (next_seed x) (before ++ e ∷ []) es (λ some rest is. same some rest (is ∙ append_assoc before (e ∷ []) es)) h.1,
)

module _ {P : Type 0} (sheet : Names → P → Sheet) (within : Names → P → Moved → Type 0) (stays : Stays sheet within) (names grown : Names) (grows : GrowsTo names grown) (history : History) (cast : List P) where
  pub runs_same : (manner : Manners) (rows : List QueueRow) (journal : List Entry) → AllWithin within names history cast journal → runs_in sheet names manner history rows cast journal ≡ runs_in sheet grown manner history rows cast journal
  runs_same manner rows journal told = ap (λ ws. runnable manner history rows ws journal) (map_alike (λ p. (sheet names p).wants (moved history journal)) (λ p. (sheet grown p).wants (moved history journal)) cast (λ k p at. stays.wants names grown grows p (moved history journal) (told k p at)))

  pub picked_stays : (manner : Manners) (rows : List QueueRow) (seed : ℕ) (before es : List Entry) → ((some rest : List Entry) → some ++ rest ≡ before ++ es → AllWithin within names history cast some) → PickedFrom (runs_in sheet names manner history rows cast) seed before es → PickedFrom (runs_in sheet grown manner history rows cast) seed before es
  picked_stays manner rows seed before es told = picked_same (runs_in sheet names manner history rows cast) (runs_in sheet grown manner history rows cast) seed before es (λ some rest is. runs_same manner rows some (told some rest is))

  pub rows_stay : (hostile : Hostiles) (journal : List Entry) → EachMoment (AllWithin within names history cast) journal → EachMoment (RowsStandIn sheet names hostile history cast) journal → EachMoment (RowsStandIn sheet grown hostile history cast) journal
  rows_stay hostile journal = each_moment (AllWithin within names history cast) (RowsStandIn sheet names hostile history cast) (RowsStandIn sheet grown hostile history cast) (λ j told hold k p calm at. stays.row names grown grows p (moved history j) (told k p at) (hold k p calm at)) journal
