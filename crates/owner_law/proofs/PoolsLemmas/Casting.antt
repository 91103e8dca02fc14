use Rattle.std.proofs.Common.{◌≡◌, ◌<◌, ◌≤◌, ℕ, false, Some, List, [], length, map, slice_get, sum_by, refl, sym, ◌∙◌, subst, arith}
use Rattle.std.proofs.lemmas.List.{length-map}
use Rattle.wire_core.specs.declared.names.QueueRow.{QueueRow}
use Rattle.wire_core.specs.declared.names.Entry.{Entry}
use Rattle.wire_core.specs.Ends.{Role, Consumer, Producer}
use Rattle.wire_core.specs.Journal.{History, Hostiles, LegalJournal, QueuesFlow, EachMoment, start_history}
use Rattle.play_core.specs.Moved.{Moved, Seat, moved, sent}
use Rattle.play_core.specs.Sheets.{Sheet, AreApart, AreSeated, AreFilled, RowsHold}
use Rattle.play_core.specs.Still.{IsPeopled}
use Rattle.play_core.proofs.Moments.{each_moment}
use Rattle.owner_law.specs.Things.{Window, Answers, Names, NoBuffers, Naming, Thing, things_from, requests_of, as_buffer, as_lease, lends}
use Rattle.owner_law.specs.Owners.{Table, AreCounted}
use Rattle.owner_law.specs.Keeping.{Keeper, keeper_of, IsNaming, things_in, things_out, all_taken, all_put, Keeps, PutsItsOwn, IsShownBy, AreDealt, start_table, IsKept, IsOwned}
use Rattle.owner_law.specs.Shown.{HaveOnePlace, shown_table}
use Rattle.owner_law.proofs.Adopted.{table_shown}
use Rattle.owner_law.proofs.Casts.{cast_keepers, cast_keeps}
use Rattle.owner_law.proofs.Counting.{nothing_sum}
use Rattle.owner_law.proofs.Named.{keeps_plain}
use Rattle.owner_law.proofs.Starts.{start_shown, start_counted}
use Rattle.owner_law.proofs.Sums.{sum_flat, sum_none}

-- what the sheets of a cast say of its actors
abbrev pub keepers_in : {P : Type 0} → (P → Sheet) → List P → List Keeper
keepers_in {P} sheet cast = map (λ p. keeper_of (sheet p)) cast

-- at each moment no queue has more responses than there are requests
abbrev pub AreAnswered : Naming → History → List Entry → Type 0
AreAnswered naming history journal = (n q : ℕ) (ws : List Window) → naming n ≡ Answers q ws
    → length (sent history n journal) ≤ length (sent history q journal)

-- a cast whose actors have just the ends that the rows give them, each of which may put only what
-- was in its hand; the journal is legal, and at each moment rows hold and queues hand over
pub record IsCast {P : Type 0} (naming : Naming) (lender : ℕ) (hostile : Hostiles)
    (history : History) (rows : List QueueRow) (sheet : P → Sheet) (cast : List P)
    (journal : List Entry) : Type 0 where
  pub naming_is : IsNaming naming lender hostile rows
  pub seated : AreSeated sheet rows cast
  pub filled : AreFilled sheet rows cast
  pub peopled : IsPeopled rows (length cast)
  pub apart : (k : ℕ) (p : P) → slice_get cast k ≡ Some p → AreApart (sheet p).ends
  pub own : (k : ℕ) (p : P) → hostile k ≡ false → slice_get cast k ≡ Some p
      → PutsItsOwn naming (sheet p)
  pub legal : LegalJournal hostile history rows journal
  pub rows_hold : EachMoment (λ j. RowsHold sheet hostile cast (moved history j)) journal
  pub flows : EachMoment (QueuesFlow history rows) journal
  pub answered : EachMoment (AreAnswered naming history) journal

module _ {P : Type 0} (naming : Naming) (lender : ℕ) (hostile : Hostiles) (history : History) (rows : List QueueRow) (sheet : P → Sheet) (cast : List P) (journal : List Entry) (is : IsCast naming lender hostile history rows sheet cast journal) where
  abbrev keepers : List Keeper
  keepers = keepers_in sheet cast

  cast_kept : EachMoment (IsKept naming hostile history rows keepers) journal
  cast_kept = each_moment (λ j. RowsHold sheet hostile cast (moved history j)) (λ j. QueuesFlow history rows j × AreAnswered naming history j) (IsKept naming hostile history rows keepers) (λ j row both. record {
    keeps = cast_keeps sheet cast is.apart naming hostile (moved history j) is.own row;
    flows = both.0;
    answers = both.1;
  }) journal is.rows_hold (each_moment (QueuesFlow history rows) (AreAnswered naming history) (λ j. QueuesFlow history rows j × AreAnswered naming history j) (λ j a b. (a, b)) journal is.flows is.answered)

  cast_owned : (start : Table) → AreCounted start → IsShownBy naming lender keepers (moved history []) start → IsOwned naming lender hostile history rows keepers start journal
  cast_owned start counted shown = record {
    naming_is = is.naming_is;
    keepers_are = cast_keepers sheet cast is.apart rows is.seated is.filled is.peopled;
    legal = is.legal;
    kept = cast_kept;
    counted = counted;
    shown = shown;
  }

  pub cast_adopted : ((k : ℕ) → hostile k ≡ false) → lender < length cast → HaveOnePlace naming lender keepers (length rows) (moved history []) → IsOwned naming lender hostile history rows keepers (shown_table naming lender keepers (length rows) (moved history [])) journal
  cast_adopted calm lt place =
      let many : length keepers ≡ length cast = simp length-map in
      let both = table_shown naming lender hostile history rows keepers is.naming_is is.flows.0 (λ k p at. cast_kept.0.keeps k p (calm k) at) (omega (arith, many, lt)) place in
      cast_owned (shown_table naming lender keepers (length rows) (moved history [])) both.1 both.0

pub cast_built : {P : Type 0} (naming : Naming) (lender : ℕ) (hostile : Hostiles) (rows : List QueueRow) (sheet : P → Sheet) (cast : List P) (journal : List Entry) → IsCast naming lender hostile (start_history rows) rows sheet cast journal → AreDealt (keepers_in sheet cast) → IsOwned naming lender hostile (start_history rows) rows (keepers_in sheet cast) (start_table (keepers_in sheet cast)) journal
cast_built naming lender hostile rows sheet cast journal is dealt = cast_owned naming lender hostile (start_history rows) rows sheet cast journal is (start_table (keepers_in sheet cast)) (start_counted (keepers_in sheet cast)) (start_shown naming lender rows (keepers_in sheet cast) dealt)

-- an actor at whose queues nothing is named
module _ (naming : Naming) (hand : ℕ → List ℕ) (ends : List Seat) (none : (i : ℕ) (x : Seat) → slice_get ends i ≡ Some x → naming x.queue ≡ NoBuffers) (m : Moved) where
  by_none : (f : Thing → ℕ) → f Rattle.owner_law.specs.Things.Nothing ≡ 0 → (n : ℕ) (items : List Rattle.cargo_core.specs.declared.item.Item.Item) → naming n ≡ NoBuffers → sum_by f (things_from (naming n) (requests_of (naming n) m) 0 items) ≡ 0
  by_none f nothing n items is = subst (λ (x : Names). sum_by f (things_from x (requests_of x m) 0 items) ≡ 0) (sym is) (nothing_sum f nothing [] 0 items)

  none_in : (f : Thing → ℕ) → f Rattle.owner_law.specs.Things.Nothing ≡ 0 → sum_by f (all_taken naming m ends) ≡ 0
  none_in f nothing = sum_flat f (things_in naming m) ends ∙ sum_none (λ x. sum_by f (things_in naming m x)) ends (λ i x at. by x.role x.queue (none i x at))
    where
      by : (r : Role) (n : ℕ) → naming n ≡ NoBuffers → sum_by f (things_in naming m (record { queue = n; role = r })) ≡ 0
      by Consumer n is = by_none f nothing n (m.taken n) is
      by Producer n is = refl

  none_out : (f : Thing → ℕ) → f Rattle.owner_law.specs.Things.Nothing ≡ 0 → sum_by f (all_put naming m ends) ≡ 0
  none_out f nothing = sum_flat f (things_out naming m) ends ∙ sum_none (λ x. sum_by f (things_out naming m x)) ends (λ i x at. by x.role x.queue (none i x at))
    where
      by : (r : Role) (n : ℕ) → naming n ≡ NoBuffers → sum_by f (things_out naming m (record { queue = n; role = r })) ≡ 0
      by Consumer n is = refl
      by Producer n is = by_none f nothing n (m.sent n) is

  pub nothing_kept : Keeps hand (all_taken naming m ends) (all_put naming m ends)
  nothing_kept = keeps_plain hand (all_taken naming m ends) (all_put naming m ends) (λ b. none_in (lends b) refl) (λ b. omega (arith, none_out (as_buffer b) refl)) (λ b. omega (arith, none_out (as_lease b) refl))
