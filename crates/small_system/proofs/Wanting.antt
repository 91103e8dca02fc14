use Rattle.std.proofs.Common.{◌≡◌, ◌+◌, ◌++◌, ◌||◌, ◌<◌, ℕ, Bool, true, false, not, List, [], ◌∷◌, Some, length, length-set, slice_get, refl, sym, ap, ◌∙◌, subst, zero, suc, arith, add-zero}
use Rattle.wire_core.specs.declared.names.QueueRow.{QueueRow}
use Rattle.wire_core.specs.declared.names.Event.{Event}
use Rattle.wire_core.specs.declared.names.Entry.{Entry}
use Rattle.wire_core.specs.Lists.{Passed}
use Rattle.wire_core.specs.Queues.{Queue, is_pending}
use Rattle.wire_core.specs.Ends.{Role}
use Rattle.wire_core.specs.Journal.{start_history, nobody, BellsHold, QueuesFlow, owner_of}
use Rattle.wire_core.specs.Picks.{PickedFrom, next_seed, place_of}
use Rattle.turn_kit.specs.Turns.{is_at_rest}
use Rattle.play_core.specs.Manners.{Calm}
use Rattle.play_core.specs.Still.{IsQuiet}
use Rattle.play_core.proofs.Moments.{last_moment}
use Rattle.play_core.specs.Moved.{Moved, moved}
use Rattle.play_core.specs.Wants.{all_settled}
use Rattle.play_core.specs.Runs.{places_from, flags_from, called_from}
use Rattle.small_system.specs.Meanings.{Means, Lawful}
use Rattle.small_system.specs.Tales.{start_of, after_tale, Moment, Turn, is_runnable, flags_in, running_in, IsTale, moment_after, journal_of, entry_of, passed_by, PickedBy, Along}
use Rattle.small_system.specs.Standing.{Begins, Holds}
use Rattle.small_system.specs.Wants.{Wanting, calls_in, wanted_from, wanted_by, calm, runs_by, RestsBy}
use Rattle.small_system.proofs.Step.{called_here}
use Rattle.small_system.proofs.Telling.{holds_more, journal_join, told_holds, tale_count}
use Rattle.small_system.proofs.Paced.{tale_lawful}

-- Where each actor rests by its wants, who is runnable by its own state is so by wants.

either : {a b c d : Bool} → a ≡ b → c ≡ d → (a || c) ≡ (b || d)
either e f = cc

front : {x y : Bool} {xs ys : List Bool} → x ≡ y → xs ≡ ys → x ∷ xs ≡ y ∷ ys
front e f = cc

flags_same : {A : Type 0} (m : Means A) (w : List Queue) (wants : Wanting) (rows : List QueueRow) (journal : List Entry) (k : ℕ) (xs : List A) → ((i : ℕ) (x : A) → slice_get xs i ≡ Some x → is_runnable m w (k + i) x ≡ (not (all_settled (start_history rows) journal (wants (k + i) (moved (start_history rows) journal) (calls_in journal))) || called_from (k + i) 0 (start_history rows) rows journal)) → flags_in m w k xs ≡ flags_from calm k (start_history rows) rows (wanted_from wants k (length xs) (moved (start_history rows) journal) (calls_in journal)) journal
flags_same m w wants rows journal k [] same = refl
flags_same m w wants rows journal k (x ∷ xs) same =
    let z : k + 0 ≡ k = omega arith in
    front (subst (λ n. is_runnable m w n x ≡ (not (all_settled (start_history rows) journal (wants n (moved (start_history rows) journal) (calls_in journal))) || called_from n 0 (start_history rows) rows journal)) z (same 0 x refl))
    (flags_same m w wants rows journal (k + 1) xs (λ i y at. let s : k + suc i ≡ (k + 1) + i = omega arith in subst (λ n. is_runnable m w n y ≡ (not (all_settled (start_history rows) journal (wants n (moved (start_history rows) journal) (calls_in journal))) || called_from n 0 (start_history rows) rows journal)) s (same (suc i) y at)))

pub runs_wanted : {A : Type 0} (m : Means A) (wants : Wanting) (rows : List QueueRow) (mo : Moment A) (passed : Passed) (journal : List Entry) → Holds m rows mo passed journal → RestsBy m wants rows mo journal → running_in m mo ≡ runs_by wants rows (length mo.actors) journal
runs_wanted m wants rows mo passed journal holds rests = ap (places_from 0) (flags_same m mo.world wants rows journal 0 mo.actors (λ i x at. let z : i ≡ 0 + i = omega arith in subst (λ n. is_runnable m mo.world n x ≡ (not (all_settled (start_history rows) journal (wants n (moved (start_history rows) journal) (calls_in journal))) || called_from n 0 (start_history rows) rows journal)) z (either (ap not (rests i x at)) (called_here m rows mo passed journal holds i))))

-- and a seed's picks are those among them
pub picks_wanted : {A : Type 0} (m : Means A) (law : Lawful m) (wants : Wanting) (rows : List QueueRow) (count : ℕ) (mo : Moment A) (before more : List (Turn A)) (seed : ℕ) → Holds m rows mo (passed_by before) (journal_of before) → length mo.actors ≡ count → IsTale m mo more → Along (λ mo b. RestsBy m wants rows mo (journal_of b)) mo before more → PickedBy m mo seed more → PickedFrom (runs_by wants rows count) seed (journal_of before) (journal_of more)
picks_wanted m law wants rows count mo before [] seed holds many tale rests picked = tt
picks_wanted m law wants rows count mo before (t ∷ ts) seed holds many tale rests picked =
    let runs : running_in m mo ≡ runs_by wants rows count (journal_of before) = runs_wanted m wants rows mo (passed_by before) (journal_of before) holds rests.0 ∙ ap (λ n. runs_by wants rows n (journal_of before)) many in (
      subst (λ rs. slice_get rs (place_of (next_seed seed) (length rs)) ≡ Some t.number) runs picked.0,
      subst (λ j. PickedFrom (runs_by wants rows count) (next_seed seed) j (journal_of ts)) (journal_join before (t ∷ []))
          (picks_wanted m law wants rows count (moment_after mo t) (before ++ t ∷ []) ts (next_seed seed) (holds_more m law rows mo before t holds tale.0) (length-set mo.actors t.number t.actor ∙ many) tale.1 rests.1 picked.1),
    )

wanted_count : (wants : Wanting) (k count : ℕ) (moves : Moved) (calls : List Event) → length (wanted_from wants k count moves calls) ≡ count
wanted_count wants k zero moves calls = refl
wanted_count wants k (suc count) moves calls = ap suc (wanted_count wants (k + 1) count moves calls)

-- where nobody is runnable, nobody is so by wants
pub quiet_wanted : {A : Type 0} (m : Means A) (law : Lawful m) (wants : Wanting) (rows : List QueueRow) (start : List A) (turns : List (Turn A)) → Begins m rows start → IsTale m (start_of rows start) turns → RestsBy m wants rows (after_tale (start_of rows start) turns) (journal_of turns) → running_in m (after_tale (start_of rows start) turns) ≡ [] → IsQuiet calm (start_history rows) rows (wanted_by wants rows (length start) (journal_of turns)) (journal_of turns)
quiet_wanted m law wants rows start turns begins tale rests none =
    let holds = told_holds m law rows start turns begins tale in
    let lawful = tale_lawful m law rows start turns begins tale in
    record {
      bells_hold = last_moment (BellsHold nobody (start_history rows) rows) (journal_of turns) lawful.bells_hold;
      flows = last_moment (QueuesFlow (start_history rows) rows) (journal_of turns) lawful.flows;
      peopled = λ n row at r. subst (λ i. owner_of row r < i) (sym (wanted_count wants 0 (length start) (moved (start_history rows) (journal_of turns)) (calls_in (journal_of turns)))) (begins.peopled n row at r);
      quiet = sym (runs_wanted m wants rows (after_tale (start_of rows start) turns) (passed_by turns) (journal_of turns) holds rests ∙ ap (λ n. runs_by wants rows n (journal_of turns)) (tale_count m (start_of rows start) turns tale)) ∙ none;
    }
