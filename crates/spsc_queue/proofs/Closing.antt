-- What is known once a ring is closed.
use Rattle.std.proofs.Common.{◌≡◌, ℕ, zero, suc, ◌+◌, ◌%◌, ◌<◌, ◌≤◌, Bool, true, false, nat_lt, nat_eq, List, [], ◌∷◌, ◌++◌, length, drop, get_or, refl, sym, ap, ◌∙◌, subst, arith, append_assoc, append-nil, Option, Some, None}
use Rattle.std.specs.Prelude.{All}
use Rattle.std.proofs.Math.Nat.{mod-add-mod, mod-mod_of_dvd}
use Rattle.std.proofs.lemmas.Nat.Gcd.{dvd_of_mod-eq-zero}
use mathlib.Core.Option.{some, some-injective, some-ne-none}
use mathlib.Core.Option as maybe
use mathlib.Core.Logic.{dite}
use native.Mathlib.Decide.{dec_le}
use lib.ListN.{get_elem?}
use Rattle.atomic_table.specs.Table.{State, Final, Seen}
use Rattle.atomic_table.proofs.Lists.{drop_at}
use Rattle.cargo_core.specs.declared.item.QueueKind.{QueueKind}
use Rattle.cargo_core.specs.Items.{kind_of}
use Rattle.wire_core.specs.declared.names.Side.TheVariants.{Forward, Backward}
use Rattle.wire_core.specs.Bells.{BellHolds, bit}
use Rattle.wire_core.specs.Deeds.{Cargo}
use Rattle.spsc_queue.specs.declared.view.Half.{Half}
use Rattle.spsc_queue.specs.declared.view.View.{View}
use Rattle.spsc_queue.specs.Rule.{Slot, wrap, SlotsHold, flag_word, pending_word, WordsHold, SharedHold, EndsHold, RingHolds, flag_of, pending_of, forward_bell, backward_bell}
use Rattle.spsc_queue.specs.Left.{listed, entries_from}
use Rattle.spsc_queue.proofs.Emptying.{elem_or}
use Rattle.spsc_queue.proofs.Told.{bit_is}
use Rattle.spsc_queue.proofs.Views.{producer_is, consumer_is}

drop_past : (l : List Cargo) (i : ℕ) → length l ≤ i → drop i l ≡ []
drop_past [] zero h = refl
drop_past [] (suc i) h = refl
drop_past (x ∷ xs) zero h = absurd (omega arith)
drop_past (x ∷ xs) (suc i) h = drop_past xs i (omega arith)

elem_there : (l : List Cargo) (i : ℕ) → i < length l → (x : Cargo) × (get_elem? l i ≡ some x)
elem_there [] i h = absurd (omega arith)
elem_there (x ∷ xs) zero h = (x, refl)
elem_there (x ∷ xs) (suc i) h = elem_there xs i (omega arith)

-- the place of an index, from the word
word_place : (n t k : ℕ) → 65536 % n ≡ 0 → (wrap t + k) % n ≡ (t + k) % n
word_place n t k divides = sym (mod-add-mod (wrap t) n k) ∙ (ap (λ (z : ℕ). (z + k) % n) (mod-mod_of_dvd n t (dvd_of_mod-eq-zero n divides)) ∙ mod-add-mod t n k)

module _ (n t : ℕ) (homes : List (maybe.Option Slot)) (xs : List Slot) (left : List Cargo) (divides : 65536 % n ≡ 0) (slots : SlotsHold n homes t left None None)
    (lie : (k : ℕ) (y : Slot) → get_elem? homes k ≡ some (some y) → get_elem? xs k ≡ some y) where
  -- the first k places, and what is left behind them
  first_places : (k : ℕ) → k ≤ n → entries_from xs n (wrap t) k ++ drop k left ≡ left
  unfolding entries_from
  first_places zero le = refl
  first_places (suc k) le = let i : ℕ = (wrap t + k) % n in let at : i ≡ (t + k) % n = word_place n t k divides in let before : entries_from xs n (wrap t) k ++ drop k left ≡ left = first_places k (omega arith) in dite (dec_le (suc k) (length left))
      (λ lt. let e = elem_there left k lt in let is : get_or xs i None ≡ Some e.0 = elem_or xs i (Some e.0) None (ap (get_elem? xs) at ∙ lie ((t + k) % n) (Some e.0) (slots.filled k e.0 e.1 (λ _. refl))) in
      ap (λ (z : Slot). (entries_from xs n (wrap t) k ++ listed z) ++ drop (suc k) left) is ∙ (append_assoc (entries_from xs n (wrap t) k) (e.0 ∷ []) (drop (suc k) left) ∙ (ap (λ (z : List Cargo). entries_from xs n (wrap t) k ++ z) (sym (drop_at left k e.0 e.1)) ∙ before)))
      (λ ge. let is : get_or xs i None ≡ None = elem_or xs i None None (ap (get_elem? xs) at ∙ lie ((t + k) % n) None (slots.empty k (omega arith) (omega arith) (λ _. refl))) in
      ap (λ (z : Slot). (entries_from xs n (wrap t) k ++ listed z) ++ drop (suc k) left) is ∙ (ap (λ (z : List Cargo). z ++ drop (suc k) left) (append-nil (entries_from xs n (wrap t) k)) ∙ (ap (λ (z : List Cargo). entries_from xs n (wrap t) k ++ z) (drop_past left (suc k) (omega arith) ∙ sym (drop_past left k (omega arith))) ∙ before)))

  pub all_left : entries_from xs n (wrap t) n ≡ left
  all_left = sym (append-nil (entries_from xs n (wrap t) n)) ∙ (ap (λ (z : List Cargo). entries_from xs n (wrap t) n ++ z) (sym (drop_past left n slots.within)) ∙ first_places n (omega arith))

pub record Closing (wild : Bool) (kind : QueueKind) (n : ℕ) (p c : Half) (shared : List ℕ) (left : List Cargo) : Type 0 where
  pub within : length left ≤ n
  pub producer_kind : p.kind ≡ kind
  pub consumer_kind : c.kind ≡ kind
  pub kinds : All (λ x. kind_of x.0 ≡ kind) p.entries
  pub sent : p.entries ≡ c.entries ++ left
  pub times : (later : List ℕ) × (p.times ≡ c.times ++ later) × (length later ≡ length left)
  pub producer_sort : p.wild ≡ wild
  pub consumer_sort : c.wild ≡ wild
  pub bells : wild ≡ false → (flag pending flag_back pending_back : ℕ) → get_elem? shared (flag_word Forward) ≡ some flag → get_elem? shared (pending_word Forward) ≡ some pending → get_elem? shared (flag_word Backward) ≡ some flag_back → get_elem? shared (pending_word Backward) ≡ some pending_back
      → BellHolds (forward_bell (nat_eq flag 1) (nat_eq pending 1) p c) (nat_lt 0 (length left)) (length p.entries) × BellHolds (backward_bell (nat_eq flag_back 1) (nat_eq pending_back 1) p c) (nat_lt (length left) n) (length c.entries)
  pub words : wild ≡ false → (flag pending flag_back pending_back : ℕ) → get_elem? shared (flag_word Forward) ≡ some flag → get_elem? shared (pending_word Forward) ≡ some pending → get_elem? shared (flag_word Backward) ≡ some flag_back → get_elem? shared (pending_word Backward) ≡ some pending_back
      → (nat_eq flag 1 ≡ flag_of c p) × (nat_eq pending 1 ≡ pending_of c p) × (nat_eq flag_back 1 ≡ flag_of p c) × (nat_eq pending_back 1 ≡ pending_of p c)

word_bit : (l : List ℕ) (i : ℕ) (b : Bool) (r : ℕ) (words : List ℕ) → words ≡ l → get_elem? l i ≡ some (bit b) → get_elem? words i ≡ some r → b ≡ nat_eq r 1
word_bit l i b r words is here found = sym (bit_is b) ∙ ap (λ (z : ℕ). nat_eq z 1) (some-injective (bit b) r (sym here ∙ (ap (λ (z : List ℕ). get_elem? z i) (sym is) ∙ found)))

-- what the words of a ring that isn't wild are
as_told : (wild : Bool) (n : ℕ) (ws : List ℕ) (left : List Cargo) (p c : Half) → wild ≡ false → SharedHold wild n ws left p c → WordsHold n ws left p c
as_told false n ws left p c is s = s
as_told true n ws left p c is s = cc

ends_close : (wild : Bool) (kind : QueueKind) (n : ℕ) (words : List ℕ) (homes : List (maybe.Option Slot)) (xs : List Slot) (p c : Half) (e : EndsHold wild kind n words homes p c) → p.grant ≡ None → c.grant ≡ None
    → ((k : ℕ) (y : Slot) → get_elem? homes k ≡ some (some y) → get_elem? xs k ≡ some y) → Closing wild kind n p c words (entries_from xs n (wrap (length c.entries)) n)
ends_close wild kind n words homes xs p c e pg cg lie = let is : e.lists.left ≡ entries_from xs n (wrap (length c.entries)) n = sym (all_left n (length c.entries) homes xs e.lists.left e.lists.divides (subst (λ (z : Option Slot × Option Slot). SlotsHold n homes (length c.entries) e.lists.left z.0 z.1) (λ k. (pg k, cg k)) e.lists.slots) lie) in
    subst (Closing wild kind n p c words) is record {
      within = e.lists.slots.within;
      producer_kind = e.lists.producer_kind;
      consumer_kind = e.lists.consumer_kind;
      kinds = e.lists.kinds;
      sent = e.lists.sent;
      times = (e.lists.later, e.lists.times, e.lists.timed);
      producer_sort = e.producer_sort;
      consumer_sort = e.consumer_sort;
      bells = λ tame f q fb qb i2 i3 i4 i5. let sh : WordsHold n words e.lists.left p c = as_told wild n words e.lists.left p c tame e.shared in (
        subst (λ (z : Bool × Bool). BellHolds (forward_bell z.0 z.1 p c) (nat_lt 0 (length e.lists.left)) (length p.entries)) (λ k. (word_bit _ (flag_word Forward) sh.flag f words sh.words_are refl i2 k, word_bit _ (pending_word Forward) sh.pending q words sh.words_are refl i3 k)) sh.forward,
        subst (λ (z : Bool × Bool). BellHolds (backward_bell z.0 z.1 p c) (nat_lt (length e.lists.left) n) (length c.entries)) (λ k. (word_bit _ (flag_word Backward) sh.flag_back fb words sh.words_are refl i4 k, word_bit _ (pending_word Backward) sh.pending_back qb words sh.words_are refl i5 k)) sh.backward,
      );
      words = λ tame f q fb qb i2 i3 i4 i5. let sh : WordsHold n words e.lists.left p c = as_told wild n words e.lists.left p c tame e.shared in (
        sym (word_bit _ (flag_word Forward) sh.flag f words sh.words_are refl i2) ∙ sh.forward_told.flag_is,
        sym (word_bit _ (pending_word Forward) sh.pending q words sh.words_are refl i3) ∙ sh.forward_told.pending_is,
        sym (word_bit _ (flag_word Backward) sh.flag_back fb words sh.words_are refl i4) ∙ sh.backward_told.flag_is,
        sym (word_bit _ (pending_word Backward) sh.pending_back qb words sh.words_are refl i5) ∙ sh.backward_told.pending_is,
      );
    }

-- the last state of a closed table
pub closes : (wild : Bool) (kind : QueueKind) (n id : ℕ) (v : View) (words : List ℕ) (xs : List Slot) → Final (Seen (RingHolds wild kind) id v) words xs → length xs ≡ n → v.produces ≡ true → v.consumes ≡ true → v.producer.grant ≡ None → v.consumer.grant ≡ None
    → Closing wild kind n v.producer v.consumer words (entries_from xs n (wrap (length v.consumer.entries)) n)
closes wild kind n id v words xs f long makes eats pg cg = let s : State Slot View = f.0 in let r = f.1.0 in let at = f.1.1 in
    let e : EndsHold wild kind n words s.homes v.producer v.consumer = subst (λ (z : (ℕ × List ℕ) × (View × View)). EndsHold wild kind z.0.0 z.0.1 s.homes z.1.0.producer z.1.1.consumer) (λ k. (((f.3 ∙ long) k, f.2 k), (producer_is wild kind s r id v at makes k, consumer_is wild kind s r id v at eats k))) r.ends in
    ends_close wild kind n words s.homes xs v.producer v.consumer e pg cg f.4
