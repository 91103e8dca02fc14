use Rattle.std.proofs.Common.{◌≡◌, ◌≢◌, ◌⊎◌, ◌==◌, ◌++◌, ℕ, zero, suc, Bool, true, false, Option, Some, None, is_some, IsSome, not, List, [], ◌∷◌, slice_get, slice_set, refl, sym, ap, ◌∙◌, subst, inl, inr}
use Rattle.std.specs.Option.{option_map, option_to_list}
use Rattle.std.proofs.Math.Dec.{eqb}
use Rattle.std.proofs.lemmas.Bool.Decides.{eqb_tells}
use Rattle.std.proofs.lemmas.Option.{slice_get-map}
use Rattle.std.proofs.lemmas.List.{append-nil}
use Rattle.cargo_core.specs.Lists.{Merge, merge_none, merge_next}
use Rattle.wire_core.specs.declared.names.QueueId.{QueueId}
use Rattle.wire_core.specs.Deeds.{Cargo}
use Rattle.wire_core.specs.Lists.{Lists, with, if_there}
use Rattle.wire_core.proofs.Places.{if_there_here, slice_get_written, slice_get_beside}
use Rattle.turn_kit.specs.ManyEnds.{AreApart}
use Rattle.serial_virt.specs.Sending.{taken_from}

some_eq : {X : Type 0} {a b : X} → Some a ≡ Some b → a ≡ b
some_eq h = cc

-- one list is longer by an entry, the others stay
pub record Grows {T : Type 0} (lists lists' : List (List T)) (k : ℕ) (x : T) : Type 0 where
  pub l : List T
  pub was : slice_get lists k ≡ Some l
  pub is : slice_get lists' k ≡ Some (l ++ x ∷ [])
  pub others : (j : ℕ) → (j ≡ k → ⊥) → slice_get lists' j ≡ slice_get lists j

-- where every list was empty, all but the one that grew are
module _ {T : Type 0} (lists lists' : List (List T)) (k : ℕ) (x : T) (g : Grows lists lists' k x) (empty : (j : ℕ) (l : List T) → slice_get lists j ≡ Some l → l ≡ []) where
  now_one : slice_get lists' k ≡ Some (x ∷ [])
  now_one = g.is ∙ ap (λ l. Some (l ++ x ∷ [])) (empty k g.l g.was)

  still_empty : (j : ℕ) (l : List T) → slice_get (slice_set lists' k []) j ≡ Some l → ((eqb j k ≡ true) × (j ≡ k)) ⊎ ((eqb j k ≡ false) × (j ≢ k)) → l ≡ []
  still_empty j l at (inl same) = some_eq (sym at ∙ (ap (slice_get (slice_set lists' k [])) same.1 ∙ slice_get_written lists' k (x ∷ []) [] now_one))
  still_empty j l at (inr other) = empty j l (sym (slice_get_beside lists' k j [] other.1 ∙ g.others j other.1) ∙ at)

  pub merge_one : Merge lists' (x ∷ [])
  merge_one = merge_next lists' k x [] [] now_one (merge_none (slice_set lists' k []) (λ j l at. still_empty j l at (eqb_tells j k)))

-- an entry was taken off at one place, and the lists still grow
module _ {T : Type 0} (lists lists' : List (List T)) (k j : ℕ) (x y : T) (m : List T) (g : Grows lists lists' k x) (at : slice_get lists j ≡ Some (y ∷ m)) where
  pub record Less : Type 0 where
    pub m' : List T
    pub at' : slice_get lists' j ≡ Some (y ∷ m')
    pub grows : Grows (slice_set lists j m) (slice_set lists' j m') k x

  less : ((eqb j k ≡ true) × (j ≡ k)) ⊎ ((eqb j k ≡ false) × (j ≢ k)) → Less
  less (inl same) =
      let at_k : slice_get lists k ≡ Some (y ∷ m) = ap (slice_get lists) (sym same.1) ∙ at in
      let l_is : g.l ≡ y ∷ m = some_eq (sym g.was ∙ at_k) in
      let now : slice_get lists' j ≡ Some (y ∷ (m ++ x ∷ [])) = ap (slice_get lists') same.1 ∙ (g.is ∙ ap (λ l. Some (l ++ x ∷ [])) l_is) in
      record {
        m' = m ++ x ∷ [];
        at' = now;
        grows = record {
          l = m;
          was = ap (slice_get (slice_set lists j m)) (sym same.1) ∙ slice_get_written lists j (y ∷ m) m at;
          is = ap (slice_get (slice_set lists' j (m ++ x ∷ []))) (sym same.1) ∙ slice_get_written lists' j (y ∷ (m ++ x ∷ [])) (m ++ x ∷ []) now;
          others = λ i ne. slice_get_beside lists' j i (m ++ x ∷ []) (λ e. ne (e ∙ same.1)) ∙ (g.others i ne ∙ sym (slice_get_beside lists j i m (λ e. ne (e ∙ same.1))));
        };
      }
  less (inr other) =
      let now : slice_get lists' j ≡ Some (y ∷ m) = g.others j other.1 ∙ at in
      record {
        m' = m;
        at' = now;
        grows = record {
          l = g.l;
          was = slice_get_beside lists j k m (λ e. other.1 (sym e)) ∙ g.was;
          is = slice_get_beside lists' j k m (λ e. other.1 (sym e)) ∙ g.is;
          others = λ i ne. beside i ne (eqb_tells i j) now;
        };
      }
    where
      beside : (i : ℕ) → (i ≡ k → ⊥) → ((eqb i j ≡ true) × (i ≡ j)) ⊎ ((eqb i j ≡ false) × (i ≢ j)) → slice_get lists' j ≡ Some (y ∷ m) → slice_get (slice_set lists' j m) i ≡ slice_get (slice_set lists j m) i
      beside i ne (inl here) now = ap (slice_get (slice_set lists' j m)) here.1 ∙ (slice_get_written lists' j (y ∷ m) m now ∙ sym (ap (slice_get (slice_set lists j m)) here.1 ∙ slice_get_written lists j (y ∷ m) m at))
      beside i ne (inr there) now = slice_get_beside lists' j i m there.1 ∙ (g.others i ne ∙ sym (slice_get_beside lists j i m there.1))

pub merge_more : {T : Type 0} (lists : List (List T)) (all : List T) → Merge lists all → (lists' : List (List T)) (k : ℕ) (x : T) → Grows lists lists' k x → Merge lists' (all ++ x ∷ [])
merge_more _ _ (merge_none lists empty) lists' k x g = merge_one lists lists' k x g empty
merge_more _ _ (merge_next lists j y m all at rest) lists' k x g =
    let s = less lists lists' k j x y m g at (eqb_tells j k) in
    merge_next lists' j y s.m' (all ++ x ∷ []) s.at' (merge_more (slice_set lists j m) all rest (slice_set lists' j s.m') k x s.grows)

-- what was taken at one queue goes on the merge
module _ (qs : List QueueId) (taken took : Lists) (k : ℕ) (q : QueueId) (at : slice_get qs k ≡ Some q) (apart : AreApart qs) where
  took_beside : (c : List Cargo) → ((n : ℕ) → took n ≡ if_there (q.0 == n) c) → (j : ℕ) (q' : QueueId) → (j ≡ k → ⊥) → slice_get qs j ≡ Some q' → ((eqb q.0 q'.0 ≡ true) × (q.0 ≡ q'.0)) ⊎ ((eqb q.0 q'.0 ≡ false) × (q.0 ≢ q'.0)) → took q'.0 ≡ []
  took_beside c takes j q' ne there (inl same) = absurd (ne (sym (apart k j q q' at there same.1)))
  took_beside c takes j q' ne there (inr other) = takes q'.0 ∙ ap (λ b. if_there b c) other.0

  stays : (c : List Cargo) → ((n : ℕ) → took n ≡ if_there (q.0 == n) c) → (j : ℕ) → (j ≡ k → ⊥) → (o : Option QueueId) → slice_get qs j ≡ o → option_map (λ (y : QueueId). with taken took y.0) o ≡ option_map (λ (y : QueueId). taken y.0) o
  stays c takes j ne None there = refl
  stays c takes j ne (Some q') there = ap Some (ap (λ c. taken q'.0 ++ c) (took_beside c takes j q' ne there (eqb_tells q.0 q'.0)) ∙ append-nil (taken q'.0))

  grows_by : (x : Cargo) → ((n : ℕ) → took n ≡ if_there (q.0 == n) (x ∷ [])) → Grows (taken_from qs taken) (taken_from qs (with taken took)) k x
  grows_by x takes = record {
    l = taken q.0;
    was = slice_get-map (λ (y : QueueId). taken y.0) qs k ∙ ap (option_map (λ (y : QueueId). taken y.0)) at;
    is = slice_get-map (λ (y : QueueId). with taken took y.0) qs k ∙ (ap (option_map (λ (y : QueueId). with taken took y.0)) at ∙ ap (λ c. Some (taken q.0 ++ c)) (takes q.0 ∙ if_there_here q.0 (x ∷ [])));
    others = λ j ne. slice_get-map (λ (y : QueueId). with taken took y.0) qs j ∙ (stays (x ∷ []) takes j ne (slice_get qs j) refl ∙ sym (slice_get-map (λ (y : QueueId). taken y.0) qs j));
  }

  pub merge_some : (x : Cargo) → ((n : ℕ) → took n ≡ if_there (q.0 == n) (x ∷ [])) → (all : List Cargo) → Merge (taken_from qs taken) all → Merge (taken_from qs (with taken took)) (all ++ x ∷ [])
  merge_some x takes all h = merge_more (taken_from qs taken) all h (taken_from qs (with taken took)) k x (grows_by x takes)

if_there_nothing : (b : Bool) → if_there b [] ≡ []
if_there_nothing true = refl
if_there_nothing false = refl

-- lists that stay
pub same_taken : (qs : List QueueId) (taken took : Lists) → ((n : ℕ) → took n ≡ []) → taken_from qs (with taken took) ≡ taken_from qs taken
same_taken [] taken took h = refl
same_taken (q ∷ qs) taken took h = ap (λ l. l ∷ taken_from qs (with taken took)) (ap (λ c. taken q.0 ++ c) (h q.0) ∙ append-nil (taken q.0)) ∙ ap (λ ls. taken q.0 ∷ ls) (same_taken qs taken took h)

pub merge_taken : (qs : List QueueId) (taken took : Lists) (k : ℕ) (q : QueueId) (came : Option Cargo) → slice_get qs k ≡ Some q → AreApart qs → ((n : ℕ) → took n ≡ if_there (q.0 == n) (option_to_list came)) → (all : List Cargo) → Merge (taken_from qs taken) all → Merge (taken_from qs (with taken took)) (all ++ option_to_list came)
merge_taken qs taken took k q None at apart takes all h = subst (Merge (taken_from qs (with taken took))) (sym (append-nil all)) (subst (λ ls. Merge ls all) (sym (same_taken qs taken took (λ n. takes n ∙ if_there_nothing (q.0 == n)))) h)
merge_taken qs taken took k q (Some x) at apart takes all h = merge_some qs taken took k q at apart x takes all h

-- at the start nothing was taken
none_taken : (qs : List QueueId) (k : ℕ) (l : List Cargo) → slice_get (taken_from qs (λ n. [])) k ≡ Some l → l ≡ []
none_taken [] k l h = cc
none_taken (q ∷ qs) zero l h = sym (some_eq h)
none_taken (q ∷ qs) (suc k) l h = none_taken qs k l h

pub merge_start : (qs : List QueueId) → Merge (taken_from qs (λ n. [])) []
merge_start qs = merge_none (taken_from qs (λ n. [])) (none_taken qs)

-- an actor took from one of its queues
pub merge_on : (qs qs' : List QueueId) (taken took : Lists) (k : ℕ) (q : QueueId) (came : Option Cargo) → qs' ≡ qs → slice_get qs k ≡ Some q → AreApart qs → ((n : ℕ) → took n ≡ if_there (q.0 == n) (option_to_list came)) → (all all' : List Cargo) → all' ≡ all ++ option_to_list came → Merge (taken_from qs taken) all → Merge (taken_from qs' (with taken took)) all'
merge_on qs qs' taken took k q came same at apart takes all all' e h = rw (same, e) (merge_taken qs taken took k q came at apart takes all h)

-- what came in found nothing loaded
pub no_load : (load came : Option Cargo) (need : Bool) → is_some load ≡ not need → (IsSome came → need ≡ true) → is_some came ≡ true → load ≡ None
no_load load None need e f some = cc
no_load None (Some x) need e f some = refl
no_load (Some y) (Some x) need e f some = let n : need ≡ true = f refl in let no_such : is_some (Some y) ≡ not true = e ∙ ap not n in cc

pub loaded_now : (s p : List Cargo) (load came : Option Cargo) → p ≡ [] → load ≡ None → (s ++ p) ++ option_to_list came ≡ (s ++ option_to_list load) ++ option_to_list came
loaded_now s p load came e f = rw (e, f) refl

pub loaded_still : (s p : List Cargo) (load came : Option Cargo) → p ≡ [] → is_some came ≡ false → (s ++ p) ++ option_to_list load ≡ (s ++ option_to_list load) ++ option_to_list came
loaded_still s p load None e f = rw (e, append-nil s, append-nil (s ++ option_to_list load)) refl
loaded_still s p load (Some x) e f = cc
