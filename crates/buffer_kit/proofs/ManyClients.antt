-- The clients of a virtualiser in their order: which are so, what they have together, and what
-- stays where one of them changes.
use Rattle.std.proofs.Common.{◌≡◌, ◌⊎◌, ◌+◌, ◌<◌, ◌≤◌, ◌==◌, ◌||◌, ℕ, zero, suc, Bool, true, false, inl, inr, Option, Some, None, List, [], ◌∷◌, ◌++◌, All, length, take, flat_map, slice_get, slice_set, slice_index_or, refl, sym, ap, ◌∙◌, eq-eqb, ne_eqb, arith}
use Rattle.std.specs.List.{list_any}
use Rattle.std.specs.Option.{is_some, option_to_list}
use Rattle.std.proofs.lemmas.Option.{slice_get-get_or, get_or_from_slice_get}
use Rattle.std.proofs.lemmas.List.{append-nil}
use Rattle.std.proofs.lemmas.List.Elements.{All-nil, All-cons}
use Rattle.cargo_core.specs.declared.item.PoolId.{PoolId}
use Rattle.wire_core.specs.declared.names.Event.{Event}
use Rattle.wire_core.specs.declared.names.QueueId.{QueueId}
use Rattle.wire_core.specs.Deeds.{Cargo}
use Rattle.wire_core.specs.Lists.{Lists, Passed, with, if_there}
use Rattle.wire_core.proofs.Places.{if_there_here, slice_get_written, slice_get_beside}
use Rattle.turn_kit.specs.ManyEnds.{AreApart}
use Rattle.turn_kit.specs.Hands.{bodies_of}
use Rattle.turn_kit.proofs.Holding.{cargo-append}
use Rattle.buffer_kit.specs.Clients.{carried, entry_in, is_so, queue_at, with_more}
use Rattle.buffer_kit.specs.Conserving.{Count, weighed, of_pool}
use Rattle.buffer_kit.proofs.Conserving.{weighed-append, pool_counted}
use Rattle.buffer_kit.proofs.Passing.{none_more, beside}

pub some_eq : {X : Type 0} {a b : X} → Some a ≡ Some b → a ≡ b
some_eq h = cc

-- which of them are so
or_true : (b : Bool) → (b || true) ≡ true
or_true true = refl
or_true false = refl

or_parts : (a b : Bool) → (a || b) ≡ false → (a ≡ false) × (b ≡ false)
or_parts true b h = absurd cc
or_parts false b h = (refl, h)

module _ {C : Type 0} (p : C → Bool) where
  pub so_there : (o : Option C) → is_so p o ≡ true → (c : C) × (o ≡ Some c) × (p c ≡ true)
  so_there None h = cc
  so_there (Some c) h = (c, refl, h)

  pub any_at : (cs : List C) (k : ℕ) (x : C) → slice_get cs k ≡ Some x → p x ≡ true → list_any p cs ≡ true
  any_at [] k x at e = absurd cc
  any_at (y ∷ cs) zero x at e = ap (λ b. b || list_any p cs) (ap p (some_eq at) ∙ e)
  any_at (y ∷ cs) (suc k) x at e = ap (λ b. p y || b) (any_at cs k x at e) ∙ or_true (p y)

  pub none_so : (cs : List C) (k : ℕ) (x : C) → slice_get cs k ≡ Some x → p x ≡ false → list_any p (take k cs) ≡ false → list_any p (take (suc k) cs) ≡ false
  none_so [] k x at e h = absurd cc
  none_so (y ∷ cs) zero x at e h = ap (λ b. b || false) (ap p (some_eq at) ∙ e)
  none_so (y ∷ cs) (suc k) x at e h =
      let q = or_parts (p y) (list_any p (take k cs)) h in
      ap (λ b. b || list_any p (take (suc k) cs)) q.0 ∙ none_so cs k x at e q.1

  pub none_all : (cs : List C) (k : ℕ) → length cs ≤ k → list_any p (take k cs) ≡ false → list_any p cs ≡ false
  none_all [] k l h = refl
  none_all (y ∷ cs) zero l h = absurd (omega (arith, l))
  none_all (y ∷ cs) (suc k) l h =
      let q = or_parts (p y) (list_any p (take k cs)) h in
      ap (λ b. b || list_any p cs) q.0 ∙ none_all cs k (omega (arith, l)) q.1

-- a client that has an entry is there
pub entry_there : {C : Type 0} (f : C → Option Cargo) (o : Option C) → is_some (entry_in f o) ≡ true → (c : C) × (o ≡ Some c) × (is_some (f c) ≡ true)
entry_there f None h = cc
entry_there f (Some c) h = (c, refl, h)

-- what they have together, where one of them changed
module _ {C : Type 0} (cargo : C → List Cargo) (f : Count) where
  pub weighed_set : (cs : List C) (k : ℕ) (c d : C) → slice_get cs k ≡ Some c → weighed f (flat_map cargo (slice_set cs k d)) + weighed f (cargo c) ≡ weighed f (flat_map cargo cs) + weighed f (cargo d)
  weighed_set [] k c d at = absurd cc
  weighed_set (x ∷ cs) zero c d at =
      let a = weighed-append f (cargo d) (flat_map cargo cs) in
      let b = weighed-append f (cargo x) (flat_map cargo cs) in
      let e = ap (λ (y : C). weighed f (cargo y)) (some_eq at) in
      omega (arith, a, b, e)
  weighed_set (x ∷ cs) (suc k) c d at =
      let a = weighed-append f (cargo x) (flat_map cargo (slice_set cs k d)) in
      let b = weighed-append f (cargo x) (flat_map cargo cs) in
      let e = weighed_set cs k c d at in
      omega (arith, a, b, e)

module _ {C : Type 0} (cargo : C → List Cargo) (pool : PoolId) where
  -- a client more of those that were counted
  pub held_more : (cs : List C) (k : ℕ) (c : C) → slice_get cs k ≡ Some c → carried pool (flat_map cargo (take (suc k) cs)) ≡ carried pool (flat_map cargo (take k cs)) + carried pool (cargo c)
  held_more [] k c at = absurd cc
  held_more (x ∷ cs) zero c at =
      let all = cargo-append pool (cargo x) [] in
      let e = ap (λ (y : C). carried pool (cargo y)) (some_eq at) in
      omega (arith, all, e)
  held_more (x ∷ cs) (suc k) c at =
      let a = cargo-append pool (cargo x) (flat_map cargo (take (suc k) cs)) in
      let b = cargo-append pool (cargo x) (flat_map cargo (take k cs)) in
      let e = held_more cs k c at in
      omega (arith, a, b, e)

  -- one of them changed
  pub cargo_set : (cs : List C) (k : ℕ) (c d : C) → slice_get cs k ≡ Some c → carried pool (flat_map cargo (slice_set cs k d)) + carried pool (cargo c) ≡ carried pool (flat_map cargo cs) + carried pool (cargo d)
  cargo_set cs k c d at =
      let all = weighed_set cargo (of_pool pool) cs k c d at in
      omega (arith, all, pool_counted pool (bodies_of (flat_map cargo (slice_set cs k d))), pool_counted pool (bodies_of (cargo c)), pool_counted pool (bodies_of (flat_map cargo cs)), pool_counted pool (bodies_of (cargo d)))

-- a client is the one that changed, or one that was there
module _ {C : Type 0} (cs cs' : List C) (k : ℕ) (was now : C) (there : slice_get cs k ≡ Some was) (set : cs' ≡ slice_set cs k now) where
  pub now_or_was : (j : ℕ) (d : C) → slice_get cs' j ≡ Some d → (k ≡ j) ⊎ (k ≡ j → ⊥) → ((k ≡ j) × (now ≡ d)) ⊎ ((k ≡ j → ⊥) × (slice_get cs j ≡ Some d))
  now_or_was j d at (inl e) = inl (e, some_eq (sym (slice_get_written cs k was now there) ∙ (ap (slice_get (slice_set cs k now)) e ∙ (ap (λ xs. slice_get xs j) (sym set) ∙ at))))
  now_or_was j d at (inr ne) = inr (ne, sym (slice_get_beside cs k j now (λ e. ne (sym e))) ∙ (ap (λ xs. slice_get xs j) (sym set) ∙ at))

  pub now_there : slice_get cs' k ≡ Some now
  now_there = ap (λ xs. slice_get xs k) set ∙ slice_get_written cs k was now there

-- more in the list of one of them
pub there_more : (lists : ℕ → List Cargo) (k j : ℕ) (more : List Cargo) → k ≡ j → with_more lists k more j ≡ lists j ++ more
there_more lists k j more e = ap (λ b. lists j ++ if_there b more) (eq-eqb k j e)

pub other_more : (lists : ℕ → List Cargo) (k j : ℕ) (more : List Cargo) → (k ≡ j → ⊥) → with_more lists k more j ≡ lists j
other_more lists k j more ne = ap (λ b. lists j ++ if_there b more) (ne_eqb k j ne) ∙ append-nil (lists j)

-- where nothing moved, all lists stay
pub nothing : (passed : Passed) (took put : Lists) (calls : List Event) → ((n : ℕ) → took n ≡ []) → ((n : ℕ) → put n ≡ []) → record passed { calls = calls } ≡ record { taken = with passed.taken took; sent = with passed.sent put; calls = calls }
nothing passed took put calls takes puts = sym (λ j. record { taken = none_more passed.taken took takes j; sent = none_more passed.sent put puts j; calls = calls })

pub none_if : (b : Bool) → if_there b [] ≡ []
none_if true = refl
none_if false = refl

-- the queue of a client that is there
pub queue_there : (qs : List QueueId) (k : ℕ) → k < length qs → slice_get qs k ≡ Some (slice_index_or qs k (record { 0 = 0 }))
queue_there qs k there = slice_get-get_or qs k (record { 0 = 0 }) there

pub queue_is : (qs : List QueueId) (k : ℕ) (q : QueueId) → slice_get qs k ≡ Some q → queue_at qs k ≡ q.0
queue_is qs k q at = ap (λ (r : QueueId). r.0) (get_or_from_slice_get qs k q (record { 0 = 0 }) at)

-- what moved at the queue of client k moved at no other client's
pub at_client : (qs : List QueueId) (k : ℕ) (q : QueueId) → slice_get qs k ≡ Some q → AreApart qs → (more : Lists) (x : List Cargo) → ((n : ℕ) → more n ≡ if_there (q.0 == n) x) → (j : ℕ) → j < length qs → (k ≡ j) ⊎ (k ≡ j → ⊥) → more (queue_at qs j) ≡ if_there (k == j) x
at_client qs k q at apart more x h j there (inl e) =
    ap more (ap (queue_at qs) (sym e) ∙ queue_is qs k q at) ∙ (h q.0 ∙ (if_there_here q.0 x ∙ sym (ap (λ b. if_there b x) (eq-eqb k j e))))
at_client qs k q at apart more x h j there (inr ne) =
    h (queue_at qs j) ∙ (beside q.0 (queue_at qs j) x (λ e. ne (apart k j q (slice_index_or qs j (record { 0 = 0 })) at (queue_there qs j there) e)) ∙ sym (ap (λ b. if_there b x) (ne_eqb k j ne)))

-- an entry that may be there
pub all_option : (P : Cargo → Type 0) (s : Option Cargo) → ((c : Cargo) → s ≡ Some c → P c) → All P (option_to_list s)
all_option P None h = All-nil P
all_option P (Some c) h = All-cons P c [] (h c refl) (All-nil P)

pub few_option : (s : Option Cargo) → length (option_to_list s) ≤ 1
few_option None = omega arith
few_option (Some c) = omega arith
