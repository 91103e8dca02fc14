use Rattle.std.proofs.Common.{◌≡◌, ◌⊎◌, ◌==◌, ◌&&◌, ◌+◌, ◌≢◌, ℕ, Bool, true, false, Some, List, [], length, slice_get, sum_by, refl, sym, ap, ap₂, ◌∙◌, eqb-true, eq-eqb, inl, inr}
use Rattle.std.proofs.Math.Dec.{eqb}
use Rattle.std.proofs.lemmas.Bool.Decides.{eqb_tells}
use Rattle.cargo_core.specs.declared.item.Item.{Item}
use Rattle.wire_core.specs.declared.names.QueueRow.{QueueRow}
use Rattle.wire_core.specs.Ends.{Role, Consumer, Producer}
use Rattle.wire_core.specs.Marks.{is_role}
use Rattle.wire_core.specs.Journal.{owner_of}
use Rattle.play_core.specs.Moved.{Moved, Seat}
use Rattle.play_core.proofs.Lists.{some_is}
use Rattle.owner_law.specs.Things.{Window, Answers, Naming, Thing, requests_of, things_sent, things_taken}
use Rattle.owner_law.specs.Keeping.{Keeper, things_in, things_out, by_role, all_taken, all_put, AreKeepers}
use Rattle.owner_law.proofs.Sums.{when, both, sum_flat, sum_both, sum_none, sum_one}
use Rattle.owner_law.proofs.Lists.{Moves, Enough, put_sum, take_sum, sent_sum, taken_sum}

-- what is new at queue n is an end's that is there in this role
abbrev pub is_its : Role → ℕ → Seat → Bool
is_its r n s = is_role s.role r && (n == s.queue)

role_is : (a b : Role) → is_role a b ≡ true → a ≡ b
role_is Consumer Consumer h = refl
role_is Producer Producer h = refl
role_is Consumer Producer h = cc
role_is Producer Consumer h = cc

role_self : (r : Role) → is_role r r ≡ true
role_self Consumer = refl
role_self Producer = refl

not_so : (b : Bool) (d : ℕ) → (b ≡ true → ⊥) → when b d ≡ 0
not_so true d h = absurd (h refl)
not_so false d h = refl

abbrev seat_at : Role → ℕ → Seat
seat_at r n = record { queue = n; role = r }

-- an owner has it once, and nobody else has it
pub share_sum : (rows : List QueueRow) (keepers : List Keeper) → AreKeepers rows keepers → (n : ℕ) (row : QueueRow) → slice_get rows n ≡ Some row → (r : Role) (d j : ℕ) (p : Keeper) → slice_get keepers j ≡ Some p → sum_by (λ s. when (is_its r n s) d) p.ends ≡ when (owner_of row r == j) d
share_sum rows keepers are n row there r d j p at = by (eqb_tells (owner_of row r) j)
  where
    is_seat : (s : Seat) → is_its r n s ≡ true → s ≡ seat_at r n
    is_seat s h =
        let two = both (is_role s.role r) (n == s.queue) h in
        ap₂ (λ (q : ℕ) (x : Role). let y : Seat = record { queue = q; role = x } in y) (sym (eqb-true n s.queue two.1)) (role_is s.role r two.0)

    by : ((eqb (owner_of row r) j ≡ true) × (owner_of row r ≡ j)) ⊎ ((eqb (owner_of row r) j ≡ false) × (owner_of row r ≢ j)) → sum_by (λ s. when (is_its r n s) d) p.ends ≡ when (owner_of row r == j) d
    by (inl h) =
        let its = are.filled j p at (seat_at r n) (row, there, h.1) in
        let here : when (is_its r n (seat_at r n)) d ≡ d = rw (role_self r, eq-eqb n n refl) refl in
        let sums : sum_by (λ s. when (is_its r n s) d) p.ends ≡ d = sum_one (λ s. when (is_its r n s) d) d p.ends its.0 (seat_at r n) its.1 here (λ k y y_at off. not_so (is_its r n y) d (λ yes. off (are.apart j p at k its.0 (seat_at r n) (y_at ∙ ap Some (is_seat y yes)) its.1))) in
        rw h.0 sums
    by (inr h) =
        let none : sum_by (λ s. when (is_its r n s) d) p.ends ≡ 0 = sum_none (λ s. when (is_its r n s) d) p.ends (λ i s s_at. not_so (is_its r n s) d (λ yes. away i s s_at (is_seat s yes))) in
        rw h.0 none
      where
        away : (i : ℕ) (s : Seat) → slice_get p.ends i ≡ Some s → s ≡ seat_at r n → ⊥
        away i s s_at same =
            let owned = are.seated j p at i (seat_at r n) (s_at ∙ ap Some same) in
            let row_same : owned.0 ≡ row = some_is (sym owned.1 ∙ there) in
            h.1 (ap (λ (x : QueueRow). owner_of x r) (sym row_same) ∙ owned.2)

-- what passes at the ends of an actor with one entry more
module _ (naming : Naming) (answers : (n q : ℕ) (ws : List Window) → naming n ≡ Answers q ws → n ≡ q → ⊥) (m m' : Moved) (n : ℕ) (puts takes : List Item) (moves : Moves m m' n puts takes) (sent_enough : (q : ℕ) → Enough (naming q) (requests_of (naming q) m) (length (m.sent q))) (taken_enough : (q : ℕ) → Enough (naming q) (requests_of (naming q) m) (length (m.taken q))) (f : Thing → ℕ) where
  out_more : (r : Role) (q : ℕ) → sum_by f (by_role r [] (things_sent naming m' q)) ≡ sum_by f (by_role r [] (things_sent naming m q)) + when (is_role r Producer && (n == q)) (put_sum naming answers m m' n puts takes moves f)
  out_more Consumer q = refl
  out_more Producer q = sent_sum naming answers m m' n puts takes moves f q (sent_enough q)

  in_more : (r : Role) (q : ℕ) → sum_by f (by_role r (things_taken naming m' q) []) ≡ sum_by f (by_role r (things_taken naming m q) []) + when (is_role r Consumer && (n == q)) (take_sum naming answers m m' n puts takes moves f)
  in_more Consumer q = taken_sum naming answers m m' n puts takes moves f q (taken_enough q)
  in_more Producer q = refl

  module _ (rows : List QueueRow) (keepers : List Keeper) (are : AreKeepers rows keepers) (row : QueueRow) (there : slice_get rows n ≡ Some row) (j : ℕ) (p : Keeper) (at : slice_get keepers j ≡ Some p) where
    pub went_sum : sum_by f (all_put naming m' p.ends) ≡ sum_by f (all_put naming m p.ends) + when (owner_of row Producer == j) (put_sum naming answers m m' n puts takes moves f)
    went_sum =
        sum_flat f (things_out naming m') p.ends
        ∙ (sum_both (λ s. sum_by f (things_out naming m s)) (λ s. sum_by f (things_out naming m' s)) (λ s. when (is_its Producer n s) (put_sum naming answers m m' n puts takes moves f)) (λ s. out_more s.role s.queue) p.ends
        ∙ ap₂ (λ a b. a + b) (sym (sum_flat f (things_out naming m) p.ends)) (share_sum rows keepers are n row there Producer (put_sum naming answers m m' n puts takes moves f) j p at))

    pub came_sum : sum_by f (all_taken naming m' p.ends) ≡ sum_by f (all_taken naming m p.ends) + when (owner_of row Consumer == j) (take_sum naming answers m m' n puts takes moves f)
    came_sum =
        sum_flat f (things_in naming m') p.ends
        ∙ (sum_both (λ s. sum_by f (things_in naming m s)) (λ s. sum_by f (things_in naming m' s)) (λ s. when (is_its Consumer n s) (take_sum naming answers m m' n puts takes moves f)) (λ s. in_more s.role s.queue) p.ends
        ∙ ap₂ (λ a b. a + b) (sym (sum_flat f (things_in naming m) p.ends)) (share_sum rows keepers are n row there Consumer (take_sum naming answers m m' n puts takes moves f) j p at))
