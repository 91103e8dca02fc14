-- What passes at the ends of an actor of a bus, counted by the buffers that its items name.
use Rattle.std.proofs.Common.{◌≡◌, ◌+◌, ◌*◌, ◌/◌, ◌≤◌, ◌⊎◌, inl, inr, ℕ, nat_lt, Bool, true, false, cond, List, [], ◌∷◌, sum_by, refl, sym, ap, ◌∙◌, subst, arith}
use Rattle.std.proofs.lemmas.List.Sums.{sum_by-cons}
use Rattle.cargo_core.specs.declared.item.Item.{Item}
use Rattle.wire_core.specs.Lists.{Passed}
use Rattle.wire_core.specs.Ends.{Role, Consumer, Producer}
use Rattle.wire_core.specs.Queues.{items_of}
use Rattle.play_core.specs.Moved.{Moved, Seat}
use Rattle.play_core.specs.Wants.{intake, outlet}
use Rattle.play_core.specs.Rests.Showing.{HaveItems}
use Rattle.owner_law.specs.Things.{Buffer, Window, Names, NoBuffers, Buffers, Naming, Thing, Nothing, Whole, things_from, things_sent, things_taken, requests_of, names_in, times, as_buffer, as_lease, lends}
use Rattle.owner_law.specs.Keeping.{Keeps, at_start, by_role, things_in, things_out, all_taken, all_put}
use Rattle.owner_law.proofs.Sums.{sum_flat, sum_none}
use Rattle.owner_law.proofs.Counting.{nothing_sum}
use Rattle.owner_law.proofs.Named.{buffers_are, buffers_none, keeps_plain}
use Rattle.bus_law.specs.BusOwners.Naming.{own_window, shared_windows, bus_naming}

-- each queue names whole buffers or nothing
pub named_plainly : (clients n : ℕ) → (bus_naming clients n ≡ NoBuffers) ⊎ ((ws : List Window) × (bus_naming clients n ≡ Buffers ws))
named_plainly clients n = by (nat_lt n (2 * clients)) (nat_lt n (2 * clients + 4)) refl refl
  where
    by : (s t : Bool) → nat_lt n (2 * clients) ≡ s → nat_lt n (2 * clients + 4) ≡ t → (bus_naming clients n ≡ NoBuffers) ⊎ ((ws : List Window) × (bus_naming clients n ≡ Buffers ws))
    by true t h i = inr (own_window (n / 2) ∷ [], ap (λ b. cond b (Buffers (own_window (n / 2) ∷ [])) (cond (nat_lt n (2 * clients + 4)) (Buffers (shared_windows 0 clients)) NoBuffers)) h)
    by false true h i = inr (shared_windows 0 clients, ap (λ b. cond b (Buffers (own_window (n / 2) ∷ [])) (cond (nat_lt n (2 * clients + 4)) (Buffers (shared_windows 0 clients)) NoBuffers)) h ∙ ap (λ b. cond b (Buffers (shared_windows 0 clients)) NoBuffers) i)
    by false false h i = inl (ap (λ b. cond b (Buffers (own_window (n / 2) ∷ [])) (cond (nat_lt n (2 * clients + 4)) (Buffers (shared_windows 0 clients)) NoBuffers)) h ∙ ap (λ b. cond b (Buffers (shared_windows 0 clients)) NoBuffers) i)

module _ (clients : ℕ) (m : Moved) where
  abbrev pub naming : Naming
  naming = bus_naming clients

  -- what is nothing of a whole buffer is nothing of all that passes
  none_sum : (f : Thing → ℕ) → f Nothing ≡ 0 → ((c : Buffer) → f (Whole c) ≡ 0) → (n : ℕ) (items : List Item) → sum_by f (things_from (naming n) (requests_of (naming n) m) 0 items) ≡ 0
  none_sum f none whole n items = by (named_plainly clients n)
    where
      by : (naming n ≡ NoBuffers) ⊎ ((ws : List Window) × (naming n ≡ Buffers ws)) → sum_by f (things_from (naming n) (requests_of (naming n) m) 0 items) ≡ 0
      by (inl h) = subst (λ (x : Names). sum_by f (things_from x (requests_of x m) 0 items) ≡ 0) (sym h) (nothing_sum f none [] 0 items)
      by (inr h) = buffers_none naming m n items h.0 f h.1 none whole

  -- none of it is lent, or leave to read
  none_in : (f : Thing → ℕ) → f Nothing ≡ 0 → ((c : Buffer) → f (Whole c) ≡ 0) → (ends : List Seat) → sum_by f (all_taken naming m ends) ≡ 0
  none_in f none whole ends = sum_flat f (things_in naming m) ends ∙ sum_none (λ s. sum_by f (things_in naming m s)) ends (λ i s at. by s)
    where
      by : (s : Seat) → sum_by f (things_in naming m s) ≡ 0
      by s = role s s.role refl
        where
          role : (s : Seat) (r : Role) → s.role ≡ r → sum_by f (things_in naming m s) ≡ 0
          role s Consumer e = ap (λ r. sum_by f (by_role r (things_taken naming m s.queue) [])) e ∙ none_sum f none whole s.queue (m.taken s.queue)
          role s Producer e = ap (λ r. sum_by f (by_role r (things_taken naming m s.queue) [])) e

  none_out : (f : Thing → ℕ) → f Nothing ≡ 0 → ((c : Buffer) → f (Whole c) ≡ 0) → (ends : List Seat) → sum_by f (all_put naming m ends) ≡ 0
  none_out f none whole ends = sum_flat f (things_out naming m) ends ∙ sum_none (λ s. sum_by f (things_out naming m s)) ends (λ i s at. role s s.role refl)
    where
      role : (s : Seat) (r : Role) → s.role ≡ r → sum_by f (things_out naming m s) ≡ 0
      role s Consumer e = ap (λ r. sum_by f (by_role r [] (things_sent naming m s.queue))) e
      role s Producer e = ap (λ r. sum_by f (by_role r [] (things_sent naming m s.queue))) e ∙ none_sum f none whole s.queue (m.sent s.queue)

  -- so an actor keeps where it puts no buffer more often than it had it and took it
  pub plainly_keeps : (hand : ℕ → List ℕ) (ends : List Seat) → ((b : Buffer) → sum_by (as_buffer b) (all_put naming m ends) ≤ at_start hand b + sum_by (as_buffer b) (all_taken naming m ends)) → Keeps hand (all_taken naming m ends) (all_put naming m ends)
  plainly_keeps hand ends few = keeps_plain hand (all_taken naming m ends) (all_put naming m ends) (λ b. none_in (lends b) refl (λ c. refl) ends) few (λ b. let z = none_out (as_lease b) refl (λ c. refl) ends in omega (arith, z))

  -- what passes at one end, and at all
  abbrev pub took_at : Buffer → Seat → ℕ
  took_at b s = sum_by (as_buffer b) (things_in naming m s)

  abbrev pub put_at : Buffer → Seat → ℕ
  put_at b s = sum_by (as_buffer b) (things_out naming m s)

  pub took_sum : (b : Buffer) (ends : List Seat) → sum_by (as_buffer b) (all_taken naming m ends) ≡ sum_by (took_at b) ends
  took_sum b ends = sum_flat (as_buffer b) (things_in naming m) ends

  pub put_sum : (b : Buffer) (ends : List Seat) → sum_by (as_buffer b) (all_put naming m ends) ≡ sum_by (put_at b) ends
  put_sum b ends = sum_flat (as_buffer b) (things_out naming m) ends

  module _ (passed : Passed) (items : HaveItems passed m) where
    pub took_times : (b : Buffer) (n : ℕ) (ws : List Window) → naming n ≡ Buffers ws → took_at b (intake n) ≡ times b (names_in ws (items_of (passed.taken n)))
    took_times b n ws is = buffers_are naming m n (m.taken n) ws (as_buffer b) b is refl (λ c. refl) ∙ ap (λ l. times b (names_in ws l)) (sym (items.taken n))

    pub put_times : (b : Buffer) (n : ℕ) (ws : List Window) → naming n ≡ Buffers ws → put_at b (outlet n) ≡ times b (names_in ws (items_of (passed.sent n)))
    put_times b n ws is = buffers_are naming m n (m.sent n) ws (as_buffer b) b is refl (λ c. refl) ∙ ap (λ l. times b (names_in ws l)) (sym (items.sent n))

-- sums over two ends, and over four
pub sum_two : {X : Type 0} (f : X → ℕ) (x y : X) → sum_by f (x ∷ y ∷ []) ≡ f x + f y
sum_two f x y = let a = sum_by-cons f x (y ∷ []) in let b = sum_by-cons f y [] in omega (arith, a, b)

pub sum_four : {X : Type 0} (f : X → ℕ) (x y z w : X) → sum_by f (x ∷ y ∷ z ∷ w ∷ []) ≡ f x + f y + f z + f w
sum_four f x y z w = let a = sum_by-cons f x (y ∷ z ∷ w ∷ []) in let b = sum_by-cons f y (z ∷ w ∷ []) in let c = sum_two f z w in omega (arith, a, b, c)
