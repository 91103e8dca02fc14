use Rattle.std.proofs.Common.{◌≡◌, ◌⊎◌, ◌+◌, ◌<◌, ◌≤◌, ℕ, zero, suc, Bool, true, false, cond, Option, Some, List, [], ◌∷◌, ◌++◌, length, slice_get, sum_by, flat_map, refl, sym, ap, ◌∙◌, subst, arith, inl, inr}
use Rattle.std.proofs.lemmas.Bool.{cases_lt}
use Rattle.std.proofs.lemmas.List.Sums.{sum_by-cons}
use Rattle.frame_core.specs.declared.mac.Mac.{Mac}
use Rattle.wire_core.specs.declared.names.QueueId.{QueueId}
use Rattle.wire_core.specs.Deeds.{Cargo}
use Rattle.play_core.specs.Moved.{Seat}
use Rattle.play_core.specs.Wants.{intake, outlet}
use Rattle.owner_law.specs.Things.{Buffer, Window, buffer_of}
use Rattle.class_expect.specs.NetExpect.Expecting.{is_for_client}
use Rattle.net_law.specs.Owners.Lending.{Borrower, borrower_ends, names_where}
use Rattle.net_law.specs.RxOwners.Virtualiser.{borrowers}
use Rattle.net_law.proofs.RxOwners.Virtualisers.{names_of}

pub where_split : (test : ℕ → Bool) (k : ℕ) (xs ys : List (Option Buffer)) → names_where test k (xs ++ ys) ≡ names_where test k xs ++ names_where test (k + length xs) ys
where_split test k [] ys = ap (λ n. names_where test n ys) plus
  where
    plus : k ≡ k + 0
    plus = omega arith
where_split test k (x ∷ xs) ys = by (test k) (where_split test (k + 1) xs ys ∙ ap (λ n. names_where test (k + 1) xs ++ names_where test n ys) shift)
  where
    shift : k + 1 + length xs ≡ k + length (x ∷ xs)
    shift = omega arith

    by : (t : Bool) → names_where test (k + 1) (xs ++ ys) ≡ names_where test (k + 1) xs ++ names_where test (k + length (x ∷ xs)) ys → cond t (x ∷ names_where test (k + 1) (xs ++ ys)) (names_where test (k + 1) (xs ++ ys)) ≡ cond t (x ∷ names_where test (k + 1) xs) (names_where test (k + 1) xs) ++ names_where test (k + length (x ∷ xs)) ys
    by true rest = ap (λ zs. x ∷ zs) rest
    by false rest = rest

pub names_parts : (w : Window) (xs ys : List Cargo) → names_of w (xs ++ ys) ≡ names_of w xs ++ names_of w ys
names_parts w [] ys = refl
names_parts w (x ∷ xs) ys = ap (λ zs. buffer_of (w ∷ []) x.0 ∷ zs) (names_parts w xs ys)

-- a client at a place
abbrev pub Client : (ℕ → List ℕ) → List Mac → List QueueId → List QueueId → ℕ → Borrower → Type 0
Client frame macs to from k c = (mac : Mac) × (q : QueueId) × (r : QueueId) × (slice_get macs k ≡ Some mac) × (slice_get to k ≡ Some q) × (slice_get from k ≡ Some r) × (c ≡ record { active = q.0; free = r.0; is_for = λ n. is_for_client mac (frame n) })

pub client_at : (frame : ℕ → List ℕ) (macs : List Mac) (to from : List QueueId) (k : ℕ) (c : Borrower) → slice_get (borrowers frame macs to from) k ≡ Some c → Client frame macs to from k c
client_at frame [] to from k c at = cc
client_at frame (mac ∷ macs) [] from k c at = cc
client_at frame (mac ∷ macs) (q ∷ to) [] k c at = cc
client_at frame (mac ∷ macs) (q ∷ to) (r ∷ from) zero c at = (mac, q, r, refl, refl, refl, sym (Rattle.play_core.proofs.Lists.some_is at))
client_at frame (mac ∷ macs) (q ∷ to) (r ∷ from) (suc k) c at = client_at frame macs to from k c at

-- where one sum is less than another, a term is
pub some_less : (f g : Borrower → ℕ) (cs : List Borrower) → sum_by f cs < sum_by g cs → (k : ℕ) × (c : Borrower) × (slice_get cs k ≡ Some c) × (f c < g c)
some_less f g [] lt = absurd (omega (arith, lt))
some_less f g (c ∷ cs) lt = by (cases_lt (f c) (g c)) (some_less f g cs)
  where
    by : (f c < g c) ⊎ (g c ≤ f c) → (sum_by f cs < sum_by g cs → (k : ℕ) × (d : Borrower) × (slice_get cs k ≡ Some d) × (f d < g d)) → (k : ℕ) × (d : Borrower) × (slice_get (c ∷ cs) k ≡ Some d) × (f d < g d)
    by (inl less) rest = (0, c, refl, less)
    by (inr more) rest = let x = rest (omega (arith, lt, more, sum_by-cons f c cs, sum_by-cons g c cs)) in (suc x.0, x.1, x.2, x.3)

pub same_sums : (f g : Borrower → ℕ) (cs : List Borrower) → ((k : ℕ) (c : Borrower) → slice_get cs k ≡ Some c → f c ≡ g c) → sum_by f cs ≡ sum_by g cs
same_sums f g [] each = refl
same_sums f g (c ∷ cs) each = omega (arith, sum_by-cons f c cs, sum_by-cons g c cs, each 0 c refl, same_sums f g cs (λ k d at. each (suc k) d at))

-- what is so of the ends at all clients is so of those at each
pub ends_at : (E : Seat → Type 0) (cs : List Borrower) → ((i : ℕ) (s : Seat) → slice_get (flat_map borrower_ends cs) i ≡ Some s → E s) → (k : ℕ) (c : Borrower) → slice_get cs k ≡ Some c → E (outlet c.active) × E (intake c.free)
ends_at E [] each k c at = cc
ends_at E (d ∷ cs) each zero c at = subst (λ (x : Borrower). E (outlet x.active) × E (intake x.free)) (Rattle.play_core.proofs.Lists.some_is at) (each 0 (outlet d.active) refl, each 1 (intake d.free) refl)
ends_at E (d ∷ cs) each (suc k) c at = ends_at E cs (λ i s is. each (suc (suc i)) s is) k c at
