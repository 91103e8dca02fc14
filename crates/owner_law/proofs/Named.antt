use Rattle.std.proofs.Common.{◌≡◌, ◌+◌, ◌≤◌, ℕ, Option, Some, None, List, [], ◌∷◌, ◌++◌, sum_by, refl, sym, ap, subst, arith}
use Rattle.std.proofs.lemmas.Bool.{le-ltb}
use Rattle.std.proofs.lemmas.List.Sums.{sum_by-cons, sum_by-append}
use Rattle.cargo_core.specs.declared.item.Item.{Item}
use Rattle.cargo_core.specs.Lists.{IsPrefix}
use Rattle.wire_core.specs.Bells.{bit}
use Rattle.play_core.specs.Moved.{Moved}
use Rattle.owner_law.specs.Things.{Buffer, is_same, Window, Names, Buffers, Frames, Leases, Returns, Naming, Thing, Nothing, Whole, Frame, Lease, Return, thing_of, thing_at, things_from, requests_of, buffer_of, names_in, is_named, times, as_buffer, as_lease, lends, gives_back, brings_leases}
use Rattle.owner_law.specs.Keeping.{Keeps, is_out, at_start}

-- a beginning has each buffer no more often
pub times_few : (b : Buffer) (xs ys : List (Option Buffer)) → IsPrefix xs ys → times b xs ≤ times b ys
times_few b xs ys begins = let whole : times b (xs ++ begins.0) ≡ times b ys = ap (times b) begins.1 in omega (arith, sum_by-append (is_named b) xs begins.0, whole)

-- a sum over what items carry is one over the buffers that they name
sum_named : (f : Thing → ℕ) (b : Buffer) (names : Names) (ws : List Window) → ((rs : List Item) (k : ℕ) (i : Item) → f (thing_at names rs k i) ≡ is_named b (buffer_of ws i)) → (rs : List Item) (k : ℕ) (items : List Item) → sum_by f (things_from names rs k items) ≡ times b (names_in ws items)
sum_named f b names ws each rs k [] = refl
sum_named f b names ws each rs k (i ∷ items) = omega (arith, sum_by-cons f (thing_at names rs k i) (things_from names rs (k + 1) items), sum_by-cons (is_named b) (buffer_of ws i) (names_in ws items), each rs k i, sum_named f b names ws each rs (k + 1) items)

sum_zero : (f : Thing → ℕ) (names : Names) → ((rs : List Item) (k : ℕ) (i : Item) → f (thing_at names rs k i) ≡ 0) → (rs : List Item) (k : ℕ) (items : List Item) → sum_by f (things_from names rs k items) ≡ 0
sum_zero f names each rs k [] = refl
sum_zero f names each rs k (i ∷ items) = omega (arith, sum_by-cons f (thing_at names rs k i) (things_from names rs (k + 1) items), each rs k i, sum_zero f names each rs (k + 1) items)

-- what a thing of a buffer is, where there is one
made_is : (f : Thing → ℕ) (make : Buffer → Thing) (b : Buffer) → f Nothing ≡ 0 → ((c : Buffer) → f (make c) ≡ bit (is_same c b)) → (o : Option Buffer) → f (thing_of make o) ≡ is_named b o
made_is f make b none is None = none
made_is f make b none is (Some c) = is c

made_zero : (f : Thing → ℕ) (make : Buffer → Thing) → f Nothing ≡ 0 → ((c : Buffer) → f (make c) ≡ 0) → (o : Option Buffer) → f (thing_of make o) ≡ 0
made_zero f make none is None = none
made_zero f make none is (Some c) = is c

-- the sum over what items of a queue carry, by what its items name
module _ (naming : Naming) (m : Moved) (q : ℕ) (items : List Item) where
  abbrev pub carried : (Thing → ℕ) → ℕ
  carried f = sum_by f (things_from (naming q) (requests_of (naming q) m) 0 items)

  by_names : (f : Thing → ℕ) (names : Names) (d : ℕ) → naming q ≡ names → ((rs : List Item) → sum_by f (things_from names rs 0 items) ≡ d) → carried f ≡ d
  by_names f names d eq is = subst (λ (x : Names). sum_by f (things_from x (requests_of x m) 0 items) ≡ d) (sym eq) (is (requests_of names m))

  pub buffers_are : (ws : List Window) (f : Thing → ℕ) (b : Buffer) → naming q ≡ Buffers ws → f Nothing ≡ 0 → ((c : Buffer) → f (Whole c) ≡ bit (is_same c b)) → carried f ≡ times b (names_in ws items)
  buffers_are ws f b eq none is = by_names f (Buffers ws) (times b (names_in ws items)) eq (λ rs. sum_named f b (Buffers ws) ws (λ rs k i. made_is f Whole b none is (buffer_of ws i)) rs 0 items)

  pub buffers_none : (ws : List Window) (f : Thing → ℕ) → naming q ≡ Buffers ws → f Nothing ≡ 0 → ((c : Buffer) → f (Whole c) ≡ 0) → carried f ≡ 0
  buffers_none ws f eq none is = by_names f (Buffers ws) 0 eq (λ rs. sum_zero f (Buffers ws) (λ rs k i. made_zero f Whole none is (buffer_of ws i)) rs 0 items)

  pub frames_are : (ws : List Window) (receivers : ℕ → ℕ) (f : Thing → ℕ) (b : Buffer) → naming q ≡ Frames ws receivers → f Nothing ≡ 0 → ((c : Buffer) (r : ℕ) → f (Frame c r) ≡ bit (is_same c b)) → carried f ≡ times b (names_in ws items)
  frames_are ws receivers f b eq none is = by_names f (Frames ws receivers) (times b (names_in ws items)) eq (λ rs. sum_named f b (Frames ws receivers) ws (λ rs k i. made_is f (λ c. Frame c (receivers k)) b none (λ c. is c (receivers k)) (buffer_of ws i)) rs 0 items)

  pub frames_none : (ws : List Window) (receivers : ℕ → ℕ) (f : Thing → ℕ) → naming q ≡ Frames ws receivers → f Nothing ≡ 0 → ((c : Buffer) (r : ℕ) → f (Frame c r) ≡ 0) → carried f ≡ 0
  frames_none ws receivers f eq none is = by_names f (Frames ws receivers) 0 eq (λ rs. sum_zero f (Frames ws receivers) (λ rs k i. made_zero f (λ c. Frame c (receivers k)) none (λ c. is c (receivers k)) (buffer_of ws i)) rs 0 items)

  pub leases_are : (ws : List Window) (f : Thing → ℕ) (b : Buffer) → naming q ≡ Leases ws → f Nothing ≡ 0 → ((c : Buffer) → f (Lease c) ≡ bit (is_same c b)) → carried f ≡ times b (names_in ws items)
  leases_are ws f b eq none is = by_names f (Leases ws) (times b (names_in ws items)) eq (λ rs. sum_named f b (Leases ws) ws (λ rs k i. made_is f Lease b none is (buffer_of ws i)) rs 0 items)

  pub leases_none : (ws : List Window) (f : Thing → ℕ) → naming q ≡ Leases ws → f Nothing ≡ 0 → ((c : Buffer) → f (Lease c) ≡ 0) → carried f ≡ 0
  leases_none ws f eq none is = by_names f (Leases ws) 0 eq (λ rs. sum_zero f (Leases ws) (λ rs k i. made_zero f Lease none is (buffer_of ws i)) rs 0 items)

  pub returns_are : (ws : List Window) (f : Thing → ℕ) (b : Buffer) → naming q ≡ Returns ws → f Nothing ≡ 0 → ((c : Buffer) → f (Return c) ≡ bit (is_same c b)) → carried f ≡ times b (names_in ws items)
  returns_are ws f b eq none is = by_names f (Returns ws) (times b (names_in ws items)) eq (λ rs. sum_named f b (Returns ws) ws (λ rs k i. made_is f Return b none is (buffer_of ws i)) rs 0 items)

  pub returns_none : (ws : List Window) (f : Thing → ℕ) → naming q ≡ Returns ws → f Nothing ≡ 0 → ((c : Buffer) → f (Return c) ≡ 0) → carried f ≡ 0
  returns_none ws f eq none is = by_names f (Returns ws) 0 eq (λ rs. sum_zero f (Returns ws) (λ rs k i. made_zero f Return none is (buffer_of ws i)) rs 0 items)

-- an actor that lends nothing keeps where it puts no more than it had and took
pub keeps_plain : (hand : ℕ → List ℕ) (took put : List Thing) → ((b : Buffer) → sum_by (lends b) took ≡ 0) → ((b : Buffer) → sum_by (as_buffer b) put ≤ at_start hand b + sum_by (as_buffer b) took) → ((b : Buffer) → sum_by (as_lease b) put ≤ sum_by (brings_leases b) took) → Keeps hand took put
keeps_plain hand took put lent buffers leases = record {
  buffers = λ b. omega (arith, buffers b, none b);
  leases = leases;
}
  where
    none : (b : Buffer) → bit (is_out b took) ≡ 0
    none b = ap bit (le-ltb (sum_by (gives_back b) took) (sum_by (lends b) took) (omega (arith, lent b)))
