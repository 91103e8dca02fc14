use Rattle.std.proofs.Common.{◌≡◌, ℕ, zero, suc, ◌+◌, ◌<◌, ◌≤◌, inl, inr, Bool, true, false, cond, not, ltb, List, [], ◌∷◌, ◌++◌, length, map, filter, Some, None, is_some, codes, slice_get, refl, ap, arith, length-append}
use Rattle.std.specs.Prelude.{bytes_eq, position}
use Rattle.std.specs.List.{position_or_len, prefix_len}
use Rattle.std.proofs.lemmas.Bool.{cases_lt}
use Rattle.std.proofs.lemmas.Option.{slice_get_within}
use Rattle.sdf_plan.specs.declared.plan.Plan.{Plan}
use Rattle.sdf_plan.specs.declared.plan.Domain.{Domain}
use Rattle.sdf_plan.specs.declared.plan.Region.{Region}
use Rattle.sdf_check.specs.Names.{place_of, region_names_of}
use Rattle.region_layout.specs.Rows.{acts, name_if, devices_of, actors_of, one_if, acting_count}

at_first : {T : Type 0} (p : T → Bool) (xs : List T) (k : ℕ) (x : T) → slice_get xs k ≡ Some x → p x ≡ true
    → ((j : ℕ) (y : T) → j < k → slice_get xs j ≡ Some y → p y ≡ false) → position_or_len p xs ≡ k
at_first p [] k x h is before = cc
at_first p (y ∷ ys) zero x h is before = let same : y ≡ x = cc in rw (same, is) refl
at_first p (y ∷ ys) (suc k) x h is before =
    let isnt : p y ≡ false = before 0 y (omega arith) refl in
    let rest = at_first p ys k x h is (λ j z below. before (suc j) z (omega arith)) in
    rw (isnt, rest) (omega arith)

at_none : {T : Type 0} (p : T → Bool) (xs : List T) → ((j : ℕ) (y : T) → slice_get xs j ≡ Some y → p y ≡ false) → position_or_len p xs ≡ length xs
at_none p [] h = refl
at_none p (y ∷ ys) h =
    let isnt : p y ≡ false = h 0 y refl in
    let rest = at_none p ys (λ j z. h (suc j) z) in
    rw (isnt, rest) (omega arith)

is_below : (a b : ℕ) → a < b → ltb a b ≡ true
is_below a b h = grind (arith, Rattle.std.proofs.lemmas.Bool.Decides.nat_tests)

not_below : (a : ℕ) → ltb a a ≡ false
not_below a = grind (arith, Rattle.std.proofs.lemmas.Bool.Decides.nat_tests)

-- the place of the first element that passes
pub position_found : {T : Type 0} (p : T → Bool) (xs : List T) (k : ℕ) (x : T) → slice_get xs k ≡ Some x → p x ≡ true
    → ((j : ℕ) (y : T) → j < k → slice_get xs j ≡ Some y → p y ≡ false) → Some k ≡ position p xs
position_found p xs k x h is before = rw (at_first p xs k x h is before, is_below k (length xs) (slice_get_within xs k x h)) refl

pub position_none : {T : Type 0} (p : T → Bool) (xs : List T) → ((j : ℕ) (y : T) → j < length xs → slice_get xs j ≡ Some y → p y ≡ false) → None ≡ position p xs
position_none p xs h = rw (at_none p xs (λ j y there. h j y (slice_get_within xs j y there) there), not_below (length xs)) refl

-- none passed so far, and this one doesn't either
pub none_more : {T : Type 0} (p : T → Bool) (xs : List T) (i : ℕ) (x : T) → ((j : ℕ) (y : T) → j < i → slice_get xs j ≡ Some y → p y ≡ false)
    → slice_get xs i ≡ Some x → p x ≡ false → (j : ℕ) (y : T) → j < i + 1 → slice_get xs j ≡ Some y → p y ≡ false
none_more p xs i x h here isnt j y below there = elim (cases_lt j i) [
  | inl before ↦ h j y before there
  | inr after ↦ let at : j ≡ i = omega arith in let same : y ≡ x = (let e = rw at at there in cc) in rw same isnt
]

prefix_map : {X Y : Type 0} (p : Y → Bool) (f : X → Y) (xs : List X) → prefix_len p (map f xs) ≡ prefix_len (λ x. p (f x)) xs
prefix_map p f [] = refl
prefix_map p f (x ∷ xs) = ap (λ n. cond (p (f x)) (1 + n) 0) (prefix_map p f xs)

pub length_map : {X Y : Type 0} (f : X → Y) (xs : List X) → length (map f xs) ≡ length xs
length_map f [] = refl
length_map f (x ∷ xs) = ap suc (length_map f xs)

position_map : {X Y : Type 0} (p : Y → Bool) (f : X → Y) (xs : List X) → position p (map f xs) ≡ position (λ x. p (f x)) xs
position_map p f xs = rw (prefix_map (λ y. not (p y)) f xs, length_map f xs) refl

-- the place of a region, by the names of all
pub place_of_region : (regions : List Region) (name : List ℕ) → place_of name (region_names_of regions) ≡ position (λ (r : Region). bytes_eq r.name name) regions
place_of_region regions name = position_map (λ other. bytes_eq other name) (λ (r : Region). r.name) regions

length_filter : {T : Type 0} (p : T → Bool) (xs : List T) → length (filter p xs) ≤ length xs
length_filter p [] = omega arith
length_filter {T} p (x ∷ xs) = step (p x) (filter p xs) (length xs) (length_filter p xs)
  where
    step : (b : Bool) (rest : List T) (n : ℕ) → length rest ≤ n → length (cond b (x ∷ rest) rest) ≤ suc n
    step true rest n h = omega arith
    step false rest n h = omega arith

one_name : (there : Bool) (name : List ℕ) → length (name_if there name) ≤ 1
one_name true name = omega arith
one_name false name = omega arith

-- there are few actors
pub few_actors : (plan : Plan) → length plan.protection_domain ≤ 63 → length (actors_of plan) ≤ 66
unfolding actors_of
few_actors plan few =
    let names = length_map (λ (d : Domain). d.name) (filter acts plan.protection_domain) in
    let fewer = length_filter acts plan.protection_domain in
    let eth = one_name (is_some plan.net) (codes "@eth") in
    let uart = one_name (is_some plan.serial) (codes "@uart") in
    let disk = one_name (is_some plan.blk) (codes "@disk") in
    rw (length-append (map (λ (d : Domain). d.name) (filter acts plan.protection_domain)) (devices_of plan), length-append (name_if (is_some plan.net) (codes "@eth") ++ name_if (is_some plan.serial) (codes "@uart")) (name_if (is_some plan.blk) (codes "@disk")), length-append (name_if (is_some plan.net) (codes "@eth")) (name_if (is_some plan.serial) (codes "@uart")))
    (omega arith)

name_count : (there : Bool) (name : List ℕ) → length (name_if there name) ≡ one_if there
name_count true name = refl
name_count false name = refl

-- the domains that act, and the devices
pub acting_and_devices : (plan : Plan) → length (actors_of plan) ≡ acting_count plan + one_if (is_some plan.net) + one_if (is_some plan.serial) + one_if (is_some plan.blk)
unfolding actors_of
acting_and_devices plan =
    let names = length_map (λ (d : Domain). d.name) (filter acts plan.protection_domain) in
    let eth = name_count (is_some plan.net) (codes "@eth") in
    let uart = name_count (is_some plan.serial) (codes "@uart") in
    let disk = name_count (is_some plan.blk) (codes "@disk") in
    rw (length-append (map (λ (d : Domain). d.name) (filter acts plan.protection_domain)) (devices_of plan), length-append (name_if (is_some plan.net) (codes "@eth") ++ name_if (is_some plan.serial) (codes "@uart")) (name_if (is_some plan.blk) (codes "@disk")), length-append (name_if (is_some plan.net) (codes "@eth")) (name_if (is_some plan.serial) (codes "@uart")), names, eth, uart, disk)
    (omega arith)
