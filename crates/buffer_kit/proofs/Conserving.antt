-- What lists of bodies weigh.
use Rattle.std.proofs.Common.{◌≡◌, ◌+◌, ◌≤◌, ℕ, zero, suc, Bool, true, false, not, cond, if◌then◌else◌, Some, List, [], ◌∷◌, ◌++◌, map, drop, slice_get, slice_set, length, refl, sym, ap, ◌∙◌, arith, eq-eqb}
use Rattle.std.specs.List.{filter}
use Rattle.std.proofs.lemmas.List.{length-append, length-drop}
use Rattle.cargo_core.specs.declared.item.PoolId.{PoolId}
use Rattle.cargo_core.specs.declared.item.Body.{Body}
use Rattle.cargo_core.specs.declared.item.Body.TheVariants as Carried
use Rattle.cargo_core.specs.Bodies.{buffers_of, buffers_in}
use Rattle.cargo_core.specs.Lists.{Merge, merge_none, merge_next, replaced}
use Rattle.cargo_core.specs.Pages.{Paged}
use Rattle.wire_core.specs.Deeds.{Cargo}
use Rattle.wire_core.specs.Lists.{Lists}
use Rattle.turn_kit.specs.Hands.{Balances, bodies_of, bodies_at}
use Rattle.turn_kit.proofs.Holding.{buffers-cons}
use Rattle.buffer_kit.specs.Pools.{page_bodies}
use Rattle.buffer_kit.specs.Conserving.{Count, weight, counted, weighed, Conserves, of_pool}

pub some_same : {X : Type 0} {a b : X} → Some a ≡ Some b → a ≡ b
some_same h = cc

pub counted-append : (f : Count) (xs ys : List Body) → counted f (xs ++ ys) ≡ counted f xs + counted f ys
counted-append f [] ys = omega arith
counted-append f (x ∷ xs) ys = omega (arith, counted-append f xs ys)

pub weighed-append : (f : Count) (cs ds : List Cargo) → weighed f (cs ++ ds) ≡ weighed f cs + weighed f ds
weighed-append f [] ds = omega arith
weighed-append f (c ∷ cs) ds = omega (arith, weighed-append f cs ds)

-- a map that leaves each body leaves the weight
pub weighed-map : (f : Count) (g : Cargo → Cargo) → ((c : Cargo) → (g c).1 ≡ c.1) → (cs : List Cargo) → weighed f (map g cs) ≡ weighed f cs
weighed-map f g same [] = refl
weighed-map f g same (c ∷ cs) = omega (arith, ap (weight f) (same c), weighed-map f g same cs)

-- the elements that pass and those that don't
pub weighed-split : (f : Count) (p : Cargo → Bool) (cs : List Cargo) → weighed f cs ≡ weighed f (filter p cs) + weighed f (filter (λ c. not (p c)) cs)
weighed-split f p [] = refl
weighed-split f p (c ∷ cs) = either (p c) (weighed-split f p cs)
  where
    either : (t : Bool) → weighed f cs ≡ weighed f (filter p cs) + weighed f (filter (λ c. not (p c)) cs) → weighed f (c ∷ cs) ≡ weighed f (cond t (c ∷ filter p cs) (filter p cs)) + weighed f (cond (not t) (c ∷ filter (λ c. not (p c)) cs) (filter (λ c. not (p c)) cs))
    either true e = omega (arith, e)
    either false e = omega (arith, e)

-- what all lists weigh
abbrev pub all_weighed : Count → List (List Cargo) → ℕ
all_weighed f [] = 0
all_weighed f (l ∷ ls) = weighed f l + all_weighed f ls

all_weighed_none : (f : Count) (lists : List (List Cargo)) → ((k : ℕ) (l : List Cargo) → slice_get lists k ≡ Some l → l ≡ []) → all_weighed f lists ≡ 0
all_weighed_none f [] empty = refl
all_weighed_none f (l ∷ ls) empty = omega (arith, ap (weighed f) (empty 0 l refl), all_weighed_none f ls (λ k m at. empty (suc k) m at))

all_weighed_set : (f : Count) (lists : List (List Cargo)) (k : ℕ) (x : Cargo) (l : List Cargo) → slice_get lists k ≡ Some (x ∷ l) → all_weighed f lists ≡ weight f x.1 + all_weighed f (slice_set lists k l)
all_weighed_set f [] k x l at = cc
all_weighed_set f (m ∷ ls) zero x l at = omega (arith, ap (weighed f) (some_same at))
all_weighed_set f (m ∷ ls) (suc k) x l at = omega (arith, all_weighed_set f ls k x l at)

-- a merge weighs what its lists weigh
pub weighed-merge : (f : Count) (lists : List (List Cargo)) (all : List Cargo) → Merge lists all → weighed f all ≡ all_weighed f lists
weighed-merge f _ _ (merge_none lists empty) = sym (all_weighed_none f lists empty)
weighed-merge f _ _ (merge_next lists k x l all at rest) = omega (arith, weighed-merge f (slice_set lists k l) all rest, all_weighed_set f lists k x l at)

-- the count of a pool is one of these
pub pool_weight : (pool : PoolId) (b : Body) → buffers_in pool b ≡ weight (of_pool pool) b
pool_weight pool Carried.Empty = refl
pool_weight pool (Carried.Page page) = refl
pool_weight pool (Carried.Lease lease) = refl

pub pool_counted : (pool : PoolId) (bs : List Body) → buffers_of pool bs ≡ counted (of_pool pool) bs
pool_counted pool [] = refl
pool_counted pool (b ∷ bs) = omega (arith, buffers-cons pool b bs, pool_weight pool b, pool_counted pool bs)

pub conserves_balances : (start came went hand kept : List Body) → Conserves start came went hand kept → Balances start came went hand kept
conserves_balances start came went hand kept h pool =
    omega (arith, h (of_pool pool), pool_counted pool start, pool_counted pool came, pool_counted pool went, pool_counted pool hand, pool_counted pool kept)

abbrev pick : Bool → ℕ
pick t = if t then 1 else 0

-- where no pool has a buffer among them, nothing is counted of them
none_weight : (b : Body) → ((pool : PoolId) → weight (of_pool pool) b ≡ 0) → (f : Count) → weight f b ≡ 0
none_weight Carried.Empty none f = refl
none_weight (Carried.Lease lease) none f = refl
none_weight (Carried.Page page) none f =
    let clash : pick true ≡ 0 = sym (ap pick (eq-eqb page.pool.0 page.pool.0 refl)) ∙ none page.pool in
    absurd (omega (arith, clash))

pub none_counted : (bs : List Body) → ((pool : PoolId) → counted (of_pool pool) bs ≡ 0) → (f : Count) → counted f bs ≡ 0
none_counted [] none f = refl
none_counted (b ∷ bs) none f =
    omega (arith, none_weight b (λ pool. omega (arith, none pool)) f, none_counted bs (λ pool. omega (arith, none pool)) f)

-- where what came is what went and some bodies more, and the pools balance, these bodies are no
-- buffers: so all that is counted balances
pub conserved : (start came went hand kept more : List Body) → Balances start came went hand kept
    → ((f : Count) → counted f start + counted f came ≡ counted f went + (counted f hand + counted f kept) + counted f more) → Conserves start came went hand kept
conserved start came went hand kept more pools h f =
    let none = none_counted more (λ pool. omega (arith, pools pool, h (of_pool pool), pool_counted pool start, pool_counted pool came, pool_counted pool went, pool_counted pool hand, pool_counted pool kept)) f in
    omega (arith, h f, none)

-- what stands at a list of queues
pub counted-at : (f : Count) (lists : Lists) (n : ℕ) (ns : List ℕ) → counted f (bodies_at lists (n ∷ ns)) ≡ weighed f (lists n) + counted f (bodies_at lists ns)
counted-at f lists n ns = counted-append f (bodies_of (lists n)) (bodies_at lists ns)

-- what pages weigh
pub counted-pages : (f : Count) (xs ys : List Paged) → counted f (page_bodies (xs ++ ys)) ≡ counted f (page_bodies xs) + counted f (page_bodies ys)
counted-pages f [] ys = omega arith
counted-pages f (x ∷ xs) ys = omega (arith, counted-pages f xs ys)

-- bytes that are put in front leave the length, where they have room
pub front_long : (bytes into : List ℕ) → length bytes ≤ length into → length (replaced into 0 bytes) ≡ length into
front_long bytes into fits =
    let a = length-append bytes (drop (0 + length bytes) into) in
    let b = length-drop (0 + length bytes) into in
    omega (arith, a, b, fits)
