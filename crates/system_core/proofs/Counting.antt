-- Counts over actors and over pools, one by one.
use Rattle.std.proofs.Common.{◌≡◌, ◌+◌, ◌++◌, ℕ, zero, suc, Some, List, [], ◌∷◌, map, take, slice_get, sum_by, refl, ap, ap₂, ◌∙◌, arith}
use Rattle.std.proofs.lemmas.List.Sums.{sum_by-cons}
use Rattle.cargo_core.specs.declared.item.PoolId.{PoolId}
use Rattle.cargo_core.specs.Bodies.{buffers_of}
use Rattle.wire_core.specs.declared.names.PoolRow.{PoolRow}
use Rattle.wire_core.specs.Queues.{Queue}
use Rattle.cargo_core.specs.declared.census.Census.{Census as Line}
use Rattle.play_core.specs.Sheets.{Scene}
use Rattle.play_core.proofs.Lists.{some_is}
use Rattle.owner_law.specs.Pools.Lines.{Holder}
use Rattle.cast_law.specs.PoolLines.PoolLines.{line_of, counted, counted_lines}
use Rattle.actor_set.specs.Actors.{part_of}
use Rattle.actor_set.specs.declared.actor.Actor.{Actor}
use Rattle.actor_set.specs.Laws.Kinds.{scene_of}
use Rattle.cast_law.specs.Pools.Holders.{actor_holder, holders_of}
use Rattle.system_core.specs.States.{held_by, lent_by}

sum_mapped : (scene : Scene) (f : Holder → ℕ) (xs : List Actor) → sum_by f (map (actor_holder scene) xs) ≡ sum_by (λ x. f (actor_holder scene x)) xs
sum_mapped scene f [] = refl
sum_mapped scene f (x ∷ xs) = omega (arith, sum_by-cons f (actor_holder scene x) (map (actor_holder scene) xs), sum_by-cons (λ y. f (actor_holder scene y)) x xs, sum_mapped scene f xs)

-- what the holders have is what the actors have
pub hands_are : (world : List Queue) (actors : List Actor) (pool : PoolId) → (counted world (holders_of actors) pool).hands ≡ held_by pool actors
hands_are world actors pool = sum_mapped (scene_of (map part_of actors)) (λ (h : Holder). buffers_of pool h.hand) actors

pub lents_are : (world : List Queue) (actors : List Actor) (pool : PoolId) → (counted world (holders_of actors) pool).lent ≡ lent_by pool actors
lents_are world actors pool = sum_mapped (scene_of (map part_of actors)) (λ (h : Holder). h.lent pool.0) actors

-- one more line
lines_more : (world : List Queue) (holders : List Holder) (first : ℕ) (pools : List PoolRow) (k : ℕ) (row : PoolRow) → slice_get pools k ≡ Some row → counted_lines world holders first (take (suc k) pools) ≡ counted_lines world holders first (take k pools) ++ line_of row (counted world holders (record { 0 = first + k })) ∷ []
lines_more world holders first [] k row at = cc
lines_more world holders first (p ∷ pools) zero row at =
    let e : p ≡ row = some_is at in
    let plus : first ≡ first + 0 = omega arith in
    ap (λ (l : Line). l ∷ []) (ap₂ (λ (r : PoolRow) (n : ℕ). line_of r (counted world holders (record { 0 = n }))) e plus)
lines_more world holders first (p ∷ pools) (suc k) row at =
    let shift : first + 1 + k ≡ first + suc k = omega arith in
    ap (λ ls. line_of p (counted world holders (record { 0 = first })) ∷ ls) (lines_more world holders (first + 1) pools k row at ∙ ap (λ n. counted_lines world holders (first + 1) (take k pools) ++ line_of row (counted world holders (record { 0 = n })) ∷ []) shift)

pub lines_next : (world : List Queue) (holders : List Holder) (pools : List PoolRow) (k : ℕ) (row : PoolRow) → slice_get pools k ≡ Some row → counted_lines world holders 0 (take (k + 1) pools) ≡ counted_lines world holders 0 (take k pools) ++ line_of row (counted world holders (record { 0 = k })) ∷ []
lines_next world holders pools k row at =
    let one : k + 1 ≡ suc k = omega arith in
    let plus : 0 + k ≡ k = omega arith in
    ap (λ n. counted_lines world holders 0 (take n pools)) one ∙ (lines_more world holders 0 pools k row at ∙ ap (λ n. counted_lines world holders 0 (take k pools) ++ line_of row (counted world holders (record { 0 = n })) ∷ []) plus)
