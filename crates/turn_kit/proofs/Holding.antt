use Rattle.std.proofs.Common.{◌≡◌, ◌+◌, ℕ, List, [], ◌∷◌, ◌++◌, ap, sym, ◌∙◌}
use Rattle.std.proofs.lemmas.List.{append-nil, map-append}
use Rattle.std.specs.List.{sum_by}
use Rattle.std.proofs.lemmas.List.Sums.{sum-map, sum_by-append, sum_by-cons}
use Rattle.cargo_core.specs.declared.item.PoolId.{PoolId}
use Rattle.cargo_core.specs.declared.item.Body.{Body}
use Rattle.cargo_core.specs.Bodies.{buffers_of, buffers_in}
use Rattle.wire_core.specs.Deeds.{Cargo}
use Rattle.wire_core.specs.Lists.{Lists}
use Rattle.turn_kit.specs.Hands.{bodies_of, bodies_at}

pub buffers-cons : (pool : PoolId) (x : Body) (xs : List Body) → buffers_of pool (x ∷ xs) ≡ buffers_in pool x + buffers_of pool xs
buffers-cons pool x xs = sum-map (buffers_in pool) (x ∷ xs) ∙ (sum_by-cons (buffers_in pool) x xs ∙ ap (λ n. buffers_in pool x + n) (sym (sum-map (buffers_in pool) xs)))

pub buffers-append : (pool : PoolId) (xs ys : List Body) → buffers_of pool (xs ++ ys) ≡ buffers_of pool xs + buffers_of pool ys
buffers-append pool xs ys =
    sum-map (buffers_in pool) (xs ++ ys) ∙ (sum_by-append (buffers_in pool) xs ys
    ∙ (ap (λ n. n + sum_by (buffers_in pool) ys) (sym (sum-map (buffers_in pool) xs)) ∙ ap (λ n. buffers_of pool xs + n) (sym (sum-map (buffers_in pool) ys))))

-- of entries: the same
pub cargo-append : (pool : PoolId) (cs ds : List Cargo) → buffers_of pool (bodies_of (cs ++ ds)) ≡ buffers_of pool (bodies_of cs) + buffers_of pool (bodies_of ds)
cargo-append pool cs ds = ap (buffers_of pool) (map-append (λ (c : Cargo). c.1) cs ds) ∙ buffers-append pool (bodies_of cs) (bodies_of ds)

pub cargo-cons : (pool : PoolId) (c : Cargo) (cs : List Cargo) → buffers_of pool (bodies_of (c ∷ cs)) ≡ buffers_in pool c.1 + buffers_of pool (bodies_of cs)
cargo-cons pool c cs = buffers-cons pool c.1 (bodies_of cs)

-- at a queue, and at a queue more
pub at_one : (pool : PoolId) (lists : Lists) (n : ℕ) → buffers_of pool (bodies_at lists (n ∷ [])) ≡ buffers_of pool (bodies_of (lists n))
at_one pool lists n = ap (buffers_of pool) (append-nil (bodies_of (lists n)))

pub at_more : (pool : PoolId) (lists : Lists) (n : ℕ) (ns : List ℕ) → buffers_of pool (bodies_at lists (n ∷ ns)) ≡ buffers_of pool (bodies_of (lists n)) + buffers_of pool (bodies_at lists ns)
at_more pool lists n ns = buffers-append pool (bodies_of (lists n)) (bodies_at lists ns)
