use Rattle.std.proofs.Common.{◌≡◌, ◌+◌, ◌≤◌, ℕ, nat_le, Bool, true, false, if◌then◌else◌, List, [], ◌∷◌, ◌++◌, length, map, reverse, refl, ap, ◌∙◌, arith}
use Rattle.std.specs.Option.{option_to_list}
use Rattle.std.proofs.lemmas.List.{map-append, reverse-append}
use Rattle.cargo_core.specs.declared.item.PoolId.{PoolId}
use Rattle.cargo_core.specs.declared.item.Body.{Body}
use Rattle.cargo_core.specs.declared.item.Body.TheVariants as Carried
use Rattle.cargo_core.specs.Bodies.{buffers_of, buffers_in}
use Rattle.cargo_core.specs.Pages.{Paged}
use Rattle.wire_core.specs.Deeds.{Cargo}
use Rattle.turn_kit.specs.Hands.{bodies_of}
use Rattle.turn_kit.proofs.Holding.{buffers-append, cargo-append, cargo-cons}
use Rattle.cargo_core.specs.Lists.{replaced}
use Rattle.buffer_kit.specs.Entries.{filled, filled_body, all_filled}
use Rattle.buffer_kit.specs.Pools.{page_bodies, given_entry}
use Rattle.buffer_kit.specs.Stocks.{stock_list, stock_hand}
use Rattle.buffer_kit.specs.declared.stock.Stock.{Stock}

pub pages-append : (pool : PoolId) (xs ys : List Paged) → buffers_of pool (page_bodies (xs ++ ys)) ≡ buffers_of pool (page_bodies xs) + buffers_of pool (page_bodies ys)
pages-append pool xs ys = ap (buffers_of pool) (map-append (λ (p : Paged). Carried.Page p) xs ys) ∙ buffers-append pool (page_bodies xs) (page_bodies ys)

-- the order doesn't matter
pub pages-reverse : (pool : PoolId) (xs : List Paged) → buffers_of pool (page_bodies (reverse xs)) ≡ buffers_of pool (page_bodies xs)
pages-reverse pool [] = refl
pages-reverse pool (x ∷ xs) =
    let turned = ap (λ (ys : List Paged). buffers_of pool (page_bodies ys)) (reverse-append (x ∷ []) xs) in
    let parts = pages-append pool (reverse xs) (x ∷ []) in
    let rest = pages-reverse pool xs in
    let one = pages-append pool (x ∷ []) xs in
    omega (arith, turned, parts, rest, one)

given_bodies : (base size : ℕ) (xs : List Paged) → bodies_of (map (given_entry base size) xs) ≡ page_bodies xs
given_bodies base size [] = refl
given_bodies base size (x ∷ xs) = ap (λ (bs : List Body). Carried.Page x ∷ bs) (given_bodies base size xs)

pub given_count : (pool : PoolId) (base size : ℕ) (xs : List Paged) → buffers_of pool (bodies_of (map (given_entry base size) xs)) ≡ buffers_of pool (page_bodies xs)
given_count pool base size xs = ap (buffers_of pool) (given_bodies base size xs)

-- what a stock has is what it has yet to give
pub stock_count : (pool : PoolId) (s : Stock) → buffers_of pool (bodies_of (stock_list s)) ≡ buffers_of pool (stock_hand s)
stock_count pool s =
    let parts = cargo-append pool (option_to_list s.next) (map (given_entry s.base s.size) (reverse s.rest.items)) in
    let rest = given_count pool s.base s.size (reverse s.rest.items) in
    let turned = pages-reverse pool s.rest.items in
    let hand = buffers-append pool (bodies_of (option_to_list s.next)) (page_bodies s.rest.items) in
    omega (arith, parts, rest, turned, hand)

-- a body that is filled is of the pool of which it was
pub filled_in : (pool : PoolId) (bytes : List ℕ) (b : Body) → buffers_in pool (filled_body bytes b) ≡ buffers_in pool b
filled_in pool bytes Carried.Empty = refl
filled_in pool bytes (Carried.Lease lease) = refl
filled_in pool bytes (Carried.Page page) = either (nat_le (length bytes) (length page.bytes))
  where
    either : (t : Bool) → buffers_in pool (if t then Carried.Page (record { pool = page.pool; no = page.no; bytes = replaced page.bytes 0 bytes }) else Carried.Page page) ≡ buffers_in pool (Carried.Page page)
    either true = refl
    either false = refl

-- and so are entries
pub all_filled_in : (pool : PoolId) (fs : List (List ℕ)) (cs : List Cargo) → length cs ≤ length fs → buffers_of pool (bodies_of (all_filled fs cs)) ≡ buffers_of pool (bodies_of cs)
all_filled_in pool [] [] few = refl
all_filled_in pool [] (c ∷ cs) few = absurd (omega (arith, few))
all_filled_in pool (f ∷ fs) [] few = refl
all_filled_in pool (f ∷ fs) (c ∷ cs) few =
    let now = cargo-cons pool (filled f c) (all_filled fs cs) in
    let was = cargo-cons pool c cs in
    let one = filled_in pool f c.1 in
    let rest = all_filled_in pool fs cs (omega (arith, few)) in
    omega (arith, now, was, one, rest)
