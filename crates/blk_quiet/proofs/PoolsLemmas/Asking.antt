-- A client hands its own buffers on, and those that came back.
use Rattle.std.proofs.Common.{◌≡◌, ◌==◌, ◌&&◌, ◌+◌, ◌*◌, ◌<◌, ◌≤◌, ◌++◌, ℕ, zero, suc, Bool, true, false, nat_lt, cond, Option, Some, None, List, [], ◌∷◌, length, slice_get, option_and_then, refl, sym, ap, ap₂, ◌∙◌, subst, arith, eq-eqb, eqb-true, ltb-true, inl}
use Rattle.cargo_core.specs.Blocks.{blk_buffer_bytes}
use Rattle.cargo_core.specs.Pages.{Paged}
use Rattle.cargo_core.specs.declared.item.Ask.{Ask}
use Rattle.cargo_core.specs.declared.item.Body.TheVariants as Carried
use Rattle.cargo_core.specs.declared.item.Code.{Code}
use Rattle.cargo_core.specs.declared.item.Code.TheVariants as Asked
use Rattle.cargo_core.specs.declared.item.Item.{Item}
use Rattle.cargo_core.specs.declared.item.PoolId.{PoolId}
use Rattle.wire_core.specs.Bells.{bit}
use Rattle.wire_core.specs.Deeds.{Cargo}
use Rattle.wire_core.specs.Lists.{Passed}
use Rattle.play_core.specs.Moved.{Moved}
use Rattle.play_core.specs.Sheets.{Scene}
use Rattle.play_core.specs.Wants.{outlet}
use Rattle.play_core.proofs.Lists.{some_is, there_below}
use Rattle.owner_law.specs.Things.{Buffer, Window, Naming, Names, Answers, Whole, thing_of, thing_at, requests_of, requested, number_at, begins_at, buffer_at, buffer_of, address_of, is_named, is_same, as_buffer}
use Rattle.owner_law.specs.Pages.{as_page}
use Rattle.owner_law.proofs.Sums.{both}
use Rattle.client_programs.specs.Blk.Asking.{needs_buffer, page_for, asked_in, asked_bare, asked_from, pages_in}
use Rattle.client_programs.specs.Blk.Clients.{BlkClientRow, req_queue, resp_queue}
use Rattle.client_programs.specs.declared.blk.BlkClient.{BlkClient}
use Rattle.owner_law.specs.Pools.Handing.{Carries, HandsOn}
use Rattle.owner_law.specs.Pools.Places.{PoolAt, by_offset}
use Rattle.net_law.proofs.OwnersLemmas.Clients.{at_address}
use Rattle.net_quiet.proofs.PoolsLemmas.Carrying.{HasPage, page_carries, takes_here, puts_none, puts_in, puts_out}
use Rattle.net_law.proofs.PartsLemmas.Leasing.{prefix_get}
use Rattle.blk_law.specs.Sheets.Playing.{blk_client_part}
use Rattle.blk_law.specs.Sheets.Table.{blk_sheet}
use Rattle.blk_law.specs.Owners.Answering.{NamesBlk}

-- a buffer of a pool
abbrev IsBuffer : PoolAt → (pool number : ℕ) → Type 0
IsBuffer p pool number = (pool ≡ p.number) × (number < p.buffers)

-- what a pool's window names is a buffer of it
window_buffer : (p : PoolAt) (b : Buffer) (a : ℕ) → is_named b (buffer_at (by_offset p ∷ []) a) ≡ 1 → IsBuffer p b.pool b.no
window_buffer p b a one = by (begins_at (by_offset p) a) refl one
  where
    same : (n : ℕ) → n < p.buffers → bit (is_same (record { pool = p.number; no = n }) b) ≡ 1 → IsBuffer p b.pool b.no
    same n few is = go (is_same (record { pool = p.number; no = n }) b) refl is
      where
        go : (t : Bool) → is_same (record { pool = p.number; no = n }) b ≡ t → bit t ≡ 1 → IsBuffer p b.pool b.no
        go true e h =
            let parts = both (p.number == b.pool) (n == b.no) e in
            let number = eqb-true n b.no parts.1 in
            (sym (eqb-true p.number b.pool parts.0), omega (arith, few, number))
        go false e h = absurd (omega (arith, h))

    by : (t : Bool) → begins_at (by_offset p) a ≡ t → is_named b (cond t (Some (record { pool = p.number; no = number_at (by_offset p) a })) None) ≡ 1 → IsBuffer p b.pool b.no
    by true e h =
        let n = number_at (by_offset p) a in
        let parts = both (nat_lt n p.buffers) (0 + n * p.size == a) e in
        same n (ltb-true n p.buffers parts.0) h
    by false e h = absurd (omega (arith, h))

item_buffer : (p : PoolAt) (b : Buffer) (i : Item) → is_named b (buffer_of (by_offset p ∷ []) i) ≡ 1 → IsBuffer p b.pool b.no
item_buffer p b i one = by (address_of i) one
  where
    by : (o : Option ℕ) → is_named b (option_and_then (buffer_at (by_offset p ∷ [])) o) ≡ 1 → IsBuffer p b.pool b.no
    by None h = absurd (omega (arith, h))
    by (Some a) h = window_buffer p b a h

page_self : (q : Paged) → as_page (record { pool = q.pool.0; no = q.no }) (Carried.Page q) ≡ 1
page_self q = ap bit (ap₂ (λ x y. x && y) (eq-eqb q.pool.0 q.pool.0 refl) (eq-eqb q.no q.no refl))

-- the pages that came with these are buffers of the pool
pages_own : (pool : PoolAt) (ys : List Cargo) → ((i : ℕ) (y : Cargo) → slice_get ys i ≡ Some y → (q : Paged) → y.1 ≡ Carried.Page q → IsBuffer pool q.pool.0 q.no) → (j : ℕ) (q : Paged) → slice_get (pages_in ys) j ≡ Some q → IsBuffer pool q.pool.0 q.no
pages_own pool [] each j q at = cc
pages_own pool ((item, Carried.Page p) ∷ ys) each zero q at = each 0 (item, Carried.Page p) refl q (ap (λ x. Carried.Page x) (some_is at))
pages_own pool ((item, Carried.Page p) ∷ ys) each (suc j) q at = pages_own pool ys (λ i y y_at. each (suc i) y y_at) j q at
pages_own pool ((item, Carried.Lease p) ∷ ys) each j q at = pages_own pool ys (λ i y y_at. each (suc i) y y_at) j q at
pages_own pool ((item, Carried.Empty) ∷ ys) each j q at = pages_own pool ys (λ i y y_at. each (suc i) y y_at) j q at

both_own : (pool : PoolAt) (ps qs : List Paged) → ((i : ℕ) (p : Paged) → slice_get ps i ≡ Some p → IsBuffer pool p.pool.0 p.no) → ((i : ℕ) (p : Paged) → slice_get qs i ≡ Some p → IsBuffer pool p.pool.0 p.no) → (i : ℕ) (p : Paged) → slice_get (ps ++ qs) i ≡ Some p → IsBuffer pool p.pool.0 p.no
both_own pool [] qs one two i p at = two i p at
both_own pool (x ∷ ps) qs one two zero p at = one 0 p at
both_own pool (x ∷ ps) qs one two (suc i) p at = both_own pool ps qs (λ j q q_at. one (suc j) q q_at) two i p at

-- a buffer as a request takes it is the same one
page_kept : (code : Code) (bytes : List ℕ) (p : Paged) → ((page_for code bytes p).pool ≡ p.pool) × ((page_for code bytes p).no ≡ p.no)
page_kept Asked.Write bytes p = by (Rattle.std.proofs.Common.nat_le (length bytes) (length p.bytes))
  where
    by : (t : Bool) → ((cond t (record { pool = p.pool; no = p.no; bytes = Rattle.cargo_core.specs.Lists.replaced p.bytes 0 bytes }) p).pool ≡ p.pool) × ((cond t (record { pool = p.pool; no = p.no; bytes = Rattle.cargo_core.specs.Lists.replaced p.bytes 0 bytes }) p).no ≡ p.no)
    by true = (refl, refl)
    by false = (refl, refl)
page_kept Asked.Read bytes p = (refl, refl)
page_kept Asked.Flush bytes p = (refl, refl)
page_kept Asked.Barrier bytes p = (refl, refl)

-- a request in a buffer names it
in_page : (pool : PoolAt) → pool.size ≡ blk_buffer_bytes → (a : Ask) (id : ℕ) (p : Paged) → needs_buffer a.code ≡ true → IsBuffer pool p.pool.0 p.no → HasPage (by_offset pool ∷ []) (asked_in a id p)
in_page pool sized a id p needs is b =
    let kept = page_kept a.code a.fill p in
    let name : buffer_at (by_offset pool ∷ []) (0 + p.no * pool.size) ≡ Some (record { pool = pool.number; no = p.no }) = at_address (by_offset pool) p.no (omega (arith, sized)) is.1 in
    let plus : 0 + p.no * pool.size ≡ p.no * pool.size = omega arith in
    let named : buffer_at (by_offset pool ∷ []) (p.no * pool.size) ≡ Some (record { pool = pool.number; no = p.no }) = ap (buffer_at (by_offset pool ∷ [])) (sym plus) ∙ name in
    let item : buffer_of (by_offset pool ∷ []) (asked_in a id p).0 ≡ buffer_at (by_offset pool ∷ []) (p.no * pool.size) = moves a.code needs ∙ ap (λ s. buffer_at (by_offset pool ∷ []) (p.no * s)) (sym sized) in
    let pool_is : (page_for a.code a.fill p).pool.0 ≡ pool.number = ap (λ (x : PoolId). x.0) kept.0 ∙ is.0 in
    ap₂ (λ x y. bit ((x == b.pool) && (y == b.no))) pool_is kept.1 ∙ sym (ap (is_named b) (item ∙ named))
  where
    moves : (code : Code) → needs_buffer code ≡ true → option_and_then (buffer_at (by_offset pool ∷ [])) (Rattle.owner_law.specs.Things.request_address code (p.no * blk_buffer_bytes)) ≡ buffer_at (by_offset pool ∷ []) (p.no * blk_buffer_bytes)
    moves Asked.Read e = refl
    moves Asked.Write e = refl
    moves Asked.Flush e = absurd cc
    moves Asked.Barrier e = absurd cc

bare_page : (pool : PoolAt) (a : Ask) (id : ℕ) → needs_buffer a.code ≡ false → HasPage (by_offset pool ∷ []) (asked_bare a id)
bare_page pool a id none b = moves a.code none
  where
    moves : (code : Code) → needs_buffer code ≡ false → 0 ≡ is_named b (option_and_then (buffer_at (by_offset pool ∷ [])) (Rattle.owner_law.specs.Things.request_address code 0))
    moves Asked.Read e = absurd cc
    moves Asked.Write e = absurd cc
    moves Asked.Flush e = refl
    moves Asked.Barrier e = refl

asked_pages : (pool : PoolAt) → pool.size ≡ blk_buffer_bytes → (id : ℕ) (asks : List Ask) (pages : List Paged) → ((i : ℕ) (p : Paged) → slice_get pages i ≡ Some p → IsBuffer pool p.pool.0 p.no) → (j : ℕ) (x : Cargo) → slice_get (asked_from id asks pages) j ≡ Some x → HasPage (by_offset pool ∷ []) x
asked_pages pool sized id [] pages each j x at = cc
asked_pages pool sized id (a ∷ asks) [] each j x at = by (needs_buffer a.code) refl j at (λ i h. asked_pages pool sized (id + 1) asks [] each i x h)
  where
    by : (t : Bool) → needs_buffer a.code ≡ t → (i : ℕ) → slice_get (cond t [] (asked_bare a id ∷ asked_from (id + 1) asks [])) i ≡ Some x → ((n : ℕ) → slice_get (asked_from (id + 1) asks []) n ≡ Some x → HasPage (by_offset pool ∷ []) x) → HasPage (by_offset pool ∷ []) x
    by true e i h rest = absurd cc
    by false e zero h rest = subst (HasPage (by_offset pool ∷ [])) (some_is h) (bare_page pool a id e)
    by false e (suc i) h rest = rest i h
asked_pages pool sized id (a ∷ asks) (p ∷ pages) each j x at = by (needs_buffer a.code) refl j at (λ i h. asked_pages pool sized (id + 1) asks pages (λ n q q_at. each (suc n) q q_at) i x h) (λ i h. asked_pages pool sized (id + 1) asks (p ∷ pages) each i x h)
  where
    by : (t : Bool) → needs_buffer a.code ≡ t → (i : ℕ) → slice_get (cond t (asked_in a id p ∷ asked_from (id + 1) asks pages) (asked_bare a id ∷ asked_from (id + 1) asks (p ∷ pages))) i ≡ Some x → ((n : ℕ) → slice_get (asked_from (id + 1) asks pages) n ≡ Some x → HasPage (by_offset pool ∷ []) x) → ((n : ℕ) → slice_get (asked_from (id + 1) asks (p ∷ pages)) n ≡ Some x → HasPage (by_offset pool ∷ []) x) → HasPage (by_offset pool ∷ []) x
    by true e zero h rest bare = subst (HasPage (by_offset pool ∷ [])) (some_is h) (in_page pool sized a id p e (each 0 p refl))
    by true e (suc i) h rest bare = rest i h
    by false e zero h rest bare = subst (HasPage (by_offset pool ∷ [])) (some_is h) (bare_page pool a id e)
    by false e (suc i) h rest bare = bare i h

module _ (naming : Naming) (scene : Scene) (passed : Passed) (m : Moved) (c : BlkClient) (names : NamesBlk naming (blk_client_part c)) where
  abbrev pool : PoolAt
  pool = record { number = c.asking.pool.0; base = 0; buffers = c.asking.buffers; size = blk_buffer_bytes }

  abbrev ws : List Window
  ws = by_offset pool ∷ []

  -- what a response carries is a buffer of the pool
  came_own : (k : ℕ) (y : Cargo) → Carries naming m (resp_queue c) k y → (q : Paged) → y.1 ≡ Carried.Page q → IsBuffer pool q.pool.0 q.no
  came_own k y carry q is =
      let b : Buffer = record { pool = q.pool.0; no = q.no } in
      let named : as_buffer b (thing_at (naming (resp_queue c)) (requests_of (naming (resp_queue c)) m) k y.0) ≡ 1 = sym (carry b) ∙ (ap (as_page b) is ∙ page_self q) in
      by (slice_get (m.sent (req_queue c)) k) (subst (λ (z : Names). as_buffer b (thing_at z (requests_of z m) k y.0) ≡ 1) names.1.1 named)
    where
      of_thing : (b : Buffer) (o : Option Buffer) → as_buffer b (thing_of Whole o) ≡ is_named b o
      of_thing b None = refl
      of_thing b (Some d) = refl

      by : (o : Option Item) → as_buffer (record { pool = q.pool.0; no = q.no }) (thing_of Whole (option_and_then (buffer_of ws) o)) ≡ 1 → IsBuffer pool q.pool.0 q.no
      by None h = absurd (omega (arith, h))
      by (Some i) h = item_buffer pool (record { pool = q.pool.0; no = q.no }) i (sym (of_thing (record { pool = q.pool.0; no = q.no }) (buffer_of ws i)) ∙ h)

  pub client_on : BlkClientRow c passed → HandsOn naming m passed (blk_sheet scene (blk_client_part c)).ends
  client_on row takes = puts_in naming m passed (resp_queue c) (outlet (req_queue c) ∷ []) (puts_out naming m passed (req_queue c) [] each (puts_none naming m passed))
    where
      starts : (i : ℕ) (p : Paged) → slice_get row.start i ≡ Some p → IsBuffer pool p.pool.0 p.no
      starts i p at =
          let below = there_below row.start i p at in
          let n = row.is_start.are_pool.numbered i p at in
          let many = row.is_start.many in
          (ap (λ (z : PoolId). z.0) (row.is_start.are_pool.same_pool i p at), omega (arith, below, n, many))

      came : (i : ℕ) (y : Cargo) → slice_get row.came i ≡ Some y → (q : Paged) → y.1 ≡ Carried.Page q → IsBuffer pool q.pool.0 q.no
      came i y at q is = came_own i y (takes_here naming m passed (resp_queue c) (outlet (req_queue c) ∷ []) takes i y (prefix_get row.came (passed.taken (resp_queue c)) (row.stray, sym row.taken) i y at)) q is

      each : (k : ℕ) (x : Cargo) → slice_get (passed.sent (req_queue c)) k ≡ Some x → Carries naming m (req_queue c) k x
      each k x at = page_carries naming m ws (req_queue c) (inl names.1.0) k x (asked_pages pool refl 0 c.asking.script.items (row.start ++ pages_in row.came) (both_own pool row.start (pages_in row.came) starts (pages_own pool row.came came)) k x
          (prefix_get (passed.sent (req_queue c)) (asked_from 0 c.asking.script.items (row.start ++ pages_in row.came)) row.asks k x at))
