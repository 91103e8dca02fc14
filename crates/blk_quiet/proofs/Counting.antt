-- How many requests go to the disk and come back, how many answers are due then, and how many
-- requests a client can put.
use Rattle.std.proofs.Common.{◌≡◌, ◌+◌, ◌*◌, ◌%◌, ◌<◌, ◌≤◌, ℕ, zero, suc, Bool, true, false, nat_lt, cond, Option, List, [], ◌∷◌, length, map, take, drop, refl, sym, subst, arith}
use Rattle.std.specs.List.{filter}
use Rattle.std.proofs.lemmas.Bool.{lt-ltb}
use Rattle.cargo_core.specs.declared.item.Ask.{Ask}
use Rattle.cargo_core.specs.declared.item.BlkReq.{BlkReq}
use Rattle.cargo_core.specs.declared.item.Code.{Code}
use Rattle.cargo_core.specs.declared.item.Code.TheVariants as Asked
use Rattle.cargo_core.specs.declared.item.Item.{Item}
use Rattle.cargo_core.specs.Ranges.{is_within}
use Rattle.blk_mbr.specs.declared.part.Part.{Part}
use Rattle.client_programs.specs.Blk.Asking.{needs_buffer, request_for}
use Rattle.blk_virt.specs.Requests.{request_of, asked_of_disk, first_block, moves_blocks}
use Rattle.owner_law.specs.Pools.Places.{PoolAt}
use Rattle.blk_law.specs.Sheets.Rows.{answer_items, asked_items, buffers_for, goes_on_item, is_item_at, item_for_disk, items_back, numbered_item, passed_item, refusal_item, IsRequestIn}
use Rattle.blk_law.specs.Owners.Answering.{TakesBlocks}
use Rattle.blk_quiet.specs.Still.{range_of}
use Rattle.blk_law.proofs.OwnersLemmas.Windows.{has_room, within_at}

pub drop_same : (xs ys : List Item) → length xs ≡ length ys → length (drop 1 xs) ≡ length (drop 1 ys)
drop_same [] [] e = refl
drop_same [] (y ∷ ys) e = absurd (omega (arith, e))
drop_same (x ∷ xs) [] e = absurd (omega (arith, e))
drop_same (x ∷ xs) (y ∷ ys) e = omega (arith, e)

pub drop_most : (xs : List Item) → length xs ≤ 1 + length (drop 1 xs)
drop_most [] = omega arith
drop_most (x ∷ xs) = omega arith

pub drop_less : (xs : List Item) → 1 ≤ length xs → 1 + length (drop 1 xs) ≤ length xs
drop_less [] some = absurd (omega (arith, some))
drop_less (x ∷ xs) some = omega arith

-- as many responses come back to a client as of the requests are at its pool's buffers
pub back_long : (p : PoolAt) (sent back : List Item) → length sent ≡ length back → length (items_back p sent back) ≡ length (filter (is_item_at p) sent)
back_long p [] back e = refl
back_long p (x ∷ sent) [] e = absurd (omega (arith, e))
back_long p (x ∷ sent) (y ∷ back) e = by (is_item_at p x) (back_long p sent back (omega (arith, e)))
  where
    by : (t : Bool) → length (items_back p sent back) ≡ length (filter (is_item_at p) sent) → length (cond t (y ∷ items_back p sent back) (items_back p sent back)) ≡ length (cond t (x ∷ filter (is_item_at p) sent) (filter (is_item_at p) sent))
    by true rest = omega (arith, rest)
    by false rest = rest

-- where the disk answered all that goes there, an answer to each request is due
pub answers_long : (part : Option Part) (xs back : List Item) → length back ≡ length (filter (goes_on_item part) xs) → length (answer_items part xs back) ≡ length xs
answers_long part [] back e = refl
answers_long part (x ∷ xs) [] e = by (goes_on_item part x) (answers_long part xs []) e
  where
    by : (t : Bool) → (0 ≡ length (filter (goes_on_item part) xs) → length (answer_items part xs []) ≡ length xs) → 0 ≡ length (cond t (x ∷ filter (goes_on_item part) xs) (filter (goes_on_item part) xs)) → length (cond t [] (refusal_item part x ∷ answer_items part xs [])) ≡ length (x ∷ xs)
    by true rest few = absurd (omega (arith, few))
    by false rest few = let same = rest few in omega (arith, same)
answers_long part (x ∷ xs) (y ∷ back) e = by (goes_on_item part x) (answers_long part xs back) (answers_long part xs (y ∷ back)) e
  where
    by : (t : Bool) → (length back ≡ length (filter (goes_on_item part) xs) → length (answer_items part xs back) ≡ length xs) → (length (y ∷ back) ≡ length (filter (goes_on_item part) xs) → length (answer_items part xs (y ∷ back)) ≡ length xs)
        → length (y ∷ back) ≡ length (cond t (x ∷ filter (goes_on_item part) xs) (filter (goes_on_item part) xs)) → length (cond t (passed_item (request_of x).id y ∷ answer_items part xs back) (refusal_item part x ∷ answer_items part xs (y ∷ back))) ≡ length (x ∷ xs)
    by true rest more few = let same = rest (omega (arith, few)) in omega (arith, same)
    by false rest more few = let same = more few in omega (arith, same)

-- a request that goes to the disk is at its client's buffers
disk_at : (p : PoolAt) (first : ℕ) (code : Code) (r : BlkReq) → TakesBlocks p → (moves_blocks code ≡ true → (number : ℕ) × (number < p.buffers) × (r.addr ≡ number * p.size)) → is_within (range_of p) (asked_of_disk code p.base first r).addr ≡ true
disk_at p first code r takes at = by code at
  where
    room : 1 ≤ p.size
    room = has_room p takes

    moved : ((number : ℕ) × (number < p.buffers) × (r.addr ≡ number * p.size)) → is_within (range_of p) (p.base + r.addr) ≡ true
    moved here = let begins = here.2 in within_at p.base here.0 p.size p.buffers (p.base + r.addr) here.1 room (omega (arith, begins))

    by : (code : Code) → (moves_blocks code ≡ true → (number : ℕ) × (number < p.buffers) × (r.addr ≡ number * p.size)) → is_within (range_of p) (asked_of_disk code p.base first r).addr ≡ true
    by Asked.Read is = moved (is refl)
    by Asked.Write is = moved (is refl)
    by Asked.Flush is = within_at p.base 0 p.size p.buffers p.base takes.0 room (omega arith)
    by Asked.Barrier is = within_at p.base 0 p.size p.buffers p.base takes.0 room (omega arith)

pub request_at : (p : PoolAt) (part : Option Part) (i : Item) → TakesBlocks p → IsRequestIn p i → is_item_at p (item_for_disk p.base part i) ≡ true
request_at p part i takes at = disk_at p (first_block part) (request_of i).code (request_of i) takes at

-- a request's number doesn't matter to where it is
numbered_at : (p : PoolAt) (i : Item) → is_item_at p (numbered_item 0 i) ≡ is_item_at p i
numbered_at p i = refl

pub numbered_long : (p : PoolAt) (xs : List Item) → length (filter (is_item_at p) (map (numbered_item 0) xs)) ≡ length (filter (is_item_at p) xs)
numbered_long p [] = refl
numbered_long p (x ∷ xs) = by (is_item_at p x) (numbered_long p xs)
  where
    by : (t : Bool) → length (filter (is_item_at p) (map (numbered_item 0) xs)) ≡ length (filter (is_item_at p) xs) → length (cond t (numbered_item 0 x ∷ filter (is_item_at p) (map (numbered_item 0) xs)) (filter (is_item_at p) (map (numbered_item 0) xs))) ≡ length (cond t (x ∷ filter (is_item_at p) xs) (filter (is_item_at p) xs))
    by true rest = omega (arith, rest)
    by false rest = rest

-- no more requests than are asked
pub asked_few : (id used hand buffers size : ℕ) (asks : List Ask) → length (asked_items id used hand buffers size asks) ≤ length asks
asked_few id used hand buffers size [] = omega arith
asked_few id used hand buffers size (a ∷ asks) = by (needs_buffer a.code) (nat_lt used hand) (asked_few (id + 1) (used + 1) hand buffers size asks) (asked_few (id + 1) used hand buffers size asks)
  where
    by : (needs here : Bool) → length (asked_items (id + 1) (used + 1) hand buffers size asks) ≤ length asks → length (asked_items (id + 1) used hand buffers size asks) ≤ length asks
        → length (cond needs (cond here (request_for a id ((used % buffers) * size) ∷ asked_items (id + 1) (used + 1) hand buffers size asks) []) (request_for a id 0 ∷ asked_items (id + 1) used hand buffers size asks)) ≤ length (a ∷ asks)
    by true true one other = omega (arith, one)
    by true false one other = omega arith
    by false here one other = omega (arith, other)

-- a client with a buffer in hand behind so many requests can put one more
pub asked_more : (id used hand buffers size n : ℕ) (asks : List Ask) → n < length asks → used + buffers_for (take n asks) < hand → n < length (asked_items id used hand buffers size asks)
asked_more id used hand buffers size n [] lt enough = absurd (omega (arith, lt))
asked_more id used hand buffers size zero (a ∷ asks) lt enough = by (needs_buffer a.code) (lt-ltb used hand (omega (arith, enough)))
  where
    by : (needs : Bool) → nat_lt used hand ≡ true → 0 < length (cond needs (cond (nat_lt used hand) (request_for a id ((used % buffers) * size) ∷ asked_items (id + 1) (used + 1) hand buffers size asks) []) (request_for a id 0 ∷ asked_items (id + 1) used hand buffers size asks))
    by true here = subst (λ t. 0 < length (cond t (request_for a id ((used % buffers) * size) ∷ asked_items (id + 1) (used + 1) hand buffers size asks) [])) (sym here) (omega arith)
    by false here = omega arith
asked_more id used hand buffers size (suc n) (a ∷ asks) lt enough = by (needs_buffer a.code) enough (asked_more (id + 1) (used + 1) hand buffers size n asks (omega (arith, lt))) (asked_more (id + 1) used hand buffers size n asks (omega (arith, lt)))
  where
    by : (needs : Bool) → used + cond needs (1 + buffers_for (take n asks)) (buffers_for (take n asks)) < hand → (used + 1 + buffers_for (take n asks) < hand → n < length (asked_items (id + 1) (used + 1) hand buffers size asks)) → (used + buffers_for (take n asks) < hand → n < length (asked_items (id + 1) used hand buffers size asks))
        → suc n < length (cond needs (cond (nat_lt used hand) (request_for a id ((used % buffers) * size) ∷ asked_items (id + 1) (used + 1) hand buffers size asks) []) (request_for a id 0 ∷ asked_items (id + 1) used hand buffers size asks))
    by true few one other =
        let here : nat_lt used hand ≡ true = lt-ltb used hand (omega (arith, few)) in
        let rest = one (omega (arith, few)) in
        subst (λ t. suc n < length (cond t (request_for a id ((used % buffers) * size) ∷ asked_items (id + 1) (used + 1) hand buffers size asks) [])) (sym here) (omega (arith, rest))
    by false few one other = let rest = other few in omega (arith, rest)
