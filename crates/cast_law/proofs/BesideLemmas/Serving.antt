-- The virtualiser of the block class hands on its own buffer, what its clients asked, and what was
-- answered, to each client that isn't hostile; of a hostile one it sends on what is in its own
-- buffers alone.
use Rattle.std.proofs.Common.{◌≡◌, ◌==◌, ◌&&◌, ◌+◌, ◌*◌, ◌<◌, ◌≤◌, ◌++◌, ℕ, zero, suc, Bool, true, false, not, Option, Some, None, List, [], ◌∷◌, length, map, drop, slice_get, refl, sym, ap, ap₂, ◌∙◌, subst, arith, eqb-true, ltb-true, inl}
use Rattle.std.specs.List.{filter}
use Rattle.std.proofs.lemmas.Bool.{and_parts}
use Rattle.std.proofs.lemmas.List.{append-nil}
use Rattle.cargo_core.specs.Blocks.{blk_buffer_bytes}
use Rattle.cargo_core.specs.Items.{kind_of}
use Rattle.cargo_core.specs.declared.item.Code.{Code}
use Rattle.cargo_core.specs.declared.item.Code.TheVariants as Asked
use Rattle.cargo_core.specs.declared.item.Item.{Item}
use Rattle.cargo_core.specs.declared.item.Item.TheVariants as ItemOf
use Rattle.cargo_core.specs.declared.item.Body.{Body}
use Rattle.cargo_core.specs.declared.item.Body.TheVariants as Carried
use Rattle.cargo_core.specs.declared.item.QueueKind.TheVariants as Kind
use Rattle.wire_core.specs.declared.names.QueueId.{QueueId}
use Rattle.wire_core.specs.Bells.{bit}
use Rattle.wire_core.specs.Deeds.{Cargo}
use Rattle.wire_core.specs.Lists.{Passed}
use Rattle.play_core.specs.Moved.{Moved}
use Rattle.play_core.specs.Names.{Wild}
use Rattle.play_core.proofs.Lists.{some_is, map_get, map_from, there_is, there_below}
use Rattle.owner_law.specs.Things.{Window, Naming, buffer_at, buffer_of, is_named}
use Rattle.owner_law.specs.Pages.{as_page}
use Rattle.buffer_kit.specs.Virtualising.{from_queues, to_queues}
use Rattle.class_expect.specs.BlkExpect.Judging.{status_of}
use Rattle.blk_mbr.specs.declared.part.Part.{Part}
use Rattle.blk_mbr.specs.Partitions.{part_of}
use Rattle.blk_virt.specs.Desks.{holders, IsSomeones}
use Rattle.blk_virt.specs.Openings.{KnowsParts, first_read, sector_of}
use Rattle.blk_virt.specs.Requests.{for_disk, goes_on, is_at, is_bad, is_ok, is_own, moves_blocks, numbered, request_of}
use Rattle.blk_virt.specs.Serving.{AllBring, IsServed, answers_to, own_of, own_back, unnumbered}
use Rattle.blk_virt.specs.Virtualising.{BlkVirtRow}
use Rattle.blk_virt.specs.declared.client.Client.{Client}
use Rattle.blk_virt.specs.declared.requests.Holder.{Holder}
use Rattle.blk_virt.specs.declared.requests.PageName.{PageName}
use Rattle.blk_virt.specs.declared.virtualiser.BlkVirt.{BlkVirt}
use Rattle.play_core.specs.Rests.Showing.{HaveItems}
use Rattle.owner_law.specs.Pools.Handing.{AllCarry}
use Rattle.owner_law.proofs.PoolsLemmas.Merging.{kept_at, kept_is}
use Rattle.owner_law.specs.Pools.Places.{PoolAt, by_offset}
use Rattle.net_law.proofs.OwnersLemmas.Clients.{at_address}
use Rattle.net_law.proofs.PartsLemmas.Items.{all_at}
use Rattle.net_law.proofs.PartsLemmas.Leasing.{prefix_get}
use Rattle.net_quiet.proofs.PoolsLemmas.Carrying.{HasPage, page_carries, carries_page}
use Rattle.blk_law.specs.Sheets.Parts.{Sharer}
use Rattle.blk_law.specs.Sheets.Playing.{holder_pool, sharers}
use Rattle.blk_law.specs.VirtScene.Playing.{BothInTurn}
use Rattle.blk_law.specs.Sheets.Rows.{IsRequestIn, item_for_disk, numbered_item}
use Rattle.blk_law.specs.Owners.Answering.{ArePoolsApart, disk_windows, IsInOrder, NamesAsked}
use Rattle.blk_law.proofs.OwnersLemmas.Windows.{on_name, own_name}
use Rattle.blk_law.proofs.OwnersLemmas.Serving.{numbered_name}
use Rattle.blk_quiet.proofs.PoolsLemmas.Alike.{SamePage, ArePaired, own_paired, own_back_at, answers_paired}
use Rattle.blk_quiet.proofs.PoolsLemmas.Carrying.{put_at, took_at, answer_carries, carries_answer}
use Rattle.wired_law.specs.PageLaw.WildPages.Rounds.{AllMove}

-- a request in its client's own buffer is at the offset of that
own_in : (h : Holder) (x : Cargo) → is_own h x ≡ true → (number : ℕ) × (number < h.buffers) × ((request_of x.0).addr ≡ number * blk_buffer_bytes)
own_in h (item, Carried.Page page) own =
    let one = and_parts _ _ own in
    let two = and_parts _ _ one.1 in
    (page.no, ltb-true page.no h.buffers two.0, eqb-true (request_of item).addr (page.no * blk_buffer_bytes) two.1)
own_in h (item, Carried.Lease lease) own = absurd cc
own_in h (item, Carried.Empty) own = absurd cc

good_in : (h : Holder) (x : Cargo) → is_bad h x ≡ false → IsRequestIn (holder_pool h) x.0
good_in h x good moves = by (is_own h x) refl
  where
    by : (t : Bool) → is_own h x ≡ t → (number : ℕ) × (number < h.buffers) × ((request_of x.0).addr ≡ number * blk_buffer_bytes)
    by true own = own_in h x own
    by false own = let bad : (moves_blocks (request_of x.0).code && not (is_own h x)) ≡ true = ap₂ (λ a b. a && not b) moves own in absurd cc

-- which client stands at a place
abbrev pub Sharing : List Holder → (from to : List QueueId) → ℕ → Sharer → Type 0
Sharing hs from to k c = (h : Holder) × (q : QueueId) × (r : QueueId) × (slice_get hs k ≡ Some h) × (slice_get from k ≡ Some q) × (slice_get to k ≡ Some r) × (c ≡ record { req = q.0; resp = r.0; entry = h.partition; pool = holder_pool h })

pub sharer_at : (hs : List Holder) (from to : List QueueId) (k : ℕ) (c : Sharer) → slice_get (sharers hs from to) k ≡ Some c → Sharing hs from to k c
sharer_at [] from to k c at = cc
sharer_at (h ∷ hs) [] to k c at = cc
sharer_at (h ∷ hs) (q ∷ from) [] k c at = cc
sharer_at (h ∷ hs) (q ∷ from) (r ∷ to) zero c at = (h, q, r, refl, refl, refl, sym (some_is at))
sharer_at (h ∷ hs) (q ∷ from) (r ∷ to) (suc k) c at = sharer_at hs from to k c at

sharer_of : (hs : List Holder) (from to : List QueueId) (k : ℕ) (h : Holder) → length from ≡ length hs → length to ≡ length hs → slice_get hs k ≡ Some h → (c : Sharer) × (slice_get (sharers hs from to) k ≡ Some c)
sharer_of [] from to k h lf lt at = cc
sharer_of (g ∷ hs) [] to k h lf lt at = absurd (omega (arith, lf))
sharer_of (g ∷ hs) (q ∷ from) [] k h lf lt at = absurd (omega (arith, lt))
sharer_of (g ∷ hs) (q ∷ from) (r ∷ to) zero h lf lt at = (record { req = q.0; resp = r.0; entry = g.partition; pool = holder_pool g }, refl)
sharer_of (g ∷ hs) (q ∷ from) (r ∷ to) (suc k) h lf lt at = sharer_of hs from to k h (omega (arith, lf)) (omega (arith, lt)) at

-- some partitions are told by the first response, where it came
some_parts : (disk : ℕ) (back : List Cargo) → (parts : ℕ → Option Part) × KnowsParts disk back parts
some_parts disk [] = (λ n. None, tt)
some_parts disk (y ∷ back) = (λ n. part_of (sector_of y.1) disk n, λ n. refl)

gave_few : (xs ys : List Cargo) → AllBring xs ys → length ys ≤ length xs
gave_few xs [] h = omega arith
gave_few [] (y ∷ ys) h = absurd h
gave_few (x ∷ xs) (y ∷ ys) h = let rest = gave_few xs ys h.1 in omega (arith, rest)

drop_get : (xs : List Cargo) (n : ℕ) → slice_get (drop 1 xs) n ≡ slice_get xs (suc n)
drop_get [] n = refl
drop_get (x ∷ xs) n = refl

-- a read or a write is a request, and names the buffer at its address
moved_kind : (i : Item) → moves_blocks (request_of i).code ≡ true → kind_of i ≡ Kind.Req
moved_kind (ItemOf.Net d) is = cc
moved_kind (ItemOf.Byte x) is = cc
moved_kind (ItemOf.Req r) is = refl
moved_kind (ItemOf.Resp r) is = cc

moved_name : (ws : List Window) (i : Item) → moves_blocks (request_of i).code ≡ true → buffer_of ws i ≡ buffer_at ws (request_of i).addr
moved_name ws (ItemOf.Net d) is = cc
moved_name ws (ItemOf.Byte x) is = cc
moved_name ws (ItemOf.Req r) is = by r.code is
  where
    by : (code : Code) → moves_blocks code ≡ true → Rattle.std.specs.Option.option_and_then (buffer_at ws) (Rattle.owner_law.specs.Things.request_address code r.addr) ≡ buffer_at ws r.addr
    by Asked.Read e = refl
    by Asked.Write e = refl
    by Asked.Flush e = cc
    by Asked.Barrier e = cc
moved_name ws (ItemOf.Resp r) is = cc

all_moves : (xs : List Cargo) → AllMove xs → (k : ℕ) (x : Cargo) → slice_get xs k ≡ Some x → moves_blocks (request_of x.0).code ≡ true
all_moves [] h k x at = cc
all_moves (y ∷ xs) h zero x at = subst (λ (z : Cargo). moves_blocks (request_of z.0).code ≡ true) (some_is at) h.0
all_moves (y ∷ xs) h (suc k) x at = all_moves xs h.1 k x at

-- one that is sent on is in a buffer of the client's own
own_on : (own : Bool) (part : Option Part) (code : Code) (block count : ℕ) → moves_blocks code ≡ true → is_ok (status_of own part code block count) ≡ true → own ≡ true
own_on true part code block count moves ok = refl
own_on false None code block count moves ok = absurd cc
own_on false (Some part) Asked.Read block count moves ok = absurd cc
own_on false (Some part) Asked.Write block count moves ok = absurd cc
own_on false (Some part) Asked.Flush block count moves ok = absurd cc
own_on false (Some part) Asked.Barrier block count moves ok = absurd cc

-- and has the page that it names
own_page : (h : Holder) (x : Cargo) → moves_blocks (request_of x.0).code ≡ true → is_own h x ≡ true → HasPage (by_offset (holder_pool h) ∷ []) x
own_page h (item, Carried.Page page) moves own b =
    let one = and_parts _ _ own in
    let two = and_parts _ _ one.1 in
    let same : page.pool.0 ≡ h.pool.0 = eqb-true page.pool.0 h.pool.0 one.0 in
    let few : page.no < h.buffers = ltb-true page.no h.buffers two.0 in
    let address : (request_of item).addr ≡ 0 + page.no * blk_buffer_bytes = let e = eqb-true (request_of item).addr (page.no * blk_buffer_bytes) two.1 in omega (arith, e) in
    let name : buffer_of (by_offset (holder_pool h) ∷ []) item ≡ Some (record { pool = h.pool.0; no = page.no }) = moved_name (by_offset (holder_pool h) ∷ []) item moves ∙ (ap (buffer_at (by_offset (holder_pool h) ∷ [])) address ∙ at_address (by_offset (holder_pool h)) page.no (omega arith) few) in
    ap (λ p. bit ((p == b.pool) && (page.no == b.no))) same ∙ sym (ap (is_named b) name)
own_page h (item, Carried.Lease lease) moves own b = cc
own_page h (item, Carried.Empty) moves own b = cc

-- no more went back to a client than came
pub few_back : (v : BlkVirt) (passed : Passed) → BlkVirtRow v passed → (k : ℕ) (c : Sharer) → slice_get (sharers (holders v.work.desk) (from_queues v.ends) (to_queues v.ends)) k ≡ Some c → length (passed.sent c.resp) ≤ length (passed.taken c.req)
few_back v passed row k c at =
    let s = sharer_at (holders v.work.desk) (from_queues v.ends) (to_queues v.ends) k c at in
    let parts = some_parts v.work.opening.disk_sectors row.back in
    let x = map_from (λ (y : Client). y.holder) v.work.desk.clients.items k s.0 s.3 in
    let served = row.serves k x.0 s.1 s.2 parts.0 x.1 s.4 s.5 parts.1 in
    let few = gave_few (passed.taken s.1.0) (passed.sent s.2.0) served.buffers in
    let req = ap (λ (y : Sharer). length (passed.taken y.req)) s.6 in
    let resp = ap (λ (y : Sharer). length (passed.sent y.resp)) s.6 in
    omega (arith, few, req, resp)

module _ (naming : Naming) (wild : Wild) (image : List ℕ) (passed : Passed) (m : Moved) (items : HaveItems passed m) (order : IsInOrder naming m) (v : BlkVirt) (driver : NamesAsked naming (disk_windows (record { number = v.work.opening.own.pool.0; base = v.work.opening.base; buffers = 1; size = blk_buffer_bytes }) (sharers (holders v.work.desk) (from_queues v.ends) (to_queues v.ends))) v.ends.output.queue.0 v.ends.input.queue.0)
    (own_names : (k : ℕ) (c : Sharer) → slice_get (sharers (holders v.work.desk) (from_queues v.ends) (to_queues v.ends)) k ≡ Some c → wild c.req ≡ false → NamesAsked naming (by_offset c.pool ∷ []) c.req c.resp)
    (distinct : ArePoolsApart (record { number = v.work.opening.own.pool.0; base = v.work.opening.base; buffers = 1; size = blk_buffer_bytes }) (sharers (holders v.work.desk) (from_queues v.ends) (to_queues v.ends))) (first : v.work.opening.own.no ≡ 0) (turn : BothInTurn wild image v passed) (row : BlkVirtRow v passed)
    (moves : (k : ℕ) (c : Sharer) → slice_get (sharers (holders v.work.desk) (from_queues v.ends) (to_queues v.ends)) k ≡ Some c → wild c.req ≡ true → AllMove (passed.taken c.req))
    (takes : (k : ℕ) (c : Sharer) → slice_get (sharers (holders v.work.desk) (from_queues v.ends) (to_queues v.ends)) k ≡ Some c → wild c.req ≡ false → AllCarry naming m c.req (passed.taken c.req))
    (takes_back : AllCarry naming m v.ends.input.queue.0 (passed.taken v.ends.input.queue.0)) where
  abbrev i : ℕ
  i = v.ends.input.queue.0

  abbrev o : ℕ
  o = v.ends.output.queue.0

  abbrev pool : PoolAt
  pool = record { number = v.work.opening.own.pool.0; base = v.work.opening.base; buffers = 1; size = blk_buffer_bytes }

  abbrev hs : List Holder
  hs = holders v.work.desk

  abbrev clients : List Sharer
  clients = sharers hs (from_queues v.ends) (to_queues v.ends)

  abbrev ws : List Window
  ws = disk_windows pool clients

  abbrev sent : List Cargo
  sent = passed.sent o

  abbrev parts : ℕ → Option Part
  parts = (some_parts v.work.opening.disk_sectors row.back).0

  back_is : row.back ≡ passed.taken i
  back_is = sym (row.taken ∙ (ap (λ l. row.back ++ l) (turn.in_turn row) ∙ append-nil row.back))

  -- its own request has its own buffer
  first_page : HasPage ws (first_read v.work.opening.base row.start)
  first_page b =
      let same : row.start.pool.0 ≡ pool.number = ap (λ (n : PageName). n.pool.0) (sym row.own) in
      let zero_is : row.start.no ≡ 0 = ap (λ (n : PageName). n.no) (sym row.own) ∙ first in
      ap₂ (λ x y. bit ((x == b.pool) && (y == b.no))) same zero_is ∙ sym (ap (is_named b) (own_name pool clients distinct))

  -- a client of the virtualiser's, by its place
  module _ (k : ℕ) (c : Sharer) (at : slice_get clients k ≡ Some c) where
    abbrev s : Sharing hs (from_queues v.ends) (to_queues v.ends) k c
    s = sharer_at hs (from_queues v.ends) (to_queues v.ends) k c at

    abbrev h : Holder
    h = s.0

    abbrev part : Option Part
    part = parts h.partition

    pool_is : c.pool ≡ holder_pool h
    pool_is = ap (λ (y : Sharer). y.pool) s.6

    req_is : c.req ≡ s.1.0
    req_is = ap (λ (y : Sharer). y.req) s.6

    resp_is : c.resp ≡ s.2.0
    resp_is = ap (λ (y : Sharer). y.resp) s.6

    abbrev came : List Cargo
    came = passed.taken s.1.0

    served : IsServed h part came (drop 1 sent) (drop 1 row.back) (passed.sent s.2.0)
    served =
        let x = map_from (λ (y : Client). y.holder) v.work.desk.clients.items k h s.3 in
        subst (λ (g : Holder). IsServed g (parts g.partition) came (drop 1 sent) (drop 1 row.back) (passed.sent s.2.0)) x.2
        (row.serves k x.0 s.1 s.2 parts x.1 s.4 s.5 (some_parts v.work.opening.disk_sectors row.back).1)

    -- what came from it has the buffers that it names
    came_at : (j : ℕ) (z : Cargo) → slice_get came j ≡ Some z → slice_get (passed.taken c.req) j ≡ Some z
    came_at j z z_at = ap (λ n. slice_get (passed.taken n) j) req_is ∙ z_at

    came_page : wild c.req ≡ false → (j : ℕ) (z : Cargo) → slice_get came j ≡ Some z → HasPage (by_offset c.pool ∷ []) z
    came_page calm j z z_at = carries_page naming m (by_offset c.pool ∷ []) c.req (inl (own_names k c at calm).0) j z (takes k c at calm j z (came_at j z z_at))

    -- and is a request in one of its buffers
    came_asks : wild c.req ≡ false → (j : ℕ) (z : Cargo) → slice_get came j ≡ Some z → (kind_of z.0 ≡ Kind.Req) × IsRequestIn c.pool z.0
    came_asks calm j z z_at =
        let good = all_at (λ (x : Cargo). is_bad h x ≡ false) came (turn.good k h s.1 s.3 s.4 (ap wild (sym req_is) ∙ calm)) j z z_at in (
          order.requests c.resp c.req (by_offset c.pool ∷ []) (own_names k c at calm).1 j z.0 (took_at naming passed m items order c.req j z (came_at j z z_at)),
          subst (λ (p : PoolAt). IsRequestIn p z.0) (sym pool_is) (good_in h z good),
        )

    -- the request of an entry at the driver
    asked_by : (n : ℕ) (x : Cargo) → slice_get (own_of h (drop 1 sent)) n ≡ Some x → (z : Cargo) × (slice_get (filter (goes_on h part) came) n ≡ Some z) × (for_disk h part z ≡ numbered 0 x)
    asked_by n x x_at =
        let bare : slice_get (unnumbered (own_of h (drop 1 sent))) n ≡ Some (numbered 0 x) = map_get (numbered 0) (own_of h (drop 1 sent)) n x x_at in
        map_from (for_disk h part) (filter (goes_on h part) came) n (numbered 0 x) (prefix_get (unnumbered (own_of h (drop 1 sent))) (map (for_disk h part) (filter (goes_on h part) came)) served.sends n (numbered 0 x) bare)

    -- what is sent on has its buffer, and is a request in it
    on_page : (j : ℕ) (z : Cargo) → slice_get came j ≡ Some z → goes_on h part z ≡ true → HasPage (by_offset c.pool ∷ []) z × (kind_of z.0 ≡ Kind.Req) × IsRequestIn c.pool z.0
    on_page j z z_at on = by (wild c.req) refl
      where
        by : (t : Bool) → wild c.req ≡ t → HasPage (by_offset c.pool ∷ []) z × (kind_of z.0 ≡ Kind.Req) × IsRequestIn c.pool z.0
        by false calm = let asks = came_asks calm j z z_at in (came_page calm j z z_at, asks.0, asks.1)
        by true is =
            let move = all_moves (passed.taken c.req) (moves k c at is) j z (came_at j z z_at) in
            let own = own_on (is_own h z) part (request_of z.0).code (request_of z.0).block (request_of z.0).count move on in (
              subst (λ (p : PoolAt). HasPage (by_offset p ∷ []) z) (sym pool_is) (own_page h z move own),
              moved_kind z.0 move,
              subst (λ (p : PoolAt). IsRequestIn p z.0) (sym pool_is) (λ moves_. own_in h z own),
            )

    -- what went to the driver for it names its buffer there
    later_page : (n : ℕ) (x : Cargo) → slice_get (own_of h (drop 1 sent)) n ≡ Some x → kind_of x.0 ≡ Kind.Req → HasPage ws x
    later_page n x x_at kind b =
        let z = asked_by n x x_at in
        let there = kept_is (goes_on h part) came n z.0 z.1 in
        let asks = on_page there.1.0 z.0 there.1.1 there.0 in
        let page = asks.0 b in
        let body : x.1 ≡ z.0.1 = ap (λ (y : Cargo). y.1) (sym z.2) in
        let item : numbered_item 0 x.0 ≡ item_for_disk h.base part z.0.0 = ap (λ (y : Cargo). y.0) (sym z.2) in
        let base : h.base ≡ c.pool.base = ap (λ (p : PoolAt). p.base) (sym pool_is) in
        let name : buffer_of ws x.0 ≡ buffer_of (by_offset c.pool ∷ []) z.0.0 =
        sym (numbered_name ws x.0 kind) ∙ (ap (buffer_of ws) (item ∙ ap (λ a. item_for_disk a part z.0.0) base) ∙ on_name pool clients distinct k c at part z.0.0 asks.1 asks.2) in
        ap (as_page b) body ∙ (page ∙ sym (ap (is_named b) name))

  -- so has each entry that went to the driver
  pub sent_page : (j : ℕ) (x : Cargo) → slice_get sent j ≡ Some x → HasPage ws x
  sent_page zero x at =
      let own : first_read v.work.opening.base row.start ≡ x = some_is (prefix_get sent (first_read v.work.opening.base row.start ∷ drop 1 sent) row.reads 0 x at) in
      subst (HasPage ws) own first_page
  sent_page (suc j) x at =
      let later : slice_get (drop 1 sent) j ≡ Some x = drop_get sent j ∙ at in
      let is : IsSomeones hs x = row.within j x later in
      let c = sharer_of hs (from_queues v.ends) (to_queues v.ends) is.0 is.1 turn.from_each turn.to_each is.2 in
      let g = sharer_at hs (from_queues v.ends) (to_queues v.ends) is.0 c.0 c.1 in
      let same : is.1 ≡ g.0 = some_is (sym is.2 ∙ g.3) in
      let kept = kept_at (is_at g.0) (drop 1 sent) j x later (subst (λ (y : Holder). is_at y x ≡ true) same is.3) in
      later_page is.0 c.0 c.1 kept.0 x kept.1 (order.requests i o ws driver.1 (suc j) x.0 (put_at naming passed m items order o (suc j) x at))

  -- and each response brings that of its request
  back_paired : ArePaired (drop 1 sent) (drop 1 row.back)
  back_paired k x y at bt =
      let x_at : slice_get sent (suc k) ≡ Some x = sym (drop_get sent k) ∙ at in
      let y_at : slice_get (passed.taken i) (suc k) ≡ Some y = ap (λ l. slice_get l (suc k)) (sym back_is) ∙ (sym (drop_get row.back k) ∙ bt) in
      carries_answer naming passed m items order ws o i driver.1 (suc k) x y (put_at naming passed m items order o (suc k) x x_at) (sent_page (suc k) x x_at) (takes_back (suc k) y y_at)

  -- what a client is given
  pub given : (k : ℕ) (c : Sharer) → slice_get clients k ≡ Some c → wild c.req ≡ false → AllCarry naming m c.resp (passed.sent c.resp)
  given k c at calm j y y_at =
      let g = s k c at in
      let serves = served k c at in
      let put : slice_get (passed.sent g.2.0) j ≡ Some y = ap (λ n. slice_get (passed.sent n) j) (sym (resp_is k c at)) ∙ y_at in
      let all = came k c at in
      let answer = prefix_get (passed.sent g.2.0) (answers_to g.0 (part k c at) all (own_back g.0 (drop 1 sent) (drop 1 row.back))) serves.answers j y put in
      let below = there_below (passed.sent g.2.0) j y put in
      let few = gave_few all (passed.sent g.2.0) serves.buffers in
      let z = there_is all j (omega (arith, below, few)) in
      answer_carries naming passed m items order (by_offset c.pool ∷ []) c.req c.resp (own_names k c at calm).1 j z.0 y (took_at naming passed m items order c.req j z.0 (came_at k c at j z.0 z.1)) (came_page k c at calm j z.0 z.1)
      (answers_paired g.0 (part k c at) all (own_back g.0 (drop 1 sent) (drop 1 row.back)) goes j z.0 y z.1 answer)
    where
      goes : ArePaired (filter (goes_on (h k c at) (part k c at)) (came k c at)) (own_back (h k c at) (drop 1 sent) (drop 1 row.back))
      goes n a b a_at b_at =
          let w = own_back_at (h k c at) (drop 1 sent) (drop 1 row.back) n b b_at in
          let z = asked_by k c at n w.0 w.1 in
          let same : z.0 ≡ a = some_is (sym z.1 ∙ a_at) in
          let body : w.0.1 ≡ a.1 = ap (λ (y : Cargo). y.1) (sym z.2) ∙ ap (λ (y : Cargo). y.1) same in
          subst (λ (e : Body). SamePage e b.1) body (own_paired (h k c at) (drop 1 sent) (drop 1 row.back) back_paired n w.0 b w.1 b_at)

  -- all that it put to the driver carries what is named
  pub asks_on : AllCarry naming m o sent
  asks_on k x at = page_carries naming m ws o (inl driver.0) k x (sent_page k x at)
