-- The virtualiser's row, of items.
use Rattle.std.proofs.Common.{◌≡◌, ◌+◌, ◌*◌, ◌%◌, ◌^◌, ◌++◌, ◌&&◌, ◌<◌, ◌≤◌, ℕ, zero, suc, Bool, true, false, not, cond, Option, Some, None, List, [], ◌∷◌, length, map, drop, slice_get, refl, sym, ap, ap₂, ◌∙◌, subst, arith}
use Rattle.std.specs.List.{filter}
use Rattle.std.proofs.lemmas.Bool.{and_parts, eqb-true, ltb-true}
use Rattle.std.proofs.lemmas.List.{append-nil, length-map}
use Rattle.cargo_core.specs.Blocks.{blk_buffer_bytes}
use Rattle.cargo_core.specs.Lists.{IsPrefix, PrefixMerge}
use Rattle.cargo_core.specs.declared.item.BlkStatus.{BlkStatus}
use Rattle.cargo_core.specs.declared.item.Body.TheVariants as Carried
use Rattle.cargo_core.specs.declared.item.Code.{Code}
use Rattle.cargo_core.specs.declared.item.Code.TheVariants as Asked
use Rattle.cargo_core.specs.declared.item.Item.{Item}
use Rattle.cargo_core.specs.declared.item.Item.TheVariants as ItemOf
use Rattle.wire_core.specs.declared.names.QueueId.{QueueId}
use Rattle.wire_core.specs.Deeds.{Cargo}
use Rattle.wire_core.specs.Lists.{Passed}
use Rattle.wire_core.specs.Queues.{items_of}
use Rattle.play_core.specs.Moved.{Moved}
use Rattle.play_core.specs.Sheets.{Scene}
use Rattle.play_core.specs.Wants.{intake, outlet}
use Rattle.play_core.proofs.Merges.{merge_map}
use Rattle.play_core.proofs.Lists.{some_is, map_get, map_from}
use Rattle.blk_mbr.specs.declared.part.Part.{Part}
use Rattle.blk_mbr.specs.Partitions.{part_of}
use Rattle.class_expect.specs.BlkExpect.Judging.{status_of}
use Rattle.class_expect.specs.BlkExpect.Replies.{partition_in}
use Rattle.blk_virt.specs.Desks.{holders}
use Rattle.blk_virt.specs.Openings.{KnowsParts, first_read}
use Rattle.blk_virt.specs.Requests.{request_of, moves_blocks, is_own, is_bad, judged, is_ok, goes_on, for_disk, numbered, passed_on, is_at, range_of}
use Rattle.blk_virt.specs.Serving.{own_of, own_back, answers_to, unnumbered, IsServed}
use Rattle.blk_virt.specs.Virtualising.{BlkVirtRow}
use Rattle.blk_virt.specs.declared.client.Client.{Client}
use Rattle.blk_virt.specs.declared.requests.Holder.{Holder}
use Rattle.blk_virt.specs.declared.virtualiser.BlkVirt.{BlkVirt}
use Rattle.buffer_kit.specs.Virtualising.{from_queues, to_queues}
use Rattle.owner_law.specs.Pools.Places.{PoolAt}
use Rattle.net_law.specs.Owners.Ends.{AreItemsOf}
use Rattle.net_law.proofs.PartsLemmas.Items.{all_at, items_begin, items_long}
use Rattle.net_law.proofs.PartsLemmas.Pairs.{twice, pair_first, pair_second}
use Rattle.blk_law.specs.Sheets.Parts.{Sharer}
use Rattle.blk_law.specs.Sheets.Rows.{IsRequestIn, all_requests, answer_items, answers_due, first_item, goes_on_item, item_for_disk, items_back, judged_item, numbered_item, passed_item, refusal_item, requests_on}
use Rattle.blk_law.specs.Sheets.Table.{blk_sheet}
use Rattle.blk_law.specs.Sheets.Playing.{VirtInTurn, holder_pool, sharers, virt_part}
use Rattle.blk_law.proofs.SheetsLemmas.Splitting.{HasOwner, owned, split}

-- a request whose buffer is its client's own is judged by its item
pub status_same : (own : Bool) (part : Option Part) (code : Code) (block count : ℕ) → (moves_blocks code && not own) ≡ false → status_of own part code block count ≡ status_of true part code block count
status_same true part code block count good = refl
status_same false None code block count good = refl
status_same false (Some part) Asked.Read block count good = absurd cc
status_same false (Some part) Asked.Write block count good = absurd cc
status_same false (Some part) Asked.Flush block count good = refl
status_same false (Some part) Asked.Barrier block count good = refl

pub judged_same : (h : Holder) (part : Option Part) (x : Cargo) → is_bad h x ≡ false → judged h part x ≡ judged_item part x.0
judged_same h part x good = status_same (is_own h x) part (request_of x.0).code (request_of x.0).block (request_of x.0).count good

-- so is what goes on to the disk
on_items : (h : Holder) (part : Option Part) (xs : List Cargo) → ((j : ℕ) (x : Cargo) → slice_get xs j ≡ Some x → is_bad h x ≡ false) → items_of (map (for_disk h part) (filter (goes_on h part) xs)) ≡ map (item_for_disk h.base part) (filter (goes_on_item part) (items_of xs))
on_items h part [] good = refl
on_items h part (x ∷ xs) good =
    ap (λ s. items_of (map (for_disk h part) (cond (is_ok s) (x ∷ filter (goes_on h part) xs) (filter (goes_on h part) xs)))) (judged_same h part x (good 0 x refl))
    ∙ by (is_ok (judged_item part x.0)) (on_items h part xs (λ j y at. good (suc j) y at))
  where
    by : (t : Bool) → items_of (map (for_disk h part) (filter (goes_on h part) xs)) ≡ map (item_for_disk h.base part) (filter (goes_on_item part) (items_of xs))
        → items_of (map (for_disk h part) (cond t (x ∷ filter (goes_on h part) xs) (filter (goes_on h part) xs))) ≡ map (item_for_disk h.base part) (cond t (x.0 ∷ filter (goes_on_item part) (items_of xs)) (filter (goes_on_item part) (items_of xs)))
    by true rest = ap (λ l. item_for_disk h.base part x.0 ∷ l) rest
    by false rest = rest

-- the response that refuses a request
abbrev refuse : BlkStatus → Cargo → Cargo
refuse s x = (ItemOf.Resp (record { status = s; count = 0; id = (request_of x.0).id }), x.1)

-- and what is answered
none_items : (x : Cargo) (part : Option Part) (t : Bool) (xs : List Cargo) (ys : List Item) → items_of xs ≡ ys → items_of (cond t [] (refuse (judged_item part x.0) x ∷ xs)) ≡ cond t [] (refusal_item part x.0 ∷ ys)
none_items x part true xs ys rest = refl
none_items x part false xs ys rest = ap (λ l. refusal_item part x.0 ∷ l) rest

some_items : (x y : Cargo) (part : Option Part) (t : Bool) (xs zs : List Cargo) (ys ws : List Item) → items_of xs ≡ ys → items_of zs ≡ ws → items_of (cond t (passed_on (request_of x.0).id y ∷ xs) (refuse (judged_item part x.0) x ∷ zs)) ≡ cond t (passed_item (request_of x.0).id y.0 ∷ ys) (refusal_item part x.0 ∷ ws)
some_items x y part true xs zs ys ws one two = ap (λ l. passed_item (request_of x.0).id y.0 ∷ l) one
some_items x y part false xs zs ys ws one two = ap (λ l. refusal_item part x.0 ∷ l) two

abbrev pub AreGood : Holder → List Cargo → Type 0
AreGood h xs = (j : ℕ) (x : Cargo) → slice_get xs j ≡ Some x → is_bad h x ≡ false

answers_items : (h : Holder) (part : Option Part) (xs back : List Cargo) → AreGood h xs → items_of (answers_to h part xs back) ≡ answer_items part (items_of xs) (items_of back)
answers_items h part [] back good = refl
answers_items h part (x ∷ xs) [] good =
    ap (λ (s : BlkStatus). items_of (cond (is_ok s) [] (refuse s x ∷ answers_to h part xs []))) (judged_same h part x (good 0 x refl))
    ∙ none_items x part (goes_on_item part x.0) (answers_to h part xs []) (answer_items part (items_of xs) []) (answers_items h part xs [] (λ j y at. good (suc j) y at))
answers_items h part (x ∷ xs) (y ∷ back) good =
    ap (λ (s : BlkStatus). items_of (cond (is_ok s) (passed_on (request_of x.0).id y ∷ answers_to h part xs back) (refuse s x ∷ answers_to h part xs (y ∷ back)))) (judged_same h part x (good 0 x refl))
    ∙ some_items x y part (goes_on_item part x.0) (answers_to h part xs back) (answers_to h part xs (y ∷ back)) (answer_items part (items_of xs) (items_of back)) (answer_items part (items_of xs) (items_of (y ∷ back)))
    (answers_items h part xs back (λ j z at. good (suc j) z at)) (answers_items h part xs (y ∷ back) (λ j z at. good (suc j) z at))

-- which responses answer a client's requests
pub back_items : (h : Holder) (sent back : List Cargo) → items_of (own_back h sent back) ≡ items_back (holder_pool h) (items_of sent) (items_of back)
back_items h [] back = refl
back_items h (x ∷ sent) [] = refl
back_items h (x ∷ sent) (y ∷ back) = by (is_at h x) (back_items h sent back)
  where
    by : (t : Bool) → items_of (own_back h sent back) ≡ items_back (holder_pool h) (items_of sent) (items_of back) → items_of (cond t (y ∷ own_back h sent back) (own_back h sent back)) ≡ cond t (y.0 ∷ items_back (holder_pool h) (items_of sent) (items_of back)) (items_back (holder_pool h) (items_of sent) (items_of back))
    by true rest = ap (λ l. y.0 ∷ l) rest
    by false rest = rest

-- a request that is its client's own is at the offset of one of its buffers
pub own_in : (h : Holder) (x : Cargo) → is_own h x ≡ true → (number : ℕ) × (number < h.buffers) × ((request_of x.0).addr ≡ number * blk_buffer_bytes)
own_in h (item, Carried.Page page) own =
    let one = and_parts _ _ own in
    let two = and_parts _ _ one.1 in
    (page.no, ltb-true page.no h.buffers two.0, eqb-true (request_of item).addr (page.no * blk_buffer_bytes) two.1)
own_in h (item, Carried.Lease lease) own = absurd cc
own_in h (item, Carried.Empty) own = absurd cc

pub good_in : (h : Holder) (x : Cargo) → is_bad h x ≡ false → IsRequestIn (holder_pool h) x.0
good_in h x good moves = by (is_own h x) refl
  where
    by : (t : Bool) → is_own h x ≡ t → (number : ℕ) × (number < h.buffers) × ((request_of x.0).addr ≡ number * blk_buffer_bytes)
    by true own = own_in h x own
    by false own = let bad : (moves_blocks (request_of x.0).code && not (is_own h x)) ≡ true = ap₂ (λ a b. a && not b) moves own in absurd cc

pub drop_items : (xs : List Cargo) → items_of (drop 1 xs) ≡ drop 1 (items_of xs)
drop_items [] = refl
drop_items (x ∷ xs) = refl

pub unnumbered_items : (xs : List Cargo) → items_of (unnumbered xs) ≡ map (numbered_item 0) (items_of xs)
unnumbered_items [] = refl
unnumbered_items (x ∷ xs) = ap (λ l. numbered_item 0 x.0 ∷ l) (unnumbered_items xs)

-- which client stands at a place
abbrev pub Sharing : List Holder → (from to : List QueueId) → ℕ → Sharer → Type 0
Sharing hs from to k c = (h : Holder) × (q : QueueId) × (r : QueueId) × (slice_get hs k ≡ Some h) × (slice_get from k ≡ Some q) × (slice_get to k ≡ Some r) × (c ≡ record { req = q.0; resp = r.0; entry = h.partition; pool = holder_pool h })

pub sharer_at : (hs : List Holder) (from to : List QueueId) (k : ℕ) (c : Sharer) → slice_get (sharers hs from to) k ≡ Some c → Sharing hs from to k c
sharer_at [] from to k c at = cc
sharer_at (h ∷ hs) [] to k c at = cc
sharer_at (h ∷ hs) (q ∷ from) [] k c at = cc
sharer_at (h ∷ hs) (q ∷ from) (r ∷ to) zero c at = (h, q, r, refl, refl, refl, sym (some_is at))
sharer_at (h ∷ hs) (q ∷ from) (r ∷ to) (suc k) c at = sharer_at hs from to k c at

pub sharers_many : (hs : List Holder) (from to : List QueueId) → length from ≡ length hs → length to ≡ length hs → length (sharers hs from to) ≡ length hs
sharers_many [] from to lf lt = refl
sharers_many (h ∷ hs) [] to lf lt = absurd (omega (arith, lf))
sharers_many (h ∷ hs) (q ∷ from) [] lf lt = absurd (omega (arith, lt))
sharers_many (h ∷ hs) (q ∷ from) (r ∷ to) lf lt = let rest = sharers_many hs from to (omega (arith, lf)) (omega (arith, lt)) in omega (arith, rest)

module _ (scene : Scene) (v : BlkVirt) (passed : Passed) (m : Moved) (turn : VirtInTurn scene.image v passed) (items : AreItemsOf (blk_sheet scene (virt_part v)).ends passed m) (row : BlkVirtRow v passed) where
  abbrev image : List ℕ
  image = scene.image

  abbrev i : ℕ
  i = v.ends.input.queue.0

  abbrev o : ℕ
  o = v.ends.output.queue.0

  abbrev hs : List Holder
  hs = holders v.work.desk

  abbrev clients : List Sharer
  clients = sharers hs (from_queues v.ends) (to_queues v.ends)

  abbrev sent : List Cargo
  sent = passed.sent o

  abbrev later : List Cargo
  later = drop 1 sent

  abbrev back : List Cargo
  back = drop 1 (passed.taken i)

  came_back : m.taken i ≡ items_of (passed.taken i)
  came_back = items 0 (intake i) refl

  gave : m.sent o ≡ items_of sent
  gave = items 1 (outlet o) refl

  back_is : row.back ≡ passed.taken i
  back_is = sym (row.taken ∙ (ap (λ l. row.back ++ l) (turn.in_turn row) ∙ append-nil row.back))

  abbrev parts : ℕ → Option Part
  parts entry = partition_in image entry

  -- the first response tells the partitions
  known : KnowsParts v.work.opening.disk_sectors row.back parts
  known = by row.back back_is
    where
      by : (l : List Cargo) → l ≡ passed.taken i → KnowsParts v.work.opening.disk_sectors l parts
      by [] is = tt
      by (y ∷ ys) is = λ n. ap₂ (λ (s : List ℕ) (k : ℕ). part_of s k n) (sym (turn.sector y (ap (λ l. slice_get l 0) (sym is)))) (sym turn.sectors)

  -- a client of the virtualiser's, by its place
  module _ (k : ℕ) (c : Sharer) (at : slice_get clients k ≡ Some c) where
    abbrev s : Sharing hs (from_queues v.ends) (to_queues v.ends) k c
    s = sharer_at hs (from_queues v.ends) (to_queues v.ends) k c at

    abbrev h : Holder
    h = s.0

    kept_there : (x : Client) × (slice_get v.work.desk.clients.items k ≡ Some x) × (x.holder ≡ h)
    kept_there = map_from (λ (x : Client). x.holder) v.work.desk.clients.items k h s.3

    good : AreGood h (passed.taken s.1.0)
    good j x x_at = all_at (λ (y : Cargo). is_bad h y ≡ false) (passed.taken s.1.0) (turn.good k h s.1 s.3 s.4) j x x_at

    served : IsServed h (parts h.partition) (passed.taken s.1.0) later back (passed.sent s.2.0)
    served =
        subst (λ l. IsServed h (parts h.partition) (passed.taken s.1.0) later (drop 1 l) (passed.sent s.2.0)) back_is
        (subst (λ (g : Holder). IsServed g (parts g.partition) (passed.taken s.1.0) later (drop 1 row.back) (passed.sent s.2.0)) kept_there.2 (row.serves k kept_there.0 s.1 s.2 parts kept_there.1 s.4 s.5 known))

    came : m.taken c.req ≡ items_of (passed.taken s.1.0)
    came = items (suc (suc (twice k))) (intake c.req) (pair_first (λ (x : Sharer). intake x.req) (λ x. outlet x.resp) clients k c at) ∙ ap (λ (x : Sharer). items_of (passed.taken x.req)) s.6

    given : m.sent c.resp ≡ items_of (passed.sent s.2.0)
    given = items (suc (suc (suc (twice k)))) (outlet c.resp) (pair_second (λ (x : Sharer). intake x.req) (λ x. outlet x.resp) clients k c at) ∙ ap (λ (x : Sharer). items_of (passed.sent x.resp)) s.6

    -- what of its requests goes to the disk
    on_is : requests_on image m c ≡ items_of (map (for_disk h (parts h.partition)) (filter (goes_on h (parts h.partition)) (passed.taken s.1.0)))
    on_is =
        ap (λ (x : Sharer). map (item_for_disk x.pool.base (parts x.entry)) (filter (goes_on_item (parts x.entry)) (m.taken c.req))) s.6
        ∙ (ap (λ l. map (item_for_disk h.base (parts h.partition)) (filter (goes_on_item (parts h.partition)) l)) came
        ∙ sym (on_items h (parts h.partition) (passed.taken s.1.0) good))

    -- and its answers
    due_is : answers_due image o i m c ≡ items_of (answers_to h (parts h.partition) (passed.taken s.1.0) (own_back h later back))
    due_is =
        ap (λ (x : Sharer). answer_items (parts x.entry) (m.taken c.req) (items_back x.pool (drop 1 (m.sent o)) (drop 1 (m.taken i)))) s.6
        ∙ (ap₂ (λ (xs ys : List Item). answer_items (parts h.partition) xs ys) came
        (ap₂ (λ (xs ys : List Item). items_back (holder_pool h) xs ys) (ap (drop 1) gave ∙ sym (drop_items sent)) (ap (drop 1) came_back ∙ sym (drop_items (passed.taken i))) ∙ sym (back_items h later back))
        ∙ sym (answers_items h (parts h.partition) (passed.taken s.1.0) (own_back h later back) good))

    client_gives : IsPrefix (m.sent c.resp) (answers_due image o i m c)
    client_gives = subst (IsPrefix (m.sent c.resp)) (sym due_is) (subst (λ xs. IsPrefix xs (items_of (answers_to h (parts h.partition) (passed.taken s.1.0) (own_back h later back)))) (sym given) (items_begin (passed.sent s.2.0) (answers_to h (parts h.partition) (passed.taken s.1.0) (own_back h later back)) served.answers))

    client_one : length (m.taken c.req) ≤ length (m.sent c.resp) + 1
    client_one =
        let a = ap length came in
        let b = ap length given in
        let d = items_long (passed.taken s.1.0) in
        let e = items_long (passed.sent s.2.0) in
        let few = served.one in
        omega (arith, a, b, d, e, few)

    client_waits : m.taken i ≡ [] → m.taken c.req ≡ []
    client_waits none = came ∙ ap items_of (row.waits (nothing row.back (ap items_of back_is ∙ none_too none)) k kept_there.0 s.1 kept_there.1 s.4)
      where
        none_too : m.taken i ≡ [] → items_of (passed.taken i) ≡ []
        none_too e = sym came_back ∙ e

        nothing : (l : List Cargo) → items_of l ≡ [] → l ≡ []
        nothing [] e = refl
        nothing (x ∷ xs) e = absurd cc

    client_came : (j : ℕ) (x : Item) → slice_get (m.taken c.req) j ≡ Some x → IsRequestIn c.pool x
    client_came j x x_at =
        let f = map_from (λ (y : Cargo). y.0) (passed.taken s.1.0) j x (ap (λ l. slice_get l j) (sym came) ∙ x_at) in
        subst (λ (p : PoolAt). IsRequestIn p x) (ap (λ (y : Sharer). y.pool) (sym s.6)) (subst (IsRequestIn (holder_pool h)) f.2 (good_in h f.0 (good j f.0 f.1)))

    client_begins : (l : List Cargo) → slice_get (map (owned is_at later) hs) k ≡ Some l → IsPrefix (items_of (unnumbered l)) (requests_on image m c)
    client_begins l l_at =
        let f = map_from (owned is_at later) hs k l l_at in
        let same : f.0 ≡ h = some_is (sym f.1 ∙ s.3) in
        let list : owned is_at later h ≡ l = ap (owned is_at later) (sym same) ∙ f.2 in
        subst (IsPrefix (items_of (unnumbered l))) (sym on_is)
        (subst (λ (xs : List Cargo). IsPrefix (items_of (unnumbered xs)) (items_of (map (for_disk h (parts h.partition)) (filter (goes_on h (parts h.partition)) (passed.taken s.1.0))))) list
        (items_begin (unnumbered (own_of h later)) (map (for_disk h (parts h.partition)) (filter (goes_on h (parts h.partition)) (passed.taken s.1.0))) served.sends))

  -- each request to the driver behind the first is one client's
  owner : (j : ℕ) (x : Cargo) → slice_get later j ≡ Some x → HasOwner is_at hs x
  owner j x at =
      let w = row.within j x at in
      (w.0, w.1, w.2, w.3, λ k p p_at ne. turn.apart.apart w.0 k (range_of w.1) (range_of p) (map_get range_of hs w.0 w.1 w.2) (map_get range_of hs k p p_at) ne (request_of x.0).addr w.3)

  -- what went to the driver behind its own request is a merge of what of each client's goes there
  merges : PrefixMerge (all_requests image clients m) (map (numbered_item 0) (drop 1 (m.sent o)))
  merges =
      let said : map (numbered_item 0) (drop 1 (m.sent o)) ≡ items_of (unnumbered later) = ap (λ (l : List Item). map (numbered_item 0) (drop 1 l)) gave ∙ (ap (map (numbered_item 0)) (sym (drop_items sent)) ∙ sym (unnumbered_items later)) in
      let one : List (List Cargo) = map (owned is_at later) hs in
      let two : List (List Cargo) = map unnumbered one in
      subst (PrefixMerge (all_requests image clients m)) (sym said) (record {
        parts = map items_of two;
        as_many =
            let a = length-map two items_of in
            let b = length-map one unnumbered in
            let d = length-map hs (owned is_at later) in
            let e = length-map clients (requests_on image m) in
            let f = sharers_many hs (from_queues v.ends) (to_queues v.ends) turn.from_each turn.to_each in
            omega (arith, a, b, d, e, f);
        begins = λ k part whole at at'.
            let a = map_from items_of two k part at in
            let b = map_from unnumbered one k a.0 a.1 in
            let w = map_from (requests_on image m) clients k whole at' in
            let begun = client_begins k w.0 w.1 b.0 b.1 in
            subst (λ x. IsPrefix x whole) (ap items_of b.2 ∙ a.2) (subst (IsPrefix (items_of (unnumbered b.0))) w.2 begun);
        merged = merge_map (λ (c : Cargo). c.0) two (unnumbered later) (merge_map (numbered 0) one later (split is_at hs later owner));
      })

  pub virt_row : (blk_sheet scene (virt_part v)).row m
  virt_row = record {
    first =
        let said : IsPrefix (items_of sent) (first_item (record { number = v.work.opening.own.pool.0; base = v.work.opening.base; buffers = 1; size = blk_buffer_bytes }) ∷ items_of later) = items_begin sent (first_read v.work.opening.base row.start ∷ later) row.reads in
        subst (λ l. IsPrefix l (first_item (record { number = v.work.opening.own.pool.0; base = v.work.opening.base; buffers = 1; size = blk_buffer_bytes }) ∷ drop 1 l)) (sym gave) (subst (λ l. IsPrefix (items_of sent) (first_item (record { number = v.work.opening.own.pool.0; base = v.work.opening.base; buffers = 1; size = blk_buffer_bytes }) ∷ l)) (drop_items sent) said);
    numbers = λ j x x_at.
        let f = map_from (λ (y : Cargo). y.0) sent j x (ap (λ l. slice_get l j) (sym gave) ∙ x_at) in
        subst (λ (y : Item). (request_of y).id ≡ j % 2 ^ 32) f.2 (row.numbers j f.0 f.1);
    merges = merges;
    answered =
        let a = ap length came_back in
        let b = ap length gave in
        let c = items_long (passed.taken i) in
        let d = items_long sent in
        let few = turn.answered in
        omega (arith, a, b, c, d, few);
    waits = λ none k c at. client_waits k c at none;
    gives = client_gives;
    one = client_one;
    came = client_came;
  }
