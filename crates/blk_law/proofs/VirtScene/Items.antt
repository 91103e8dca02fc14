-- The virtualiser's row, of items and names, whoever its clients are.
use Rattle.std.proofs.Common.{◌≡◌, ◌+◌, ◌%◌, ◌^◌, ◌++◌, ◌≤◌, ℕ, suc, false, Option, Some, List, [], ◌∷◌, length, map, drop, slice_get, refl, sym, ap, ap₂, ◌∙◌, subst, arith}
use Rattle.std.specs.List.{filter}
use Rattle.std.proofs.lemmas.List.{append-nil, length-map}
use Rattle.cargo_core.specs.Blocks.{blk_buffer_bytes}
use Rattle.cargo_core.specs.Lists.{IsPrefix, PrefixMerge}
use Rattle.cargo_core.specs.declared.item.Item.{Item}
use Rattle.wire_core.specs.Deeds.{Cargo}
use Rattle.wire_core.specs.Lists.{Passed}
use Rattle.wire_core.specs.Queues.{items_of}
use Rattle.play_core.specs.Moved.{Moved}
use Rattle.play_core.specs.Names.{Names, Wild}
use Rattle.play_core.specs.Sheets.{Scene}
use Rattle.play_core.specs.Wants.{intake, outlet}
use Rattle.play_core.proofs.Merges.{merge_map}
use Rattle.play_core.proofs.Lists.{some_is, map_get, map_from}
use Rattle.blk_mbr.specs.declared.part.Part.{Part}
use Rattle.blk_mbr.specs.Partitions.{part_of}
use Rattle.class_expect.specs.BlkExpect.Replies.{partition_in}
use Rattle.blk_virt.specs.Desks.{holders}
use Rattle.blk_virt.specs.Openings.{KnowsParts, first_read}
use Rattle.blk_virt.specs.Requests.{request_of, is_bad, goes_on, for_disk, numbered, is_at, range_of}
use Rattle.blk_virt.specs.Serving.{own_of, own_back, answers_to, unnumbered, IsServed}
use Rattle.blk_virt.specs.Virtualising.{BlkVirtRow}
use Rattle.blk_virt.specs.declared.client.Client.{Client}
use Rattle.blk_virt.specs.declared.requests.Holder.{Holder}
use Rattle.blk_virt.specs.declared.virtualiser.BlkVirt.{BlkVirt}
use Rattle.buffer_kit.specs.Virtualising.{from_queues, to_queues}
use Rattle.owner_law.specs.Pools.Places.{PoolAt}
use Rattle.net_law.specs.Owners.Ends.{AreItemsOf}
use Rattle.net_law.proofs.PartsLemmas.Items.{all_at, items_begin, items_long}
use Rattle.net_law.proofs.PartsLemmas.Pairs.{twice, pair_first, pair_second}
use Rattle.blk_law.specs.Sheets.Parts.{Sharer}
use Rattle.blk_law.specs.Sheets.Rows.{IsRequestIn, first_item, items_back, numbered_item}
use Rattle.blk_law.specs.Sheets.Playing.{holder_pool, sharers, virt_part}
use Rattle.blk_law.specs.VirtScene.Playing.{BothInTurn, TellsOf}
use Rattle.blk_law.specs.VirtScene.Rows.{Judged, all_answers, all_told, answers_told, going_on, judge, owns, requests_told}
use Rattle.blk_law.specs.VirtScene.Table.{both_sheet}
use Rattle.blk_law.proofs.SheetsLemmas.Splitting.{HasOwner, owned, split}
use Rattle.blk_law.proofs.SheetsLemmas.Virtual.{AreGood, Sharing, back_items, drop_items, sharer_at, sharers_many, unnumbered_items}
use Rattle.blk_law.proofs.VirtScene.Sorting.{judge_is, owns_in, sharer_of}
use Rattle.blk_law.proofs.VirtScene.Telling.{answers_entries, by_entry, on_entries}

module _ (scene : Scene) (wild : Wild) (names : Names) (v : BlkVirt) (passed : Passed) (m : Moved) (turn : BothInTurn wild scene.image v passed) (tells : TellsOf wild names v passed) (items : AreItemsOf (both_sheet scene wild names (virt_part v)).ends passed m) (row : BlkVirtRow v passed) where
  abbrev image : List ℕ
  image = scene.image

  abbrev i : ℕ
  i = v.ends.input.queue.0

  abbrev o : ℕ
  o = v.ends.output.queue.0

  abbrev hs : List Holder
  hs = holders v.work.desk

  abbrev clients : List Sharer
  clients = sharers hs (from_queues v.ends) (to_queues v.ends)

  abbrev sent : List Cargo
  sent = passed.sent o

  abbrev later : List Cargo
  later = drop 1 sent

  abbrev back : List Cargo
  back = drop 1 (passed.taken i)

  came_back : m.taken i ≡ items_of (passed.taken i)
  came_back = items 0 (intake i) refl

  gave : m.sent o ≡ items_of sent
  gave = items 1 (outlet o) refl

  back_is : row.back ≡ passed.taken i
  back_is = sym (row.taken ∙ (ap (λ l. row.back ++ l) (turn.in_turn row) ∙ append-nil row.back))

  abbrev parts : ℕ → Option Part
  parts entry = partition_in image entry

  -- the first response tells the partitions
  known : KnowsParts v.work.opening.disk_sectors row.back parts
  known = by row.back back_is
    where
      by : (l : List Cargo) → l ≡ passed.taken i → KnowsParts v.work.opening.disk_sectors l parts
      by [] is = tt
      by (y ∷ ys) is = λ n. ap₂ (λ (s : List ℕ) (k : ℕ). part_of s k n) (sym (turn.sector y (ap (λ l. slice_get l 0) (sym is)))) (sym turn.sectors)

  -- a client of the virtualiser's, by its place
  module _ (k : ℕ) (c : Sharer) (at : slice_get clients k ≡ Some c) where
    abbrev s : Sharing hs (from_queues v.ends) (to_queues v.ends) k c
    s = sharer_at hs (from_queues v.ends) (to_queues v.ends) k c at

    abbrev h : Holder
    h = s.0

    kept_there : (x : Client) × (slice_get v.work.desk.clients.items k ≡ Some x) × (x.holder ≡ h)
    kept_there = map_from (λ (x : Client). x.holder) v.work.desk.clients.items k h s.3

    good : wild s.1.0 ≡ false → AreGood h (passed.taken s.1.0)
    good w j x x_at = all_at (λ (y : Cargo). is_bad h y ≡ false) (passed.taken s.1.0) (turn.good k h s.1 s.3 s.4 w) j x x_at

    served : IsServed h (parts h.partition) (passed.taken s.1.0) later back (passed.sent s.2.0)
    served =
        subst (λ l. IsServed h (parts h.partition) (passed.taken s.1.0) later (drop 1 l) (passed.sent s.2.0)) back_is
        (subst (λ (g : Holder). IsServed g (parts g.partition) (passed.taken s.1.0) later (drop 1 row.back) (passed.sent s.2.0)) kept_there.2 (row.serves k kept_there.0 s.1 s.2 parts kept_there.1 s.4 s.5 known))

    came : m.taken c.req ≡ items_of (passed.taken s.1.0)
    came = items (suc (suc (twice k))) (intake c.req) (pair_first (λ (x : Sharer). intake x.req) (λ x. outlet x.resp) clients k c at) ∙ ap (λ (x : Sharer). items_of (passed.taken x.req)) s.6

    given : m.sent c.resp ≡ items_of (passed.sent s.2.0)
    given = items (suc (suc (suc (twice k)))) (outlet c.resp) (pair_second (λ (x : Sharer). intake x.req) (λ x. outlet x.resp) clients k c at) ∙ ap (λ (x : Sharer). items_of (passed.sent x.resp)) s.6

    judge_here : judge image wild names c (m.taken c.req) ≡ map (by_entry h (parts h.partition)) (passed.taken s.1.0)
    judge_here = ap₂ (λ (x : Sharer) (l : List Item). judge image wild names x l) s.6 came ∙ judge_is image wild names h s.1 s.2 (passed.taken s.1.0) (λ w. tells k s.1 s.4 w) good

    -- what of its requests goes to the disk
    on_is : requests_told image wild names m c ≡ items_of (map (for_disk h (parts h.partition)) (filter (goes_on h (parts h.partition)) (passed.taken s.1.0)))
    on_is =
        ap (λ (x : Sharer). going_on x.pool.base (parts x.entry) (judge image wild names c (m.taken c.req))) s.6
        ∙ (ap (going_on h.base (parts h.partition)) judge_here ∙ on_entries h (parts h.partition) (passed.taken s.1.0))

    -- and its answers
    due_is : answers_told image wild names o i m c ≡ items_of (answers_to h (parts h.partition) (passed.taken s.1.0) (own_back h later back))
    due_is =
        ap (λ (x : Sharer). all_answers (judge image wild names c (m.taken c.req)) (items_back x.pool (drop 1 (m.sent o)) (drop 1 (m.taken i)))) s.6
        ∙ (ap₂ (λ (js : List Judged) (ys : List Item). all_answers js ys) judge_here
        (ap₂ (λ (xs ys : List Item). items_back (holder_pool h) xs ys) (ap (drop 1) gave ∙ sym (drop_items sent)) (ap (drop 1) came_back ∙ sym (drop_items (passed.taken i))) ∙ sym (back_items h later back))
        ∙ answers_entries h (parts h.partition) (passed.taken s.1.0) (own_back h later back))

    client_gives : IsPrefix (m.sent c.resp) (answers_told image wild names o i m c)
    client_gives = subst (IsPrefix (m.sent c.resp)) (sym due_is) (subst (λ xs. IsPrefix xs (items_of (answers_to h (parts h.partition) (passed.taken s.1.0) (own_back h later back)))) (sym given) (items_begin (passed.sent s.2.0) (answers_to h (parts h.partition) (passed.taken s.1.0) (own_back h later back)) served.answers))

    client_one : length (m.taken c.req) ≤ length (m.sent c.resp) + 1
    client_one =
        let a = ap length came in
        let b = ap length given in
        let d = items_long (passed.taken s.1.0) in
        let e = items_long (passed.sent s.2.0) in
        let few = served.one in
        omega (arith, a, b, d, e, few)

    client_waits : m.taken i ≡ [] → m.taken c.req ≡ []
    client_waits none = came ∙ ap items_of (row.waits (nothing row.back (ap items_of back_is ∙ none_too none)) k kept_there.0 s.1 kept_there.1 s.4)
      where
        none_too : m.taken i ≡ [] → items_of (passed.taken i) ≡ []
        none_too e = sym came_back ∙ e

        nothing : (l : List Cargo) → items_of l ≡ [] → l ≡ []
        nothing [] e = refl
        nothing (x ∷ xs) e = absurd cc

    client_came : (j : ℕ) (x : Item) → slice_get (owns wild names c (m.taken c.req)) j ≡ Some x → IsRequestIn c.pool x
    client_came j x x_at =
        let same : owns wild names c (m.taken c.req) ≡ owns wild names (sharer_of h s.1 s.2) (items_of (passed.taken s.1.0)) = ap₂ (λ (y : Sharer) (l : List Item). owns wild names y l) s.6 came in
        subst (λ (p : PoolAt). IsRequestIn p x) (ap (λ (y : Sharer). y.pool) (sym s.6)) (owns_in image wild names h s.1 s.2 (passed.taken s.1.0) (λ w. tells k s.1 s.4 w) good j x (ap (λ l. slice_get l j) (sym same) ∙ x_at))

    client_begins : (l : List Cargo) → slice_get (map (owned is_at later) hs) k ≡ Some l → IsPrefix (items_of (unnumbered l)) (requests_told image wild names m c)
    client_begins l l_at =
        let f = map_from (owned is_at later) hs k l l_at in
        let same : f.0 ≡ h = some_is (sym f.1 ∙ s.3) in
        let list : owned is_at later h ≡ l = ap (owned is_at later) (sym same) ∙ f.2 in
        subst (IsPrefix (items_of (unnumbered l))) (sym on_is)
        (subst (λ (xs : List Cargo). IsPrefix (items_of (unnumbered xs)) (items_of (map (for_disk h (parts h.partition)) (filter (goes_on h (parts h.partition)) (passed.taken s.1.0))))) list
        (items_begin (unnumbered (own_of h later)) (map (for_disk h (parts h.partition)) (filter (goes_on h (parts h.partition)) (passed.taken s.1.0))) served.sends))

  -- each request to the driver behind the first is one client's
  owner : (j : ℕ) (x : Cargo) → slice_get later j ≡ Some x → HasOwner is_at hs x
  owner j x at =
      let w = row.within j x at in
      (w.0, w.1, w.2, w.3, λ k p p_at ne. turn.apart.apart w.0 k (range_of w.1) (range_of p) (map_get range_of hs w.0 w.1 w.2) (map_get range_of hs k p p_at) ne (request_of x.0).addr w.3)

  -- what went to the driver behind its own request is a merge of what of each client's goes there
  merges : PrefixMerge (all_told image wild names clients m) (map (numbered_item 0) (drop 1 (m.sent o)))
  merges =
      let said : map (numbered_item 0) (drop 1 (m.sent o)) ≡ items_of (unnumbered later) = ap (λ (l : List Item). map (numbered_item 0) (drop 1 l)) gave ∙ (ap (map (numbered_item 0)) (sym (drop_items sent)) ∙ sym (unnumbered_items later)) in
      let one : List (List Cargo) = map (owned is_at later) hs in
      let two : List (List Cargo) = map unnumbered one in
      subst (PrefixMerge (all_told image wild names clients m)) (sym said) (record {
        parts = map items_of two;
        as_many =
            let a = length-map two items_of in
            let b = length-map one unnumbered in
            let d = length-map hs (owned is_at later) in
            let e = length-map clients (requests_told image wild names m) in
            let f = sharers_many hs (from_queues v.ends) (to_queues v.ends) turn.from_each turn.to_each in
            omega (arith, a, b, d, e, f);
        begins = λ k part whole at at'.
            let a = map_from items_of two k part at in
            let b = map_from unnumbered one k a.0 a.1 in
            let w = map_from (requests_told image wild names m) clients k whole at' in
            let begun = client_begins k w.0 w.1 b.0 b.1 in
            subst (λ x. IsPrefix x whole) (ap items_of b.2 ∙ a.2) (subst (IsPrefix (items_of (unnumbered b.0))) w.2 begun);
        merged = merge_map (λ (c : Cargo). c.0) two (unnumbered later) (merge_map (numbered 0) one later (split is_at hs later owner));
      })

  pub both_row : (both_sheet scene wild names (virt_part v)).row m
  both_row = record {
    first =
        let said : IsPrefix (items_of sent) (first_item (record { number = v.work.opening.own.pool.0; base = v.work.opening.base; buffers = 1; size = blk_buffer_bytes }) ∷ items_of later) = items_begin sent (first_read v.work.opening.base row.start ∷ later) row.reads in
        subst (λ l. IsPrefix l (first_item (record { number = v.work.opening.own.pool.0; base = v.work.opening.base; buffers = 1; size = blk_buffer_bytes }) ∷ drop 1 l)) (sym gave) (subst (λ l. IsPrefix (items_of sent) (first_item (record { number = v.work.opening.own.pool.0; base = v.work.opening.base; buffers = 1; size = blk_buffer_bytes }) ∷ l)) (drop_items sent) said);
    numbers = λ j x x_at.
        let f = map_from (λ (y : Cargo). y.0) sent j x (ap (λ l. slice_get l j) (sym gave) ∙ x_at) in
        subst (λ (y : Item). (request_of y).id ≡ j % 2 ^ 32) f.2 (row.numbers j f.0 f.1);
    merges = merges;
    answered =
        let a = ap length came_back in
        let b = ap length gave in
        let c = items_long (passed.taken i) in
        let d = items_long sent in
        let few = turn.answered in
        omega (arith, a, b, c, d, few);
    waits = λ none k c at. client_waits k c at none;
    gives = client_gives;
    one = client_one;
    came = client_came;
  }
