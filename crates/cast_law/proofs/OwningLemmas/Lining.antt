-- Of each pool that isn't a hostile client's, what a program counts is what the table of owners says.
use Rattle.std.proofs.Common.{◌≡◌, ◌≢◌, ◌⊎◌, ◌==◌, ◌++◌, ◌+◌, ◌*◌, ◌<◌, ℕ, zero, suc, Bool, true, false, cond, nat_lt, Option, Some, None, List, [], ◌∷◌, All, get_or, length, map, slice_get, sum_by, refl, sym, ap, ap₂, ◌∙◌, subst, arith, inl, inr}
use Rattle.std.proofs.lemmas.List.{map-append}
use Rattle.std.proofs.lemmas.List.Sums.{sum_by-cons}
use Rattle.cargo_core.specs.Bodies.{buffers_of}
use Rattle.cargo_core.specs.declared.item.Body.{Body}
use Rattle.cargo_core.specs.declared.item.PoolId.{PoolId}
use Rattle.cargo_core.specs.Lists.{IsPrefix}
use Rattle.client_programs.specs.declared.rogue.Rogue.{Rogue}
use Rattle.net_law.specs.Parts.Numbers.{client_first}
use Rattle.wire_core.specs.declared.names.Entry.{Entry}
use Rattle.wire_core.specs.declared.names.PoolRow.{PoolRow}
use Rattle.wire_core.specs.declared.names.QueueRow.{QueueRow}
use Rattle.wire_core.specs.Bells.{bit}
use Rattle.wire_core.specs.Deeds.{Cargo}
use Rattle.wire_core.specs.Ends.{Consumer}
use Rattle.wire_core.specs.Journal.{EachMoment, History, Hostiles, LegalJournal}
use Rattle.wire_core.specs.Lists.{Passed}
use Rattle.wire_core.specs.Marks.{sum_below}
use Rattle.wire_core.specs.Queues.{Queue, end_at, queue_at}
use Rattle.turn_kit.specs.Hands.{bodies_of}
use Rattle.turn_kit.proofs.Holding.{cargo-append}
use Rattle.play_core.specs.Manners.{Calm}
use Rattle.play_core.specs.Moved.{Moved, Seat, moved}
use Rattle.play_core.specs.Names.{Wild, wild_in}
use Rattle.play_core.specs.Rests.Showing.{HaveItems}
use Rattle.play_core.specs.Sheets.{Scene}
use Rattle.play_core.proofs.Lists.{map_from, map_get}
use Rattle.owner_law.specs.Census.{Census, census}
use Rattle.owner_law.specs.Keeping.{IsOwned, all_taken, is_lending, is_out, keeper_of}
use Rattle.owner_law.specs.Owners.{Table, replay}
use Rattle.owner_law.specs.Pages.{CarryPages, as_page}
use Rattle.owner_law.specs.Things.{Buffer, Names, Naming, NoBuffers, Buffers, Frames, Leases, Returns, Answers, Window, as_buffer, gives_back, lends, requests_of, thing_at}
use Rattle.owner_law.specs.Pools.Handing.{NameNothing}
use Rattle.owner_law.specs.Pools.Lines.{AreLines, HandWithin, Holder, HoldsIts, IsWithin, NamesWithin, came, keepers_of, lent_by, went}
use Rattle.owner_law.specs.Pools.Places.{PoolAt}
use Rattle.owner_law.proofs.PoolsLemmas.Lining.{lent_away}
use Rattle.owner_law.proofs.PoolsLemmas.Sizing.{spread_within}
use Rattle.buffer_kit.specs.Conserving.{Count, of_pool}
use Rattle.buffer_kit.proofs.Conserving.{pool_counted}
use Rattle.pipe_driver.specs.Lengths.{two_pipes}
use Rattle.eth_driver.specs.Four.{four_pipes}
use Rattle.pipe_driver.proofs.Holding.{balance_of as pipes_balance}
use Rattle.device_model.proofs.EthernetLemmas.Holding.{balance_of as device_balance}
use Rattle.device_model.proofs.DiskLemmas.Holding.{balance_of as disk_balance}
use Rattle.net_copier.proofs.Holding.{balance_of as copier_balance}
use Rattle.net_virt_tx.proofs.Rounds.{row_of as sender_row}
use Rattle.client_programs.proofs.NetLemmas.Holding.{balance_of as client_balance}
use Rattle.client_programs.proofs.BlkLemmas.Standing.{balance_of as asker_balance}
use Rattle.blk_virt.proofs.Rows.{balance_of as virt_balance}
use Rattle.net_quiet.proofs.PoolsLemmas.Clients.{client_holds}
use Rattle.net_quiet.proofs.PoolsLemmas.Holding.{device_holds, driver_holds, copier_holds}
use Rattle.net_quiet.proofs.TxOwners.Holding.{sender_holds}
use Rattle.blk_quiet.proofs.PoolsLemmas.Holding.{disk_holds, driver_holds as blk_driver_holds, virt_holds, client_holds as asker_holds}
use Rattle.actor_set.specs.Parts.{HostilePart, PageAt, Part, RoguePart}
use Rattle.actor_set.specs.Actors.{actor_hand, actor_lent, part_of}
use Rattle.actor_set.specs.declared.actor.Actor.{Actor}
use Rattle.actor_set.specs.declared.actor.Actor.TheVariants as Kinds
use Rattle.actor_set.specs.Laws.Kinds.{hostiles, manner_of, scene_of, sheet}
use Rattle.actor_set.specs.Rogues.{page_weighs, pages_in, pages_weigh}
use Rattle.actor_set.proofs.LawsLemmas.Rounds.{calm_or_rogue}
use Rattle.actor_set.proofs.LawsLemmas.Starts.{fits_whole}
use Rattle.cast_core.specs.Hostile.{pool_pages}
use Rattle.cast_law.specs.PoolLines.PoolLines.{counted}
use Rattle.cast_law.specs.Pages.Paging.{actor_kept, actor_start, part_weighs, pool_weighs}
use Rattle.cast_law.specs.Pools.Beside.{AllTold, CastCarries, in_blk, in_net, is_rogues}
use Rattle.cast_law.specs.Pools.Holders.{NamesAt, NothingAt, actor_holder, holders_of}
use Rattle.cast_law.specs.Pools.Owning.{BeginsBeside, IsKeptBeside, keeper_beside, names_beside, owner_keepers, owner_naming, windows_beside}
use Rattle.cast_law.specs.Pools.Places.{HasPools, IsPlaced, PoolPlace, cast_naming, place_sizes}
use Rattle.cast_law.specs.Pools.Pooling.{AreOverQueues, keepers_at}
use Rattle.cast_law.specs.Pools.Rogues.{IsBlkRogue, IsNetRogue, IsRogueOf}
use Rattle.cast_law.proofs.BesideLemmas.Around.{Around, as_calm, part_names, quiet}
use Rattle.cast_law.proofs.BesideLemmas.Queues.{blk_wild, net_wild}
use Rattle.cast_law.proofs.BesideLemmas.Rounds.{blk_in, net_in, or_none}
use Rattle.cast_law.proofs.OwningLemmas.Beginning.{owned_beside}
use Rattle.cast_law.proofs.OwningLemmas.Blanking.{blank, blank_at, blank_items, blanked, came_count, hidden, hidden_count, hidden_page, none_count, went_count, world_at, world_count, world_from, world_long}
use Rattle.cast_law.proofs.OwningLemmas.Hiding.{rogue_none}
use Rattle.cast_law.proofs.OwningLemmas.Keeping.{names_apart, nothing_out, took_gone, took_kept}
use Rattle.cast_law.proofs.OwningLemmas.Windows.{gone_thing, kept_thing, of_back, of_buffer, of_lends, same_requests}
use Rattle.cast_law.proofs.PagesLemmas.Acting.{actor_conserves, start_weighs}
use Rattle.cast_law.proofs.PagesLemmas.Showing.{kept_same, lends_same, part_many}
use Rattle.cast_law.proofs.PoolLines.Counting.{counts_are}
use Rattle.cast_law.proofs.PoolsLemmas.Acting.{lender_holds}
use Rattle.cast_law.proofs.PoolsLemmas.Calmed.{pool_all}
use Rattle.cast_law.proofs.PoolsLemmas.Dealing.{are_spread, owner}
use Rattle.cast_law.proofs.PoolsLemmas.Naming.{sized_at}
use Rattle.cast_law.proofs.PoolsLemmas.Within.{cast_within}

-- pages count as many as their numbers are
pages_many : (pool : ℕ) (pages : List PageAt) → pages_weigh (of_pool (record { 0 = pool })) pages ≡ length (pages_in pages pool)
pages_many pool [] = refl
pages_many pool (p ∷ ps) = omega (arith, sum_by-cons (page_weighs (of_pool (record { 0 = pool }))) p ps, by (p.pool == pool) (pages_many pool ps))
  where
    by : (t : Bool) → pages_weigh (of_pool (record { 0 = pool })) ps ≡ length (pages_in ps pool) → cond t 1 0 + pages_weigh (of_pool (record { 0 = pool })) ps ≡ length (cond t (p.number ∷ pages_in ps pool) (pages_in ps pool))
    by true rest = omega (arith, rest)
    by false rest = omega (arith, rest)

none_of_pool : (pool : ℕ) (q : PoolAt) → (q.number == pool) ≡ false → pages_in (pool_pages q) pool ≡ []
none_of_pool pool q off = no_more (pages_in (pool_pages q) pool) (sym (pages_many pool (pool_pages q)) ∙ (pool_all (of_pool (record { 0 = pool })) q ∙ (ap (λ t. sum_below (λ no. cond {A = ℕ} t 1 0) q.buffers) off ∙ zeros q.buffers)))
  where
    no_more : (xs : List ℕ) → length xs ≡ 0 → xs ≡ []
    no_more [] none = refl
    no_more (x ∷ xs) none = absurd (omega (arith, none))

    zeros : (n : ℕ) → sum_below (λ no. 0) n ≡ 0
    zeros zero = refl
    zeros (suc n) = omega (arith, zeros n)

pages_both : (pool : ℕ) (ps qs : List PageAt) → pages_in ps pool ≡ [] → pages_in qs pool ≡ [] → pages_in (ps ++ qs) pool ≡ []
pages_both pool [] qs one two = two
pages_both pool (p ∷ ps) qs one two = by (p.pool == pool) one (λ e. pages_both pool ps qs e two)
  where
    by : (t : Bool) → cond t (p.number ∷ pages_in ps pool) (pages_in ps pool) ≡ [] → (pages_in ps pool ≡ [] → pages_in (ps ++ qs) pool ≡ []) → cond t (p.number ∷ pages_in (ps ++ qs) pool) (pages_in (ps ++ qs) pool) ≡ []
    by true e rest = cc
    by false e rest = rest e

-- windows on other pools are among the windows
fewer_windows : (sizes : ℕ → ℕ) (off : ℕ → Bool) (ws : List Window) → All (IsWithin sizes) ws → All (IsWithin sizes) (windows_beside off ws)
fewer_windows sizes off [] all = all
fewer_windows sizes off (w ∷ ws) all = by (fewer_windows sizes off ws (λ k d lt. all (suc k) d (omega (arith, lt)))) (off w.pool)
  where
    by : All (IsWithin sizes) (windows_beside off ws) → (t : Bool) → All (IsWithin sizes) (cond t (windows_beside off ws) (w ∷ windows_beside off ws))
    by rest true = rest
    by rest false = λ k d lt. more k d lt
      where
        more : (k : ℕ) (d : Window) → k < length (w ∷ windows_beside off ws) → IsWithin sizes (get_or (w ∷ windows_beside off ws) k d)
        more zero d lt = all 0 d (omega arith)
        more (suc k) d lt = rest k d (omega (arith, lt))

fewer_names : (sizes : ℕ → ℕ) (off : ℕ → Bool) (names : Names) → NamesWithin sizes names → NamesWithin sizes (names_beside off names)
fewer_names sizes off NoBuffers all = tt
fewer_names sizes off (Buffers ws) all = fewer_windows sizes off ws all
fewer_names sizes off (Frames ws receivers) all = fewer_windows sizes off ws all
fewer_names sizes off (Leases ws) all = fewer_windows sizes off ws all
fewer_names sizes off (Returns ws) all = fewer_windows sizes off ws all
fewer_names sizes off (Answers q ws) all = fewer_windows sizes off ws all

module _ (history : History) (rows : List QueueRow) (pools : List PoolRow) (place : PoolPlace) (actors : List Actor) (start : Table) (journal : List Entry) (passed : Passed) (world : List Queue)
    (has : HasPools pools place) (over : AreOverQueues rows actors passed world) (a : Around rows place actors passed (moved history journal)) (carry : CastCarries rows place actors (moved history journal) passed)
    (legal : LegalJournal (hostiles (map part_of actors)) history rows journal) (kept : EachMoment (IsKeptBeside history rows place (map part_of actors)) journal) (begin : BeginsBeside history rows place (map part_of actors) start) where
  abbrev parts : List Part
  parts = map part_of actors

  abbrev scene : Scene
  scene = scene_of parts

  abbrev w : Wild
  w = wild_in (hostiles parts) rows

  abbrev full : Naming
  full = cast_naming scene place

  abbrev off : ℕ → Bool
  off = is_rogues w place

  abbrev nm : Naming
  nm = owner_naming rows place parts

  abbrev m : Moved
  m = moved history journal

  abbrev sizes : ℕ → ℕ
  sizes = place_sizes place

  abbrev ends_of : Actor → List Seat
  ends_of x = (sheet scene (part_of x)).ends

  abbrev hidden_passed : Passed
  hidden_passed = blanked off w passed

  abbrev hidden_world : List Queue
  hidden_world = world_from off w 0 world

  -- an actor of which other pools alone are counted
  abbrev hidden_holder : Actor → Holder
  hidden_holder x = record { keeper = keeper_beside off (sheet scene (part_of x)); hand = map (hidden off) (actor_hand x); lent = λ pool. cond (off pool) 0 (actor_lent x pool) }

  abbrev hidden_holders : List Holder
  hidden_holders = map hidden_holder actors

  begins : (n : ℕ) → IsPrefix (passed.taken n) (passed.sent n)
  begins n = ((queue_at world n).entries, sym (over.stands_there n))

  -- at a queue with a hostile end no page of another pool passed
  sent_none : (pool : PoolId) (n : ℕ) → w n ≡ true → off pool.0 ≡ false → buffers_of pool (bodies_of (passed.sent n)) ≡ 0
  sent_none pool n is free = none_count pool (passed.sent n) (λ k c at b same. carry.others n is k c at b (ap off same ∙ free))

  both_none : (pool : PoolId) (n : ℕ) → w n ≡ true → off pool.0 ≡ false → buffers_of pool (bodies_of (passed.taken n)) + buffers_of pool (bodies_of (queue_at world n).entries) ≡ 0
  both_none pool n is free = sym (cargo-append pool (passed.taken n) (queue_at world n).entries) ∙ (ap (λ cs. buffers_of pool (bodies_of cs)) (sym (over.stands_there n)) ∙ sent_none pool n is free)

  taken_none : (pool : PoolId) (n : ℕ) → w n ≡ true → off pool.0 ≡ false → buffers_of pool (bodies_of (passed.taken n)) ≡ 0
  taken_none pool n is free = omega (arith, both_none pool n is free)

  -- entries carry what their items name
  abbrev Says : (n k : ℕ) → Buffer → Bool → Cargo → Type 0
  Says n k b t x = as_page b x.1 ≡ as_buffer b (thing_at (cond t NoBuffers (names_beside off (full n))) (requests_of (cond t NoBuffers (names_beside off (full n))) m) k x.0)

  bodies_here : (n k : ℕ) (c : Cargo) → slice_get (hidden_passed.sent n) k ≡ Some c → (b : Buffer) → as_page b c.1 ≡ as_buffer b (thing_at (nm n) (requests_of (nm n) m) k c.0)
  bodies_here n k c at b = by (w n) refl (off b.pool) refl
    where
      d : (x : Cargo) × (slice_get (passed.sent n) k ≡ Some x) × (blank off (w n) x ≡ c)
      d = blank_at off (w n) (passed.sent n) k c at

      by : (t : Bool) → w n ≡ t → (u : Bool) → off b.pool ≡ u → as_page b c.1 ≡ as_buffer b (thing_at (nm n) (requests_of (nm n) m) k c.0)
      by true is u e = subst (λ t. Says n k b t c) (sym is) (subst (Says n k b true) (ap (λ t. blank off t d.0) (sym is) ∙ d.2) refl)
      by false is true e =
          let gone = gone_thing b (as_buffer b) (of_buffer b) off e (full n) (requests_of (names_beside off (full n)) m) k d.0.0 in
          subst (λ t. Says n k b t c) (sym is) (subst (Says n k b false) (ap (λ t. blank off t d.0) (sym is) ∙ d.2) (hidden_page off b d.0.1 ∙ (ap (λ t. cond t 0 (as_page b d.0.1)) e ∙ sym gone)))
      by false is false e =
          let same = kept_thing b (as_buffer b) (of_buffer b) off e (full n) (names_apart rows place actors passed m a carry n) (requests_of (full n) m) k d.0.0 in
          let asked = ap (λ rs. as_buffer b (thing_at (names_beside off (full n)) rs k d.0.0)) (same_requests off (full n) m) in
          subst (λ t. Says n k b t c) (sym is) (subst (Says n k b false) (ap (λ t. blank off t d.0) (sym is) ∙ d.2) (hidden_page off b d.0.1 ∙ (ap (λ t. cond t 0 (as_page b d.0.1)) e ∙ (carry.bodies n is k d.0 d.1 b ∙ (sym same ∙ sym asked)))))

  carries : CarryPages nm m hidden_passed
  carries = record {
    sent = λ n. carry.sent n ∙ sym (blank_items off (w n) (passed.sent n));
    taken = λ n. carry.taken n ∙ sym (blank_items off (w n) (passed.taken n));
    bodies = bodies_here;
  }

  stands_there : (n : ℕ) → hidden_passed.sent n ≡ hidden_passed.taken n ++ (queue_at hidden_world n).entries
  stands_there n =
      let zero_more : 0 + n ≡ n = omega arith in
      ap (map (blank off (w n))) (over.stands_there n)
      ∙ (map-append (blank off (w n)) (passed.taken n) (queue_at world n).entries
      ∙ ap (λ es. map (blank off (w n)) (passed.taken n) ++ es) (sym (world_at off w 0 world n ∙ ap (λ i. map (blank off (w i)) (queue_at world n).entries) zero_more)))

  -- names and hands are of the pools' own buffers
  within : (n : ℕ) → NamesWithin sizes (nm n)
  within n = by (w n)
    where
      by : (t : Bool) → NamesWithin sizes (cond t NoBuffers (names_beside off (full n)))
      by true = tt
      by false = fewer_names sizes off (full n) (cast_within scene place.net place.blk has.numbered n)

  -- a hostile client has nothing of other pools at the start
  rogue_hand : (k : ℕ) (r : RoguePart) → slice_get parts k ≡ Some (HostilePart r) → (pool : ℕ) → off pool ≡ false → pages_in r.pages pool ≡ []
  rogue_hand k r at pool free = by (a.placed.rogues.only k r at)
    where
      none : (in_net w place.net pool ≡ false) × (in_blk w place.blk pool ≡ false)
      none = or_none (in_net w place.net pool) (in_blk w place.blk pool) free

      by : IsRogueOf rows place.net place.blk r → pages_in r.pages pool ≡ []
      by (inl (net, j, q, here, is)) =
          let zero_more : j ≡ 0 + j = omega arith in
          let wild = (net_wild rows place.net place.blk parts a.placed.net a.placed.blk a.placed.rogues a.seated a.filled net here j q k r at is).3 in
          let apart = net_in w net.first 0 net.pools j q pool is.there (ap (λ i. w (client_first net.first i + 4)) (sym zero_more) ∙ wild) (ap (λ o. in_net w o pool) (sym here) ∙ none.0) in
          ap (λ ps. pages_in ps pool) is.pages ∙ pages_both pool (pool_pages q.rx) (pool_pages q.tx) (none_of_pool pool q.rx apart.0) (none_of_pool pool q.tx apart.1)
      by (inr (inl (blk, j, q, here, is))) =
          let zero_more : j ≡ 0 + j = omega arith in
          let wild = (blk_wild rows place.net place.blk parts a.placed.net a.placed.blk a.placed.rogues a.seated a.filled blk j q k r at is).1 in
          let apart = blk_in w blk.first 0 blk.pools j q pool is.there (ap (λ i. w (blk.first + 4 + 2 * i)) (sym zero_more) ∙ wild) (ap (λ o. in_blk w o pool) (sym here) ∙ none.1) in
          ap (λ ps. pages_in ps pool) is.pages ∙ none_of_pool pool q apart
      by (inr (inr is)) = ap (λ ps. pages_in ps pool) is.pages

  calm_hand : (k : ℕ) (p : Part) → slice_get parts k ≡ Some p → manner_of p ≡ Calm → HandWithin sizes (keeper_of (sheet scene p))
  calm_hand k p at calm =
      let q = quiet rows place actors passed m a in
      subst (λ z. HandWithin sizes (keeper_of (sheet z p))) q.scene
      (spread_within sizes (owner rows q.parts q.calm q.seated place.net place.blk q.net q.blk has.numbered) (keepers_at q.parts) (are_spread rows q.parts q.calm q.seated place.net place.blk q.net q.blk has.numbered) k
      (keeper_of (sheet (scene_of q.parts) p)) (map_get (λ y. keeper_of (sheet (scene_of q.parts) y)) q.parts k p (as_calm rows place actors passed m a k p at calm)))

  starts_at : (k : ℕ) (h : Holder) → slice_get hidden_holders k ≡ Some h → HandWithin sizes h.keeper
  starts_at k h at =
      let x = map_from hidden_holder actors k h at in
      subst (λ (y : Holder). HandWithin sizes y.keeper) x.2 (here x.0 (map_get part_of actors k x.0 x.1))
    where
      here : (x : Actor) → slice_get parts k ≡ Some (part_of x) → HandWithin sizes (keeper_beside off (sheet scene (part_of x)))
      here x there pool = by (off pool) refl (calm_or_rogue x)
        where
          by : (t : Bool) → off pool ≡ t → (manner_of (part_of x) ≡ Calm) ⊎ ((r : Rogue) × (x ≡ Kinds.Rogue r)) → All (λ no. no < sizes pool) (cond t [] ((sheet scene (part_of x)).hand pool))
          by true e kind = λ i d lt. absurd (omega (arith, lt))
          by false e (inl calm) = calm_hand k (part_of x) there calm pool
          by false e (inr r) =
              let part : part_of x ≡ part_of (Kinds.Rogue r.0) = ap part_of r.1 in
              subst (λ p. All (λ no. no < sizes pool) ((sheet scene p).hand pool)) (sym part)
              (subst (λ (l : List ℕ). All (λ no. no < sizes pool) l) (sym (rogue_hand k _ (there ∙ ap (λ p. Some p) part) pool e)) (λ i d lt. absurd (omega (arith, lt))))

  -- by its bodies each actor had at the start and took what it put, has in its hand and has lent
  hand_many : (pool : ℕ) (x : Actor) → part_weighs (of_pool (record { 0 = pool })) (part_of x) ≡ length ((sheet scene (part_of x)).hand pool)
  hand_many pool x = by (calm_or_rogue x)
    where
      by : (manner_of (part_of x) ≡ Calm) ⊎ ((r : Rogue) × (x ≡ Kinds.Rogue r)) → part_weighs (of_pool (record { 0 = pool })) (part_of x) ≡ length ((sheet scene (part_of x)).hand pool)
      by (inl calm) = part_many pool scene (part_of x) calm
      by (inr r) = subst (λ y. part_weighs (of_pool (record { 0 = pool })) (part_of y) ≡ length ((sheet scene (part_of y)).hand pool)) (sym r.1) (rogue (part_of (Kinds.Rogue r.0)) refl)
        where
          rogue : (p : Part) → part_of (Kinds.Rogue r.0) ≡ p → part_weighs (of_pool (record { 0 = pool })) p ≡ length ((sheet scene p).hand pool)
          rogue (HostilePart q) is = omega (arith, pages_many pool q.pages)
          rogue p is = absurd cc

  balance : (k : ℕ) (x : Actor) → slice_get actors k ≡ Some x → (pool : PoolId) → length ((sheet scene (part_of x)).hand pool.0) + buffers_of pool (came passed (ends_of x)) ≡ buffers_of pool (went passed (ends_of x)) + (buffers_of pool (actor_hand x) + actor_lent x pool.0)
  balance k x at pool =
      let f : Count = of_pool pool in
      let whole = fits_whole (end_at world) x (over.fits k x at) in
      let st = over.stands k x at in
      let all = actor_conserves scene passed x whole st f in
      let first = start_weighs passed f x whole st in
      let keeps = kept_same rows actors passed world over place a.placed m carry f k x at in
      let lent = lends_same rows actors passed world over place a.placed m carry pool k x at in
      omega (arith, all, first, hand_many pool.0 x, keeps, lent, pool_counted pool (came passed (ends_of x)), pool_counted pool (went passed (ends_of x)), pool_counted pool (actor_hand x))

  -- what it has lent is what its takes say, of all pools
  bare_lends : (p : Part) → NothingAt full scene p → (pool n : ℕ) → 0 ≡ lent_by full m (sheet scene p).ends pool n
  bare_lends p none pool n = sym (lent_away full m (sheet scene p).ends (λ i s s_at c. ap is_lending (none i s s_at)) pool n)

  lends_full : (k : ℕ) (x : Actor) → slice_get actors k ≡ Some x → manner_of (part_of x) ≡ Calm → NamesAt full scene (part_of x) → (pool : ℕ) → actor_lent x pool ≡ lent_by full m (ends_of x) pool (sizes pool)
  lends_full k (Kinds.UartDevice x) at calm names pool = bare_lends (part_of (Kinds.UartDevice x)) names pool (sizes pool)
  lends_full k (Kinds.UartDriver x) at calm names pool = bare_lends (part_of (Kinds.UartDriver x)) names pool (sizes pool)
  lends_full k (Kinds.SerialVirtRx x) at calm names pool = bare_lends (part_of (Kinds.SerialVirtRx x)) names pool (sizes pool)
  lends_full k (Kinds.SerialVirtTx x) at calm names pool = bare_lends (part_of (Kinds.SerialVirtTx x)) names pool (sizes pool)
  lends_full k (Kinds.SerialClient x) at calm names pool = bare_lends (part_of (Kinds.SerialClient x)) names pool (sizes pool)
  lends_full k (Kinds.EthDevice x) at calm names pool = (device_holds full sizes scene passed m x names (device_balance x passed (over.stands k (Kinds.EthDevice x) at))).lends pool
  lends_full k (Kinds.EthDriver x) at calm names pool = (driver_holds full sizes scene passed m (four_pipes x.driver.pipes) names (pipes_balance (four_pipes x.driver.pipes) passed (over.stands k (Kinds.EthDriver x) at))).lends pool
  lends_full k (Kinds.NetVirtRx x) at calm names pool =
      let q = quiet rows place actors passed m a in
      let sized = sized_at rows q.parts q.calm q.seated place.net place.blk q.net q.blk has.numbered k (part_of (Kinds.NetVirtRx x)) (as_calm rows place actors passed m a k (part_of (Kinds.NetVirtRx x)) (map_get part_of actors k (Kinds.NetVirtRx x) at) calm) in
      (lender_holds full scene passed m a.items sizes x names sized (fits_whole (end_at world) (Kinds.NetVirtRx x) (over.fits k (Kinds.NetVirtRx x) at)) (a.told k (Kinds.NetVirtRx x) at) (over.stands k (Kinds.NetVirtRx x) at)).lends pool
  lends_full k (Kinds.NetCopier x) at calm names pool = (copier_holds full sizes scene passed m x names (copier_balance x passed (over.stands k (Kinds.NetCopier x) at))).lends pool
  lends_full k (Kinds.NetClient x) at calm names pool = (client_holds full scene passed m x names sizes (client_balance x passed (over.stands k (Kinds.NetClient x) at))).lends pool
  lends_full k (Kinds.NetVirtTx x) at calm names pool =
      let st = over.stands k (Kinds.NetVirtTx x) at in
      let row = sender_row x passed st in
      (sender_holds full sizes x passed m names row.from_each row.to_each st.balances).lends pool
  lends_full k (Kinds.DiskDevice x) at calm names pool = (disk_holds full sizes scene passed m x.start.value x.device names.0 (disk_balance x.start.value x.device passed (over.stands k (Kinds.DiskDevice x) at))).lends pool
  lends_full k (Kinds.BlkDriver x) at calm names pool = (blk_driver_holds full sizes scene passed m x.driver.pipes.first x.driver.pipes.rest names.0 (pipes_balance (two_pipes x.driver.pipes) passed (over.stands k (Kinds.BlkDriver x) at))).lends pool
  lends_full k (Kinds.BlkVirt x) at calm names pool =
      let whole = fits_whole (end_at world) (Kinds.BlkVirt x) (over.fits k (Kinds.BlkVirt x) at) in
      (virt_holds full sizes scene passed m x names.0 whole.from_each whole.to_each (virt_balance x passed (over.stands k (Kinds.BlkVirt x) at))).lends pool
  lends_full k (Kinds.BlkClient x) at calm names pool = (asker_holds full sizes scene passed m x names.0 (asker_balance x passed (over.stands k (Kinds.BlkClient x) at))).lends pool
  lends_full k (Kinds.Rogue x) at calm names pool = absurd cc

  -- so of the others
  lent_free : (ends : List Seat) (pool : ℕ) → off pool ≡ false → (n : ℕ) → lent_by nm m ends pool n ≡ lent_by full m ends pool n
  lent_free ends pool free zero = refl
  lent_free ends pool free (suc n) =
      let b : Buffer = record { pool = pool; no = n } in
      let out : bit (is_out b (all_taken nm m ends)) ≡ bit (is_out b (all_taken full m ends)) = ap₂ (λ x y. bit (nat_lt x y)) (took_kept rows place actors passed m a carry b (gives_back b) (of_back b) free ends) (took_kept rows place actors passed m a carry b (lends b) (of_lends b) free ends) in
      omega (arith, out, lent_free ends pool free n)

  lent_gone : (ends : List Seat) (pool : ℕ) → off pool ≡ true → (n : ℕ) → lent_by nm m ends pool n ≡ 0
  lent_gone ends pool on zero = refl
  lent_gone ends pool on (suc n) =
      let b : Buffer = record { pool = pool; no = n } in
      let out : bit (is_out b (all_taken nm m ends)) ≡ 0 = nothing_out (sum_by (gives_back b) (all_taken nm m ends)) (sum_by (lends b) (all_taken nm m ends)) (took_gone rows place actors passed m a carry b (lends b) (of_lends b) on ends) in
      omega (arith, out, lent_gone ends pool on n)

  lends_at : (k : ℕ) (x : Actor) → slice_get actors k ≡ Some x → (pool : ℕ) → off pool ≡ false → actor_lent x pool ≡ lent_by nm m (ends_of x) pool (sizes pool)
  lends_at k x at pool free = by (calm_or_rogue x)
    where
      by : (manner_of (part_of x) ≡ Calm) ⊎ ((r : Rogue) × (x ≡ Kinds.Rogue r)) → actor_lent x pool ≡ lent_by nm m (ends_of x) pool (sizes pool)
      by (inl calm) = lends_full k x at calm (part_names rows place actors passed m a k (part_of x) (map_get part_of actors k x at) calm) pool ∙ sym (lent_free (ends_of x) pool free (sizes pool))
      by (inr r) =
          let part = map_get part_of actors k x at ∙ ap (λ y. Some (part_of y)) r.1 in
          subst (λ y. actor_lent y pool ≡ lent_by nm m (ends_of y) pool (sizes pool)) (sym r.1)
          (sym (lent_away nm m (ends_of (Kinds.Rogue r.0)) (λ i s s_at c. ap is_lending (rogue_none rows place parts a.placed a.seated a.filled k _ part i s s_at)) pool (sizes pool)))

  holds_here : (k : ℕ) (x : Actor) → slice_get actors k ≡ Some x → HoldsIts nm sizes m hidden_passed (hidden_holder x)
  holds_here k x at = record { balances = balances; lends = told }
    where
      balances : (pool : PoolId) → length (cond (off pool.0) [] ((sheet scene (part_of x)).hand pool.0)) + buffers_of pool (came hidden_passed (ends_of x)) ≡ buffers_of pool (went hidden_passed (ends_of x)) + (buffers_of pool (map (hidden off) (actor_hand x)) + cond (off pool.0) 0 (actor_lent x pool.0))
      balances pool =
          let ins = came_count off w pool passed (taken_none pool) (sent_none pool) (ends_of x) in
          let outs = went_count off w pool passed (taken_none pool) (sent_none pool) (ends_of x) in
          let hand = hidden_count off pool (actor_hand x) in
          by (off pool.0) ins outs hand
        where
          by : (t : Bool) → buffers_of pool (came hidden_passed (ends_of x)) ≡ cond t 0 (buffers_of pool (came passed (ends_of x))) → buffers_of pool (went hidden_passed (ends_of x)) ≡ cond t 0 (buffers_of pool (went passed (ends_of x))) → buffers_of pool (map (hidden off) (actor_hand x)) ≡ cond t 0 (buffers_of pool (actor_hand x))
              → length (cond t [] ((sheet scene (part_of x)).hand pool.0)) + buffers_of pool (came hidden_passed (ends_of x)) ≡ buffers_of pool (went hidden_passed (ends_of x)) + (buffers_of pool (map (hidden off) (actor_hand x)) + cond t 0 (actor_lent x pool.0))
          by true ins outs hand = omega (arith, ins, outs, hand)
          by false ins outs hand = omega (arith, ins, outs, hand, balance k x at pool)

      told : (pool : ℕ) → cond (off pool) 0 (actor_lent x pool) ≡ lent_by nm m (ends_of x) pool (sizes pool)
      told pool = by (off pool) refl
        where
          by : (t : Bool) → off pool ≡ t → cond t 0 (actor_lent x pool) ≡ lent_by nm m (ends_of x) pool (sizes pool)
          by true on = sym (lent_gone (ends_of x) pool on (sizes pool))
          by false free = lends_at k x at pool free

  same_keepers : (xs : List Actor) → keepers_of (map hidden_holder xs) ≡ map (λ p. keeper_beside off (sheet scene p)) (map part_of xs)
  same_keepers [] = refl
  same_keepers (x ∷ xs) = ap (λ ks. keeper_beside off (sheet scene (part_of x)) ∷ ks) (same_keepers xs)

  lines : AreLines nm begin.lender (hostiles parts) history rows sizes hidden_holders start journal hidden_passed hidden_world
  lines = record {
    owned = subst (λ ks. IsOwned nm begin.lender (hostiles parts) history rows ks start journal) (sym (same_keepers actors)) (owned_beside history rows place actors start journal passed world over legal kept begin);
    carry = carries;
    stands_there = stands_there;
    size = world_long off w 0 world ∙ over.size;
    names = within;
    starts = starts_at;
    holds = λ k h at. let x = map_from hidden_holder actors k h at in subst (HoldsIts nm sizes m hidden_passed) x.2 (holds_here k x.0 x.1);
  }

  -- of such a pool as much is counted as without the others' bodies
  module _ (pool : PoolId) (free : off pool.0 ≡ false) where
    same_queues : sum_by (λ (q : Queue). buffers_of pool (bodies_of q.entries)) hidden_world ≡ sum_by (λ (q : Queue). buffers_of pool (bodies_of q.entries)) world
    same_queues = world_count off w pool free 0 world (λ n is. let zero_more : 0 + n ≡ n = omega arith in omega (arith, both_none pool n (ap w (sym zero_more) ∙ is) free))

    same_hands : (xs : List Actor) → sum_by (λ (h : Holder). buffers_of pool h.hand) (map hidden_holder xs) ≡ sum_by (λ (h : Holder). buffers_of pool h.hand) (map (actor_holder scene) xs)
    same_hands [] = refl
    same_hands (x ∷ xs) =
        let here : buffers_of pool (map (hidden off) (actor_hand x)) ≡ buffers_of pool (actor_hand x) = hidden_count off pool (actor_hand x) ∙ ap (λ t. cond t 0 (buffers_of pool (actor_hand x))) free in
        omega (arith, sum_by-cons (λ (h : Holder). buffers_of pool h.hand) (hidden_holder x) (map hidden_holder xs), sum_by-cons (λ (h : Holder). buffers_of pool h.hand) (actor_holder scene x) (map (actor_holder scene) xs), here, same_hands xs)

    same_lent : (xs : List Actor) → sum_by (λ (h : Holder). h.lent pool.0) (map hidden_holder xs) ≡ sum_by (λ (h : Holder). h.lent pool.0) (map (actor_holder scene) xs)
    same_lent [] = refl
    same_lent (x ∷ xs) =
        let here : cond (off pool.0) 0 (actor_lent x pool.0) ≡ actor_lent x pool.0 = ap (λ t. cond t 0 (actor_lent x pool.0)) free in
        omega (arith, sum_by-cons (λ (h : Holder). h.lent pool.0) (hidden_holder x) (map hidden_holder xs), sum_by-cons (λ (h : Holder). h.lent pool.0) (actor_holder scene x) (map (actor_holder scene) xs), here, same_lent xs)

    same_counts : counted hidden_world hidden_holders pool ≡ counted world (holders_of actors) pool
    same_counts = λ i. record { queues = same_queues i; hands = same_hands actors i; lent = same_lent actors i }

  -- what is counted of a pool is what the table says after the journal
  pub line_beside : (k : ℕ) (row : PoolRow) → slice_get pools k ≡ Some row → off k ≡ false → counted world (holders_of actors) (record { 0 = k }) ≡ census (replay nm history start journal) k row.buffers
  line_beside k row at free =
      let plus : k ≡ 0 + k = omega arith in
      sym (same_counts (record { 0 = k }) free) ∙ counts_are nm begin.lender (hostiles parts) history rows sizes hidden_holders start journal hidden_passed hidden_world lines k row.buffers (ap sizes plus ∙ has.sized k row at)
