use Rattle.std.proofs.Common.{◌≡◌, ◌≤◌, ◌+◌, ◌*◌, ℕ, Option, Some, List, [], length, map, slice_get, refl, sym, ap, ◌∙◌, subst, arith, inl, inr}
use Rattle.std.proofs.lemmas.List.{length-map}
use Rattle.std.specs.Option.{option_map, option_map_or}
use Rattle.cargo_core.specs.Lists.{IsPrefix, PrefixMerge}
use Rattle.cargo_core.specs.declared.item.Ask.{Ask}
use Rattle.cargo_core.specs.declared.item.Reply.{Reply}
use Rattle.class_expect.specs.BlkExpect.Replies.{replies_of}
use Rattle.blk_law.specs.Sheets.Numbers.{BlkPlace, blk_client_at}
use Rattle.frame_core.specs.declared.mac.Mac.{Mac}
use Rattle.wire_core.specs.declared.names.QueueRow.{QueueRow}
use Rattle.wire_core.specs.declared.names.Entry.{Entry}
use Rattle.wire_core.specs.Deeds.{Cargo}
use Rattle.wire_core.specs.Lists.{Passed}
use Rattle.wire_core.specs.Queues.{Queue, end_at}
use Rattle.wire_core.specs.Journal.{History}
use Rattle.class_expect.specs.NetExpect.Expecting.{Program}
use Rattle.buffer_kit.specs.Entries.{frame_of}
use Rattle.net_law.specs.Dropped.{left_for}
use Rattle.net_law.specs.Owners.Names.{ClientPools}
use Rattle.owner_law.specs.Pools.Places.{PoolAt, own_pool}
use Rattle.net_law.specs.Parts.Numbers.{client_first, device_at, client_at}
use Rattle.net_law.specs.TxParts.Numbers.{NetPlace}
use Rattle.net_quiet.specs.TxCast.Casting.{NoneHostile, net_kept, net_marks, sends_at, sends_beside, wire_beside}
use Rattle.actor_set.specs.Parts.{Part, RoguePart, NetworkPart, BlockPart, HostilePart}
use Rattle.actor_set.specs.Actors.{part_of}
use Rattle.actor_set.specs.declared.actor.Actor.{Actor}
use Rattle.actor_set.specs.declared.actor.Actor.TheVariants as Kinds
use Rattle.actor_set.specs.Laws.Kinds.{hostiles, scene_of}
use Rattle.actor_set.specs.Laws.Scenes.{ToldInTurn}
use Rattle.actor_set.specs.Laws.Turning.{InTurn}
use Rattle.actor_set.specs.Laws.Records.{frames_got, frames_by, replies_got, replies_by}
use Rattle.actor_set.proofs.LawsLemmas.Rows.{frames_here, replies_here}
use Rattle.client_programs.proofs.BlkLemmas.Asks.{replies_long}
use Rattle.wired_law.specs.Wiring.{HasWhole, HasBlk, AreAtWork, IsOfNetwork}
use Rattle.wired_law.proofs.Wiring.{kept_all, recorded, sends_calm_here, sent_beside, told_beside}
use Rattle.wired_law.proofs.BlkReplies.Casts.{replied}
use Rattle.play_core.specs.Moved.{taken}
use Rattle.play_core.specs.Names.{Names, Noted, Wild, told_by, wild_in}
use Rattle.play_core.specs.Sheets.{Scene}
use Rattle.play_core.proofs.Lists.{some_is, map_from}
use Rattle.system_core.specs.States.{frames_from, replies_from}
use Rattle.system_core.specs.Systems.{Holds}
use Rattle.system_core.proofs.RunsNow.{at_work}

-- a client of the network receives in buffers that take the longest frame
client_fits : (rows : List QueueRow) (net : NetPlace) (cast : List Part) (frames : List (List ℕ)) → HasWhole rows net cast → (j : ℕ) (program : Program) (mac : Mac) (pools : ClientPools) → IsOfNetwork net frames (NetworkPart (client_at net.first j program mac pools)) → net.most ≤ pools.rx.size
client_fits rows net cast frames whole j program mac pools (inl e) = absurd cc
client_fits rows net cast frames whole j program mac pools (inr (inl e)) = absurd cc
client_fits rows net cast frames whole j program mac pools (inr (inr (inl e))) = absurd cc
client_fits rows net cast frames whole j program mac pools (inr (inr (inr (inl e)))) = absurd cc
client_fits rows net cast frames whole j program mac pools (inr (inr (inr (inr (inl x))))) = let e = x.2 in absurd cc
client_fits rows net cast frames whole j program mac pools (inr (inr (inr (inr (inr x))))) =
    let e = x.5 in
    let rx : pools.rx ≡ own_pool x.3.rx = cc in
    subst (λ (p : PoolAt). net.most ≤ p.size) (sym rx) (whole.fits_client x.0 x.3 x.4.pools).0

-- nothing came out of turn at a block client
client_turn : (scene : Scene) (wild : Wild) (names : Names) (passed : Passed) (x : Actor) (first j : ℕ) (asks : List Ask) (pool : PoolAt) → part_of x ≡ BlockPart (blk_client_at first j asks pool) → ToldInTurn scene wild names x passed → InTurn scene x passed
client_turn scene wild names passed (Kinds.UartDevice x) first j asks pool is turn = turn
client_turn scene wild names passed (Kinds.UartDriver x) first j asks pool is turn = turn
client_turn scene wild names passed (Kinds.SerialVirtRx x) first j asks pool is turn = turn
client_turn scene wild names passed (Kinds.SerialVirtTx x) first j asks pool is turn = turn
client_turn scene wild names passed (Kinds.SerialClient x) first j asks pool is turn = turn
client_turn scene wild names passed (Kinds.EthDevice x) first j asks pool is turn = turn
client_turn scene wild names passed (Kinds.EthDriver x) first j asks pool is turn = turn
client_turn scene wild names passed (Kinds.NetVirtRx x) first j asks pool is turn = turn
client_turn scene wild names passed (Kinds.NetCopier x) first j asks pool is turn = turn
client_turn scene wild names passed (Kinds.NetClient x) first j asks pool is turn = turn
client_turn scene wild names passed (Kinds.NetVirtTx x) first j asks pool is turn = absurd cc
client_turn scene wild names passed (Kinds.DiskDevice x) first j asks pool is turn = turn
client_turn scene wild names passed (Kinds.BlkDriver x) first j asks pool is turn = turn
client_turn scene wild names passed (Kinds.BlkVirt x) first j asks pool is turn = absurd cc
client_turn scene wild names passed (Kinds.BlkClient x) first j asks pool is turn = turn
client_turn scene wild names passed (Kinds.Rogue x) first j asks pool is turn = turn

-- a hostile actor got no replies
no_replies : (x : Actor) (p : RoguePart) → part_of x ≡ HostilePart p → replies_got x ≡ []
no_replies (Kinds.UartDevice x) p is = refl
no_replies (Kinds.UartDriver x) p is = refl
no_replies (Kinds.SerialVirtRx x) p is = refl
no_replies (Kinds.SerialVirtTx x) p is = refl
no_replies (Kinds.SerialClient x) p is = refl
no_replies (Kinds.EthDevice x) p is = refl
no_replies (Kinds.EthDriver x) p is = refl
no_replies (Kinds.NetVirtRx x) p is = refl
no_replies (Kinds.NetCopier x) p is = refl
no_replies (Kinds.NetClient x) p is = refl
no_replies (Kinds.NetVirtTx x) p is = refl
no_replies (Kinds.DiskDevice x) p is = refl
no_replies (Kinds.BlkDriver x) p is = refl
no_replies (Kinds.BlkVirt x) p is = refl
no_replies (Kinds.BlkClient x) p is = absurd cc
no_replies (Kinds.Rogue x) p is = refl

module _ (history : History) (rows : List QueueRow) (names : List Noted) (w : List Queue) (actors : List Actor) (journal : List Entry) (h : Holds history rows names w actors journal) where
  work : AreAtWork (end_at w) rows actors h.passed
  work = at_work history rows names w actors journal h

  -- a frame was recorded for each entry that was taken
  shown_long : (x : Actor) (n : ℕ) → frames_got x ≡ map frame_of (h.passed.taken n) → length (frames_got x) ≡ length (taken history n journal)
  shown_long x n is =
      let a = ap length is in
      let b = length-map (h.passed.taken n) frame_of in
      let c = length-map (h.passed.taken n) (λ (e : Cargo). e.0) in
      let d = ap length (h.shows_taken n) in
      omega (arith, a, b, c, d)

  -- the device accepted all frames
  kept_here : (net : NetPlace) → HasWhole rows net (map part_of actors) → net_kept net (scene_of (map part_of actors)).frames h.passed.calls ≡ (scene_of (map part_of actors)).frames
  kept_here net whole = kept_all (scene_of (map part_of actors)) (end_at w) rows actors h.passed work net whole

  -- what the actors of these numbers recorded, one by one
  pub records_at : (net : NetPlace) → HasWhole rows net (map part_of actors) → (numbers : List ℕ) (c k j : ℕ) (program : Program) (mac : Mac) (pools : ClientPools) (got : List (List ℕ)) → slice_get numbers c ≡ Some k → slice_get (map part_of actors) k ≡ Some (NetworkPart (client_at net.first j program mac pools)) → 1 ≤ pools.rx.buffers
      → slice_get net.macs j ≡ Some mac → slice_get (map (frames_from actors) numbers) c ≡ Some got → IsPrefix got (left_for (net_marks net h.passed.calls j) mac (scene_of (map part_of actors)).frames) × (length got ≡ length (taken history (client_first net.first j + 2) journal))
  records_at net whole numbers c k j program mac pools got number part some address at =
      let x = map_from part_of actors k (NetworkPart (client_at net.first j program mac pools)) part in
      let m = map_from (frames_from actors) numbers c got at in
      let same : m.0 ≡ k = some_is (sym m.1 ∙ number) in
      let is : frames_got x.0 ≡ got = sym (ap (λ o. option_map_or frames_got o []) x.1) ∙ (ap (frames_from actors) (sym same) ∙ m.2) in
      let begun = recorded (end_at w) rows actors h.passed net whole work k j x.0 program mac pools x.1 x.2 some (client_fits rows net (map part_of actors) (scene_of (map part_of actors)).frames whole j program mac pools (whole.only k (client_at net.first j program mac pools) part)) address in
      let all = subst (λ fs. IsPrefix (frames_got x.0) (left_for (net_marks net h.passed.calls j) mac fs)) (kept_here net whole) begun in
      let long = shown_long x.0 (client_first net.first j + 2) (frames_here h.passed x.0 (h.stands k x.0 x.1) ∙ ap (frames_by h.passed) x.2) in
      subst (λ g. IsPrefix g (left_for (net_marks net h.passed.calls j) mac (scene_of (map part_of actors)).frames) × (length g ≡ length (taken history (client_first net.first j + 2) journal))) is (all, long)

  abbrev wild : Wild
  wild = wild_in (hostiles (map part_of actors)) rows

  abbrev frames : List (List ℕ)
  frames = (scene_of (map part_of actors)).frames

  -- what the device sent
  pub wire_here : (net : NetPlace) → HasWhole rows net (map part_of actors) → (device : Option ℕ) (k : ℕ) → device ≡ Some k → slice_get (map part_of actors) k ≡ Some (NetworkPart (device_at net.first frames net.device_drops))
      → (option_map (frames_from actors) device ≡ Some (wire_beside wild net frames h.passed)) × PrefixMerge (sends_beside wild net frames h.passed) (wire_beside wild net frames h.passed)
  wire_here net whole device k is part =
      let x = map_from part_of actors k (NetworkPart (device_at net.first frames net.device_drops)) part in
      let told : frames_got x.0 ≡ wire_beside wild net frames h.passed = told_beside (end_at w) rows actors h.passed net whole work h.sends k x.0 x.1 x.2 in (
        ap (option_map (frames_from actors)) is ∙ ap Some (ap (λ o. option_map_or frames_got o []) x.1 ∙ told),
        subst (PrefixMerge (sends_beside wild net frames h.passed)) told (sent_beside (end_at w) rows actors h.passed net whole work h.sends k x.0 x.1 x.2),
      )

  -- where no client of the network is hostile, each sends by its program
  pub sends_plain : (net : NetPlace) → HasWhole rows net (map part_of actors) → NoneHostile wild net → sends_beside wild net frames h.passed ≡ sends_at (net_marks net h.passed.calls) 0 net.programs net.macs frames
  sends_plain net whole none =
      sends_calm_here (scene_of (map part_of actors)) (end_at w) rows actors h.passed work net whole none
      ∙ ap (sends_at (net_marks net h.passed.calls) 0 net.programs net.macs) (kept_here net whole)

  -- a hostile actor recorded nothing
  pub net_silent : (numbers : List ℕ) (c k : ℕ) (p : RoguePart) (got : List (List ℕ)) → slice_get numbers c ≡ Some k → slice_get (map part_of actors) k ≡ Some (HostilePart p) → slice_get (map (frames_from actors) numbers) c ≡ Some got → got ≡ []
  net_silent numbers c k p got number part at =
      let x = map_from part_of actors k (HostilePart p) part in
      let m = map_from (frames_from actors) numbers c got at in
      let same : m.0 ≡ k = some_is (sym m.1 ∙ number) in
      sym m.2 ∙ (ap (frames_from actors) same ∙ (ap (λ o. option_map_or frames_got o []) x.1 ∙ (frames_here h.passed x.0 (h.stands k x.0 x.1) ∙ ap (frames_by h.passed) x.2)))

  pub blk_silent : (numbers : List ℕ) (c k : ℕ) (p : RoguePart) (got : List Reply) → slice_get numbers c ≡ Some k → slice_get (map part_of actors) k ≡ Some (HostilePart p) → slice_get (map (replies_from actors) numbers) c ≡ Some got → got ≡ []
  blk_silent numbers c k p got number part at =
      let x = map_from part_of actors k (HostilePart p) part in
      let m = map_from (replies_from actors) numbers c got at in
      let same : m.0 ≡ k = some_is (sym m.1 ∙ number) in
      sym m.2 ∙ (ap (replies_from actors) same ∙ (ap (λ o. option_map_or replies_got o []) x.1 ∙ no_replies x.0 p x.2))

  -- a reply was recorded for each response that was taken
  replies_long_here : (x : Actor) (k first j : ℕ) (asks : List Ask) (pool : PoolAt) → slice_get actors k ≡ Some x → part_of x ≡ BlockPart (blk_client_at first j asks pool) → length (taken history (first + 5 + 2 * j) journal) ≤ length asks → length (replies_got x) ≡ length (taken history (first + 5 + 2 * j) journal)
  replies_long_here x k first j asks pool at is few =
      let all = length-map (h.passed.taken (first + 5 + 2 * j)) (λ (e : Cargo). e.0) in
      let shown = ap length (h.shows_taken (first + 5 + 2 * j)) in
      let same = ap length (replies_here (scene_of (map part_of actors)) h.passed x (client_turn (scene_of (map part_of actors)) (wild_in (hostiles (map part_of actors)) rows) (told_by names) h.passed x first j asks pool is (h.in_turn k x at)) (h.stands k x at) ∙ ap (replies_by h.passed) is) in
      let long = replies_long asks (h.passed.taken (first + 5 + 2 * j)) (omega (arith, all, shown, few)) in
      omega (arith, all, shown, same, long)

  -- what the block clients of these numbers recorded, one by one
  pub replies_at : (blk : BlkPlace) → HasBlk rows blk (map part_of actors) → (numbers : List ℕ) (c k j : ℕ) (asks : List Ask) (pool : PoolAt) (entry : ℕ) (got : List Reply) → slice_get numbers c ≡ Some k → slice_get (map part_of actors) k ≡ Some (BlockPart (blk_client_at blk.first j asks pool)) → slice_get blk.entries j ≡ Some entry
      → slice_get blk.asks j ≡ Some asks → slice_get (map (replies_from actors) numbers) c ≡ Some got → IsPrefix got (replies_of blk.image entry asks) × (length (taken history (blk.first + 5 + 2 * j) journal) ≤ length asks → length got ≡ length (taken history (blk.first + 5 + 2 * j) journal))
  replies_at blk whole numbers c k j asks pool entry got number part of its at =
      let x = map_from part_of actors k (BlockPart (blk_client_at blk.first j asks pool)) part in
      let m = map_from (replies_from actors) numbers c got at in
      let same : m.0 ≡ k = some_is (sym m.1 ∙ number) in
      let is : replies_got x.0 ≡ got = sym (ap (λ o. option_map_or replies_got o []) x.1) ∙ (ap (replies_from actors) (sym same) ∙ m.2) in (
        subst (λ g. IsPrefix g (replies_of blk.image entry asks)) is (replied (end_at w) rows actors h.passed blk whole work h.sends k j x.0 asks pool entry x.1 x.2 of its),
        λ few. let long = replies_long_here x.0 k blk.first j asks pool x.1 x.2 few in let e = ap length is in omega (arith, long, e),
      )
