-- A cast at play: its journal has one owner of each buffer, and its lines are those of the table.
use Rattle.std.proofs.Common.{◌≡◌, ◌⊎◌, ◌+◌, ◌*◌, ◌++◌, ◌<◌, ◌≤◌, ℕ, Option, None, Some, List, [], ◌∷◌, length, map, flat_map, slice_get, sum_by, length-append, refl, sym, ap, ◌∙◌, subst, arith, inl, inr}
use Rattle.std.proofs.lemmas.List.{length-map}
use Rattle.cargo_core.specs.Bodies.{buffers_of}
use Rattle.cargo_core.specs.Items.{kind_of}
use Rattle.cargo_core.specs.Lists.{IsPrefix}
use Rattle.cargo_core.specs.declared.item.Item.{Item}
use Rattle.wire_core.specs.declared.names.PoolRow.{PoolRow}
use Rattle.wire_core.specs.declared.names.QueueRow.{QueueRow}
use Rattle.wire_core.specs.declared.names.Entry.{Entry}
use Rattle.wire_core.specs.Deeds.{Cargo, Deed}
use Rattle.wire_core.specs.Ends.{Consumer, role_of}
use Rattle.wire_core.specs.Journal.{History, Hostiles, EachMoment, start_history, owner_of}
use Rattle.wire_core.specs.Lists.{Passed, with_deed}
use Rattle.wire_core.specs.Queues.{Queue, queue_at, end_at, items_of}
use Rattle.turn_kit.specs.Hands.{bodies_of}
use Rattle.play_core.specs.Moved.{Moved, Seat, moved, sent, taken}
use Rattle.play_core.specs.Sheets.{Scene, AreSeated, AreApart, RowsHold}
use Rattle.play_core.specs.Wants.{intake, outlet}
use Rattle.play_core.proofs.Lists.{some_is, map_get, map_from}
use Rattle.owner_law.specs.Things.{Naming}
use Rattle.owner_law.specs.Owners.{Table, replay}
use Rattle.owner_law.specs.Keeping.{keeper_of, start_table, IsOwned}
use Rattle.owner_law.proofs.Starts.{start_counted}
use Rattle.owner_law.specs.Pages.{CarryPages}
use Rattle.owner_law.specs.Census.{IsPool}
use Rattle.play_core.specs.Rests.Showing.{HaveItems}
use Rattle.owner_law.specs.Pools.Lines.{Holder, keepers_of, HoldsIts, HandWithin, AreLines}
use Rattle.owner_law.proofs.PoolsLemmas.Handing.{carry_step, carry_takes}
use Rattle.owner_law.proofs.PoolsLemmas.Lasting.{last_whole}
use Rattle.cast_law.specs.PoolLines.PoolLines.{table_lines, counted_lines}
use Rattle.cast_law.proofs.PoolLines.Counting.{lines_are}
use Rattle.net_law.specs.Owners.Names.{ClientPools}
use Rattle.net_law.specs.TxParts.Numbers.{NetPlace}
use Rattle.owner_law.specs.Pools.Places.{AreNumbered}
use Rattle.owner_law.proofs.PoolsLemmas.Sizing.{spread_pools, spread_within}
use Rattle.blk_law.specs.Sheets.Numbers.{BlkPlace}
use Rattle.blk_law.specs.Owners.Answering.{IsInOrder, PutsItsOwnInOrder}
use Rattle.actor_set.specs.Parts.{Part}
use Rattle.actor_set.specs.Actors.{ActorStandsFor, part_of}
use Rattle.actor_set.specs.declared.actor.Actor.{Actor}
use Rattle.actor_set.specs.Laws.Kinds.{AllCalm, sheet, scene_of, hostiles}
use Rattle.actor_set.specs.Laws.Turning.{InTurn}
use Rattle.actor_set.proofs.LawsLemmas.PartEnds.{to_part, end_seat}
use Rattle.actor_set.proofs.LawsLemmas.Rows.{actor_row}
use Rattle.actor_set.proofs.LawsLemmas.Starts.{fits_whole}
use Rattle.wired_law.specs.Wiring.{AreOfKind, HasNoNetwork, HasNoBlock}
use Rattle.cast_law.specs.Pools.Holders.{actor_holder, holders_of}
use Rattle.cast_law.specs.Pools.Places.{PoolPlace, HasNetAt, HasBlkAt, IsPlaced, cast_naming, pools_first, pools_behind, place_pools, place_sizes, HasPools, ArePooled}
use Rattle.cast_law.specs.Pools.Pooling.{keepers_at, AddUp, AreAtPlay, BeginsWith, HasOwners, IsKindly, AreKindly, IsCall}
use Rattle.cast_law.proofs.PoolsLemmas.Acting.{actor_on, actor_holds}
use Rattle.cast_law.proofs.PoolsLemmas.Apart.{ends_apart}
use Rattle.cast_law.proofs.PoolsLemmas.Moments.{each_kindly}
use Rattle.cast_law.proofs.PoolsLemmas.Naming.{names_at, own_at, sized_at, takes_net, blk_behind}
use Rattle.cast_law.proofs.PoolsLemmas.Ordering.{answers_few, in_order}
use Rattle.cast_law.proofs.PoolsLemmas.Dealing.{owner, are_spread, pool_owned}
use Rattle.cast_law.proofs.PoolsLemmas.Owning.{lender_at, net_many, blk_many, naming_is, owned as owned_by, shown_anew}
use Rattle.cast_law.proofs.PoolsLemmas.Within.{cast_within}

-- the rows of all actors hold, where nothing came out of turn
pub rows_at : (rows : List QueueRow) (actors : List Actor) (passed : Passed) (m : Moved) → HaveItems passed m → ((k : ℕ) (x : Actor) → slice_get actors k ≡ Some x → InTurn (scene_of (map part_of actors)) x passed) → ((k : ℕ) (x : Actor) → slice_get actors k ≡ Some x → ActorStandsFor x passed) → RowsHold (sheet (scene_of (map part_of actors))) (hostiles (map part_of actors)) (map part_of actors) m
rows_at rows actors passed m items turn stands k p calm at =
    let x = map_from part_of actors k p at in
    subst (λ q. (sheet (scene_of (map part_of actors)) q).row m) x.2 (actor_row (scene_of (map part_of actors)) passed m items x.0 (turn k x.0 x.1) (stands k x.0 x.1))

-- what the actors have at the start is what their parts have
keepers_same : (scene : Scene) (actors : List Actor) → keepers_of (map (actor_holder scene) actors) ≡ map (λ p. keeper_of (sheet scene p)) (map part_of actors)
keepers_same scene [] = refl
keepers_same scene (x ∷ actors) = ap (λ ks. keeper_of (sheet scene (part_of x)) ∷ ks) (keepers_same scene actors)

items_begin : (xs ys : List Cargo) → IsPrefix xs ys → IsPrefix (items_of xs) (items_of ys)
items_begin [] ys h = (items_of ys, refl)
items_begin (x ∷ xs) [] h = absurd (let e = h.1 in cc)
items_begin (x ∷ xs) (y ∷ ys) h =
    let e = h.1 in
    let head : x ≡ y = cc in
    let tail : xs ++ h.0 ≡ ys = cc in
    let rest = items_begin xs ys (h.0, tail) in
    (rest.0, ap (λ l. x.0 ∷ l) rest.1 ∙ ap (λ (z : Cargo). z.0 ∷ items_of ys) head)

pub begins_too : (a b : List Item) (xs ys : List Cargo) → a ≡ items_of xs → b ≡ items_of ys → IsPrefix xs ys → IsPrefix a b
begins_too a b xs ys p q h = subst (λ l. IsPrefix l b) (sym p) (subst (λ l. IsPrefix (items_of xs) l) (sym q) (items_begin xs ys h))

-- entries that carry the pages which their items name do so after a call of an actor
pub carry_call : (rows : List QueueRow) (place : PoolPlace) (cast : List Part) (m m' : Moved) (passed : Passed) (d : Deed) (k : ℕ) (x : Actor) → IsCall rows place cast m m' passed d k x → CarryPages (cast_naming (scene_of cast) place) m' (with_deed passed d)
carry_call rows place cast m m' passed d k x call =
    let scene : Scene = scene_of cast in
    let naming : Naming = cast_naming scene place in
    let ends : List Seat = (sheet scene (part_of x)).ends in
    let was : (q : ℕ) → IsPrefix (m.taken q) (m.sent q) = λ q. begins_too (m.taken q) (m.sent q) (passed.taken q) (passed.sent q) (call.carried.taken q) (call.carried.sent q) (call.began q) in
    let now : (q : ℕ) → IsPrefix (m'.taken q) (m'.sent q) = λ q. begins_too (m'.taken q) (m'.sent q) ((with_deed passed d).taken q) ((with_deed passed d).sent q) (sym (call.items.taken q)) (sym (call.items.sent q)) (call.begins q) in
    let order : IsInOrder naming m' = in_order rows place.net cast call.calm m' call.rows_after now place.blk call.placed.blk (λ q row at j i i_at.
    let c = map_from (λ (y : Cargo). y.0) ((with_deed passed d).sent q) j i (ap (λ l. slice_get l j) (call.items.sent q) ∙ i_at) in
    ap kind_of (sym c.2) ∙ call.kinds q row at j c.0 c.1) in
    carry_step naming m m' passed d ends (record {
      carried = call.carried;
      sent = λ q. sym (call.items.sent q);
      taken = λ q. sym (call.items.taken q);
      begins = call.begins;
      asked = answers_few rows place.net cast call.calm m call.rows_before was place.blk call.placed.blk;
      own = end_seat scene (part_of x) (role_of d.event.op) d.event.queue.0 (to_part x (role_of d.event.op) d.event.queue.0 call.fits call.own);
      split = λ i j q ins outs.
          let a = call.seated k (part_of x) call.here i (intake q) ins in
          let b = call.seated k (part_of x) call.here j (outlet q) outs in
          let same : a.0 ≡ b.0 = some_is (sym a.1 ∙ b.1) in
          call.split q b.0 b.1 (b.2 ∙ (sym a.2 ∙ ap (λ r. owner_of r Consumer) same));
      hands_on = actor_on naming scene (with_deed passed d) m' call.items order x (call.calm k (part_of x) call.here) (names_at rows cast call.calm call.seated place.net place.blk call.placed.net call.placed.blk k (part_of x) call.here) (takes_net rows cast call.calm call.seated place.net place.blk call.placed.net call.placed.blk (with_deed passed d) call.kinds call.begins k x call.here) call.fits call.in_turn call.stands;
    })

-- with its buffers in their owners' hands a cast begins at the start state
pub begins_anew : (rows : List QueueRow) (cast : List Part) → AllCalm cast → (seated : AreSeated (sheet (scene_of cast)) rows cast) (place : PoolPlace) → IsPlaced rows place cast → AreNumbered (place_pools place) → BeginsWith (start_history rows) rows place cast (start_table (keepers_at cast))
begins_anew rows cast calm seated place placed numbered = record {
  lender = lender_at rows cast calm seated place.net placed.net;
  naming_is = naming_is rows cast calm seated place.net place.blk placed.net placed.blk;
  counted = start_counted (keepers_at cast);
  shown = shown_anew rows cast calm seated place.net place.blk placed.net placed.blk numbered;
}

-- at the end of a journal queues have what is of their kind
pub kindly_last : (history : History) (rows : List QueueRow) (journal : List Entry) (passed : Passed) → HaveItems passed (moved history journal) → AreOfKind rows passed → ((n : ℕ) → IsPrefix (passed.taken n) (passed.sent n)) → AreKindly history rows journal
kindly_last history rows journal passed items kinds begins n = by (slice_get rows n) refl
  where
    by : (o : Option QueueRow) → slice_get rows n ≡ o → IsKindly o (sent history n journal) (taken history n journal)
    by None none = begins_too (taken history n journal) (sent history n journal) (passed.taken n) (passed.sent n) (sym (items.taken n)) (sym (items.sent n)) (begins n)
    by (Some row) at = λ j i i_at.
        let c = map_from (λ (y : Cargo). y.0) (passed.sent n) j i (ap (λ l. slice_get l j) (items.sent n) ∙ i_at) in
        ap kind_of (sym c.2) ∙ kinds n row at j c.0 c.1

-- at each moment of a cast at play queues have what is of their kind
pub play_kinds : (history : History) (rows : List QueueRow) (actors : List Actor) (journal : List Entry) (passed : Passed) (world : List Queue) → AreAtPlay history rows actors journal passed world → EachMoment (AreKindly history rows) journal
play_kinds history rows actors journal passed world play = each_kindly (hostiles (map part_of actors)) history rows journal play.legal (kindly_last history rows journal passed play.items play.over.kinds (λ n. ((queue_at world n).entries, sym (play.over.stands_there n))))

-- at a moment
module _ (history : History) (rows : List QueueRow) (pools : List PoolRow) (place : PoolPlace) (actors : List Actor) (start : Table) (journal : List Entry) (passed : Passed) (world : List Queue) (placed : IsPlaced rows place (map part_of actors)) (has : HasPools pools place) (play : AreAtPlay history rows actors journal passed world) (begin : BeginsWith history rows place (map part_of actors) start) (carry : CarryPages (cast_naming (scene_of (map part_of actors)) place) (moved history journal) passed) where
  abbrev cast : List Part
  cast = map part_of actors

  abbrev scene : Scene
  scene = scene_of cast

  abbrev naming : Naming
  naming = cast_naming scene place

  abbrev hostile : Hostiles
  hostile = hostiles cast

  abbrev sizes : ℕ → ℕ
  sizes = place_sizes place

  abbrev m : Moved
  m = moved history journal

  abbrev lender : ℕ
  lender = begin.lender

  abbrev owner_ : ℕ → ℕ
  owner_ = owner rows cast play.calm play.over.seated place.net place.blk placed.net placed.blk has.numbered

  begins : (n : ℕ) → IsPrefix (passed.taken n) (passed.sent n)
  begins n = ((queue_at world n).entries, sym (play.over.stands_there n))

  actor_at : (k : ℕ) (p : Part) → slice_get cast k ≡ Some p → (x : Actor) × (slice_get actors k ≡ Some x) × (part_of x ≡ p)
  actor_at k p at = map_from part_of actors k p at

  owned : IsOwned naming lender hostile history rows (keepers_at cast) start journal
  owned = owned_by rows cast play.calm play.over.seated place.net place.blk placed.net placed.blk lender begin.naming_is history start journal play.over.filled play.over.peopled
      (λ k p at. let x = actor_at k p at in subst (λ q. AreApart (sheet scene q).ends) x.2 (ends_apart (end_at world) scene x.0 (play.over.fits k x.0 x.1)))
      (λ k p at.
      let x = actor_at k p at in
      subst (λ q. PutsItsOwnInOrder naming (sheet scene q)) x.2 (own_at rows cast play.calm play.over.seated place.net place.blk placed.net placed.blk passed x.0 (names_at rows cast play.calm play.over.seated place.net place.blk placed.net placed.blk k (part_of x.0) (map_get part_of actors k x.0 x.1)) (play.over.stands k x.0 x.1)))
      play.legal play.flows play.rows_hold (play_kinds history rows actors journal passed world play) begin.counted begin.shown

  -- each actor has what the table says
  holds_at : (k : ℕ) (h : Holder) → slice_get (holders_of actors) k ≡ Some h → HoldsIts naming sizes m passed h
  holds_at k h at =
      let x = map_from (actor_holder scene) actors k h at in
      let here = map_get part_of actors k x.0 x.1 in
      subst (HoldsIts naming sizes m passed) x.2
      (actor_holds naming scene passed m play.items sizes x.0 (play.calm k (part_of x.0) here) (names_at rows cast play.calm play.over.seated place.net place.blk placed.net placed.blk k (part_of x.0) here) (sized_at rows cast play.calm play.over.seated place.net place.blk placed.net placed.blk has.numbered k (part_of x.0) here) (fits_whole (end_at world) x.0 (play.over.fits k x.0 x.1)) (play.in_turn k x.0 x.1) (play.over.stands k x.0 x.1)
      (carry_takes naming m passed (sheet scene (part_of x.0)).ends carry begins))

  starts_at : (k : ℕ) (h : Holder) → slice_get (holders_of actors) k ≡ Some h → HandWithin sizes h.keeper
  starts_at k h at =
      let there : slice_get (keepers_at cast) k ≡ Some h.keeper = ap (λ ks. slice_get ks k) (sym (keepers_same scene actors)) ∙ map_get (λ (y : Holder). y.keeper) (holders_of actors) k h at in
      spread_within sizes owner_ (keepers_at cast) (are_spread rows cast play.calm play.over.seated place.net place.blk placed.net placed.blk has.numbered) k h.keeper there

  lines : AreLines naming lender hostile history rows sizes (holders_of actors) start journal passed world
  lines = record {
    owned = subst (λ ks. IsOwned naming lender hostile history rows ks start journal) (sym (keepers_same scene actors)) owned;
    carry = carry;
    stands_there = play.over.stands_there;
    size = play.over.size;
    names = cast_within scene place.net place.blk has.numbered;
    starts = starts_at;
    holds = holds_at;
  }

  -- the lines that are counted are those of the table
  pub play_lines : counted_lines world (holders_of actors) 0 pools ≡ table_lines (replay naming history start journal) 0 pools
  play_lines = lines_are naming lender hostile history rows sizes (holders_of actors) start journal passed world lines 0 pools has.sized

  -- and the three numbers of a line are all of them
  line_whole : ((k : ℕ) → IsPool start k (sizes k)) → (k : ℕ) (row : PoolRow) → slice_get pools k ≡ Some row → sum_by (λ (q : Queue). buffers_of (record { 0 = k }) (bodies_of q.entries)) world + sum_by (λ (h : Holder). buffers_of (record { 0 = k }) h.hand) (holders_of actors) + sum_by (λ (h : Holder). h.lent k) (holders_of actors) ≡ row.buffers
  line_whole there k row at =
      last_whole naming lender hostile history rows sizes (holders_of actors) start journal passed world lines (record { 0 = k }) (there k)
      ∙ (ap sizes (plus k) ∙ has.sized k row at)
    where
      plus : (n : ℕ) → n ≡ 0 + n
      plus n = omega arith

-- the numbers of each line add up, where there is a table in which pools have all their buffers
pub play_whole : (history : History) (rows : List QueueRow) (pools : List PoolRow) (place : PoolPlace) (actors : List Actor) (journal : List Entry) (passed : Passed) (world : List Queue) → IsPlaced rows place (map part_of actors) → HasPools pools place → AreAtPlay history rows actors journal passed world → HasOwners history rows place (map part_of actors) → CarryPages (cast_naming (scene_of (map part_of actors)) place) (moved history journal) passed → AddUp world (holders_of actors) pools
play_whole history rows pools place actors journal passed world placed has play owners carry = line_whole history rows pools place actors owners.table journal passed world placed has play owners.begins carry owners.pools

-- each pool of a cast has all its buffers at the start
pub all_there : (rows : List QueueRow) (cast : List Part) → AllCalm cast → (seated : AreSeated (sheet (scene_of cast)) rows cast) (place : PoolPlace) → IsPlaced rows place cast → AreNumbered (place_pools place) → (k : ℕ) → IsPool (start_table (keepers_at cast)) k (place_sizes place k)
all_there rows cast calm seated place placed numbered k = by (pool_owned rows cast calm seated place.net place.blk placed.net placed.blk numbered k)
  where
    by : (owner rows cast calm seated place.net place.blk placed.net placed.blk numbered k < length cast) ⊎ (place_sizes place k ≡ 0) → IsPool (start_table (keepers_at cast)) k (place_sizes place k)
    by (inl lt) =
        let same : length (keepers_at cast) ≡ length cast = length-map cast (λ p. keeper_of (sheet (scene_of cast) p)) in
        spread_pools (place_sizes place) (owner rows cast calm seated place.net place.blk placed.net placed.blk numbered) (keepers_at cast) (are_spread rows cast calm seated place.net place.blk placed.net placed.blk numbered) k (omega (arith, lt, same))
    by (inr none) = λ no lt is. absurd (omega (arith, lt, none))

-- so at the start state it has owners
pub owners_anew : (rows : List QueueRow) (cast : List Part) → AllCalm cast → (seated : AreSeated (sheet (scene_of cast)) rows cast) (place : PoolPlace) → IsPlaced rows place cast → AreNumbered (place_pools place) → HasOwners (start_history rows) rows place cast
owners_anew rows cast calm seated place placed numbered = record {
  table = start_table (keepers_at cast);
  begins = begins_anew rows cast calm seated place placed numbered;
  pools = all_there rows cast calm seated place placed numbered;
}

pairs_many : (qs : List ClientPools) → length (flat_map (λ (q : ClientPools). q.rx ∷ q.tx ∷ []) qs) ≡ 2 * length qs
pairs_many [] = refl
pairs_many (q ∷ qs) = let rest = pairs_many qs in omega (arith, rest)

-- fewer pools than queues
pub pools_few : (rows : List QueueRow) (pools : List PoolRow) (cast : List Part) → AllCalm cast → ArePooled rows pools cast → AreSeated (sheet (scene_of cast)) rows cast → length rows ≤ 65536 → length pools ≤ 65536
pools_few rows pools cast calm (place, placed, has) seated few = by place.net place.blk placed.net placed.blk (has.many ∙ length-append (pools_first place.net) (pools_behind place.blk))
  where
    by : (n : Option NetPlace) (b : Option BlkPlace) → HasNetAt rows n cast → HasBlkAt rows b cast → length pools ≡ length (pools_first n) + length (pools_behind b) → length pools ≤ 65536
    by None None net blk many = omega (arith, many)
    by (Some net) None has_net blk many = let room = net_many rows cast calm seated net has_net in omega (arith, many, room, few, pairs_many net.pools)
    by None (Some blk) net has_blk many = let room = blk_many rows cast calm seated blk has_blk.0 in omega (arith, many, room, few)
    by (Some net) (Some blk) has_net has_blk many =
        let room = blk_many rows cast calm seated blk has_blk.0 in
        let behind = blk_behind rows cast calm seated net has_net.0 has_net.1 blk has_blk.0 in
        omega (arith, many, room, behind, few, pairs_many net.pools)

-- without a class that has pools there are none
pub bare : (rows : List QueueRow) (pools : List PoolRow) (cast : List Part) → ArePooled rows pools cast → HasNoNetwork cast → HasNoBlock cast → pools ≡ []
bare rows pools cast (place, placed, has) no_net no_blk = by place.net place.blk placed.net placed.blk (has.many ∙ length-append (pools_first place.net) (pools_behind place.blk))
  where
    nothing : (ps : List PoolRow) → length ps ≡ 0 → ps ≡ []
    nothing [] e = refl
    nothing (p ∷ ps) e = absurd (omega (arith, e))

    by : (n : Option NetPlace) (b : Option BlkPlace) → HasNetAt rows n cast → HasBlkAt rows b cast → length pools ≡ length (pools_first n) + length (pools_behind b) → pools ≡ []
    by None None net blk many = nothing pools (omega (arith, many))
    by (Some net) b has_net blk many = absurd (no_net.none has_net.0.device.0 _ has_net.0.device.1)
    by None (Some blk) net has_blk many = absurd (no_blk has_blk.0.disk.0 _ has_blk.0.disk.1)
