-- The lines of pools that a system reports are those of the table of owners, and nothing is bad.
use Rattle.std.proofs.Common.{◌≡◌, ◌+◌, ◌-◌, ◌^◌, ◌≤◌, ℕ, true, zero, suc, min, Some, List, [], ◌∷◌, drop, length, map, slice_get, sum_by, refl, sym, ap, ◌∙◌, subst, arith}
use Rattle.std.proofs.lemmas.List.Sums.{sum_by-cons}
use Rattle.wire_core.specs.declared.names.PoolRow.{PoolRow}
use Rattle.wire_core.specs.Deeds.{Cargo}
use Rattle.wire_core.specs.Journal.{EachMoment, start_history}
use Rattle.wire_core.specs.Marks.{sum_below}
use Rattle.cargo_core.specs.Bodies.{buffers_of}
use Rattle.cargo_core.specs.declared.census.Census.{Census}
use Rattle.turn_kit.specs.Hands.{bodies_of}
use Rattle.wired_law.proofs.PageLaw.ActorsLemmas.Pages.{same_sum}
use Rattle.buffer_kit.specs.Conserving.{Count, the_page, of_other_length}
use Rattle.owner_law.specs.Owners.{OneOwner, Table, replay}
use Rattle.owner_law.specs.Keeping.{start_table}
use Rattle.owner_law.proofs.Replays.{owners_hold}
use Rattle.cast_law.specs.PoolLines.PoolLines.{counted, counted_lines, line_of}
use Rattle.actor_set.specs.Parts.{Part}
use Rattle.actor_set.specs.Actors.{part_of, bad_of}
use Rattle.actor_set.specs.declared.actor.Actor.{Actor}
use Rattle.actor_set.specs.Laws.Kinds.{AllCalm, hostiles, scene_of}
use Rattle.actor_set.specs.Laws.Turning.{InTurn}
use Rattle.play_core.specs.Moved.{moved}
use Rattle.play_core.specs.Rests.Showing.{HaveItems}
use Rattle.play_core.proofs.Lists.{some_is}
use Rattle.wire_core.specs.Queues.{queue_at}
use Rattle.wired_law.specs.Wiring.{HasNoNetwork, HasNoBlock}
use Rattle.cast_law.specs.Pools.Holders.{holders_of}
use Rattle.play_core.specs.Names.{wild_in}
use Rattle.cast_law.specs.Pools.Beside.{is_rogues}
use Rattle.cast_law.specs.Pools.Owning.{BeginsBeside, owner_keepers, owner_naming}
use Rattle.cast_law.specs.Pools.Places.{PoolPlace, IsInPlace, IsPlaced, HasPools, ArePooled}
use Rattle.cast_law.specs.Pools.Pooling.{AddUp, AreOverQueues, AreKindly}
use Rattle.cast_law.proofs.OwningLemmas.Beginning.{begins_beside, owned_beside}
use Rattle.cast_law.proofs.OwningLemmas.Lining.{line_beside}
use Rattle.cast_law.proofs.OwningLemmas.Unlent.{theirs_unlent}
use Rattle.cast_law.proofs.PoolsLemmas.Calmed.{Calmed, calmed, no_rogues}
use Rattle.cast_law.proofs.PoolsLemmas.Moments.{each_kindly}
use Rattle.cast_law.proofs.PagesLemmas.Holding.{cast_whole, cast_once, cast_lengths, queues_sum, rest_is}
use Rattle.cast_law.proofs.PagesLemmas.Showing.{shown_all}
use Rattle.cast_law.proofs.PoolsLemmas.Goodness.{none_bad}
use Rattle.cast_law.proofs.PoolsLemmas.Playing.{bare, kindly_last, pools_few}
use Rattle.system_core.specs.Shows.{hostile_in}
use Rattle.system_core.specs.States.{bad_in}
use Rattle.system_core.specs.Inside.{setting_of, shown_of, IsSystem}
use Rattle.system_core.specs.Asking.{HoldNoMore}
use Rattle.system_core.specs.Lawful.{TellsBuffers}
use Rattle.system_core.specs.PoolLines.{AllAdd, AreLinesOf, AreUnlent, CountStanding, standing}
use Rattle.system_core.specs.declared.system.System.TheInside.{Inside}
use Rattle.system_core.proofs.Fitting.{fitted_place}
use Rattle.system_core.proofs.Owned.{add_up as all_added, around as around_here, over as over_queues}
use Rattle.system_core.proofs.RunsNow.{calm_turn, items_here}

module _ (a : Inside) (i : IsSystem a) where
  abbrev cast : List Part
  cast = map part_of a.actors.items

  in_place : IsInPlace a.rows.items a.pools.items cast
  in_place = fitted_place (setting_of a) i.fitted

  -- it is a cast over its queues
  over : AreOverQueues a.rows.items a.actors.items i.holds.passed a.wires.world
  over = over_queues (setting_of a).history a.rows.items (setting_of a).names a.wires.world a.actors.items a.journal.items i.holds a.pools.items in_place

  items : HaveItems i.holds.passed (moved (setting_of a).history a.journal.items)
  items = items_here (setting_of a).history a.rows.items (setting_of a).names a.wires.world a.actors.items a.journal.items i.holds

  -- its queues have what is of their kind
  pub kinds_hold : EachMoment (AreKindly (setting_of a).history a.rows.items) a.journal.items
  kinds_hold = each_kindly (hostile_in (setting_of a)) (setting_of a).history a.rows.items a.journal.items i.holds.legal (kindly_last (setting_of a).history a.rows.items a.journal.items i.holds.passed items i.holds.kinds (λ n. ((queue_at a.wires.world n).entries, sym (i.holds.stands_there n))))

  pub without_pools : HasNoNetwork cast → HasNoBlock cast → counted_lines a.wires.world (holders_of a.actors.items) 0 a.pools.items ≡ []
  without_pools no_net no_blk = rw (bare a.rows.items a.pools.items cast i.fitted.pooled no_net no_blk) refl

  pub queues_few : length a.wires.world ≤ 65536
  queues_few = omega (arith, i.holds.size, i.fitted.numbered)

  -- a pool's number has 16 bits
  pub few_pools : length a.pools.items ≤ 65536
  few_pools =
      let pooled : ArePooled a.rows.items a.pools.items cast = i.fitted.pooled in
      let place : PoolPlace = pooled.0 in
      let c : Calmed a.rows.items place.net place.blk cast = calmed a.rows.items place.net place.blk cast pooled.1.net pooled.1.blk pooled.1.rogues i.fitted.seated in
      let placed : IsPlaced a.rows.items place c.parts = record { net = c.net; blk = c.blk; rogues = no_rogues a.rows.items place.net place.blk c.parts c.calm } in
      pools_few a.rows.items a.pools.items c.parts c.calm (place, placed, pooled.2) c.seated i.fitted.numbered

  -- the numbers of each line are all buffers of its pool
  pub add_up : AddUp a.wires.world (holders_of a.actors.items) a.pools.items
  add_up = all_added (setting_of a).history a.rows.items (setting_of a).names a.wires.world a.actors.items a.journal.items i.holds a.pools.items in_place

  -- so no more buffers of a pool are shown than it has
  pub no_more : HoldNoMore a.wires.world (holders_of a.actors.items) a.pools.items
  no_more k row at = omega (arith, add_up k row at)

  -- the lines are those of these pools
  line_from : (first : ℕ) (ps : List PoolRow) (k : ℕ) (l : Census) → slice_get (counted_lines a.wires.world (holders_of a.actors.items) first ps) k ≡ Some l → (row : PoolRow) × (slice_get ps k ≡ Some row) × (l ≡ line_of row (counted a.wires.world (holders_of a.actors.items) (record { 0 = first + k })))
  line_from first [] k l at = cc
  line_from first (p ∷ ps) zero l at =
      let plus : first ≡ first + 0 = omega arith in
      (p, refl, sym (some_is at) ∙ ap (λ n. line_of p (counted a.wires.world (holders_of a.actors.items) (record { 0 = n }))) plus)
  line_from first (p ∷ ps) (suc k) l at =
      let x = line_from (first + 1) ps k l at in
      let shift : first + 1 + k ≡ first + suc k = omega arith in
      (x.0, x.1, x.2 ∙ ap (λ n. line_of x.0 (counted a.wires.world (holders_of a.actors.items) (record { 0 = n }))) shift)

  line_there : (first : ℕ) (ps : List PoolRow) (k : ℕ) (row : PoolRow) → slice_get ps k ≡ Some row → slice_get (counted_lines a.wires.world (holders_of a.actors.items) first ps) k ≡ Some (line_of row (counted a.wires.world (holders_of a.actors.items) (record { 0 = first + k })))
  line_there first [] k row at = cc
  line_there first (p ∷ ps) zero row at =
      let plus : first ≡ first + 0 = omega arith in
      ap (λ (r : PoolRow). Some (line_of r (counted a.wires.world (holders_of a.actors.items) (record { 0 = first })))) (some_is at) ∙ ap (λ n. Some (line_of row (counted a.wires.world (holders_of a.actors.items) (record { 0 = n })))) plus
  line_there first (p ∷ ps) (suc k) row at =
      let shift : first + 1 + k ≡ first + suc k = omega arith in
      line_there (first + 1) ps k row at ∙ ap (λ n. Some (line_of row (counted a.wires.world (holders_of a.actors.items) (record { 0 = n })))) shift

  lines_many : (first : ℕ) (ps : List PoolRow) → length (counted_lines a.wires.world (holders_of a.actors.items) first ps) ≡ length ps
  lines_many first [] = refl
  lines_many first (p ∷ ps) = ap suc (lines_many (first + 1) ps)

  -- what is said of what is counted of a pool is said of its line
  line_said : (P : ℕ → Census → Type 0) → ((k : ℕ) (row : PoolRow) → slice_get a.pools.items k ≡ Some row → P k (line_of row (counted a.wires.world (holders_of a.actors.items) (record { 0 = k })))) → (k : ℕ) (l : Census) → slice_get (shown_of a).state.pools k ≡ Some l → P k l
  line_said P said k l at =
      let x = line_from 0 a.pools.items k l at in
      let none : 0 + k ≡ k = omega arith in
      subst (P k) (sym (x.2 ∙ ap (λ n. line_of x.0 (counted a.wires.world (holders_of a.actors.items) (record { 0 = n }))) none)) (said k x.0 x.1)

  pub lines_add : AllAdd (shown_of a).state.pools
  lines_add = line_said (λ k l. l.queues + l.hands + l.lent ≡ l.buffers) add_up

  pub lines_stand : CountStanding i.holds.passed (length a.rows.items) (shown_of a).state.pools
  lines_stand = line_said (λ k l. l.queues ≡ sum_below (λ n. buffers_of (record { 0 = k }) (bodies_of (standing i.holds.passed n))) (length a.rows.items)) (λ k row at.
      let g : List Cargo → ℕ = λ es. buffers_of (record { 0 = k }) (bodies_of es) in
      sym (queues_sum g a.wires.world) ∙ (ap (sum_below (λ n. g (queue_at a.wires.world n).entries)) i.holds.size
      ∙ same_sum (λ n. g (queue_at a.wires.world n).entries) (λ n. g (standing i.holds.passed n)) (length a.rows.items) (λ n lt. ap g (sym (ap (drop (length (i.holds.passed.taken n))) (i.holds.stands_there n) ∙ rest_is (i.holds.passed.taken n) (queue_at a.wires.world n).entries)))))

  -- of a hostile client's pool nothing is lent
  pub lines_unlent : (place : PoolPlace) → IsPlaced a.rows.items place cast → HasPools a.pools.items place → AreUnlent (is_rogues (wild_in (hostiles cast) a.rows.items) place) (shown_of a).state.pools
  lines_unlent place placed has k l at = line_said (λ n line. is_rogues (wild_in (hostiles cast) a.rows.items) place n ≡ true → line.lent ≡ 0) (λ n row there is. theirs_unlent a.rows.items place a.actors.items placed has.numbered n is a.wires.world) k l at

  -- the lines of the others are those of the table
  pub pool_lines : (place : PoolPlace) → IsPlaced a.rows.items place cast → HasPools a.pools.items place → (start : Table) → BeginsBeside (setting_of a).history a.rows.items place cast start → AreLinesOf (is_rogues (wild_in (hostiles cast) a.rows.items) place) (replay (owner_naming a.rows.items place cast) (setting_of a).history start a.journal.items) a.pools.items (shown_of a).state.pools
  pool_lines place placed has start begin = record {
    many = lines_many 0 a.pools.items;
    each = λ k row at free.
        let none : 0 + k ≡ k = omega arith in
        line_there 0 a.pools.items k row at
        ∙ (ap (λ n. Some (line_of row (counted a.wires.world (holders_of a.actors.items) (record { 0 = n })))) none
        ∙ ap (λ c. Some (line_of row c)) (line_beside (setting_of a).history a.rows.items a.pools.items place a.actors.items start a.journal.items i.holds.passed a.wires.world has over
        (around_here (setting_of a).history a.rows.items (setting_of a).names a.wires.world a.actors.items a.journal.items i.holds a.pools.items in_place place placed) (i.holds.carry place placed) i.holds.legal (i.own place placed) begin k row at free));
  }

  -- so they are from the start state on, where each pool's buffers are in its owner's hand
  pub pool_lines_anew : (setting_of a).history ≡ start_history a.rows.items → (place : PoolPlace) → IsPlaced a.rows.items place cast → HasPools a.pools.items place → AreLinesOf (is_rogues (wild_in (hostiles cast) a.rows.items) place) (replay (owner_naming a.rows.items place cast) (start_history a.rows.items) (start_table (owner_keepers a.rows.items place cast)) a.journal.items) a.pools.items (shown_of a).state.pools
  pool_lines_anew anew place placed has =
      let table : Table = start_table (owner_keepers a.rows.items place cast) in
      let begins = subst (λ h. BeginsBeside h a.rows.items place cast table) (sym anew) (begins_beside a.rows.items place cast a.pools.items placed has i.fitted.seated i.fitted.ends) in
      subst (λ h. AreLinesOf (is_rogues (wild_in (hostiles cast) a.rows.items) place) (replay (owner_naming a.rows.items place cast) h table a.journal.items) a.pools.items (shown_of a).state.pools) anew (pool_lines place placed has table begins)

  -- the buffers are those of the cast's pools, one by one
  pub buffers_told : (place : PoolPlace) → IsPlaced a.rows.items place cast → HasPools a.pools.items place → TellsBuffers place (shown_of a)
  buffers_told place placed has =
      let weigh = shown_all a.rows.items a.actors.items i.holds.passed a.wires.world over place placed (moved (setting_of a).history a.journal.items) (i.holds.carry place placed) in
      let whole = cast_whole a.rows.items a.actors.items i.holds.passed a.wires.world over in
      record {
        all = weigh;
        once = λ pool number lt. let f : Count = the_page (record { 0 = pool }) number in
            weigh f ∙ sym (whole f) ∙ cast_once a.rows.items a.actors.items i.holds.passed a.wires.world over a.pools.items place placed has pool number lt;
        lengths = λ k p at j q at' some. let f : Count = of_other_length (record { 0 = q.number }) q.size in
            weigh f ∙ sym (whole f) ∙ cast_lengths a.rows.items a.actors.items i.holds.passed a.wires.world over a.pools.items place placed has k p at j q at' some;
      }

  -- from a table of owners on each move finds its buffer in the place that it leaves
  pub one_owner : (place : PoolPlace) → IsPlaced a.rows.items place cast → (start : Table) → BeginsBeside (setting_of a).history a.rows.items place cast start → EachMoment (OneOwner (owner_naming a.rows.items place cast) (setting_of a).history start) a.journal.items
  one_owner place placed start begin =
      owners_hold (owner_naming a.rows.items place cast) begin.lender (hostile_in (setting_of a)) (setting_of a).history a.rows.items (owner_keepers a.rows.items place cast) start a.journal.items
      (owned_beside (setting_of a).history a.rows.items place a.actors.items start a.journal.items i.holds.passed a.wires.world over i.holds.legal (i.own place placed) begin)

  -- where nobody is hostile
  module _ (calm : AllCalm cast) where
    turns : (k : ℕ) (x : Actor) → slice_get a.actors.items k ≡ Some x → InTurn (scene_of cast) x i.holds.passed
    turns = calm_turn (setting_of a).history a.rows.items (setting_of a).names a.wires.world a.actors.items a.journal.items i.holds calm

    -- nothing was counted as bad
    none_in : (xs : List Actor) → ((k : ℕ) (x : Actor) → slice_get xs k ≡ Some x → bad_of x ≡ 0) → sum_by bad_of xs ≡ 0
    none_in [] each = refl
    none_in (x ∷ xs) each = omega (arith, sum_by-cons bad_of x xs, each 0 x refl, none_in xs (λ k y at. each (suc k) y at))

    pub nothing_bad : bad_in a.actors.items ≡ 0
    nothing_bad = ap (λ n. min n (2 ^ 64 - 1)) (none_in a.actors.items (λ k x at. none_bad (scene_of cast) x i.holds.passed (turns k x at) (i.holds.stands k x at)))
