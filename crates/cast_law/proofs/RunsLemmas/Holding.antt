-- All that holds of a cast in place goes on to hold, turn by turn.
use Rattle.std.proofs.Common.{◌≡◌, ◌≢◌, ◌∙◌, ◌+◌, ◌*◌, ℕ, zero, suc, List, [], ◌∷◌, ◌++◌, map, refl, sym, ap, subst, append-nil, Option, Some, slice_get, slice_set, Bool, true, false, if◌then◌else◌, ◌⊎◌, inl, inr, ⊎_elim}
use Rattle.std.specs.Option.{option_map_or}
use mathlib.Core.Logic.{dite}
use native.Mathlib.Decide.{ℕ_discrete}
use Rattle.std.proofs.Math.Dec.{eqb}
use Rattle.std.proofs.lemmas.Bool.Decides.{eqb_tells}
use Rattle.cargo_core.specs.Lists.{IsPrefix}
use Rattle.wire_core.specs.declared.names.PoolRow.{PoolRow}
use Rattle.wire_core.specs.declared.names.QueueRow.{QueueRow}
use Rattle.wire_core.specs.declared.names.Event.{Event}
use Rattle.wire_core.specs.declared.names.Op.{Op}
use Rattle.wire_core.specs.declared.names.Op.TheVariants as Do
use Rattle.wire_core.specs.Deeds.{Cargo, Deed, cargo_of}
use Rattle.wire_core.specs.Ends.{Role, Consumer, Producer, End, role_of}
use Rattle.wire_core.specs.Fates.{noes_at}
use Rattle.wire_core.specs.Journal.{owner_of}
use Rattle.wire_core.specs.Lists.{Passed, if_put, if_taken, if_there, nothing_passed, put_by, with_deed}
use Rattle.wire_core.specs.Queues.{is_store, items_of}
use Rattle.play_core.specs.Moved.{Moved}
use Rattle.play_core.specs.Names.{Wild, names_at, wild_in}
use Rattle.play_core.specs.Sheets.{AreFilled, AreSeated}
use Rattle.play_core.proofs.Lists.{map_get}
use Rattle.play_core.specs.Rests.Showing.{HaveItems}
use Rattle.actor_set.specs.Parts.{Part}
use Rattle.actor_set.specs.Actors.{FitsActor, ActorStandsFor, ActorEnd, IsActorCall, IsWhole, part_of}
use Rattle.actor_set.specs.declared.actor.Actor.{Actor}
use Rattle.actor_set.specs.declared.actor.Actor.TheVariants as Kinds
use Rattle.actor_set.specs.Laws.Kinds.{sheet, scene_of, hostiles}
use Rattle.actor_set.specs.Laws.Scenes.{ToldInTurn}
use Rattle.actor_set.proofs.LawsLemmas.Alike.{alike_more}
use Rattle.actor_set.proofs.LawsLemmas.Beside.{fits_beside, stands_beside}
use Rattle.actor_set.proofs.LawsLemmas.PartEnds.{to_part, end_seat, same_part}
use Rattle.actor_set.proofs.LawsLemmas.Starts.{fits_whole}
use Rattle.wired_law.specs.Wiring.{IsWired, AreAtWork, AreOfKind, ClientsSend}
use Rattle.wired_law.proofs.Wiring.{sends_on, nothing_sent}
use Rattle.cast_law.specs.Pools.Beside.{CastCarries, RoguesAsk}
use Rattle.cast_law.specs.Pools.Places.{PoolPlace, IsInPlace, IsPlaced}
use Rattle.cast_law.proofs.BesideLemmas.Carrying.{call_carries}
use Rattle.cast_law.proofs.BesideLemmas.Asking.{asks_on}
use Rattle.cast_law.proofs.TurnsLemmas.{told_turns, wired_place}
use Rattle.order_law.specs.Orders.{Turn, IsTurn, InOrder}
use Rattle.order_law.proofs.Lists.{same_some, set_there, set_beside, get_front}
use Rattle.order_law.proofs.Moving.{moved_by, moved_else}
use Rattle.order_law.proofs.Ordering.{grows}
use Rattle.cast_law.specs.Runs.Running.{AreReady, HaveHeld}

-- the items of what passed
abbrev moved_of : Passed → Moved
moved_of passed = record { sent = λ n. items_of (passed.sent n); taken = λ n. items_of (passed.taken n); noes = λ r n. noes_at r n passed.calls }

have_items : (passed : Passed) → HaveItems passed (moved_of passed)
have_items passed = record { taken = λ n. refl; sent = λ n. refl; noes = λ r n. refl }

-- where one actor's part stays, all parts stay
map_same : (xs : List Actor) (k : ℕ) (x y : Actor) → slice_get xs k ≡ Some x → part_of y ≡ part_of x → map part_of (slice_set xs k y) ≡ map part_of xs
map_same [] k x y at same = refl
map_same (a ∷ xs) zero x y at same = ap (λ b. b ∷ map part_of xs) (same ∙ ap part_of (sym (same_some a x at)))
map_same (a ∷ xs) (suc k) x y at same = ap (λ bs. part_of a ∷ bs) (map_same xs k x y at same)

-- of what was put so far, all is of its queue's kind, where all that is put at the end is
kinds_before : (rows : List QueueRow) (passed last : Passed) → ((n : ℕ) → IsPrefix (passed.sent n) (last.sent n)) → AreOfKind rows last → AreOfKind rows passed
kinds_before rows passed last begins kinds n row is k c at = kinds n row is k c (ap (λ (z : List Cargo). slice_get z k) (sym (begins n).1) ∙ get_front (passed.sent n) (begins n).0 k c at)

-- a call is at an end of its actor, or it is a store
own_or_store : (x : Actor) (e : Event) → IsActorCall x e → ActorEnd x (role_of e.op) e.queue.0 ⊎ (is_store e.op ≡ true)
own_or_store (Kinds.UartDevice x) e h = inl h
own_or_store (Kinds.UartDriver x) e h = inl h
own_or_store (Kinds.SerialVirtRx x) e h = inl h
own_or_store (Kinds.SerialVirtTx x) e h = inl h
own_or_store (Kinds.SerialClient x) e h = inl h
own_or_store (Kinds.EthDevice x) e h = inl h
own_or_store (Kinds.EthDriver x) e h = inl h
own_or_store (Kinds.NetVirtRx x) e h = inl h
own_or_store (Kinds.NetCopier x) e h = inl h
own_or_store (Kinds.NetClient x) e h = inl h
own_or_store (Kinds.NetVirtTx x) e h = inl h
own_or_store (Kinds.DiskDevice x) e h = inl h
own_or_store (Kinds.BlkDriver x) e h = inl h
own_or_store (Kinds.BlkVirt x) e h = inl h
own_or_store (Kinds.BlkClient x) e h = inl h
own_or_store (Kinds.Rogue x) e (inl h) = inl h
own_or_store (Kinds.Rogue x) e (inr (is, r, own)) = inr is

-- an actor of the same part makes it there too
own_after : (x y : Actor) (e : Event) → part_of y ≡ part_of x → IsWhole x → IsActorCall x e → ActorEnd y (role_of e.op) e.queue.0 ⊎ (is_store e.op ≡ true)
own_after x y e same whole h = ⊎_elim (λ own. inl (same_part y x (role_of e.op) e.queue.0 (sym same) whole own)) (λ stores. inr stores) (own_or_store x e h)

-- a store moves nothing
no_move : (o : Op) (c : List Cargo) → is_store o ≡ true → (if_taken o c ≡ []) × (if_put o c ≡ [])
no_move Do.See c is = cc
no_move Do.Room c is = cc
no_move Do.Take c is = cc
no_move Do.Put c is = cc
no_move (Do.Ask s) c is = cc
no_move (Do.Waive s) c is = cc
no_move (Do.Wake s) c is = cc
no_move (Do.Wanted s) c is = cc
no_move (Do.Settle s) c is = cc
no_move (Do.Ring s) c is = cc
no_move (Do.Store w v) c is = (refl, refl)

nothing_there : (b : Bool) → if_there b [] ≡ []
nothing_there true = refl
nothing_there false = refl

store_moves : (d : Deed) (r : Role) (n : ℕ) → is_store d.event.op ≡ true → moved_by d r n ≡ []
store_moves d Consumer n is = ap (if_there (eqb d.event.queue.0 n)) (no_move d.event.op (cargo_of d) is).0 ∙ nothing_there (eqb d.event.queue.0 n)
store_moves d Producer n is = ap (if_there (eqb d.event.queue.0 n)) (no_move d.event.op (cargo_of d) is).1 ∙ nothing_there (eqb d.event.queue.0 n)

-- what holds of a cast at a moment
record Stands (rows : List QueueRow) (cast : List Part) (actors : List Actor) (passed : Passed) : Type 0 where
  pub parts : map part_of actors ≡ cast
  pub each : ℕ → Role → ℕ → End
  pub fits : (k : ℕ) (x : Actor) → slice_get actors k ≡ Some x → FitsActor (each k) x
  pub stands : (k : ℕ) (x : Actor) → slice_get actors k ≡ Some x → ActorStandsFor x passed
  pub over : (n : ℕ) → IsPrefix (passed.taken n) (passed.sent n)
  pub sends : ClientsSend rows cast passed
  pub asks : (place : PoolPlace) → IsPlaced rows place cast → RoguesAsk (wild_in (hostiles cast) rows) place passed
  pub carry : (place : PoolPlace) → IsPlaced rows place cast → CastCarries rows place actors (moved_of passed) passed

module _ (rows : List QueueRow) (pools : List PoolRow) (cast : List Part) (in_place : IsInPlace rows pools cast) (split : (n : ℕ) (row : QueueRow) → slice_get rows n ≡ Some row → row.producer.0 ≡ row.consumer.0 → ⊥) where
  wired : IsWired rows cast
  wired = wired_place rows pools cast in_place

  seated : AreSeated (sheet (scene_of cast)) rows cast
  seated = in_place.seated

  module _ (actors : List Actor) (passed : Passed) (st : Stands rows cast actors passed) where
    -- an end of an actor is its own by the rows
    own_row : (k : ℕ) (x : Actor) → slice_get actors k ≡ Some x → (r : Role) (n : ℕ) → ActorEnd x r n → (row : QueueRow) × (slice_get rows n ≡ Some row) × (owner_of row r ≡ k)
    own_row k x at r n own = let s = end_seat (scene_of cast) (part_of x) r n (to_part x r n (fits_whole (st.each k) x (st.fits k x at)) own) in
        seated k (part_of x) (ap (λ (c : List Part). slice_get c k) (sym st.parts) ∙ map_get part_of actors k x at) s.0 (record { queue = n; role = r }) s.1

    -- two actors have no end together
    apart : (j k : ℕ) (y x : Actor) → slice_get actors j ≡ Some y → slice_get actors k ≡ Some x → j ≢ k → (r : Role) (n : ℕ) → ActorEnd y r n → ActorEnd x r n → ⊥
    apart j k y x at_y at_x ne r n own other = let a = own_row j y at_y r n own in let b = own_row k x at_x r n other in
        ne (sym a.2 ∙ (ap (λ (w : QueueRow). owner_of w r) (same_some a.0 b.0 (sym a.1 ∙ b.1)) ∙ b.2))

    -- the ends of all: of each queue those of its owner
    abbrev ends : Role → ℕ → End
    ends r n = st.each (option_map_or (λ (row : QueueRow). owner_of row r) (slice_get rows n) 0) r n

    work : AreOfKind rows passed → AreAtWork ends rows actors passed
    work kinds = record {
      fits = λ k x at. fits_beside (st.each k) ends x (λ r n own. (
          let row = own_row k x at r n own in
          ap (λ (j : ℕ). st.each j r n) (ap (λ (o : Option QueueRow). option_map_or (λ (w : QueueRow). owner_of w r) o 0) row.1 ∙ row.2)
          )) (st.fits k x at);
      stands = st.stands;
      hands_over = st.over;
      kinds = kinds;
    }

    told_of : AreOfKind rows passed → (k : ℕ) (x : Actor) → slice_get actors k ≡ Some x → ToldInTurn (scene_of (map part_of actors)) (wild_in (hostiles (map part_of actors)) rows) (names_at passed) x passed
    told_of kinds k x at = told_turns ends rows pools actors passed (subst (IsInPlace rows pools) (sym st.parts) in_place) (work kinds) (subst (λ (c : List Part). ClientsSend rows c passed) (sym st.parts) st.sends) (names_at passed) (λ n is_wild. ([], append-nil (names_at passed n))) k x at

  module _ (actors : List Actor) (passed : Passed) (st : Stands rows cast actors passed) (t : Turn) (turn : IsTurn actors passed t) (kinds : AreOfKind rows passed) (kinds' : AreOfKind rows (with_deed passed t.deed)) where
    abbrev k : ℕ
    k = t.number

    abbrev x : Actor
    x = turn.old

    -- a hostile client's store moves nothing
    own_moves : ActorEnd x (role_of t.deed.event.op) t.deed.event.queue.0 ⊎ (is_store t.deed.event.op ≡ true)
    own_moves = own_or_store x t.deed.event turn.own

    abbrev actors' : List Actor
    actors' = slice_set actors k t.actor

    abbrev passed' : Passed
    passed' = with_deed passed t.deed

    here : (j : ℕ) (y : Actor) → j ≡ k → slice_get actors' j ≡ Some y → y ≡ t.actor
    here j y same at = same_some y t.actor (sym at ∙ (ap (λ (m : ℕ). slice_get actors' m) same ∙ set_there actors k x t.actor turn.there))

    was : (j : ℕ) (y : Actor) → j ≢ k → slice_get actors' j ≡ Some y → slice_get actors j ≡ Some y
    was j y ne at = sym (set_beside actors k j t.actor ne) ∙ at

    parts' : map part_of actors' ≡ map part_of actors
    parts' = map_same actors k x t.actor turn.there turn.part

    abbrev each' : ℕ → Role → ℕ → End
    each' j = if eqb j k then turn.ends else st.each j

    fits' : (j : ℕ) (y : Actor) → slice_get actors' j ≡ Some y → FitsActor (each' j) y
    fits' j y at = ⊎_elim
        (λ same. subst (λ (b : Bool). FitsActor (if b then turn.ends else st.each j) y) (sym same.0) (subst (FitsActor turn.ends) (sym (here j y same.1 at)) turn.fits))
        (λ away. subst (λ (b : Bool). FitsActor (if b then turn.ends else st.each j) y) (sym away.0) (st.fits j y (was j y away.1 at)))
        (eqb_tells j k)

    beside : (j : ℕ) (y : Actor) → j ≢ k → slice_get actors j ≡ Some y → (r : Role) (n : ℕ) → ActorEnd y r n → moved_by t.deed r n ≡ []
    beside j y ne at r n own = by own_moves
      where
        by : ActorEnd x (role_of t.deed.event.op) t.deed.event.queue.0 ⊎ (is_store t.deed.event.op ≡ true) → moved_by t.deed r n ≡ []
        by (inl there_own) = moved_else t.deed r n (λ same there. apart actors passed st j k y x at turn.there ne r n own (subst (λ (z : Role × ℕ). ActorEnd x z.0 z.1) (λ i. (sym same i, sym there i)) there_own))
        by (inr stores) = store_moves t.deed r n stores

    -- the call is at no end of another, but for a store
    aloof : (j : ℕ) (y : Actor) → j ≢ k → slice_get actors j ≡ Some y → ActorEnd y (role_of t.deed.event.op) t.deed.event.queue.0 → is_store t.deed.event.op ≡ true
    aloof j y ne at own = ⊎_elim (λ there. absurd (apart actors passed st j k y x at turn.there ne (role_of t.deed.event.op) t.deed.event.queue.0 own there)) (λ stores. stores) own_moves

    stands' : (j : ℕ) (y : Actor) → slice_get actors' j ≡ Some y → ActorStandsFor y passed'
    stands' j y at = dite (ℕ_discrete j k)
        (λ same. subst (λ (a : Actor). ActorStandsFor a passed') (sym (here j y same at)) (turn.kept passed (st.stands k x turn.there)))
        (λ ne. let at' = was j y ne at in stands_beside passed passed' y (fits_whole (st.each j) y (st.fits j y at')) (alike_more y passed.calls t.deed.event (aloof j y ne at'))
        (λ n own. ap (λ (c : List Cargo). passed.taken n ++ c) (beside j y ne at' Consumer n own) ∙ append-nil (passed.taken n))
        (λ n own. ap (λ (c : List Cargo). passed.sent n ++ c) (beside j y ne at' Producer n own) ∙ append-nil (passed.sent n))
        (st.stands j y at'))

    abbrev ends' : Role → ℕ → End
    ends' r n = each' (option_map_or (λ (row : QueueRow). owner_of row r) (slice_get rows n) 0) r n

    own_row' : (j : ℕ) (y : Actor) → slice_get actors' j ≡ Some y → (r : Role) (n : ℕ) → ActorEnd y r n → (row : QueueRow) × (slice_get rows n ≡ Some row) × (owner_of row r ≡ j)
    own_row' j y at r n own = let s = end_seat (scene_of cast) (part_of y) r n (to_part y r n (fits_whole (each' j) y (fits' j y at)) own) in
        seated j (part_of y) (ap (λ (c : List Part). slice_get c j) (sym (parts' ∙ st.parts)) ∙ map_get part_of actors' j y at) s.0 (record { queue = n; role = r }) s.1

    work' : AreAtWork ends' rows actors' passed'
    work' = record {
      fits = λ j y at. fits_beside (each' j) ends' y (λ r n own. (
          let row = own_row' j y at r n own in
          ap (λ (m : ℕ). each' m r n) (ap (λ (o : Option QueueRow). option_map_or (λ (w : QueueRow). owner_of w r) o 0) row.1 ∙ row.2)
          )) (fits' j y at);
      stands = stands';
      hands_over = turn.hands_over;
      kinds = kinds';
    }

    sends' : ClientsSend rows cast passed'
    sends' = subst (λ (c : List Part). ClientsSend rows c passed') (parts' ∙ st.parts) (sends_on (ends actors passed st) ends' rows actors actors' passed t.deed (subst (IsWired rows) (sym st.parts) wired) parts' (work actors passed st kinds) (subst (λ (c : List Part). ClientsSend rows c passed) (sym st.parts) st.sends) work')

    told' : (j : ℕ) (y : Actor) → slice_get actors' j ≡ Some y → ToldInTurn (scene_of (map part_of actors')) (wild_in (hostiles (map part_of actors')) rows) (names_at passed') y passed'
    told' j y at = told_turns ends' rows pools actors' passed' (subst (IsInPlace rows pools) (sym (parts' ∙ st.parts)) in_place) work' (subst (λ (c : List Part). ClientsSend rows c passed') (sym (parts' ∙ st.parts)) sends') (names_at passed') (λ n is_wild. ([], append-nil (names_at passed' n))) j y at

    -- what it puts are reads and writes, where it is a hostile client of the block class
    asks' : (place : PoolPlace) → IsPlaced rows place cast → RoguesAsk (wild_in (hostiles cast) rows) place passed'
    asks' place placed = subst (λ (c : List Part). RoguesAsk (wild_in (hostiles c) rows) place passed') st.parts (asks_on rows place actors passed t.deed k x t.actor (st.each k)
        (subst (IsPlaced rows place) (sym st.parts) placed) (subst (λ c. AreSeated (sheet (scene_of c)) rows c) (sym st.parts) seated) turn.there (st.fits k x turn.there)
        (λ put. puts put own_moves) kinds' turn.turned (subst (λ (c : List Part). RoguesAsk (wild_in (hostiles c) rows) place passed) (sym st.parts) (st.asks place placed)))
      where
        puts : t.deed.event.op ≡ Do.Put → ActorEnd x (role_of t.deed.event.op) t.deed.event.queue.0 ⊎ (is_store t.deed.event.op ≡ true) → ActorEnd x Producer t.deed.event.queue.0
        puts put (inl own) = subst (λ (o : Op). ActorEnd x (role_of o) t.deed.event.queue.0) put own
        puts put (inr store) = let no : false ≡ true = sym (ap is_store put) ∙ store in absurd cc

    carry' : (place : PoolPlace) → IsPlaced rows place cast → CastCarries rows place actors' (moved_of passed') passed'
    carry' place placed = call_carries rows place actors actors' passed t.deed k (moved_of passed) (moved_of passed') (record {
      placed = subst (IsPlaced rows place) (sym (parts' ∙ st.parts)) placed;
      seated = subst (λ c. AreSeated (sheet (scene_of c)) rows c) (sym (parts' ∙ st.parts)) seated;
      filled = subst (λ c. AreFilled (sheet (scene_of c)) rows c) (sym (parts' ∙ st.parts)) in_place.filled;
      split = split;
      same = parts';
      before = ends actors passed st;
      worked = work actors passed st kinds;
      ends = ends';
      works = work';
      was_told = told_of actors passed st kinds;
      told = told';
      asks = subst (λ c. RoguesAsk (wild_in (hostiles c) rows) place passed') (sym (parts' ∙ st.parts)) (asks' place placed);
      there = t.actor;
      here = set_there actors k x t.actor turn.there;
      own = own_after x t.actor t.deed.event turn.part (fits_whole (st.each k) x (st.fits k x turn.there)) turn.own;
    }) (have_items passed) (have_items passed') (st.carry place placed)

    -- all goes on to hold after the turn
    next : Stands rows cast actors' passed'
    next = record { parts = parts' ∙ st.parts; each = each'; fits = fits'; stands = stands'; over = turn.hands_over; sends = sends'; asks = asks'; carry = carry' }

  -- turn by turn
  held : (turns : List Turn) (actors news : List Actor) (passed last : Passed) → Stands rows cast actors passed → InOrder actors passed turns news last → AreOfKind rows last → Stands rows cast news last
  held [] actors news passed last st order kinds = subst (λ (z : List Actor × Passed). Stands rows cast z.0 z.1) (λ i. (sym order.0 i, sym order.1 i)) st
  held (t ∷ ts) actors news passed last st order kinds =
      let before : AreOfKind rows passed = kinds_before rows passed last (grows actors news passed last (t ∷ ts) order) kinds in
      let after : AreOfKind rows (with_deed passed t.deed) = kinds_before rows (with_deed passed t.deed) last (grows (slice_set actors t.number t.actor) news (with_deed passed t.deed) last ts order.1) kinds in
      held ts (slice_set actors t.number t.actor) news (with_deed passed t.deed) last (next actors passed st t order.0 before after) order.1 kinds

pub have_held : (rows : List QueueRow) (olds news : List Actor) (turns : List Turn) (passed : Passed) → AreReady rows olds → InOrder olds nothing_passed turns news passed → AreOfKind rows passed → HaveHeld rows olds news passed
have_held rows olds news turns passed ready order kinds =
    let cast : List Part = map part_of olds in
    let begin : Stands rows cast olds nothing_passed = record {
      parts = refl;
      each = ready.ends;
      fits = ready.fits;
      stands = ready.stands;
      over = λ n. ([], refl);
      sends = nothing_sent rows cast;
      asks = λ place placed blk there j q at wild. tt;
      carry = λ place placed. record { sent = λ n. refl; taken = λ n. refl; bodies = λ n calm k c at. cc; others = λ n wild k c at. cc };
    } in
    let st = held rows ready.pools cast ready.in_place ready.split turns olds news nothing_passed passed begin order kinds in record {
      parts = st.parts;
      stands = st.stands;
      in_turn = told_of rows ready.pools cast ready.in_place ready.split news passed st kinds;
      sends = subst (λ (c : List Part). ClientsSend rows c passed) (sym st.parts) st.sends;
      asks = λ place placed. subst (λ (c : List Part). RoguesAsk (wild_in (hostiles c) rows) place passed) (sym st.parts) (st.asks place (subst (IsPlaced rows place) st.parts placed));
      carry = λ place placed m items. (
          let has = st.carry place (subst (IsPlaced rows place) st.parts placed) in
          let same : moved_of passed ≡ m = (λ i. record { sent = λ n. items.sent n i; taken = λ n. items.taken n i; noes = λ r n. items.noes r n i }) in
          subst (λ (z : Moved). CastCarries rows place news z passed) same has
          );
    }
