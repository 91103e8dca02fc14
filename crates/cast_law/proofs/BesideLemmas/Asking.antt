-- What a hostile client of the block class puts are requests that move blocks, call by call.
use Rattle.std.proofs.Common.{◌≡◌, ◌⊎◌, ◌==◌, ◌+◌, ◌*◌, ◌++◌, ℕ, Bool, true, false, Option, Some, None, List, [], ◌∷◌, length, map, slice_get, refl, sym, ap, ◌∙◌, subst, inl, inr}
use Rattle.std.proofs.lemmas.Bool.{eqb-true}
use Rattle.cargo_core.specs.Items.{kind_of}
use Rattle.cargo_core.specs.declared.act.Act.{Act}
use Rattle.cargo_core.specs.declared.act.Act.TheVariants as Acts
use Rattle.cargo_core.specs.declared.item.Body.{Body}
use Rattle.cargo_core.specs.declared.item.Item.{Item}
use Rattle.cargo_core.specs.declared.item.QueueKind.{QueueKind}
use Rattle.cargo_core.specs.declared.item.QueueKind.TheVariants as Kind
use Rattle.wire_core.specs.declared.names.Op.{Op}
use Rattle.wire_core.specs.declared.names.Op.TheVariants as Do
use Rattle.wire_core.specs.declared.names.Event.{Event}
use Rattle.wire_core.specs.declared.names.QueueId.{QueueId}
use Rattle.wire_core.specs.declared.names.QueueRow.{QueueRow}
use Rattle.wire_core.specs.Deeds.{Cargo, Deed, joined}
use Rattle.wire_core.specs.Ends.{Role, End, Producer}
use Rattle.wire_core.specs.Journal.{owner_of}
use Rattle.wire_core.proofs.Sinces.{eqb_refl}
use Rattle.wire_core.specs.Lists.{Passed, if_put, if_there, put_by, with_deed}
use Rattle.play_core.specs.Manners.{Calm}
use Rattle.play_core.specs.Moved.{Seat}
use Rattle.play_core.specs.Names.{wild_in}
use Rattle.play_core.specs.Sheets.{AreSeated}
use Rattle.play_core.specs.Wants.{outlet}
use Rattle.play_core.proofs.Lists.{map_get, some_is}
use Rattle.owner_law.specs.Pools.Places.{PoolAt}
use Rattle.blk_law.specs.Sheets.Numbers.{BlkPlace}
use Rattle.blk_virt.specs.Requests.{moves_blocks, request_of}
use Rattle.client_programs.specs.declared.rogue.Rogue.{Rogue}
use Rattle.client_programs.specs.Rogue.Acts.{IsNextOf, item_for, next_acts}
use Rattle.client_programs.specs.Rogue.Clients.{can_put, ends_of, left_of}
use Rattle.wired_law.specs.PageLaw.WildPages.Rounds.{AllMove}
use Rattle.actor_set.specs.Parts.{HostilePart, Part, RoguePart}
use Rattle.actor_set.specs.Actors.{ActorEnd, ActorTurned, FitsActor, part_of}
use Rattle.actor_set.specs.declared.actor.Actor.{Actor}
use Rattle.actor_set.specs.declared.actor.Actor.TheVariants as Kinds
use Rattle.actor_set.specs.Laws.Kinds.{hostiles, manner_of, scene_of, sheet}
use Rattle.actor_set.proofs.LawsLemmas.PartEnds.{end_seat, to_part}
use Rattle.actor_set.proofs.LawsLemmas.Rounds.{acted_is, calm_or_rogue}
use Rattle.actor_set.proofs.LawsLemmas.Starts.{fits_whole}
use Rattle.wired_law.specs.Wiring.{AreOfKind}
use Rattle.cast_law.specs.Pools.Beside.{RoguesAsk}
use Rattle.cast_law.specs.Pools.Places.{IsPlaced, PoolPlace}
use Rattle.cast_law.specs.Pools.Rogues.{IsBlkRogue}

-- where the first move, and so does all that is added, all do
all_move : (xs ys : List Cargo) → AllMove xs → AllMove ys → AllMove (xs ++ ys)
all_move [] ys first more = more
all_move (x ∷ xs) ys first more = (first.0, all_move xs ys first.1 more)

-- what is put at a queue does where its item does
put_moves : (b : Bool) (o : Op) (item : Option Item) (body : Option Body) → (b ≡ true → o ≡ Do.Put → (i : Item) → item ≡ Some i → (c : Body) → body ≡ Some c → moves_blocks (request_of i).code ≡ true) → AllMove (if_there b (if_put o (joined item body)))
put_moves false o item body each = tt
put_moves true Do.Put (Some i) (Some c) each = (each refl refl i refl c refl, tt)
put_moves true Do.Put (Some i) None each = tt
put_moves true Do.Put None body each = tt
put_moves true Do.Take item body each = tt
put_moves true Do.See item body each = tt
put_moves true Do.Room item body each = tt
put_moves true (Do.Ask s) item body each = tt
put_moves true (Do.Waive s) item body each = tt
put_moves true (Do.Wake s) item body each = tt
put_moves true (Do.Wanted s) item body each = tt
put_moves true (Do.Settle s) item body each = tt
put_moves true (Do.Ring s) item body each = tt
put_moves true (Do.Store w v) item body each = tt

last_there : (xs : List Cargo) (c : Cargo) → slice_get (xs ++ c ∷ []) (length xs) ≡ Some c
last_there [] c = refl
last_there (x ∷ xs) c = last_there xs c

-- a call that isn't a put
other : (e : Event) (o : Op) → e.op ≡ o → e.op ≡ Do.Put → o ≡ Do.Put
other e o is put = sym is ∙ put

-- a hostile client puts the item that its act tells
put_for : (kind : QueueKind) (ends : List QueueId) (looked : Bool) (acts : List Act) (e : Event) → IsNextOf kind ends looked acts e → e.op ≡ Do.Put → (a : ℕ) × (l : ℕ) × (e.item ≡ Some (item_for kind a l))
put_for kind ends looked [] e h put = absurd h
put_for kind ends true (Acts.Take k ∷ xs) e h put = let no = other e Do.Take h.op put in absurd cc
put_for kind ends false (Acts.Take k ∷ xs) e h put = let no = other e Do.See h.op put in absurd cc
put_for kind ends true (Acts.Put k a l ∷ xs) e h put = (a, l, h.item)
put_for kind ends false (Acts.Put k a l ∷ xs) e h put = let no = other e Do.Room h.op put in absurd cc
put_for kind ends true (Acts.Give k p a l ∷ xs) e h put = (a, l, h.item)
put_for kind ends false (Acts.Give k p a l ∷ xs) e h put = let no = other e Do.Room h.op put in absurd cc
put_for kind ends looked (Acts.Store k w v ∷ xs) e h put = let no = other e (Do.Store w v) h.op put in absurd cc

-- which is of its kind
its_kind : (kind : QueueKind) (a l : ℕ) → can_put kind ≡ true → kind_of (item_for kind a l) ≡ kind
its_kind Kind.Net a l can = refl
its_kind Kind.Byte a l can = refl
its_kind Kind.Req a l can = refl
its_kind Kind.Resp a l can = cc

-- in a cast in place, the actor of a number made a call; it puts at ends of its own alone, and what
-- was put by then is of the queues' kinds
module _ (rows : List QueueRow) (place : PoolPlace) (actors : List Actor) (passed : Passed) (d : Deed) (k : ℕ) (x x' : Actor) (ends : Role → ℕ → End)
    (placed : IsPlaced rows place (map part_of actors)) (seated : AreSeated (sheet (scene_of (map part_of actors))) rows (map part_of actors)) (here : slice_get actors k ≡ Some x) (fits : FitsActor ends x)
    (own : d.event.op ≡ Do.Put → ActorEnd x Producer d.event.queue.0) (kinds : AreOfKind rows (with_deed passed d)) (turned : ActorTurned x d.event x') where
  abbrev cast : List Part
  cast = map part_of actors

  abbrev n : ℕ
  n = d.event.queue.0

  here_part : slice_get cast k ≡ Some (part_of x)
  here_part = map_get part_of actors k x here

  -- the row says that the end is its own
  mine : (row : QueueRow) → slice_get rows n ≡ Some row → d.event.op ≡ Do.Put → owner_of row Producer ≡ k
  mine row there put =
      let e = end_seat (scene_of cast) (part_of x) Producer n (to_part x Producer n (fits_whole ends x fits) (own put)) in
      let seat = seated k (part_of x) here_part e.0 (outlet n) e.1 in
      ap (λ (r : QueueRow). owner_of r Producer) (some_is (sym there ∙ seat.1)) ∙ seat.2

  -- what is put is of the queue's kind
  of_kind : (row : QueueRow) → slice_get rows n ≡ Some row → d.event.op ≡ Do.Put → (i : Item) → d.event.item ≡ Some i → (c : Body) → d.body ≡ Some c → kind_of i ≡ row.kind
  of_kind row there put i item c body =
      let moved : put_by d n ≡ (i, c) ∷ [] = ap (λ (b : Bool). if_there b (if_put d.event.op (joined d.event.item d.body))) (eqb_refl n) ∙ (λ j. if_put (put j) (joined (item j) (body j))) in
      kinds n row there (length (passed.sent n)) (i, c) (ap (λ (cs : List Cargo). slice_get (passed.sent n ++ cs) (length (passed.sent n))) moved ∙ last_there (passed.sent n) (i, c))

  -- a hostile client's put at a queue of requests moves blocks
  by_rogue : (r : Rogue) → x ≡ Kinds.Rogue r → d.event.op ≡ Do.Put → (i : Item) → d.event.item ≡ Some i → kind_of i ≡ Kind.Req → moves_blocks (request_of i).code ≡ true
  by_rogue r is put i item req =
      let acted = acted_is r d.event x' (subst (λ y. ActorTurned y d.event x') is turned) in
      let fit = subst (FitsActor ends) is fits in
      let f = put_for r.kind (ends_of r) r.looked (next_acts (left_of r).kept (left_of r).acts) d.event acted.2.next put in
      let i_is : i ≡ item_for r.kind f.0 f.1 = some_is (sym item ∙ f.2) in
      let kind : r.kind ≡ Kind.Req = sym (its_kind r.kind f.0 f.1 fit.is.kind) ∙ (ap kind_of (sym i_is) ∙ req) in
      subst (λ (j : Item). moves_blocks (request_of j).code ≡ true) (sym i_is) (subst (λ (z : QueueKind). moves_blocks (request_of (item_for z f.0 f.1)).code ≡ true) (sym kind) refl)

  -- so does what is put where one of the block class stands
  its : (blk : BlkPlace) (j : ℕ) (q : PoolAt) (h : ℕ) (p : RoguePart) → slice_get cast h ≡ Some (HostilePart p) → IsBlkRogue rows blk j q p → n ≡ blk.first + 4 + 2 * j → d.event.op ≡ Do.Put → (i : Item) → d.event.item ≡ Some i → (c : Body) → d.body ≡ Some c → moves_blocks (request_of i).code ≡ true
  its blk j q h p at is queue put i item c body =
      let out : slice_get (sheet (scene_of cast) (HostilePart p)).ends 1 ≡ Some (outlet n) = rw (is.inputs, is.outputs, queue) refl in
      let seat = seated h (HostilePart p) at 1 (outlet n) out in
      let part : part_of x ≡ HostilePart p = some_is (sym here_part ∙ (ap (slice_get cast) (sym (mine seat.0 seat.1 put) ∙ seat.2) ∙ at)) in
      by seat.0 seat.1 part (calm_or_rogue x)
    where
      by : (row : QueueRow) → slice_get rows n ≡ Some row → part_of x ≡ HostilePart p → (manner_of (part_of x) ≡ Calm) ⊎ ((r : Rogue) × (x ≡ Kinds.Rogue r)) → moves_blocks (request_of i).code ≡ true
      by row there part (inl calm) = absurd (let no = sym calm ∙ ap manner_of part in cc)
      by row there part (inr r) = by_rogue r.0 r.1 put i item (of_kind row there put i item c body ∙ is.puts row (ap (slice_get rows) (sym queue) ∙ there))

  -- hostile clients of the block class go on to ask for reads and writes alone
  pub asks_on : RoguesAsk (wild_in (hostiles cast) rows) place passed → RoguesAsk (wild_in (hostiles cast) rows) place (with_deed passed d)
  asks_on asked blk there j q q_at wild =
      let r = placed.rogues.blk blk there j q q_at wild in
      let m : ℕ = blk.first + 4 + 2 * j in
      all_move (passed.sent m) (put_by d m) (asked blk there j q q_at wild) (put_moves (n == m) d.event.op d.event.item d.body (λ same put i item c body. its blk j q r.0 r.1 r.2 r.3 (eqb-true n m same) put i item c body))
