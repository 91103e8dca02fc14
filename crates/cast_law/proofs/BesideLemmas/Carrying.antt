-- Entries that carry what is named beside hostile clients do so after a call of an actor.
use Rattle.std.proofs.Common.{◌≡◌, ◌≢◌, ◌⊎◌, ◌==◌, ◌+◌, ◌*◌, ◌++◌, ◌<◌, ◌≤◌, ℕ, Bool, true, false, Option, Some, List, [], ◌∷◌, append-nil, length, map, slice_get, refl, sym, ap, ◌∙◌, subst, arith, inl, inr}
use Rattle.std.proofs.Math.Dec.{eqb}
use Rattle.std.proofs.lemmas.Bool.Decides.{eqb_tells}
use Rattle.std.proofs.lemmas.List.{length-map}
use Rattle.cargo_core.specs.declared.item.Item.{Item}
use Rattle.wire_core.specs.declared.names.Op.{Op}
use Rattle.wire_core.specs.declared.names.Op.TheVariants as Do
use Rattle.wire_core.specs.declared.names.QueueRow.{QueueRow}
use Rattle.wire_core.specs.Deeds.{Cargo, Deed, cargo_of}
use Rattle.wire_core.specs.Ends.{Role, Consumer, role_of}
use Rattle.wire_core.specs.Journal.{owner_of}
use Rattle.wire_core.specs.Lists.{Passed, if_put, if_there, put_by, with_deed}
use Rattle.wire_core.specs.Queues.{is_store, items_of}
use Rattle.play_core.specs.Moved.{Moved, Seat}
use Rattle.play_core.specs.Names.{Wild, wild_in}
use Rattle.play_core.specs.Rests.Showing.{HaveItems}
use Rattle.play_core.specs.Wants.{intake, outlet}
use Rattle.play_core.proofs.Lists.{map_get, some_is, there_below}
use Rattle.owner_law.specs.Things.{Answers, Buffers, Frames, Leases, Names, Naming, NoBuffers, Returns, Whole, Window, as_buffer, buffer_of, requests_of, thing_at, thing_of}
use Rattle.owner_law.specs.Pages.{CarryPages}
use Rattle.owner_law.specs.Pools.Handing.{AllCarry}
use Rattle.owner_law.proofs.Carrying.{get_first}
use Rattle.actor_set.specs.Parts.{Part}
use Rattle.actor_set.specs.Actors.{ActorEnd, part_of}
use Rattle.actor_set.specs.declared.actor.Actor.{Actor}
use Rattle.actor_set.specs.Laws.Kinds.{AllCalm, hostiles, scene_of, sheet}
use Rattle.actor_set.proofs.LawsLemmas.PartEnds.{end_seat, to_part}
use Rattle.actor_set.proofs.LawsLemmas.Starts.{fits_whole}
use Rattle.actor_set.proofs.LawsLemmas.Told.{none_wild}
use Rattle.cast_law.specs.Pools.Beside.{CarryBeside, CastCarries, IsCallAmong, RoguesAsk, is_rogues}
use Rattle.cast_law.specs.Pools.Places.{IsPlaced, PoolPlace, cast_naming}
use Rattle.cast_law.proofs.BesideLemmas.Around.{Around, answers_few, off}
use Rattle.cast_law.proofs.BesideLemmas.Hands.{Takes, each_puts}
use Rattle.cast_law.proofs.BesideLemmas.Naming.{at_calm}
use Rattle.cast_law.proofs.BesideLemmas.Rounds.{none_after}

-- where nobody is hostile all entries carry what is named
pub plain_carries : (rows : List QueueRow) (place : PoolPlace) (actors : List Actor) (m : Moved) (passed : Passed) → AllCalm (map part_of actors) → CastCarries rows place actors m passed → CarryPages (cast_naming (scene_of (map part_of actors)) place) m passed
plain_carries rows place actors m passed calm carried = record { sent = carried.sent; taken = carried.taken; bodies = λ n k c at b. carried.bodies n (none_wild (map part_of actors) calm rows n) k c at b }

-- and the other way round; of hostile clients nothing is asked then
pub beside_carries : (rows : List QueueRow) (place : PoolPlace) (actors : List Actor) (m : Moved) (passed : Passed) → AllCalm (map part_of actors) → CarryPages (cast_naming (scene_of (map part_of actors)) place) m passed → CastCarries rows place actors m passed
beside_carries rows place actors m passed calm carried = record {
  sent = carried.sent;
  taken = carried.taken;
  bodies = λ n quiet k c at b. carried.bodies n k c at b;
  others = λ n wild k c at b off. absurd (let none = none_wild (map part_of actors) calm rows n in cc);
}

pub calm_asks : (rows : List QueueRow) (place : PoolPlace) (cast : List Part) (passed : Passed) → AllCalm cast → RoguesAsk (wild_in (hostiles cast) rows) place passed
calm_asks rows place cast passed calm blk here k q at is = absurd (let none = none_wild cast calm rows (blk.first + 4 + 2 * k) in cc)

-- an entry that stands among the first stands there still
get_before : (xs ys : List Cargo) (k : ℕ) → k < length xs → slice_get (items_of (xs ++ ys)) k ≡ slice_get (items_of xs) k
get_before [] ys k lt = absurd (omega (arith, lt))
get_before (x ∷ xs) ys Rattle.std.proofs.Common.zero lt = refl
get_before (x ∷ xs) ys (Rattle.std.proofs.Common.suc k) lt = get_before xs ys k (omega (arith, lt))

puts_or_not : (o : Op) → (o ≡ Do.Put) ⊎ ((c : List Cargo) → if_put o c ≡ [])
puts_or_not Do.Put = inl refl
puts_or_not Do.Take = inr (λ c. refl)
puts_or_not Do.See = inr (λ c. refl)
puts_or_not Do.Room = inr (λ c. refl)
puts_or_not (Do.Ask s) = inr (λ c. refl)
puts_or_not (Do.Waive s) = inr (λ c. refl)
puts_or_not (Do.Wake s) = inr (λ c. refl)
puts_or_not (Do.Wanted s) = inr (λ c. refl)
puts_or_not (Do.Settle s) = inr (λ c. refl)
puts_or_not (Do.Ring s) = inr (λ c. refl)
puts_or_not (Do.Store w v) = inr (λ c. refl)

there_or_not : (b : Bool) (c : List Cargo) → c ≡ [] → if_there b c ≡ []
there_or_not true c h = h
there_or_not false c h = refl

no_store : (o : Op) → o ≡ Do.Put → is_store o ≡ true → ⊥
no_store o put is = let e : is_store o ≡ false = ap is_store put in cc

module _ (rows : List QueueRow) (place : PoolPlace) (olds news : List Actor) (passed : Passed) (d : Deed) (k : ℕ) (m m' : Moved) (call : IsCallAmong rows place olds news passed d k) (was : HaveItems passed m) (items : HaveItems (with_deed passed d) m') (carried : CastCarries rows place olds m passed) where
  abbrev after : Passed
  after = with_deed passed d

  abbrev parts : List Part
  parts = map part_of news

  abbrev w : Wild
  w = wild_in (hostiles parts) rows

  abbrev named : Naming
  named = cast_naming (scene_of parts) place

  abbrev q : ℕ
  q = d.event.queue.0

  abbrev x : Actor
  x = call.there

  abbrev a : Around rows place news after m'
  a = record { placed = call.placed; seated = call.seated; filled = call.filled; ends = call.ends; work = call.works; told = call.told; items = items }

  abbrev here_ : Naming
  here_ = off rows place news after m' a

  abbrev before : Around rows place olds passed m
  before = record {
    placed = subst (IsPlaced rows place) call.same call.placed;
    seated = subst (λ c. Rattle.play_core.specs.Sheets.AreSeated (sheet (scene_of c)) rows c) call.same call.seated;
    filled = subst (λ c. Rattle.play_core.specs.Sheets.AreFilled (sheet (scene_of c)) rows c) call.same call.filled;
    ends = call.before;
    work = call.worked;
    told = call.was_told;
    items = was;
  }

  had : CarryBeside w (is_rogues w place) named m passed
  had = subst (λ c. CarryBeside (wild_in (hostiles c) rows) (is_rogues (wild_in (hostiles c) rows) place) (cast_naming (scene_of c) place) m passed) (sym call.same) carried

  asked : (n r : ℕ) (ws : List Window) → named n ≡ Answers r ws → length (m.sent n) ≤ length (m.sent r)
  asked = subst (λ c. (n r : ℕ) (ws : List Window) → cast_naming (scene_of c) place n ≡ Answers r ws → length (m.sent n) ≤ length (m.sent r)) (sym call.same) (answers_few rows place olds passed m before place.blk before.placed.blk)

  sent_many : (n : ℕ) → length (m.sent n) ≡ length (passed.sent n)
  sent_many n = ap length (sym (was.sent n)) ∙ length-map (passed.sent n) (λ (c : Cargo). c.0)

  -- an earlier entry names what it named
  thing_still : (n j : ℕ) (i : Item) → j < length (passed.sent n) → thing_at (named n) (requests_of (named n) m) j i ≡ thing_at (named n) (requests_of (named n) m') j i
  thing_still n j i lt = by (named n) refl
    where
      by : (names : Names) → named n ≡ names → thing_at names (requests_of names m) j i ≡ thing_at names (requests_of names m') j i
      by NoBuffers is = refl
      by (Buffers ws) is = refl
      by (Frames ws receivers) is = refl
      by (Leases ws) is = refl
      by (Returns ws) is = refl
      by (Answers r ws) is =
          let enough : j < length (passed.sent r) = omega (arith, lt, asked n r ws is, sent_many n, sent_many r) in
          let same : slice_get (m'.sent r) j ≡ slice_get (m.sent r) j =
          ap (λ xs. slice_get xs j) (sym (items.sent r)) ∙ (get_before (passed.sent r) (put_by d r) j enough ∙ ap (λ xs. slice_get xs j) (was.sent r)) in
          ap (λ o. thing_of Whole (Rattle.std.specs.Option.option_and_then (buffer_of ws) o)) (sym same)

  still : (n : ℕ) → w n ≡ false → after.sent n ≡ passed.sent n → AllCarry here_ m' n (after.sent n)
  still n wn same j c at b =
      let there : slice_get (passed.sent n) j ≡ Some c = ap (λ xs. slice_get xs j) (sym same) ∙ at in
      had.bodies n wn j c there b ∙ (ap (as_buffer b) (thing_still n j c.0 (there_below (passed.sent n) j c there)) ∙ ap (λ names. as_buffer b (thing_at names (requests_of names m') j c.0)) (sym (at_calm named w n wn)))

  unchanged : (n : ℕ) → if_there (q == n) (if_put d.event.op (cargo_of d)) ≡ [] → after.sent n ≡ passed.sent n
  unchanged n none = ap (λ ys. passed.sent n ++ ys) none ∙ append-nil (passed.sent n)

  x_at : slice_get parts k ≡ Some (part_of x)
  x_at = map_get part_of news k x call.here

  -- what it took is of queues to which it puts nothing
  takes : (i : ℕ) → slice_get (sheet (scene_of parts) (part_of x)).ends i ≡ Some (outlet q) → Takes rows place news after m' a (part_of x)
  takes i there j s at consumer ws h c c_at =
      let role : s ≡ record { queue = s.queue; role = Consumer } = by s consumer in
      let apart : q ≡ s.queue → ⊥ = λ e. split s.queue (at ∙ ap Some role) (there ∙ ap (λ n. Some (outlet n)) e) in
      let pre = call.works.hands_over s.queue in
      let first : slice_get (after.sent s.queue) h ≡ Some c = ap (λ xs. slice_get xs h) (sym pre.1) ∙ get_first (after.taken s.queue) pre.0 h c c_at in
      still s.queue ws (unchanged s.queue (away apart (eqb_tells q s.queue))) h c first
    where
      by : (s_ : Seat) → s_.role ≡ Consumer → s_ ≡ record { queue = s_.queue; role = Consumer }
      by s_ e = ap (λ (r : Role). let y : Seat = record { queue = s_.queue; role = r } in y) e

      split : (n : ℕ) → slice_get (sheet (scene_of parts) (part_of x)).ends j ≡ Some (intake n) → slice_get (sheet (scene_of parts) (part_of x)).ends i ≡ Some (outlet n) → ⊥
      split n ins outs =
          let one = call.seated k (part_of x) x_at j (intake n) ins in
          let two = call.seated k (part_of x) x_at i (outlet n) outs in
          let same : one.0 ≡ two.0 = some_is (sym one.1 ∙ two.1) in
          call.split n two.0 two.1 (two.2 ∙ (sym one.2 ∙ ap (λ r. owner_of r Consumer) same))

      away : (q ≡ s.queue → ⊥) → ((eqb q s.queue ≡ true) × (q ≡ s.queue)) ⊎ ((eqb q s.queue ≡ false) × (q ≢ s.queue)) → if_there (q == s.queue) (if_put d.event.op (cargo_of d)) ≡ []
      away apart (inl e) = absurd (apart e.1)
      away apart (inr e) = ap (λ b. if_there b (if_put d.event.op (cargo_of d))) e.0

  all_carry : (n : ℕ) → w n ≡ false → AllCarry here_ m' n (after.sent n)
  all_carry n wn = by (eqb_tells q n) (puts_or_not d.event.op) call.own
    where
      by : ((eqb q n ≡ true) × (q ≡ n)) ⊎ ((eqb q n ≡ false) × (q ≢ n)) → (d.event.op ≡ Do.Put) ⊎ ((c : List Cargo) → if_put d.event.op c ≡ []) → ActorEnd x (role_of d.event.op) d.event.queue.0 ⊎ (is_store d.event.op ≡ true) → AllCarry here_ m' n (after.sent n)
      by (inr h) e o = still n wn (unchanged n (ap (λ b. if_there b (if_put d.event.op (cargo_of d))) h.0))
      by (inl h) (inr none) o = still n wn (unchanged n (there_or_not (q == n) (if_put d.event.op (cargo_of d)) (none (cargo_of d))))
      by (inl h) (inl put) (inr stores) = absurd (no_store d.event.op put stores)
      by (inl h) (inl put) (inl own) =
          let seat = end_seat (scene_of parts) (part_of x) (role_of d.event.op) q (to_part x (role_of d.event.op) q (fits_whole call.ends x (call.works.fits k x call.here)) own) in
          let out : slice_get (sheet (scene_of parts) (part_of x)).ends seat.0 ≡ Some (outlet q) = seat.1 ∙ ap (λ o. let y : Seat = record { queue = q; role = role_of o } in Some y) put in
          subst (λ r. AllCarry here_ m' r (after.sent r)) h.1 (each_puts rows place news after m' a call.asks k x call.here (takes seat.0 out) seat.0 (outlet q) out refl (ap w h.1 ∙ wn))

  pub call_carries : CastCarries rows place news m' after
  call_carries = record {
    sent = λ n. sym (items.sent n);
    taken = λ n. sym (items.taken n);
    bodies = λ n wn j c at b. all_carry n wn j c at b ∙ ap (λ names. as_buffer b (thing_at names (requests_of names m') j c.0)) (at_calm named w n wn);
    others = λ n wn j c at b apart. none_after rows place news passed d m' a b apart call.worked.hands_over all_carry (λ r wr i e e_at. had.others r wr i e e_at b apart) call.asks n wn j c at;
  }
