-- A cast at work in which some clients may be hostile: what items name at an actor's queues, and that
-- no more is answered than asked.
use Rattle.std.proofs.Common.{◌≡◌, ◌+◌, ◌*◌, ◌<◌, ◌≤◌, ℕ, Bool, true, false, cond, Option, None, Some, List, [], ◌∷◌, length, map, slice_get, refl, sym, ap, ◌∙◌, subst, arith, inl, inr}
use Rattle.std.proofs.lemmas.List.{length-map}
use Rattle.cargo_core.specs.Items.{kind_of}
use Rattle.cargo_core.specs.Lists.{IsPrefix}
use Rattle.cargo_core.specs.declared.item.Item.{Item}
use Rattle.cargo_core.specs.declared.item.QueueKind.TheVariants as Kind
use Rattle.wire_core.specs.declared.names.QueueRow.{QueueRow}
use Rattle.wire_core.specs.Deeds.{Cargo}
use Rattle.wire_core.specs.Ends.{Role, End}
use Rattle.wire_core.specs.Lists.{Passed}
use Rattle.play_core.specs.Manners.{Calm}
use Rattle.play_core.specs.Moved.{Moved}
use Rattle.play_core.specs.Names.{Wild, names_at, wild_in}
use Rattle.play_core.specs.Rests.Showing.{HaveItems}
use Rattle.play_core.specs.Sheets.{AreFilled, AreSeated, Scene}
use Rattle.play_core.proofs.Lists.{map_from, there_is}
use Rattle.play_core.proofs.Walks.{begins_few}
use Rattle.owner_law.specs.Things.{Answers, NoBuffers, Naming, Window}
use Rattle.owner_law.specs.Pools.Places.{PoolAt, own_pool}
use Rattle.net_law.specs.Parts.Parts.{Way}
use Rattle.net_law.proofs.PartsLemmas.Leasing.{prefix_get}
use Rattle.blk_law.specs.Sheets.Numbers.{BlkPlace, disk_at, blk_driver_at, virt_at, blk_client_at}
use Rattle.blk_law.specs.Sheets.Parts.{Sharer}
use Rattle.blk_law.specs.Sheets.Rows.{answer_item, AsksInOrder}
use Rattle.blk_law.specs.Owners.Answering.{IsInOrder}
use Rattle.blk_virt.specs.declared.virtualiser.BlkVirt.{BlkVirt}
use Rattle.blk_virt.proofs.Rows.{row_of as server_row}
use Rattle.blk_quiet.proofs.CastLemmas.Numbers.{virt_queues}
use Rattle.blk_quiet.proofs.PoolsLemmas.Sizing.{IsAnswer}
use Rattle.cargo_core.specs.declared.item.Ask.{Ask}
use Rattle.actor_set.specs.Parts.{Part, BlockPart}
use Rattle.actor_set.specs.Actors.{part_of}
use Rattle.actor_set.specs.declared.actor.Actor.{Actor}
use Rattle.actor_set.specs.declared.actor.Actor.TheVariants as Kinds
use Rattle.actor_set.specs.Laws.Kinds.{hostiles, manner_of, scene_of, sheet}
use Rattle.actor_set.specs.Laws.Scenes.{told_sheet}
use Rattle.actor_set.proofs.LawsLemmas.ToldRows.{told_row}
use Rattle.wired_law.specs.Wiring.{AreAtWork, HasBlk, HasPart}
use Rattle.wired_law.proofs.Acting.{virt_actor}
use Rattle.cast_law.specs.Pools.Beside.{AllTold}
use Rattle.cast_law.specs.Pools.Holders.{NamesAt, TakesNet}
use Rattle.cast_law.specs.Pools.Places.{HasBlkAt, IsPlaced, PoolPlace, behind, cast_naming, first_naming}
use Rattle.cast_law.proofs.PoolsLemmas.Calmed.{Calmed, IsLike, calmed}
use Rattle.cast_law.proofs.PoolsLemmas.Naming.{names_at as names_of_part, takes_net}
use Rattle.cast_law.proofs.PoolsLemmas.Ordering.{answers_behind, asked_kind, no_answer}
use Rattle.cast_law.proofs.PoolsLemmas.Blocks.{sharer_there}
use Rattle.cast_law.proofs.PoolsLemmas.Playing.{begins_too}
use Rattle.cast_law.proofs.BesideLemmas.Naming.{off_wild, AllCalmEnds}
use Rattle.cast_law.proofs.BesideLemmas.Queues.{IsServing, blk_wild, serves_wild}
use Rattle.cast_law.proofs.BesideLemmas.Serving.{few_back}

-- actors at work in place, by whose items this was put and taken
pub record Around (rows : List QueueRow) (place : PoolPlace) (actors : List Actor) (passed : Passed) (m : Moved) : Type 0 where
  pub placed : IsPlaced rows place (map part_of actors)
  pub seated : AreSeated (sheet (scene_of (map part_of actors))) rows (map part_of actors)
  pub filled : AreFilled (sheet (scene_of (map part_of actors))) rows (map part_of actors)
  pub ends : Role → ℕ → End
  pub work : AreAtWork ends rows actors passed
  pub told : AllTold rows actors passed
  pub items : HaveItems passed m

module _ (rows : List QueueRow) (place : PoolPlace) (actors : List Actor) (passed : Passed) (m : Moved) (a : Around rows place actors passed m) where
  abbrev pub cast : List Part
  cast = map part_of actors

  abbrev pub scene : Scene
  scene = scene_of cast

  abbrev pub wild : Wild
  wild = wild_in (hostiles cast) rows

  abbrev pub naming : Naming
  naming = cast_naming scene place

  abbrev pub off : Naming
  off = off_wild naming wild

  pub quiet : Calmed rows place.net place.blk cast
  quiet = calmed rows place.net place.blk cast a.placed.net a.placed.blk a.placed.rogues a.seated

  -- an actor that isn't hostile plays the same part there
  pub as_calm : (k : ℕ) (p : Part) → slice_get cast k ≡ Some p → manner_of p ≡ Calm → slice_get quiet.parts k ≡ Some p
  as_calm k p at calm = let x = quiet.like k p at in by x.0 x.1 x.2
    where
      by : (q : Part) → slice_get quiet.parts k ≡ Some q → IsLike rows place.net place.blk p q → slice_get quiet.parts k ≡ Some p
      by q q_at (inl (c, e)) = q_at ∙ ap Some e
      by q q_at (inr (r, e, f)) = absurd (let same = sym calm ∙ ap manner_of e in cc)

  pub part_names : (k : ℕ) (p : Part) → slice_get cast k ≡ Some p → manner_of p ≡ Calm → NamesAt naming scene p
  part_names k p at calm = subst (λ z. NamesAt (cast_naming z place) z p) quiet.scene (names_of_part rows quiet.parts quiet.calm quiet.seated place.net place.blk quiet.net quiet.blk k p (as_calm k p at calm))

  -- for a hostile one those of its calm client
  pub stand_names : (k : ℕ) (p : Part) → slice_get quiet.parts k ≡ Some p → NamesAt naming scene p
  stand_names k p at = subst (λ z. NamesAt (cast_naming z place) z p) quiet.scene (names_of_part rows quiet.parts quiet.calm quiet.seated place.net place.blk quiet.net quiet.blk k p at)

  pub like_there : (k : ℕ) (p : Part) → slice_get cast k ≡ Some p → (q : Part) × (slice_get quiet.parts k ≡ Some q) × IsLike rows place.net place.blk p q
  like_there = quiet.like

  pub actor_takes : (k : ℕ) (x : Actor) → slice_get cast k ≡ Some (part_of x) → manner_of (part_of x) ≡ Calm → TakesNet x passed
  actor_takes k x at calm = takes_net rows quiet.parts quiet.calm quiet.seated place.net place.blk quiet.net quiet.blk passed a.work.kinds a.work.hands_over k x (as_calm k (part_of x) at calm)

  pub over : (q : ℕ) → IsPrefix (m.taken q) (m.sent q)
  over q = begins_too (m.taken q) (m.sent q) (passed.taken q) (passed.sent q) (sym (a.items.taken q)) (sym (a.items.sent q)) (a.work.hands_over q)

  -- an end of an actor that serves no hostile client
  pub calm_end : (k : ℕ) (p : Part) → slice_get cast k ≡ Some p → manner_of p ≡ Calm → (IsServing rows place.net place.blk cast a.placed.net a.placed.blk a.placed.rogues a.seated a.filled p → ⊥) → AllCalmEnds naming wild (sheet scene p).ends
  calm_end k p at calm aloof i s end = by (wild s.queue) refl
    where
      by : (t : Bool) → wild s.queue ≡ t → t ≡ false
      by false e = refl
      by true e = absurd (aloof (serves_wild rows place.net place.blk cast a.placed.net a.placed.blk a.placed.rogues a.seated a.filled k p at calm i s end e))

  -- what the rows of parts say
  row_for : (p : Part) → HasPart cast p → (told_sheet scene wild (names_at passed) p).row m
  row_for p (k, at) =
      let x = map_from part_of actors k p at in
      subst (λ q. (told_sheet scene wild (names_at passed) q).row m) x.2 (told_row scene wild (names_at passed) passed m a.items x.0 (a.told k x.0 x.1) (a.work.stands k x.0 x.1))

  module _ (blk : BlkPlace) (has : HasBlk rows blk cast) where
    disk_row : IsPrefix (m.sent (blk.first + 1)) (map answer_item (m.taken blk.first))
    disk_row = row_for (BlockPart (disk_at blk)) has.disk

    driver_copies : (k : ℕ) (w : Way) → slice_get (record { input = blk.first + 2; output = blk.first } ∷ record { input = blk.first + 1; output = blk.first + 3 } ∷ []) k ≡ Some w → IsPrefix (m.sent w.output) (m.taken w.input)
    driver_copies = row_for (BlockPart (blk_driver_at blk.first)) has.driver

    virt_there : (v : BlkVirt) × (slice_get actors has.virt.0 ≡ Some (Kinds.BlkVirt v)) × (Rattle.blk_law.specs.Sheets.Playing.virt_part v ≡ virt_at blk)
    virt_there =
        let x = map_from part_of actors has.virt.0 (BlockPart (virt_at blk)) has.virt.1 in
        let v = virt_actor blk x.0 x.2 in
        (v.0, x.1 ∙ ap (λ y. Some y) v.1, v.2)

    req_few : (n : ℕ) → length (m.taken n) ≤ length (m.sent n)
    req_few n = begins_few (m.taken n) (m.sent n) (over n)

    sent_many : (n : ℕ) → length (m.sent n) ≡ length (passed.sent n)
    sent_many n = ap length (sym (a.items.sent n)) ∙ length-map (passed.sent n) (λ (c : Cargo). c.0)

    taken_many : (n : ℕ) → length (m.taken n) ≡ length (passed.taken n)
    taken_many n = ap length (sym (a.items.taken n)) ∙ length-map (passed.taken n) (λ (c : Cargo). c.0)

    disk_few : length (m.sent (blk.first + 1)) ≤ length (m.sent blk.first)
    disk_few =
        let one = begins_few (m.sent (blk.first + 1)) (map answer_item (m.taken blk.first)) disk_row in
        let two = length-map (m.taken blk.first) answer_item in
        let three = req_few blk.first in
        omega (arith, one, two, three)

    -- no more answers went to a client than it put requests
    client_few : (k : ℕ) → k < length blk.pools → length (m.sent (blk.first + 5 + 2 * k)) ≤ length (m.sent (blk.first + 4 + 2 * k))
    client_few k lt =
        let v = virt_there in
        let own = virt_queues blk v.0 v.2 in
        let pool = there_is blk.pools k lt in
        let s = sharer_there blk.first 0 blk.entries blk.pools k pool.0 has.pools_many pool.1 in
        let few = few_back v.0 passed (server_row v.0 passed (a.work.stands has.virt.0 (Kinds.BlkVirt v.0) v.1)) k s.0 (ap (λ (l : List Sharer). slice_get l k) own.3 ∙ s.1) in
        let req : s.0.req ≡ blk.first + 4 + 2 * k = (let e = s.2 in omega (arith, e)) in
        let resp : s.0.resp ≡ blk.first + 5 + 2 * k = (let e = s.3 in omega (arith, e)) in
        let one = ap (λ n. length (passed.taken n)) req in
        let two = ap (λ n. length (passed.sent n)) resp in
        omega (arith, few, one, two, sent_many (blk.first + 5 + 2 * k), taken_many (blk.first + 4 + 2 * k), req_few (blk.first + 4 + 2 * k))

    answered_at : (i q : ℕ) → IsAnswer blk i q → length (m.sent (blk.first + i)) ≤ length (m.sent q)
    answered_at i q (inl h) =
        let d = ap (λ j. length (m.sent (blk.first + j))) h.0 in
        let e = ap (λ r. length (m.sent r)) h.1 in
        omega (arith, disk_few, d, e)
    answered_at i q (inr (inl h)) =
        let one = begins_few (m.sent (blk.first + 3)) (m.taken (blk.first + 1)) (driver_copies 1 (record { input = blk.first + 1; output = blk.first + 3 }) refl) in
        let two = req_few (blk.first + 1) in
        let three = disk_few in
        let four = begins_few (m.sent blk.first) (m.taken (blk.first + 2)) (driver_copies 0 (record { input = blk.first + 2; output = blk.first }) refl) in
        let five = req_few (blk.first + 2) in
        let six = ap (λ j. length (m.sent (blk.first + j))) h.0 in
        let seven = ap (λ r. length (m.sent r)) h.1 in
        omega (arith, one, two, three, four, five, six, seven)
    answered_at i q (inr (inr x)) =
        let few = client_few x.0 x.1 in
        let resp : blk.first + 5 + 2 * x.0 ≡ blk.first + i = (let at = x.2 in omega (arith, at)) in
        let req : blk.first + 4 + 2 * x.0 ≡ q = (let at = x.3 in omega (arith, at)) in
        let one = ap (λ j. length (m.sent j)) resp in
        let two = ap (λ j. length (m.sent j)) req in
        omega (arith, few, one, two)

    module _ (here : place.blk ≡ Some blk) where
      -- a client whose answers go where no hostile actor has an end isn't hostile
      pub asks_calm : (k : ℕ) (p : PoolAt) → slice_get blk.pools k ≡ Some p → wild (blk.first + 5 + 2 * k) ≡ false → wild (blk.first + 4 + 2 * k) ≡ false
      asks_calm k p at calm = by (wild (blk.first + 4 + 2 * k)) refl
        where
          by : (t : Bool) → wild (blk.first + 4 + 2 * k) ≡ t → t ≡ false
          by false e = refl
          by true e =
              let r = a.placed.rogues.blk blk here k p at e in
              absurd (let both = (blk_wild rows place.net place.blk cast a.placed.net a.placed.blk a.placed.rogues a.seated a.filled blk k p r.0 r.1 r.2 r.3).0 in cc)

      pub client_there : (k : ℕ) (p : PoolAt) → slice_get blk.pools k ≡ Some p → wild (blk.first + 4 + 2 * k) ≡ false → (asks : List Ask) × HasPart cast (BlockPart (blk_client_at blk.first k asks p))
      client_there k p at calm =
          let below = Rattle.play_core.proofs.Lists.there_below blk.pools k p at in
          let entry = there_is blk.entries k (omega (arith, below, has.pools_many)) in
          let asks = there_is blk.asks k (omega (arith, below, has.pools_many, has.asks_many)) in
          (asks.0, has.client k entry.0 asks.0 p (record { has_entry = entry.1; has_asks = asks.1; has_pool = at }) calm)

      requests_at : ((j : ℕ) (i : Item) → slice_get (m.sent (blk.first + 2)) j ≡ Some i → kind_of i ≡ Kind.Req) → (i q : ℕ) → IsAnswer blk i q → wild (blk.first + i) ≡ false → (j : ℕ) (x : Item) → slice_get (m.sent q) j ≡ Some x → kind_of x ≡ Kind.Req
      requests_at kinds i q (inl h) calm j x at =
          let there : slice_get (m.sent blk.first) j ≡ Some x = ap (λ r. slice_get (m.sent r) j) (sym h.1) ∙ at in
          let came = prefix_get (m.sent blk.first) (m.taken (blk.first + 2)) (driver_copies 0 (record { input = blk.first + 2; output = blk.first }) refl) j x there in
          kinds j x (prefix_get (m.taken (blk.first + 2)) (m.sent (blk.first + 2)) (over (blk.first + 2)) j x came)
      requests_at kinds i q (inr (inl h)) calm j x at = kinds j x (ap (λ r. slice_get (m.sent r) j) (sym h.1) ∙ at)
      requests_at kinds i q (inr (inr y)) calm j x at =
          let p = there_is blk.pools y.0 y.1 in
          let resp : blk.first + i ≡ blk.first + 5 + 2 * y.0 = (let e = y.2 in omega (arith, e)) in
          let c = client_there y.0 p.0 p.1 (asks_calm y.0 p.0 p.1 (ap wild (sym resp) ∙ calm)) in
          let row : AsksInOrder c.0 (own_pool p.0) (m.taken (blk.first + 5 + 2 * y.0)) (m.sent (blk.first + 4 + 2 * y.0)) = row_for (BlockPart (blk_client_at blk.first y.0 c.0 p.0)) c.1 in
          let there : slice_get (m.sent (blk.first + 4 + 2 * y.0)) j ≡ Some x = ap (λ r. slice_get (m.sent r) j) (sym y.3) ∙ at in
          asked_kind 0 0 _ (own_pool p.0).buffers (own_pool p.0).size c.0 j x (prefix_get (m.sent (blk.first + 4 + 2 * y.0)) _ row.begins j x there)

  -- no more is answered than asked, whoever asks
  pub answers_few : (b : Option BlkPlace) → HasBlkAt rows b cast → (q r : ℕ) (ws : List Window) → behind (first_naming scene place.net) b q ≡ Answers r ws → length (m.sent q) ≤ length (m.sent r)
  answers_few None none q r ws is = absurd (no_answer scene place.net q r ws is)
  answers_few (Some blk) has q r ws is =
      let x = answers_behind (first_naming scene place.net) blk q r ws (no_answer scene place.net) is in
      let few = answered_at blk has.0 x.0 r x.2 in
      let same = ap (λ j. length (m.sent j)) x.1 in
      omega (arith, few, same)

  -- what is answered where no hostile actor has an end is named
  off_answers : (q r : ℕ) (ws : List Window) → off q ≡ Answers r ws → (wild q ≡ false) × (naming q ≡ Answers r ws)
  off_answers q r ws is = by (wild q) refl is
    where
      by : (t : Bool) → wild q ≡ t → cond t NoBuffers (naming q) ≡ Answers r ws → (t ≡ false) × (naming q ≡ Answers r ws)
      by true e h = absurd cc
      by false e h = (refl, h)

  pub in_order : IsInOrder off m
  in_order = record {
    requests = λ q r ws is. (let x = off_answers q r ws is in requests place.blk refl a.placed.blk q r ws x.0 x.1);
    hands_over = over;
    answered = λ q r ws is. answers_few place.blk a.placed.blk q r ws (off_answers q r ws is).1;
  }
    where
      requests : (b : Option BlkPlace) → place.blk ≡ b → HasBlkAt rows b cast → (q r : ℕ) (ws : List Window) → wild q ≡ false → behind (first_naming scene place.net) b q ≡ Answers r ws → (j : ℕ) (i : Item) → slice_get (m.sent r) j ≡ Some i → kind_of i ≡ Kind.Req
      requests None here none q r ws calm is = absurd (no_answer scene place.net q r ws is)
      requests (Some blk) here has q r ws calm is =
          let x = answers_behind (first_naming scene place.net) blk q r ws (no_answer scene place.net) is in
          let row = has.0.requests in
          requests_at blk has.0 here (λ j i at. (
          let c = map_from (λ (y : Cargo). y.0) (passed.sent (blk.first + 2)) j i (ap (λ l. slice_get l j) (a.items.sent (blk.first + 2)) ∙ at) in
          ap kind_of (sym c.2) ∙ (a.work.kinds (blk.first + 2) row.0 row.1 j c.0 c.1 ∙ row.2))) x.0 r x.2 (ap wild (sym x.1) ∙ calm)
