-- Nothing comes out of turn in a cast in place, whatever its hostile clients put.
use Rattle.std.proofs.Common.{◌≡◌, ◌⊎◌, ◌+◌, ◌≤◌, ℕ, Option, Some, None, List, [], length, length-append, map, slice_get, inl, inr, sym, ap, ◌∙◌, subst, arith}
use Rattle.std.proofs.lemmas.List.{append-nil, length-map}
use Rattle.cargo_core.specs.Lists.{IsPrefix}
use Rattle.cargo_core.specs.declared.item.Item.{Item}
use Rattle.wire_core.specs.declared.names.PoolRow.{PoolRow}
use Rattle.wire_core.specs.declared.names.QueueRow.{QueueRow}
use Rattle.wire_core.specs.Deeds.{Cargo}
use Rattle.wire_core.specs.Ends.{Role, End}
use Rattle.wire_core.specs.Lists.{Passed}
use Rattle.wire_core.specs.Queues.{items_of}
use Rattle.play_core.specs.Moved.{Moved}
use Rattle.play_core.specs.Names.{AreNoted, Name, Names, Noted, Wild, name_of, names_at, names_of, told_by, wild_in}
use Rattle.play_core.specs.Rests.Showing.{HaveItems}
use Rattle.play_core.specs.Sheets.{RowsHold, Scene}
use Rattle.play_core.proofs.Lists.{map_from}
use Rattle.net_law.specs.TxParts.Numbers.{NetPlace}
use Rattle.buffer_kit.specs.Virtualising.{from_queues, to_queues}
use Rattle.blk_virt.specs.Desks.{holders}
use Rattle.blk_law.specs.Sheets.Numbers.{BlkPlace}
use Rattle.blk_law.specs.Sheets.Parts.{Sharer}
use Rattle.blk_law.proofs.SheetsLemmas.Virtual.{sharer_at}
use Rattle.actor_set.specs.Parts.{Part}
use Rattle.actor_set.specs.Actors.{part_of}
use Rattle.actor_set.specs.declared.actor.Actor.{Actor}
use Rattle.actor_set.specs.declared.actor.Actor.TheVariants as Kinds
use Rattle.actor_set.specs.Laws.Kinds.{AllCalm, hostiles, scene_of}
use Rattle.actor_set.specs.Laws.Scenes.{LiesWithin, ToldInTurn, told_sheet}
use Rattle.actor_set.specs.Laws.Turning.{InTurn}
use Rattle.actor_set.proofs.LawsLemmas.Told.{none_wild}
use Rattle.actor_set.proofs.LawsLemmas.ToldRows.{told_row}
use Rattle.wired_law.specs.Buffers.{HasEachOnce}
use Rattle.wired_law.specs.Wiring.{AreAtWork, AreInTurn, ClientsSend, HasBlk, HasNoBlock, HasNoNetwork, HasWhole, IsWired, TellsKept}
use Rattle.wired_law.proofs.TurningLemmas.{beside}
use Rattle.wired_law.proofs.Wiring.{turns_beside, turns_calm}
use Rattle.cast_law.specs.Pools.Beside.{AllTold}
use Rattle.cast_law.specs.Pools.Places.{HasBlkAt, HasNetAt, IsInPlace, IsPlaced, PoolPlace}
use Rattle.cast_law.proofs.PagesLemmas.Once.{each_once}

-- a cast whose classes stand at this place is wired
pub wired_by : (rows : List QueueRow) (place : PoolPlace) (cast : List Part) → IsPlaced rows place cast → IsWired rows cast
wired_by rows place cast placed = record { network = net place.net placed.net; block = blk place.blk placed.blk }
  where
    net : (o : Option NetPlace) → HasNetAt rows o cast → HasNoNetwork cast ⊎ ((n : NetPlace) × HasWhole rows n cast)
    net None none = inl none
    net (Some n) has = inr (n, has.0)

    blk : (o : Option BlkPlace) → HasBlkAt rows o cast → HasNoBlock cast ⊎ ((b : BlkPlace) × HasBlk rows b cast)
    blk None none = inl none
    blk (Some b) has = inr (b, has.0)

-- so is one in place
pub wired_place : (rows : List QueueRow) (pools : List PoolRow) (cast : List Part) → IsInPlace rows pools cast → IsWired rows cast
wired_place rows pools cast in_place = wired_by rows in_place.pooled.0 cast in_place.pooled.1

-- names that are kept in the order of the puts tell of all that was put
pub noted_tell : (wild : Wild) (notes : List Noted) (passed : Passed) → AreNoted wild notes passed → TellsKept wild (told_by notes) passed
noted_tell wild notes passed noted n is_wild = ([], append-nil (names_at passed n) ∙ sym (noted n is_wild))

-- as many names are told as entries passed
few_told : (cs : List Cargo) (ns : List Name) (is : List Item) → items_of cs ≡ is → IsPrefix (names_of cs) ns → length is ≤ length ns
few_told cs ns is same begins =
    let many : length (names_of cs) ≡ length cs = length-map cs (λ (c : Cargo). name_of c.1) in
    let items : length (items_of cs) ≡ length cs = length-map cs (λ (c : Cargo). c.0) in
    let all : length ns ≡ length (names_of cs) + length begins.0 = sym (ap length begins.1) ∙ length-append (names_of cs) begins.0 in
    let long : length (items_of cs) ≡ length is = ap length same in
    omega (arith, many, items, all, long)

-- what a part asks the names of has names that are told, where nothing came out of turn
told_within : (scene : Scene) (wild : Wild) (names : Names) (x : Actor) (passed : Passed) (m : Moved) → HaveItems passed m → ToldInTurn scene wild names x passed → LiesWithin wild names (part_of x) m
told_within scene wild names (Kinds.UartDevice x) passed m items turn = tt
told_within scene wild names (Kinds.UartDriver x) passed m items turn = tt
told_within scene wild names (Kinds.SerialVirtRx x) passed m items turn = tt
told_within scene wild names (Kinds.SerialVirtTx x) passed m items turn = tt
told_within scene wild names (Kinds.SerialClient x) passed m items turn = tt
told_within scene wild names (Kinds.EthDevice x) passed m items turn = tt
told_within scene wild names (Kinds.EthDriver x) passed m items turn = tt
told_within scene wild names (Kinds.NetVirtRx x) passed m items turn = tt
told_within scene wild names (Kinds.NetCopier x) passed m items turn = tt
told_within scene wild names (Kinds.NetClient x) passed m items turn = tt
told_within scene wild names (Kinds.NetVirtTx x) passed m items turn = λ k c at is_wild. (few_told (passed.taken c.active) (names c.active) (m.taken c.active) (items.taken c.active) (turn.tells k c at is_wild), few_told (passed.sent c.free) (names c.free) (m.sent c.free) (items.sent c.free) (turn.backs k c at is_wild))
told_within scene wild names (Kinds.DiskDevice x) passed m items turn = tt
told_within scene wild names (Kinds.BlkDriver x) passed m items turn = tt
told_within scene wild names (Kinds.BlkVirt x) passed m items turn = λ k c at is_wild.
    let s = sharer_at (holders x.work.desk) (from_queues x.ends) (to_queues x.ends) k c at in
    let req : c.req ≡ s.1.0 = ap (λ (y : Sharer). y.req) s.6 in
    let told : IsPrefix (names_of (passed.taken c.req)) (names c.req) = subst (λ n. IsPrefix (names_of (passed.taken n)) (names n)) (sym req) (turn.1 k s.1 s.4 (ap wild (sym req) ∙ is_wild)) in
    few_told (passed.taken c.req) (names c.req) (m.taken c.req) (items.taken c.req) told
told_within scene wild names (Kinds.BlkClient x) passed m items turn = tt
told_within scene wild names (Kinds.Rogue x) passed m items turn = tt

module _ (ends : Role → ℕ → End) (rows : List QueueRow) (pools : List PoolRow) (actors : List Actor) (passed : Passed) (in_place : IsInPlace rows pools (map part_of actors)) (work : AreAtWork ends rows actors passed) where
  abbrev cast : List Part
  cast = map part_of actors

  once : HasEachOnce rows actors passed
  once = each_once ends rows actors passed in_place.peopled in_place.seated in_place.filled pools in_place.pooled.0 in_place.pooled.1 in_place.pooled.2 work

  pub beside_turns : (wild : Wild) → AreInTurn wild actors passed
  beside_turns wild = beside (scene_of cast) ends rows actors passed work (wired_place rows pools cast in_place) once wild

  pub told_turns : ClientsSend rows cast passed → (names : Names) → TellsKept (wild_in (hostiles cast) rows) names passed → (k : ℕ) (x : Actor) → slice_get actors k ≡ Some x → ToldInTurn (scene_of cast) (wild_in (hostiles cast) rows) names x passed
  told_turns sends names kept k x at = turns_beside (scene_of cast) ends rows actors passed names (wired_place rows pools cast in_place) work sends kept (beside_turns (wild_in (hostiles cast) rows)) k x at

  -- so it is by the names of all that was put
  pub all_told : ClientsSend rows cast passed → AllTold rows actors passed
  all_told sends = told_turns sends (names_at passed) (λ n is_wild. ([], append-nil (names_at passed n)))

  -- and the rows of all actors hold
  pub told_rows : ClientsSend rows cast passed → (names : Names) → TellsKept (wild_in (hostiles cast) rows) names passed → (m : Moved) → HaveItems passed m → RowsHold (told_sheet (scene_of cast) (wild_in (hostiles cast) rows) names) (hostiles cast) cast m
  told_rows sends names kept m items k p calm at =
      let x = map_from part_of actors k p at in
      subst (λ q. (told_sheet (scene_of cast) (wild_in (hostiles cast) rows) names q).row m) x.2 (told_row (scene_of cast) (wild_in (hostiles cast) rows) names passed m items x.0 (told_turns sends names kept k x.0 x.1) (work.stands k x.0 x.1))

  -- and what the parts ask the names of has names
  pub all_within : ClientsSend rows cast passed → (names : Names) → TellsKept (wild_in (hostiles cast) rows) names passed → (m : Moved) → HaveItems passed m → (k : ℕ) (p : Part) → slice_get cast k ≡ Some p → LiesWithin (wild_in (hostiles cast) rows) names p m
  all_within sends names kept m items k p at =
      let x = map_from part_of actors k p at in
      subst (λ q. LiesWithin (wild_in (hostiles cast) rows) names q m) x.2 (told_within (scene_of cast) (wild_in (hostiles cast) rows) names x.0 passed m items (told_turns sends names kept k x.0 x.1))

  -- where nobody is hostile no name is asked
  pub calm_turns : AllCalm cast → ClientsSend rows cast passed → (k : ℕ) (x : Actor) → slice_get actors k ≡ Some x → InTurn (scene_of cast) x passed
  calm_turns calm sends k x at = turns_calm (scene_of cast) (wild_in (hostiles cast) rows) (names_at passed) x passed (none_wild cast calm rows) (all_told sends k x at)
