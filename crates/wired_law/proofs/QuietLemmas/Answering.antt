-- A cast that has the whole block class, of whose queues none has a hostile end, has it among its
-- actors; and where nobody else is runnable each client recorded all its replies.
use Rattle.std.proofs.Common.{◌≡◌, ◌+◌, ◌*◌, ℕ, suc, false, Option, Some, inl, inr, List, [], ◌∷◌, length, map, slice_get, refl, sym, ap, ◌∙◌, subst, arith}
use Rattle.std.proofs.lemmas.List.{length-map}
use Rattle.cargo_core.specs.Lists.{IsPrefix}
use Rattle.cargo_core.specs.declared.item.Ask.{Ask}
use Rattle.cargo_core.specs.declared.item.Reply.{Reply}
use Rattle.wire_core.specs.declared.names.QueueRow.{QueueRow}
use Rattle.wire_core.specs.declared.names.Entry.{Entry}
use Rattle.wire_core.specs.Deeds.{Cargo}
use Rattle.wire_core.specs.Ends.{Role, End}
use Rattle.wire_core.specs.Journal.{History, Hostiles}
use Rattle.wire_core.specs.Lists.{Passed}
use Rattle.play_core.specs.Moved.{Moved, moved}
use Rattle.play_core.specs.Names.{Names, Wild, wild_in}
use Rattle.play_core.specs.Sheets.{Scene, RowsHold, needful}
use Rattle.play_core.specs.Still.{IsStill, Plays}
use Rattle.play_core.proofs.OneQueue.{whole_prefix}
use Rattle.play_core.proofs.Lists.{there_below}
use Rattle.play_core.specs.Rests.Showing.{HaveItems}
use Rattle.owner_law.specs.Pools.Places.{PoolAt}
use Rattle.blk_mbr.specs.declared.part.Part.{Part as Partition}
use Rattle.class_expect.specs.BlkExpect.Replies.{left_by, partition_bytes, partition_in, replies_from, replies_of, status_to}
use Rattle.client_programs.specs.Blk.Asking.{replies_to}
use Rattle.client_programs.proofs.BlkLemmas.Asks.{replies_long}
use Rattle.blk_law.specs.Sheets.Parts.{BlkPart, Sharer}
use Rattle.blk_law.proofs.HopsLemmas.Sharers.{sharer_is}
use Rattle.blk_law.specs.Sheets.Numbers.{BlkPlace, IsBlkClientOf, disk_at, blk_driver_at, virt_at, blk_client_at}
use Rattle.blk_quiet.specs.Still.{HasClientPools, HasBlkRooms, IsBlock, AnswersAll}
use Rattle.blk_quiet.proofs.Answering.{answers_all}
use Rattle.actor_set.specs.Parts.{Part, BlockPart}
use Rattle.actor_set.specs.Actors.{part_of}
use Rattle.actor_set.specs.declared.actor.Actor.{Actor}
use Rattle.actor_set.specs.Laws.Kinds.{hostiles, sheet}
use Rattle.actor_set.specs.Laws.Records.{replies_got, replies_by}
use Rattle.actor_set.specs.Laws.Scenes.{NoneWild}
use Rattle.actor_set.proofs.LawsLemmas.Rows.{replies_here}
use Rattle.wired_law.specs.Wiring.{HasBlkIn, HasPart, IsOfBlock, ClientsSendIn, AreAtWork, told_in}
use Rattle.wired_law.proofs.Blocks.{NoneAsksWild, blk_turns}
use Rattle.wired_law.proofs.BlkReplies.Casts.{replied}
use Rattle.wired_law.proofs.QuietLemmas.Rows.{calm_queue, plain_row, plays_plain, row_there}

-- a client must get as many replies as it asks
from_long : (part : Option Partition) (bytes : List ℕ) (id : ℕ) (asks : List Ask) → length (replies_from part bytes id asks) ≡ length asks
from_long part bytes id [] = refl
from_long part bytes id (ask ∷ asks) = ap suc (from_long part (left_by (status_to part ask) bytes ask) (id + 1) asks)

-- so a beginning of as many is all of them
pub replies_whole : (image : List ℕ) (entry : ℕ) (asks : List Ask) (got : List Reply) → IsPrefix got (replies_of image entry asks) → length got ≡ length asks → got ≡ replies_of image entry asks
replies_whole image entry asks got begins many =
    let all = from_long (partition_in image entry) (partition_bytes (partition_in image entry) image) 0 asks in
    whole_prefix got (replies_of image entry asks) begins (omega (arith, many, all))

-- to a response for each that it asks a client records as many replies
pub told_long : (asks : List Ask) (came : List Cargo) → length came ≡ length asks → length (replies_to asks came) ≡ length asks
told_long asks came same = replies_long asks came (omega (arith, same)) ∙ same

-- where none of the class's queues has a hostile end, no client of it is hostile
none_asks : (hostile : Hostiles) (rows : List QueueRow) (place : BlkPlace) → HasBlkRooms hostile rows place → NoneAsksWild (wild_in hostile rows) place
none_asks hostile rows place rooms k below =
    let n : place.first + (4 + 2 * k) ≡ place.first + 4 + 2 * k = omega arith in
    subst (λ i. wild_in hostile rows i ≡ false) n (calm_queue hostile rows (place.first + (4 + 2 * k)) 1 (rooms (4 + 2 * k) (omega (arith, below))))

-- the block class among a cast's actors, of which each has its row
module _ (scene : Scene) (rows : List QueueRow) (cast : List Part) (names : Names) (m : Moved) (place : BlkPlace) (has : HasBlkIn scene rows place cast) (pools : HasClientPools place) (rooms : HasBlkRooms (hostiles cast) rows place) where
  abbrev wild : Wild
  wild = wild_in (hostiles cast) rows

  none_here : NoneAsksWild wild place
  none_here = none_asks (hostiles cast) rows place rooms

  virt_none : NoneWild wild (BlockPart (virt_at place))
  virt_none j c at =
      let is = sharer_is place j c at in
      ap (λ (x : Sharer). wild x.req) (sym is.4) ∙ none_here j (there_below place.entries j is.0 is.2)

  module _ (row : (k : ℕ) (p : BlkPart) → IsOfBlock place p → NoneWild wild (BlockPart p) → slice_get cast k ≡ Some (BlockPart p) → (sheet scene (BlockPart p)).row m) where
    plays : (p : BlkPart) → IsOfBlock place p → NoneWild wild (BlockPart p) → HasPart cast (BlockPart p) → Plays (hostiles cast) (needful (told_in scene rows cast names) cast m) m (sheet scene (BlockPart p))
    plays p of none there = plays_plain scene rows cast names m (BlockPart p) refl none there (row there.0 p of none there.1)

    pub block_in : IsBlock (hostiles cast) scene rows (needful (told_in scene rows cast names) cast m) place m
    block_in = record {
      pools = pools;
      rooms = rooms;
      disk = plays (disk_at place) (inl refl) tt has.disk;
      driver = plays (blk_driver_at place.first) (inr (inl refl)) tt has.driver;
      virt = plays (virt_at place) (inr (inr (inl refl))) virt_none has.virt;
      client = λ k entry asks pool of. plays (blk_client_at place.first k asks pool) (inr (inr (inr (k, entry, asks, pool, of, refl)))) tt (has.client k entry asks pool of (none_here k (there_below place.entries k entry of.has_entry)));
    }

pub block_there : (scene : Scene) (rows : List QueueRow) (cast : List Part) (names : Names) (m : Moved) (place : BlkPlace) → HasBlkIn scene rows place cast → HasClientPools place → HasBlkRooms (hostiles cast) rows place → RowsHold (told_in scene rows cast names) (hostiles cast) cast m → IsBlock (hostiles cast) scene rows (needful (told_in scene rows cast names) cast m) place m
block_there scene rows cast names m place has pools rooms holds = block_in scene rows cast names m place has pools rooms (λ k p of none at. plain_row scene rows cast names m holds k (BlockPart p) refl none at)

-- clients that stand for what passed
module _ (scene : Scene) (ends : Role → ℕ → End) (history : History) (rows : List QueueRow) (actors : List Actor) (journal : List Entry) (passed : Passed) (names : Names) (place : BlkPlace) (has : HasBlkIn scene rows place (map part_of actors)) (pools : HasClientPools place) (rooms : HasBlkRooms (hostiles (map part_of actors)) rows place) (work : AreAtWork ends rows actors passed) (send : ClientsSendIn scene rows (map part_of actors) passed) (items : HaveItems passed (moved history journal))
    (still : IsStill (hostiles (map part_of actors)) history rows (needful (told_in scene rows (map part_of actors) names) (map part_of actors) (moved history journal)) journal) where
  abbrev cast : List Part
  cast = map part_of actors

  none : NoneAsksWild (wild_in (hostiles cast) rows) place
  none = none_asks (hostiles cast) rows place rooms

  there : IsBlock (hostiles cast) scene rows (needful (told_in scene rows cast names) cast (moved history journal)) place (moved history journal)
  there = block_in scene rows cast names (moved history journal) place has pools rooms (λ k p of plain at.
      row_there scene ends rows actors passed (moved history journal) work items k (BlockPart p)
      (λ x x_at part. blk_turns scene ends rows actors passed work place has send.requests none k x x_at p part of) at)

  answers : AnswersAll scene place (moved history journal)
  answers = answers_all (hostiles cast) history rows (needful (told_in scene rows cast names) cast (moved history journal)) journal scene place still there

  pub replied_whole : (k c : ℕ) (x : Actor) (entry : ℕ) (asks : List Ask) (pool : PoolAt) → slice_get actors k ≡ Some x → IsBlkClientOf place c entry asks pool → part_of x ≡ BlockPart (blk_client_at place.first c asks pool) → replies_got x ≡ replies_of place.image entry asks
  replied_whole k c x entry asks pool at of part =
      let resp = place.first + 5 + 2 * c in
      let begun = replied ends rows actors passed place has work send k c x asks pool entry at part of.has_entry of.has_asks in
      let turn = blk_turns scene ends rows actors passed work place has send.requests none k x at (blk_client_at place.first c asks pool) part (inr (inr (inr (c, entry, asks, pool, of, refl)))) in
      let got : replies_got x ≡ replies_to asks (passed.taken resp) = replies_here scene passed x turn (work.stands k x at) ∙ ap (replies_by passed) part in
      let came : length (passed.taken resp) ≡ length asks =
      sym (length-map (passed.taken resp) (λ (y : Cargo). y.0)) ∙ (ap length (items.taken resp) ∙ answers.answered c asks of.has_asks) in
      replies_whole place.image entry asks (replies_got x) begun (ap length got ∙ told_long asks (passed.taken resp) came)
