-- What is said by the names that are kept stays said as more of them are kept.
use Rattle.std.proofs.Common.{◌≡◌, ◌≤◌, ℕ, Some, List, [], slice_get, length, length-append, refl, sym, ap, ◌∙◌, subst, arith}
use Rattle.cargo_core.specs.Lists.{IsPrefix}
use Rattle.wire_core.specs.declared.names.Entry.{Entry}
use Rattle.wire_core.specs.declared.names.QueueRow.{QueueRow}
use Rattle.wire_core.specs.Journal.{EachMoment}
use Rattle.play_core.specs.Moved.{Moved}
use Rattle.play_core.specs.Names.{GrowsTo, Name, Names, Noted, Wild, told_by, wild_in}
use Rattle.play_core.specs.Sheets.{AreSeated, Scene}
use Rattle.play_core.proofs.Moments.{each_moment}
use Rattle.play_core.proofs.Noting.{notes_grow}
use Rattle.play_core.proofs.Staying.{runs_same, rows_stay}
use Rattle.blk_law.specs.Sheets.Parts.{BlkPart, DiskDevice, BlkDriver, BlkVirt, BlkClient}
use Rattle.blk_law.specs.VirtScene.Table as block
use Rattle.actor_set.specs.Parts.{Part, UartPart, DriverPart, RxPart, TxPart, ClientPart, NetworkPart, SendingPart, BlockPart, HostilePart}
use Rattle.play_core.specs.Wants.{all_settled}
use Rattle.actor_set.specs.Laws.Kinds.{manner_of, sheet}
use Rattle.actor_set.specs.Laws.Scenes.{LiesWithin, told_sheet}
use Rattle.actor_set.proofs.LawsLemmas.Told.{told_stays}
use Rattle.system_core.specs.Shows.{KeepsSetting, NamesTell, RowsStand, Setting, hostile_in, manner_in, moved_in, runs, sheet_in}
use Rattle.system_core.specs.Adopting.{AllRest, rests_by}

-- the ends of a part are the same by whatever names
block_ends : (scene : Scene) (wild : Wild) (names : Names) (p : BlkPart) → (told_sheet scene wild names (BlockPart p)).ends ≡ (sheet scene (BlockPart p)).ends
block_ends scene wild names (DiskDevice req resp image) = refl
block_ends scene wild names (BlkDriver ways) = refl
block_ends scene wild names (BlkVirt req resp sectors pool clients) = refl
block_ends scene wild names (BlkClient req resp asks pool) = refl

pub told_ends : (scene : Scene) (wild : Wild) (names : Names) (p : Part) → (told_sheet scene wild names p).ends ≡ (sheet scene p).ends
told_ends scene wild names (UartPart rx tx input) = refl
told_ends scene wild names (DriverPart device_rx device_tx rx tx) = refl
told_ends scene wild names (RxPart rx clients drops) = refl
told_ends scene wild names (TxPart tx clients) = refl
told_ends scene wild names (ClientPart rx tx script) = refl
told_ends scene wild names (NetworkPart p) = refl
told_ends scene wild names (SendingPart p) = refl
told_ends scene wild names (BlockPart p) = block_ends scene wild names p
told_ends scene wild names (HostilePart p) = refl

pub told_seats : (scene : Scene) (wild : Wild) (names : Names) (rows : List QueueRow) (cast : List Part) → AreSeated (sheet scene) rows cast → AreSeated (told_sheet scene wild names) rows cast
told_seats scene wild names rows cast seated k p at i s end = seated k p at i s (ap (λ es. slice_get es i) (sym (told_ends scene wild names p)) ∙ end)

-- more names are told
longer : (xs ys : List Name) → IsPrefix xs ys → length xs ≤ length ys
longer xs ys h = omega (arith, length-append xs h.0, ap length h.1)

block_on : (wild : Wild) (names grown : Names) → GrowsTo names grown → (p : BlkPart) (m : Moved) → block.LiesWithin wild names p m → block.LiesWithin wild grown p m
block_on wild names grown grows (DiskDevice req resp image) m h = tt
block_on wild names grown grows (BlkDriver ways) m h = tt
block_on wild names grown grows (BlkVirt req resp sectors pool clients) m h = λ k c at is_wild. omega (arith, h k c at is_wild, longer (names c.req) (grown c.req) (grows c.req))
block_on wild names grown grows (BlkClient req resp asks pool) m h = tt

within_on : (wild : Wild) (names grown : Names) → GrowsTo names grown → (p : Part) (m : Moved) → LiesWithin wild names p m → LiesWithin wild grown p m
within_on wild names grown grows (UartPart rx tx input) m h = tt
within_on wild names grown grows (DriverPart device_rx device_tx rx tx) m h = tt
within_on wild names grown grows (RxPart rx clients drops) m h = tt
within_on wild names grown grows (TxPart tx clients) m h = tt
within_on wild names grown grows (ClientPart rx tx script) m h = tt
within_on wild names grown grows (NetworkPart p) m h = tt
within_on wild names grown grows (SendingPart p) m h = λ k c at is_wild. let both = h k c at is_wild in (omega (arith, both.0, longer (names c.active) (grown c.active) (grows c.active)), omega (arith, both.1, longer (names c.free) (grown c.free) (grows c.free)))
within_on wild names grown grows (BlockPart p) m h = block_on wild names grown grows p m h
within_on wild names grown grows (HostilePart p) m h = tt

-- with these names in place of those of a setting, which are their beginning
module _ (s : Setting) (ns : List Noted) (begins : IsPrefix s.names ns) where
  abbrev pub grown : Setting
  grown = record s { names = ns }

  abbrev wild : Wild
  wild = wild_in (hostile_in s) s.rows

  grows : GrowsTo (told_by s.names) (told_by ns)
  grows = notes_grow s.names ns begins

  pub tells_on : (journal : List Entry) → NamesTell s journal → NamesTell grown journal
  tells_on journal tell k p at = within_on wild (told_by s.names) (told_by ns) grows p (moved_in s journal) (tell k p at)

  -- who is runnable stays so
  pub runs_on : (journal : List Entry) → NamesTell s journal → runs s journal ≡ runs grown journal
  runs_on journal tell = runs_same (told_sheet s.scene wild) (LiesWithin wild) (told_stays s.scene wild) (told_by s.names) (told_by ns) grows s.history s.cast (manner_in s) s.rows journal tell

  -- and at each moment rows go on to hold, and names to tell
  pub each_tells : (journal : List Entry) → EachMoment (NamesTell s) journal → EachMoment (NamesTell grown) journal
  each_tells journal tell = each_moment (NamesTell s) (NamesTell s) (NamesTell grown) (λ j a b. tells_on j a) journal tell tell

  pub each_stands : (journal : List Entry) → EachMoment (NamesTell s) journal → EachMoment (RowsStand s) journal → EachMoment (RowsStand grown) journal
  each_stands journal tell hold = rows_stay (told_sheet s.scene wild) (LiesWithin wild) (told_stays s.scene wild) (told_by s.names) (told_by ns) grows s.history s.cast (hostile_in s) journal tell hold

-- so it is of a setting that stays but for its names
pub told_runs : (s t : Setting) → KeepsSetting s t → (journal : List Entry) → NamesTell s journal → runs s journal ≡ runs t journal
told_runs s t keeps journal tell = runs_on s t.names keeps.names journal tell ∙ sym (ap (λ (z : Setting). runs z journal) keeps.stays)

-- and all rest where the journal begins
pub keeps_rests : (s t : Setting) → NamesTell s [] → KeepsSetting s t → AllRest s → AllRest t
keeps_rests s t tell keeps rest =
    let wild : Wild = wild_in (hostile_in s) s.rows in
    let same : (k : ℕ) (p : Part) → slice_get s.cast k ≡ Some p → (sheet_in s p).wants (moved_in s []) ≡ (sheet_in (record s { names = t.names }) p).wants (moved_in s []) =
    (λ k p at. (told_stays s.scene wild).wants (told_by s.names) (told_by t.names) (notes_grow s.names t.names keeps.names) p (moved_in s []) (tell k p at)) in
    subst AllRest (sym keeps.stays) (λ k p at. ap (rests_by (manner_of p)) (ap (all_settled s.history []) (sym (same k p at))) ∙ rest k p at)
