-- What is said of a part by the names that are told, kind by kind.
use Rattle.std.proofs.Common.{◌≡◌, ◌&&◌, ℕ, false, not, Option, None, Some, List, [], slice_get, refl, ap}
use Rattle.std.specs.Option.{option_map_or}
use Rattle.wire_core.specs.declared.names.Entry.{Entry}
use Rattle.wire_core.specs.declared.names.QueueRow.{QueueRow}
use Rattle.wire_core.specs.Journal.{History}
use Rattle.wire_core.specs.Lists.{Passed}
use Rattle.play_core.specs.Growing.{Stays, runs_in}
use Rattle.play_core.specs.Manners.{Manners}
use Rattle.play_core.specs.Moved.{Moved, moved}
use Rattle.play_core.specs.Names.{GrowsTo, Names, Wild, carries_pages, is_wild, names_at, wild_in}
use Rattle.play_core.specs.Rests.Showing.{HaveItems}
use Rattle.play_core.specs.Runs.{runnable}
use Rattle.play_core.specs.Sheets.{IsOwn, Scene, needful}
use Rattle.play_core.proofs.Lists.{map_alike}
use Rattle.blk_law.specs.Sheets.Parts.{BlkPart, DiskDevice, BlkDriver, BlkVirt, BlkClient}
use Rattle.net_law.specs.Receiving.{HandsOver}
use Rattle.net_law.specs.TxScene.Table as sending
use Rattle.net_law.proofs.TxScene.Following as sender_growth
use Rattle.net_law.proofs.TxScene.Calming as sender_calm
use Rattle.net_law.proofs.TxScene.Moments as sender_moments
use Rattle.blk_law.specs.VirtScene.Table as block
use Rattle.blk_law.proofs.VirtScene.Growing as server_growth
use Rattle.blk_law.proofs.VirtScene.Calming as server_calm
use Rattle.blk_law.proofs.VirtScene.Moments as server_moments
use Rattle.actor_set.specs.Parts.{Part, UartPart, DriverPart, RxPart, TxPart, ClientPart, NetworkPart, SendingPart, BlockPart, HostilePart}
use Rattle.actor_set.specs.Laws.Kinds.{AllCalm, hostiles, sheet}
use Rattle.actor_set.specs.Laws.Scenes.{LiesWithin, NoneWild, told_sheet}
use Rattle.actor_set.proofs.LawsLemmas.Calm.{calm_row as calm_here, sheet_own}
use Rattle.actor_set.proofs.LawsLemmas.NetRows.{items_at}

module _ (scene : Scene) (wild : Wild) where
  pub told_own : (names : Names) (p : Part) → IsOwn (told_sheet scene wild names p)
  told_own names (UartPart rx tx input) = sheet_own scene (UartPart rx tx input)
  told_own names (DriverPart device_rx device_tx rx tx) = sheet_own scene (DriverPart device_rx device_tx rx tx)
  told_own names (RxPart rx clients drops) = sheet_own scene (RxPart rx clients drops)
  told_own names (TxPart tx clients) = sheet_own scene (TxPart tx clients)
  told_own names (ClientPart rx tx script) = sheet_own scene (ClientPart rx tx script)
  told_own names (NetworkPart p) = sheet_own scene (NetworkPart p)
  told_own names (SendingPart p) = sender_growth.both_own wild names p
  told_own names (BlockPart p) = server_growth.both_own scene wild names p
  told_own names (HostilePart p) = sheet_own scene (HostilePart p)

  row_stays : (names grown : Names) → GrowsTo names grown → (p : Part) (m : Moved) → LiesWithin wild names p m → (told_sheet scene wild names p).row m → (told_sheet scene wild grown p).row m
  row_stays names grown grows (UartPart rx tx input) m within h = h
  row_stays names grown grows (DriverPart device_rx device_tx rx tx) m within h = h
  row_stays names grown grows (RxPart rx clients drops) m within h = h
  row_stays names grown grows (TxPart tx clients) m within h = h
  row_stays names grown grows (ClientPart rx tx script) m within h = h
  row_stays names grown grows (NetworkPart p) m within h = h
  row_stays names grown grows (SendingPart p) m within h = (sender_growth.both_stays wild).row names grown grows p m within h
  row_stays names grown grows (BlockPart p) m within h = (server_growth.both_stays scene wild).row names grown grows p m within h
  row_stays names grown grows (HostilePart p) m within h = h

  row_stood : (names grown : Names) → GrowsTo names grown → (p : Part) (m : Moved) → LiesWithin wild names p m → (told_sheet scene wild grown p).row m → (told_sheet scene wild names p).row m
  row_stood names grown grows (UartPart rx tx input) m within h = h
  row_stood names grown grows (DriverPart device_rx device_tx rx tx) m within h = h
  row_stood names grown grows (RxPart rx clients drops) m within h = h
  row_stood names grown grows (TxPart tx clients) m within h = h
  row_stood names grown grows (ClientPart rx tx script) m within h = h
  row_stood names grown grows (NetworkPart p) m within h = h
  row_stood names grown grows (SendingPart p) m within h = (sender_growth.both_stays wild).back names grown grows p m within h
  row_stood names grown grows (BlockPart p) m within h = (server_growth.both_stays scene wild).back names grown grows p m within h
  row_stood names grown grows (HostilePart p) m within h = h

  wants_stay : (names grown : Names) → GrowsTo names grown → (p : Part) (m : Moved) → LiesWithin wild names p m → (told_sheet scene wild names p).wants m ≡ (told_sheet scene wild grown p).wants m
  wants_stay names grown grows (UartPart rx tx input) m within = refl
  wants_stay names grown grows (DriverPart device_rx device_tx rx tx) m within = refl
  wants_stay names grown grows (RxPart rx clients drops) m within = refl
  wants_stay names grown grows (TxPart tx clients) m within = refl
  wants_stay names grown grows (ClientPart rx tx script) m within = refl
  wants_stay names grown grows (NetworkPart p) m within = refl
  wants_stay names grown grows (SendingPart p) m within = (sender_growth.both_stays wild).wants names grown grows p m within
  wants_stay names grown grows (BlockPart p) m within = (server_growth.both_stays scene wild).wants names grown grows p m within
  wants_stay names grown grows (HostilePart p) m within = refl

  dues_stay : (names grown : Names) → GrowsTo names grown → (p : Part) (m : Moved) → LiesWithin wild names p m → (told_sheet scene wild names p).dues m ≡ (told_sheet scene wild grown p).dues m
  dues_stay names grown grows (UartPart rx tx input) m within = refl
  dues_stay names grown grows (DriverPart device_rx device_tx rx tx) m within = refl
  dues_stay names grown grows (RxPart rx clients drops) m within = refl
  dues_stay names grown grows (TxPart tx clients) m within = refl
  dues_stay names grown grows (ClientPart rx tx script) m within = refl
  dues_stay names grown grows (NetworkPart p) m within = refl
  dues_stay names grown grows (SendingPart p) m within = (sender_growth.both_stays wild).dues names grown grows p m within
  dues_stay names grown grows (BlockPart p) m within = (server_growth.both_stays scene wild).dues names grown grows p m within
  dues_stay names grown grows (HostilePart p) m within = refl

  pub told_stays : Stays (told_sheet scene wild) (LiesWithin wild)
  told_stays = record { row = row_stays; back = row_stood; wants = wants_stay; dues = dues_stay }

  pub calm_row : (names : Names) (p : Part) (m : Moved) → NoneWild wild p → (told_sheet scene wild names p).row m → (sheet scene p).row m
  calm_row names (UartPart rx tx input) m none h = h
  calm_row names (DriverPart device_rx device_tx rx tx) m none h = h
  calm_row names (RxPart rx clients drops) m none h = h
  calm_row names (TxPart tx clients) m none h = h
  calm_row names (ClientPart rx tx script) m none h = h
  calm_row names (NetworkPart p) m none h = h
  calm_row names (SendingPart p) m none h = sender_calm.calm_row wild names p m none h
  calm_row names (BlockPart p) m none h = server_calm.calm_row scene wild names p m none h
  calm_row names (HostilePart p) m none h = h

  pub row_calm : (names : Names) (p : Part) (m : Moved) → NoneWild wild p → (sheet scene p).row m → (told_sheet scene wild names p).row m
  row_calm names (UartPart rx tx input) m none h = h
  row_calm names (DriverPart device_rx device_tx rx tx) m none h = h
  row_calm names (RxPart rx clients drops) m none h = h
  row_calm names (TxPart tx clients) m none h = h
  row_calm names (ClientPart rx tx script) m none h = h
  row_calm names (NetworkPart p) m none h = h
  row_calm names (SendingPart p) m none h = sender_calm.row_calm wild names p m none h
  row_calm names (BlockPart p) m none h = server_calm.row_calm scene wild names p m none h
  row_calm names (HostilePart p) m none h = h

  pub calm_wants : (names : Names) (p : Part) (m : Moved) → NoneWild wild p → (told_sheet scene wild names p).wants m ≡ (sheet scene p).wants m
  calm_wants names (UartPart rx tx input) m none = refl
  calm_wants names (DriverPart device_rx device_tx rx tx) m none = refl
  calm_wants names (RxPart rx clients drops) m none = refl
  calm_wants names (TxPart tx clients) m none = refl
  calm_wants names (ClientPart rx tx script) m none = refl
  calm_wants names (NetworkPart p) m none = refl
  calm_wants names (SendingPart p) m none = sender_calm.calm_wants wild names p m none
  calm_wants names (BlockPart p) m none = server_calm.calm_wants scene wild names p m none
  calm_wants names (HostilePart p) m none = refl

  pub calm_dues : (names : Names) (p : Part) (m : Moved) → NoneWild wild p → (told_sheet scene wild names p).dues m ≡ (sheet scene p).dues m
  calm_dues names (UartPart rx tx input) m none = refl
  calm_dues names (DriverPart device_rx device_tx rx tx) m none = refl
  calm_dues names (RxPart rx clients drops) m none = refl
  calm_dues names (TxPart tx clients) m none = refl
  calm_dues names (ClientPart rx tx script) m none = refl
  calm_dues names (NetworkPart p) m none = refl
  calm_dues names (SendingPart p) m none = sender_calm.calm_dues wild names p m none
  calm_dues names (BlockPart p) m none = server_calm.calm_dues scene wild names p m none
  calm_dues names (HostilePart p) m none = refl

  told_within : (p : Part) (passed : Passed) (m : Moved) → HandsOver passed → HaveItems passed m → LiesWithin wild (names_at passed) p m
  told_within (UartPart rx tx input) passed m flows has = tt
  told_within (DriverPart device_rx device_tx rx tx) passed m flows has = tt
  told_within (RxPart rx clients drops) passed m flows has = tt
  told_within (TxPart tx clients) passed m flows has = tt
  told_within (ClientPart rx tx script) passed m flows has = tt
  told_within (NetworkPart p) passed m flows has = tt
  told_within (SendingPart p) passed m flows has = sender_moments.lies_within wild p passed m flows (items_at (sending.both_sheet wild (names_at passed) p).ends passed m has)
  told_within (BlockPart p) passed m flows has = server_moments.lies_within scene wild p passed m flows (items_at (block.both_sheet scene wild (names_at passed) p).ends passed m has)
  told_within (HostilePart p) passed m flows has = tt

-- no frame and no image is asked
pub lies_within : (wild : Wild) (p : Part) (passed : Passed) (m : Moved) → HandsOver passed → HaveItems passed m → LiesWithin wild (names_at passed) p m
lies_within wild p passed m flows has = told_within (record { frames = []; image = [] }) wild p passed m flows has

-- where nobody is hostile, no queue has a hostile end
none_here : (cast : List Part) → AllCalm cast → (o : Option QueueRow) → option_map_or (is_wild (hostiles cast)) o false ≡ false
none_here cast calm None = refl
none_here cast calm (Some row) = ap (λ b. not b && carries_pages row.kind) (calm_here cast calm row)

pub none_wild : (cast : List Part) → AllCalm cast → (rows : List QueueRow) (n : ℕ) → wild_in (hostiles cast) rows n ≡ false
none_wild cast calm rows n = none_here cast calm (slice_get rows n)

none_block : (cast : List Part) → AllCalm cast → (rows : List QueueRow) (p : BlkPart) → block.NoneWild (wild_in (hostiles cast) rows) p
none_block cast calm rows (DiskDevice req resp image) = tt
none_block cast calm rows (BlkDriver ways) = tt
none_block cast calm rows (BlkVirt req resp sectors pool clients) = λ k c at. none_wild cast calm rows c.req
none_block cast calm rows (BlkClient req resp asks pool) = tt

pub none_hostile : (cast : List Part) → AllCalm cast → (rows : List QueueRow) (p : Part) → NoneWild (wild_in (hostiles cast) rows) p
none_hostile cast calm rows (UartPart rx tx input) = tt
none_hostile cast calm rows (DriverPart device_rx device_tx rx tx) = tt
none_hostile cast calm rows (RxPart rx clients drops) = tt
none_hostile cast calm rows (TxPart tx clients) = tt
none_hostile cast calm rows (ClientPart rx tx script) = tt
none_hostile cast calm rows (NetworkPart p) = tt
none_hostile cast calm rows (SendingPart p) = λ k c at. none_wild cast calm rows c.active
none_hostile cast calm rows (BlockPart p) = none_block cast calm rows p
none_hostile cast calm rows (HostilePart p) = tt

pub runs_calm : (scene : Scene) (names : Names) (manner : Manners) (history : History) (rows : List QueueRow) (cast : List Part) (journal : List Entry) → AllCalm cast → runs_in (told_sheet scene (wild_in (hostiles cast) rows)) names manner history rows cast journal ≡ runnable manner history rows (needful (sheet scene) cast (moved history journal)) journal
runs_calm scene names manner history rows cast journal calm = ap (λ ws. runnable manner history rows ws journal) (map_alike (λ p. (told_sheet scene (wild_in (hostiles cast) rows) names p).wants (moved history journal)) (λ p. (sheet scene p).wants (moved history journal)) cast (λ k p at. calm_wants scene (wild_in (hostiles cast) rows) names p (moved history journal) (none_hostile cast calm rows p)))
