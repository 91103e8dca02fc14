-- The names of a moment tell of all that came from the hostile clients.
use Rattle.std.proofs.Common.{◌≡◌, ◌≤◌, suc, length, sym, subst}
use Rattle.wire_core.specs.Lists.{Passed}
use Rattle.wire_core.specs.Queues.{items_of}
use Rattle.play_core.specs.Moved.{Moved}
use Rattle.play_core.specs.Names.{Wild, names_at}
use Rattle.play_core.specs.Sheets.{Scene}
use Rattle.play_core.specs.Wants.{intake, outlet}
use Rattle.play_core.proofs.Naming.{few_begin, taken_told}
use Rattle.net_law.specs.Owners.Ends.{AreItemsOf}
use Rattle.net_law.specs.Receiving.{HandsOver}
use Rattle.net_law.proofs.PartsLemmas.Pairs.{twice, pair_first}
use Rattle.blk_virt.specs.declared.virtualiser.BlkVirt.{BlkVirt as Virtualiser}
use Rattle.blk_law.specs.Sheets.Parts.{BlkPart, DiskDevice, BlkDriver, BlkVirt, BlkClient, Sharer}
use Rattle.blk_law.specs.VirtScene.Playing.{TellsOf}
use Rattle.blk_law.specs.VirtScene.Table.{LiesWithin, both_sheet}

pub tells_came : (wild : Wild) (v : Virtualiser) (passed : Passed) → HandsOver passed → TellsOf wild (names_at passed) v passed
tells_came wild v passed flows k q at w = taken_told passed q.0 (flows q.0)

pub lies_within : (scene : Scene) (wild : Wild) (p : BlkPart) (passed : Passed) (m : Moved) → HandsOver passed → AreItemsOf (both_sheet scene wild (names_at passed) p).ends passed m → LiesWithin wild (names_at passed) p m
lies_within scene wild (DiskDevice req resp image) passed m flows items = tt
lies_within scene wild (BlkDriver ways) passed m flows items = tt
lies_within scene wild (BlkVirt req resp sectors pool clients) passed m flows items = λ k c at w.
    let came : m.taken c.req ≡ items_of (passed.taken c.req) = items (suc (suc (twice k))) (intake c.req) (pair_first (λ (x : Sharer). intake x.req) (λ x. outlet x.resp) clients k c at) in
    subst (λ l. length l ≤ length (names_at passed c.req)) (sym came) (few_begin (passed.taken c.req) (passed.sent c.req) (flows c.req))
lies_within scene wild (BlkClient req resp asks pool) passed m flows items = tt
