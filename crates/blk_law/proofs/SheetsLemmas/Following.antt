-- What is said of an actor speaks of its own ends alone, and its needs follow.
use Rattle.play_core.specs.Sheets.{Scene, IsOwn, NeedsFollow}
use Rattle.net_law.proofs.PartsLemmas.Plain.{driver_own, driver_follows}
use Rattle.blk_law.specs.Sheets.Parts.{BlkPart, DiskDevice, BlkDriver, BlkVirt, BlkClient}
use Rattle.blk_law.specs.Sheets.Table.{blk_sheet}
use Rattle.blk_law.proofs.SheetsLemmas.Plain.{disk_own, disk_follows, client_own, client_follows}
use Rattle.blk_law.proofs.SheetsLemmas.Serving.{virt_own, virt_follows}

pub blk_own : (scene : Scene) (p : BlkPart) → IsOwn (blk_sheet scene p)
blk_own scene (DiskDevice req resp image) = disk_own scene req resp image
blk_own scene (BlkDriver ways) = driver_own scene ways
blk_own scene (BlkVirt req resp sectors pool clients) = virt_own scene req resp sectors pool clients
blk_own scene (BlkClient req resp asks pool) = client_own scene req resp asks pool

pub blk_follows : (scene : Scene) (p : BlkPart) → NeedsFollow (blk_sheet scene p)
blk_follows scene (DiskDevice req resp image) = disk_follows scene req resp image
blk_follows scene (BlkDriver ways) = driver_follows scene ways
blk_follows scene (BlkVirt req resp sectors pool clients) = virt_follows scene req resp sectors pool clients
blk_follows scene (BlkClient req resp asks pool) = client_follows scene req resp asks pool
