use Rattle.std.proofs.Common.{length}
use Rattle.switched_law.specs.SwitchOwners.Owning.{switch_keepers}
use Rattle.switched_law.proofs.SwitchOwners.Spread.{sizes_at, half, spread}
use Rattle.switched_law.proofs.SwitchOwners.Keepers.{have_keepers}
use Rattle.switched_law.proofs.switch_owners.keepers_law.Goals as goal

pub returns : goal.returns
returns c = λ ports rows start can q made begins. have_keepers ports rows start can q made begins (c.spread_law.ensures.dealt (sizes_at (length ports.macs)) half (switch_keepers (length ports.macs)) (spread (length ports.macs)))
