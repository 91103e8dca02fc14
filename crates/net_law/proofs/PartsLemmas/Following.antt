use Rattle.play_core.specs.Sheets.{Scene, IsOwn, NeedsFollow}
use Rattle.net_law.specs.Parts.Parts.{NetPart, NetDevice, NetDriver, NetReceiver, NetCopier, NetClient}
use Rattle.net_law.specs.Parts.Table.{net_sheet}
use Rattle.net_law.proofs.PartsLemmas.Plain.{device_own, device_follows, driver_own, driver_follows, copier_own, copier_follows, client_own, client_follows}
use Rattle.net_law.proofs.PartsLemmas.Sharing.{receiver_own, receiver_follows}

pub net_own : (scene : Scene) (p : NetPart) → IsOwn (net_sheet scene p)
net_own scene (NetDevice rx_free rx_active tx_active tx_free frames drops) = device_own scene rx_free rx_active tx_active tx_free frames drops
net_own scene (NetDriver ways) = driver_own scene ways
net_own scene (NetReceiver active free pool clients) = receiver_own scene active free pool clients
net_own scene (NetCopier lease_active lease_free rx_active rx_free drops) = copier_own scene lease_active lease_free rx_active rx_free drops
net_own scene (NetClient program mac rx_active rx_free tx_active tx_free rx tx) = client_own scene program mac rx_active rx_free tx_active tx_free rx tx

pub net_follows : (scene : Scene) (p : NetPart) → NeedsFollow (net_sheet scene p)
net_follows scene (NetDevice rx_free rx_active tx_active tx_free frames drops) = device_follows scene rx_free rx_active tx_active tx_free frames drops
net_follows scene (NetDriver ways) = driver_follows scene ways
net_follows scene (NetReceiver active free pool clients) = receiver_follows scene active free pool clients
net_follows scene (NetCopier lease_active lease_free rx_active rx_free drops) = copier_follows scene lease_active lease_free rx_active rx_free drops
net_follows scene (NetClient program mac rx_active rx_free tx_active tx_free rx tx) = client_follows scene program mac rx_active rx_free tx_active tx_free rx tx
