-- Casts that are the same but for what their hostile clients have yet to do.
use Rattle.std.specs.Prelude.{◌≡◌, false, List, [], map}
use Rattle.actor_set.specs.Parts.{Part, UartPart, DriverPart, RxPart, TxPart, ClientPart}
use Rattle.actor_set.specs.Parts.{NetworkPart, SendingPart, BlockPart, HostilePart}

-- a part without what a hostile client had to do where its journal began
abbrev pub disarmed : Part → Part
disarmed (UartPart rx tx input) = UartPart rx tx input
disarmed (DriverPart device_rx device_tx rx tx) = DriverPart device_rx device_tx rx tx
disarmed (RxPart rx clients drops) = RxPart rx clients drops
disarmed (TxPart tx clients) = TxPart tx clients
disarmed (ClientPart rx tx script) = ClientPart rx tx script
disarmed (NetworkPart p) = NetworkPart p
disarmed (SendingPart p) = SendingPart p
disarmed (BlockPart p) = BlockPart p
disarmed (HostilePart p) =
    HostilePart (record p { start = record { acts = []; looked = false; kept = 0 } })

-- two casts are the same, whatever their hostile clients have yet to do
abbrev pub AreAlike : List Part → List Part → Type 0
AreAlike olds news = map disarmed news ≡ map disarmed olds
