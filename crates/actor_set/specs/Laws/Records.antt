-- What actors recorded, bytes or frames, as they keep it and as their lists say that they took.
use Rattle.std.specs.Prelude.{ℕ, List, [], map}
use Rattle.cargo_core.specs.declared.item.Reply.{Reply}
use Rattle.wire_core.specs.Lists.{Passed}
use Rattle.play_core.specs.Moved.{Moved}
use Rattle.serial_law.specs.Bytes.{bytes_in}
use Rattle.buffer_kit.specs.Entries.{frame_of}
use Rattle.net_law.specs.Parts.Parts.{NetPart, NetDevice, NetDriver, NetReceiver, NetCopier}
use Rattle.net_law.specs.Parts.Parts.{NetClient}
use Rattle.client_programs.specs.Blk.Asking.{replies_to}
use Rattle.blk_law.specs.Sheets.Parts.{BlkPart, DiskDevice, BlkDriver, BlkVirt, BlkClient}
use Rattle.actor_set.specs.Parts.{Part, UartPart, DriverPart, RxPart, TxPart, ClientPart}
use Rattle.actor_set.specs.Parts.{NetworkPart, SendingPart, BlockPart, HostilePart}
use Rattle.actor_set.specs.declared.actor.Actor.{Actor}
use Rattle.actor_set.specs.declared.actor.Actor.TheVariants as Kinds

-- the bytes that an actor recorded: a device what was sent on its line, a client what it got
abbrev pub record_of : Actor → List ℕ
record_of (Kinds.UartDevice x) = x.terminal.recorded.shown
record_of (Kinds.SerialClient x) = x.terminal.recorded.shown
record_of (Kinds.UartDriver x) = []
record_of (Kinds.SerialVirtRx x) = []
record_of (Kinds.SerialVirtTx x) = []
record_of (Kinds.EthDevice x) = []
record_of (Kinds.EthDriver x) = []
record_of (Kinds.NetVirtRx x) = []
record_of (Kinds.NetCopier x) = []
record_of (Kinds.NetClient x) = []
record_of (Kinds.NetVirtTx x) = []
record_of (Kinds.DiskDevice x) = []
record_of (Kinds.BlkDriver x) = []
record_of (Kinds.BlkVirt x) = []
record_of (Kinds.BlkClient x) = []
record_of (Kinds.Rogue x) = []

-- the bytes that a part recorded: a device for its line and a client for its record what they took
abbrev pub record_by : Moved → Part → List ℕ
record_by m (UartPart rx tx input) = bytes_in (m.taken tx)
record_by m (ClientPart rx tx script) = bytes_in (m.taken rx)
record_by m (DriverPart device_rx device_tx rx tx) = []
record_by m (RxPart rx clients drops) = []
record_by m (TxPart tx clients) = []
record_by m (NetworkPart p) = []
record_by m (SendingPart p) = []
record_by m (BlockPart p) = []
record_by m (HostilePart p) = []

-- the frames that an actor recorded: a device what was sent on its wire, a client what it got
abbrev pub frames_got : Actor → List (List ℕ)
frames_got (Kinds.UartDevice x) = []
frames_got (Kinds.UartDriver x) = []
frames_got (Kinds.SerialVirtRx x) = []
frames_got (Kinds.SerialVirtTx x) = []
frames_got (Kinds.SerialClient x) = []
frames_got (Kinds.EthDevice x) = x.wire.tape.shown
frames_got (Kinds.EthDriver x) = []
frames_got (Kinds.NetVirtRx x) = []
frames_got (Kinds.NetCopier x) = []
frames_got (Kinds.NetClient x) = x.frames.tape.shown
frames_got (Kinds.NetVirtTx x) = []
frames_got (Kinds.DiskDevice x) = []
frames_got (Kinds.BlkDriver x) = []
frames_got (Kinds.BlkVirt x) = []
frames_got (Kinds.BlkClient x) = []
frames_got (Kinds.Rogue x) = []

-- the frames that a part of the network class recorded, by the entries that it took with their
-- bodies: a device for its wire and a client for its record the frames in them
abbrev pub net_frames_by : Passed → NetPart → List (List ℕ)
net_frames_by passed (NetDevice rx_free rx_active tx_active tx_free frames drops) =
    map frame_of (passed.taken tx_active)
net_frames_by passed (NetClient program mac rx_active rx_free tx_active tx_free rx tx) =
    map frame_of (passed.taken rx_active)
net_frames_by passed (NetDriver ways) = []
net_frames_by passed (NetReceiver active free pool clients) = []
net_frames_by passed (NetCopier lease_active lease_free rx_active rx_free drops) = []

-- and those that a part recorded
abbrev pub frames_by : Passed → Part → List (List ℕ)
frames_by passed (UartPart rx tx input) = []
frames_by passed (DriverPart device_rx device_tx rx tx) = []
frames_by passed (RxPart rx clients drops) = []
frames_by passed (TxPart tx clients) = []
frames_by passed (ClientPart rx tx script) = []
frames_by passed (NetworkPart p) = net_frames_by passed p
frames_by passed (SendingPart p) = []
frames_by passed (BlockPart p) = []
frames_by passed (HostilePart p) = []

-- the replies that an actor recorded: a block client what it got
abbrev pub replies_got : Actor → List Reply
replies_got (Kinds.UartDevice x) = []
replies_got (Kinds.UartDriver x) = []
replies_got (Kinds.SerialVirtRx x) = []
replies_got (Kinds.SerialVirtTx x) = []
replies_got (Kinds.SerialClient x) = []
replies_got (Kinds.EthDevice x) = []
replies_got (Kinds.EthDriver x) = []
replies_got (Kinds.NetVirtRx x) = []
replies_got (Kinds.NetCopier x) = []
replies_got (Kinds.NetClient x) = []
replies_got (Kinds.NetVirtTx x) = []
replies_got (Kinds.DiskDevice x) = []
replies_got (Kinds.BlkDriver x) = []
replies_got (Kinds.BlkVirt x) = []
replies_got (Kinds.BlkClient x) = x.asking.kept.shown
replies_got (Kinds.Rogue x) = []

-- the replies that a part of the block class recorded, by the entries that it took with their
-- bodies: a client the responses to what it asks
abbrev pub blk_replies_by : Passed → BlkPart → List Reply
blk_replies_by passed (DiskDevice req resp image) = []
blk_replies_by passed (BlkDriver ways) = []
blk_replies_by passed (BlkVirt req resp sectors pool clients) = []
blk_replies_by passed (BlkClient req resp asks pool) = replies_to asks (passed.taken resp)

-- and those that a part recorded
abbrev pub replies_by : Passed → Part → List Reply
replies_by passed (UartPart rx tx input) = []
replies_by passed (DriverPart device_rx device_tx rx tx) = []
replies_by passed (RxPart rx clients drops) = []
replies_by passed (TxPart tx clients) = []
replies_by passed (ClientPart rx tx script) = []
replies_by passed (NetworkPart p) = []
replies_by passed (SendingPart p) = []
replies_by passed (BlockPart p) = blk_replies_by passed p
replies_by passed (HostilePart p) = []
