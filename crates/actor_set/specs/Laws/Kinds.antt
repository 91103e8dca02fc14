-- The table of the kinds of actor, of all classes: what is said of each of them, how it goes about,
-- and what a trace gives them beside what they say.
use Rattle.std.specs.Prelude.{◌≡◌, ◌==◌, ℕ, Bool, false, not, cond, ◌&&◌, ◌||◌, Some, List, [], ◌∷◌}
use Rattle.std.specs.Prelude.{flat_map, slice_get}
use Rattle.std.specs.Option.{option_map_or}
use Rattle.cargo_core.specs.declared.item.QueueKind.{QueueKind}
use Rattle.cargo_core.specs.declared.item.QueueKind.TheVariants as Kind
use Rattle.wire_core.specs.Ends.{Role, Consumer, Producer}
use Rattle.wire_core.specs.Journal.{Hostiles}
use Rattle.wire_core.specs.Marks.{is_role}
use Rattle.play_core.specs.Manners.{Manner, Calm, Hostile, Manners, hostile_by}
use Rattle.play_core.specs.Moved.{Seat}
use Rattle.play_core.specs.Sheets.{Scene, Sheet}
use Rattle.play_core.specs.Wants.{intake, outlet}
use Rattle.serial_law.specs.Parts.{SerialPart, SerialDevice, SerialDriver, SerialReceiver}
use Rattle.serial_law.specs.Parts.{SerialSender, SerialClient}
use Rattle.serial_law.specs.Table.{serial_sheet}
use Rattle.net_law.specs.Parts.Parts.{NetPart, NetDevice, NetDriver, NetReceiver, NetCopier}
use Rattle.net_law.specs.Parts.Parts.{NetClient, Way}
use Rattle.net_law.specs.Parts.Table.{net_sheet}
use Rattle.net_law.specs.TxParts.Table.{send_sheet}
use Rattle.blk_law.specs.Sheets.Parts.{BlkPart, DiskDevice, BlkDriver, BlkVirt, BlkClient}
use Rattle.blk_law.specs.Sheets.Table.{blk_sheet}
use Rattle.actor_set.specs.Parts.{Part, UartPart, DriverPart, RxPart, TxPart, ClientPart}
use Rattle.actor_set.specs.Parts.{NetworkPart, SendingPart, BlockPart, HostilePart}
use Rattle.actor_set.specs.Rogues.{rogue_manner, rogue_sheet, pages_in}
use Rattle.actor_set.specs.StartStates.{kind_by, kind_of_two, taken_kind}

-- an actor of the serial class as one of all
abbrev pub serial_part : SerialPart → Part
serial_part (SerialDevice rx tx input) = UartPart rx tx input
serial_part (SerialDriver device_rx device_tx rx tx) = DriverPart device_rx device_tx rx tx
serial_part (SerialReceiver rx clients drops) = RxPart rx clients drops
serial_part (SerialSender tx clients) = TxPart tx clients
serial_part (SerialClient rx tx script) = ClientPart rx tx script

-- the frames that a trace gives an actor of the network class: those that its device receives
abbrev pub net_frames_of : NetPart → List (List ℕ)
net_frames_of (NetDevice rx_free rx_active tx_active tx_free frames drops) = frames
net_frames_of (NetDriver ways) = []
net_frames_of (NetReceiver active free pool clients) = []
net_frames_of (NetCopier lease_active lease_free rx_active rx_free drops) = []
net_frames_of (NetClient program mac rx_active rx_free tx_active tx_free rx tx) = []

-- the frames that a trace gives a part
abbrev pub frames_of : Part → List (List ℕ)
frames_of (UartPart rx tx input) = []
frames_of (DriverPart device_rx device_tx rx tx) = []
frames_of (RxPart rx clients drops) = []
frames_of (TxPart tx clients) = []
frames_of (ClientPart rx tx script) = []
frames_of (NetworkPart p) = net_frames_of p
frames_of (SendingPart p) = []
frames_of (BlockPart p) = []
frames_of (HostilePart p) = []

-- the image that a trace gives an actor of the block class: that of its disk at the start
abbrev pub blk_image_of : BlkPart → List ℕ
blk_image_of (DiskDevice req resp image) = image
blk_image_of (BlkDriver ways) = []
blk_image_of (BlkVirt req resp sectors pool clients) = []
blk_image_of (BlkClient req resp asks pool) = []

-- the image that a trace gives a part
abbrev pub image_of : Part → List ℕ
image_of (UartPart rx tx input) = []
image_of (DriverPart device_rx device_tx rx tx) = []
image_of (RxPart rx clients drops) = []
image_of (TxPart tx clients) = []
image_of (ClientPart rx tx script) = []
image_of (NetworkPart p) = []
image_of (SendingPart p) = []
image_of (BlockPart p) = blk_image_of p
image_of (HostilePart p) = []

-- what a trace gives a cast beside its parts
abbrev pub scene_of : List Part → Scene
scene_of cast = record { frames = flat_map frames_of cast; image = flat_map image_of cast }

-- what is said of a part, in a scene
abbrev pub sheet : Scene → Part → Sheet
sheet scene (UartPart rx tx input) = serial_sheet (SerialDevice rx tx input)
sheet scene (DriverPart device_rx device_tx rx tx) =
    serial_sheet (SerialDriver device_rx device_tx rx tx)
sheet scene (RxPart rx clients drops) = serial_sheet (SerialReceiver rx clients drops)
sheet scene (TxPart tx clients) = serial_sheet (SerialSender tx clients)
sheet scene (ClientPart rx tx script) = serial_sheet (SerialClient rx tx script)
sheet scene (NetworkPart p) = net_sheet scene p
sheet scene (SendingPart p) = send_sheet p
sheet scene (BlockPart p) = blk_sheet scene p
sheet scene (HostilePart p) = rogue_sheet p.inputs p.outputs (pages_in p.pages)

-- how a part goes about: all are calm but a hostile client
abbrev pub manner_of : Part → Manner
manner_of (UartPart rx tx input) = Calm
manner_of (DriverPart device_rx device_tx rx tx) = Calm
manner_of (RxPart rx clients drops) = Calm
manner_of (TxPart tx clients) = Calm
manner_of (ClientPart rx tx script) = Calm
manner_of (NetworkPart p) = Calm
manner_of (SendingPart p) = Calm
manner_of (BlockPart p) = Calm
manner_of (HostilePart p) = rogue_manner p.start

-- how each actor of a cast goes about
abbrev pub manners : List Part → Manners
manners cast k = option_map_or manner_of (slice_get cast k) Calm

-- what the queue of a number carries, where it is the input or the output of these ways, of which
-- the first moves requests and the others responses
abbrev pub ways_kind : List Way → Role → ℕ → QueueKind
ways_kind [] r n = Kind.Resp
ways_kind (w ∷ ways) Consumer n = kind_of_two w.input Kind.Req Kind.Resp n
ways_kind (w ∷ ways) Producer n = kind_of_two w.output Kind.Req Kind.Resp n

-- what the queue at an end of a part of the block class carries
abbrev pub blk_kind : BlkPart → Role → ℕ → QueueKind
blk_kind (DiskDevice req resp image) r n = kind_by Kind.Req Kind.Resp r
blk_kind (BlkDriver ways) r n = ways_kind ways r n
blk_kind (BlkVirt req resp sectors pool clients) Consumer n = kind_of_two resp Kind.Resp Kind.Req n
blk_kind (BlkVirt req resp sectors pool clients) Producer n = kind_of_two req Kind.Req Kind.Resp n
blk_kind (BlkClient req resp asks pool) r n = kind_by Kind.Resp Kind.Req r

-- what the queue at an end of a part carries
abbrev pub part_kind : Part → Role → ℕ → QueueKind
part_kind (UartPart rx tx input) r n = Kind.Byte
part_kind (DriverPart device_rx device_tx rx tx) r n = Kind.Byte
part_kind (RxPart rx clients drops) r n = Kind.Byte
part_kind (TxPart tx clients) r n = Kind.Byte
part_kind (ClientPart rx tx script) r n = Kind.Byte
part_kind (NetworkPart p) r n = Kind.Net
part_kind (SendingPart p) r n = Kind.Net
part_kind (BlockPart p) r n = blk_kind p r n
part_kind (HostilePart p) r n = kind_by (taken_kind p.kind) p.kind r

-- of these clients' queues the ends at which bytes may be dropped
abbrev pub dropping_ends : (clients : List ℕ) (drops : List Bool) → List Seat
dropping_ends [] drops = []
dropping_ends (q ∷ qs) [] = []
dropping_ends (q ∷ qs) (d ∷ ds) = cond d (outlet q ∷ dropping_ends qs ds) (dropping_ends qs ds)

-- of a part of the network the end at which frames may be dropped for want of a buffer: a device's
-- and a copier's
abbrev pub net_drop_seats : NetPart → List Seat
net_drop_seats (NetDevice rx_free rx_active tx_active tx_free frames drops) =
    cond drops (intake rx_free ∷ []) []
net_drop_seats (NetDriver ways) = []
net_drop_seats (NetReceiver active free pool clients) = []
net_drop_seats (NetCopier lease_active lease_free rx_active rx_free drops) =
    cond drops (intake rx_free ∷ []) []
net_drop_seats (NetClient program mac rx_active rx_free tx_active tx_free rx tx) = []

-- the ends at which a part drops what it has for want of what it would wait for there
abbrev pub drop_seats : Part → List Seat
drop_seats (UartPart rx tx input) = []
drop_seats (DriverPart device_rx device_tx rx tx) = []
drop_seats (RxPart rx clients drops) = dropping_ends clients drops
drop_seats (TxPart tx clients) = []
drop_seats (ClientPart rx tx script) = []
drop_seats (NetworkPart p) = net_drop_seats p
drop_seats (SendingPart p) = []
drop_seats (BlockPart p) = []
drop_seats (HostilePart p) = []

-- the end of a role at a queue is one of these
abbrev pub has_seat : List Seat → Role → ℕ → Bool
has_seat [] r n = false
has_seat (s ∷ seats) r n = (is_role s.role r && (s.queue == n)) || has_seat seats r n

-- nobody of a cast is hostile
abbrev pub AllCalm : List Part → Type 0
AllCalm cast = (k : ℕ) (p : Part) → slice_get cast k ≡ Some p → manner_of p ≡ Calm

-- which of them are hostile
abbrev pub hostiles : List Part → Hostiles
hostiles cast = hostile_by (manners cast)

-- an actor isn't runnable: a calm one rests and isn't called, a hostile one rests
abbrev pub idles : Manner → Bool → Bool → Bool
idles Calm rests called = rests && not called
idles (Hostile done) rests called = rests
