-- What was dropped, as calls tell it, of the bytes for serial clients and of the frames for network
-- clients: the calls that were made before the journal begins, and those of the journal.
use Rattle.std.specs.Prelude.{◌≡◌, ◌+◌, ◌++◌, ◌≤◌, ℕ, Bool, true, Some, List, [], length, slice_get}
use Rattle.frame_core.specs.declared.mac.Mac.{Mac}
use Rattle.wire_core.specs.declared.names.Entry.{Entry}
use Rattle.wire_core.specs.declared.names.Event.{Event}
use Rattle.wire_core.specs.Bells.{bit}
use Rattle.wire_core.specs.Ends.{Consumer, Producer}
use Rattle.wire_core.specs.Fates.{fate_of, marked}
use Rattle.wire_core.specs.Journal.{EachMoment, History}
use Rattle.serial_virt.specs.Shares.{heard, policy_at}
use Rattle.play_core.specs.Looks.{events_of}
use Rattle.play_core.specs.Moved.{Moved, gone_at, moved, taken}
use Rattle.serial_law.specs.Bytes.{bytes_in}
use Rattle.serial_law.specs.Table.{Marks, SharesOut}
use Rattle.serial_law.specs.Dropped.{told_marks}
use Rattle.serial_law.specs.Serial.{SerialClass}
use Rattle.net_copier.specs.Copying.{copier_word}
use Rattle.net_law.specs.Dropped.{Marks as NetMarks, told_leases}
use Rattle.net_law.specs.Parts.Parts.{NetCopier}
use Rattle.net_law.specs.TxParts.Numbers.{NetPlace}
use Rattle.net_quiet.specs.Still.{copier_gone}
use Rattle.actor_set.specs.Parts.{Part, RxPart, NetworkPart}

-- all calls: those before the journal, and the journal's
abbrev pub calls_by : (past : List Event) → List Entry → List Event
calls_by past journal = past ++ events_of journal

-- after a journal each receiving virtualiser has shared out what it took, but for those bytes that
-- were dropped as all calls tell
abbrev pub MarksStand : History → List Part → (past : List Event) → List Entry → Type 0
MarksStand history cast past journal = (k rx : ℕ) (clients : List ℕ) (drops : List Bool)
    → slice_get cast k ≡ Some (RxPart rx clients drops)
    → SharesOut (told_marks rx clients drops (calls_by past journal)) drops rx clients
    (moved history journal)

-- what calls tell of the leases that a copier took, by the queues on which leases and buffers come:
-- as many were dropped as looks for a buffer were in vain, and none where it waits; no more are
-- settled than came; and where it may drop, all are but one that still waits
pub record SettlesLeases (leases buffers : ℕ) (drops : Bool) (calls : List Event) (m : Moved) :
    Type 0 where
  pub as_many : marked (told_leases drops leases buffers calls)
      ≡ gone_at drops m Consumer buffers
  pub few : length (told_leases drops leases buffers calls) ≤ length (m.taken leases)
  pub all : drops ≡ true → length (told_leases drops leases buffers calls)
      + bit (fate_of (copier_word drops leases buffers) calls).waits ≡ length (m.taken leases)

-- after a journal each copier has settled its leases so as all calls tell
abbrev pub LeasesStand : History → List Part → (past : List Event) → List Entry → Type 0
LeasesStand history cast past journal = (k la lf ra rf : ℕ) (drops : Bool)
    → slice_get cast k ≡ Some (NetworkPart (NetCopier la lf ra rf drops))
    → SettlesLeases la rf drops (calls_by past journal) (moved history journal)

-- these are all calls: some that were made before the journal begins, and the journal's; and by
-- them it was shared out so, and leases were settled so, at each moment
pub record HaveTold (history : History) (cast : List Part) (journal : List Entry)
    (calls : List Event) : Type 0 where
  pub past : List Event
  pub calls_are : calls ≡ calls_by past journal
  pub marks : EachMoment (MarksStand history cast past) journal
  pub leases : EachMoment (LeasesStand history cast past) journal
  -- where bytes for some client may be dropped, the calls before the journal begins took at its
  -- virtualiser's input what the history tells
  pub hears : (k rx : ℕ) (clients : List ℕ) (drops : List Bool)
      → slice_get cast k ≡ Some (RxPart rx clients drops) → (c : ℕ) → policy_at drops c ≡ true
      → heard rx past ≡ bytes_in (taken history rx [])

-- of each client's part of the input, byte by byte, whether it was dropped, as these calls tell
abbrev pub dropped_by : SerialClass → List Event → Marks
dropped_by c calls = told_marks c.rx c.client_rx c.drops calls

-- of each client's part as many bytes were dropped as looks for room in its queue were in vain, and
-- none where its bytes wait for room
abbrev pub DropsAsMany : SerialClass → Marks → Moved → Type 0
DropsAsMany c marks m = (k q : ℕ) → slice_get c.client_rx k ≡ Some q
    → marked (marks k) ≡ gone_at (policy_at c.drops k) m Producer q

-- of the frames for each client as many were dropped as its copier's looks for a buffer were in
-- vain, and none where its copier waits
abbrev pub NetDropsAsMany : NetPlace → NetMarks → Moved → Type 0
NetDropsAsMany net marks m = (k : ℕ) (mac : Mac) → slice_get net.macs k ≡ Some mac
    → marked (marks k) ≡ copier_gone net m k
