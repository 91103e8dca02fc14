-- The serial class as a whole: its actors and queues, and what it brings to its clients and to the
-- line.
use Rattle.std.specs.Prelude.{◌≡◌, ℕ, Bool, Some, List, length, slice_get}
use Rattle.cargo_core.specs.Lists.{IsPrefix, Merge, PrefixMerge}
use Rattle.wire_core.specs.declared.names.QueueRow.{QueueRow}
use Rattle.wire_core.specs.Journal.{Hostiles}
use Rattle.wire_core.specs.Fates.{without}
use Rattle.class_expect.specs.SerialSwitch.Switching.{input_of}
use Rattle.play_core.specs.Moved.{Moved}
use Rattle.play_core.specs.Still.{Holds}
use Rattle.serial_law.specs.Parts.{SerialPart, SerialDevice, SerialDriver, SerialReceiver}
use Rattle.serial_law.specs.Parts.{SerialSender, SerialClient}
use Rattle.serial_law.specs.Bytes.{bytes_in}
use Rattle.serial_law.specs.Table.{Marks}

-- the queues of the class, for each client whether bytes for it may be dropped, what its device
-- receives, and what its clients say
pub record SerialClass : Type 0 where
  pub device_rx : ℕ
  pub device_tx : ℕ
  pub rx : ℕ
  pub tx : ℕ
  pub client_rx : List ℕ
  pub client_tx : List ℕ
  pub drops : List Bool
  pub input : List ℕ
  pub scripts : List (List ℕ)

-- each actor of the class is there (There says how), each client with its two queues, and each
-- queue is there, has no hostile end and can hold an entry
pub record IsSerial (There : SerialPart → Type 0) (hostile : Hostiles) (rows : List QueueRow)
    (c : SerialClass) : Type 0 where
  pub device : There (SerialDevice c.device_rx c.device_tx c.input)
  pub driver : There (SerialDriver c.device_rx c.device_tx c.rx c.tx)
  pub receiver : There (SerialReceiver c.rx c.client_rx c.drops)
  pub sender : There (SerialSender c.tx c.client_tx)
  pub client : (k q p : ℕ) (script : List ℕ) → slice_get c.client_rx k ≡ Some q
      → slice_get c.client_tx k ≡ Some p
      → slice_get c.scripts k ≡ Some script → There (SerialClient q p script)
  pub rx_count : length c.client_rx ≡ length c.scripts
  pub tx_count : length c.client_tx ≡ length c.scripts
  pub holds_device_rx : Holds hostile rows c.device_rx 1
  pub holds_device_tx : Holds hostile rows c.device_tx 1
  pub holds_rx : Holds hostile rows c.rx 1
  pub holds_tx : Holds hostile rows c.tx 1
  pub holds_client_rx : (k q : ℕ) → slice_get c.client_rx k ≡ Some q → Holds hostile rows q 1
  pub holds_client_tx : (k q : ℕ) → slice_get c.client_tx k ≡ Some q → Holds hostile rows q 1

-- each client's record, the bytes that it took, is a beginning of its part of the input without
-- what is marked as dropped, and the line, the bytes that the device took, is a merge of beginnings
-- of the scripts
pub record ArrivesInPart (marks : Marks) (c : SerialClass) (m : Moved) : Type 0 where
  pub records : (k q : ℕ) → slice_get c.client_rx k ≡ Some q
      → IsPrefix (bytes_in (m.taken q))
      (without (marks k) (input_of (length c.client_rx) k c.input))
  pub line : PrefixMerge c.scripts (bytes_in (m.taken c.device_tx))

-- each client's record is its whole part of the input without what is marked as dropped, and the
-- line is a merge of the whole scripts
pub record ArrivesWhole (marks : Marks) (c : SerialClass) (m : Moved) : Type 0 where
  pub records : (k q : ℕ) → slice_get c.client_rx k ≡ Some q
      → bytes_in (m.taken q) ≡ without (marks k) (input_of (length c.client_rx) k c.input)
  pub line : Merge c.scripts (bytes_in (m.taken c.device_tx))
