-- The serial class where some of its clients are hostile: what it brings to the others and to the
-- line.
use Rattle.std.specs.Prelude.{◌≡◌, ◌+◌, ℕ, Bool, false, Some, List, [], ◌∷◌, length, slice_get}
use Rattle.cargo_core.specs.Lists.{IsPrefix, PrefixMerge}
use Rattle.wire_core.specs.declared.names.QueueRow.{QueueRow}
use Rattle.wire_core.specs.Fates.{without}
use Rattle.class_expect.specs.SerialSwitch.Switching.{input_of}
use Rattle.play_core.specs.Moved.{Moved}
use Rattle.play_core.specs.Names.{by_sort}
use Rattle.serial_law.specs.Parts.{SerialPart, SerialDevice, SerialDriver, SerialReceiver}
use Rattle.serial_law.specs.Parts.{SerialSender, SerialClient}
use Rattle.serial_law.specs.Bytes.{bytes_in}
use Rattle.serial_law.specs.Table.{Marks}
use Rattle.serial_law.specs.Serial.{SerialClass}

-- which clients of the class are hostile, by their numbers
abbrev pub Rogues : Type 0
Rogues = ℕ → Bool

-- queue n is there, whoever has its ends
abbrev pub HasQueue : List QueueRow → ℕ → Type 0
HasQueue rows n = (row : QueueRow) × (slice_get rows n ≡ Some row)

-- each actor of the class is there (There says how) but its hostile clients, of which nothing is
-- asked; and each queue is there
pub record IsSerialBeside (There : SerialPart → Type 0) (rogues : Rogues) (rows : List QueueRow)
    (c : SerialClass) : Type 0 where
  pub device : There (SerialDevice c.device_rx c.device_tx c.input)
  pub driver : There (SerialDriver c.device_rx c.device_tx c.rx c.tx)
  pub receiver : There (SerialReceiver c.rx c.client_rx c.drops)
  pub sender : There (SerialSender c.tx c.client_tx)
  pub client : (k q p : ℕ) (script : List ℕ) → rogues k ≡ false
      → slice_get c.client_rx k ≡ Some q → slice_get c.client_tx k ≡ Some p
      → slice_get c.scripts k ≡ Some script → There (SerialClient q p script)
  pub rx_count : length c.client_rx ≡ length c.scripts
  pub tx_count : length c.client_tx ≡ length c.scripts
  pub has_device_rx : HasQueue rows c.device_rx
  pub has_device_tx : HasQueue rows c.device_tx
  pub has_rx : HasQueue rows c.rx
  pub has_tx : HasQueue rows c.tx
  pub has_client_rx : (k q : ℕ) → slice_get c.client_rx k ≡ Some q → HasQueue rows q
  pub has_client_tx : (k q : ℕ) → slice_get c.client_tx k ≡ Some q → HasQueue rows q

-- what clients say, from a number on: each its script, but a hostile one the bytes that were taken
-- of it
abbrev pub said_from : Rogues → Moved → (k : ℕ) → List ℕ → List (List ℕ) → List (List ℕ)
said_from rogues m k [] scripts = []
said_from rogues m k (q ∷ qs) [] = []
said_from rogues m k (q ∷ qs) (script ∷ scripts) =
    by_sort (rogues k) (bytes_in (m.taken q)) script ∷ said_from rogues m (k + 1) qs scripts

-- so do all clients
abbrev pub said_beside : Rogues → SerialClass → Moved → List (List ℕ)
said_beside rogues c m = said_from rogues m 0 c.client_tx c.scripts

-- each client's record, the bytes that it took, is a beginning of its part of the input without
-- what is marked as dropped, also of what a hostile one took, and the line, the bytes that the
-- device took, is a merge of beginnings of what the clients say
pub record ArrivesBeside (marks : Marks) (rogues : Rogues) (c : SerialClass)
    (m : Moved) : Type 0 where
  pub records : (k q : ℕ) → slice_get c.client_rx k ≡ Some q
      → IsPrefix (bytes_in (m.taken q))
      (without (marks k) (input_of (length c.client_rx) k c.input))
  pub line : PrefixMerge (said_beside rogues c m) (bytes_in (m.taken c.device_tx))
