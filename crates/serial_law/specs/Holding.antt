-- The serial class where no client's bytes may be dropped: what is then said of its receiver, and
-- what the class brings.
use Rattle.std.specs.Prelude.{◌≡◌, ◌==◌, ◌≤◌, ℕ, if◌then◌else◌, Some, List, [], ◌++◌, length}
use Rattle.std.specs.Prelude.{slice_get}
use Rattle.cargo_core.specs.Lists.{IsPrefix, Merge, PrefixMerge}
use Rattle.cargo_core.specs.declared.item.Item.{Item}
use Rattle.class_expect.specs.SerialSwitch.Switching.{input_of}
use Rattle.play_core.specs.Moved.{Moved}
use Rattle.serial_law.specs.Bytes.{bytes_in, byte_items}
use Rattle.serial_law.specs.Serial.{SerialClass}
use Rattle.serial_law.specs.Beside.{Rogues, said_beside}

-- each client was given its part of what was taken, but that over all clients at most one byte is
-- owed
pub record HoldingShares (rx : ℕ) (clients : List ℕ) (m : Moved) : Type 0 where
  pub owner : ℕ
  pub owed : List Item
  pub few : length owed ≤ 1
  pub given : (c q : ℕ) → slice_get clients c ≡ Some q
      → m.sent q ++ (if owner == c then owed else [])
      ≡ byte_items (input_of (length clients) c (bytes_in (m.taken rx)))

-- each client's record, the bytes that it took, is a beginning of its part of the input, and the
-- line, the bytes that the device took, is a merge of beginnings of the scripts
pub record HoldingInPart (c : SerialClass) (m : Moved) : Type 0 where
  pub records : (k q : ℕ) → slice_get c.client_rx k ≡ Some q
      → IsPrefix (bytes_in (m.taken q)) (input_of (length c.client_rx) k c.input)
  pub line : PrefixMerge c.scripts (bytes_in (m.taken c.device_tx))

-- each client's record is its whole part of the input, and the line is a merge of the whole scripts
pub record HoldingWhole (c : SerialClass) (m : Moved) : Type 0 where
  pub records : (k q : ℕ) → slice_get c.client_rx k ≡ Some q
      → bytes_in (m.taken q) ≡ input_of (length c.client_rx) k c.input
  pub line : Merge c.scripts (bytes_in (m.taken c.device_tx))

-- the first of them beside hostile clients
pub record HoldingBeside (rogues : Rogues) (c : SerialClass) (m : Moved) : Type 0 where
  pub records : (k q : ℕ) → slice_get c.client_rx k ≡ Some q
      → IsPrefix (bytes_in (m.taken q)) (input_of (length c.client_rx) k c.input)
  pub line : PrefixMerge (said_beside rogues c m) (bytes_in (m.taken c.device_tx))
