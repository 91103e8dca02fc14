-- The table of the serial class: all that is said of one of its actors, one case for each kind.
use Rattle.std.specs.Prelude.{◌≡◌, ◌==◌, ◌+◌, ◌-◌, ◌≤◌, ◌||◌, ℕ, Bool, true, false, not, nat_lt}
use Rattle.std.specs.Prelude.{if◌then◌else◌, Some, List, [], ◌∷◌, ◌++◌, length, map, slice_get}
use Rattle.cargo_core.specs.Lists.{IsPrefix, Merge}
use Rattle.cargo_core.specs.declared.item.Item.{Item}
use Rattle.wire_core.specs.Ends.{Producer}
use Rattle.wire_core.specs.Fates.{without, marked}
use Rattle.class_expect.specs.SerialSwitch.Switching.{input_of}
use Rattle.serial_virt.specs.Shares.{policy_at}
use Rattle.play_core.specs.Moved.{Moved, gone_at}
use Rattle.play_core.specs.Wants.{Want, intake, outlet, intake_want, outlet_want}
use Rattle.play_core.specs.Sheets.{Sheet, Due}
use Rattle.serial_law.specs.Parts.{SerialPart, SerialDevice, SerialDriver, SerialReceiver}
use Rattle.serial_law.specs.Parts.{SerialSender, SerialClient}
use Rattle.serial_law.specs.Bytes.{bytes_in, byte_items, is_owed}

-- of each client's part of the input, byte by byte, whether it was dropped
abbrev pub Marks : Type 0
Marks = ℕ → List Bool

-- each client was given its part of what was taken, without what is marked of it as dropped, but
-- that over all clients at most one byte is owed; and of each part as many bytes are marked as
-- looks for room in the client's queue were in vain, where its bytes may be dropped
pub record SharesOut (marks : Marks) (drops : List Bool) (rx : ℕ) (clients : List ℕ)
    (m : Moved) : Type 0 where
  pub owner : ℕ
  pub owed : List Item
  pub few : length owed ≤ 1
  pub given : (c q : ℕ) → slice_get clients c ≡ Some q
      → m.sent q ++ (if owner == c then owed else [])
      ≡ byte_items (without (marks c) (input_of (length clients) c (bytes_in (m.taken rx))))
  pub settled : (c q : ℕ) → slice_get clients c ≡ Some q
      → length (marks c) ≤ length (input_of (length clients) c (bytes_in (m.taken rx)))
  pub as_many : (c q : ℕ) → slice_get clients c ≡ Some q
      → marked (marks c) ≡ gone_at (policy_at drops c) m Producer q

-- so it is with some bytes marked
pub record SharesSome (drops : List Bool) (rx : ℕ) (clients : List ℕ) (m : Moved) : Type 0 where
  pub marks : Marks
  pub out : SharesOut marks drops rx clients m

-- as many bytes are due to a client in all as its part has, but for those that were dropped
abbrev pub due_to : (all : ℕ) (bytes : List ℕ) (drops : List Bool) → (c q : ℕ) → Moved → ℕ
due_to all bytes drops c q m =
    length (input_of all c bytes) - gone_at (policy_at drops c) m Producer q

-- fewer were put to its queue
abbrev pub is_owed_to : (all : ℕ) (bytes : List ℕ) (drops : List Bool) → (c q : ℕ) → Moved → Bool
is_owed_to all bytes drops c q m = nat_lt (length (m.sent q)) (due_to all bytes drops c q m)

-- what was put, with at most one byte after it, is a merge of all that was taken
pub record MergesAll (tx : ℕ) (clients : List ℕ) (m : Moved) : Type 0 where
  pub owed : List Item
  pub few : length owed ≤ 1
  pub merged : Merge (map (λ q. m.taken q) clients) (m.sent tx ++ owed)

-- of all clients, of which those from number c on have these queues, some is owed a byte of these
abbrev pub some_owed : (all : ℕ) (bytes : List ℕ) (drops : List Bool) → ℕ → List ℕ → Moved → Bool
some_owed all bytes drops c [] m = false
some_owed all bytes drops c (q ∷ qs) m = is_owed_to all bytes drops c q m
    || some_owed all bytes drops (c + 1) qs m

-- the ends at these clients' queues, each with room needed for what is owed to the client
abbrev pub shares : (all : ℕ) (bytes : List ℕ) (drops : List Bool) → ℕ → List ℕ → Moved
    → List Want
shares all bytes drops c [] m = []
shares all bytes drops c (q ∷ qs) m = outlet_want q (is_owed_to all bytes drops c q m)
    ∷ shares all bytes drops (c + 1) qs m

-- as many bytes are due at each as to the client
abbrev pub share_dues : (all : ℕ) (bytes : List ℕ) (drops : List Bool) → ℕ → List ℕ → Moved
    → List Due
share_dues all bytes drops c [] m = []
share_dues all bytes drops c (q ∷ qs) m =
    record { queue = q; number = due_to all bytes drops c q m }
    ∷ share_dues all bytes drops (c + 1) qs m

-- how much was taken from these queues
abbrev pub taken_count : List ℕ → Moved → ℕ
taken_count [] m = 0
taken_count (q ∷ qs) m = length (m.taken q) + taken_count qs m

-- more was taken from these queues than was put to one
abbrev pub is_held : ℕ → List ℕ → Moved → Bool
is_held tx qs m = nat_lt (length (m.sent tx)) (taken_count qs m)

-- what is said of an actor: what it puts is what its script and what it took allow, and it needs
-- room for what it still has to put, and what may come while it has nothing of it still to put
abbrev pub serial_sheet : SerialPart → Sheet
serial_sheet (SerialDevice rx tx input) = record {
  ends = intake tx ∷ outlet rx ∷ [];
  row = λ m. IsPrefix (m.sent rx) (byte_items input);
  wants = λ m. intake_want tx true ∷ outlet_want rx (is_owed (m.sent rx) input) ∷ [];
  dues = λ m. record { queue = rx; number = length input } ∷ [];
  hand = λ pool. [];
}
serial_sheet (SerialDriver device_rx device_tx rx tx) = record {
  ends = intake device_rx ∷ outlet rx ∷ intake tx ∷ outlet device_tx ∷ [];
  row = λ m. IsPrefix (m.sent rx) (m.taken device_rx) × IsPrefix (m.sent device_tx) (m.taken tx);
  wants = λ m.
      intake_want device_rx (not (is_owed (m.sent rx) (m.taken device_rx)))
      ∷ outlet_want rx (is_owed (m.sent rx) (m.taken device_rx))
      ∷ intake_want tx (not (is_owed (m.sent device_tx) (m.taken tx)))
      ∷ outlet_want device_tx (is_owed (m.sent device_tx) (m.taken tx))
      ∷ [];
  dues = λ m. record { queue = rx; number = length (m.taken device_rx) }
      ∷ record { queue = device_tx; number = length (m.taken tx) } ∷ [];
  hand = λ pool. [];
}
serial_sheet (SerialReceiver rx clients drops) = record {
  ends = intake rx ∷ map outlet clients;
  row = λ m. SharesSome drops rx clients m;
  wants = λ m. intake_want rx (not (some_owed (length clients)
      (bytes_in (m.taken rx)) drops 0 clients m))
      ∷ shares (length clients) (bytes_in (m.taken rx)) drops 0 clients m;
  dues = λ m. share_dues (length clients) (bytes_in (m.taken rx)) drops 0 clients m;
  hand = λ pool. [];
}
serial_sheet (SerialSender tx clients) = record {
  ends = outlet tx ∷ map intake clients;
  row = λ m. MergesAll tx clients m;
  wants = λ m. outlet_want tx (is_held tx clients m)
      ∷ map (λ q. intake_want q (not (is_held tx clients m))) clients;
  dues = λ m. record { queue = tx; number = taken_count clients m } ∷ [];
  hand = λ pool. [];
}
serial_sheet (SerialClient rx tx script) = record {
  ends = intake rx ∷ outlet tx ∷ [];
  row = λ m. IsPrefix (m.sent tx) (byte_items script);
  wants = λ m. intake_want rx true ∷ outlet_want tx (is_owed (m.sent tx) script) ∷ [];
  dues = λ m. record { queue = tx; number = length script } ∷ [];
  hand = λ pool. [];
}
