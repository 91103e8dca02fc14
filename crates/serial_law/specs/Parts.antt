-- The kinds of actor of the serial class, each told by the queues that it has: these begin at no
-- fixed number.
use Rattle.std.specs.Prelude.{ℕ, Bool, List}

-- an actor of the serial class, its queues, and the bytes that it has to say, or for each of its
-- clients whether bytes for it may be dropped
pub data SerialPart : Type 0 where
  SerialDevice : (rx tx : ℕ) (input : List ℕ) → SerialPart
  SerialDriver : (device_rx device_tx rx tx : ℕ) → SerialPart
  SerialReceiver : (rx : ℕ) (clients : List ℕ) (drops : List Bool) → SerialPart
  SerialSender : (tx : ℕ) (clients : List ℕ) → SerialPart
  SerialClient : (rx tx : ℕ) (script : List ℕ) → SerialPart
