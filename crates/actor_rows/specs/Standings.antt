-- The queues of these tests, and how an actor stands at them.
use Rattle.std.specs.Prelude.{◌≡◌, ◌<◌, ℕ, List, [], ◌∷◌, length}
use Rattle.cargo_core.specs.declared.item.QueueKind.TheVariants as Kind
use Rattle.wire_core.specs.declared.names.QueueId.{QueueId}
use Rattle.wire_core.specs.Ends.{Producer}
use Rattle.wire_core.specs.Queues.{Queue, end_at}
use Rattle.turn_kit.specs.ManyEnds.{intake_queues, outlet_queues}
use Rattle.pipe_driver.specs.Drivers.{FitsPipes, inputs_of, outputs_of}
use Rattle.pipe_driver.specs.Lengths.{two_pipes}
use Rattle.uart_driver.specs.declared.UartDriver.{UartDriver}
use Rattle.serial_virt.specs.Receiving.{FitsRx, IsNewRx}
use Rattle.serial_virt.specs.Sending.{FitsTx}
use Rattle.serial_virt.specs.declared.rx.SerialVirtRx.{SerialVirtRx}
use Rattle.serial_virt.specs.declared.tx.SerialVirtTx.{SerialVirtTx}

-- the queue of a number
abbrev pub queue : ℕ → QueueId
queue n = record { 0 = n }

-- the queues of eight clients
abbrev pub eight : List QueueId
eight = queue 1 ∷ queue 2 ∷ queue 3 ∷ queue 4 ∷ queue 5 ∷ queue 6 ∷ queue 7 ∷ queue 8 ∷ []

-- a virtualiser stands at the queues 0 to 8, and queue 0 is filled by hand
pub record RxStands (w : List Queue) (v : SerialVirtRx) : Type 0 where
  pub fits : FitsRx (end_at w) v
  pub long : length w ≡ 9
  pub kind : (end_at w Producer 0).kind ≡ Kind.Byte
  pub input : v.input.queue.0 ≡ 0
  pub outputs : outlet_queues v.outputs ≡ eight

-- a virtualiser in its start state at these queues, with a policy for each client
pub record IsNewSharer (v : SerialVirtRx) : Type 0 where
  pub new : IsNewRx (queue 0) eight v.drops.items v
  pub policies : length v.drops.items ≡ 8

-- a driver stands between the queues 0 and 2, and the queues 3 and 1; queue 0 is filled by hand
pub record DriverStands (w : List Queue) (d : UartDriver) : Type 0 where
  pub fits : FitsPipes (end_at w) (two_pipes d.driver.pipes)
  pub long : length w ≡ 4
  pub kind : (end_at w Producer 0).kind ≡ Kind.Byte
  pub inputs : inputs_of (two_pipes d.driver.pipes) ≡ 0 ∷ 3 ∷ []
  pub outputs : outputs_of (two_pipes d.driver.pipes) ≡ 2 ∷ 1 ∷ []

-- a transmit virtualiser stands at the queues 0 to 8, and the queues 1 to 8 are filled by hand
pub record TxStands (w : List Queue) (v : SerialVirtTx) : Type 0 where
  pub fits : FitsTx (end_at w) v
  pub long : length w ≡ 9
  pub kinds : (n : ℕ) → n < 9 → (end_at w Producer n).kind ≡ Kind.Byte
  pub output : v.output.queue.0 ≡ 0
  pub inputs : intake_queues v.inputs ≡ eight
