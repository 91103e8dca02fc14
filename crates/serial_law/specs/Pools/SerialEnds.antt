-- The ends of the serial class's actors, in the order of their table.
use Rattle.std.specs.Prelude.{List, [], ◌∷◌, map}
use Rattle.wire_core.specs.declared.names.QueueId.{QueueId}
use Rattle.play_core.specs.Moved.{Seat}
use Rattle.play_core.specs.Wants.{intake, outlet}
use Rattle.turn_kit.specs.ManyEnds.{intake_queues, outlet_queues}
use Rattle.turn_kit.specs.declared.pipe.Pipe.{Pipe}
use Rattle.device_model.specs.declared.serial_terminal.Terminal.{Terminal}
use Rattle.serial_virt.specs.declared.rx.SerialVirtRx.{SerialVirtRx}
use Rattle.serial_virt.specs.declared.tx.SerialVirtTx.{SerialVirtTx}

-- of a device or a client
abbrev pub terminal_ends : Terminal → List Seat
terminal_ends t = intake t.input.queue.0 ∷ outlet t.output.queue.0 ∷ []

-- of a driver
abbrev pub piped_ends : List Pipe → List Seat
piped_ends [] = []
piped_ends (p ∷ ps) = intake p.input.queue.0 ∷ outlet p.output.queue.0 ∷ piped_ends ps

-- of the receiving virtualiser
abbrev pub rx_ends : SerialVirtRx → List Seat
rx_ends v = intake v.input.queue.0
    ∷ map outlet (map (λ (q : QueueId). q.0) (outlet_queues v.outputs))

-- of the sending one
abbrev pub tx_ends : SerialVirtTx → List Seat
tx_ends v = outlet v.output.queue.0
    ∷ map intake (map (λ (q : QueueId). q.0) (intake_queues v.inputs))
