-- Which entries of a journal are drops, by the parts of its actors, and at which ends they drop.
use Rattle.std.specs.Prelude.{◌≡◌, ◌&&◌, ◌+◌, ◌++◌, ℕ, zero, suc, true, false, cond, Some, List, []}
use Rattle.std.specs.Prelude.{◌∷◌, length, slice_get}
use Rattle.std.specs.Option.{option_map_or}
use Rattle.wire_core.specs.Ends.{Role, role_of}
use Rattle.wire_core.specs.Marks.{Drops, is_vain_look}
use Rattle.sdf_plan.specs.declared.plan.Plan.{Plan}
use Rattle.trace_text.specs.declared.trace.Trace.{Trace}
use Rattle.trace_text.specs.Events.{serial_clients}
use Rattle.play_core.specs.Moved.{Seat}
use Rattle.play_core.specs.Wants.{intake}
use Rattle.serial_law.specs.Serial.{SerialClass}
use Rattle.net_law.specs.Parts.Numbers.{client_first, policy_at}
use Rattle.net_law.specs.TxParts.Numbers.{NetPlace}
use Rattle.actor_set.specs.Parts.{Part}
use Rattle.actor_set.specs.Laws.Kinds.{drop_seats, dropping_ends, has_seat}
use Rattle.cast_core.specs.Casts.{net_place}
use Rattle.cast_core.specs.Sources.{every_second, first_serial, serial_drops}

-- an entry is a drop where its actor looks in vain at an end at which its part drops
abbrev pub drops_in : List Part → Drops
drops_in cast e = is_vain_look e.event.op e.event.answer
    && option_map_or (λ p. has_seat (drop_seats p) (role_of e.event.op) e.event.queue.0)
    (slice_get cast e.actor.0) false

-- the ends at which bytes for clients of the serial class are dropped
abbrev pub serial_seats : SerialClass → List Seat
serial_seats c = dropping_ends c.client_rx c.drops

-- the ends at which the copiers of so many network clients drop frames for want of a buffer
abbrev pub copier_seats : NetPlace → (count : ℕ) → List Seat
copier_seats net zero = []
copier_seats net (suc k) = cond (policy_at net.drops k)
    (intake (client_first net.first k + 3) ∷ copier_seats net k) (copier_seats net k)

-- the ends at which the network's device and copiers do
abbrev pub net_seats : NetPlace → List Seat
net_seats net = cond net.device_drops
    (intake net.first ∷ copier_seats net (length net.macs)) (copier_seats net (length net.macs))

-- the ends at which bytes for the clients of a plan's serial class are dropped
abbrev pub line_seats : Plan → List Seat
line_seats plan = dropping_ends
    (every_second (first_serial plan + 4) (length (serial_clients plan))) (serial_drops plan)

-- all ends at which the actors of a plan drop
abbrev pub plan_seats : Plan → Trace → List Seat
plan_seats plan trace = net_seats (net_place plan trace) ++ line_seats plan

-- the actors of a cast drop at no other ends than these
abbrev pub DropOnlyAt : List Seat → List Part → Type 0
DropOnlyAt seats cast = (k : ℕ) (p : Part) → slice_get cast k ≡ Some p → (r : Role) (n : ℕ)
    → has_seat (drop_seats p) r n ≡ true → has_seat seats r n ≡ true
