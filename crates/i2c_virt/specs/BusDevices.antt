-- The bus as an actor: what it must fit, what it stands for, and its row.
use Rattle.std.specs.Prelude.{◌≡◌, ◌≤◌, ◌&&◌, ℕ, Bool, true, false, is_some, is_none, Some, None}
use Rattle.std.specs.Prelude.{List, [], ◌∷◌, ◌++◌, All, length, option_to_list}
use Rattle.std.specs.Option.{ForSome}
use Rattle.cargo_core.specs.declared.item.QueueKind.TheVariants as Kind
use Rattle.cargo_core.specs.Items.{kind_of}
use Rattle.cargo_core.specs.Lists.{IsPrefix}
use Rattle.wire_core.specs.declared.names.QueueId.{QueueId}
use Rattle.wire_core.specs.declared.names.Side.TheVariants.{Forward, Backward}
use Rattle.wire_core.specs.Deeds.{Cargo}
use Rattle.wire_core.specs.Lists.{Passed}
use Rattle.wire_core.specs.Ends.{Role, Consumer, Producer, End}
use Rattle.turn_kit.specs.Table.{Agrees, start_state}
use Rattle.turn_kit.specs.Turns.{Round}
use Rattle.turn_kit.specs.Posts.{intake_post, outlet_post}
use Rattle.i2c_virt.specs.I2cKit.Devices.{new_devices, AreWhole}
use Rattle.i2c_virt.specs.I2cKit.Entries.{is_bus_request}
use Rattle.i2c_virt.specs.I2cKit.Serving.{answer_to, answers_to, done, all_done, AreInTurn}
use Rattle.i2c_virt.specs.declared.bus_device.BusDevice.{BusDevice}

-- its ends are its own, and as it keeps them, at two Net queues; each device has its bytes
pub record FitsBus (ends : Role → ℕ → End) (b : BusDevice) : Type 0 where
  pub input : Agrees (ends Consumer b.input.queue.0) b.input.state
  pub output : Agrees (ends Producer b.output.queue.0) b.output.state
  pub comes : (ends Consumer b.input.queue.0).kind ≡ Kind.Net
  pub goes : (ends Producer b.output.queue.0).kind ≡ Kind.Net
  pub load : ForSome b.load (λ c. kind_of c.0 ≡ Kind.Net)
  pub whole : AreWhole b.devices.items

-- on devices of its addresses, which were zeros at the start, it did the requests that it took in
-- turn, in their order, and put its answers or has the last one in its hand; so it has one that
-- came out of turn
pub record BusStandsFor (b : BusDevice) (passed : Passed) : Type 0 where
  pub requests : List Cargo
  pub taken : passed.taken b.input.queue.0 ≡ requests ++ option_to_list b.stray
  pub answered : passed.sent b.output.queue.0 ++ option_to_list b.load
      ≡ answers_to (new_devices b.addresses) requests
  pub devices : b.devices.items ≡ all_done (new_devices b.addresses) requests
  pub in_turn : AreInTurn requests
  pub out_of_turn : ForSome b.stray (λ x. is_bus_request x ≡ false)

-- of the requests that it took in turn, which are all but for one that came last: entry k of what
-- it put answers request k, on the devices with the requests before it done
pub record BusRow (addresses : List ℕ) (req resp : ℕ) (passed : Passed) : Type 0 where
  pub requests : List Cargo
  pub stray : List Cargo
  pub taken : passed.taken req ≡ requests ++ stray
  pub few : length stray ≤ 1
  pub in_turn : AreInTurn requests
  pub out_of_turn : All (λ (x : Cargo). is_bus_request x ≡ false) stray
  pub answers : IsPrefix (passed.sent resp) (answers_to (new_devices addresses) requests)

-- it needs a request: no answer is to be put, and none came out of turn
abbrev pub is_serving : BusDevice → Bool
is_serving b = is_none b.load && is_none b.stray

-- its ends: it needs a request while no answer is to be put, and owes the answer; it needs and owes
-- nothing once a request came out of turn
abbrev pub bus_round : BusDevice → Round
bus_round b = record {
  posts = intake_post b.input ∷ outlet_post b.output ∷ [];
  needs = is_serving b ∷ is_some b.load ∷ [];
  last = b.turn.last;
}

-- the queues and the addresses stay
pub record SameBus (old new : BusDevice) : Type 0 where
  pub input : new.input.queue ≡ old.input.queue
  pub output : new.output.queue ≡ old.output.queue
  pub addresses : new.addresses ≡ old.addresses

-- a bus in its start state
pub record IsNewBus (req resp : QueueId) (addresses : List ℕ) (b : BusDevice) : Type 0 where
  pub input : b.input ≡ record { queue = req; state = start_state Forward }
  pub output : b.output ≡ record { queue = resp; state = start_state Backward }
  pub addresses_are : b.addresses ≡ addresses
  pub devices : b.devices.items ≡ new_devices addresses
  pub load : b.load ≡ None
  pub stray : b.stray ≡ None

-- it did a request that came, and has the answer in its hand
pub record Did (old : BusDevice) (x : Cargo) (new : BusDevice) : Type 0 where
  pub devices : new.devices.items ≡ done old.devices.items x
  pub load : new.load ≡ Some (answer_to old.devices.items x)
  pub stray : new.stray ≡ old.stray

-- it keeps an entry that came out of turn
pub record Strayed (old : BusDevice) (x : Cargo) (new : BusDevice) : Type 0 where
  pub devices : new.devices ≡ old.devices
  pub load : new.load ≡ old.load
  pub stray : new.stray ≡ Some x

-- the one where an entry is in turn, the other where it isn't
abbrev pub AcceptedIf : Bool → BusDevice → Cargo → BusDevice → Type 0
AcceptedIf true old x new = Did old x new
AcceptedIf false old x new = Strayed old x new

-- the bus once this entry was taken
abbrev pub Accepted : BusDevice → Cargo → BusDevice → Type 0
Accepted old x new = AcceptedIf (is_bus_request x) old x new
