-- The receiving virtualiser: what it must fit, what it stands for, and its row. It may drop a byte
-- where a look for room in its client's queue answers no.
use Rattle.std.specs.Prelude.{◌≡◌, ◌==◌, ◌<◌, ◌≤◌, ℕ, Bool, true, ◌&&◌, Option, Some, None, is_some}
use Rattle.std.specs.Prelude.{is_none, List, [], ◌∷◌, ◌++◌, map, length, option_to_list, slice_get}
use Rattle.std.specs.Prelude.{if◌then◌else◌}
use Rattle.std.specs.Option.{ForSome, option_map}
use Rattle.cargo_core.specs.declared.item.Body.{Body}
use Rattle.cargo_core.specs.Items.{kind_of}
use Rattle.cargo_core.specs.declared.item.QueueKind.TheVariants as Kind
use Rattle.wire_core.specs.declared.names.QueueId.{QueueId}
use Rattle.wire_core.specs.declared.names.Side.TheVariants.{Forward, Backward}
use Rattle.wire_core.specs.Deeds.{Cargo}
use Rattle.wire_core.specs.Lists.{Passed}
use Rattle.wire_core.specs.Ends.{Role, Consumer, Producer, End}
use Rattle.wire_core.specs.Fates.{noes_at, without, marked}
use Rattle.turn_kit.specs.Table.{Agrees, start_state}
use Rattle.turn_kit.specs.Turns.{Post, Round}
use Rattle.turn_kit.specs.Posts.{intake_post}
use Rattle.turn_kit.specs.Dropping.{with_drops}
use Rattle.turn_kit.specs.Hands.{Balances, bodies_of, bodies_at}
use Rattle.turn_kit.specs.ManyEnds.{FitsOutlets, outlet_queues, outlet_posts, needs_from, is_here}
use Rattle.turn_kit.specs.declared.ends.Outlet.{Outlet}
use Rattle.serial_virt.specs.Forgetting.{intake_forgotten, outlet_forgotten}
use Rattle.serial_virt.specs.Shares.{Taker, taker_at, policy_at, heard, byte_fate, ClientStands}
use Rattle.class_expect.specs.SerialSwitch.Carried.{byte_cargo, bytes_carried}
use Rattle.class_expect.specs.SerialSwitch.Switching.{input_of}
use Rattle.class_expect.specs.SerialSwitch.Standing.{StandsAfter}
use Rattle.serial_virt.specs.declared.rx.SerialVirtRx.{SerialVirtRx}

-- the virtualiser's ends are its own, and as it keeps them; all are queues of bytes; and each
-- client has its policy
pub record FitsRx (ends : Role → ℕ → End) (v : SerialVirtRx) : Type 0 where
  pub input : Agrees (ends Consumer v.input.queue.0) v.input.state
  pub outputs : FitsOutlets ends v.outputs
  pub hears : (ends Consumer v.input.queue.0).kind ≡ Kind.Byte
  pub says : (k : ℕ) (q : QueueId) → slice_get (outlet_queues v.outputs) k ≡ Some q
      → (ends Producer q.0).kind ≡ Kind.Byte
  pub load : ForSome v.load (λ c. kind_of c.0 ≡ Kind.Byte)
  pub policies : length v.drops.items ≡ length (outlet_queues v.outputs)

-- what is owed to the client at a place
abbrev pub owed_to : Option Cargo → (owner k : ℕ) → List Cargo
owed_to load owner k = if owner == k then option_to_list load else []

-- how many clients the virtualiser has
abbrev pub clients_of : SerialVirtRx → ℕ
clients_of v = length (outlet_queues v.outputs)

-- whether bytes for the client of a place may be dropped
abbrev pub policy_of : SerialVirtRx → ℕ → Bool
policy_of v k = policy_at v.drops.items k

-- the client of a place
abbrev pub taker_of : SerialVirtRx → ℕ → QueueId → Taker
taker_of v k q = taker_at (outlet_queues v.outputs) v.drops.items k q

-- the switch has read all that was taken; each client was given its part of it, but for what was
-- dropped of it and what is owed to it; who is owed a byte is there; and where some client's bytes
-- may be dropped, the calls tell what was taken
pub record RxStandsFor (v : SerialVirtRx) (passed : Passed) : Type 0 where
  pub switched : StandsAfter (clients_of v) (bytes_carried (passed.taken v.input.queue.0)) v.switch
  pub to : is_some v.load ≡ true → v.to < clients_of v
  pub told : (k : ℕ) → policy_of v k ≡ true
      → heard v.input.queue.0 passed.calls ≡ bytes_carried (passed.taken v.input.queue.0)
  pub clients : (k : ℕ) (q : QueueId) → slice_get (outlet_queues v.outputs) k ≡ Some q
      → ClientStands (policy_of v k) (byte_fate v.input.queue.0 (taker_of v k q) passed.calls)
      (noes_at Producer q.0 passed.calls)
      (input_of (clients_of v) k (bytes_carried (passed.taken v.input.queue.0)))
      (passed.sent q.0) (owed_to v.load v.to k)

-- each client was given its part of what was taken, without what was dropped of it, but that over
-- all clients at most one byte is owed; and of a client whose bytes may be dropped what is dropped
-- was taken, a byte for each look in vain for room
pub record RxRow (v : SerialVirtRx) (passed : Passed) : Type 0 where
  pub owner : ℕ
  pub owed : List Cargo
  pub few : length owed ≤ 1
  pub given : (k : ℕ) (q : QueueId) → slice_get (outlet_queues v.outputs) k ≡ Some q
      → passed.sent q.0 ++ (if owner == k then owed else [])
      ≡ map byte_cargo (without (byte_fate v.input.queue.0 (taker_of v k q) passed.calls).dropped
      (input_of (clients_of v) k (bytes_carried (passed.taken v.input.queue.0))))
  pub settled : (k : ℕ) (q : QueueId) → slice_get (outlet_queues v.outputs) k ≡ Some q
      → policy_of v k ≡ true
      → length (byte_fate v.input.queue.0 (taker_of v k q) passed.calls).dropped
      ≤ length (input_of (clients_of v) k (bytes_carried (passed.taken v.input.queue.0)))
  pub each : (k : ℕ) (q : QueueId) → slice_get (outlet_queues v.outputs) k ≡ Some q
      → policy_of v k ≡ true → noes_at Producer q.0 passed.calls
      ≡ marked (byte_fate v.input.queue.0 (taker_of v k q) passed.calls).dropped

-- what a virtualiser stands for that never drops: the switch has read all that was taken; each
-- client was given its part of it, but for what is owed to it, and who is owed a byte is there
pub record HoldingRxStands (v : SerialVirtRx) (passed : Passed) : Type 0 where
  pub switched : StandsAfter (clients_of v) (bytes_carried (passed.taken v.input.queue.0)) v.switch
  pub to : is_some v.load ≡ true → v.to < clients_of v
  pub given : (k : ℕ) (q : QueueId) → slice_get (outlet_queues v.outputs) k ≡ Some q
      → passed.sent q.0 ++ owed_to v.load v.to k
      ≡ map byte_cargo (input_of (clients_of v) k (bytes_carried (passed.taken v.input.queue.0)))

-- the row of a virtualiser that never drops: each client was given its part of what was taken, but
-- that over all clients at most one byte is owed
pub record HoldingRxRow (v : SerialVirtRx) (passed : Passed) : Type 0 where
  pub owner : ℕ
  pub owed : List Cargo
  pub few : length owed ≤ 1
  pub given : (k : ℕ) (q : QueueId) → slice_get (outlet_queues v.outputs) k ≡ Some q
      → passed.sent q.0 ++ (if owner == k then owed else [])
      ≡ map byte_cargo (input_of (clients_of v) k (bytes_carried (passed.taken v.input.queue.0)))

-- one of its ends
abbrev pub RxEnd : SerialVirtRx → Role → ℕ → Type 0
RxEnd v Consumer n = n ≡ v.input.queue.0
RxEnd v Producer n =
    (k : ℕ) × (q : QueueId) × (slice_get (outlet_queues v.outputs) k ≡ Some q) × (n ≡ q.0)

-- its queues, the input's first
abbrev pub rx_queues : SerialVirtRx → List QueueId
rx_queues v = v.input.queue ∷ outlet_queues v.outputs

-- an end in its start state
abbrev pub new_outlet : QueueId → Outlet
new_outlet q = record { queue = q; state = start_state Backward }

-- the receiving virtualiser at its start, with its input, its clients' queues and their policies
pub record IsNewRx (from : QueueId) (clients : List QueueId) (drops : List Bool)
    (v : SerialVirtRx) : Type 0 where
  pub input : v.input.queue ≡ from
  pub input_state : v.input.state ≡ start_state Forward
  pub outputs : v.outputs.ends.items ≡ map new_outlet clients
  pub policies : v.drops.items ≡ drops
  pub switched : StandsAfter (length clients) [] v.switch
  pub load : v.load ≡ None
  pub last : v.turn.last ≡ 65535

-- the place of the client that is owed a byte
abbrev pub place_loaded : SerialVirtRx → Option ℕ
place_loaded v = option_map (λ c. v.to) v.load

-- a byte is owed to the client at a place
abbrev pub is_owed_at : SerialVirtRx → ℕ → Bool
is_owed_at v k = (k == v.to) && is_some v.load

-- the ends where bytes go
abbrev pub client_posts : SerialVirtRx → List Post
client_posts v = with_drops v.drops.items (outlet_posts v.outputs)

-- its ends: the input is needed while nothing is owed
abbrev pub rx_round : SerialVirtRx → Round
rx_round v = record {
  posts = intake_post v.input ∷ client_posts v;
  needs = is_none v.load ∷ needs_from (is_here (place_loaded v)) 0 (outlet_queues v.outputs);
  last = v.turn.last;
}

-- its ends where it waits for each
abbrev pub holding_rx_round : SerialVirtRx → Round
holding_rx_round v = record {
  posts = intake_post v.input ∷ outlet_posts v.outputs;
  needs = is_none v.load ∷ needs_from (is_here (place_loaded v)) 0 (outlet_queues v.outputs);
  last = v.turn.last;
}

-- the bodies in its hand: that of the byte that it owes
abbrev pub rx_hand : SerialVirtRx → List Body
rx_hand v = bodies_of (option_to_list v.load)

-- what it took it read, and keeps for good: the bytes that it gives are new entries
abbrev pub RxBalances : SerialVirtRx → Passed → Type 0
RxBalances v passed =
    Balances [] (bodies_at passed.taken (v.input.queue.0 ∷ []))
    (bodies_at passed.sent (map (λ q. q.0) (outlet_queues v.outputs))) (rx_hand v)
    (bodies_at passed.taken (v.input.queue.0 ∷ []))

-- what is loaded, and for whom, where a client was given a byte or none was
abbrev pub loaded_with : Option Cargo → Option (ℕ × ℕ) → Option Cargo
loaded_with load None = load
loaded_with load (Some g) = Some (byte_cargo g.1)

-- the client that is owed a byte, or that was last
abbrev pub loaded_for : ℕ → Option (ℕ × ℕ) → ℕ
loaded_for to None = to
loaded_for to (Some g) = g.0

-- the same without the last looks
pub record RxForgot (old new : SerialVirtRx) : Type 0 where
  pub input : new.input ≡ intake_forgotten old.input
  pub outputs : new.outputs.ends.items ≡ map outlet_forgotten old.outputs.ends.items
  pub rest : new ≡ record old { input = new.input; outputs = new.outputs }
