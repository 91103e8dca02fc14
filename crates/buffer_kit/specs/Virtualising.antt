-- The ends of a virtualiser: one for each way of the driver, and one for each way of each client.
use Rattle.std.specs.Prelude.{◌≡◌, ◌⊎◌, ◌+◌, ◌<◌, ◌^◌, ℕ, Bool, None, Some, List, ◌∷◌, ◌++◌, length}
use Rattle.std.specs.Prelude.{map, slice_get}
use Rattle.cargo_core.specs.declared.item.QueueKind.{QueueKind}
use Rattle.cargo_core.specs.declared.item.QueueKind.TheVariants as Kind
use Rattle.wire_core.specs.declared.names.QueueId.{QueueId}
use Rattle.wire_core.specs.declared.names.Side.TheVariants.{Forward, Backward}
use Rattle.wire_core.specs.Ends.{Role, Consumer, Producer, End}
use Rattle.turn_kit.specs.Table.{Agrees, start_state}
use Rattle.turn_kit.specs.Turns.{Post, Round}
use Rattle.turn_kit.specs.Posts.{intake_post, outlet_post}
use Rattle.turn_kit.specs.ManyEnds.{FitsIntakes, FitsOutlets, intake_queues, outlet_queues}
use Rattle.turn_kit.specs.ManyEnds.{intake_posts, outlet_posts, needs_from}
use Rattle.turn_kit.specs.declared.ends.Intake.{Intake}
use Rattle.turn_kit.specs.declared.ends.Outlet.{Outlet}
use Rattle.buffer_kit.specs.declared.virt_ends.VirtEnd.{VirtEnd}
use Rattle.buffer_kit.specs.declared.virt_ends.VirtEnd.TheVariants as At
use Rattle.buffer_kit.specs.declared.virt_ends.VirtEnds.{VirtEnds}

-- the queues on which entries come from the clients, in the order of the clients
abbrev pub from_queues : VirtEnds → List QueueId
from_queues v = intake_queues v.from_clients

-- the queues on which entries go to the clients, in the order of the clients
abbrev pub to_queues : VirtEnds → List QueueId
to_queues v = outlet_queues v.to_clients

-- of which kind the queues are that an end of each sort is at
pub record EndKinds : Type 0 where
  pub comes : QueueKind
  pub goes : QueueKind
  pub come_from : QueueKind
  pub go_to : QueueKind

-- the ends are its own, and as it keeps them; no two are one, and their queues are of these kinds
pub record FitsKinds (kinds : EndKinds) (ends : Role → ℕ → End) (v : VirtEnds) : Type 0 where
  pub input : Agrees (ends Consumer v.input.queue.0) v.input.state
  pub output : Agrees (ends Producer v.output.queue.0) v.output.state
  pub from_clients : FitsIntakes ends v.from_clients
  pub to_clients : FitsOutlets ends v.to_clients
  pub comes : (ends Consumer v.input.queue.0).kind ≡ kinds.comes
  pub goes : (ends Producer v.output.queue.0).kind ≡ kinds.goes
  pub come_from : (k : ℕ) (q : QueueId) → slice_get (from_queues v) k ≡ Some q
      → (ends Consumer q.0).kind ≡ kinds.come_from
  pub go_to : (k : ℕ) (q : QueueId) → slice_get (to_queues v) k ≡ Some q
      → (ends Producer q.0).kind ≡ kinds.go_to
  pub inputs_apart : (k : ℕ) (q : QueueId) → slice_get (from_queues v) k ≡ Some q
      → v.input.queue.0 ≡ q.0 → ⊥
  pub outputs_apart : (k : ℕ) (q : QueueId) → slice_get (to_queues v) k ≡ Some q
      → v.output.queue.0 ≡ q.0 → ⊥
  pub few_from : length (from_queues v) < 2 ^ 32
  pub few_to : length (to_queues v) < 2 ^ 32

-- all queues are of the network
abbrev pub net_kinds : EndKinds
net_kinds = record {
  comes = Kind.Net;
  goes = Kind.Net;
  come_from = Kind.Net;
  go_to = Kind.Net;
}

-- requests go to the driver and come from the clients, and responses come from the driver and go to
-- the clients
abbrev pub blk_kinds : EndKinds
blk_kinds = record {
  comes = Kind.Resp;
  goes = Kind.Req;
  come_from = Kind.Req;
  go_to = Kind.Resp;
}

-- the same where all are queues of the network
abbrev pub FitsVirt : (Role → ℕ → End) → VirtEnds → Type 0
FitsVirt ends v = FitsKinds net_kinds ends v

-- one of its ends
abbrev pub VirtOwns : VirtEnds → Role → ℕ → Type 0
VirtOwns v Consumer n = (n ≡ v.input.queue.0)
    ⊎ ((k : ℕ) × (q : QueueId) × (slice_get (from_queues v) k ≡ Some q) × (n ≡ q.0))
VirtOwns v Producer n = (n ≡ v.output.queue.0)
    ⊎ ((k : ℕ) × (q : QueueId) × (slice_get (to_queues v) k ≡ Some q) × (n ≡ q.0))

-- the queues stay
pub record SameVirt (old new : VirtEnds) : Type 0 where
  pub input : new.input.queue ≡ old.input.queue
  pub output : new.output.queue ≡ old.output.queue
  pub from_clients : from_queues new ≡ from_queues old
  pub to_clients : to_queues new ≡ to_queues old

-- a consuming end in its start state
abbrev pub new_intake : QueueId → Intake
new_intake q = record { queue = q; state = start_state Forward }

-- a producing end in its start state
abbrev pub new_outlet : QueueId → Outlet
new_outlet q = record { queue = q; state = start_state Backward }

-- a virtualiser's ends in their start state, of these queues
pub record IsNewVirt (input output : QueueId) (from_clients to_clients : List QueueId)
    (v : VirtEnds) : Type 0 where
  pub input_is : v.input ≡ new_intake input
  pub output_is : v.output ≡ new_outlet output
  pub from_is : v.from_clients.ends.items ≡ map new_intake from_clients
  pub to_is : v.to_clients.ends.items ≡ map new_outlet to_clients
  pub last : v.turn.last ≡ 65535

-- a consuming end without its last look
abbrev pub intake_forgotten : Intake → Intake
intake_forgotten i = record i { state = record i.state { look = None } }

-- a producing end without its last look
abbrev pub outlet_forgotten : Outlet → Outlet
outlet_forgotten o = record o { state = record o.state { look = None } }

-- the same ends without their last looks
pub record VirtForgot (old new : VirtEnds) : Type 0 where
  pub input : new.input ≡ intake_forgotten old.input
  pub output : new.output ≡ outlet_forgotten old.output
  pub from_clients : new.from_clients.ends.items ≡ map intake_forgotten old.from_clients.ends.items
  pub to_clients : new.to_clients.ends.items ≡ map outlet_forgotten old.to_clients.ends.items
  pub turn : new.turn ≡ old.turn

-- the queues on which entries come, the driver's first
abbrev pub virt_came : VirtEnds → List ℕ
virt_came v = v.input.queue.0 ∷ map (λ q. q.0) (from_queues v)

-- the queues on which entries go, the driver's first
abbrev pub virt_went : VirtEnds → List ℕ
virt_went v = v.output.queue.0 ∷ map (λ q. q.0) (to_queues v)

-- its ends in their order: those of the driver, and then those from the clients and those to them
abbrev pub virt_posts : VirtEnds → List Post
virt_posts v = intake_post v.input ∷ outlet_post v.output
    ∷ (intake_posts v.from_clients ++ outlet_posts v.to_clients)

-- which of them are needed, or loaded
abbrev pub virt_needs : VirtEnds → (need owed : Bool) → (needs loads : ℕ → Bool) → List Bool
virt_needs v need owed needs loads = need ∷ owed
    ∷ (needs_from needs 0 (from_queues v) ++ needs_from loads 0 (to_queues v))

-- all ends with what is needed and loaded, and whose turn it is
abbrev pub virt_round : VirtEnds → (need owed : Bool) → (needs loads : ℕ → Bool) → Round
virt_round v need owed needs loads = record {
  posts = virt_posts v;
  needs = virt_needs v need owed needs loads;
  last = v.turn.last;
}

-- the place of an end among them
abbrev pub place_of : VirtEnds → VirtEnd → ℕ
place_of v At.Input = 0
place_of v At.Output = 1
place_of v (At.FromClient k) = 2 + k
place_of v (At.ToClient k) = 2 + length (from_queues v) + k

-- there is such an end
abbrev pub IsThere : VirtEnds → VirtEnd → Type 0
IsThere v At.Input = Unit {0}
IsThere v At.Output = Unit {0}
IsThere v (At.FromClient k) = k < length (from_queues v)
IsThere v (At.ToClient k) = k < length (to_queues v)

-- whether an end is needed, or loaded
abbrev pub need_of : (need owed : Bool) → (needs loads : ℕ → Bool) → VirtEnd → Bool
need_of need owed needs loads At.Input = need
need_of need owed needs loads At.Output = owed
need_of need owed needs loads (At.FromClient k) = needs k
need_of need owed needs loads (At.ToClient k) = loads k
