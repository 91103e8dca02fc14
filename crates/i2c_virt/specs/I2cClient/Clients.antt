-- A client of the bus: what it must fit, what it stands for, and its row.
use Rattle.std.specs.Prelude.{◌≡◌, ◌+◌, ◌≤◌, ◌&&◌, ◌++◌, ℕ, Bool, true, false, is_some, is_none}
use Rattle.std.specs.Prelude.{Option, Some, None, List, [], ◌∷◌, All, length}
use Rattle.std.specs.Option.{ForSome, option_to_list}
use Rattle.cargo_core.specs.declared.item.PoolId.{PoolId}
use Rattle.cargo_core.specs.declared.item.QueueKind.TheVariants as Kind
use Rattle.wire_core.specs.declared.names.QueueId.{QueueId}
use Rattle.wire_core.specs.declared.names.Side.TheVariants.{Forward, Backward}
use Rattle.wire_core.specs.Deeds.{Cargo}
use Rattle.wire_core.specs.Lists.{Passed}
use Rattle.wire_core.specs.Ends.{Role, Consumer, Producer, End}
use Rattle.turn_kit.specs.Table.{Agrees, start_state}
use Rattle.turn_kit.specs.Turns.{Round}
use Rattle.turn_kit.specs.Posts.{intake_post, outlet_post}
use Rattle.i2c_text.specs.declared.bus.BusAsk.{BusAsk}
use Rattle.i2c_text.specs.declared.report.BusReply.{BusReply}
use Rattle.i2c_virt.specs.declared.i2c_kit.page.TheConstants.{BUFFERS}
use Rattle.i2c_virt.specs.declared.i2c_client.client.BusClient.{BusClient}
use Rattle.i2c_virt.specs.declared.i2c_client.asking.Asking.{Asking}
use Rattle.i2c_virt.specs.I2cClient.Asking.{IsAsking, AskingStands, SameAsking, IsNewAsking, AreAsked}
use Rattle.i2c_virt.specs.I2cClient.Asking.{AreAnswered, due_after, is_due}

-- its ends are its own, and as it keeps them, at two Net queues
pub record FitsClient (ends : Role → ℕ → End) (c : BusClient) : Type 0 where
  pub responses : Agrees (ends Consumer c.responses.queue.0) c.responses.state
  pub requests : Agrees (ends Producer c.requests.queue.0) c.requests.state
  pub comes : (ends Consumer c.responses.queue.0).kind ≡ Kind.Net
  pub goes : (ends Producer c.requests.queue.0).kind ≡ Kind.Net
  pub asking : IsAsking c.asking

-- what it took is what came in turn and at most one entry, which came last and out of turn; it
-- asked and recorded by what came in turn
pub record ClientStands (responses requests : ℕ) (w : Asking) (stray : Option Cargo)
    (passed : Passed) : Type 0 where
  pub came : List Cargo
  pub taken : passed.taken responses ≡ came ++ option_to_list stray
  pub stands : AskingStands w came (passed.sent requests)
  pub in_hand : length (passed.sent requests) ≤ length came + BUFFERS
  pub out_of_turn : ForSome stray
      (λ y. due_after w.pool (length (passed.sent requests)) (length came) y ≡ false)

-- the same of the client's own queues
abbrev pub ClientStandsFor : BusClient → Passed → Type 0
ClientStandsFor c passed =
    ClientStands c.responses.queue.0 c.requests.queue.0 c.asking c.stray passed

-- of the entries that it took in turn, which are all but for one that came last: what it put are
-- its requests in their order, each in its buffer, which was in its hand: request k goes in the
-- buffer of this number modulo 2, and no more than 2 aren't answered; and its replies are what it
-- took
pub record ClientRow (pool : PoolId) (script : List BusAsk) (req resp : ℕ)
    (replies : List BusReply) (passed : Passed) : Type 0 where
  pub came : List Cargo
  pub stray : List Cargo
  pub taken : passed.taken resp ≡ came ++ stray
  pub few : length stray ≤ 1
  pub out_of_turn : All
      (λ (y : Cargo). due_after pool (length (passed.sent req)) (length came) y ≡ false) stray
  pub asks : AreAsked pool 0 script (passed.sent req)
  pub in_hand : length (passed.sent req) ≤ length came + BUFFERS
  pub replied : AreAnswered pool 0 script came replies

-- whether it owes a request: one is ready, and nothing came out of turn
abbrev pub is_asking : BusClient → Bool
is_asking c = is_some c.asking.load && is_none c.stray

-- its ends: it needs responses, and owes the request that is ready; after an entry out of turn it
-- needs and owes nothing
abbrev pub client_round : BusClient → Round
client_round c = record {
  posts = intake_post c.responses ∷ outlet_post c.requests ∷ [];
  needs = is_none c.stray ∷ is_asking c ∷ [];
  last = c.turn.last;
}

-- the queues, the pool and the script stay
pub record SameClient (old new : BusClient) : Type 0 where
  pub responses : new.responses.queue ≡ old.responses.queue
  pub requests : new.requests.queue ≡ old.requests.queue
  pub asking : SameAsking old.asking new.asking

-- a client in its start state
pub record IsNewClient (req resp : QueueId) (pool : PoolId) (script : List BusAsk)
    (c : BusClient) : Type 0 where
  pub responses : c.responses ≡ record { queue = resp; state = start_state Forward }
  pub requests : c.requests ≡ record { queue = req; state = start_state Backward }
  pub asking : IsNewAsking pool script c.asking
  pub stray : c.stray ≡ None
  pub last : c.turn.last ≡ 65535

-- the reply that was due came
pub record Came (old : BusClient) (y : Cargo) (new : BusClient) : Type 0 where
  pub stray : new.stray ≡ old.stray
  pub stands : (came put : List Cargo) → AskingStands old.asking came put
      → AskingStands new.asking (came ++ y ∷ []) put

-- an entry came that wasn't due
pub record Strayed (old : BusClient) (y : Cargo) (new : BusClient) : Type 0 where
  pub stray : new.stray ≡ Some y
  pub asking : new.asking ≡ old.asking

-- the one where an entry is due, the other where it isn't
abbrev pub ReceivedIf : Bool → BusClient → Cargo → BusClient → Type 0
ReceivedIf true old y new = Came old y new
ReceivedIf false old y new = Strayed old y new

-- a client once an entry was taken
abbrev pub Received : BusClient → Cargo → BusClient → Type 0
Received old y new = ReceivedIf (is_due old.asking y) old y new
