-- Buffers that go round on some queues, between a hostile client and those that serve it.
use Rattle.std.specs.Prelude.{◌≡◌, ◌≤◌, ℕ, true, Option, Some, List, [], ◌∷◌, slice_get}
use Rattle.cargo_core.specs.declared.item.Item.{Item}
use Rattle.cargo_core.specs.declared.item.PoolId.{PoolId}
use Rattle.wire_core.specs.declared.names.QueueId.{QueueId}
use Rattle.wire_core.specs.Deeds.{Cargo}
use Rattle.wire_core.specs.Lists.{Passed}
use Rattle.turn_kit.specs.Hands.{bodies_at}
use Rattle.buffer_kit.specs.Conserving.{Count, counted}
use Rattle.buffer_kit.specs.Virtualising.{from_queues, to_queues}
use Rattle.net_copier.specs.Copying.{CopierStandsFor}
use Rattle.net_copier.specs.declared.NetCopier.{NetCopier}
use Rattle.net_virt_tx.specs.Sending.{TxStandsFor}
use Rattle.net_virt_tx.specs.declared.NetVirtTx.{NetVirtTx}
use Rattle.net_virt_tx.specs.declared.client.Client.{Client}
use Rattle.blk_virt.specs.Requests.{moves_blocks, request_of}
use Rattle.blk_virt.specs.Virtualising.{BlkVirtStandsFor}
use Rattle.blk_virt.specs.declared.client.Client.{Client as Asker}
use Rattle.blk_virt.specs.declared.virtualiser.BlkVirt.{BlkVirt}
use Rattle.client_programs.specs.declared.rogue.Rogue.{Rogue}
use Rattle.client_programs.specs.Rogue.Clients.{RogueStandsFor, numbers}

-- what is counted of all that was put to these queues
abbrev pub put_there : Count → Passed → List ℕ → ℕ
put_there f passed queues = counted f (bodies_at passed.sent queues)

-- what is counted of all that was taken there
abbrev pub taken_there : Count → Passed → List ℕ → ℕ
taken_there f passed queues = counted f (bodies_at passed.taken queues)

-- nobody puts to these queues what he has from elsewhere: no more was put there than was taken
abbrev pub IsClosed : Count → List ℕ → Passed → Type 0
IsClosed f queues passed = put_there f passed queues ≤ taken_there f passed queues

-- no buffer of a pool is counted
abbrev pub Spares : Count → PoolId → Type 0
Spares f pool = (number long : ℕ) → f pool number long ≡ 0

-- the queues between a client of the network, its copier and the sending virtualiser, to which it
-- sends on the one queue, and which gives its buffers back on the other
abbrev pub queues_of : NetCopier → (sends returns : QueueId) → List ℕ
queues_of c sends returns =
    c.buffer_output.queue.0 ∷ returns.0 ∷ c.buffer_input.queue.0 ∷ sends.0 ∷ []

-- a hostile client of the network is served by this copier, and is client k of this sending
-- virtualiser; all three stand for what passed
pub record IsServed (r : Rogue) (c : NetCopier) (v : NetVirtTx) (k : ℕ) (s : Client)
    (sends returns : QueueId) (passed : Passed) : Type 0 where
  pub client : RogueStandsFor r passed
  pub copier : CopierStandsFor c passed
  pub sender : TxStandsFor v passed
  pub inputs : numbers r.inputs.items ≡ c.buffer_output.queue.0 ∷ returns.0 ∷ []
  pub outputs : numbers r.outputs.items ≡ c.buffer_input.queue.0 ∷ sends.0 ∷ []
  pub there : slice_get v.work.clients.items k ≡ Some s
  pub from_it : slice_get (from_queues v.ends) k ≡ Some sends
  pub to_it : slice_get (to_queues v.ends) k ≡ Some returns

-- each of these requests moves blocks
abbrev pub AllMove : List Cargo → Type 0
AllMove [] = Unit {0}
AllMove (x ∷ xs) = (moves_blocks (request_of x.0).code ≡ true) × AllMove xs

-- the queues between a client of the block class and its virtualiser
abbrev pub blk_queues : (asks answers : QueueId) → List ℕ
blk_queues asks answers = answers.0 ∷ asks.0 ∷ []

-- a hostile client of the block class is client k of this virtualiser, to which it gave reads and
-- writes alone; both stand for what passed
pub record IsAnswered (r : Rogue) (v : BlkVirt) (k : ℕ) (c : Asker) (asks answers : QueueId)
    (passed : Passed) : Type 0 where
  pub client : RogueStandsFor r passed
  pub virt : BlkVirtStandsFor v passed
  pub inputs : numbers r.inputs.items ≡ answers.0 ∷ []
  pub outputs : numbers r.outputs.items ≡ asks.0 ∷ []
  pub there : slice_get v.work.desk.clients.items k ≡ Some c
  pub from_it : slice_get (from_queues v.ends) k ≡ Some asks
  pub to_it : slice_get (to_queues v.ends) k ≡ Some answers
  pub moves : AllMove (passed.taken asks.0)

-- an entry was moved that is a read or a write
abbrev pub IsMove : Option Item → Type 0
IsMove moved = (item : Item) × (moved ≡ Some item)
    × (moves_blocks (request_of item).code ≡ true)
