-- The virtualiser of these tests and its queues.
use Rattle.std.specs.Prelude.{◌≡◌, ℕ, List, [], ◌∷◌, length}
use Rattle.cargo_core.specs.declared.item.QueueKind.TheVariants as Kind
use Rattle.wire_core.specs.Ends.{Producer}
use Rattle.wire_core.specs.Lists.{nothing_passed}
use Rattle.wire_core.specs.Queues.{Queue, end_at}
use Rattle.buffer_kit.specs.Virtualising.{from_queues, to_queues}
use Rattle.net_virt_tx.specs.declared.NetVirtTx.{NetVirtTx}
use Rattle.net_virt_tx.specs.declared.TxEnds.{TxEnds}
use Rattle.net_virt_tx.specs.Sending.{FitsTx, IsNewTx, TxStandsFor}
use Rattle.actor_rows.specs.Standings.{queue}

-- the one client, whose two buffers have so many bytes
abbrev pub client : (size : ℕ) → TxEnds
client size = record {
  active = queue 2;
  free = queue 3;
  pool = record { 0 = 7 };
  buffers = 2;
  base = 8192;
  size = size;
}

-- a virtualiser of that client in its start state, where a frame has at most so many bytes
pub record IsNewAlone (size most : ℕ) (v : NetVirtTx) : Type 0 where
  pub new : IsNewTx (queue 0) (queue 1) (client size ∷ []) most v
  pub stands : TxStandsFor v nothing_passed

-- it stands at the queues 0 to 3, and queue 2 is filled by hand
pub record Stands (w : List Queue) (v : NetVirtTx) : Type 0 where
  pub fits : FitsTx (end_at w) v
  pub long : length w ≡ 4
  pub kind : (end_at w Producer 2).kind ≡ Kind.Net
  pub input : v.ends.input.queue.0 ≡ 1
  pub output : v.ends.output.queue.0 ≡ 0
  pub from_client : from_queues v.ends ≡ queue 2 ∷ []
  pub to_client : to_queues v.ends ≡ queue 3 ∷ []
