-- The receiving virtualiser as the actor that lends.
use Rattle.std.specs.Prelude.{◌≡◌, ◌==◌, ◌&&◌, ℕ, nat_lt, if◌then◌else◌, Some, List, [], ◌∷◌}
use Rattle.std.specs.Prelude.{slice_get}
use Rattle.cargo_core.specs.Items.{kind_of}
use Rattle.cargo_core.specs.Loans.{receivers_at}
use Rattle.cargo_core.specs.declared.item.QueueKind.TheVariants as Kind
use Rattle.frame_core.specs.declared.mac.Mac.{Mac}
use Rattle.wire_core.specs.declared.names.QueueId.{QueueId}
use Rattle.wire_core.specs.Bells.{bit}
use Rattle.wire_core.specs.Deeds.{Cargo}
use Rattle.wire_core.specs.Lists.{Passed}
use Rattle.owner_law.specs.Things.{Buffer, Window}
use Rattle.class_expect.specs.NetExpect.Expecting.{is_for_client}
use Rattle.buffer_kit.specs.Entries.{frame_of}
use Rattle.buffer_kit.specs.declared.stock.Stock.{Stock}
use Rattle.buffer_kit.specs.Virtualising.{from_queues, to_queues}
use Rattle.net_virt_rx.specs.declared.NetVirtRx.{NetVirtRx}
use Rattle.owner_law.specs.Pools.Places.{numbers_from}
use Rattle.net_law.specs.Owners.Lending.{Borrower, Lender}

-- a stock's buffers by offsets
abbrev pub offset_window : Stock → Window
offset_window s = record { pool = s.pool.0; base = 0; size = s.size; buffers = s.buffers }

-- clients with these addresses and queues, to whom the frames of these places go
abbrev pub borrowers : (ℕ → List ℕ) → List Mac → (to from : List QueueId) → List Borrower
borrowers frame [] to from = []
borrowers frame (mac ∷ macs) [] from = []
borrowers frame (mac ∷ macs) (q ∷ to) [] = []
borrowers frame (mac ∷ macs) (q ∷ to) (r ∷ from) =
    record { active = q.0; free = r.0; is_for = λ k. is_for_client mac (frame k) }
    ∷ borrowers frame macs to from

-- a virtualiser lends its stock's buffers, with the frame of each place, to its clients
abbrev pub rx_lender : (ℕ → List ℕ) → NetVirtRx → Lender
rx_lender frame v = record {
  frames = v.ends.input.queue.0;
  free = v.ends.output.queue.0;
  clients = borrowers frame v.work.macs.items (to_queues v.ends) (from_queues v.ends);
  hand = λ pool. if v.work.stock.pool.0 == pool then numbers_from 0 v.work.stock.buffers else [];
}

-- entries of the network
abbrev pub AreNet : List Cargo → Type 0
AreNet cs = (k : ℕ) (c : Cargo) → slice_get cs k ≡ Some c → kind_of c.0 ≡ Kind.Net

-- the entries that passed are of the network, and those that came with frames have these frames by
-- their places
pub record TakesFrames (frame : ℕ → List ℕ) (v : NetVirtRx) (passed : Passed) : Type 0 where
  pub net : AreNet (passed.taken v.ends.input.queue.0)
  pub given_net : AreNet (passed.sent v.ends.output.queue.0)
  pub back_net : (k : ℕ) (r : QueueId) → slice_get (from_queues v.ends) k ≡ Some r
      → AreNet (passed.taken r.0)
  pub frames : (k : ℕ) (c : Cargo) → slice_get (passed.taken v.ends.input.queue.0) k ≡ Some c
      → frame_of c ≡ frame k

-- one where a buffer is one of its own that has a receiver
abbrev pub lent_now : NetVirtRx → Buffer → ℕ
lent_now v b = if (v.work.stock.pool.0 == b.pool) && nat_lt b.no v.work.stock.buffers
    then bit (nat_lt 0 (receivers_at v.work.lent b.no)) else 0
