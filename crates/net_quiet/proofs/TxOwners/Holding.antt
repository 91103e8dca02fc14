use Rattle.std.proofs.Common.{◌≡◌, ℕ, suc, Some, List, [], ◌∷◌, ◌++◌, length, map, flat_map, slice_get, refl, sym, ap, arith}
use Rattle.cargo_core.specs.Bodies.{buffers_of}
use Rattle.wire_core.specs.declared.names.QueueId.{QueueId}
use Rattle.wire_core.specs.Lists.{Passed}
use Rattle.play_core.specs.Moved.{Moved, Seat}
use Rattle.play_core.specs.Wants.{outlet}
use Rattle.owner_law.specs.Things.{Naming}
use Rattle.turn_kit.specs.Hands.{bodies_of, bodies_at}
use Rattle.buffer_kit.specs.Virtualising.{from_queues, to_queues}
use Rattle.net_virt_tx.specs.declared.NetVirtTx.{NetVirtTx}
use Rattle.net_virt_tx.specs.declared.descriptors.Sender.{Sender}
use Rattle.net_virt_tx.specs.Sending.{TxBalances}
use Rattle.net_virt_tx.specs.Traffics.{senders, traffic_hand}
use Rattle.owner_law.specs.Pools.Places.{by_offset}
use Rattle.net_law.specs.TxParts.Parts.{Shipper}
use Rattle.net_law.specs.TxParts.Playing.{shippers, send_part}
use Rattle.net_law.specs.TxParts.Table.{send_sheet, shipper_ends}
use Rattle.owner_law.specs.Pools.Lines.{HoldsIts, came, went}
use Rattle.owner_law.proofs.PoolsLemmas.Lining.{LendsNone, lent_away}
use Rattle.net_quiet.specs.Pools.Holders.{holder_of, no_lent}
use Rattle.net_quiet.proofs.PoolsLemmas.Holding.{lends_none, lends_in, lends_out, buffers_stay}
use Rattle.net_quiet.specs.TxOwners.Shipping.{device_windows, NamesSend}

pub shippers_came : (passed : Passed) (ss : List Sender) (from to : List QueueId) → length from ≡ length ss → length to ≡ length ss → came passed (flat_map shipper_ends (shippers ss from to)) ≡ bodies_at passed.taken (map (λ (q : QueueId). q.0) from)
shippers_came passed [] [] to f t = refl
shippers_came passed [] (q ∷ from) to f t = absurd (omega (arith, f))
shippers_came passed (s ∷ ss) [] to f t = absurd (omega (arith, f))
shippers_came passed (s ∷ ss) (q ∷ from) [] f t = absurd (omega (arith, t))
shippers_came passed (s ∷ ss) (q ∷ from) (r ∷ to) f t = ap (λ xs. bodies_of (passed.taken q.0) ++ xs) (shippers_came passed ss from to (omega (arith, f)) (omega (arith, t)))

pub shippers_went : (passed : Passed) (ss : List Sender) (from to : List QueueId) → length from ≡ length ss → length to ≡ length ss → went passed (flat_map shipper_ends (shippers ss from to)) ≡ bodies_at passed.sent (map (λ (q : QueueId). q.0) to)
shippers_went passed [] from [] f t = refl
shippers_went passed [] from (r ∷ to) f t = absurd (omega (arith, t))
shippers_went passed (s ∷ ss) [] to f t = absurd (omega (arith, f))
shippers_went passed (s ∷ ss) (q ∷ from) [] f t = absurd (omega (arith, t))
shippers_went passed (s ∷ ss) (q ∷ from) (r ∷ to) f t = ap (λ xs. bodies_of (passed.sent r.0) ++ xs) (shippers_went passed ss from to (omega (arith, f)) (omega (arith, t)))

module _ (naming : Naming) (sizes : ℕ → ℕ) (v : NetVirtTx) (passed : Passed) (m : Moved) (names : NamesSend naming (send_part v)) (from_each : length (from_queues v.ends) ≡ length (senders v.work)) (to_each : length (to_queues v.ends) ≡ length (senders v.work)) (balance : TxBalances v passed) where
  clients_lend : (cs : List Shipper) → ((k : ℕ) (c : Shipper) → slice_get cs k ≡ Some c → naming c.active ≡ Rattle.owner_law.specs.Things.Buffers (by_offset c.pool ∷ [])) → LendsNone naming (flat_map shipper_ends cs)
  clients_lend [] named = lends_none naming
  clients_lend (c ∷ cs) named =
      let rest : List Seat = flat_map shipper_ends cs in
      lends_in naming c.active (outlet c.free ∷ rest) (buffers_stay naming c.active (by_offset c.pool ∷ []) (named 0 c refl)) (lends_out naming c.free rest (clients_lend cs (λ k d at. named (suc k) d at)))

  pub sender_holds : HoldsIts naming sizes m passed (holder_of (send_sheet (send_part v)) (traffic_hand v.work) no_lent)
  sender_holds =
      let rest : List Seat = flat_map shipper_ends (send_part v).clients in
      let lends : LendsNone naming (send_sheet (send_part v)).ends =
      lends_in naming v.ends.input.queue.0 (outlet v.ends.output.queue.0 ∷ rest) (buffers_stay naming v.ends.input.queue.0 (device_windows (send_part v).clients) names.free) (lends_out naming v.ends.output.queue.0 rest (clients_lend (send_part v).clients names.sends)) in
      record {
        balances = λ pool. omega (
          arith,
          balance pool,
          ap (λ xs. buffers_of pool (bodies_of (passed.taken v.ends.input.queue.0) ++ xs)) (shippers_came passed (senders v.work) (from_queues v.ends) (to_queues v.ends) from_each to_each),
          ap (λ xs. buffers_of pool (bodies_of (passed.sent v.ends.output.queue.0) ++ xs)) (shippers_went passed (senders v.work) (from_queues v.ends) (to_queues v.ends) from_each to_each),
        );
        lends = λ pool. sym (lent_away naming m (send_sheet (send_part v)).ends lends pool (sizes pool));
      }
