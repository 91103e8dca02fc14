-- The queues of a class that has no hostile client have no hostile end, whoever else is hostile.
use Rattle.std.proofs.Common.{◌≡◌, ◌+◌, ◌*◌, ◌<◌, ◌≤◌, ℕ, zero, suc, true, false, if◌then◌else◌, Option, Some, List, length, slice_get, refl, sym, ap, ◌∙◌, subst, arith}
use Rattle.std.specs.Option.{option_map_or}
use Rattle.wire_core.specs.declared.names.QueueRow.{QueueRow}
use Rattle.wire_core.specs.Ends.{Role, Consumer, Producer}
use Rattle.wire_core.specs.Journal.{is_calm, owner_of}
use Rattle.play_core.specs.Manners.{Calm, is_hostile}
use Rattle.play_core.specs.Moved.{Seat}
use Rattle.play_core.proofs.Lists.{some_is}
use Rattle.sdf_plan.specs.declared.plan.Plan.{Plan}
use Rattle.sdf_plan.specs.declared.plan.Net.{Net}
use Rattle.sdf_plan.specs.declared.plan.Serial.{Serial}
use Rattle.sdf_check.specs.Valid.{Valid}
use Rattle.trace_text.specs.declared.trace.Trace.{Trace}
use Rattle.trace_text.specs.Events.{is_blk_rogue, is_net_rogue, is_serial_rogue}
use Rattle.region_layout.specs.Rows.{queues_of}
use Rattle.layout_laws.specs.Jobs.Jobs.{Job, EthDevice, EthDriver, NetReceiver, NetSender, NetCopier, NetClient, UartDevice, UartDriver, SerialReceiver, SerialSender, SerialClient, DiskDevice, DiskDriver, BlkVirtualiser, BlkClient, HasJob}
use Rattle.layout_laws.specs.Seats.Ends.{IsOf, blk_first, job_ends, net_count, serial_count, serial_first}
use Rattle.layout_laws.proofs.SeatsLemmas.Having.{job_is_of}
use Rattle.layout_laws.proofs.SeatsLemmas.Holding.{owner_at}
use Rattle.layout_laws.proofs.SeatsLemmas.Seats.{has_end, job_at}
use Rattle.layout_laws.proofs.SeatsLemmas.Telling.{IsAmong}
use Rattle.actor_set.specs.Parts.{HostilePart, Part}
use Rattle.actor_set.specs.Laws.Kinds.{hostiles, manner_of}
use Rattle.cast_core.specs.Casts.{calm_part, client_pool, client_pools, job_part}
use Rattle.cast_core.specs.Hostile.{acts_at, blk_rogue_at, net_rogue_at, serial_rogue_at}
use Rattle.cast_core.specs.Sources.{first_blk, first_serial}
use Rattle.cast_law.specs.Jobs.{PlayJobs}
use Rattle.cast_law.proofs.Restarted.{sort_same}

-- an end of a client is at one of its own queues
queue_is : {s t : Seat} → Some s ≡ Some t → s.queue ≡ t.queue
queue_is e = ap (λ (x : Seat). x.queue) (some_is e)

module _ (plan : Plan) (n : ℕ) (r : Role) where
  abbrev end : Seat
  end = record { queue = n; role = r }

  -- the queues of the network's clients stand before those of the serial class
  net_before : (c : ℕ) → IsOf plan (NetClient c) → IsAmong (job_ends plan (NetClient c)) end → n < serial_first plan
  net_before c of (i, at) =
      let lt = of.1 in
      let count : net_count plan ≡ length of.0.0.client = ap (λ (o : Option Net). option_map_or (λ (net : Net). length net.client) o 0) of.0.1 in
      let first : serial_first plan ≡ 8 + 6 * length of.0.0.client = ap (λ (o : Option Net). option_map_or (λ (net : Net). 8 + 6 * length net.client) o 0) of.0.1 in
      let here = near i at in
      omega (arith, lt, count, first, here)
    where
      near : (i : ℕ) → slice_get (job_ends plan (NetClient c)) i ≡ Some end → n ≤ 8 + 6 * c + 5
      near zero e = let q = queue_is e in omega (arith, q)
      near (suc zero) e = let q = queue_is e in omega (arith, q)
      near (suc (suc zero)) e = let q = queue_is e in omega (arith, q)
      near (suc (suc (suc zero))) e = let q = queue_is e in omega (arith, q)
      near (suc (suc (suc (suc i)))) e = cc

  serial_near : (c i : ℕ) → slice_get (job_ends plan (SerialClient c)) i ≡ Some end → (serial_first plan + 4 + 2 * c ≤ n) × (n ≤ serial_first plan + 5 + 2 * c)
  serial_near c zero e = let q = queue_is e in (omega (arith, q), omega (arith, q))
  serial_near c (suc zero) e = let q = queue_is e in (omega (arith, q), omega (arith, q))
  serial_near c (suc (suc i)) e = cc

  -- those of the serial class's between those of the network and those of the block class
  serial_between : (c : ℕ) → IsOf plan (SerialClient c) → IsAmong (job_ends plan (SerialClient c)) end → (serial_first plan ≤ n) × (n < blk_first plan)
  serial_between c of (i, at) =
      let lt = of.1 in
      let count : serial_count plan ≡ length of.0.0.client = ap (λ (o : Option Serial). option_map_or (λ (s : Serial). length s.client) o 0) of.0.1 in
      let first : blk_first plan ≡ serial_first plan + (4 + 2 * length of.0.0.client) = ap (λ (o : Option Serial). serial_first plan + option_map_or (λ (s : Serial). 4 + 2 * length s.client) o 0) of.0.1 in
      let low = (serial_near c i at).0 in
      let high = (serial_near c i at).1 in
      (omega (arith, low), omega (arith, lt, count, first, high))

  -- and those of the block class's behind both
  blk_behind : (c : ℕ) → IsAmong (job_ends plan (BlkClient c)) end → blk_first plan ≤ n
  blk_behind c (zero, e) = let q = queue_is e in omega (arith, q)
  blk_behind c (suc zero, e) = let q = queue_is e in omega (arith, q)
  blk_behind c (suc (suc i), e) = cc

module _ (plan : Plan) (trace : Trace) (valid : Valid plan) (cast : List Part) (plays : PlayJobs plan trace cast) where
  -- an actor is hostile as its job's part is
  as_job : (job : Job) (k : ℕ) → HasJob plan job k → hostiles cast k ≡ is_hostile (option_map_or manner_of (job_part plan trace job) Calm)
  as_job job k has = sym (sort_same (slice_get cast k)) ∙ (ap (λ (o : Option Part). is_hostile (option_map_or manner_of o Calm)) (plays job k has) ∙ sort_same (job_part plan trace job))

  -- so it isn't, where its job isn't that of a hostile client
  calm_by : (job : Job) (k : ℕ) → HasJob plan job k → ((c : ℕ) → job ≡ NetClient c → is_net_rogue plan c ≡ false) → ((c : ℕ) → job ≡ SerialClient c → is_serial_rogue plan c ≡ false) → ((c : ℕ) → job ≡ BlkClient c → is_blk_rogue plan c ≡ false) → hostiles cast k ≡ false
  calm_by EthDevice k has net serial blk = as_job EthDevice k has
  calm_by EthDriver k has net serial blk = as_job EthDriver k has
  calm_by NetReceiver k has net serial blk = as_job NetReceiver k has
  calm_by NetSender k has net serial blk = as_job NetSender k has
  calm_by (NetCopier c) k has net serial blk = as_job (NetCopier c) k has
  calm_by (NetClient c) k has net serial blk = as_job (NetClient c) k has ∙ ap (λ t. is_hostile (option_map_or manner_of (if t then Some (HostilePart (net_rogue_at 0 c (client_pools plan c) (acts_at trace.net_acts c))) else calm_part plan trace (NetClient c)) Calm)) (net c refl)
  calm_by UartDevice k has net serial blk = as_job UartDevice k has
  calm_by UartDriver k has net serial blk = as_job UartDriver k has
  calm_by SerialReceiver k has net serial blk = as_job SerialReceiver k has
  calm_by SerialSender k has net serial blk = as_job SerialSender k has
  calm_by (SerialClient c) k has net serial blk = as_job (SerialClient c) k has ∙ ap (λ t. is_hostile (option_map_or manner_of (if t then Some (HostilePart (serial_rogue_at (first_serial plan) c (acts_at trace.serial_acts c))) else calm_part plan trace (SerialClient c)) Calm)) (serial c refl)
  calm_by DiskDevice k has net serial blk = as_job DiskDevice k has
  calm_by DiskDriver k has net serial blk = as_job DiskDriver k has
  calm_by BlkVirtualiser k has net serial blk = as_job BlkVirtualiser k has
  calm_by (BlkClient c) k has net serial blk = as_job (BlkClient c) k has ∙ ap (λ t. is_hostile (option_map_or manner_of (if t then Some (HostilePart (blk_rogue_at (first_blk plan) c (client_pool plan c) (acts_at trace.blk_acts c))) else calm_part plan trace (BlkClient c)) Calm)) (blk c refl)

  -- the owners of a queue
  module _ (n : ℕ) (row : QueueRow) (at : slice_get (queues_of plan) n ≡ Some row) where
    -- an owner that has the job of a client has one of its ends there
    owner_calm : (r : Role) → ((c : ℕ) → IsOf plan (NetClient c) → IsAmong (job_ends plan (NetClient c)) (record { queue = n; role = r }) → is_net_rogue plan c ≡ false)
        → ((c : ℕ) → IsOf plan (SerialClient c) → IsAmong (job_ends plan (SerialClient c)) (record { queue = n; role = r }) → is_serial_rogue plan c ≡ false)
        → ((c : ℕ) → IsAmong (job_ends plan (BlkClient c)) (record { queue = n; role = r }) → is_blk_rogue plan c ≡ false) → hostiles cast (owner_of row r) ≡ false
    owner_calm r net serial blk =
        let k = owner_of row r in
        let o = job_at plan n row at r in
        calm_by (owner_at o.0 r) k o.2
        (λ c e. let has = subst (λ j. HasJob plan j k) e o.2 in net c (job_is_of plan (NetClient c) k has) (has_end plan valid n row at r (NetClient c) has))
        (λ c e. let has = subst (λ j. HasJob plan j k) e o.2 in serial c (job_is_of plan (SerialClient c) k has) (has_end plan valid n row at r (SerialClient c) has))
        (λ c e. let has = subst (λ j. HasJob plan j k) e o.2 in blk c (has_end plan valid n row at r (BlkClient c) has))

    both_calm : ((r : Role) → hostiles cast (owner_of row r) ≡ false) → is_calm (hostiles cast) row ≡ true
    both_calm calm = rw (calm Producer, calm Consumer) refl

    -- a queue of the network, where no client of the network is hostile
    pub net_calm : ((c : ℕ) → is_net_rogue plan c ≡ false) → n < serial_first plan → is_calm (hostiles cast) row ≡ true
    net_calm none lt = both_calm (λ r. owner_calm r (λ c of among. none c)
        (λ c of among. let more = (serial_between plan n r c of among).0 in absurd (omega (arith, lt, more)))
        (λ c among. let more = blk_behind plan n r c among in absurd (omega (arith, lt, more))))

    -- a queue of the block class, where no client of that class is hostile
    pub blk_calm : ((c : ℕ) → is_blk_rogue plan c ≡ false) → blk_first plan ≤ n → is_calm (hostiles cast) row ≡ true
    blk_calm none more = both_calm (λ r. owner_calm r
        (λ c of among. let lt = net_before plan n r c of among in absurd (omega (arith, lt, more)))
        (λ c of among. let lt = (serial_between plan n r c of among).1 in absurd (omega (arith, lt, more)))
        (λ c among. none c))
