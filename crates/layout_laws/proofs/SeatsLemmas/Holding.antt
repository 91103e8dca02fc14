-- Each end of a job is that of a queue that the job has there.
use Rattle.std.proofs.Common.{◌≡◌, ◌+◌, ◌*◌, ◌<◌, ◌++◌, ℕ, zero, suc, Some, List, [], ◌∷◌, length, slice_get, refl, sym, ap, ◌∙◌, subst, arith, ◌==◌, cond, if◌then◌else◌, eq-eqb}
use Rattle.std.specs.Option.{option_map_or}
use Rattle.std.proofs.lemmas.Bool.{ne_eqb}
use Rattle.cargo_core.specs.declared.item.QueueKind.{QueueKind}
use Rattle.cargo_core.specs.declared.item.QueueKind.TheVariants as Kind
use Rattle.wire_core.specs.Ends.{Role, Consumer, Producer}
use Rattle.sdf_plan.specs.declared.plan.Plan.{Plan}
use Rattle.sdf_plan.specs.declared.plan.Net.{Net}
use Rattle.sdf_plan.specs.declared.plan.NetClient.{NetClient as NetClientKeys}
use Rattle.sdf_plan.specs.declared.plan.Serial.{Serial}
use Rattle.sdf_plan.specs.declared.plan.SerialClient.{SerialClient as SerialClientKeys}
use Rattle.sdf_plan.specs.declared.plan.Blk.{Blk}
use Rattle.sdf_plan.specs.declared.plan.BlkClient.{BlkClient as BlkClientKeys}
use Rattle.sdf_check.proofs.ListLemmas.{get-left, get-right}
use Rattle.region_layout.specs.Rows.{each_client}
use Rattle.layout_laws.proofs.Lists.{each-at}
use Rattle.play_core.specs.Moved.{Seat}
use Rattle.play_core.proofs.Lists.{some_is, there_is}
use Rattle.layout_laws.specs.Jobs.Jobs.{Job, EthDevice, EthDriver, NetReceiver, NetSender, NetCopier, NetClient, UartDevice, UartDriver, SerialReceiver, SerialSender, SerialClient, DiskDevice, DiskDriver, BlkVirtualiser, BlkClient}
use Rattle.layout_laws.specs.Jobs.Queues.{Owners, one_way, both_ways, net_client_owners, net_owners, serial_client_owners, serial_owners, blk_owners, owners_of}
use Rattle.layout_laws.specs.Seats.Ends.{net_count, serial_count, serial_first, client_queue, ends_from, lease_ends, send_ends, given_end, said_end, job_ends, IsOf, blk_count, blk_first, ask_ends, job_kind}
use Rattle.layout_laws.proofs.SeatsLemmas.Having.{count_is}
use Rattle.layout_laws.proofs.SeatsLemmas.Counts.{owners_before, all_before}
use Rattle.layout_laws.proofs.SeatsLemmas.Carrying.{between}

-- the owner at an end
abbrev pub owner_at : Owners → Role → Job
owner_at o Consumer = o.consumer
owner_at o Producer = o.producer

-- this holds of each end
abbrev Each : (Seat → Type 0) → List Seat → Type 0
Each P [] = Unit {0}
Each P (s ∷ ends) = P s × Each P ends

each_append : (P : Seat → Type 0) (xs ys : List Seat) → Each P xs → Each P ys → Each P (xs ++ ys)
each_append P [] ys f g = g
each_append P (x ∷ xs) ys f g = (f.0, each_append P xs ys f.1 g)

each_get : (P : Seat → Type 0) (ends : List Seat) → Each P ends → (i : ℕ) (s : Seat) → slice_get ends i ≡ Some s → P s
each_get P [] h i s at = absurd cc
each_get P (x ∷ ends) h zero s at = subst P (some_is at) h.0
each_get P (x ∷ ends) h (suc i) s at = each_get P ends h.1 i s at

each_from : (P : Seat → Type 0) (ends : ℕ → List Seat) (from count : ℕ) → ((c : ℕ) → c < count → Each P (ends (from + c))) → Each P (ends_from ends from count)
each_from P ends from zero h = tt
each_from P ends from (suc count) h =
    let none : from + 0 ≡ from = omega arith in
    each_append P (ends from) (ends_from ends (from + 1) count) (subst (λ n. Each P (ends n)) none (h 0 (omega arith)))
    (each_from P ends (from + 1) count (λ c lt. let e : from + suc c ≡ from + 1 + c = omega arith in subst (λ n. Each P (ends n)) e (h (suc c) (omega (arith, lt)))))

-- a choice by two numbers
chosen : (a b : ℕ) (x y : QueueKind) → a ≡ b → (if a == b then x else y) ≡ x
chosen a b x y e = ap (λ t. cond t x y) (eq-eqb a b e)

other_way : (a b : ℕ) (x y : QueueKind) → (a ≡ b → ⊥) → (if a == b then x else y) ≡ y
other_way a b x y ne = ap (λ t. cond t x y) (ne_eqb a b ne)

module _ (plan : Plan) where
  abbrev first : ℕ
  first = serial_first plan

  abbrev net_part : List Owners
  net_part = option_map_or net_owners plan.net []

  abbrev serial_part : List Owners
  serial_part = option_map_or serial_owners plan.serial []

  abbrev blk_part : List Owners
  blk_part = option_map_or blk_owners plan.blk []

  -- a job has this end
  abbrev pub Holds : Job → Seat → Type 0
  Holds job s = (o : Owners) × (slice_get (owners_of plan) s.queue ≡ Some o) × (owner_at o s.role ≡ job) × (between o.producer o.consumer ≡ job_kind plan job s.role s.queue)

  module _ (net : Net) (is : plan.net ≡ Some net) where
    abbrev clients : List Owners
    clients = each_client (λ c (client : NetClientKeys). net_client_owners c) 0 net.client

    at_net : (n m : ℕ) (o : Owners) → n ≡ m → slice_get (net_owners net) m ≡ Some o → slice_get (owners_of plan) n ≡ Some o
    at_net n m o e at =
        get-left (net_part ++ serial_part) blk_part n o (get-left net_part serial_part n o
        (subst (λ x. slice_get (option_map_or net_owners x []) n ≡ Some o) (sym is) (subst (λ k. slice_get (net_owners net) k ≡ Some o) (sym e) at)))

    at_client : (c i n : ℕ) (o : Owners) → c < length net.client → n ≡ client_queue c + i → slice_get (net_client_owners c) i ≡ Some o → slice_get (owners_of plan) n ≡ Some o
    at_client c i n o lt e at =
        let x = there_is net.client c lt in
        let zero_first : 0 + c ≡ c = omega arith in
        let there : slice_get clients (6 * c + i) ≡ Some o = each-at (λ k (client : NetClientKeys). net_client_owners k) 6 (λ k. 6 * k) 0 net.client c i x.0 o (λ k y. refl) (omega arith) (λ k. omega arith) x.1 (ap (λ k. slice_get (net_client_owners k) i) zero_first ∙ at) in
        at_net n (suc (suc (suc (suc (suc (suc (suc (suc (6 * c + i))))))))) o (omega (arith, e)) there

    many : net_count plan ≡ length net.client
    many = count_is plan.net (λ (n : Net). length n.client) net is

    device : Each (Holds EthDevice) (job_ends plan EthDevice)
    device = ((one_way EthDriver EthDevice, at_net 0 0 (one_way EthDriver EthDevice) refl refl, refl, refl), ((one_way EthDevice EthDriver, at_net 1 1 (one_way EthDevice EthDriver) refl refl, refl, refl), ((one_way EthDriver EthDevice, at_net 2 2 (one_way EthDriver EthDevice) refl refl, refl, refl), ((one_way EthDevice EthDriver, at_net 3 3 (one_way EthDevice EthDriver) refl refl, refl, refl), tt))))

    driver : Each (Holds EthDriver) (job_ends plan EthDriver)
    driver = ((one_way NetReceiver EthDriver, at_net 5 5 (one_way NetReceiver EthDriver) refl refl, refl, refl), ((one_way EthDriver EthDevice, at_net 0 0 (one_way EthDriver EthDevice) refl refl, refl, refl), ((one_way EthDevice EthDriver, at_net 1 1 (one_way EthDevice EthDriver) refl refl, refl, refl), ((one_way EthDriver NetReceiver, at_net 4 4 (one_way EthDriver NetReceiver) refl refl, refl, refl), ((one_way NetSender EthDriver, at_net 6 6 (one_way NetSender EthDriver) refl refl, refl, refl), ((one_way EthDriver EthDevice, at_net 2 2 (one_way EthDriver EthDevice) refl refl, refl, refl), ((one_way EthDevice EthDriver, at_net 3 3 (one_way EthDevice EthDriver) refl refl, refl, refl), ((one_way EthDriver NetSender, at_net 7 7 (one_way EthDriver NetSender) refl refl, refl, refl), tt))))))))

    receiver : Each (Holds NetReceiver) (job_ends plan NetReceiver)
    receiver = ((one_way EthDriver NetReceiver, at_net 4 4 (one_way EthDriver NetReceiver) refl refl, refl, refl), ((one_way NetReceiver EthDriver, at_net 5 5 (one_way NetReceiver EthDriver) refl refl, refl, refl), each_from (Holds NetReceiver) lease_ends 0 (net_count plan) (λ c lt. let there : 0 + c < length net.client = (let m = many in omega (arith, lt, m)) in ((one_way NetReceiver (NetCopier (0 + c)), at_client (0 + c) 0 (client_queue (0 + c)) (one_way NetReceiver (NetCopier (0 + c))) there (omega arith) refl, refl, refl), ((one_way (NetCopier (0 + c)) NetReceiver, at_client (0 + c) 1 (client_queue (0 + c) + 1) (one_way (NetCopier (0 + c)) NetReceiver) there (omega arith) refl, refl, refl), tt)))))

    sender : Each (Holds NetSender) (job_ends plan NetSender)
    sender = ((one_way EthDriver NetSender, at_net 7 7 (one_way EthDriver NetSender) refl refl, refl, refl), ((one_way NetSender EthDriver, at_net 6 6 (one_way NetSender EthDriver) refl refl, refl, refl), each_from (Holds NetSender) send_ends 0 (net_count plan) (λ c lt. let there : 0 + c < length net.client = (let m = many in omega (arith, lt, m)) in ((one_way (NetClient (0 + c)) NetSender, at_client (0 + c) 4 (client_queue (0 + c) + 4) (one_way (NetClient (0 + c)) NetSender) there (omega arith) refl, refl, refl), ((one_way NetSender (NetClient (0 + c)), at_client (0 + c) 5 (client_queue (0 + c) + 5) (one_way NetSender (NetClient (0 + c))) there (omega arith) refl, refl, refl), tt)))))

    module _ (c : ℕ) (lt : c < net_count plan) where
      there : c < length net.client
      there = let m = many in omega (arith, lt, m)

      row : (i : ℕ) (o : Owners) → slice_get (net_client_owners c) i ≡ Some o → slice_get (owners_of plan) (client_queue c + i) ≡ Some o
      row i o at = at_client c i (client_queue c + i) o there refl at

      copier : Each (Holds (NetCopier c)) (job_ends plan (NetCopier c))
      copier = ((one_way NetReceiver (NetCopier c), at_client c 0 (client_queue c) (one_way NetReceiver (NetCopier c)) there (omega arith) refl, refl, refl), ((one_way (NetClient c) (NetCopier c), row (3) (one_way (NetClient c) (NetCopier c)) refl, refl, refl), ((one_way (NetCopier c) (NetClient c), row (2) (one_way (NetCopier c) (NetClient c)) refl, refl, refl), ((one_way (NetCopier c) NetReceiver, row (1) (one_way (NetCopier c) NetReceiver) refl, refl, refl), tt))))

      client : Each (Holds (NetClient c)) (job_ends plan (NetClient c))
      client = ((one_way (NetCopier c) (NetClient c), row (2) (one_way (NetCopier c) (NetClient c)) refl, refl, refl), ((one_way (NetClient c) (NetCopier c), row (3) (one_way (NetClient c) (NetCopier c)) refl, refl, refl), ((one_way NetSender (NetClient c), row (5) (one_way NetSender (NetClient c)) refl, refl, refl), ((one_way (NetClient c) NetSender, row (4) (one_way (NetClient c) NetSender) refl, refl, refl), tt))))

  module _ (serial : Serial) (is : plan.serial ≡ Some serial) where
    abbrev speakers : List Owners
    speakers = each_client (λ c (client : SerialClientKeys). serial_client_owners c) 0 serial.client

    at_serial : (n m : ℕ) (o : Owners) → n ≡ first + m → slice_get (serial_owners serial) m ≡ Some o → slice_get (owners_of plan) n ≡ Some o
    at_serial n m o e at =
        let before = owners_before plan in
        let is_n : length net_part + m ≡ n = omega (arith, before, e) in
        get-left (net_part ++ serial_part) blk_part n o (subst (λ k. slice_get (net_part ++ serial_part) k ≡ Some o) is_n
        (get-right net_part serial_part m o (subst (λ x. slice_get (option_map_or serial_owners x []) m ≡ Some o) (sym is) at)))

    at_speaker : (c i n : ℕ) (o : Owners) → c < length serial.client → n ≡ first + 4 + 2 * c + i → slice_get (serial_client_owners c) i ≡ Some o → slice_get (owners_of plan) n ≡ Some o
    at_speaker c i n o lt e at =
        let x = there_is serial.client c lt in
        let zero_first : 0 + c ≡ c = omega arith in
        let there : slice_get speakers (2 * c + i) ≡ Some o = each-at (λ k (client : SerialClientKeys). serial_client_owners k) 2 (λ k. 2 * k) 0 serial.client c i x.0 o (λ k y. refl) (omega arith) (λ k. omega arith) x.1 (ap (λ k. slice_get (serial_client_owners k) i) zero_first ∙ at) in
        at_serial n (suc (suc (suc (suc (2 * c + i))))) o (omega (arith, e)) there

    many_speakers : serial_count plan ≡ length serial.client
    many_speakers = count_is plan.serial (λ (n : Serial). length n.client) serial is

    uart : Each (Holds UartDevice) (job_ends plan UartDevice)
    uart = ((one_way UartDriver UartDevice, at_serial (first + 1) 1 (one_way UartDriver UartDevice) refl refl, refl, refl), ((one_way UartDevice UartDriver, at_serial first 0 (one_way UartDevice UartDriver) (omega arith) refl, refl, refl), tt))

    uart_driver : Each (Holds UartDriver) (job_ends plan UartDriver)
    uart_driver = ((one_way UartDevice UartDriver, at_serial first 0 (one_way UartDevice UartDriver) (omega arith) refl, refl, refl), ((one_way UartDriver SerialReceiver, at_serial (first + 2) 2 (one_way UartDriver SerialReceiver) refl refl, refl, refl), ((one_way SerialSender UartDriver, at_serial (first + 3) 3 (one_way SerialSender UartDriver) refl refl, refl, refl), ((one_way UartDriver UartDevice, at_serial (first + 1) 1 (one_way UartDriver UartDevice) refl refl, refl, refl), tt))))

    serial_receiver : Each (Holds SerialReceiver) (job_ends plan SerialReceiver)
    serial_receiver = (
      (one_way UartDriver SerialReceiver, at_serial (first + 2) 2 (one_way UartDriver SerialReceiver) refl refl, refl, refl),
      each_from (Holds SerialReceiver) (given_end first) 0 (serial_count plan) (λ c lt. let there : 0 + c < length serial.client = (let m = many_speakers in omega (arith, lt, m)) in (
        (one_way SerialReceiver (SerialClient (0 + c)), at_speaker (0 + c) 0 (first + 4 + 2 * (0 + c)) (one_way SerialReceiver (SerialClient (0 + c))) there (omega arith) refl, refl, refl),
        tt,
      )),
    )

    serial_sender : Each (Holds SerialSender) (job_ends plan SerialSender)
    serial_sender = (
      (one_way SerialSender UartDriver, at_serial (first + 3) 3 (one_way SerialSender UartDriver) refl refl, refl, refl),
      each_from (Holds SerialSender) (said_end first) 0 (serial_count plan) (λ c lt. let there : 0 + c < length serial.client = (let m = many_speakers in omega (arith, lt, m)) in (
        (one_way (SerialClient (0 + c)) SerialSender, at_speaker (0 + c) 1 (first + 5 + 2 * (0 + c)) (one_way (SerialClient (0 + c)) SerialSender) there (omega arith) refl, refl, refl),
        tt,
      )),
    )

    serial_client : (c : ℕ) → c < serial_count plan → Each (Holds (SerialClient c)) (job_ends plan (SerialClient c))
    serial_client c lt = let there : c < length serial.client = (let m = many_speakers in omega (arith, lt, m)) in ((one_way SerialReceiver (SerialClient c), at_speaker c 0 (first + 4 + 2 * c) (one_way SerialReceiver (SerialClient c)) there (omega arith) refl, refl, refl), ((one_way (SerialClient c) SerialSender, at_speaker c 1 (first + 5 + 2 * c) (one_way (SerialClient c) SerialSender) there (omega arith) refl, refl, refl), tt))

  module _ (blk : Blk) (is : plan.blk ≡ Some blk) where
    abbrev at_disk : ℕ
    at_disk = blk_first plan

    abbrev askers : List Owners
    askers = each_client (λ c (client : BlkClientKeys). both_ways (BlkClient c) BlkVirtualiser) 0 blk.client

    at_blk : (n m : ℕ) (o : Owners) → n ≡ at_disk + m → slice_get (blk_owners blk) m ≡ Some o → slice_get (owners_of plan) n ≡ Some o
    at_blk n m o e at =
        let before = all_before plan in
        let is_n : length (net_part ++ serial_part) + m ≡ n = omega (arith, before, e) in
        subst (λ k. slice_get ((net_part ++ serial_part) ++ blk_part) k ≡ Some o) is_n
        (get-right (net_part ++ serial_part) blk_part m o (subst (λ x. slice_get (option_map_or blk_owners x []) m ≡ Some o) (sym is) at))

    at_asker : (c i n : ℕ) (o : Owners) → c < length blk.client → n ≡ at_disk + 4 + 2 * c + i → slice_get (both_ways (BlkClient c) BlkVirtualiser) i ≡ Some o → slice_get (owners_of plan) n ≡ Some o
    at_asker c i n o lt e at =
        let x = there_is blk.client c lt in
        let zero_first : 0 + c ≡ c = omega arith in
        let there : slice_get askers (2 * c + i) ≡ Some o = each-at (λ k (client : BlkClientKeys). both_ways (BlkClient k) BlkVirtualiser) 2 (λ k. 2 * k) 0 blk.client c i x.0 o (λ k y. refl) (omega arith) (λ k. omega arith) x.1 (ap (λ k. slice_get (both_ways (BlkClient k) BlkVirtualiser) i) zero_first ∙ at) in
        at_blk n (suc (suc (suc (suc (2 * c + i))))) o (omega (arith, e)) there

    many_askers : blk_count plan ≡ length blk.client
    many_askers = count_is plan.blk (λ (n : Blk). length n.client) blk is

    disk : Each (Holds DiskDevice) (job_ends plan DiskDevice)
    disk = (
      (one_way DiskDriver DiskDevice, at_blk at_disk 0 (one_way DiskDriver DiskDevice) (omega arith) refl, refl, refl),
      ((one_way DiskDevice DiskDriver, at_blk (at_disk + 1) 1 (one_way DiskDevice DiskDriver) refl refl, refl, refl), tt),
    )

    disk_driver : Each (Holds DiskDriver) (job_ends plan DiskDriver)
    disk_driver = (
      (one_way BlkVirtualiser DiskDriver, at_blk (at_disk + 2) 2 (one_way BlkVirtualiser DiskDriver) refl refl, refl, sym (chosen (at_disk + 2) (at_disk + 2) Kind.Req Kind.Resp refl)),
      (
        (one_way DiskDriver DiskDevice, at_blk at_disk 0 (one_way DiskDriver DiskDevice) (omega arith) refl, refl, sym (chosen at_disk at_disk Kind.Req Kind.Resp refl)),
        (
          (one_way DiskDevice DiskDriver, at_blk (at_disk + 1) 1 (one_way DiskDevice DiskDriver) refl refl, refl, sym (other_way (at_disk + 1) (at_disk + 2) Kind.Req Kind.Resp (λ e. omega (arith, e)))),
          ((one_way DiskDriver BlkVirtualiser, at_blk (at_disk + 3) 3 (one_way DiskDriver BlkVirtualiser) refl refl, refl, sym (other_way (at_disk + 3) at_disk Kind.Req Kind.Resp (λ e. omega (arith, e)))), tt),
        ),
      ),
    )

    virtualiser : Each (Holds BlkVirtualiser) (job_ends plan BlkVirtualiser)
    virtualiser = (
      (one_way DiskDriver BlkVirtualiser, at_blk (at_disk + 3) 3 (one_way DiskDriver BlkVirtualiser) refl refl, refl, sym (chosen (at_disk + 3) (at_disk + 3) Kind.Resp Kind.Req refl)),
      (
        (one_way BlkVirtualiser DiskDriver, at_blk (at_disk + 2) 2 (one_way BlkVirtualiser DiskDriver) refl refl, refl, sym (chosen (at_disk + 2) (at_disk + 2) Kind.Req Kind.Resp refl)),
        each_from (Holds BlkVirtualiser) (ask_ends at_disk) 0 (blk_count plan) (λ c lt. let there : 0 + c < length blk.client = (let m = many_askers in omega (arith, lt, m)) in (
          (one_way (BlkClient (0 + c)) BlkVirtualiser, at_asker (0 + c) 0 (at_disk + 4 + 2 * (0 + c)) (one_way (BlkClient (0 + c)) BlkVirtualiser) there (omega arith) refl, refl, sym (other_way (at_disk + 4 + 2 * (0 + c)) (at_disk + 3) Kind.Resp Kind.Req (λ e. omega (arith, e)))),
          ((one_way BlkVirtualiser (BlkClient (0 + c)), at_asker (0 + c) 1 (at_disk + 5 + 2 * (0 + c)) (one_way BlkVirtualiser (BlkClient (0 + c))) there (omega arith) refl, refl, sym (other_way (at_disk + 5 + 2 * (0 + c)) (at_disk + 2) Kind.Req Kind.Resp (λ e. omega (arith, e)))), tt),
        )),
      ),
    )

    asker : (c : ℕ) → c < blk_count plan → Each (Holds (BlkClient c)) (job_ends plan (BlkClient c))
    asker c lt = let there : c < length blk.client = (let m = many_askers in omega (arith, lt, m)) in (
      (one_way BlkVirtualiser (BlkClient c), at_asker c 1 (at_disk + 5 + 2 * c) (one_way BlkVirtualiser (BlkClient c)) there (omega arith) refl, refl, refl),
      ((one_way (BlkClient c) BlkVirtualiser, at_asker c 0 (at_disk + 4 + 2 * c) (one_way (BlkClient c) BlkVirtualiser) there (omega arith) refl, refl, refl), tt),
    )

  all_hold : (job : Job) → IsOf plan job → Each (Holds job) (job_ends plan job)
  all_hold EthDevice h = device h.0 h.1
  all_hold EthDriver h = driver h.0 h.1
  all_hold NetReceiver h = receiver h.0 h.1
  all_hold NetSender h = sender h.0 h.1
  all_hold (NetCopier c) h = copier h.0.0 h.0.1 c h.1
  all_hold (NetClient c) h = client h.0.0 h.0.1 c h.1
  all_hold UartDevice h = uart h.0 h.1
  all_hold UartDriver h = uart_driver h.0 h.1
  all_hold SerialReceiver h = serial_receiver h.0 h.1
  all_hold SerialSender h = serial_sender h.0 h.1
  all_hold (SerialClient c) h = serial_client h.0.0 h.0.1 c h.1
  all_hold DiskDevice h = disk h.0 h.1
  all_hold DiskDriver h = disk_driver h.0 h.1
  all_hold BlkVirtualiser h = virtualiser h.0 h.1
  all_hold (BlkClient c) h = asker h.0.0 h.0.1 c h.1

  pub end_held : (job : Job) → IsOf plan job → (i : ℕ) (s : Seat) → slice_get (job_ends plan job) i ≡ Some s → Holds job s
  end_held job is i s at = each_get (Holds job) (job_ends plan job) (all_hold job is) i s at
