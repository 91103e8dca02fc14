-- The two owners of each queue have its ends.
use Rattle.std.proofs.Common.{◌≡◌, ◌+◌, ◌-◌, ◌*◌, ◌<◌, ◌≤◌, ◌++◌, ℕ, zero, suc, Option, Some, None, inl, inr, List, [], ◌∷◌, length, slice_get, refl, sym, subst, arith}
use Rattle.std.specs.Option.{option_map_or}
use Rattle.sdf_plan.specs.declared.plan.Plan.{Plan}
use Rattle.sdf_plan.specs.declared.plan.Net.{Net}
use Rattle.sdf_plan.specs.declared.plan.Serial.{Serial}
use Rattle.sdf_plan.specs.declared.plan.Blk.{Blk}
use Rattle.sdf_check.proofs.ListLemmas.{get-left, get-right, get-either}
use Rattle.region_layout.specs.Rows.{each_client}
use Rattle.play_core.specs.Moved.{Seat}
use Rattle.play_core.specs.Wants.{intake, outlet}
use Rattle.play_core.proofs.Lists.{some_is}
use Rattle.layout_laws.specs.Jobs.Jobs.{EthDevice, EthDriver, NetReceiver, NetSender, NetCopier, UartDevice, UartDriver, SerialReceiver, SerialSender, SerialClient, DiskDevice, DiskDriver, BlkVirtualiser, BlkClient}
use Rattle.layout_laws.specs.Jobs.Queues.{Owners, one_way, both_ways, net_client_owners, net_owners, serial_client_owners, serial_owners, blk_owners, owners_of}
use Rattle.layout_laws.specs.Seats.Ends.{net_count, serial_count, blk_count, serial_first, blk_first, ask_ends, client_queue, ends_from, lease_ends, send_ends, given_end, said_end, job_ends}
use Rattle.layout_laws.proofs.SeatsLemmas.Having.{count_is}
use Rattle.layout_laws.proofs.SeatsLemmas.Counts.{owners_before, all_before}

-- an end is among these
abbrev pub IsAmong : List Seat → Seat → Type 0
IsAmong ends s = (i : ℕ) × (slice_get ends i ≡ Some s)

among_left : (xs ys : List Seat) (s : Seat) → IsAmong xs s → IsAmong (xs ++ ys) s
among_left xs ys s h = (h.0, get-left xs ys h.0 s h.1)

among_right : (xs ys : List Seat) (s : Seat) → IsAmong ys s → IsAmong (xs ++ ys) s
among_right xs ys s h = (length xs + h.0, get-right xs ys h.0 s h.1)

among_later : (x : Seat) (xs : List Seat) (s : Seat) → IsAmong xs s → IsAmong (x ∷ xs) s
among_later x xs s h = (suc h.0, h.1)

-- the ends of a client are among those of all
among_each : (ends : ℕ → List Seat) (from count c : ℕ) (s : Seat) → c < count → IsAmong (ends (from + c)) s → IsAmong (ends_from ends from count) s
among_each ends from zero c s lt h = absurd (omega (arith, lt))
among_each ends from (suc count) zero s lt h = let e : from + 0 ≡ from = omega arith in among_left (ends from) (ends_from ends (from + 1) count) s (subst (λ n. IsAmong (ends n) s) e h)
among_each ends from (suc count) (suc c) s lt h = let e : from + suc c ≡ from + 1 + c = omega arith in among_right (ends from) (ends_from ends (from + 1) count) s (among_each ends (from + 1) count c s (omega (arith, lt)) (subst (λ n. IsAmong (ends n) s) e h))

module _ (plan : Plan) where
  abbrev first : ℕ
  first = serial_first plan

  -- the owners of queue n have its ends
  abbrev pub TellsAt : ℕ → Owners → Type 0
  TellsAt n o = IsAmong (job_ends plan o.producer) (outlet n) × IsAmong (job_ends plan o.consumer) (intake n)

  -- so have those of queues from a number on
  abbrev TellsFrom : ℕ → List Owners → Type 0
  TellsFrom n os = (i : ℕ) (o : Owners) → slice_get os i ≡ Some o → TellsAt (n + i) o

  at_number : (n m : ℕ) (o : Owners) → n ≡ m → TellsAt m o → TellsAt n o
  at_number n m o is h = subst (λ k. TellsAt k o) (sym is) h

  tells_append : (n : ℕ) (xs ys : List Owners) → TellsFrom n xs → TellsFrom (n + length xs) ys → TellsFrom n (xs ++ ys)
  tells_append n xs ys f g i o at = elim (get-either xs ys i o at) [
    | inl h ↦ f i o h
    | inr h ↦ let le : length xs ≤ i = h.0 in at_number (n + i) (n + length xs + (i - length xs)) o (omega (arith, le)) (g (i - length xs) o h.1)
  ]

  tells_each : {C : Type 0} (rows : ℕ → List Owners) (start : ℕ → ℕ) → ((k : ℕ) → start (k + 1) ≡ start k + length (rows k)) → (from : ℕ) (clients : List C) → ((c : ℕ) → c < length clients → TellsFrom (start (from + c)) (rows (from + c)))
      → TellsFrom (start from) (each_client (λ c client. rows c) from clients)
  tells_each rows start steps from [] each = λ i o at. absurd cc
  tells_each {C} rows start steps from (x ∷ clients) each =
      let none : from + 0 ≡ from = omega arith in
      tells_append (start from) (rows from) (each_client (λ c (client : C). rows c) (from + 1) clients)
      (subst (λ k. TellsFrom (start k) (rows k)) none (each 0 (omega arith)))
      (subst (λ n. TellsFrom n (each_client (λ c (client : C). rows c) (from + 1) clients)) (steps from)
      (tells_each rows start steps (from + 1) clients (λ c lt. let e : from + suc c ≡ from + 1 + c = omega arith in subst (λ k. TellsFrom (start k) (rows k)) e (each (suc c) (omega (arith, lt))))))

  -- a network client's queues
  module _ (c : ℕ) (there : c < net_count plan) where
    leased : (s : Seat) → IsAmong (lease_ends (0 + c)) s → IsAmong (job_ends plan NetReceiver) s
    leased s h = among_later (intake 4) (outlet 5 ∷ ends_from lease_ends 0 (net_count plan)) s (among_later (outlet 5) (ends_from lease_ends 0 (net_count plan)) s (among_each lease_ends 0 (net_count plan) c s there h))

    shipped : (s : Seat) → IsAmong (send_ends (0 + c)) s → IsAmong (job_ends plan NetSender) s
    shipped s h = among_later (intake 7) (outlet 6 ∷ ends_from send_ends 0 (net_count plan)) s (among_later (outlet 6) (ends_from send_ends 0 (net_count plan)) s (among_each send_ends 0 (net_count plan) c s there h))

    client_tells : TellsFrom (client_queue (0 + c)) (net_client_owners (0 + c))
    client_tells zero o at = subst (TellsAt (client_queue (0 + c) + 0)) (some_is at) (at_number (client_queue (0 + c) + 0) (client_queue (0 + c)) (one_way NetReceiver (NetCopier (0 + c))) (omega arith) (leased (outlet (client_queue (0 + c))) (0, refl), (0, refl)))
    client_tells (suc zero) o at = subst (TellsAt (client_queue (0 + c) + 1)) (some_is at) ((3, refl), leased (intake (client_queue (0 + c) + 1)) (1, refl))
    client_tells (suc (suc zero)) o at = subst (TellsAt (client_queue (0 + c) + 2)) (some_is at) ((2, refl), (0, refl))
    client_tells (suc (suc (suc zero))) o at = subst (TellsAt (client_queue (0 + c) + 3)) (some_is at) ((1, refl), (1, refl))
    client_tells (suc (suc (suc (suc zero)))) o at = subst (TellsAt (client_queue (0 + c) + 4)) (some_is at) ((3, refl), shipped (intake (client_queue (0 + c) + 4)) (0, refl))
    client_tells (suc (suc (suc (suc (suc zero))))) o at = subst (TellsAt (client_queue (0 + c) + 5)) (some_is at) (shipped (outlet (client_queue (0 + c) + 5)) (1, refl), (2, refl))
    client_tells (suc (suc (suc (suc (suc (suc i)))))) o at = absurd cc

  -- those of the network class
  abbrev front : List Owners
  front = both_ways EthDriver EthDevice ++ both_ways EthDriver EthDevice ++ both_ways EthDriver NetReceiver ++ both_ways NetSender EthDriver

  front_tells : TellsFrom 0 front
  front_tells zero o at = subst (TellsAt 0) (some_is at) ((1, refl), (0, refl))
  front_tells (suc zero) o at = subst (TellsAt 1) (some_is at) ((1, refl), (2, refl))
  front_tells (suc (suc zero)) o at = subst (TellsAt 2) (some_is at) ((5, refl), (2, refl))
  front_tells (suc (suc (suc zero))) o at = subst (TellsAt 3) (some_is at) ((3, refl), (6, refl))
  front_tells (suc (suc (suc (suc zero)))) o at = subst (TellsAt 4) (some_is at) ((3, refl), (0, refl))
  front_tells (suc (suc (suc (suc (suc zero))))) o at = subst (TellsAt 5) (some_is at) ((1, refl), (0, refl))
  front_tells (suc (suc (suc (suc (suc (suc zero)))))) o at = subst (TellsAt 6) (some_is at) ((1, refl), (4, refl))
  front_tells (suc (suc (suc (suc (suc (suc (suc zero))))))) o at = subst (TellsAt 7) (some_is at) ((7, refl), (0, refl))
  front_tells (suc (suc (suc (suc (suc (suc (suc (suc i)))))))) o at = absurd cc

  net_tells : (net : Net) → plan.net ≡ Some net → TellsFrom 0 (net_owners net)
  net_tells net is =
      tells_append 0 front (each_client (λ c client. net_client_owners c) 0 net.client) front_tells
      (tells_each net_client_owners client_queue (λ k. omega arith) 0 net.client
      (λ c lt. client_tells c (let many = count_is plan.net (λ (n : Net). length n.client) net is in omega (arith, lt, many))))

  -- a serial client's queues
  module _ (c : ℕ) (there : c < serial_count plan) where
    given : IsAmong (job_ends plan SerialReceiver) (outlet (first + 4 + 2 * (0 + c)))
    given = among_later (intake (first + 2)) (ends_from (given_end first) 0 (serial_count plan)) (outlet (first + 4 + 2 * (0 + c))) (among_each (given_end first) 0 (serial_count plan) c (outlet (first + 4 + 2 * (0 + c))) there (0, refl))

    said : IsAmong (job_ends plan SerialSender) (intake (first + 5 + 2 * (0 + c)))
    said = among_later (outlet (first + 3)) (ends_from (said_end first) 0 (serial_count plan)) (intake (first + 5 + 2 * (0 + c))) (among_each (said_end first) 0 (serial_count plan) c (intake (first + 5 + 2 * (0 + c))) there (0, refl))

    serial_client_tells : TellsFrom (first + 4 + 2 * (0 + c)) (serial_client_owners (0 + c))
    serial_client_tells zero o at = subst (TellsAt (first + 4 + 2 * (0 + c) + 0)) (some_is at) (at_number (first + 4 + 2 * (0 + c) + 0) (first + 4 + 2 * (0 + c)) (one_way SerialReceiver (SerialClient (0 + c))) (omega arith) (given, (0, refl)))
    serial_client_tells (suc zero) o at = subst (TellsAt (first + 4 + 2 * (0 + c) + 1)) (some_is at) (at_number (first + 4 + 2 * (0 + c) + 1) (first + 5 + 2 * (0 + c)) (one_way (SerialClient (0 + c)) SerialSender) (omega arith) ((1, refl), said))
    serial_client_tells (suc (suc i)) o at = absurd cc

  -- those of the serial class
  abbrev serial_front : List Owners
  serial_front = both_ways UartDevice UartDriver ++ (one_way UartDriver SerialReceiver ∷ one_way SerialSender UartDriver ∷ [])

  serial_front_tells : TellsFrom first serial_front
  serial_front_tells zero o at = subst (TellsAt (first + 0)) (some_is at) (at_number (first + 0) first (one_way UartDevice UartDriver) (omega arith) ((1, refl), (0, refl)))
  serial_front_tells (suc zero) o at = subst (TellsAt (first + 1)) (some_is at) ((3, refl), (0, refl))
  serial_front_tells (suc (suc zero)) o at = subst (TellsAt (first + 2)) (some_is at) ((1, refl), (0, refl))
  serial_front_tells (suc (suc (suc zero))) o at = subst (TellsAt (first + 3)) (some_is at) ((0, refl), (2, refl))
  serial_front_tells (suc (suc (suc (suc i)))) o at = absurd cc

  serial_tells : (serial : Serial) → plan.serial ≡ Some serial → TellsFrom first (serial_owners serial)
  serial_tells serial is =
      let none : first + 4 ≡ first + 4 + 2 * 0 = omega arith in
      tells_append first serial_front (each_client (λ c client. serial_client_owners c) 0 serial.client) serial_front_tells
      (subst (λ n. TellsFrom n (each_client (λ c client. serial_client_owners c) 0 serial.client)) (sym none)
      (tells_each serial_client_owners (λ k. first + 4 + 2 * k) (λ k. omega arith) 0 serial.client
      (λ c lt. serial_client_tells c (let many = count_is plan.serial (λ (n : Serial). length n.client) serial is in omega (arith, lt, many)))))

  -- a block client's queues
  module _ (c : ℕ) (there : c < blk_count plan) where
    abbrev at_disk : ℕ
    at_disk = blk_first plan

    takes : IsAmong (job_ends plan BlkVirtualiser) (intake (at_disk + 4 + 2 * (0 + c)))
    takes = among_later (intake (at_disk + 3)) (outlet (at_disk + 2) ∷ ends_from (ask_ends at_disk) 0 (blk_count plan)) (intake (at_disk + 4 + 2 * (0 + c))) (among_later (outlet (at_disk + 2)) (ends_from (ask_ends at_disk) 0 (blk_count plan)) (intake (at_disk + 4 + 2 * (0 + c))) (among_each (ask_ends at_disk) 0 (blk_count plan) c (intake (at_disk + 4 + 2 * (0 + c))) there (0, refl)))

    answers : IsAmong (job_ends plan BlkVirtualiser) (outlet (at_disk + 5 + 2 * (0 + c)))
    answers = among_later (intake (at_disk + 3)) (outlet (at_disk + 2) ∷ ends_from (ask_ends at_disk) 0 (blk_count plan)) (outlet (at_disk + 5 + 2 * (0 + c))) (among_later (outlet (at_disk + 2)) (ends_from (ask_ends at_disk) 0 (blk_count plan)) (outlet (at_disk + 5 + 2 * (0 + c))) (among_each (ask_ends at_disk) 0 (blk_count plan) c (outlet (at_disk + 5 + 2 * (0 + c))) there (1, refl)))

    blk_client_tells : TellsFrom (at_disk + 4 + 2 * (0 + c)) (both_ways (BlkClient (0 + c)) BlkVirtualiser)
    blk_client_tells zero o at = subst (TellsAt (at_disk + 4 + 2 * (0 + c) + 0)) (some_is at) (at_number (at_disk + 4 + 2 * (0 + c) + 0) (at_disk + 4 + 2 * (0 + c)) (one_way (BlkClient (0 + c)) BlkVirtualiser) (omega arith) ((1, refl), takes))
    blk_client_tells (suc zero) o at = subst (TellsAt (at_disk + 4 + 2 * (0 + c) + 1)) (some_is at) (at_number (at_disk + 4 + 2 * (0 + c) + 1) (at_disk + 5 + 2 * (0 + c)) (one_way BlkVirtualiser (BlkClient (0 + c))) (omega arith) (answers, (0, refl)))
    blk_client_tells (suc (suc i)) o at = absurd cc

  -- those of the block class
  abbrev blk_front : List Owners
  blk_front = both_ways DiskDriver DiskDevice ++ both_ways BlkVirtualiser DiskDriver

  blk_front_tells : TellsFrom (blk_first plan) blk_front
  blk_front_tells zero o at = subst (TellsAt (blk_first plan + 0)) (some_is at) (at_number (blk_first plan + 0) (blk_first plan) (one_way DiskDriver DiskDevice) (omega arith) ((1, refl), (0, refl)))
  blk_front_tells (suc zero) o at = subst (TellsAt (blk_first plan + 1)) (some_is at) ((1, refl), (2, refl))
  blk_front_tells (suc (suc zero)) o at = subst (TellsAt (blk_first plan + 2)) (some_is at) ((1, refl), (0, refl))
  blk_front_tells (suc (suc (suc zero))) o at = subst (TellsAt (blk_first plan + 3)) (some_is at) ((3, refl), (0, refl))
  blk_front_tells (suc (suc (suc (suc i)))) o at = absurd cc

  blk_tells : (blk : Blk) → plan.blk ≡ Some blk → TellsFrom (blk_first plan) (blk_owners blk)
  blk_tells blk is =
      let none : blk_first plan + 4 ≡ blk_first plan + 4 + 2 * 0 = omega arith in
      let each = each_client (λ c client. both_ways (BlkClient c) BlkVirtualiser) 0 blk.client in
      tells_append (blk_first plan) blk_front each blk_front_tells
      (subst (λ n. TellsFrom n each) (sym none)
      (tells_each (λ c. both_ways (BlkClient c) BlkVirtualiser) (λ k. blk_first plan + 4 + 2 * k) (λ k. omega arith) 0 blk.client
      (λ c lt. blk_client_tells c (let many = count_is plan.blk (λ (n : Blk). length n.client) blk is in omega (arith, lt, many)))))

  tells_class : {C : Type 0} (n : ℕ) (owners : C → List Owners) (class : Option C) → ((x : C) → class ≡ Some x → TellsFrom n (owners x)) → TellsFrom n (option_map_or owners class [])
  tells_class n owners None h = λ i o at. absurd cc
  tells_class n owners (Some x) h = h x refl

  pub all_tell : (n : ℕ) (o : Owners) → slice_get (owners_of plan) n ≡ Some o → TellsAt n o
  all_tell n o at =
      let net = option_map_or net_owners plan.net [] in
      let serial = option_map_or serial_owners plan.serial [] in
      let blk = option_map_or blk_owners plan.blk [] in
      let zero_first : 0 + n ≡ n = omega arith in
      let before : 0 + length net ≡ 0 + first = (let b = owners_before plan in omega (arith, b)) in
      let behind : 0 + length (net ++ serial) ≡ blk_first plan = (let b = all_before plan in omega (arith, b)) in
      subst (λ k. TellsAt k o) zero_first
      (tells_append 0 (net ++ serial) blk
      (tells_append 0 net serial (tells_class 0 net_owners plan.net net_tells)
      (subst (λ k. TellsFrom k serial) (sym before) (tells_class (0 + first) serial_owners plan.serial (λ x is. let e : first ≡ 0 + first = omega arith in subst (λ k. TellsFrom k (serial_owners x)) e (serial_tells x is)))))
      (subst (λ k. TellsFrom k blk) (sym behind) (tells_class (blk_first plan) blk_owners plan.blk blk_tells)) n o at)
