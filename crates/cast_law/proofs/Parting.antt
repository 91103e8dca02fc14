-- The part of a job has the job's ends.
use Rattle.std.proofs.Common.{◌≡◌, ◌+◌, ℕ, zero, suc, Bool, true, false, if◌then◌else◌, Some, List, [], ◌∷◌, length, slice_get, refl, sym, ap, ◌∙◌, subst, arith}
use Rattle.wire_core.specs.Ends.{Role, Consumer, Producer}
use Rattle.sdf_plan.specs.declared.plan.Plan.{Plan}
use Rattle.trace_text.specs.declared.trace.Trace.{Trace}
use Rattle.trace_text.specs.Events.{net_clients, serial_clients, blk_clients, is_net_rogue, is_serial_rogue, is_blk_rogue}
use Rattle.play_core.specs.Moved.{Seat}
use Rattle.play_core.specs.Wants.{intake, outlet}
use Rattle.play_core.specs.Sheets.{Scene}
use Rattle.play_core.proofs.Lists.{some_is}
use Rattle.actor_set.specs.Parts.{Part, HostilePart}
use Rattle.actor_set.specs.Actors.{ActorEnd, IsWhole, part_of}
use Rattle.actor_set.specs.StartStates.{kind_at}
use Rattle.actor_set.specs.declared.actor.Actor.{Actor}
use Rattle.actor_set.specs.Laws.Kinds.{part_kind, sheet}
use Rattle.actor_set.proofs.LawsLemmas.Seating.{kind_is as kind_of_actor}
use Rattle.actor_set.proofs.LawsLemmas.PartEnds.{to_part, from_part, end_seat, seat_end}
use Rattle.layout_laws.specs.Jobs.Jobs.{Job, EthDevice, EthDriver, NetReceiver, NetSender, NetCopier, NetClient, UartDevice, UartDriver, SerialReceiver, SerialSender, SerialClient, DiskDevice, DiskDriver, BlkVirtualiser, BlkClient}
use Rattle.cast_core.specs.Casts.{client_pools, net_place, client_pool, blk_place, calm_part, job_part}
use Rattle.cast_core.specs.Hostile.{acts_at, net_rogue_at, serial_rogue_at, blk_rogue_at}
use Rattle.expect_core.specs.Expected.{client_entry}
use Rattle.cast_core.specs.Sources.{first_serial, first_blk, client_mac}
use Rattle.cast_core.proofs.Listing.{value_count}
use Rattle.layout_laws.specs.Seats.Ends.{net_count, blk_count, ask_ends, ends_from, lease_ends, send_ends, given_end, said_end, client_queue, job_ends, job_kind}
use Rattle.cast_law.proofs.Numbers.{clients_counted, speakers_counted, askers_counted, asks_end, leases_end, sends_end, given_ends, said_ends}

-- a sheet's ends hang on no scene
abbrev bare : Scene
bare = record { frames = []; image = [] }

abbrev pub part_ends : Part → List Seat
part_ends p = (sheet bare p).ends

-- what stands in the one list stands in the other
abbrev IsWithin : List Seat → List Seat → Type 0
IsWithin xs ys = (i : ℕ) (s : Seat) → slice_get xs i ≡ Some s → (j : ℕ) × (slice_get ys j ≡ Some s)

-- so it is both ways
abbrev AreAlike : List Seat → List Seat → Type 0
AreAlike xs ys = IsWithin xs ys × IsWithin ys xs

same_alike : (xs ys : List Seat) → xs ≡ ys → AreAlike xs ys
same_alike xs ys same = ((λ i s at. (i, subst (λ zs. slice_get zs i ≡ Some s) same at)), (λ i s at. (i, subst (λ zs. slice_get zs i ≡ Some s) (sym same) at)))

swapped_in : (a b c d : Seat) → IsWithin (a ∷ b ∷ c ∷ d ∷ []) (a ∷ c ∷ b ∷ d ∷ [])
swapped_in a b c d zero s at = (0, at)
swapped_in a b c d (suc zero) s at = (2, at)
swapped_in a b c d (suc (suc zero)) s at = (1, at)
swapped_in a b c d (suc (suc (suc zero))) s at = (3, at)
swapped_in a b c d (suc (suc (suc (suc i)))) s at = absurd cc

middle_swapped : (a b c d : Seat) → AreAlike (a ∷ b ∷ c ∷ d ∷ []) (a ∷ c ∷ b ∷ d ∷ [])
middle_swapped a b c d = (swapped_in a b c d, swapped_in a c b d)

module _ (plan : Plan) (trace : Trace) where
  macs_counted : length (net_place plan trace).macs ≡ net_count plan
  macs_counted = value_count (length (net_clients plan)) (client_mac plan) ∙ clients_counted plan

  pools_counted : length (net_place plan trace).pools ≡ net_count plan
  pools_counted = value_count (length (net_clients plan)) (client_pools plan) ∙ clients_counted plan

  entries_counted : length (blk_place plan trace).entries ≡ blk_count plan
  entries_counted = value_count (length (blk_clients plan)) (client_entry plan) ∙ askers_counted plan

  blk_pools_counted : length (blk_place plan trace).pools ≡ length (blk_place plan trace).entries
  blk_pools_counted = value_count (length (blk_clients plan)) (client_pool plan) ∙ sym (value_count (length (blk_clients plan)) (client_entry plan))

  pub ends_are : (job : Job) (p : Part) → calm_part plan trace job ≡ Some p → part_ends p ≡ job_ends plan job
  ends_are EthDevice p is = subst (λ q. part_ends q ≡ job_ends plan EthDevice) (some_is is) refl
  ends_are EthDriver p is = subst (λ q. part_ends q ≡ job_ends plan EthDriver) (some_is is) refl
  ends_are NetReceiver p is = subst (λ q. part_ends q ≡ job_ends plan NetReceiver) (some_is is)
      (ap (λ ends. intake 4 ∷ outlet 5 ∷ ends) (leases_end 0 (net_place plan trace).macs ∙ ap (ends_from lease_ends 0) macs_counted))
  ends_are NetSender p is = subst (λ q. part_ends q ≡ job_ends plan NetSender) (some_is is)
      (ap (λ ends. intake 7 ∷ outlet 6 ∷ ends) (sends_end (net_place plan trace).most 0 (net_place plan trace).pools ∙ ap (ends_from send_ends 0) pools_counted))
  ends_are (NetCopier c) p is = subst (λ q. part_ends q ≡ job_ends plan (NetCopier c)) (some_is is) refl
  ends_are (NetClient c) p is = subst (λ q. part_ends q ≡ job_ends plan (NetClient c)) (some_is is) refl
  ends_are UartDevice p is = subst (λ q. part_ends q ≡ job_ends plan UartDevice) (some_is is) refl
  ends_are UartDriver p is = subst (λ q. part_ends q ≡ job_ends plan UartDriver) (some_is is) refl
  ends_are SerialReceiver p is = subst (λ q. part_ends q ≡ job_ends plan SerialReceiver) (some_is is)
      (ap (λ ends. intake (first_serial plan + 2) ∷ ends) (given_ends (first_serial plan) 0 (first_serial plan + 4) (length (serial_clients plan)) (omega arith) ∙ ap (ends_from (given_end (first_serial plan)) 0) (speakers_counted plan)))
  ends_are SerialSender p is = subst (λ q. part_ends q ≡ job_ends plan SerialSender) (some_is is)
      (ap (λ ends. outlet (first_serial plan + 3) ∷ ends) (said_ends (first_serial plan) 0 (first_serial plan + 5) (length (serial_clients plan)) (omega arith) ∙ ap (ends_from (said_end (first_serial plan)) 0) (speakers_counted plan)))
  ends_are (SerialClient c) p is = subst (λ q. part_ends q ≡ job_ends plan (SerialClient c)) (some_is is) refl
  ends_are DiskDevice p is = subst (λ q. part_ends q ≡ job_ends plan DiskDevice) (some_is is) refl
  ends_are DiskDriver p is = subst (λ q. part_ends q ≡ job_ends plan DiskDriver) (some_is is) refl
  ends_are BlkVirtualiser p is = subst (λ q. part_ends q ≡ job_ends plan BlkVirtualiser) (some_is is)
      (ap (λ ends. intake (first_blk plan + 3) ∷ outlet (first_blk plan + 2) ∷ ends) (asks_end (first_blk plan) 0 (blk_place plan trace).entries (blk_place plan trace).pools blk_pools_counted ∙ ap (ends_from (ask_ends (first_blk plan)) 0) entries_counted))
  ends_are (BlkClient c) p is = subst (λ q. part_ends q ≡ job_ends plan (BlkClient c)) (some_is is) refl

  -- the part of a job has the ends of the job, that of a hostile client in another order
  of_calm : (job : Job) (p : Part) → calm_part plan trace job ≡ Some p → AreAlike (part_ends p) (job_ends plan job)
  of_calm job p is = same_alike (part_ends p) (job_ends plan job) (ends_are job p is)

  alike_job : (job : Job) (p : Part) → job_part plan trace job ≡ Some p → AreAlike (part_ends p) (job_ends plan job)
  alike_job EthDevice p is = of_calm EthDevice p is
  alike_job EthDriver p is = of_calm EthDriver p is
  alike_job NetReceiver p is = of_calm NetReceiver p is
  alike_job NetSender p is = of_calm NetSender p is
  alike_job (NetCopier c) p is = of_calm (NetCopier c) p is
  alike_job (NetClient c) p is = by (is_net_rogue plan c) is
    where
      by : (b : Bool) → (if b then Some (HostilePart (net_rogue_at 0 c (client_pools plan c) (acts_at trace.net_acts c))) else calm_part plan trace (NetClient c)) ≡ Some p → AreAlike (part_ends p) (job_ends plan (NetClient c))
      by true e = subst (λ q. AreAlike (part_ends q) (job_ends plan (NetClient c))) (some_is e) (middle_swapped (intake (client_queue c + 2)) (intake (client_queue c + 5)) (outlet (client_queue c + 3)) (outlet (client_queue c + 4)))
      by false e = of_calm (NetClient c) p e
  alike_job UartDevice p is = of_calm UartDevice p is
  alike_job UartDriver p is = of_calm UartDriver p is
  alike_job SerialReceiver p is = of_calm SerialReceiver p is
  alike_job SerialSender p is = of_calm SerialSender p is
  alike_job (SerialClient c) p is = by (is_serial_rogue plan c) is
    where
      by : (b : Bool) → (if b then Some (HostilePart (serial_rogue_at (first_serial plan) c (acts_at trace.serial_acts c))) else calm_part plan trace (SerialClient c)) ≡ Some p → AreAlike (part_ends p) (job_ends plan (SerialClient c))
      by true e = subst (λ q. AreAlike (part_ends q) (job_ends plan (SerialClient c))) (some_is e) (same_alike (job_ends plan (SerialClient c)) (job_ends plan (SerialClient c)) refl)
      by false e = of_calm (SerialClient c) p e
  alike_job DiskDevice p is = of_calm DiskDevice p is
  alike_job DiskDriver p is = of_calm DiskDriver p is
  alike_job BlkVirtualiser p is = of_calm BlkVirtualiser p is
  alike_job (BlkClient c) p is = by (is_blk_rogue plan c) is
    where
      by : (b : Bool) → (if b then Some (HostilePart (blk_rogue_at (first_blk plan) c (client_pool plan c) (acts_at trace.blk_acts c))) else calm_part plan trace (BlkClient c)) ≡ Some p → AreAlike (part_ends p) (job_ends plan (BlkClient c))
      by true e = subst (λ q. AreAlike (part_ends q) (job_ends plan (BlkClient c))) (some_is e) (same_alike (job_ends plan (BlkClient c)) (job_ends plan (BlkClient c)) refl)
      by false e = of_calm (BlkClient c) p e

  -- an actor's ends are those of its job
  pub end_is : (job : Job) (x : Actor) → job_part plan trace job ≡ Some (part_of x) → IsWhole x → (r : Role) (n : ℕ) → ActorEnd x r n → (i : ℕ) × (slice_get (job_ends plan job) i ≡ Some (record { queue = n; role = r }))
  end_is job x is whole r n end =
      let s = end_seat bare (part_of x) r n (to_part x r n whole end) in
      (alike_job job (part_of x) is).0 s.0 (record { queue = n; role = r }) s.1

  pub is_end : (job : Job) (x : Actor) → job_part plan trace job ≡ Some (part_of x) → (r : Role) (n i : ℕ) → slice_get (job_ends plan job) i ≡ Some (record { queue = n; role = r }) → ActorEnd x r n
  is_end job x is r n i at =
      let there = (alike_job job (part_of x) is).1 i (record { queue = n; role = r }) at in
      from_part x r n (seat_end bare (part_of x) there.0 (record { queue = n; role = r }) there.1)

  -- what the queues of a part carry
  kind_of_job : (job : Job) (p : Part) → calm_part plan trace job ≡ Some p → (r : Role) (n : ℕ) → part_kind p r n ≡ job_kind plan job r n
  kind_of_job EthDevice p is r n = ap (λ q. part_kind q r n) (sym (some_is is))
  kind_of_job EthDriver p is r n = ap (λ q. part_kind q r n) (sym (some_is is))
  kind_of_job NetReceiver p is r n = ap (λ q. part_kind q r n) (sym (some_is is))
  kind_of_job NetSender p is r n = ap (λ q. part_kind q r n) (sym (some_is is))
  kind_of_job (NetCopier c) p is r n = ap (λ q. part_kind q r n) (sym (some_is is))
  kind_of_job (NetClient c) p is r n = ap (λ q. part_kind q r n) (sym (some_is is))
  kind_of_job UartDevice p is r n = ap (λ q. part_kind q r n) (sym (some_is is))
  kind_of_job UartDriver p is r n = ap (λ q. part_kind q r n) (sym (some_is is))
  kind_of_job SerialReceiver p is r n = ap (λ q. part_kind q r n) (sym (some_is is))
  kind_of_job SerialSender p is r n = ap (λ q. part_kind q r n) (sym (some_is is))
  kind_of_job (SerialClient c) p is r n = ap (λ q. part_kind q r n) (sym (some_is is))
  kind_of_job DiskDevice p is Consumer n = ap (λ q. part_kind q Consumer n) (sym (some_is is))
  kind_of_job DiskDevice p is Producer n = ap (λ q. part_kind q Producer n) (sym (some_is is))
  kind_of_job DiskDriver p is Consumer n = ap (λ q. part_kind q Consumer n) (sym (some_is is))
  kind_of_job DiskDriver p is Producer n = ap (λ q. part_kind q Producer n) (sym (some_is is))
  kind_of_job BlkVirtualiser p is Consumer n = ap (λ q. part_kind q Consumer n) (sym (some_is is))
  kind_of_job BlkVirtualiser p is Producer n = ap (λ q. part_kind q Producer n) (sym (some_is is))
  kind_of_job (BlkClient c) p is Consumer n = ap (λ q. part_kind q Consumer n) (sym (some_is is))
  kind_of_job (BlkClient c) p is Producer n = ap (λ q. part_kind q Producer n) (sym (some_is is))

  -- so do those of a hostile client
  kind_hostile : (job : Job) (p : Part) → job_part plan trace job ≡ Some p → (r : Role) (n : ℕ) → part_kind p r n ≡ job_kind plan job r n
  kind_hostile EthDevice p is r n = kind_of_job EthDevice p is r n
  kind_hostile EthDriver p is r n = kind_of_job EthDriver p is r n
  kind_hostile NetReceiver p is r n = kind_of_job NetReceiver p is r n
  kind_hostile NetSender p is r n = kind_of_job NetSender p is r n
  kind_hostile (NetCopier c) p is r n = kind_of_job (NetCopier c) p is r n
  kind_hostile (NetClient c) p is r n = by (is_net_rogue plan c) is r
    where
      by : (b : Bool) → (if b then Some (HostilePart (net_rogue_at 0 c (client_pools plan c) (acts_at trace.net_acts c))) else calm_part plan trace (NetClient c)) ≡ Some p → (r : Role) → part_kind p r n ≡ job_kind plan (NetClient c) r n
      by true e Consumer = ap (λ q. part_kind q Consumer n) (sym (some_is e))
      by true e Producer = ap (λ q. part_kind q Producer n) (sym (some_is e))
      by false e r = kind_of_job (NetClient c) p e r n
  kind_hostile UartDevice p is r n = kind_of_job UartDevice p is r n
  kind_hostile UartDriver p is r n = kind_of_job UartDriver p is r n
  kind_hostile SerialReceiver p is r n = kind_of_job SerialReceiver p is r n
  kind_hostile SerialSender p is r n = kind_of_job SerialSender p is r n
  kind_hostile (SerialClient c) p is r n = by (is_serial_rogue plan c) is r
    where
      by : (b : Bool) → (if b then Some (HostilePart (serial_rogue_at (first_serial plan) c (acts_at trace.serial_acts c))) else calm_part plan trace (SerialClient c)) ≡ Some p → (r : Role) → part_kind p r n ≡ job_kind plan (SerialClient c) r n
      by true e Consumer = ap (λ q. part_kind q Consumer n) (sym (some_is e))
      by true e Producer = ap (λ q. part_kind q Producer n) (sym (some_is e))
      by false e r = kind_of_job (SerialClient c) p e r n
  kind_hostile DiskDevice p is r n = kind_of_job DiskDevice p is r n
  kind_hostile DiskDriver p is r n = kind_of_job DiskDriver p is r n
  kind_hostile BlkVirtualiser p is r n = kind_of_job BlkVirtualiser p is r n
  kind_hostile (BlkClient c) p is r n = by (is_blk_rogue plan c) is r
    where
      by : (b : Bool) → (if b then Some (HostilePart (blk_rogue_at (first_blk plan) c (client_pool plan c) (acts_at trace.blk_acts c))) else calm_part plan trace (BlkClient c)) ≡ Some p → (r : Role) → part_kind p r n ≡ job_kind plan (BlkClient c) r n
      by true e Consumer = ap (λ q. part_kind q Consumer n) (sym (some_is e))
      by true e Producer = ap (λ q. part_kind q Producer n) (sym (some_is e))
      by false e r = kind_of_job (BlkClient c) p e r n

  pub kind_is : (job : Job) (x : Actor) → job_part plan trace job ≡ Some (part_of x) → (r : Role) (n : ℕ) → kind_at x r n ≡ job_kind plan job r n
  kind_is job x is r n = kind_of_actor x r n ∙ kind_hostile job (part_of x) is r n
