-- No two ends of an actor on one side are of one queue.
use Rattle.std.proofs.Common.{◌≡◌, ◌⊎◌, ◌+◌, ℕ, zero, suc, inl, inr, Some, List, [], ◌∷◌, length, map, slice_get, refl, sym, ap, ◌∙◌, subst, arith}
use Rattle.std.proofs.lemmas.List.{length-map}
use Rattle.frame_core.specs.declared.mac.Mac.{Mac}
use Rattle.wire_core.specs.declared.names.QueueId.{QueueId}
use Rattle.turn_kit.specs.ManyEnds.{intake_queues, outlet_queues}
use Rattle.pipe_driver.specs.Drivers.{AreDistinct}
use Rattle.sdf_plan.specs.declared.plan.Plan.{Plan}
use Rattle.trace_text.specs.declared.trace.Trace.{Trace}
use Rattle.trace_text.specs.Events.{serial_clients}
use Rattle.play_core.proofs.Lists.{some_is}
use Rattle.buffer_kit.specs.Virtualising.{from_queues, to_queues}
use Rattle.net_virt_rx.specs.declared.NetVirtRx.{NetVirtRx}
use Rattle.net_virt_tx.specs.declared.NetVirtTx.{NetVirtTx}
use Rattle.net_virt_tx.specs.declared.client.Client.{Client as TxClient}
use Rattle.net_virt_tx.specs.declared.descriptors.Sender.{Sender}
use Rattle.net_virt_tx.specs.Traffics.{senders}
use Rattle.net_law.specs.Parts.Parts.{NetPart, NetDevice, NetDriver, NetReceiver, NetCopier as CopierPart, NetClient as NetClientPart, Way, Lessee}
use Rattle.net_law.specs.Owners.Names.{ClientPools}
use Rattle.owner_law.specs.Pools.Places.{PoolAt}
use Rattle.net_law.specs.Parts.Numbers.{driver_at, receiver_at}
use Rattle.net_law.specs.Parts.Playing.{lessees}
use Rattle.net_law.specs.TxParts.Parts.{SendPart, Shipper}
use Rattle.net_law.specs.TxParts.Playing.{shippers}
use Rattle.net_law.specs.TxParts.Numbers.{sender_at}
use Rattle.blk_virt.specs.declared.requests.Holder.{Holder}
use Rattle.blk_virt.specs.declared.virtualiser.BlkVirt.{BlkVirt}
use Rattle.blk_virt.specs.Desks.{holders}
use Rattle.blk_law.specs.Sheets.Parts.{BlkPart, DiskDevice as DiskPart, BlkDriver as BlkDriverPart, BlkVirt as VirtPart, BlkClient as BlkClientPart, Sharer}
use Rattle.blk_law.specs.Sheets.Numbers.{blk_driver_at, sharers_from}
use Rattle.blk_law.specs.Sheets.Playing.{sharers}
use Rattle.actor_set.specs.Parts.{HostilePart, RoguePart, Part, UartPart, DriverPart, RxPart, TxPart, ClientPart, NetworkPart, SendingPart, BlockPart}
use Rattle.actor_set.specs.Actors.{IsWhole, part_of}
use Rattle.actor_set.specs.StartStates.{HasApartEnds, HasApartQueues}
use Rattle.actor_set.specs.declared.actor.Actor.{Actor}
use Rattle.actor_set.specs.declared.actor.Actor.TheVariants as Kinds
use Rattle.actor_set.proofs.LawsLemmas.PartEnds.{number_there}
use Rattle.layout_laws.specs.Jobs.Jobs.{Job, EthDevice, EthDriver, NetReceiver, NetSender, NetCopier, NetClient, UartDevice, UartDriver, SerialReceiver, SerialSender, SerialClient, DiskDevice, DiskDriver, BlkVirtualiser, BlkClient}
use Rattle.cast_core.specs.Casts.{net_place, blk_place, calm_part, job_part}
use Rattle.cast_core.specs.Sources.{first_serial, first_blk}
use Rattle.cast_law.proofs.Calming.{job_view}
use Rattle.cast_law.proofs.Numbers.{lessee_numbers, shipper_numbers, sharer_numbers, second_apart}

-- of the clients of a virtualiser: its queues on each side, and that to the driver's side
abbrev AreOne : {C : Type 0} → (C → ℕ) → List C → Type 0
AreOne {C} queue clients = (k j : ℕ) (c d : C) → slice_get clients k ≡ Some c → slice_get clients j ≡ Some d → queue c ≡ queue d → k ≡ j

abbrev IsNotOf : {C : Type 0} → (C → ℕ) → List C → ℕ → Type 0
IsNotOf {C} queue clients n = (k : ℕ) (c : C) → slice_get clients k ≡ Some c → n ≡ queue c → ⊥

-- no two ends of a part on one side are of one queue
abbrev NetApart : NetPart → Type 0
NetApart (NetDevice rx_free rx_active tx_active tx_free frames drops) = (rx_free ≡ tx_active → ⊥) × (rx_active ≡ tx_free → ⊥)
NetApart (NetDriver ways) = AreDistinct (map (λ (w : Way). w.input) ways) × AreDistinct (map (λ (w : Way). w.output) ways)
NetApart (NetReceiver active free pool clients) =
    AreOne (λ (c : Lessee). c.free) clients × AreOne (λ (c : Lessee). c.active) clients × IsNotOf (λ (c : Lessee). c.free) clients active × IsNotOf (λ (c : Lessee). c.active) clients free
NetApart (CopierPart lease_active lease_free rx_active rx_free drops) = (lease_active ≡ rx_free → ⊥) × (rx_active ≡ lease_free → ⊥)
NetApart (NetClientPart program mac rx_active rx_free tx_active tx_free rx tx) = (rx_active ≡ tx_free → ⊥) × (rx_free ≡ tx_active → ⊥)

abbrev SendApart : SendPart → Type 0
SendApart p = AreOne (λ (c : Shipper). c.active) p.clients × AreOne (λ (c : Shipper). c.free) p.clients × IsNotOf (λ (c : Shipper). c.active) p.clients p.free × IsNotOf (λ (c : Shipper). c.free) p.clients p.active

abbrev BlkApart : BlkPart → Type 0
BlkApart (DiskPart req resp image) = Unit {0}
BlkApart (BlkDriverPart ways) = AreDistinct (map (λ (w : Way). w.input) ways) × AreDistinct (map (λ (w : Way). w.output) ways)
BlkApart (VirtPart req resp sectors pool clients) =
    AreOne (λ (c : Sharer). c.req) clients × AreOne (λ (c : Sharer). c.resp) clients × IsNotOf (λ (c : Sharer). c.req) clients resp × IsNotOf (λ (c : Sharer). c.resp) clients req
BlkApart (BlkClientPart req resp asks pool) = Unit {0}

abbrev ApartIn : Part → Type 0
ApartIn (UartPart rx tx input) = Unit {0}
ApartIn (DriverPart device_rx device_tx rx tx) = (device_rx ≡ tx → ⊥) × (rx ≡ device_tx → ⊥)
ApartIn (RxPart rx clients drops) = (k j m : ℕ) → slice_get clients k ≡ Some m → slice_get clients j ≡ Some m → k ≡ j
ApartIn (TxPart tx clients) = (k j m : ℕ) → slice_get clients k ≡ Some m → slice_get clients j ≡ Some m → k ≡ j
ApartIn (ClientPart rx tx script) = Unit {0}
ApartIn (NetworkPart p) = NetApart p
ApartIn (SendingPart p) = SendApart p
ApartIn (BlockPart p) = BlkApart p
ApartIn (HostilePart p) = Unit {0}

-- the client of a virtualiser's queue
lessee_free : (macs : List Mac) (to from : List QueueId) → length to ≡ length macs → length from ≡ length macs → (k : ℕ) (q : QueueId) → slice_get from k ≡ Some q → (c : Lessee) × (slice_get (lessees macs to from) k ≡ Some c) × (c.free ≡ q.0)
lessee_free [] to [] lt lf k q at = absurd cc
lessee_free [] to (r ∷ from) lt lf k q at = absurd (omega (arith, lf))
lessee_free (m ∷ macs) [] from lt lf k q at = absurd (omega (arith, lt))
lessee_free (m ∷ macs) (p ∷ to) [] lt lf k q at = absurd cc
lessee_free (m ∷ macs) (p ∷ to) (r ∷ from) lt lf zero q at = (record { active = p.0; free = r.0; mac = m }, refl, ap (λ (x : QueueId). x.0) (some_is at))
lessee_free (m ∷ macs) (p ∷ to) (r ∷ from) lt lf (suc k) q at = lessee_free macs to from (omega (arith, lt)) (omega (arith, lf)) k q at

lessee_active : (macs : List Mac) (to from : List QueueId) → length to ≡ length macs → length from ≡ length macs → (k : ℕ) (q : QueueId) → slice_get to k ≡ Some q → (c : Lessee) × (slice_get (lessees macs to from) k ≡ Some c) × (c.active ≡ q.0)
lessee_active [] [] from lt lf k q at = absurd cc
lessee_active [] (p ∷ to) from lt lf k q at = absurd (omega (arith, lt))
lessee_active (m ∷ macs) [] from lt lf k q at = absurd (omega (arith, lt))
lessee_active (m ∷ macs) (p ∷ to) [] lt lf k q at = absurd (omega (arith, lf))
lessee_active (m ∷ macs) (p ∷ to) (r ∷ from) lt lf zero q at = (record { active = p.0; free = r.0; mac = m }, refl, ap (λ (x : QueueId). x.0) (some_is at))
lessee_active (m ∷ macs) (p ∷ to) (r ∷ from) lt lf (suc k) q at = lessee_active macs to from (omega (arith, lt)) (omega (arith, lf)) k q at

shipper_active : (ss : List Sender) (from to : List QueueId) → length from ≡ length ss → length to ≡ length ss → (k : ℕ) (q : QueueId) → slice_get from k ≡ Some q → (c : Shipper) × (slice_get (shippers ss from to) k ≡ Some c) × (c.active ≡ q.0)
shipper_active [] [] to lf lt k q at = absurd cc
shipper_active [] (p ∷ from) to lf lt k q at = absurd (omega (arith, lf))
shipper_active (s ∷ ss) [] to lf lt k q at = absurd (omega (arith, lf))
shipper_active (s ∷ ss) (p ∷ from) [] lf lt k q at = absurd (omega (arith, lt))
shipper_active (s ∷ ss) (p ∷ from) (r ∷ to) lf lt zero q at = (_, refl, ap (λ (x : QueueId). x.0) (some_is at))
shipper_active (s ∷ ss) (p ∷ from) (r ∷ to) lf lt (suc k) q at = shipper_active ss from to (omega (arith, lf)) (omega (arith, lt)) k q at

shipper_free : (ss : List Sender) (from to : List QueueId) → length from ≡ length ss → length to ≡ length ss → (k : ℕ) (q : QueueId) → slice_get to k ≡ Some q → (c : Shipper) × (slice_get (shippers ss from to) k ≡ Some c) × (c.free ≡ q.0)
shipper_free [] from [] lf lt k q at = absurd cc
shipper_free [] from (r ∷ to) lf lt k q at = absurd (omega (arith, lt))
shipper_free (s ∷ ss) [] to lf lt k q at = absurd (omega (arith, lf))
shipper_free (s ∷ ss) (p ∷ from) [] lf lt k q at = absurd cc
shipper_free (s ∷ ss) (p ∷ from) (r ∷ to) lf lt zero q at = (_, refl, ap (λ (x : QueueId). x.0) (some_is at))
shipper_free (s ∷ ss) (p ∷ from) (r ∷ to) lf lt (suc k) q at = shipper_free ss from to (omega (arith, lf)) (omega (arith, lt)) k q at

sharer_req : (hs : List Holder) (from to : List QueueId) → length from ≡ length hs → length to ≡ length hs → (k : ℕ) (q : QueueId) → slice_get from k ≡ Some q → (c : Sharer) × (slice_get (sharers hs from to) k ≡ Some c) × (c.req ≡ q.0)
sharer_req [] [] to lf lt k q at = absurd cc
sharer_req [] (p ∷ from) to lf lt k q at = absurd (omega (arith, lf))
sharer_req (h ∷ hs) [] to lf lt k q at = absurd (omega (arith, lf))
sharer_req (h ∷ hs) (p ∷ from) [] lf lt k q at = absurd (omega (arith, lt))
sharer_req (h ∷ hs) (p ∷ from) (r ∷ to) lf lt zero q at = (_, refl, ap (λ (x : QueueId). x.0) (some_is at))
sharer_req (h ∷ hs) (p ∷ from) (r ∷ to) lf lt (suc k) q at = sharer_req hs from to (omega (arith, lf)) (omega (arith, lt)) k q at

sharer_resp : (hs : List Holder) (from to : List QueueId) → length from ≡ length hs → length to ≡ length hs → (k : ℕ) (q : QueueId) → slice_get to k ≡ Some q → (c : Sharer) × (slice_get (sharers hs from to) k ≡ Some c) × (c.resp ≡ q.0)
sharer_resp [] from [] lf lt k q at = absurd cc
sharer_resp [] from (r ∷ to) lf lt k q at = absurd (omega (arith, lt))
sharer_resp (h ∷ hs) [] to lf lt k q at = absurd (omega (arith, lf))
sharer_resp (h ∷ hs) (p ∷ from) [] lf lt k q at = absurd cc
sharer_resp (h ∷ hs) (p ∷ from) (r ∷ to) lf lt zero q at = (_, refl, ap (λ (x : QueueId). x.0) (some_is at))
sharer_resp (h ∷ hs) (p ∷ from) (r ∷ to) lf lt (suc k) q at = sharer_resp hs from to (omega (arith, lf)) (omega (arith, lt)) k q at

server_apart : (v : BlkVirt) → IsWhole (Kinds.BlkVirt v) → ApartIn (part_of (Kinds.BlkVirt v)) → HasApartQueues v.ends
server_apart v whole h =
    let asks = sharer_req (holders v.work.desk) (from_queues v.ends) (to_queues v.ends) whole.from_each whole.to_each in
    let answers = sharer_resp (holders v.work.desk) (from_queues v.ends) (to_queues v.ends) whole.from_each whole.to_each in
    record {
      from = λ k j q q' a b e. let c = asks k q a in let d = asks j q' b in h.0 k j c.0 d.0 c.1 d.1 (c.2 ∙ (e ∙ sym d.2));
      to = λ k j q q' a b e. let c = answers k q a in let d = answers j q' b in h.1 k j c.0 d.0 c.1 d.1 (c.2 ∙ (e ∙ sym d.2));
      input = λ k q a e. let c = asks k q a in h.2 k c.0 c.1 (e ∙ sym c.2);
      output = λ k q a e. let c = answers k q a in h.3 k c.0 c.1 (e ∙ sym c.2);
    }

receiver_apart : (v : NetVirtRx) → IsWhole (Kinds.NetVirtRx v) → ApartIn (part_of (Kinds.NetVirtRx v)) → HasApartQueues v.ends
receiver_apart v whole h =
    let free = lessee_free v.work.macs.items (to_queues v.ends) (from_queues v.ends) whole.to_each whole.from_each in
    let active = lessee_active v.work.macs.items (to_queues v.ends) (from_queues v.ends) whole.to_each whole.from_each in
    record {
      from = λ k j q q' a b e. let c = free k q a in let d = free j q' b in h.0 k j c.0 d.0 c.1 d.1 (c.2 ∙ (e ∙ sym d.2));
      to = λ k j q q' a b e. let c = active k q a in let d = active j q' b in h.1 k j c.0 d.0 c.1 d.1 (c.2 ∙ (e ∙ sym d.2));
      input = λ k q a e. let c = free k q a in h.2 k c.0 c.1 (e ∙ sym c.2);
      output = λ k q a e. let c = active k q a in h.3 k c.0 c.1 (e ∙ sym c.2);
    }

sender_apart : (v : NetVirtTx) → IsWhole (Kinds.NetVirtTx v) → ApartIn (part_of (Kinds.NetVirtTx v)) → HasApartQueues v.ends
sender_apart v whole h =
    let many : length (senders v.work) ≡ length v.work.clients.items = length-map v.work.clients.items (λ (c : TxClient). c.sender) in
    let active = shipper_active (senders v.work) (from_queues v.ends) (to_queues v.ends) (whole.from_each ∙ sym many) (whole.to_each ∙ sym many) in
    let free = shipper_free (senders v.work) (from_queues v.ends) (to_queues v.ends) (whole.from_each ∙ sym many) (whole.to_each ∙ sym many) in
    record {
      from = λ k j q q' a b e. let c = active k q a in let d = active j q' b in h.0 k j c.0 d.0 c.1 d.1 (c.2 ∙ (e ∙ sym d.2));
      to = λ k j q q' a b e. let c = free k q a in let d = free j q' b in h.1 k j c.0 d.0 c.1 d.1 (c.2 ∙ (e ∙ sym d.2));
      input = λ k q a e. let c = active k q a in h.2 k c.0 c.1 (e ∙ sym c.2);
      output = λ k q a e. let c = free k q a in h.3 k c.0 c.1 (e ∙ sym c.2);
    }

apart_of : (x : Actor) → IsWhole x → ApartIn (part_of x) → HasApartEnds x
apart_of (Kinds.UartDevice x) whole h = tt
apart_of (Kinds.SerialClient x) whole h = tt
apart_of (Kinds.UartDriver x) whole h = h
apart_of (Kinds.SerialVirtRx x) whole h = λ k j q q' p r e. h k j q.0 (number_there (outlet_queues x.outputs) k q q.0 p refl) (number_there (outlet_queues x.outputs) j q' q.0 r e)
apart_of (Kinds.SerialVirtTx x) whole h = λ k j q q' p r e. h k j q.0 (number_there (intake_queues x.inputs) k q q.0 p refl) (number_there (intake_queues x.inputs) j q' q.0 r e)
apart_of (Kinds.EthDevice x) whole h = h
apart_of (Kinds.EthDriver x) whole h = h
apart_of (Kinds.NetVirtRx x) whole h = receiver_apart x whole h
apart_of (Kinds.NetCopier x) whole h = h
apart_of (Kinds.NetClient x) whole h = h
apart_of (Kinds.NetVirtTx x) whole h = sender_apart x whole h
apart_of (Kinds.DiskDevice x) whole h = tt
apart_of (Kinds.BlkDriver x) whole h = (h.0.0.0, h.1.0.0)
apart_of (Kinds.BlkVirt x) whole h = server_apart x whole h
apart_of (Kinds.BlkClient x) whole h = tt
apart_of (Kinds.Rogue x) whole h = tt

leases_apart : (pool : PoolAt) (macs : List Mac) → NetApart (receiver_at 0 pool macs)
leases_apart pool macs = (
  λ k j c d a b e. (let p = (lessee_numbers 0 macs k c a).2 in let q = (lessee_numbers 0 macs j d b).2 in omega (arith, p, q, e)),
  λ k j c d a b e. (let p = (lessee_numbers 0 macs k c a).1 in let q = (lessee_numbers 0 macs j d b).1 in omega (arith, p, q, e)),
  λ k c a e. (let p = (lessee_numbers 0 macs k c a).2 in omega (arith, p, e)),
  λ k c a e. (let p = (lessee_numbers 0 macs k c a).1 in omega (arith, p, e)),
)

sends_apart : (most : ℕ) (pools : List ClientPools) → SendApart (sender_at 0 most pools)
sends_apart most pools = (
  λ k j c d a b e. (let p = (shipper_numbers most 0 pools k c a).1 in let q = (shipper_numbers most 0 pools j d b).1 in omega (arith, p, q, e)),
  λ k j c d a b e. (let p = (shipper_numbers most 0 pools k c a).2 in let q = (shipper_numbers most 0 pools j d b).2 in omega (arith, p, q, e)),
  λ k c a e. (let p = (shipper_numbers most 0 pools k c a).1 in omega (arith, p, e)),
  λ k c a e. (let p = (shipper_numbers most 0 pools k c a).2 in omega (arith, p, e)),
)

asks_apart : (first : ℕ) (entries : List ℕ) (pools : List PoolAt) → AreOne (λ (c : Sharer). c.req) (sharers_from first 0 entries pools) × AreOne (λ (c : Sharer). c.resp) (sharers_from first 0 entries pools)
    × IsNotOf (λ (c : Sharer). c.req) (sharers_from first 0 entries pools) (first + 3) × IsNotOf (λ (c : Sharer). c.resp) (sharers_from first 0 entries pools) (first + 2)
asks_apart first entries pools = (
  λ k j c d a b e. (let p = (sharer_numbers first 0 entries pools k c a).0 in let q = (sharer_numbers first 0 entries pools j d b).0 in omega (arith, p, q, e)),
  λ k j c d a b e. (let p = (sharer_numbers first 0 entries pools k c a).1 in let q = (sharer_numbers first 0 entries pools j d b).1 in omega (arith, p, q, e)),
  λ k c a e. (let p = (sharer_numbers first 0 entries pools k c a).0 in omega (arith, p, e)),
  λ k c a e. (let p = (sharer_numbers first 0 entries pools k c a).1 in omega (arith, p, e)),
)

disk_driver_apart : (first : ℕ) → BlkApart (blk_driver_at first)
disk_driver_apart first = (((λ e. omega (arith, e), tt), (tt, tt)), ((λ e. omega (arith, e), tt), (tt, tt)))

driver_apart : NetApart (driver_at 0)
driver_apart = (
  ((λ e. omega (arith, e), (λ e. omega (arith, e), (λ e. omega (arith, e), tt))), ((λ e. omega (arith, e), (λ e. omega (arith, e), tt)), ((λ e. omega (arith, e), tt), (tt, tt)))),
  ((λ e. omega (arith, e), (λ e. omega (arith, e), (λ e. omega (arith, e), tt))), ((λ e. omega (arith, e), (λ e. omega (arith, e), tt)), ((λ e. omega (arith, e), tt), (tt, tt)))),
)

-- the part of a job is so
module _ (plan : Plan) (trace : Trace) where
  apart_in : (job : Job) (p : Part) → calm_part plan trace job ≡ Some p → ApartIn p
  apart_in EthDevice p is = subst ApartIn (some_is is) (λ e. omega (arith, e), λ e. omega (arith, e))
  apart_in EthDriver p is = subst ApartIn (some_is is) driver_apart
  apart_in NetReceiver p is = subst ApartIn (some_is is) (leases_apart (net_place plan trace).pool (net_place plan trace).macs)
  apart_in NetSender p is = subst ApartIn (some_is is) (sends_apart (net_place plan trace).most (net_place plan trace).pools)
  apart_in (NetCopier c) p is = subst ApartIn (some_is is) (λ e. omega (arith, e), λ e. omega (arith, e))
  apart_in (NetClient c) p is = subst ApartIn (some_is is) (λ e. omega (arith, e), λ e. omega (arith, e))
  apart_in UartDevice p is = subst ApartIn (some_is is) tt
  apart_in UartDriver p is = subst ApartIn (some_is is) (λ e. omega (arith, e), λ e. omega (arith, e))
  apart_in SerialReceiver p is = subst ApartIn (some_is is) (second_apart (first_serial plan + 4) (length (serial_clients plan)))
  apart_in SerialSender p is = subst ApartIn (some_is is) (second_apart (first_serial plan + 5) (length (serial_clients plan)))
  apart_in (SerialClient c) p is = subst ApartIn (some_is is) tt
  apart_in DiskDevice p is = subst ApartIn (some_is is) tt
  apart_in DiskDriver p is = subst ApartIn (some_is is) (disk_driver_apart (first_blk plan))
  apart_in BlkVirtualiser p is = subst ApartIn (some_is is) (asks_apart (first_blk plan) (blk_place plan trace).entries (blk_place plan trace).pools)
  apart_in (BlkClient c) p is = subst ApartIn (some_is is) tt

  pub cast_apart : (job : Job) (x : Actor) → job_part plan trace job ≡ Some (part_of x) → IsWhole x → HasApartEnds x
  cast_apart job x is whole = apart_of x whole (by (job_view plan trace job (part_of x) is))
    where
      by : (calm_part plan trace job ≡ Some (part_of x)) ⊎ ((r : RoguePart) × (part_of x ≡ HostilePart r)) → ApartIn (part_of x)
      by (inl calm) = apart_in job (part_of x) calm
      by (inr (r, hostile)) = subst ApartIn (sym hostile) tt
