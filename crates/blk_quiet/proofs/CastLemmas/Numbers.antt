-- Which queues the block class's actors have, by their parts.
use Rattle.std.proofs.Common.{◌≡◌, ◌+◌, ◌*◌, ◌/◌, ℕ, zero, suc, Some, List, [], ◌∷◌, length, slice_get, refl, ap, subst, arith}
use Rattle.cargo_core.specs.Blocks.{blk_buffer_bytes}
use Rattle.cargo_core.specs.declared.item.Ask.{Ask}
use Rattle.wire_core.specs.declared.names.QueueId.{QueueId}
use Rattle.play_core.proofs.Lists.{some_is}
use Rattle.turn_kit.specs.declared.pipe.Pipe.{Pipe}
use Rattle.pipe_driver.specs.Lengths.{two_pipes}
use Rattle.pipe_driver.specs.declared.pipes.Pipes.{Pipes}
use Rattle.device_model.specs.Disk.Disks.{req, resp}
use Rattle.device_model.specs.declared.disk.DiskDevice.{DiskDevice}
use Rattle.client_programs.specs.Blk.Clients.{req_queue, resp_queue}
use Rattle.client_programs.specs.declared.blk.BlkClient.{BlkClient}
use Rattle.blk_virt.specs.Desks.{holders}
use Rattle.blk_virt.specs.declared.requests.Holder.{Holder}
use Rattle.blk_virt.specs.declared.virtualiser.BlkVirt.{BlkVirt}
use Rattle.buffer_kit.specs.Virtualising.{from_queues, to_queues}
use Rattle.owner_law.specs.Pools.Places.{PoolAt, own_pool}
use Rattle.net_law.specs.Parts.Parts.{Way}
use Rattle.net_law.specs.Parts.Playing.{way_of}
use Rattle.blk_law.specs.Sheets.Parts.{Sharer}
use Rattle.blk_law.specs.Sheets.Numbers.{BlkPlace, disk_at, blk_driver_at, sharers_from, virt_at, blk_client_at}
use Rattle.blk_law.specs.Sheets.Playing.{disk_part, blk_driver_part, holder_pool, sharers, virt_part, blk_client_part}

pub disk_queues : (place : BlkPlace) (d : DiskDevice) → disk_part place.image d ≡ disk_at place → (req d ≡ place.first) × (resp d ≡ place.first + 1)
disk_queues place d e = (cc, cc)

pub driver_queues : (first : ℕ) (p : Pipes Pipe) → blk_driver_part (two_pipes p) ≡ blk_driver_at first → (p.first.input.queue.0 ≡ first + 2) × (p.first.output.queue.0 ≡ first) × (p.rest.input.queue.0 ≡ first + 1) × (p.rest.output.queue.0 ≡ first + 3)
driver_queues first p e =
    let one : way_of p.first ≡ record { input = first + 2; output = first } = cc in
    let two : way_of p.rest ≡ record { input = first + 1; output = first + 3 } = cc in
    (ap (λ (w : Way). w.input) one, ap (λ (w : Way). w.output) one, ap (λ (w : Way). w.input) two, ap (λ (w : Way). w.output) two)

pub virt_queues : (place : BlkPlace) (v : BlkVirt) → virt_part v ≡ virt_at place → (v.ends.output.queue.0 ≡ place.first + 2) × (v.ends.input.queue.0 ≡ place.first + 3) × (v.work.opening.disk_sectors ≡ length place.image / 512) × (sharers (holders v.work.desk) (from_queues v.ends) (to_queues v.ends) ≡ sharers_from place.first 0 place.entries place.pools)
virt_queues place v e = (cc, cc, cc, cc)

pub client_queues : (first k : ℕ) (asks : List Ask) (pool : PoolAt) (c : BlkClient) → blk_client_part c ≡ blk_client_at first k asks pool → (req_queue c ≡ first + 4 + 2 * k) × (resp_queue c ≡ first + 5 + 2 * k) × (c.asking.script.items ≡ asks)
client_queues first k asks pool c e = (cc, cc, cc)

pub client_pool : (first k : ℕ) (asks : List Ask) (pool : PoolAt) (c : BlkClient) → blk_client_part c ≡ blk_client_at first k asks pool → (c.asking.pool.0 ≡ pool.number) × (c.asking.buffers ≡ pool.buffers)
client_pool first k asks pool c e =
    let own : record { number = c.asking.pool.0; base = 0; buffers = c.asking.buffers; size = blk_buffer_bytes } ≡ own_pool pool = cc in
    (ap (λ (p : PoolAt). p.number) own, ap (λ (p : PoolAt). p.buffers) own)

-- the client of a number at its queues
abbrev pub Shares : (first n : ℕ) → Holder → (q r : QueueId) → (entry : ℕ) → PoolAt → Type 0
Shares first n h q r entry pool = (holder_pool h ≡ pool) × (h.partition ≡ entry) × (q.0 ≡ first + 4 + 2 * n) × (r.0 ≡ first + 5 + 2 * n)

sharer : Holder → QueueId → QueueId → Sharer
sharer h q r = record { req = q.0; resp = r.0; entry = h.partition; pool = holder_pool h }

shares : (first n : ℕ) (h : Holder) (q r : QueueId) (entry : ℕ) (pool : PoolAt) → sharer h q r ≡ record { req = first + 4 + 2 * n; resp = first + 5 + 2 * n; entry = entry; pool = pool } → Shares first n h q r entry pool
unfolding sharer
shares first n h q r entry pool e = (ap (λ (c : Sharer). c.pool) e, ap (λ (c : Sharer). c.entry) e, ap (λ (c : Sharer). c.req) e, ap (λ (c : Sharer). c.resp) e)

moved_on : (first m n : ℕ) (h : Holder) (q r : QueueId) (entry : ℕ) (pool : PoolAt) → m ≡ n → Shares first m h q r entry pool → Shares first n h q r entry pool
moved_on first m n h q r entry pool e s = subst (λ i. Shares first i h q r entry pool) e s

-- clients with a queue each way have the entries, the pools and the queues that their list tells
pub sharers_are : (first j : ℕ) (hs : List Holder) (entries : List ℕ) (pools : List PoolAt) (from to : List QueueId) → length from ≡ length hs → length to ≡ length hs → length pools ≡ length entries → sharers hs from to ≡ sharers_from first j entries pools
    → (length hs ≡ length entries) × ((k : ℕ) (h : Holder) (q r : QueueId) → slice_get hs k ≡ Some h → slice_get from k ≡ Some q → slice_get to k ≡ Some r → (entry : ℕ) × (pool : PoolAt) × (slice_get entries k ≡ Some entry) × (slice_get pools k ≡ Some pool) × Shares first (j + k) h q r entry pool)
unfolding sharer
sharers_are first j [] [] pools from to lf lt lp e = (refl, λ k h q r at fat tat. cc)
sharers_are first j [] (x ∷ entries) [] from to lf lt lp e = absurd (omega (arith, lp))
sharers_are first j [] (x ∷ entries) (y ∷ pools) from to lf lt lp e = absurd cc
sharers_are first j (h ∷ hs) entries pools [] to lf lt lp e = absurd (omega (arith, lf))
sharers_are first j (h ∷ hs) entries pools (q ∷ from) [] lf lt lp e = absurd (omega (arith, lt))
sharers_are first j (h ∷ hs) [] pools (q ∷ from) (r ∷ to) lf lt lp e = absurd cc
sharers_are first j (h ∷ hs) (x ∷ entries) [] (q ∷ from) (r ∷ to) lf lt lp e = absurd (omega (arith, lp))
sharers_are first j (h ∷ hs) (x ∷ entries) (y ∷ pools) (q ∷ from) (r ∷ to) lf lt lp e =
    let rest = sharers_are first (j + 1) hs entries pools from to (omega (arith, lf)) (omega (arith, lt)) (omega (arith, lp)) cc in
    let many = rest.0 in
    (omega (arith, many), each (shares first j h q r x y (head e)) rest.1)
  where
    head : sharers (h ∷ hs) (q ∷ from) (r ∷ to) ≡ sharers_from first j (x ∷ entries) (y ∷ pools) → sharer h q r ≡ record { req = first + 4 + 2 * j; resp = first + 5 + 2 * j; entry = x; pool = y }
    head i = cc

    each : Shares first j h q r x y
        → ((k : ℕ) (h' : Holder) (q' r' : QueueId) → slice_get hs k ≡ Some h' → slice_get from k ≡ Some q' → slice_get to k ≡ Some r' → (entry : ℕ) × (pool : PoolAt) × (slice_get entries k ≡ Some entry) × (slice_get pools k ≡ Some pool) × Shares first (j + 1 + k) h' q' r' entry pool)
        → (k : ℕ) (h' : Holder) (q' r' : QueueId) → slice_get (h ∷ hs) k ≡ Some h' → slice_get (q ∷ from) k ≡ Some q' → slice_get (r ∷ to) k ≡ Some r' → (entry : ℕ) × (pool : PoolAt) × (slice_get (x ∷ entries) k ≡ Some entry) × (slice_get (y ∷ pools) k ≡ Some pool) × Shares first (j + k) h' q' r' entry pool
    each here rest zero h' q' r' at fat tat =
        let a : h ≡ h' = some_is at in
        let b : q ≡ q' = some_is fat in
        let c : r ≡ r' = some_is tat in
        let plus : j ≡ j + 0 = omega arith in
        (x, y, refl, refl, moved_on first j (j + 0) h' q' r' x y plus (subst (λ z. Shares first j h' q' z x y) c (subst (λ z. Shares first j h' z r x y) b (subst (λ z. Shares first j z q r x y) a here))))
    each here rest (suc k) h' q' r' at fat tat =
        let s = rest k h' q' r' at fat tat in
        let shift : j + 1 + k ≡ j + suc k = omega arith in
        (s.0, s.1, s.2, s.3, moved_on first (j + 1 + k) (j + suc k) h' q' r' s.0 s.1 shift s.4)
