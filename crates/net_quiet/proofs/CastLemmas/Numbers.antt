-- Which queues the actors of a cast have, by their parts.
use Rattle.std.proofs.Common.{◌≡◌, ◌+◌, ◌*◌, ◌<◌, ℕ, Bool, zero, suc, Some, List, [], ◌∷◌, length, slice_get, refl, sym, ap, ap₂, ◌∙◌, subst, arith}
use Rattle.frame_core.specs.declared.mac.Mac.{Mac}
use Rattle.wire_core.specs.declared.names.QueueId.{QueueId}
use Rattle.play_core.proofs.Lists.{some_is}
use Rattle.turn_kit.specs.declared.pipe.Pipe.{Pipe}
use Rattle.pipe_driver.specs.declared.pipes.Pipes.{Pipes}
use Rattle.eth_driver.specs.Four.{four_pipes}
use Rattle.net_copier.specs.declared.NetCopier.{NetCopier}
use Rattle.net_virt_rx.specs.declared.NetVirtRx.{NetVirtRx}
use Rattle.owner_law.specs.Pools.Places.{PoolAt}
use Rattle.net_law.specs.Parts.Parts.{Way, Lessee}
use Rattle.net_law.specs.Parts.Numbers.{driver_at, client_first, lessees_from, receiver_at, copier_at}
use Rattle.net_law.specs.Parts.Playing.{way_of, stock_pool, driver_part, copier_part, lessees, lessees_of, receiver_part}

pub driver_queues : (first : ℕ) (p : Pipes (Pipes (Pipes Pipe))) → driver_part (four_pipes p) ≡ driver_at first → (p.first.input.queue.0 ≡ first + 5) × (p.first.output.queue.0 ≡ first) × (p.rest.first.input.queue.0 ≡ first + 1) × (p.rest.first.output.queue.0 ≡ first + 4)
driver_queues first p e =
    let one : way_of p.first ≡ record { input = first + 5; output = first } = cc in
    let two : way_of p.rest.first ≡ record { input = first + 1; output = first + 4 } = cc in
    (ap (λ (w : Way). w.input) one, ap (λ (w : Way). w.output) one, ap (λ (w : Way). w.input) two, ap (λ (w : Way). w.output) two)

pub copier_queues : (first k : ℕ) (drops : Bool) (c : NetCopier) → copier_part c ≡ copier_at first k drops → (c.lease_input.queue.0 ≡ client_first first k) × (c.lease_output.queue.0 ≡ client_first first k + 1) × (c.buffer_output.queue.0 ≡ client_first first k + 2) × (c.buffer_input.queue.0 ≡ client_first first k + 3)
copier_queues first k drops c e = (cc, cc, cc, cc)

-- a receiving virtualiser's buffers are as long as its pool's
pub receiver_long : (first : ℕ) (pool : PoolAt) (macs : List Mac) (v : NetVirtRx) → receiver_part v ≡ receiver_at first pool macs → v.work.stock.size ≡ pool.size
receiver_long first pool macs v e =
    let own : stock_pool v.work.stock ≡ pool = cc in
    ap (λ (p : PoolAt). p.size) own

pub receiver_queues : (first : ℕ) (pool : PoolAt) (macs : List Mac) (v : NetVirtRx) → receiver_part v ≡ receiver_at first pool macs → (v.ends.input.queue.0 ≡ first + 4) × (v.ends.output.queue.0 ≡ first + 5) × (lessees_of v ≡ lessees_from first 0 macs)
receiver_queues first pool macs v e = (cc, cc, cc)

-- queues of these numbers, from one on
numbered : (f : ℕ → ℕ) (j : ℕ) (q : QueueId) (qs : List QueueId) → q.0 ≡ f j → ((k : ℕ) (p : QueueId) → slice_get qs k ≡ Some p → p.0 ≡ f (j + 1 + k)) → (k : ℕ) (p : QueueId) → slice_get (q ∷ qs) k ≡ Some p → p.0 ≡ f (j + k)
numbered f j q qs here rest zero p at = let plus : j ≡ j + 0 = omega arith in ap (λ (x : QueueId). x.0) (sym (some_is at)) ∙ (here ∙ ap f plus)
numbered f j q qs here rest (suc k) p at = let shift : j + 1 + k ≡ j + suc k = omega arith in rest k p at ∙ ap f shift

-- clients with as many queues each way have the addresses and the queues that their list tells
pub lessees_are : (first j : ℕ) (ms ns : List Mac) (to from : List QueueId) → length to ≡ length ms → length from ≡ length ms → lessees ms to from ≡ lessees_from first j ns → (ms ≡ ns) × ((k : ℕ) (q : QueueId) → slice_get to k ≡ Some q → q.0 ≡ client_first first (j + k)) × ((k : ℕ) (q : QueueId) → slice_get from k ≡ Some q → q.0 ≡ client_first first (j + k) + 1)
lessees_are first j [] [] [] [] lt lf e = (refl, λ k q at. cc, λ k q at. cc)
lessees_are first j [] [] (q ∷ to) from lt lf e = absurd (omega (arith, lt))
lessees_are first j [] [] [] (r ∷ from) lt lf e = absurd (omega (arith, lf))
lessees_are first j [] (n ∷ ns) to from lt lf e = absurd cc
lessees_are first j (m ∷ ms) ns [] from lt lf e = absurd (omega (arith, lt))
lessees_are first j (m ∷ ms) ns (q ∷ to) [] lt lf e = absurd (omega (arith, lf))
lessees_are first j (m ∷ ms) [] (q ∷ to) (r ∷ from) lt lf e = absurd cc
lessees_are first j (m ∷ ms) (n ∷ ns) (q ∷ to) (r ∷ from) lt lf e =
    let head : lessee q r m ≡ lessee (record { 0 = client_first first j }) (record { 0 = client_first first j + 1 }) n = cc in
    let rest = lessees_are first (j + 1) ms ns to from (omega (arith, lt)) (omega (arith, lf)) cc in (
      ap₂ (λ x xs. x ∷ xs) (ap (λ (c : Lessee). c.mac) head) rest.0,
      numbered (client_first first) j q to (ap (λ (c : Lessee). c.active) head) rest.1,
      numbered (λ k. client_first first k + 1) j r from (ap (λ (c : Lessee). c.free) head) rest.2,
    )
  where
    lessee : QueueId → QueueId → Mac → Lessee
    lessee a b mac = record { active = a.0; free = b.0; mac = mac }
