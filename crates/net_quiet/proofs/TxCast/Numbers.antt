-- Which queues the sending half's actors have, by their parts.
use Rattle.std.proofs.Common.{◌≡◌, ◌+◌, ℕ, Bool, zero, suc, Some, List, [], ◌∷◌, length, slice_get, refl, sym, ap, ◌∙◌, arith}
use Rattle.frame_core.specs.declared.mac.Mac.{Mac}
use Rattle.wire_core.specs.declared.names.QueueId.{QueueId}
use Rattle.play_core.proofs.Lists.{some_is}
use Rattle.turn_kit.specs.declared.pipe.Pipe.{Pipe}
use Rattle.pipe_driver.specs.declared.pipes.Pipes.{Pipes}
use Rattle.eth_driver.specs.Four.{four_pipes}
use Rattle.device_model.specs.Ethernet.Devices.{tx_active, tx_free}
use Rattle.device_model.specs.declared.ethernet.EthDevice.{EthDevice}
use Rattle.class_expect.specs.NetExpect.Expecting.{Program}
use Rattle.client_programs.specs.Net.Clients as client
use Rattle.client_programs.specs.Net.Programs.{program_of}
use Rattle.client_programs.specs.declared.net.NetClient.{NetClient}
use Rattle.net_virt_tx.specs.declared.NetVirtTx.{NetVirtTx}
use Rattle.net_virt_tx.specs.declared.descriptors.Sender.{Sender}
use Rattle.net_virt_tx.specs.Traffics.{senders}
use Rattle.buffer_kit.specs.Virtualising.{from_queues, to_queues}
use Rattle.net_law.specs.Owners.Names.{ClientPools}
use Rattle.owner_law.specs.Pools.Places.{PoolAt}
use Rattle.net_law.specs.Parts.Parts.{Way}
use Rattle.net_law.specs.Parts.Numbers.{client_first, device_at, driver_at, client_at}
use Rattle.net_law.specs.Parts.Playing.{way_of, device_part, driver_part, client_part, stock_pool}
use Rattle.net_law.specs.TxParts.Parts.{SendPart, Shipper}
use Rattle.net_law.specs.TxParts.Numbers.{own_pools, shippers_from, sender_at}
use Rattle.net_law.specs.TxParts.Playing.{sender_pool, shippers, send_part}

pub device_sends : (first : ℕ) (frames : List (List ℕ)) (drops : Bool) (d : EthDevice) → device_part d ≡ device_at first frames drops → (tx_active d ≡ first + 2) × (tx_free d ≡ first + 3)
device_sends first frames drops d e = (cc, cc)

pub driver_sends : (first : ℕ) (p : Pipes (Pipes (Pipes Pipe))) → driver_part (four_pipes p) ≡ driver_at first → (p.rest.rest.first.input.queue.0 ≡ first + 6) × (p.rest.rest.first.output.queue.0 ≡ first + 2) × (p.rest.rest.rest.input.queue.0 ≡ first + 3) × (p.rest.rest.rest.output.queue.0 ≡ first + 7)
driver_sends first p e =
    let three : way_of p.rest.rest.first ≡ record { input = first + 6; output = first + 2 } = cc in
    let four : way_of p.rest.rest.rest ≡ record { input = first + 3; output = first + 7 } = cc in
    (ap (λ (w : Way). w.input) three, ap (λ (w : Way). w.output) three, ap (λ (w : Way). w.input) four, ap (λ (w : Way). w.output) four)

pub client_queues : (first k : ℕ) (program : Program) (mac : Mac) (q : ClientPools) (c : NetClient) → client_part c ≡ client_at first k program mac (own_pools q) → (client.rx_active c ≡ client_first first k + 2) × (client.rx_free c ≡ client_first first k + 3) × (client.tx_active c ≡ client_first first k + 4) × (client.tx_free c ≡ client_first first k + 5)
client_queues first k program mac q c e = (cc, cc, cc, cc)

pub client_plays : (first k : ℕ) (program : Program) (mac : Mac) (q : ClientPools) (c : NetClient) → client_part c ≡ client_at first k program mac (own_pools q) → (program_of c.program ≡ program) × (c.program.mac ≡ mac)
client_plays first k program mac q c e = (cc, cc)

pub client_ships : (first k : ℕ) (program : Program) (mac : Mac) (q : ClientPools) (c : NetClient) → client_part c ≡ client_at first k program mac (own_pools q) → (c.outbox.stock.pool.0 ≡ q.tx.number) × (c.outbox.stock.base ≡ 0) × (c.outbox.stock.buffers ≡ q.tx.buffers) × (c.outbox.stock.size ≡ q.tx.size)
client_ships first k program mac q c e =
    let own : stock_pool c.outbox.stock ≡ (own_pools q).tx = cc in
    (ap (λ (p : PoolAt). p.number) own, ap (λ (p : PoolAt). p.base) own, ap (λ (p : PoolAt). p.buffers) own, ap (λ (p : PoolAt). p.size) own)

-- a client's buffers for receiving are as long as its pool's
pub client_rx : (first k : ℕ) (program : Program) (mac : Mac) (q : ClientPools) (c : NetClient) → client_part c ≡ client_at first k program mac (own_pools q) → c.stock.size ≡ q.rx.size
client_rx first k program mac q c e =
    let own : stock_pool c.stock ≡ (own_pools q).rx = cc in
    ap (λ (p : PoolAt). p.size) own

pub sender_queues : (first most : ℕ) (pools : List ClientPools) (v : NetVirtTx) → send_part v ≡ sender_at first most pools → (v.ends.output.queue.0 ≡ first + 6) × (v.ends.input.queue.0 ≡ first + 7) × (shippers (senders v.work) (from_queues v.ends) (to_queues v.ends) ≡ shippers_from first most 0 pools)
sender_queues first most pools v e = (ap (λ (p : SendPart). p.active) e, ap (λ (p : SendPart). p.free) e, ap (λ (p : SendPart). p.clients) e)

-- the client of a number has these pools, and the virtualiser these queues for it
abbrev pub Ships : (first most n : ℕ) → Sender → (q r : QueueId) → ClientPools → Type 0
Ships first most n s q r p = (sender_pool s ≡ p.tx) × (q.0 ≡ client_first first n + 4) × (r.0 ≡ client_first first n + 5) × (s.most ≡ most)

shipper : Sender → QueueId → QueueId → Shipper
shipper s q r = record { active = q.0; free = r.0; pool = sender_pool s; most = s.most }

ships : (first most n : ℕ) (s : Sender) (q r : QueueId) (p : ClientPools) → shipper s q r ≡ record { active = client_first first n + 4; free = client_first first n + 5; pool = p.tx; most = most } → Ships first most n s q r p
unfolding shipper
ships first most n s q r p e = (ap (λ (c : Shipper). c.pool) e, ap (λ (c : Shipper). c.active) e, ap (λ (c : Shipper). c.free) e, ap (λ (c : Shipper). c.most) e)

-- what is there of one after the first
next_ships : (first most j k : ℕ) (s : Sender) (q r : QueueId) (p : ClientPools) → Ships first most (j + 1 + k) s q r p → Ships first most (j + suc k) s q r p
next_ships first most j k s q r p h =
    let shift : j + 1 + k ≡ j + suc k = omega arith in
    (h.0, h.1 ∙ ap (λ n. client_first first n + 4) shift, h.2 ∙ ap (λ n. client_first first n + 5) shift, h.3)

first_ships : (first most j : ℕ) (s : Sender) (q r : QueueId) (p : ClientPools) → Ships first most j s q r p → Ships first most (j + 0) s q r p
first_ships first most j s q r p h =
    let plus : j ≡ j + 0 = omega arith in
    (h.0, h.1 ∙ ap (λ n. client_first first n + 4) plus, h.2 ∙ ap (λ n. client_first first n + 5) plus, h.3)

-- clients with a queue each way have the pools and the queues that their list tells
pub shippers_are : (first most j : ℕ) (ss : List Sender) (ps : List ClientPools) (from to : List QueueId) → length from ≡ length ss → length to ≡ length ss → shippers ss from to ≡ shippers_from first most j ps
    → (length ss ≡ length ps) × ((k : ℕ) (s : Sender) (q r : QueueId) → slice_get ss k ≡ Some s → slice_get from k ≡ Some q → slice_get to k ≡ Some r → (p : ClientPools) × (slice_get ps k ≡ Some p) × Ships first most (j + k) s q r p)
unfolding shipper
shippers_are first most j [] [] from to lf lt e = (refl, λ k s q r at fat tat. cc)
shippers_are first most j [] (p ∷ ps) from to lf lt e = absurd cc
shippers_are first most j (s ∷ ss) ps [] to lf lt e = absurd (omega (arith, lf))
shippers_are first most j (s ∷ ss) ps (q ∷ from) [] lf lt e = absurd (omega (arith, lt))
shippers_are first most j (s ∷ ss) [] (q ∷ from) (r ∷ to) lf lt e = absurd cc
shippers_are first most j (s ∷ ss) (p ∷ ps) (q ∷ from) (r ∷ to) lf lt e =
    let rest = shippers_are first most (j + 1) ss ps from to (omega (arith, lf)) (omega (arith, lt)) cc in
    let many = rest.0 in
    (omega (arith, many), each (ships first most j s q r p (head e)) rest.1)
  where
    head : shippers (s ∷ ss) (q ∷ from) (r ∷ to) ≡ shippers_from first most j (p ∷ ps) → shipper s q r ≡ record { active = client_first first j + 4; free = client_first first j + 5; pool = p.tx; most = most }
    head h = cc

    each : Ships first most j s q r p
        → ((k : ℕ) (s' : Sender) (q' r' : QueueId) → slice_get ss k ≡ Some s' → slice_get from k ≡ Some q' → slice_get to k ≡ Some r' → (p' : ClientPools) × (slice_get ps k ≡ Some p') × Ships first most (j + 1 + k) s' q' r' p')
        → (k : ℕ) (s' : Sender) (q' r' : QueueId) → slice_get (s ∷ ss) k ≡ Some s' → slice_get (q ∷ from) k ≡ Some q' → slice_get (r ∷ to) k ≡ Some r' → (p' : ClientPools) × (slice_get (p ∷ ps) k ≡ Some p') × Ships first most (j + k) s' q' r' p'
    each here rest zero s' q' r' at fat tat =
        let a : s ≡ s' = some_is at in
        let b : q ≡ q' = some_is fat in
        let c : r ≡ r' = some_is tat in
        let h = first_ships first most j s q r p here in
        (p, refl, (ap sender_pool (sym a) ∙ h.0, ap (λ (x : QueueId). x.0) (sym b) ∙ h.1, ap (λ (x : QueueId). x.0) (sym c) ∙ h.2, ap (λ (x : Sender). x.most) (sym a) ∙ h.3))
    each here rest (suc k) s' q' r' at fat tat =
        let h = rest k s' q' r' at fat tat in
        (h.0, h.1, next_ships first most j k s' q' r' h.0 h.2)
