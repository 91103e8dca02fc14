-- Actors of the network that are so made are in their start state, and have these parts.
use Rattle.std.proofs.Common.{◌≡◌, ◌+◌, ◌*◌, ◌<◌, ◌≤◌, ◌^◌, ℕ, zero, suc, true, false, Option, Some, List, [], ◌∷◌, All, length, map, take, slice_get, slice_index_or, refl, sym, ap, ap₂, ◌∙◌, subst, arith}
use Rattle.std.specs.List.{sum_by}
use Rattle.std.specs.Option.{option_map_or}
use Rattle.std.proofs.lemmas.Option.{slice_get-get_or, get_or_from_slice_get}
use Rattle.cargo_core.specs.Ranges.{is_within}
use Rattle.std.proofs.lemmas.List.Sums.{sum_by-cons}
use Rattle.std.proofs.lemmas.List.Elements.{All-nil, All-cons}
use Rattle.std.proofs.Math.ListN.{length-replicate}
use Rattle.cargo_core.specs.Pages.{Paged}
use Rattle.cargo_core.specs.declared.item.PoolId.{PoolId}
use Rattle.cargo_core.specs.declared.ranges.Range.{Range}
use Rattle.frame_core.specs.declared.mac.Mac.{Mac}
use Rattle.wire_core.specs.declared.names.QueueId.{QueueId}
use Rattle.wire_core.specs.declared.names.PoolRow.{PoolRow}
use Rattle.wire_core.specs.Lists.{nothing_passed}
use Rattle.turn_kit.specs.Pipes.{IsNewPipe}
use Rattle.turn_kit.specs.Table.{start_state}
use Rattle.wire_core.specs.declared.names.Side.TheVariants.{Forward, Backward}
use Rattle.turn_kit.specs.declared.pipe.Pipe.{Pipe}
use Rattle.turn_kit.specs.declared.ends.Intake.{Intake}
use Rattle.turn_kit.specs.declared.ends.Outlet.{Outlet}
use Rattle.buffer_kit.specs.Pools.{ArePool}
use Rattle.buffer_kit.specs.Stocks.{IsStart}
use Rattle.buffer_kit.specs.Virtualising.{IsNewVirt, from_queues, to_queues, new_intake, new_outlet}
use Rattle.buffer_kit.specs.declared.stock.Stock.{Stock}
use Rattle.buffer_kit.specs.declared.virt_ends.VirtEnds.{VirtEnds}
use Rattle.net_virt_rx.specs.Receiving.{IsNewRx, RxStandsFor}
use Rattle.net_virt_rx.specs.declared.LeaseEnds.{LeaseEnds}
use Rattle.net_virt_rx.specs.declared.NetVirtRx.{NetVirtRx}
use Rattle.net_virt_tx.specs.Sending.{IsNewTx, TxStandsFor, FitsClients, sender_of}
use Rattle.net_virt_tx.specs.Traffics.{senders}
use Rattle.net_virt_tx.specs.declared.TxEnds.{TxEnds}
use Rattle.net_virt_tx.specs.declared.NetVirtTx.{NetVirtTx}
use Rattle.client_programs.specs.Net.Clients.{IsNewClient}
use Rattle.client_programs.specs.Net.Programs.{program_with}
use Rattle.client_programs.specs.declared.net.program.NetProgram.{NetProgram}
use Rattle.client_programs.specs.declared.net.program.ClientProgram.{ClientProgram}
use Rattle.client_programs.specs.declared.net.NetClient.{NetClient}
use Rattle.net_law.specs.Owners.Names.{ClientPools}
use Rattle.net_law.specs.Parts.Parts.{NetDriver, NetReceiver, NetClient as ClientPart, Lessee, Way}
use Rattle.net_law.specs.Parts.Numbers.{client_first, lessees_from, receiver_at, client_at}
use Rattle.net_law.specs.Parts.Playing.{stock_pool, way_of, lessees, lessees_of, receiver_part, client_part}
use Rattle.net_law.specs.TxParts.Parts.{SendPart, Shipper}
use Rattle.net_law.specs.TxParts.Numbers.{own_pools, shippers_from, sender_at}
use Rattle.owner_law.specs.Pools.Places.{own_pool}
use Rattle.net_law.specs.TxParts.Playing.{sender_pool, shippers, send_part}
use Rattle.trace_text.specs.Traces.{per_client}
use Rattle.actor_set.specs.StartStates.{IsNewLender, IsNewSender, IsNewClientOf}
use Rattle.sdf_plan.specs.declared.plan.Plan.{Plan}
use Rattle.play_core.proofs.Lists.{there_below, there_is, map_from}
use Rattle.cast_core.specs.Sources.{client_mac, pool_at, pools_at}
use Rattle.cast_core.specs.Making.{new_page, lease_ends, tx_ends, tx_range, HaveRanges, HasPools, HasPool, HasNetPool, AreShort}
use Rattle.cast_core.proofs.Listing.{value_count, value_at, value_is, take_from}

-- the buffers of a pool
pub pages_are : (size pool many base : ℕ) (pages : List Paged) → 1 ≤ size → pages ≡ per_client many (new_page size pool) → many ≤ 512 → base + many * size ≤ 2 ^ 62 → ArePool base (record { 0 = pool }) size pages
pages_are size pool many base pages large are few ends =
    let long : length pages ≡ many = ap length are ∙ value_count many (new_page size pool) in
    let is : (k : ℕ) (p : Paged) → slice_get pages k ≡ Some p → p ≡ new_page size pool k = λ k p at. (value_is many (new_page size pool) k p (ap (λ l. slice_get l k) (sym are) ∙ at)).1 in
    record {
      same_pool = λ k p at. ap (λ (q : Paged). q.pool) (is k p at);
      numbered = λ k p at. ap (λ (q : Paged). q.no) (is k p at);
      sized = λ k p at. ap (λ (q : Paged). length q.bytes) (is k p at) ∙ length-replicate {A = ℕ} size 0;
      some = large;
      few = omega (arith, long, few);
      ends = rw long ends;
    }

-- a stock of these buffers is of this pool, of so many buffers of this size
module _ (s : Stock) (size pool many : ℕ) (pages : List Paged) (are : pages ≡ per_client many (new_page size pool)) (some : 1 ≤ many) (start : IsStart s pages) where
  first_page : slice_get pages 0 ≡ Some (new_page size pool 0)
  first_page = ap (λ l. slice_get l 0) are ∙ value_at many (new_page size pool) 0 some

  pub stock_size : s.size ≡ size
  stock_size = sym (start.are_pool.sized 0 (new_page size pool 0) first_page) ∙ length-replicate {A = ℕ} size 0

  stock_number : s.pool.0 ≡ pool
  stock_number = ap (λ (p : PoolId). p.0) (sym (start.are_pool.same_pool 0 (new_page size pool 0) first_page))

  stock_many : s.buffers ≡ many
  stock_many = sym start.many ∙ (ap length are ∙ value_count many (new_page size pool))

  pub stock_is : (base : ℕ) → s.base ≡ base → stock_pool s ≡ record { number = pool; base = base; buffers = many; size = size }
  stock_is base is =
      let one : stock_pool s ≡ record { number = pool; base = s.base; buffers = s.buffers; size = s.size } = ap (λ n. record { number = n; base = s.base; buffers = s.buffers; size = s.size }) stock_number in
      let two : stock_pool s ≡ record { number = pool; base = base; buffers = s.buffers; size = s.size } = one ∙ ap (λ n. record { number = pool; base = n; buffers = s.buffers; size = s.size }) is in
      two ∙ ap₂ (λ n z. record { number = pool; base = base; buffers = n; size = z }) stock_many stock_size

outlet_list : (qs : List QueueId) → map (λ (o : Outlet). o.queue) (map new_outlet qs) ≡ qs
outlet_list [] = refl
outlet_list (q ∷ qs) = ap (λ z. q ∷ z) (outlet_list qs)

intake_list : (qs : List QueueId) → map (λ (o : Intake). o.queue) (map new_intake qs) ≡ qs
intake_list [] = refl
intake_list (q ∷ qs) = ap (λ z. q ∷ z) (intake_list qs)

-- the queues of a virtualiser are those that it was made with
module _ (input output : QueueId) (from to : List QueueId) (v : VirtEnds) (new : IsNewVirt input output from to v) where
  pub from_are : from_queues v ≡ from
  from_are = ap (map (λ (o : Intake). o.queue)) new.from_is ∙ intake_list from

  pub to_are : to_queues v ≡ to
  to_are = ap (map (λ (o : Outlet). o.queue)) new.to_is ∙ outlet_list to

  pub input_is : v.input.queue ≡ input
  input_is = ap (λ (i : Intake). i.queue) new.input_is

  pub output_is : v.output.queue ≡ output
  output_is = ap (λ (o : Outlet). o.queue) new.output_is

lessees_are : (n k : ℕ) (ends : ℕ → LeaseEnds) (mac : ℕ → Mac) → ((c : ℕ) → ends c ≡ record { mac = mac c; active = record { 0 = client_first 0 (k + c) }; free = record { 0 = client_first 0 (k + c) + 1 } })
    → lessees (map (λ (c : LeaseEnds). c.mac) (per_client n ends)) (map (λ (c : LeaseEnds). c.active) (per_client n ends)) (map (λ (c : LeaseEnds). c.free) (per_client n ends)) ≡ lessees_from 0 k (per_client n mac)
lessees_are zero k ends mac each = refl
lessees_are (suc n) k ends mac each =
    let zero_more : k + 0 ≡ k = omega arith in
    let head : ends 0 ≡ record { mac = mac 0; active = record { 0 = client_first 0 k }; free = record { 0 = client_first 0 k + 1 } } =
    each 0 ∙ ap (λ m. record { mac = mac 0; active = record { 0 = client_first 0 m }; free = record { 0 = client_first 0 m + 1 } }) zero_more in
    let tail = lessees_are n (k + 1) (λ c. ends (suc c)) (λ c. mac (suc c)) (λ c.
    let shift : k + suc c ≡ k + 1 + c = omega arith in
    each (suc c) ∙ ap (λ m. record { mac = mac (suc c); active = record { 0 = client_first 0 m }; free = record { 0 = client_first 0 m + 1 } }) shift) in
    ap₂ (λ (x : LeaseEnds) (l : List Lessee). record { active = x.active.0; free = x.free.0; mac = x.mac } ∷ l) head tail

-- a receiving virtualiser
module _ (plan : Plan) (rows : List PoolRow) (clients size many base : ℕ) (ends : List LeaseEnds) (pages : List Paged) (v : NetVirtRx)
    (ends_are : ends ≡ per_client clients (lease_ends plan)) (pages_are : pages ≡ per_client many (new_page size 0)) (some : 1 ≤ many)
    (base_is : base ≡ (pool_at rows (0)).base) (many_are : many ≡ (pool_at rows (0)).buffers) (size_is : size ≡ (pool_at rows (0)).size)
    (active free : QueueId) (first : active.0 ≡ 4) (second : free.0 ≡ 5) (new : IsNewRx active free base ends pages v) where
  pub rx_new : RxStandsFor v nothing_passed → IsNewLender v
  rx_new stands = record {
    base = base;
    clients = ends;
    pages = pages;
    new = subst (λ q. IsNewRx q v.ends.output.queue base ends pages v) (sym (input_is active free _ _ v.ends new.ends)) (subst (λ q. IsNewRx active q base ends pages v) (sym (output_is active free _ _ v.ends new.ends)) new);
    stands = stands;
  }

  lessees_is : lessees_of v ≡ lessees_from 0 0 (per_client clients (client_mac plan))
  lessees_is =
      let macs : v.work.macs.items ≡ map (λ (c : LeaseEnds). c.mac) (per_client clients (lease_ends plan)) = new.work.macs_are ∙ ap (map (λ (c : LeaseEnds). c.mac)) ends_are in
      let to : to_queues v.ends ≡ map (λ (c : LeaseEnds). c.active) (per_client clients (lease_ends plan)) = to_are active free _ _ v.ends new.ends ∙ ap (map (λ (c : LeaseEnds). c.active)) ends_are in
      let from : from_queues v.ends ≡ map (λ (c : LeaseEnds). c.free) (per_client clients (lease_ends plan)) = from_are active free _ _ v.ends new.ends ∙ ap (map (λ (c : LeaseEnds). c.free)) ends_are in
      ap (λ l. lessees l (to_queues v.ends) (from_queues v.ends)) macs
      ∙ (ap (λ l. lessees (map (λ (c : LeaseEnds). c.mac) (per_client clients (lease_ends plan))) l (from_queues v.ends)) to
      ∙ (ap (λ l. lessees (map (λ (c : LeaseEnds). c.mac) (per_client clients (lease_ends plan))) (map (λ (c : LeaseEnds). c.active) (per_client clients (lease_ends plan))) l) from
      ∙ lessees_are clients 0 (lease_ends plan) (client_mac plan) (λ c. let z : c ≡ 0 + c = omega arith in ap (λ m. record { mac = client_mac plan c; active = record { 0 = client_first 0 m }; free = record { 0 = client_first 0 m + 1 } }) z)))

  pub rx_part : receiver_part v ≡ receiver_at 0 (pool_at rows (0)) (per_client clients (client_mac plan))
  rx_part =
      let input : v.ends.input.queue.0 ≡ 4 = ap (λ (q : QueueId). q.0) (input_is active free _ _ v.ends new.ends) ∙ first in
      let output : v.ends.output.queue.0 ≡ 5 = ap (λ (q : QueueId). q.0) (output_is active free _ _ v.ends new.ends) ∙ second in
      let pool : stock_pool v.work.stock ≡ pool_at rows (0) = stock_is v.work.stock size 0 many pages pages_are some new.work.is_start (pool_at rows (0)).base (new.work.base_is ∙ base_is) ∙ ap₂ (λ n z. record { number = 0; base = (pool_at rows (0)).base; buffers = n; size = z }) many_are size_is in
      ap (λ n. NetReceiver n v.ends.output.queue.0 (stock_pool v.work.stock) (lessees_of v)) input
      ∙ (ap (λ n. NetReceiver 4 n (stock_pool v.work.stock) (lessees_of v)) output
      ∙ (ap (λ p. NetReceiver 4 5 p (lessees_of v)) pool
      ∙ ap (λ l. NetReceiver 4 5 (pool_at rows (0)) l) lessees_is))

shippers_are : (most n k : ℕ) (ends : ℕ → TxEnds) (pools : ℕ → ClientPools)
    → ((c : ℕ) → ends c ≡ record { active = record { 0 = client_first 0 (k + c) + 4 }; free = record { 0 = client_first 0 (k + c) + 5 }; pool = record { 0 = (pools c).tx.number }; buffers = (pools c).tx.buffers; base = (pools c).tx.base; size = (pools c).tx.size })
    → shippers (map (sender_of most) (per_client n ends)) (map (λ (c : TxEnds). c.active) (per_client n ends)) (map (λ (c : TxEnds). c.free) (per_client n ends)) ≡ shippers_from 0 most k (per_client n pools)
shippers_are most zero k ends pools each = refl
shippers_are most (suc n) k ends pools each =
    let zero_more : k + 0 ≡ k = omega arith in
    let made : ℕ → ℕ → TxEnds = λ c m. record { active = record { 0 = client_first 0 m + 4 }; free = record { 0 = client_first 0 m + 5 }; pool = record { 0 = (pools c).tx.number }; buffers = (pools c).tx.buffers; base = (pools c).tx.base; size = (pools c).tx.size } in
    let head : ends 0 ≡ made 0 k = each 0 ∙ ap (made 0) zero_more in
    let tail = shippers_are most n (k + 1) (λ c. ends (suc c)) (λ c. pools (suc c)) (λ c. let shift : k + suc c ≡ k + 1 + c = omega arith in each (suc c) ∙ ap (made (suc c)) shift) in
    ap₂ (λ (x : TxEnds) (l : List Shipper). record { active = x.active.0; free = x.free.0; pool = sender_pool (sender_of most x); most = most } ∷ l) head tail

-- a sending virtualiser
module _ (rows : List PoolRow) (clients most : ℕ) (ends : List TxEnds) (v : NetVirtTx) (ends_are : ends ≡ per_client clients (tx_ends rows))
    (active free : QueueId) (first : active.0 ≡ 6) (second : free.0 ≡ 7) (new : IsNewTx active free ends most v) where
  pub tx_new : TxStandsFor v nothing_passed → IsNewSender v
  tx_new stands = record {
    clients = ends;
    most = most;
    new = subst (λ q. IsNewTx q v.ends.input.queue ends most v) (sym (output_is free active _ _ v.ends new.ends)) (subst (λ q. IsNewTx active q ends most v) (sym (input_is free active _ _ v.ends new.ends)) new);
    stands = stands;
  }

  shippers_is : shippers (senders v.work) (from_queues v.ends) (to_queues v.ends) ≡ shippers_from 0 most 0 (per_client clients (pools_at rows))
  shippers_is =
      let all : senders v.work ≡ map (sender_of most) (per_client clients (tx_ends rows)) = new.work.senders_are ∙ ap (map (sender_of most)) ends_are in
      let from : from_queues v.ends ≡ map (λ (c : TxEnds). c.active) (per_client clients (tx_ends rows)) = from_are free active _ _ v.ends new.ends ∙ ap (map (λ (c : TxEnds). c.active)) ends_are in
      let to : to_queues v.ends ≡ map (λ (c : TxEnds). c.free) (per_client clients (tx_ends rows)) = to_are free active _ _ v.ends new.ends ∙ ap (map (λ (c : TxEnds). c.free)) ends_are in
      let made : ℕ → ℕ → TxEnds = λ c m. record { active = record { 0 = client_first 0 m + 4 }; free = record { 0 = client_first 0 m + 5 }; pool = record { 0 = 2 + 2 * c }; buffers = (pool_at rows (2 + 2 * c)).buffers; base = (pool_at rows (2 + 2 * c)).base; size = (pool_at rows (2 + 2 * c)).size } in
      ap (λ l. shippers l (from_queues v.ends) (to_queues v.ends)) all
      ∙ (ap (λ l. shippers (map (sender_of most) (per_client clients (tx_ends rows))) l (to_queues v.ends)) from
      ∙ (ap (λ l. shippers (map (sender_of most) (per_client clients (tx_ends rows))) (map (λ (c : TxEnds). c.active) (per_client clients (tx_ends rows))) l) to
      ∙ shippers_are most clients 0 (tx_ends rows) (pools_at rows) (λ c. let z : c ≡ 0 + c = omega arith in ap (made c) z)))

  pub tx_part : send_part v ≡ sender_at 0 most (per_client clients (pools_at rows))
  tx_part =
      let output : v.ends.output.queue.0 ≡ 6 = ap (λ (q : QueueId). q.0) (output_is free active _ _ v.ends new.ends) ∙ first in
      let input : v.ends.input.queue.0 ≡ 7 = ap (λ (q : QueueId). q.0) (input_is free active _ _ v.ends new.ends) ∙ second in
      let made : ℕ → ℕ → List Shipper → SendPart = λ a b l. record { active = a; free = b; clients = l } in
      ap (λ n. made n v.ends.input.queue.0 (shippers (senders v.work) (from_queues v.ends) (to_queues v.ends))) output
      ∙ (ap (λ n. made 6 n (shippers (senders v.work) (from_queues v.ends) (to_queues v.ends))) input
      ∙ ap (made 6 7) shippers_is)

-- the rows of the class's pools are there
pub net_rows : (rows : List PoolRow) (clients : ℕ) → HasPools rows clients → 1 + 2 * clients ≤ length rows
net_rows rows zero pools = let below = there_below _ 0 pools.first.row pools.first.there in omega (arith, below)
net_rows rows (suc n) pools =
    let last = pools.tx n (omega arith) in
    let below = there_below rows (2 + 2 * n) last.row last.there in
    omega (arith, below)

-- the clients fit where they are those of the rows
pub tx_ranges : (rows : List PoolRow) (clients : ℕ) (ends : List TxEnds) → ends ≡ per_client clients (tx_ends rows) → HasPools rows clients → HaveRanges ends
tx_ranges rows clients ends are pools = record {
  apart = λ j k one other less a b.
      let first = value_is clients (tx_ends rows) j one (ap (λ l. slice_get l j) (sym are) ∙ a) in
      let second = value_is clients (tx_ends rows) k other (ap (λ l. slice_get l k) (sym are) ∙ b) in
      rw (first.1, second.1) (pools.apart j k less second.0);
  sized = rw are (all_sized clients (tx_ends rows) (λ c lt. (pools.tx c lt).large));
  ends = rw are (all_end clients (tx_ends rows) (λ c lt. pool_ends (2 + 2 * c) (pools.tx c lt)));
}
  where
    pool_ends : (n : ℕ) → HasNetPool rows n → (pool_at rows n).base + (pool_at rows n).buffers * (pool_at rows n).size ≤ 2 ^ 62
    pool_ends n p =
        let base : (pool_at rows n).base ≡ p.row.base = ap (λ (o : Option PoolRow). option_map_or (λ (r : PoolRow). r.base) o 0) p.there in
        let many : (pool_at rows n).buffers ≡ p.row.buffers = ap (λ (o : Option PoolRow). option_map_or (λ (r : PoolRow). r.buffers) o 0) p.there in
        subst (λ b. b + (pool_at rows n).buffers * (pool_at rows n).size ≤ 2 ^ 62) (sym base) (subst (λ m. p.row.base + m * (pool_at rows n).size ≤ 2 ^ 62) (sym many) p.ends)

    all_sized : (n : ℕ) (value : ℕ → TxEnds) → ((c : ℕ) → c < n → 1 ≤ (value c).size) → All (λ (c : TxEnds). 1 ≤ c.size) (per_client n value)
    all_sized zero value each = All-nil (λ (c : TxEnds). 1 ≤ c.size)
    all_sized (suc n) value each = All-cons (λ (c : TxEnds). 1 ≤ c.size) (value 0) (per_client n (λ c. value (suc c))) (each 0 (omega arith)) (all_sized n (λ c. value (suc c)) (λ c lt. each (suc c) (omega (arith, lt))))

    all_end : (n : ℕ) (value : ℕ → TxEnds) → ((c : ℕ) → c < n → (value c).base + (value c).buffers * (value c).size ≤ 2 ^ 62) → All (λ (c : TxEnds). c.base + c.buffers * c.size ≤ 2 ^ 62) (per_client n value)
    all_end zero value each = All-nil (λ (c : TxEnds). c.base + c.buffers * c.size ≤ 2 ^ 62)
    all_end (suc n) value each = All-cons (λ (c : TxEnds). c.base + c.buffers * c.size ≤ 2 ^ 62) (value 0) (per_client n (λ c. value (suc c))) (each 0 (omega arith)) (all_end n (λ c. value (suc c)) (λ c lt. each (suc c) (omega (arith, lt))))

few_buffers : (n : ℕ) (value : ℕ → TxEnds) → ((c : ℕ) → c < n → (value c).buffers ≤ 512) → sum_by (λ (c : TxEnds). c.buffers + 2) (per_client n value) ≤ 514 * n
few_buffers zero value each = omega arith
few_buffers (suc n) value each = let split : sum_by (λ (c : TxEnds). c.buffers + 2) (per_client (suc n) value) ≡ (value 0).buffers + 2 + sum_by (λ (c : TxEnds). c.buffers + 2) (per_client n (λ c. value (suc c))) = sum_by-cons (λ (c : TxEnds). c.buffers + 2) (value 0) (per_client n (λ c. value (suc c))) in let one = each 0 (omega arith) in let rest = few_buffers n (λ c. value (suc c)) (λ c lt. each (suc c) (omega (arith, lt))) in omega (arith, split, one, rest)

pub tx_fits : (rows : List PoolRow) (clients : ℕ) (ends : List TxEnds) (ranges : List Range) → ends ≡ per_client clients (tx_ends rows) → HasPools rows clients → clients ≤ 8 → ranges ≡ map tx_range ends → FitsClients ends ranges
tx_fits rows clients ends ranges are pools most ranges_are = record {
  ranges_are = ranges_are;
  sized = (tx_ranges rows clients ends are pools).sized;
  ends = (tx_ranges rows clients ends are pools).ends;
  few =
      let all : sum_by (λ (c : TxEnds). c.buffers + 2) (per_client clients (tx_ends rows)) ≤ 514 * clients = few_buffers clients (tx_ends rows) (λ c lt. pool_few (2 + 2 * c) (pools.tx c lt)) in
      rw are (omega (arith, all, most));
}
  where
    pool_few : (n : ℕ) → HasNetPool rows n → (pool_at rows n).buffers ≤ 512
    pool_few n p =
        let many : (pool_at rows n).buffers ≡ p.row.buffers = ap (λ (o : Option PoolRow). option_map_or (λ (r : PoolRow). r.buffers) o 0) p.there in
        let few = p.few in
        omega (arith, many, few)

-- the driver's pipes
pub pipe_own : (a b : QueueId) (p : Pipe) → IsNewPipe a b p → IsNewPipe p.input.queue p.output.queue p
pipe_own a b p new = record { input = refl; output = refl; input_state = new.input_state; output_state = new.output_state; load = new.load }

pub way_is : (a b : QueueId) (p : Pipe) → IsNewPipe a b p → way_of p ≡ record { input = a.0; output = b.0 }
way_is a b p new = ap₂ (λ (x y : QueueId). record { input = x.0; output = y.0 }) new.input new.output

pub ways_are : (p q r s : Way) (a b c d : Way) → p ≡ a → q ≡ b → r ≡ c → s ≡ d → NetDriver (p ∷ q ∷ r ∷ s ∷ []) ≡ NetDriver (a ∷ b ∷ c ∷ d ∷ [])
ways_are p q r s a b c d e f g h = ap₂ (λ x y. NetDriver (x ∷ y ∷ r ∷ s ∷ [])) e f ∙ ap₂ (λ x y. NetDriver (a ∷ b ∷ x ∷ y ∷ [])) g h

-- a pool that is there
pub pool_fits : (rows : List PoolRow) (size n base many : ℕ) → HasPool size rows n → base ≡ (pool_at rows n).base → many ≡ (pool_at rows n).buffers → (1 ≤ many) × (many ≤ 512) × (base + many * size ≤ 2 ^ 62)
pool_fits rows size n base many pool base_is many_is =
    let b : base ≡ pool.row.base = base_is ∙ ap (λ (o : Option PoolRow). option_map_or (λ (r : PoolRow). r.base) o 0) pool.there in
    let m : many ≡ pool.row.buffers = many_is ∙ ap (λ (o : Option PoolRow). option_map_or (λ (r : PoolRow). r.buffers) o 0) pool.there in
    let some = pool.some in
    let few = pool.few in
    let ends = pool.ends in
    (omega (arith, m, some), omega (arith, m, few), subst (λ x. x + many * size ≤ 2 ^ 62) (sym b) (subst (λ x. pool.row.base + x * size ≤ 2 ^ 62) (sym m) ends))

-- the next client's range is apart from those before
pub ranges_next : (clients : List TxEnds) (ranges : List Range) (i : ℕ) (other : TxEnds) → HaveRanges clients → ranges ≡ map tx_range (take i clients) → i < length clients
    → (k : ℕ) (d : Range) → k < length ranges → (address : ℕ) → is_within (tx_range (slice_index_or clients i other)) address ≡ true → is_within (slice_index_or ranges k d) address ≡ false
ranges_next clients ranges i other have are lt k d below address within =
    let here = there_is ranges k below in
    let from = map_from tx_range (take i clients) k here.0 (ap (λ l. slice_get l k) (sym are) ∙ here.1) in
    let before = take_from i clients k from.0 from.1 in
    let next = slice_get-get_or clients i other lt in
    let apart = have.apart k i from.0 (slice_index_or clients i other) before.0 before.1 next address within in
    let is : slice_index_or ranges k d ≡ tx_range from.0 = get_or_from_slice_get ranges k here.0 d here.1 ∙ sym from.2 in
    ap (λ (r : Range). is_within r address) is ∙ apart

-- a client
module _ (rows : List PoolRow) (k size spare_size many spare_many : ℕ) (kind : NetProgram) (mac : Mac) (a b c d : QueueId) (pages spare : List Paged) (script : List (List ℕ)) (x : NetClient)
    (pages_are : pages ≡ per_client many (new_page size (1 + 2 * k))) (spare_are : spare ≡ per_client spare_many (new_page spare_size (2 + 2 * k))) (some : 1 ≤ many) (spare_some : 1 ≤ spare_many)
    (new : IsNewClient kind mac a b c d pages spare script x) where
  pub client_new : AreShort script → many ≤ 512 → spare_many ≤ 512 → IsNewClientOf x
  client_new short few spare_few =
      let g : x.program.script ≡ script = ap (λ (p : ClientProgram). p.script) new.program_is in
      let j : x.send.queue ≡ c = ap (λ (o : Outlet). o.queue) new.send in
      let l : x.sent.queue ≡ d = ap (λ (o : Intake). o.queue) new.sent in
      let long : length pages ≡ many = ap length pages_are ∙ value_count many (new_page size (1 + 2 * k)) in
      let spare_long : length spare ≡ spare_many = ap length spare_are ∙ value_count spare_many (new_page spare_size (2 + 2 * k)) in
      record {
        pages = pages;
        spare = spare;
        new = record {
          frames = pipe_own a b x.frames.pipe new.frames;
          sent = new.sent ∙ ap (λ (q : QueueId). record { queue = q; state = start_state Forward }) (sym l);
          send = new.send ∙ ap (λ (q : QueueId). record { queue = q; state = start_state Backward }) (sym j);
          got = new.got;
          is_start = new.is_start;
          base = new.base;
          stock = new.stock;
          ready = new.ready;
          outbox = new.outbox;
          program_is = refl;
          last = new.last;
        };
        short = rw g short;
        few = omega (arith, long, spare_long, few, spare_few);
      }

  pub client_is : a.0 ≡ client_first 0 k + 2 → b.0 ≡ client_first 0 k + 3 → c.0 ≡ client_first 0 k + 4 → d.0 ≡ client_first 0 k + 5 → many ≡ (pool_at rows (1 + 2 * k)).buffers → spare_many ≡ (pool_at rows (2 + 2 * k)).buffers → size ≡ (pool_at rows (1 + 2 * k)).size → spare_size ≡ (pool_at rows (2 + 2 * k)).size
      → client_part x ≡ client_at 0 k (program_with kind script) mac (own_pools (pools_at rows k))
  client_is first second third fourth many_is spare_is size_is spare_size_is =
      let e : program_with x.program.kind x.program.script ≡ program_with kind script = ap (λ (p : ClientProgram). program_with p.kind p.script) new.program_is in
      let f : x.program.mac ≡ mac = ap (λ (p : ClientProgram). p.mac) new.program_is in
      let h : x.frames.pipe.input.queue.0 ≡ client_first 0 k + 2 = ap (λ (q : QueueId). q.0) new.frames.input ∙ first in
      let i : x.frames.pipe.output.queue.0 ≡ client_first 0 k + 3 = ap (λ (q : QueueId). q.0) new.frames.output ∙ second in
      let j : x.send.queue.0 ≡ client_first 0 k + 4 = ap (λ (o : Outlet). o.queue.0) new.send ∙ third in
      let l : x.sent.queue.0 ≡ client_first 0 k + 5 = ap (λ (o : Intake). o.queue.0) new.sent ∙ fourth in
      let rx : stock_pool x.stock ≡ own_pool (pool_at rows (1 + 2 * k)) = stock_is x.stock size (1 + 2 * k) many pages pages_are some new.is_start 0 new.base ∙ ap₂ (λ n z. record { number = 1 + 2 * k; base = 0; buffers = n; size = z }) many_is size_is in
      let tx : stock_pool x.outbox.stock ≡ own_pool (pool_at rows (2 + 2 * k)) = stock_is x.outbox.stock spare_size (2 + 2 * k) spare_many spare spare_are spare_some new.outbox.is_start 0 new.outbox.base ∙ ap₂ (λ n z. record { number = 2 + 2 * k; base = 0; buffers = n; size = z }) spare_is spare_size_is in
      ap₂ (λ p m. ClientPart p m x.frames.pipe.input.queue.0 x.frames.pipe.output.queue.0 x.send.queue.0 x.sent.queue.0 (stock_pool x.stock) (stock_pool x.outbox.stock)) e f
      ∙ (ap₂ (λ m n. ClientPart (program_with kind script) mac m n x.send.queue.0 x.sent.queue.0 (stock_pool x.stock) (stock_pool x.outbox.stock)) h i
      ∙ (ap₂ (λ m n. ClientPart (program_with kind script) mac (client_first 0 k + 2) (client_first 0 k + 3) m n (stock_pool x.stock) (stock_pool x.outbox.stock)) j l
      ∙ ap₂ (λ p q. ClientPart (program_with kind script) mac (client_first 0 k + 2) (client_first 0 k + 3) (client_first 0 k + 4) (client_first 0 k + 5) p q) rx tx))
