-- Actors of the block class that are so made are in their start state, and have these parts.
use Rattle.std.proofs.Common.{◌≡◌, ◌+◌, ◌*◌, ◌<◌, ◌≤◌, ◌^◌, ℕ, zero, suc, true, false, Option, Some, List, [], ◌∷◌, All, length, map, slice_get, refl, sym, ap, ap₂, ◌∙◌, subst, arith, inl, inr}
use Rattle.std.specs.Option.{option_map_or}
use Rattle.std.proofs.lemmas.Bool.{cases_Bool, cases_lt}
use Rattle.std.proofs.lemmas.List.{length-map}
use Rattle.std.proofs.lemmas.List.Elements.{All-nil, All-cons}
use Rattle.cargo_core.specs.Pages.{Paged}
use Rattle.cargo_core.specs.declared.item.Ask.{Ask}
use Rattle.cargo_core.specs.declared.item.PoolId.{PoolId}
use Rattle.cargo_core.specs.declared.ranges.Range.{Range}
use Rattle.cargo_core.specs.Ranges.{IsApart, is_within}
use Rattle.wire_core.specs.declared.names.QueueId.{QueueId}
use Rattle.wire_core.specs.declared.names.Side.TheVariants.{Forward, Backward}
use Rattle.wire_core.specs.declared.names.PoolRow.{PoolRow}
use Rattle.wire_core.specs.Lists.{nothing_passed}
use Rattle.turn_kit.specs.Table.{start_state}
use Rattle.turn_kit.specs.declared.ends.Intake.{Intake}
use Rattle.turn_kit.specs.declared.ends.Outlet.{Outlet}
use Rattle.buffer_kit.specs.Virtualising.{from_queues, to_queues}
use Rattle.blk_virt.specs.Desks.{holders}
use Rattle.blk_virt.specs.Requests.{range_of}
use Rattle.blk_virt.specs.Virtualising.{AreClients, IsNewBlkVirt, BlkVirtStandsFor, new_client}
use Rattle.blk_virt.specs.Works.{IsWork}
use Rattle.blk_virt.specs.declared.client.Client.{Client}
use Rattle.blk_virt.specs.declared.requests.Holder.{Holder}
use Rattle.blk_virt.specs.declared.virtualiser.BlkEnds.{BlkEnds}
use Rattle.blk_virt.specs.declared.virtualiser.BlkVirt.{BlkVirt}
use Rattle.client_programs.specs.Blk.Asking.{IsAsking}
use Rattle.client_programs.specs.Blk.Clients.{IsNewBlkClient, BlkClientStandsFor}
use Rattle.client_programs.specs.declared.blk.BlkClient.{BlkClient}
use Rattle.owner_law.specs.Pools.Places.{PoolAt}
use Rattle.blk_law.specs.Sheets.Parts.{BlkVirt as VirtPart, BlkClient as ClientPart, Sharer}
use Rattle.blk_law.specs.Sheets.Numbers.{sharers_from, blk_client_at}
use Rattle.blk_law.specs.Sheets.Playing.{sharers, holder_pool, virt_part, blk_client_part}
use Rattle.actor_set.specs.StartStates.{IsNewServer, IsNewAsker}
use Rattle.trace_text.specs.Traces.{per_client}
use Rattle.sdf_plan.specs.declared.plan.Plan.{Plan}
use Rattle.play_core.proofs.Lists.{map_from, there_below}
use Rattle.expect_core.specs.Expected.{client_entry}
use Rattle.cast_core.specs.Sources.{first_blk, first_blk_pool, pool_at}
use Rattle.cast_core.specs.Making.{new_page, blk_ends, blk_range, HasPool, HasBlkPools}
use Rattle.cast_core.proofs.Listing.{value_count, value_at, value_is}
use Rattle.cast_core.proofs.Making.{from_are, to_are, input_is, output_is}

-- what is kept of a client from the start
abbrev holder_of : BlkEnds → Holder
holder_of e = (new_client e).holder

apart_sym : (a b : Range) → IsApart a b → IsApart b a
apart_sym a b apart address within = elim (cases_Bool (is_within a address)) [
  | inl holds ↦ absurd (let no : false ≡ true = sym (apart address holds) ∙ within in cc)
  | inr differs ↦ differs
]

pub block_fits : (rows : List PoolRow) (n base many : ℕ) → HasPool 32768 rows n → base ≡ (pool_at rows n).base → many ≡ (pool_at rows n).buffers → (1 ≤ many) × (many ≤ 512) × (base + many * 32768 ≤ 2 ^ 62)
block_fits rows n base many pool base_is many_is =
    let b : base ≡ pool.row.base = base_is ∙ ap (λ (o : Option PoolRow). option_map_or (λ (r : PoolRow). r.base) o 0) pool.there in
    let m : many ≡ pool.row.buffers = many_is ∙ ap (λ (o : Option PoolRow). option_map_or (λ (r : PoolRow). r.buffers) o 0) pool.there in
    let some = pool.some in
    let few = pool.few in
    let ends = pool.ends in
    (omega (arith, m, some), omega (arith, m, few), omega (arith, b, m, ends))

-- the size that the row of a pool tells
pub block_size : (rows : List PoolRow) (n : ℕ) → HasPool 32768 rows n → (pool_at rows n).size ≡ 32768
block_size rows n pool = ap (λ (o : Option PoolRow). option_map_or (λ (r : PoolRow). r.size) o 0) pool.there ∙ pool.sized

-- the clients fit where they are those of the rows
module _ (plan : Plan) (rows : List PoolRow) (clients : ℕ) (ends : List BlkEnds) (are : ends ≡ per_client clients (blk_ends plan rows)) where
  end_is : (k : ℕ) (e : BlkEnds) → slice_get ends k ≡ Some e → (k < clients) × (e ≡ blk_ends plan rows k)
  end_is k e at = value_is clients (blk_ends plan rows) k e (ap (λ l. slice_get l k) (sym are) ∙ at)

  pub clients_fit : HasBlkPools plan rows clients → clients ≤ 8 → ((c : ℕ) → c < clients → client_entry plan c < 4) → AreClients ends
  clients_fit pools most entries = record {
    some = λ k e at. let h = end_is k e at in let fits = block_fits rows (first_blk_pool plan + 1 + k) e.base e.buffers (pools.client k h.0) (ap (λ (x : BlkEnds). x.base) h.1) (ap (λ (x : BlkEnds). x.buffers) h.1) in let some = fits.0 in omega (arith, some);
    entry = λ k e at. let h = end_is k e at in rw h.1 (entries k h.0);
    room = λ k e at. let h = end_is k e at in (block_fits rows (first_blk_pool plan + 1 + k) e.base e.buffers (pools.client k h.0) (ap (λ (x : BlkEnds). x.base) h.1) (ap (λ (x : BlkEnds). x.buffers) h.1)).2;
    apart = record {
      apart = λ j k one other p q differ.
          let a = map_from (λ (e : BlkEnds). range_of (holder_of e)) ends j one p in
          let b = map_from (λ (e : BlkEnds). range_of (holder_of e)) ends k other q in
          let first = end_is j a.0 a.1 in
          let second = end_is k b.0 b.1 in
          let left : one ≡ blk_range (blk_ends plan rows j) = sym a.2 ∙ ap (λ (e : BlkEnds). range_of (holder_of e)) first.1 in
          let right : other ≡ blk_range (blk_ends plan rows k) = sym b.2 ∙ ap (λ (e : BlkEnds). range_of (holder_of e)) second.1 in
          rw (left, right) (elim (cases_lt j k) [
            | inl less ↦ apart_sym (blk_range (blk_ends plan rows k)) (blk_range (blk_ends plan rows j)) (pools.apart j k less second.0)
            | inr more ↦ pools.apart k j (omega (arith, more, differ)) first.0
          ]);
      ends = rw are (all_end clients (blk_ends plan rows) (λ c lt. (block_fits rows (first_blk_pool plan + 1 + c) (blk_ends plan rows c).base (blk_ends plan rows c).buffers (pools.client c lt) refl refl).2));
      few = let n : length (map (λ (e : BlkEnds). range_of (holder_of e)) ends) ≡ length ends = length-map ends (λ (e : BlkEnds). range_of (holder_of e)) in let m : length ends ≡ clients = ap length are ∙ value_count clients (blk_ends plan rows) in omega (arith, n, m, most);
    };
  }
    where
      all_end : (n : ℕ) (value : ℕ → BlkEnds) → ((c : ℕ) → c < n → (value c).base + (value c).buffers * 32768 ≤ 2 ^ 62) → All (λ (r : Range). r.base + r.size ≤ 2 ^ 62) (map (λ (e : BlkEnds). range_of (holder_of e)) (per_client n value))
      all_end zero value each = All-nil (λ (r : Range). r.base + r.size ≤ 2 ^ 62)
      all_end (suc n) value each = All-cons (λ (r : Range). r.base + r.size ≤ 2 ^ 62) (range_of (holder_of (value 0))) (map (λ (e : BlkEnds). range_of (holder_of e)) (per_client n (λ c. value (suc c)))) (each 0 (omega arith)) (all_end n (λ c. value (suc c)) (λ c lt. each (suc c) (omega (arith, lt))))

-- the rows of the class's pools are there
pub rows_enough : (plan : Plan) (rows : List PoolRow) (clients : ℕ) → HasBlkPools plan rows clients → first_blk_pool plan + 1 + clients ≤ length rows
rows_enough plan rows zero pools = let below = there_below rows (first_blk_pool plan) pools.own.row pools.own.there in omega (arith, below)
rows_enough plan rows (suc n) pools =
    let last = pools.client n (omega arith) in
    let below = there_below rows (first_blk_pool plan + 1 + n) last.row last.there in
    omega (arith, below)

sharers_are : (n k first : ℕ) (ends : ℕ → BlkEnds) (entry : ℕ → ℕ) (pool : ℕ → PoolAt) → ((c : ℕ) → c < n → (pool c).size ≡ 32768)
    → ((c : ℕ) → ends c ≡ record { base = (pool c).base; buffers = (pool c).buffers; req = record { 0 = first + 4 + 2 * (k + c) }; resp = record { 0 = first + 5 + 2 * (k + c) }; pool = record { 0 = (pool c).number }; partition = entry c })
    → sharers (map holder_of (per_client n ends)) (map (λ (e : BlkEnds). e.req) (per_client n ends)) (map (λ (e : BlkEnds). e.resp) (per_client n ends)) ≡ sharers_from first k (per_client n entry) (per_client n pool)
sharers_are zero k first ends entry pool sized each = refl
sharers_are (suc n) k first ends entry pool sized each =
    let made : ℕ → ℕ → BlkEnds = λ c m. record { base = (pool c).base; buffers = (pool c).buffers; req = record { 0 = first + 4 + 2 * m }; resp = record { 0 = first + 5 + 2 * m }; pool = record { 0 = (pool c).number }; partition = entry c } in
    let zero_more : k + 0 ≡ k = omega arith in
    let head : ends 0 ≡ made 0 k = each 0 ∙ ap (made 0) zero_more in
    let tail = sharers_are n (k + 1) first (λ c. ends (suc c)) (λ c. entry (suc c)) (λ c. pool (suc c)) (λ c lt. sized (suc c) (omega (arith, lt))) (λ c. let shift : k + suc c ≡ k + 1 + c = omega arith in each (suc c) ∙ ap (made (suc c)) shift) in
    ap₂ (λ (e : BlkEnds) (l : List Sharer). record { req = e.req.0; resp = e.resp.0; entry = (holder_of e).partition; pool = holder_pool (holder_of e) } ∷ l) head tail
    ∙ ap (λ z. record { req = first + 4 + 2 * k; resp = first + 5 + 2 * k; entry = entry 0; pool = record { number = (pool 0).number; base = (pool 0).base; buffers = (pool 0).buffers; size = z } } ∷ sharers_from first (k + 1) (per_client n (λ c. entry (suc c))) (per_client n (λ c. pool (suc c)))) (sym (sized 0 (omega arith)))

-- a virtualiser
module _ (plan : Plan) (rows : List PoolRow) (clients base sectors : ℕ) (ends : List BlkEnds) (page : Paged) (v : BlkVirt) (are : ends ≡ per_client clients (blk_ends plan rows))
    (page_is : page ≡ new_page 32768 (first_blk_pool plan) 0) (req resp : QueueId) (new : IsNewBlkVirt req resp ends page base sectors v) where
  pub virt_new : clients ≤ 8 → IsWork v.work → BlkVirtStandsFor v nothing_passed → IsNewServer v
  virt_new most work stands = record {
    clients = ends;
    page = page;
    new = subst (λ q. IsNewBlkVirt q v.ends.input.queue ends page v.work.opening.base v.work.opening.disk_sectors v) (sym (output_is resp req _ _ v.ends new.ends))
        (subst (λ q. IsNewBlkVirt req q ends page v.work.opening.base v.work.opening.disk_sectors v) (sym (input_is resp req _ _ v.ends new.ends))
        (subst (λ b. IsNewBlkVirt req resp ends page b v.work.opening.disk_sectors v) (sym new.base_is)
        (subst (λ n. IsNewBlkVirt req resp ends page base n v) (sym new.sectors) new)));
    work = work;
    stands = stands;
    few =
        let n : length v.work.desk.clients.items ≡ length ends = ap length new.clients_are ∙ length-map ends new_client in
        let m : length ends ≡ clients = ap length are ∙ value_count clients (blk_ends plan rows) in
        omega (arith, n, m, most);
    first = ap (λ o. o.no) new.own ∙ ap (λ (p : Paged). p.no) page_is;
  }

  holders_is : holders v.work.desk ≡ map holder_of (per_client clients (blk_ends plan rows))
  holders_is = ap (map (λ (c : Client). c.holder)) new.clients_are ∙ (again ends ∙ ap (map holder_of) are)
    where
      again : (es : List BlkEnds) → map (λ (c : Client). c.holder) (map new_client es) ≡ map holder_of es
      again [] = refl
      again (e ∷ es) = ap (λ l. holder_of e ∷ l) (again es)

  pub virt_is : HasBlkPools plan rows clients → (first : ℕ) → first ≡ first_blk plan → req.0 ≡ first + 2 → resp.0 ≡ first + 3 → base ≡ (pool_at rows (first_blk_pool plan)).base → (pool_at rows (first_blk_pool plan)).buffers ≡ 1
      → virt_part v ≡ VirtPart (first_blk plan + 2) (first_blk plan + 3) sectors (pool_at rows (first_blk_pool plan)) (sharers_from (first_blk plan) 0 (per_client clients (client_entry plan)) (per_client clients (λ c. pool_at rows (first_blk_pool plan + 1 + c))))
  virt_is pools first same out inp base_is single =
      let output : v.ends.output.queue.0 ≡ first_blk plan + 2 = ap (λ (q : QueueId). q.0) (output_is resp req _ _ v.ends new.ends) ∙ (out ∙ ap (λ n. n + 2) same) in
      let input : v.ends.input.queue.0 ≡ first_blk plan + 3 = ap (λ (q : QueueId). q.0) (input_is resp req _ _ v.ends new.ends) ∙ (inp ∙ ap (λ n. n + 3) same) in
      let number : v.work.opening.own.pool.0 ≡ first_blk_pool plan = ap (λ (p : PoolId). p.0) (ap (λ o. o.pool) new.own) ∙ ap (λ (p : Paged). p.pool.0) page_is in
      let own : ℕ → ℕ → ℕ → PoolAt = λ n b m. record { number = n; base = b; buffers = m; size = 32768 } in
      let pool : own v.work.opening.own.pool.0 v.work.opening.base 1 ≡ pool_at rows (first_blk_pool plan) = ap₂ (λ n b. own n b 1) number (new.base_is ∙ base_is) ∙ (ap (own (first_blk_pool plan) (pool_at rows (first_blk_pool plan)).base) (sym single) ∙ ap (λ z. let x : PoolAt = record { number = first_blk_pool plan; base = (pool_at rows (first_blk_pool plan)).base; buffers = (pool_at rows (first_blk_pool plan)).buffers; size = z } in x) (sym (block_size rows (first_blk_pool plan) pools.own))) in
      let from : from_queues v.ends ≡ map (λ (e : BlkEnds). e.req) (per_client clients (blk_ends plan rows)) = from_are resp req _ _ v.ends new.ends ∙ ap (map (λ (e : BlkEnds). e.req)) are in
      let to : to_queues v.ends ≡ map (λ (e : BlkEnds). e.resp) (per_client clients (blk_ends plan rows)) = to_are resp req _ _ v.ends new.ends ∙ ap (map (λ (e : BlkEnds). e.resp)) are in
      let made : ℕ → ℕ → BlkEnds = λ c m. record { base = (pool_at rows (first_blk_pool plan + 1 + c)).base; buffers = (pool_at rows (first_blk_pool plan + 1 + c)).buffers; req = record { 0 = first_blk plan + 4 + 2 * m }; resp = record { 0 = first_blk plan + 5 + 2 * m }; pool = record { 0 = first_blk_pool plan + 1 + c }; partition = client_entry plan c } in
      let all : sharers (holders v.work.desk) (from_queues v.ends) (to_queues v.ends) ≡ sharers_from (first_blk plan) 0 (per_client clients (client_entry plan)) (per_client clients (λ c. pool_at rows (first_blk_pool plan + 1 + c))) =
      ap (λ l. sharers l (from_queues v.ends) (to_queues v.ends)) holders_is
      ∙ (ap (λ l. sharers (map holder_of (per_client clients (blk_ends plan rows))) l (to_queues v.ends)) from
      ∙ (ap (λ l. sharers (map holder_of (per_client clients (blk_ends plan rows))) (map (λ (e : BlkEnds). e.req) (per_client clients (blk_ends plan rows))) l) to
      ∙ sharers_are clients 0 (first_blk plan) (blk_ends plan rows) (client_entry plan) (λ c. pool_at rows (first_blk_pool plan + 1 + c)) (λ c lt. block_size rows (first_blk_pool plan + 1 + c) (pools.client c lt)) (λ c. let z : c ≡ 0 + c = omega arith in ap (made c) z))) in
      ap₂ (λ m n. VirtPart m n v.work.opening.disk_sectors (own v.work.opening.own.pool.0 v.work.opening.base 1) (sharers (holders v.work.desk) (from_queues v.ends) (to_queues v.ends))) output input
      ∙ (ap₂ (λ n p. VirtPart (first_blk plan + 2) (first_blk plan + 3) n p (sharers (holders v.work.desk) (from_queues v.ends) (to_queues v.ends))) new.sectors pool
      ∙ ap (VirtPart (first_blk plan + 2) (first_blk plan + 3) sectors (pool_at rows (first_blk_pool plan))) all)

-- a client
module _ (rows : List PoolRow) (n many : ℕ) (req resp : QueueId) (pages : List Paged) (script : List Ask) (c : BlkClient)
    (pages_are : pages ≡ per_client many (new_page 32768 n)) (some : 1 ≤ many) (new : IsNewBlkClient req resp pages script c) where
  pub asker_new : IsAsking c.asking → BlkClientStandsFor c nothing_passed → IsNewAsker c
  asker_new asking stands =
      let p : c.responses.queue ≡ resp = ap (λ (i : Intake). i.queue) new.responses in
      let q : c.requests.queue ≡ req = ap (λ (o : Outlet). o.queue) new.requests in
      record {
        pages = pages;
        new = record {
          responses = new.responses ∙ ap (λ (x : QueueId). record { queue = x; state = start_state Forward }) (sym p);
          requests = new.requests ∙ ap (λ (x : QueueId). record { queue = x; state = start_state Backward }) (sym q);
          script_is = refl;
          is_start = new.is_start;
          stray = new.stray;
          last = new.last;
        };
        asking = asking;
        stands = stands;
      }

  pub asker_is : (first k : ℕ) → req.0 ≡ first + 4 + 2 * k → resp.0 ≡ first + 5 + 2 * k → n ≡ (pool_at rows n).number → many ≡ (pool_at rows n).buffers → (pool_at rows n).size ≡ 32768 → blk_client_part c ≡ blk_client_at first k script (pool_at rows n)
  asker_is first k out inp number many_is sized =
      let one : slice_get pages 0 ≡ Some (new_page 32768 n 0) = ap (λ l. slice_get l 0) pages_are ∙ value_at many (new_page 32768 n) 0 some in
      let p : c.requests.queue.0 ≡ first + 4 + 2 * k = ap (λ (o : Outlet). o.queue.0) new.requests ∙ out in
      let q : c.responses.queue.0 ≡ first + 5 + 2 * k = ap (λ (i : Intake). i.queue.0) new.responses ∙ inp in
      let pool : c.asking.pool.0 ≡ n = ap (λ (x : PoolId). x.0) (sym (new.is_start.are_pool.same_pool 0 (new_page 32768 n 0) one)) in
      let buffers : c.asking.buffers ≡ (pool_at rows n).buffers = sym new.is_start.many ∙ (ap length pages_are ∙ (value_count many (new_page 32768 n) ∙ many_is)) in
      let own : ℕ → ℕ → PoolAt = λ x y. record { number = x; base = 0; buffers = y; size = 32768 } in
      ap₂ (λ x y. ClientPart x y c.asking.script.items (own c.asking.pool.0 c.asking.buffers)) p q
      ∙ ap₂ (λ l x. ClientPart (first + 4 + 2 * k) (first + 5 + 2 * k) l x) new.script_is (ap₂ own pool buffers ∙ ap (λ z. let x : PoolAt = record { number = n; base = 0; buffers = (pool_at rows n).buffers; size = z } in x) (sym sized))
