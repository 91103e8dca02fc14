-- What an actor of the block class has of each pool; none lends.
use Rattle.std.proofs.Common.{◌≡◌, ◌==◌, ℕ, zero, suc, false, cond, Some, List, [], ◌∷◌, ◌++◌, length, map, flat_map, slice_get, refl, sym, ap, ◌∙◌, arith}
use Rattle.owner_law.specs.Pools.Places.{by_offset}
use Rattle.cargo_core.specs.Bodies.{buffers_of}
use Rattle.cargo_core.specs.Pages.{Paged}
use Rattle.wire_core.specs.declared.names.QueueId.{QueueId}
use Rattle.wire_core.specs.Lists.{Passed}
use Rattle.play_core.specs.Moved.{Moved, Seat}
use Rattle.play_core.specs.Sheets.{Scene}
use Rattle.play_core.specs.Wants.{intake, outlet}
use Rattle.play_core.proofs.Lists.{some_is}
use Rattle.owner_law.specs.Things.{Window, Buffers, Answers, Naming}
use Rattle.owner_law.specs.Keeping.{is_lending}
use Rattle.turn_kit.specs.Hands.{bodies_of, bodies_at}
use Rattle.turn_kit.specs.declared.pipe.Pipe.{Pipe}
use Rattle.pipe_driver.specs.Drivers.{PipesBalance, pipes_hand}
use Rattle.buffer_kit.specs.Virtualising.{from_queues, to_queues}
use Rattle.device_model.specs.Disk.Disks.{DiskBalances, disk_hand, req, resp}
use Rattle.device_model.specs.declared.disk.DiskDevice.{DiskDevice}
use Rattle.client_programs.specs.Blk.Clients.{BlkClientBalances, blk_client_hand, req_queue, resp_queue}
use Rattle.client_programs.specs.declared.blk.BlkClient.{BlkClient}
use Rattle.blk_virt.specs.Desks.{holders}
use Rattle.blk_virt.specs.Virtualising.{BlkVirtBalances}
use Rattle.blk_virt.specs.Works.{work_cargo}
use Rattle.blk_virt.specs.declared.requests.Holder.{Holder}
use Rattle.blk_virt.specs.declared.requests.PageName.{PageName}
use Rattle.blk_virt.specs.declared.virtualiser.BlkVirt.{BlkVirt}
use Rattle.owner_law.specs.Pools.Lines.{HoldsIts, came, went}
use Rattle.owner_law.proofs.PoolsLemmas.Lining.{LendsNone, lent_away}
use Rattle.net_quiet.specs.Pools.Holders.{holder_of, no_lent}
use Rattle.net_quiet.proofs.PoolsLemmas.Holding.{lends_none, lends_in, lends_out, buffers_stay}
use Rattle.net_quiet.proofs.PoolsLemmas.Lending.{pages_many, hand_many}
use Rattle.blk_law.specs.Sheets.Parts.{Sharer}
use Rattle.blk_law.specs.Sheets.Playing.{disk_part, blk_driver_part, virt_part, blk_client_part, sharers}
use Rattle.blk_law.specs.Sheets.Table.{blk_sheet, sharer_ends}
use Rattle.blk_law.specs.Owners.Answering.{NamesBlk}
use Rattle.blk_quiet.proofs.PoolsLemmas.Carrying.{driver_names}

answers_stay : (naming : Naming) (n q : ℕ) (ws : List Window) → naming n ≡ Answers q ws → is_lending (naming n) ≡ false
answers_stay naming n q ws is = ap is_lending is

pub sharers_came : (passed : Passed) (hs : List Holder) (from to : List QueueId) → length from ≡ length hs → length to ≡ length hs → came passed (flat_map sharer_ends (sharers hs from to)) ≡ bodies_at passed.taken (map (λ (q : QueueId). q.0) from)
sharers_came passed [] [] to f t = refl
sharers_came passed [] (q ∷ from) to f t = absurd (omega (arith, f))
sharers_came passed (h ∷ hs) [] to f t = absurd (omega (arith, f))
sharers_came passed (h ∷ hs) (q ∷ from) [] f t = absurd (omega (arith, t))
sharers_came passed (h ∷ hs) (q ∷ from) (r ∷ to) f t = ap (λ xs. bodies_of (passed.taken q.0) ++ xs) (sharers_came passed hs from to (omega (arith, f)) (omega (arith, t)))

pub sharers_went : (passed : Passed) (hs : List Holder) (from to : List QueueId) → length from ≡ length hs → length to ≡ length hs → went passed (flat_map sharer_ends (sharers hs from to)) ≡ bodies_at passed.sent (map (λ (q : QueueId). q.0) to)
sharers_went passed [] from [] f t = refl
sharers_went passed [] from (r ∷ to) f t = absurd (omega (arith, t))
sharers_went passed (h ∷ hs) [] to f t = absurd (omega (arith, f))
sharers_went passed (h ∷ hs) (q ∷ from) [] f t = absurd (omega (arith, t))
sharers_went passed (h ∷ hs) (q ∷ from) (r ∷ to) f t = ap (λ xs. bodies_of (passed.sent r.0) ++ xs) (sharers_went passed hs from to (omega (arith, f)) (omega (arith, t)))

module _ (naming : Naming) (sizes : ℕ → ℕ) (scene : Scene) (passed : Passed) (m : Moved) where
  pub disk_holds : (start : List ℕ) (d : DiskDevice) → NamesBlk naming (disk_part start d) → DiskBalances d passed → HoldsIts naming sizes m passed (holder_of (blk_sheet scene (disk_part start d)) (disk_hand d) no_lent)
  disk_holds start d names balance =
      let lends : LendsNone naming (blk_sheet scene (disk_part start d)).ends =
      lends_in naming (req d) (outlet (resp d) ∷ []) (buffers_stay naming (req d) names.0 names.1.0) (lends_out naming (resp d) [] (lends_none naming)) in
      record {
        balances = λ pool. balance pool;
        lends = λ pool. sym (lent_away naming m (blk_sheet scene (disk_part start d)).ends lends pool (sizes pool));
      }

  pub driver_holds : (p q : Pipe) → NamesBlk naming (blk_driver_part (p ∷ q ∷ [])) → PipesBalance (p ∷ q ∷ []) passed → HoldsIts naming sizes m passed (holder_of (blk_sheet scene (blk_driver_part (p ∷ q ∷ []))) (pipes_hand (p ∷ q ∷ [])) no_lent)
  driver_holds p q names balance =
      let named = driver_names naming names.0 p q names.1 in
      let second : List Seat = intake q.input.queue.0 ∷ outlet q.output.queue.0 ∷ [] in
      let lends : LendsNone naming (blk_sheet scene (blk_driver_part (p ∷ q ∷ []))).ends =
      lends_in naming p.input.queue.0 (outlet p.output.queue.0 ∷ second) (buffers_stay naming p.input.queue.0 names.0 named.0) (lends_out naming p.output.queue.0 second (lends_in naming q.input.queue.0 (outlet q.output.queue.0 ∷ []) (answers_stay naming q.input.queue.0 p.output.queue.0 names.0 named.2) (lends_out naming q.output.queue.0 [] (lends_none naming)))) in
      record {
        balances = λ pool. balance pool;
        lends = λ pool. sym (lent_away naming m (blk_sheet scene (blk_driver_part (p ∷ q ∷ []))).ends lends pool (sizes pool));
      }

  pub client_holds : (c : BlkClient) → NamesBlk naming (blk_client_part c) → BlkClientBalances c passed → HoldsIts naming sizes m passed (holder_of (blk_sheet scene (blk_client_part c)) (blk_client_hand c) no_lent)
  client_holds c names balance =
      let lends : LendsNone naming (blk_sheet scene (blk_client_part c)).ends =
      lends_in naming (resp_queue c) (outlet (req_queue c) ∷ []) (answers_stay naming (resp_queue c) (req_queue c) _ names.1.1) (lends_out naming (req_queue c) [] (lends_none naming)) in
      record {
        balances = λ pool.
            let start = pages_many pool c.asking.pool balance.start balance.is_start.are_pool.same_pool in
            let many = balance.is_start.many in
            let has = ap (λ n. cond (c.asking.pool.0 == pool.0) n 0) many in
            omega (arith, balance.balances pool, start, has, hand_many c.asking.pool c.asking.buffers pool);
        lends = λ pool. sym (lent_away naming m (blk_sheet scene (blk_client_part c)).ends lends pool (sizes pool));
      }

  clients_lend : (cs : List Sharer) → ((k : ℕ) (c : Sharer) → slice_get cs k ≡ Some c → naming c.req ≡ Buffers (by_offset c.pool ∷ [])) → LendsNone naming (flat_map sharer_ends cs)
  clients_lend [] named = lends_none naming
  clients_lend (c ∷ cs) named =
      let rest : List Seat = flat_map sharer_ends cs in
      lends_in naming c.req (outlet c.resp ∷ rest) (buffers_stay naming c.req (by_offset c.pool ∷ []) (named 0 c refl)) (lends_out naming c.resp rest (clients_lend cs (λ k d at. named (suc k) d at)))

  pub virt_holds : (v : BlkVirt) → NamesBlk naming (virt_part v) → length (from_queues v.ends) ≡ length (holders v.work.desk) → length (to_queues v.ends) ≡ length (holders v.work.desk) → BlkVirtBalances v passed → HoldsIts naming sizes m passed (holder_of (blk_sheet scene (virt_part v)) (bodies_of (work_cargo v.work)) no_lent)
  virt_holds v names from_each to_each balance =
      let hs = holders v.work.desk in
      let clients : List Sharer = sharers hs (from_queues v.ends) (to_queues v.ends) in
      let rest : List Seat = flat_map sharer_ends clients in
      let i : ℕ = v.ends.input.queue.0 in
      let o : ℕ = v.ends.output.queue.0 in
      let lends : LendsNone naming (blk_sheet scene (virt_part v)).ends =
      lends_in naming i (outlet o ∷ rest) (answers_stay naming i o _ names.0.1) (lends_out naming o rest (clients_lend clients (λ k c at. (names.1 k c at).0))) in
      let own : balance.start.pool ≡ v.work.opening.own.pool = sym (ap (λ (n : PageName). n.pool) balance.own) in
      record {
        balances = λ pool.
            let start = pages_many pool v.work.opening.own.pool (balance.start ∷ []) (λ k p at. ap (λ (q : Paged). q.pool) (only balance.start k p at) ∙ own) in
            let one = hand_many v.work.opening.own.pool 1 pool in
            let all_came = ap (λ xs. buffers_of pool (bodies_of (passed.taken i) ++ xs)) (sharers_came passed hs (from_queues v.ends) (to_queues v.ends) from_each to_each) in
            let all_went = ap (λ xs. buffers_of pool (bodies_of (passed.sent o) ++ xs)) (sharers_went passed hs (from_queues v.ends) (to_queues v.ends) from_each to_each) in
            omega (arith, balance.balances pool, start, one, all_came, all_went);
        lends = λ pool. sym (lent_away naming m (blk_sheet scene (virt_part v)).ends lends pool (sizes pool));
      }
    where
      only : (s : Paged) (k : ℕ) (p : Paged) → slice_get (s ∷ []) k ≡ Some p → p ≡ s
      only s zero p at = sym (some_is at)
      only s (suc k) p at = cc
