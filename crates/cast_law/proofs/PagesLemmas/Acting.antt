-- Each actor conserves buffers one by one, over the ends that its sheet gives.
use Rattle.std.proofs.Common.{◌≡◌, ℕ, List, [], ◌∷◌, ◌++◌, length, refl, sym, ap, ◌∙◌, arith}
use Rattle.std.proofs.lemmas.List.{length-map}
use Rattle.std.proofs.lemmas.List.Sums.{sum_by-cons}
use Rattle.wire_core.specs.Lists.{Passed}
use Rattle.wire_core.specs.Marks.{sum_below}
use Rattle.turn_kit.specs.Hands.{bodies_of}
use Rattle.turn_kit.specs.ManyEnds.{intake_queues, outlet_queues}
use Rattle.pipe_driver.specs.Lengths.{two_pipes}
use Rattle.eth_driver.specs.Four.{four_pipes}
use Rattle.play_core.specs.Sheets.{Scene}
use Rattle.owner_law.specs.Pools.Lines.{came, went}
use Rattle.owner_law.specs.Pools.Places.{PoolAt}
use Rattle.buffer_kit.specs.Conserving.{Count, counted, Conserves}
use Rattle.buffer_kit.specs.Pools.{page_bodies}
use Rattle.buffer_kit.specs.Virtualising.{from_queues, to_queues}
use Rattle.buffer_kit.proofs.Conserving.{counted-append}
use Rattle.net_virt_tx.specs.declared.client.Client.{Client as Shipping}
use Rattle.net_virt_tx.specs.Traffics.{senders}
use Rattle.blk_virt.specs.Desks.{holders}
use Rattle.wired_law.proofs.PageLaw.ActorsLemmas.Plain.{copier_conserves, client_conserves, driver_conserves, device_conserves}
use Rattle.wired_law.proofs.PageLaw.ActorsLemmas.Sending.{sender_conserves}
use Rattle.wired_law.proofs.PageLaw.ActorsLemmas.Receiving.{receiver_conserves}
use Rattle.wired_law.proofs.PageLaw.ActorsLemmas.Serial.{terminal_conserves, receiver_conserves as serial_receiver_conserves, sender_conserves as serial_sender_conserves}
use Rattle.wired_law.proofs.PageLaw.ActorsLemmas.Pages.{pool_weight}
use Rattle.wired_law.proofs.PageLaw.DiskLemmas.Answering.{disk_conserves}
use Rattle.net_law.specs.Parts.Playing.{stock_pool}
use Rattle.net_quiet.proofs.TxOwners.Holding.{shippers_came, shippers_went}
use Rattle.net_quiet.proofs.PoolsLemmas.Lending.{lessees_came, lessees_went}
use Rattle.blk_quiet.proofs.PoolsLemmas.Holding.{sharers_came, sharers_went}
use Rattle.actor_set.specs.Actors.{ActorStandsFor, IsWhole, actor_hand, part_of, numbers}
use Rattle.actor_set.specs.declared.actor.Actor.{Actor}
use Rattle.actor_set.specs.declared.actor.Actor.TheVariants as Kinds
use Rattle.actor_set.specs.Laws.Kinds.{sheet}
use Rattle.actor_set.proofs.RogueLemmas.Ends.{pages_counted}
use Rattle.cast_law.specs.Pages.Paging.{actor_kept, actor_start, part_weighs, pool_weighs}
use Rattle.cast_law.proofs.PoolsLemmas.Acting.{ins_came, ins_went, outs_came, outs_went, both_came, both_went}

module _ (scene : Scene) (passed : Passed) where
  pub actor_conserves : (x : Actor) → IsWhole x → (st : ActorStandsFor x passed) → Conserves (actor_start x passed st) (came passed (sheet scene (part_of x)).ends) (went passed (sheet scene (part_of x)).ends) (actor_hand x) (actor_kept x passed)
  actor_conserves (Kinds.UartDevice x) whole st = terminal_conserves x.terminal passed st
  actor_conserves (Kinds.UartDriver x) whole st = driver_conserves (two_pipes x.driver.pipes) passed st
  actor_conserves (Kinds.SerialVirtRx x) whole st = λ f.
      let qs : List ℕ = numbers (outlet_queues x.outputs) in
      omega (arith, serial_receiver_conserves x passed st f, ap (λ xs. counted f (bodies_of (passed.taken x.input.queue.0) ++ xs)) (outs_came passed qs), ap (counted f) (outs_went passed qs))
  actor_conserves (Kinds.SerialVirtTx x) whole st = λ f.
      let qs : List ℕ = numbers (intake_queues x.inputs) in
      omega (arith, serial_sender_conserves x passed st f, ap (counted f) (ins_came passed qs), ap (λ xs. counted f (bodies_of (passed.sent x.output.queue.0) ++ xs)) (ins_went passed qs))
  actor_conserves (Kinds.SerialClient x) whole st = terminal_conserves x.terminal passed st
  actor_conserves (Kinds.EthDevice x) whole st = device_conserves x passed st
  actor_conserves (Kinds.EthDriver x) whole st = driver_conserves (four_pipes x.driver.pipes) passed st
  actor_conserves (Kinds.NetVirtRx x) whole st = λ f.
      let all = receiver_conserves x.ends.input.queue.0 x.ends.output.queue.0 (from_queues x.ends) (to_queues x.ends) x.work passed st whole.from_each whole.to_each f in
      let took = ap (λ xs. counted f (bodies_of (passed.taken x.ends.input.queue.0) ++ xs)) (lessees_came passed x.work.macs.items (to_queues x.ends) (from_queues x.ends) whole.to_each whole.from_each) in
      let gave = ap (λ xs. counted f (bodies_of (passed.sent x.ends.output.queue.0) ++ xs)) (lessees_went passed x.work.macs.items (to_queues x.ends) (from_queues x.ends) whole.to_each whole.from_each) in
      omega (arith, all, took, gave)
  actor_conserves (Kinds.NetCopier x) whole st = copier_conserves x passed st
  actor_conserves (Kinds.NetClient x) whole st = client_conserves x passed st
  actor_conserves (Kinds.NetVirtTx x) whole st = λ f.
      let many = length-map x.work.clients.items (λ (c : Shipping). c.sender) in
      let all = sender_conserves x.ends.input.queue.0 x.ends.output.queue.0 (from_queues x.ends) (to_queues x.ends) x.work passed st f in
      let took = ap (λ xs. counted f (bodies_of (passed.taken x.ends.input.queue.0) ++ xs)) (shippers_came passed (senders x.work) (from_queues x.ends) (to_queues x.ends) (whole.from_each ∙ sym many) (whole.to_each ∙ sym many)) in
      let gave = ap (λ xs. counted f (bodies_of (passed.sent x.ends.output.queue.0) ++ xs)) (shippers_went passed (senders x.work) (from_queues x.ends) (to_queues x.ends) (whole.from_each ∙ sym many) (whole.to_each ∙ sym many)) in
      omega (arith, all, took, gave)
  actor_conserves (Kinds.DiskDevice x) whole st = disk_conserves x.start.value x.device passed st
  actor_conserves (Kinds.BlkDriver x) whole st = driver_conserves (two_pipes x.driver.pipes) passed st
  actor_conserves (Kinds.BlkVirt x) whole st = λ f.
      let took = ap (λ xs. counted f (bodies_of (passed.taken x.ends.input.queue.0) ++ xs)) (sharers_came passed (holders x.work.desk) (from_queues x.ends) (to_queues x.ends) whole.from_each whole.to_each) in
      let gave = ap (λ xs. counted f (bodies_of (passed.sent x.ends.output.queue.0) ++ xs)) (sharers_went passed (holders x.work.desk) (from_queues x.ends) (to_queues x.ends) whole.from_each whole.to_each) in
      omega (arith, st.conserves f, took, gave)
  actor_conserves (Kinds.BlkClient x) whole st = st.conserves
  actor_conserves (Kinds.Rogue x) whole st = λ f.
      let ins : List ℕ = numbers x.inputs.items in
      let outs : List ℕ = numbers x.outputs.items in
      omega (arith, st f, ap (counted f) (both_came passed ins outs), ap (counted f) (both_went passed ins outs))

-- what it had at the start is all of its pools, and its pages
module _ (passed : Passed) (f : Count) where
  pub start_weighs : (x : Actor) → IsWhole x → (st : ActorStandsFor x passed) → counted f (actor_start x passed st) ≡ part_weighs f (part_of x)
  start_weighs (Kinds.UartDevice x) whole st = refl
  start_weighs (Kinds.UartDriver x) whole st = refl
  start_weighs (Kinds.SerialVirtRx x) whole st = refl
  start_weighs (Kinds.SerialVirtTx x) whole st = refl
  start_weighs (Kinds.SerialClient x) whole st = refl
  start_weighs (Kinds.EthDevice x) whole st = refl
  start_weighs (Kinds.EthDriver x) whole st = refl
  start_weighs (Kinds.NetVirtRx x) whole st =
      let s = x.work.stock in
      let pages = pool_weight f s.base s.pool s.size st.start st.is_start.are_pool in
      let many = ap (sum_below (λ b. f s.pool b s.size)) st.is_start.many in
      omega (arith, pages, many, sum_by-cons (pool_weighs f) (stock_pool s) [])
  start_weighs (Kinds.NetCopier x) whole st = refl
  start_weighs (Kinds.NetClient x) whole st =
      let s = x.stock in
      let t = x.outbox.stock in
      let both = counted-append f (page_bodies st.start) (page_bodies st.sends.start) in
      let rx = pool_weight f s.base s.pool s.size st.start st.is_start.are_pool in
      let tx = pool_weight f t.base t.pool t.size st.sends.start st.sends.is_start.are_pool in
      let rx_many = ap (sum_below (λ b. f s.pool b s.size)) st.is_start.many in
      let tx_many = ap (sum_below (λ b. f t.pool b t.size)) st.sends.is_start.many in
      omega (arith, both, rx, tx, rx_many, tx_many, sum_by-cons (pool_weighs f) (stock_pool s) (stock_pool t ∷ []), sum_by-cons (pool_weighs f) (stock_pool t) [])
  start_weighs (Kinds.NetVirtTx x) whole st = refl
  start_weighs (Kinds.DiskDevice x) whole st = refl
  start_weighs (Kinds.BlkDriver x) whole st = refl
  start_weighs (Kinds.BlkVirt x) whole st =
      let own = st.stands.is_start in
      let own_pool : PoolAt = record { number = x.work.opening.own.pool.0; base = x.work.opening.base; buffers = 1; size = 32768 } in
      let name = ap (λ n. f n.pool n.no (length st.start.bytes)) own in
      let first = ap (λ n. f x.work.opening.own.pool n (length st.start.bytes)) whole.first in
      let long = ap (f x.work.opening.own.pool 0) st.long in
      omega (arith, name, first, long, sum_by-cons (pool_weighs f) own_pool [])
  start_weighs (Kinds.BlkClient x) whole st =
      let pages = pool_weight f 0 x.asking.pool 32768 st.start st.is_start.are_pool in
      let many = ap (sum_below (λ b. f x.asking.pool b 32768)) st.is_start.many in
      let pool : PoolAt = record { number = x.asking.pool.0; base = 0; buffers = x.asking.buffers; size = 32768 } in
      omega (arith, pages, many, sum_by-cons (pool_weighs f) pool [])
  start_weighs (Kinds.Rogue x) whole st = omega (arith, pages_counted f x.start.value.items)
