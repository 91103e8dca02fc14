-- The queues between a hostile client of the network and those that serve it are closed.
use Rattle.std.proofs.Common.{◌≡◌, ◌≤◌, ◌+◌, ◌++◌, ◌==◌, ℕ, Bool, true, false, not, cond, List, [], ◌∷◌, length, map, refl, sym, ap, ◌∙◌, subst, arith}
use Rattle.std.specs.List.{filter}
use Rattle.std.specs.Option.{option_to_list}
use Rattle.std.proofs.lemmas.Bool.{and_parts, eqb-true}
use Rattle.cargo_core.specs.declared.item.Body.TheVariants as Carried
use Rattle.cargo_core.specs.declared.item.PoolId.{PoolId}
use Rattle.wire_core.specs.declared.names.QueueId.{QueueId}
use Rattle.wire_core.specs.Deeds.{Cargo}
use Rattle.wire_core.specs.Lists.{Passed, if_there}
use Rattle.turn_kit.specs.Hands.{bodies_of, bodies_at}
use Rattle.turn_kit.specs.declared.pipe.Pipe.{Pipe}
use Rattle.buffer_kit.specs.Conserving.{Conserves, Count, counted, weight, weighed}
use Rattle.buffer_kit.specs.Pools.{page_bodies}
use Rattle.buffer_kit.specs.Virtualising.{from_queues, to_queues}
use Rattle.buffer_kit.proofs.Conserving.{counted-at, weighed-append, weighed-merge, weighed-split}
use Rattle.buffer_kit.proofs.ManyClients.{queue_is}
use Rattle.net_copier.specs.Copying.{copier_hand}
use Rattle.net_copier.specs.declared.NetCopier.{NetCopier}
use Rattle.net_virt_tx.specs.declared.NetVirtTx.{NetVirtTx}
use Rattle.net_virt_tx.specs.declared.client.Client.{Client}
use Rattle.net_virt_tx.specs.declared.descriptors.Sender.{Sender}
use Rattle.net_virt_tx.specs.Clients.{ClientStands}
use Rattle.net_virt_tx.specs.Descriptors.{to_client}
use Rattle.net_virt_tx.specs.Queued.{returns_list}
use Rattle.net_virt_tx.specs.Sending.{queue_at}
use Rattle.net_virt_tx.specs.Serving.{bad_ones, is_good_of, is_own, own_of}
use Rattle.client_programs.specs.declared.rogue.Rogue.{Rogue}
use Rattle.client_programs.specs.Rogue.Clients.{numbers}
use Rattle.wired_law.specs.PageLaw.Paths.{AreGood}
use Rattle.wired_law.specs.PageLaw.WildPages.Rounds.{IsClosed, IsServed, Spares, put_there, queues_of, taken_there}

-- a good descriptor carries a page of the client's pool, which isn't counted
one_spared : (f : Count) (s : Sender) → Spares f s.pool → (x : Cargo) → is_good_of s x ≡ true → weight f x.1 ≡ 0
one_spared f s spared (item, Carried.Page page) h =
    let own : page.pool.0 ≡ s.pool.0 = eqb-true page.pool.0 s.pool.0 (and_parts _ _ h).0 in
    let same : page.pool ≡ s.pool = ap (λ (n : ℕ). record { 0 = n }) own in
    ap (λ (p : PoolId). f p page.no (length page.bytes)) same ∙ spared page.no (length page.bytes)
one_spared f s spared (item, Carried.Lease lease) h = absurd cc
one_spared f s spared (item, Carried.Empty) h = absurd cc

spared_all : (f : Count) (s : Sender) → Spares f s.pool → (xs : List Cargo) → AreGood s xs → weighed f xs ≡ 0
spared_all f s spared [] good = refl
spared_all f s spared (x ∷ xs) good = omega (arith, one_spared f s spared x good.0, spared_all f s spared xs good.1)

-- what is a client's of some entries weighs no more than what is its of them and more
own_first : (f : Count) (s : Sender) (xs ys : List Cargo) → weighed f (own_of s xs) ≤ weighed f (own_of s (xs ++ ys))
own_first f s [] ys = omega arith
own_first f s (x ∷ xs) ys = by (is_own s x) (own_first f s xs ys)
  where
    by : (t : Bool) → weighed f (own_of s xs) ≤ weighed f (own_of s (xs ++ ys)) → weighed f (map (to_client s.base) (cond t (x ∷ filter (is_own s) xs) (filter (is_own s) xs))) ≤ weighed f (map (to_client s.base) (cond t (x ∷ filter (is_own s) (xs ++ ys)) (filter (is_own s) (xs ++ ys))))
    by true h = omega (arith, h)
    by false h = h

-- of one client of the sending virtualiser: what went back to it weighs no more than what came,
-- where what returned from the driver for it isn't counted
back_light : (f : Count) (c : Client) (came sent returned back : List Cargo) → ClientStands c came sent returned back → weighed f returned ≡ 0 → weighed f back ≤ weighed f came
back_light f c came sent returned back h none =
    let merged = weighed-merge f (h.bads ∷ h.rets ∷ []) back h.merged in
    let bads : weighed f (bad_ones c.sender came) ≡ weighed f h.bads + weighed f (option_to_list c.bad) = ap (weighed f) (sym h.bads_are) ∙ weighed-append f h.bads (option_to_list c.bad) in
    let rets : weighed f returned ≡ weighed f h.rets + weighed f (returns_list c.returns) = ap (weighed f) (sym h.rets_are) ∙ weighed-append f h.rets (returns_list c.returns) in
    let split = weighed-split f (is_good_of c.sender) came in
    omega (arith, merged, bads, rets, split, none)

-- what two queues weigh
two : (f : Count) (lists : ℕ → List Cargo) (a b : ℕ) → counted f (bodies_at lists (a ∷ b ∷ [])) ≡ weighed f (lists a) + weighed f (lists b)
two f lists a b = omega (arith, counted-at f lists a (b ∷ []), counted-at f lists b [])

four : (f : Count) (lists : ℕ → List Cargo) (a b c d : ℕ) → counted f (bodies_at lists (a ∷ b ∷ c ∷ d ∷ [])) ≡ weighed f (lists a) + (weighed f (lists b) + (weighed f (lists c) + weighed f (lists d)))
four f lists a b c d = omega (arith, counted-at f lists a (b ∷ c ∷ d ∷ []), counted-at f lists b (c ∷ d ∷ []), two f lists c d)

module _ (f : Count) (r : Rogue) (c : NetCopier) (v : NetVirtTx) (k : ℕ) (s : Client) (sends returns : QueueId) (passed : Passed) (h : IsServed r c v k s sends returns passed) (leases : weighed f (passed.taken c.lease_input.queue.0) ≡ 0) (start : counted f (page_bodies r.start.value.items) ≡ 0) (spared : Spares f s.sender.pool) (good : AreGood s.sender (own_of s.sender (passed.taken v.ends.input.queue.0)))
    (copies : Conserves [] (bodies_at passed.taken (c.lease_input.queue.0 ∷ c.buffer_input.queue.0 ∷ [])) (bodies_at passed.sent (c.buffer_output.queue.0 ∷ c.lease_output.queue.0 ∷ [])) (copier_hand c) []) where
  abbrev active : ℕ
  active = c.buffer_output.queue.0

  abbrev free : ℕ
  free = c.buffer_input.queue.0

  client_gives : weighed f (passed.sent free) + weighed f (passed.sent sends.0) ≤ weighed f (passed.taken active) + weighed f (passed.taken returns.0)
  client_gives =
      let came : counted f (bodies_at passed.taken (numbers r.inputs.items)) ≡ weighed f (passed.taken active) + weighed f (passed.taken returns.0) = ap (λ ns. counted f (bodies_at passed.taken ns)) h.inputs ∙ two f passed.taken active returns.0 in
      let went : counted f (bodies_at passed.sent (numbers r.outputs.items)) ≡ weighed f (passed.sent free) + weighed f (passed.sent sends.0) = ap (λ ns. counted f (bodies_at passed.sent ns)) h.outputs ∙ two f passed.sent free sends.0 in
      omega (arith, h.client f, came, went, start)

  copier_gives : weighed f (passed.sent active) ≤ weighed f (passed.taken free)
  copier_gives =
      let came = two f passed.taken c.lease_input.queue.0 free in
      let went = two f passed.sent active c.lease_output.queue.0 in
      omega (arith, copies f, came, went, leases)

  returned : weighed f (own_of s.sender (h.sender.turn v.ends.input.queue.0)) ≡ 0
  returned =
      let i = v.ends.input.queue.0 in
      let all : weighed f (own_of s.sender (passed.taken i)) ≡ 0 = spared_all f s.sender spared (own_of s.sender (passed.taken i)) good in
      let stray : List Cargo = if_there (h.sender.place == i) (option_to_list v.work.stray) in
      let first : weighed f (own_of s.sender (h.sender.turn i)) ≤ weighed f (own_of s.sender (h.sender.turn i ++ stray)) = own_first f s.sender (h.sender.turn i) stray in
      let whole : weighed f (own_of s.sender (h.sender.turn i ++ stray)) ≡ 0 = ap (λ xs. weighed f (own_of s.sender xs)) (sym (h.sender.taken i)) ∙ all in
      omega (arith, first, whole)

  sender_gives : weighed f (passed.sent returns.0) ≤ weighed f (passed.taken sends.0)
  sender_gives =
      let from : queue_at (from_queues v.ends) k ≡ sends.0 = queue_is (from_queues v.ends) k sends h.from_it in
      let to : queue_at (to_queues v.ends) k ≡ returns.0 = queue_is (to_queues v.ends) k returns h.to_it in
      let light = back_light f s (h.sender.turn (queue_at (from_queues v.ends) k)) _ _ (passed.sent (queue_at (to_queues v.ends) k)) (h.sender.stands.clients k s h.there) returned in
      let went : weighed f (passed.sent (queue_at (to_queues v.ends) k)) ≡ weighed f (passed.sent returns.0) = ap (λ n. weighed f (passed.sent n)) to in
      let turn : weighed f (h.sender.turn (queue_at (from_queues v.ends) k)) ≡ weighed f (h.sender.turn sends.0) = ap (λ n. weighed f (h.sender.turn n)) from in
      let stray : List Cargo = if_there (h.sender.place == sends.0) (option_to_list v.work.stray) in
      let came : weighed f (passed.taken sends.0) ≡ weighed f (h.sender.turn sends.0) + weighed f stray = ap (weighed f) (h.sender.taken sends.0) ∙ weighed-append f (h.sender.turn sends.0) stray in
      omega (arith, light, went, turn, came)

  pub closed : IsClosed f (queues_of c sends returns) passed
  closed = omega (arith, four f passed.sent active returns.0 free sends.0, four f passed.taken active returns.0 free sends.0, client_gives, copier_gives, sender_gives)
