-- Nothing comes out of turn: a good descriptor would be a second page of one name.
use Rattle.std.proofs.Common.{◌≡◌, ◌⊎◌, ◌+◌, ◌*◌, ◌==◌, ◌<◌, ◌≤◌, ℕ, zero, suc, Bool, true, false, not, Option, Some, None, List, [], ◌∷◌, ◌++◌, length, map, flat_map, slice_get, refl, sym, ap, ◌∙◌, subst, arith, inl, inr, eq-eqb, ne_eqb, append-nil, append_assoc}
use Rattle.std.specs.List.{filter}
use Rattle.std.specs.Option.{option_to_list}
use Rattle.std.proofs.lemmas.List.{map-append, length-map}
use Rattle.std.proofs.lemmas.List.Elements.{filter-append}
use Rattle.std.proofs.lemmas.Option.{slice_get_within}
use Rattle.wire_core.specs.declared.names.QueueId.{QueueId}
use Rattle.wire_core.specs.Bells.{bit}
use Rattle.wire_core.specs.Deeds.{Cargo}
use Rattle.wire_core.specs.Lists.{Lists, Passed, if_there}
use Rattle.turn_kit.specs.Hands.{bodies_of}
use Rattle.turn_kit.specs.declared.pipe.Pipe.{Pipe}
use Rattle.turn_kit.proofs.Offers.{get_map}
use Rattle.play_core.proofs.Lists.{map_from, there_is, some_is}
use Rattle.buffer_kit.specs.Entries.{addr_of}
use Rattle.buffer_kit.specs.Virtualising.{from_queues, to_queues}
use Rattle.net_virt_tx.specs.declared.NetVirtTx.{NetVirtTx}
use Rattle.net_virt_tx.specs.declared.client.Client.{Client}
use Rattle.net_virt_tx.specs.declared.descriptors.Sender.{Sender}
use Rattle.net_virt_tx.specs.Descriptors.{to_client}
use Rattle.net_virt_tx.specs.Queued.{returns_list}
use Rattle.net_virt_tx.specs.Serving.{is_good_of, is_own, own_of, bad_ones}
use Rattle.net_virt_tx.specs.Clients.{ClientStands, at_address, client_cargo, number_of}
use Rattle.net_virt_tx.specs.Traffics.{senders, traffic_hand}
use Rattle.net_virt_tx.specs.Sending.{TxStandsFor, IsOutOfTurn, IsDescriptorInTurn, queue_at}
use Rattle.net_virt_tx.proofs.Counting.{at_append, at_split, good_is, idle_parts}
use Rattle.net_virt_tx.proofs.Merging.{merge_at}
use Rattle.buffer_kit.proofs.ManyClients.{queue_is}
use Rattle.buffer_kit.specs.Conserving.{Count, weight, weighed, the_page}
use Rattle.buffer_kit.proofs.Conserving.{weighed-append}
use Rattle.wired_law.specs.PageLaw.Paths.{AreGood, IsWay, AreOnce, InputApart, on_way}
use Rattle.wired_law.proofs.PageLaw.TurnsLemmas.Ways.{way_is}
use Rattle.wired_law.proofs.PageLaw.TurnsLemmas.Heavy.{filter_good, good_first, good_last, heavy, own_light, one_weight}

own_append : (s : Sender) (xs ys : List Cargo) → own_of s (xs ++ ys) ≡ own_of s xs ++ own_of s ys
own_append s xs ys = ap (map (to_client s.base)) (filter-append (is_own s) xs ys) ∙ map-append (to_client s.base) (filter (is_own s) xs) (filter (is_own s) ys)

-- of one client, whose bad descriptor doesn't wait: as many came at an address as went back, where no
-- page of that address is on the way or kept of the client
client_turn : (c : Client) → 1 ≤ c.sender.size → (came back returned way : List Cargo) (b : ℕ) → ClientStands c came (own_of c.sender (returned ++ way)) (own_of c.sender returned) back → c.bad ≡ None
    → weighed (the_page c.sender.pool b) way + (weighed (the_page c.sender.pool b) (option_to_list c.leaving) + weighed (the_page c.sender.pool b) (returns_list c.returns)) ≡ 0 → at_address (b * c.sender.size) came ≤ at_address (b * c.sender.size) back
client_turn c sized came back returned way b h none empty =
    let s = c.sender in
    let a = b * c.sender.size in
    let f = the_page s.pool b in
    let leaving = map (to_client s.base) (option_to_list c.leaving) in
    let split : at_address a came ≡ at_address a (filter (is_good_of s) came) + at_address a (bad_ones s came) = at_split a (is_good_of s) came in
    let whole : (own_of s returned ++ own_of s way) ++ leaving ≡ filter (is_good_of s) came = ap (λ l. l ++ leaving) (sym (own_append s returned way)) ∙ h.sends in
    let good : AreGood s ((own_of s returned ++ own_of s way) ++ leaving) = subst (AreGood s) (sym whole) (filter_good s came) in
    let good_own = good_first s (own_of s returned ++ own_of s way) leaving good in
    let good_way = good_last s (own_of s returned) (own_of s way) good_own in
    let good_back : AreGood s (h.rets ++ returns_list c.returns) = subst (AreGood s) (sym h.rets_are) (good_first s (own_of s returned) (own_of s way) good_own) in
    let way_few = heavy s sized b (own_of s way) good_way in
    let way_light = own_light f s way in
    let leaving_few = heavy s sized b leaving (good_last s (own_of s returned ++ own_of s way) leaving good) in
    let leaving_light : weighed f leaving ≡ weighed f (option_to_list c.leaving) = still f s (option_to_list c.leaving) in
    let returns_few = heavy s sized b (returns_list c.returns) (good_last s h.rets (returns_list c.returns) good_back) in
    let sent = ap (at_address a) (sym whole) ∙ at_append a (own_of s returned ++ own_of s way) leaving in
    let sent' = at_append a (own_of s returned) (own_of s way) in
    let rets = ap (at_address a) (sym h.rets_are) ∙ at_append a h.rets (returns_list c.returns) in
    let bads = ap (at_address a) (sym h.bads_are) ∙ at_append a h.bads (option_to_list c.bad) in
    let waits : at_address a (option_to_list c.bad) ≡ 0 = ap (λ (o : Option Cargo). at_address a (option_to_list o)) none in
    let merged = merge_at a h.bads h.rets back h.merged in
    omega (arith, split, sent, sent', rets, bads, waits, merged, way_few, way_light, leaving_few, leaving_light, returns_few, empty)
  where
    still : (f : Count) (s : Sender) (xs : List Cargo) → weighed f (map (to_client s.base) xs) ≡ weighed f xs
    still f s [] = refl
    still f s (x ∷ xs) = omega (arith, still f s xs)

-- what one client has is in the hand
in_hand : (f : Count) (cs : List Client) (k : ℕ) (c : Client) → slice_get cs k ≡ Some c → weighed f (option_to_list c.leaving) + weighed f (returns_list c.returns) ≤ weighed f (flat_map client_cargo cs)
in_hand f [] k c at = cc
in_hand f (d ∷ cs) zero c at =
    let all = weighed-append f (client_cargo d) (flat_map client_cargo cs) in
    let a = weighed-append f (option_to_list d.leaving) (option_to_list d.bad ++ returns_list d.returns) in
    let b = weighed-append f (option_to_list d.bad) (returns_list d.returns) in
    let same = ap (λ (x : Client). weighed f (option_to_list x.leaving) + weighed f (returns_list x.returns)) (some_is at) in
    omega (arith, all, a, b, same)
in_hand f (d ∷ cs) (suc k) c at = omega (arith, weighed-append f (client_cargo d) (flat_map client_cargo cs), in_hand f cs k c at)

module _ (v : NetVirtTx) (passed : Passed) (h : TxStandsFor v passed) (down device up : Pipe) (w : IsWay down device up v.ends.input.queue.0 v.ends.output.queue.0 passed) where
  abbrev i : ℕ
  i = v.ends.input.queue.0

  abbrev o : ℕ
  o = v.ends.output.queue.0

  abbrev way : List Cargo
  way = on_way down device up i o passed

  sent_is : passed.sent o ≡ (h.turn i ++ if_there (h.place == i) (option_to_list v.work.stray)) ++ way
  sent_is = way_is down device up i o passed w ∙ ap (λ l. l ++ way) (h.taken i)

  -- what came back was sent, so it is good, whatever the clients put
  pub back_good : (k : ℕ) (c : Client) → slice_get v.work.clients.items k ≡ Some c → AreGood c.sender (own_of c.sender (passed.taken i))
  back_good k c at =
      let s = c.sender in
      let stands = h.stands.clients k c at in
      let sent : own_of s (passed.sent o) ≡ own_of s (passed.taken i) ++ own_of s way = ap (own_of s) (way_is down device up i o passed w) ∙ own_append s (passed.taken i) way in
      let whole : (own_of s (passed.taken i) ++ own_of s way) ++ map (to_client s.base) (option_to_list c.leaving) ≡ filter (is_good_of s) (h.turn (queue_at (from_queues v.ends) k)) = ap (λ l. l ++ map (to_client s.base) (option_to_list c.leaving)) (sym sent) ∙ stands.sends in
      let good : AreGood s ((own_of s (passed.taken i) ++ own_of s way) ++ map (to_client s.base) (option_to_list c.leaving)) = subst (AreGood s) (sym whole) (filter_good s (h.turn (queue_at (from_queues v.ends) k))) in
      good_first s (own_of s (passed.taken i)) (own_of s way) (good_first s (own_of s (passed.taken i) ++ own_of s way) (map (to_client s.base) (option_to_list c.leaving)) good)

  -- nor comes anything out of turn
  module _ (once : AreOnce (on_way down device up v.ends.input.queue.0 v.ends.output.queue.0 passed) v) (apart : InputApart v) where
    module _ (x : Cargo) (is : v.work.stray ≡ Some x) where
      -- what comes back was away
      back_in : h.place ≡ i → at_address (addr_of x.0) (h.turn i) < at_address (addr_of x.0) (passed.sent o)
      back_in e =
          let here : if_there (h.place == i) (option_to_list v.work.stray) ≡ x ∷ [] = ap (λ b. if_there b (option_to_list v.work.stray)) (eq-eqb h.place i e) ∙ ap (λ (s : Option Cargo). option_to_list s) is in
          let all = ap (at_address (addr_of x.0)) (sent_is ∙ ap (λ l. (h.turn i ++ l) ++ way) here) in
          let a = at_append (addr_of x.0) (h.turn i ++ x ∷ []) way in
          let b = at_append (addr_of x.0) (h.turn i) (x ∷ []) in
          let one : bit (addr_of x.0 == addr_of x.0) ≡ 1 = ap bit (eq-eqb (addr_of x.0) (addr_of x.0) refl) in
          omega (arith, all, a, b, one)

      -- a descriptor that came is new
      is_new : (k : ℕ) (s : Sender) → slice_get (senders v.work) k ≡ Some s → h.place ≡ queue_at (from_queues v.ends) k → IsDescriptorInTurn s (h.turn h.place) (passed.sent (queue_at (to_queues v.ends) k)) x
      is_new k s at place good =
          let found = map_from (λ (c : Client). c.sender) v.work.clients.items k s at in
          by found.0 found.1 found.2
        where
          by : (c : Client) → slice_get v.work.clients.items k ≡ Some c → c.sender ≡ s → at_address (addr_of x.0) (h.turn h.place) ≤ at_address (addr_of x.0) (passed.sent (queue_at (to_queues v.ends) k))
          by c there same =
              let b = number_of x.1 in
              let f = the_page c.sender.pool b in
              let good_c : is_good_of c.sender x ≡ true = ap (λ (r : Sender). is_good_of r x) same ∙ good in
              let begins = (good_is c.sender x good_c).1 in
              let within = slice_get_within v.work.clients.items k c there in
              let q = there_is (from_queues v.ends) k (omega (arith, within, h.from_each)) in
              let off : h.place ≡ i → ⊥ = λ e. apart k q.0 q.1 (sym e ∙ (place ∙ queue_is (from_queues v.ends) k q.0 q.1)) in
              let none_here : if_there (h.place == i) (option_to_list v.work.stray) ≡ [] = ap (λ t. if_there t (option_to_list v.work.stray)) (ne_eqb h.place i off) in
              let sent : passed.sent o ≡ h.turn i ++ way = sent_is ∙ ap (λ l. l ++ way) (ap (λ l. h.turn i ++ l) none_here ∙ append-nil (h.turn i)) in
              let one = one_weight c.sender (h.work.each k c there).sized x good_c b begins in
              let hand = weighed-append f (flat_map client_cargo v.work.clients.items) (option_to_list v.work.stray) in
              let stray : weighed f (option_to_list v.work.stray) ≡ weight f x.1 + 0 = ap (λ (y : Option Cargo). weighed f (option_to_list y)) is in
              let kept = in_hand f v.work.clients.items k c there in
              let empty : weighed f way + (weighed f (option_to_list c.leaving) + weighed f (returns_list c.returns)) ≡ 0 = omega (arith, once c.sender.pool b, one, hand, stray, kept) in
              let stands : ClientStands c (h.turn (queue_at (from_queues v.ends) k)) (own_of c.sender (h.turn i ++ way)) (own_of c.sender (h.turn i)) (passed.sent (queue_at (to_queues v.ends) k)) = subst (λ l. ClientStands c (h.turn (queue_at (from_queues v.ends) k)) (own_of c.sender l) (own_of c.sender (h.turn i)) (passed.sent (queue_at (to_queues v.ends) k))) sent (h.stands.clients k c there) in
              let turn = client_turn c (h.work.each k c there).sized (h.turn (queue_at (from_queues v.ends) k)) (passed.sent (queue_at (to_queues v.ends) k)) (h.turn i) way b stands (idle_parts c.leaving c.bad (h.alone k c x is there place)).1 empty in
              subst (λ a. at_address a (h.turn h.place) ≤ at_address a (passed.sent (queue_at (to_queues v.ends) k))) (sym begins) (subst (λ n. at_address (b * c.sender.size) (h.turn n) ≤ at_address (b * c.sender.size) (passed.sent (queue_at (to_queues v.ends) k))) (sym place) turn)

      never : ⊥
      never = by (h.stray x is)
        where
          by : IsOutOfTurn i o (from_queues v.ends) (to_queues v.ends) (senders v.work) h.turn passed.sent h.place x → ⊥
          by (inl e) = e.1 (back_in e.0)
          by (inr (k, s, at, place, out)) = out (is_new k s at place)

    pub in_turn : v.work.stray ≡ None
    in_turn = by v.work.stray refl
      where
        by : (o : Option Cargo) → v.work.stray ≡ o → o ≡ None
        by None is = refl
        by (Some x) is = absurd (never x is)
