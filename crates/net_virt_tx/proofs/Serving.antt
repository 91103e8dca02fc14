-- All clients stand for what passed after one of them was served further.
use Rattle.std.proofs.Common.{◌≤◌, ◌≡◌, ◌⊎◌, ◌+◌, ◌*◌, ◌<◌, ◌^◌, ℕ, zero, suc, true, nat_le, nat_lt, cond, inl, inr, Option, Some, List, [], ◌∷◌, ◌++◌, All, length, map, flat_map, slice_get, slice_index_or, refl, sym, ap, ◌∙◌, subst, arith}
use Rattle.std.specs.List.{filter, sum_by}
use Rattle.std.specs.Option.{option_to_list}
use Rattle.std.proofs.Math.Seq.{map-set_same}
use Rattle.std.proofs.lemmas.Bool.{cases_eq, and_from, lt-ltb, le-leb}
use Rattle.std.proofs.lemmas.Option.{slice_get_within, get_or_from_slice_get}
use Rattle.std.proofs.lemmas.List.{append-nil, map-append}
use Rattle.std.proofs.lemmas.List.Elements.{All-append, filter-append}
use Rattle.cargo_core.specs.declared.item.PoolId.{PoolId}
use Rattle.cargo_core.specs.Ranges.{AreRanges, IsApart}
use Rattle.wire_core.specs.Deeds.{Cargo}
use Rattle.wire_core.proofs.Places.{slice_get_beside}
use Rattle.turn_kit.proofs.Offers.{get_map}
use Rattle.turn_kit.proofs.Holding.{cargo-append}
use Rattle.buffer_kit.specs.Entries.{addr_of}
use Rattle.buffer_kit.proofs.ManyClients.{some_eq, cargo_set, now_or_was, now_there, there_more, other_more}
use Rattle.net_virt_tx.specs.declared.client.Client.{Client}
use Rattle.net_virt_tx.specs.declared.descriptors.Sender.{Sender}
use Rattle.net_virt_tx.specs.declared.traffic.Traffic.{Traffic}
use Rattle.net_virt_tx.specs.Descriptors.{to_client}
use Rattle.net_virt_tx.specs.Serving.{is_own, own_of}
use Rattle.net_virt_tx.specs.Clients.{IsClient, ClientStands, IsOf, carried, client_cargo, range_of}
use Rattle.net_virt_tx.specs.Traffics.{IsTraffic, IsSomeones, TrafficStands, OneMoved, senders, with_more, traffic_cargo}
use Rattle.net_virt_tx.proofs.Counting.{ends_within}
use Rattle.net_virt_tx.proofs.Moving.{same_lists}

own_append : (s : Sender) (xs ys : List Cargo) → own_of s (xs ++ ys) ≡ own_of s xs ++ own_of s ys
own_append s xs ys = ap (map (to_client s.base)) (filter-append (is_own s) xs ys) ∙ map-append (to_client s.base) (filter (is_own s) xs) (filter (is_own s) ys)

pub is_within_own : (s : Sender) → 1 ≤ s.size → (x : Cargo) → IsOf s x → is_own s x ≡ true
is_within_own s some x (b, low, at) = and_from (nat_le s.base (addr_of x.0)) (nat_lt (addr_of x.0) (s.base + s.buffers * s.size)) (le-leb s.base (addr_of x.0) (omega (arith, at))) (lt-ltb (addr_of x.0) (s.base + s.buffers * s.size) (let within = ends_within s.size b s.buffers low in omega (arith, at, some, within)))

all_later : (P : Cargo → Type 0) (x : Cargo) (xs : List Cargo) → All P (x ∷ xs) → All P xs
all_later P x xs h = λ k d l. h (suc k) d (omega (arith, l))

own_all : (s : Sender) → 1 ≤ s.size → (xs : List Cargo) → All (IsOf s) xs → own_of s xs ≡ map (to_client s.base) xs
own_all s some [] h = refl
own_all s some (x ∷ xs) h = ap (λ b. map (to_client s.base) (cond b (x ∷ filter (is_own s) xs) (filter (is_own s) xs))) (is_within_own s some x (h zero x (omega arith))) ∙ ap (λ l. to_client s.base x ∷ l) (own_all s some xs (all_later (IsOf s) x xs h))

own_none : (s r : Sender) → 1 ≤ s.size → (xs : List Cargo) → IsApart (range_of s) (range_of r) → All (IsOf s) xs → own_of r xs ≡ []
own_none s r some [] apart h = refl
own_none s r some (x ∷ xs) apart h = ap (λ b. map (to_client r.base) (cond b (x ∷ filter (is_own r) xs) (filter (is_own r) xs))) (apart (addr_of x.0) (is_within_own s some x (h zero x (omega arith)))) ∙ own_none s r some xs apart (all_later (IsOf s) x xs h)

pub range_at : (w : Traffic) → IsTraffic w → (k : ℕ) (c : Client) → slice_get w.clients.items k ≡ Some c → slice_get w.ranges k ≡ Some (range_of c.sender)
range_at w h k c at = ap (λ rs. slice_get rs k) h.ranges_are ∙ get_map range_of (senders w) k c.sender (get_map (λ (x : Client). x.sender) w.clients.items k c at)

module _ (w w' : Traffic) (h : IsTraffic w) (k : ℕ) (came sent returned back : List Cargo) (m : OneMoved w w' k came sent returned back) where
  pub same_senders : senders w' ≡ senders w
  same_senders = ap (map (λ (x : Client). x.sender)) m.clients ∙ map-set_same (λ (x : Client). x.sender) w.clients.items k m.now m.was (m.moved.sender ∙ ap (λ (x : Client). x.sender) (sym (get_or_from_slice_get w.clients.items k m.was m.was m.there)))

  pub moved_traffic : IsTraffic w'
  moved_traffic = record {
    each = λ j d at. each_now j d (now_or_was w.clients.items w'.clients.items k m.was m.now m.there m.clients j d at (cases_eq k j));
    ranges_are = m.ranges ∙ (h.ranges_are ∙ ap (map range_of) (sym same_senders));
    apart = subst AreRanges (sym m.ranges) h.apart;
    few = subst (λ (ss : List Sender). sum_by (λ (s : Sender). s.buffers + 2) ss < 2 ^ 32) (sym same_senders) h.few;
  }
    where
      each_now : (j : ℕ) (d : Client) → ((k ≡ j) × (m.now ≡ d)) ⊎ ((k ≡ j → ⊥) × (slice_get w.clients.items j ≡ Some d)) → IsClient d
      each_now j d (inl e) = subst IsClient e.1 m.moved.work
      each_now j d (inr e) = h.each j d e.1

  someone : (x : Cargo) → IsSomeones w.clients.items x → IsSomeones w'.clients.items x
  someone x (j, d, at, of) = by_test (cases_eq k j)
    where
      by_test : (k ≡ j) ⊎ (k ≡ j → ⊥) → IsSomeones w'.clients.items x
      by_test (inl e) = (k, m.now, (now_there w.clients.items w'.clients.items k m.was m.now m.there m.clients), subst (λ (s : Sender). IsOf s x) (ap (λ (c : Client). c.sender) (some_eq (sym at ∙ (ap (slice_get w.clients.items) (sym e) ∙ m.there))) ∙ sym m.moved.sender) of)
      by_test (inr ne) = (j, d, ap (λ cs. slice_get cs j) m.clients ∙ (slice_get_beside w.clients.items k j m.now (λ e. ne (sym e)) ∙ at), of)

  pub moved_stands : (cs : ℕ → List Cargo) (ss rs : List Cargo) (bs : ℕ → List Cargo) → TrafficStands w cs ss rs bs → TrafficStands w' (with_more cs k came) (ss ++ sent) (rs ++ returned) (with_more bs k back)
  moved_stands cs ss rs bs s = record {
    clients = λ j d at. client_now j d (now_or_was w.clients.items w'.clients.items k m.was m.now m.there m.clients j d at (cases_eq k j));
    within = All-append (IsSomeones w'.clients.items) ss sent (λ n d l. someone (slice_index_or ss n d) (s.within n d l)) (λ n d l. (k, m.now, (now_there w.clients.items w'.clients.items k m.was m.now m.there m.clients), subst (λ (x : Sender). IsOf x (slice_index_or sent n d)) (sym m.moved.sender) (m.sent_own n d l)));
  }
    where
      own_now : (xs more : List Cargo) → All (IsOf m.was.sender) more → own_of m.now.sender (xs ++ more) ≡ own_of m.was.sender xs ++ map (to_client m.was.sender.base) more
      own_now xs more all = ap (λ (x : Sender). own_of x (xs ++ more)) m.moved.sender ∙ (own_append m.was.sender xs more ∙ ap (λ l. own_of m.was.sender xs ++ l) (own_all m.was.sender (h.each k m.was m.there).sized more all))

      own_other : (j : ℕ) (d : Client) → (k ≡ j → ⊥) → slice_get w.clients.items j ≡ Some d → (xs more : List Cargo) → All (IsOf m.was.sender) more → own_of d.sender (xs ++ more) ≡ own_of d.sender xs
      own_other j d ne at xs more all = own_append d.sender xs more ∙ (ap (λ l. own_of d.sender xs ++ l) (own_none m.was.sender d.sender (h.each k m.was m.there).sized more (h.apart.apart k j (range_of m.was.sender) (range_of d.sender) (range_at w h k m.was m.there) (range_at w h j d at) ne) all) ∙ append-nil (own_of d.sender xs))

      client_now : (j : ℕ) (d : Client) → ((k ≡ j) × (m.now ≡ d)) ⊎ ((k ≡ j → ⊥) × (slice_get w.clients.items j ≡ Some d)) → ClientStands d (with_more cs k came j) (own_of d.sender (ss ++ sent)) (own_of d.sender (rs ++ returned)) (with_more bs k back j)
      client_now j d (inl e) = subst (λ (y : Client). ClientStands y (with_more cs k came j) (own_of y.sender (ss ++ sent)) (own_of y.sender (rs ++ returned)) (with_more bs k back j)) e.1
          (same_lists m.now (cs k ++ came) (own_of m.was.sender ss ++ map (to_client m.was.sender.base) sent) (own_of m.was.sender rs ++ map (to_client m.was.sender.base) returned) (bs k ++ back) (with_more cs k came j) (own_of m.now.sender (ss ++ sent)) (own_of m.now.sender (rs ++ returned)) (with_more bs k back j)
          (there_more cs k j came e.0 ∙ ap (λ n. cs n ++ came) (sym e.0)) (own_now ss sent m.sent_own) (own_now rs returned m.returned_own) (there_more bs k j back e.0 ∙ ap (λ n. bs n ++ back) (sym e.0))
          (m.moved.stands (cs k) (own_of m.was.sender ss) (own_of m.was.sender rs) (bs k) (s.clients k m.was m.there)))
      client_now j d (inr e) =
          same_lists d (cs j) (own_of d.sender ss) (own_of d.sender rs) (bs j) (with_more cs k came j) (own_of d.sender (ss ++ sent)) (own_of d.sender (rs ++ returned)) (with_more bs k back j)
          (other_more cs k j came e.0) (own_other j d e.0 e.1 ss sent m.sent_own) (own_other j d e.0 e.1 rs returned m.returned_own) (other_more bs k j back e.0) (s.clients j d e.1)

  pub moved_held : (pool : PoolId) → carried pool (traffic_cargo w) + (carried pool came + carried pool returned) ≡ carried pool (traffic_cargo w') + (carried pool sent + carried pool back)
  moved_held pool =
      let a = cargo-append pool (flat_map client_cargo w.clients.items) (option_to_list w.stray) in
      let b = cargo-append pool (flat_map client_cargo w'.clients.items) (option_to_list w'.stray) in
      let e = ap (λ (o : Option Cargo). carried pool (option_to_list o)) m.stray in
      let f = ap (λ cs. carried pool (flat_map client_cargo cs)) m.clients in
      let g = cargo_set client_cargo pool w.clients.items k m.was m.now m.there in
      let n = m.moved.held pool in
      omega (arith, a, b, e, f, g, n)

-- what the clients were given and sent matters only at their places
pub as_lists : (w : Traffic) (cs : ℕ → List Cargo) (ss rs : List Cargo) (bs cs' bs' : ℕ → List Cargo) (ss' rs' : List Cargo) → ((k : ℕ) → k < length w.clients.items → cs' k ≡ cs k) → ss' ≡ ss → rs' ≡ rs → ((k : ℕ) → k < length w.clients.items → bs' k ≡ bs k) → TrafficStands w cs ss rs bs → TrafficStands w cs' ss' rs' bs'
as_lists w cs ss rs bs cs' bs' ss' rs' e f g i h = record {
  clients = λ k c at.
      let there = slice_get_within w.clients.items k c at in
      same_lists c (cs k) (own_of c.sender ss) (own_of c.sender rs) (bs k) (cs' k) (own_of c.sender ss') (own_of c.sender rs') (bs' k) (e k there) (ap (own_of c.sender) f) (ap (own_of c.sender) g) (i k there) (h.clients k c at);
  within = subst (λ l. All (IsSomeones w.clients.items) l) (sym f) h.within;
}
