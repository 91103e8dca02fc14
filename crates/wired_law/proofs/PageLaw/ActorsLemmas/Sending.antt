-- What the sending virtualiser stands for conserves buffers one by one.
use Rattle.std.proofs.Common.{◌≡◌, ◌⊎◌, ◌+◌, ◌==◌, ◌<◌, ◌≤◌, ℕ, zero, suc, Bool, true, false, Option, Some, None, List, [], ◌∷◌, ◌++◌, All, length, map, flat_map, refl, sym, ap, ◌∙◌, subst, arith, inl, inr, eq-eqb}
use Rattle.std.specs.Option.{option_to_list}
use Rattle.std.proofs.lemmas.List.{length-map}
use Rattle.std.proofs.lemmas.Option.{slice_get_within}
use Rattle.cargo_core.specs.declared.item.Body.{Body}
use Rattle.cargo_core.specs.Ranges.{AreRanges}
use lib.ListN.{get_or}
use Rattle.wire_core.specs.declared.names.QueueId.{QueueId}
use Rattle.wire_core.specs.Deeds.{Cargo}
use Rattle.wire_core.specs.Lists.{Lists, Passed, if_there}
use Rattle.turn_kit.specs.Hands.{bodies_of, bodies_at}
use Rattle.turn_kit.proofs.Offers.{get_map}
use Rattle.play_core.proofs.Lists.{map_from}
use Rattle.net_virt_tx.specs.declared.client.Client.{Client}
use Rattle.net_virt_tx.specs.declared.descriptors.Sender.{Sender}
use Rattle.net_virt_tx.specs.declared.traffic.Traffic.{Traffic}
use Rattle.net_virt_tx.specs.Clients.{client_cargo, range_of}
use Rattle.net_virt_tx.specs.Traffics.{IsSomeones, senders, traffic_hand}
use Rattle.net_virt_tx.specs.Sending.{TxStands, IsAnyones, IsOutOfTurn, queue_at}
use Rattle.net_virt_tx.proofs.Splitting.{AreSized, split}
use Rattle.buffer_kit.specs.Conserving.{Count, counted, Conserves, weighed}
use Rattle.buffer_kit.proofs.Conserving.{weighed-append, weighed-merge, all_weighed, counted-append, counted-at, conserved}
use Rattle.wired_law.proofs.PageLaw.ActorsLemmas.Serving.{all_flow, apart_of, shares, nobodys, owned, owned_weights}

-- a queue is among these
abbrev pub IsAmong : ℕ → List ℕ → Type 0
IsAmong n [] = ⊥
IsAmong n (m ∷ ms) = (n ≡ m) ⊎ IsAmong n ms

-- an entry that was taken at one queue alone
abbrev pub strays : ℕ → List Cargo → Lists
strays place x n = if_there (place == n) x

-- what these queues have of it beside one of it
pub record Beside (place : ℕ) (x : List Cargo) (ns : List ℕ) : Type 0 where
  pub more : List Body
  pub is : (f : Count) → counted f (bodies_at (strays place x) ns) ≡ weighed f x + counted f more

pub beside : (place : ℕ) (x : List Cargo) (ns : List ℕ) → IsAmong place ns → Beside place x ns
beside place x [] none = elim none [ ]
beside place x (n ∷ ns) (inl same) = record {
  more = bodies_at (strays place x) ns;
  is = λ f. counted-at f (strays place x) n ns ∙ ap (λ b. weighed f (if_there b x) + counted f (bodies_at (strays place x) ns)) (eq-eqb place n same);
}
beside place x (n ∷ ns) (inr later) =
    let r = beside place x ns later in
    record {
      more = bodies_of (strays place x n) ++ r.more;
      is = λ f.
          let a = counted-at f (strays place x) n ns in
          let b = counted-append f (bodies_of (strays place x n)) r.more in
          omega (arith, a, b, r.is f);
    }

-- where nothing strayed, no queue has any
pub none_strayed : (place : ℕ) (ns : List ℕ) → (f : Count) → counted f (bodies_at (strays place []) ns) ≡ 0
none_strayed place [] f = refl
none_strayed place (n ∷ ns) f = counted-at f (strays place []) n ns ∙ omega (arith, ap (weighed f) (none_if (place == n)), none_strayed place ns f)
  where
    none_if : (b : Bool) → if_there b [] ≡ []
    none_if true = refl
    none_if false = refl

-- what was taken is what came in turn and what strayed
pub taken_parts : (f : Count) (turn taken : Lists) (place : ℕ) (x : List Cargo) → ((n : ℕ) → taken n ≡ turn n ++ if_there (place == n) x) → (ns : List ℕ) → counted f (bodies_at taken ns) ≡ counted f (bodies_at turn ns) + counted f (bodies_at (strays place x) ns)
taken_parts f turn taken place x h [] = refl
taken_parts f turn taken place x h (n ∷ ns) =
    let a = counted-at f taken n ns in
    let b = counted-at f turn n ns in
    let c = counted-at f (strays place x) n ns in
    let d = ap (weighed f) (h n) ∙ weighed-append f (turn n) (if_there (place == n) x) in
    omega (arith, a, b, c, d, taken_parts f turn taken place x h ns)

-- the queue of a client is among them
pub among_at : (qs : List QueueId) (k : ℕ) → k < length qs → IsAmong (queue_at qs k) (map (λ (q : QueueId). q.0) qs)
among_at [] k there = absurd (omega (arith, there))
among_at (q ∷ qs) zero there = inl refl
among_at (q ∷ qs) (suc k) there = inr (among_at qs k (omega (arith, there)))

module _ (i o : ℕ) (fs ts : List QueueId) (w : Traffic) (passed : Passed) (h : TxStands i o fs ts w passed) where
  abbrev ss : List Sender
  ss = senders w

  apart_ranges : AreRanges (map range_of ss)
  apart_ranges = subst AreRanges h.work.ranges_are h.work.apart

  -- what was sent is in the ranges
  within : All (IsAnyones ss) (passed.sent o)
  within = λ k d l. by (get_or (passed.sent o) k d) (h.stands.within k d l)
    where
      by : (x : Cargo) → IsSomeones w.clients.items x → IsAnyones ss x
      by x (k, c, at, of) = (k, c.sender, get_map (λ (c : Client). c.sender) w.clients.items k c at, of)

  sized : AreSized ss
  sized k s at =
      let c = map_from (λ (x : Client). x.sender) w.clients.items k s at in
      subst (λ (x : Sender). 1 ≤ x.size) c.2 (h.work.each k c.0 c.1).sized

  sent_is : (f : Count) → weighed f (passed.sent o) ≡ all_weighed f (map (owned (passed.sent o)) ss)
  sent_is f = weighed-merge f (map (owned (passed.sent o)) ss) (passed.sent o) (split ss sized apart_ranges (passed.sent o) within)

  -- an entry that strayed was taken at one of its queues
  stray_there : (c : Cargo) → w.stray ≡ Some c → IsAmong h.place (i ∷ map (λ (q : QueueId). q.0) fs)
  stray_there c is = by (h.stray c is)
    where
      by : IsOutOfTurn i o fs ts ss h.turn passed.sent h.place c → IsAmong h.place (i ∷ map (λ (q : QueueId). q.0) fs)
      by (inl e) = inl e.0
      by (inr (k, s, at, place, out)) =
          let there = slice_get_within ss k s at in
          let many = length-map w.clients.items (λ (c : Client). c.sender) in
          inr (subst (λ n. IsAmong n (map (λ (q : QueueId). q.0) fs)) (sym place) (among_at fs k (omega (arith, there, many, h.from_each))))

  pub record Stray : Type 0 where
    pub more : List Body
    pub is : (f : Count) → counted f (bodies_at (strays h.place (option_to_list w.stray)) (i ∷ map (λ (q : QueueId). q.0) fs)) ≡ weighed f (option_to_list w.stray) + counted f more

  strayed : (s : Option Cargo) → w.stray ≡ s → Stray
  strayed None is = record {
    more = [];
    is = λ f. ap (λ (x : Option Cargo). counted f (bodies_at (strays h.place (option_to_list x)) (i ∷ map (λ (q : QueueId). q.0) fs))) is ∙ (none_strayed h.place (i ∷ map (λ (q : QueueId). q.0) fs) f ∙ ap (λ (x : Option Cargo). weighed f (option_to_list x) + 0) (sym is));
  }
  strayed (Some c) is = let b = beside h.place (option_to_list w.stray) (i ∷ map (λ (q : QueueId). q.0) fs) (stray_there c is) in record { more = b.more; is = b.is }

  pub sender_conserves : Conserves [] (bodies_at passed.taken (i ∷ map (λ (q : QueueId). q.0) fs)) (bodies_at passed.sent (o ∷ map (λ (q : QueueId). q.0) ts)) (traffic_hand w) []
  sender_conserves =
      let s = strayed w.stray refl in
      conserved [] (bodies_at passed.taken (i ∷ map (λ (q : QueueId). q.0) fs)) (bodies_at passed.sent (o ∷ map (λ (q : QueueId). q.0) ts)) (traffic_hand w) [] (bodies_of (nobodys ss (h.turn i)) ++ s.more) h.balances (λ f.
      let flow = all_flow f w.clients.items fs ts h.turn passed.sent (passed.sent o) (h.turn i) h.from_each h.to_each h.stands.clients in
      let sent = sent_is f in
      let back = shares f ss (apart_of ss apart_ranges) (h.turn i) in
      let own_sent = owned_weights f (passed.sent o) w.clients.items in
      let own_back = owned_weights f (h.turn i) w.clients.items in
      let taken = taken_parts f h.turn passed.taken h.place (option_to_list w.stray) h.taken (i ∷ map (λ (q : QueueId). q.0) fs) in
      let came = counted-at f h.turn i (map (λ (q : QueueId). q.0) fs) in
      let went = counted-at f passed.sent o (map (λ (q : QueueId). q.0) ts) in
      let hand = weighed-append f (flat_map client_cargo w.clients.items) (option_to_list w.stray) in
      let more = counted-append f (bodies_of (nobodys ss (h.turn i))) s.more in
      omega (arith, flow, sent, back, own_sent, own_back, taken, came, went, hand, more, s.is f))
