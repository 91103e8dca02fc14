-- What the virtualiser stands for after each call.
use Rattle.std.proofs.Common.{◌/◌, ◌≡◌, ◌⊎◌, ◌+◌, ◌-◌, ◌*◌, ◌==◌, ◌<◌, ◌≤◌, ◌&&◌, ℕ, Bool, true, false, nat_le, nat_lt, cond, inl, inr, Option, Some, None, is_none, IsSome, List, [], ◌∷◌, ◌++◌, length, map, slice_get, slice_index_or, flat_map, refl, sym, ap, ◌∙◌, subst, add-zero, zero-add, eq-eqb, arith}
use Rattle.std.specs.List.{filter}
use Rattle.std.specs.Option.{option_to_list}
use Rattle.std.proofs.lemmas.Bool.{and_from, and_parts, le-leb, lt-ltb, cases_eq, leb-true}
use Rattle.std.proofs.lemmas.Option.{slice_get_within}
use Rattle.std.proofs.lemmas.List.{append-nil, length-map, length-set}
use Rattle.cargo_core.specs.declared.item.PoolId.{PoolId}
use Rattle.cargo_core.specs.declared.item.Item.{Item}
use Rattle.cargo_core.specs.declared.item.Item.TheVariants as ItemOf
use Rattle.cargo_core.specs.Bodies.{buffers_of}
use Rattle.wire_core.specs.declared.names.QueueId.{QueueId}
use Rattle.wire_core.specs.declared.names.Event.{Event}
use Rattle.wire_core.specs.Bells.{bit}
use Rattle.wire_core.specs.Deeds.{Cargo, given, put_of}
use Rattle.wire_core.specs.Lists.{Lists, Passed, with, if_there}
use Rattle.wire_core.proofs.Places.{if_there_here}
use Rattle.turn_kit.specs.Hands.{bodies_at}
use Rattle.turn_kit.specs.ManyEnds.{AreApart}
use Rattle.turn_kit.proofs.Holding.{cargo-append}
use Rattle.turn_kit.proofs.Offers.{get_map}
use Rattle.buffer_kit.specs.Entries.{addr_of}
use Rattle.buffer_kit.specs.declared.virt_ends.VirtEnds.{VirtEnds}
use Rattle.wire_core.specs.Ends.{Role, End}
use Rattle.buffer_kit.specs.Virtualising.{FitsVirt, SameVirt, from_queues, to_queues}
use Rattle.buffer_kit.proofs.Passing.{none_more, beside, count_more, first_more, later_more}
use Rattle.buffer_kit.proofs.ManyClients.{some_eq, nothing, none_if, queue_there, queue_is, at_client}
use Rattle.net_virt_tx.specs.declared.client.Client.{Client}
use Rattle.net_virt_tx.specs.declared.descriptors.Sender.{Sender}
use Rattle.net_virt_tx.specs.declared.traffic.Traffic.{Traffic}
use Rattle.net_virt_tx.specs.Descriptors.{to_client, with_addr}
use Rattle.net_virt_tx.specs.Queued.{returns_list}
use Rattle.net_virt_tx.specs.Serving.{is_good_of, is_own, own_of}
use Rattle.net_virt_tx.specs.Clients.{IsClient, ClientStands, at_address, buffer_at, carried, client_cargo, is_away, is_idle, is_marked, number_of}
use Rattle.net_virt_tx.specs.Traffics.{IsTraffic, IsSomeones, OneMoved, TookBack, TookIn, TrafficStands, senders, with_more}
use Rattle.net_virt_tx.specs.declared.NetVirtTx.{NetVirtTx}
use Rattle.net_virt_tx.specs.Sending.{FitsTx, TxStands, IsOutOfTurn, IsBackInTurn, IsDescriptorInTurn, queue_at}
use Rattle.net_virt_tx.proofs.Counting.{at_append, at_split, bit_same, bit_other, good_is, idle_parts, mark_true, where_at, ends_within, number_back}
use Rattle.net_virt_tx.proofs.Merging.{merge_at}
use Rattle.net_virt_tx.proofs.Serving.{as_lists, moved_traffic, moved_stands, moved_held, same_senders}

-- the same queues
pub moved : (e e' : VirtEnds) → SameVirt e e' → (w : Traffic) (passed : Passed) → TxStands e.input.queue.0 e.output.queue.0 (from_queues e) (to_queues e) w passed → TxStands e'.input.queue.0 e'.output.queue.0 (from_queues e') (to_queues e') w passed
moved e e' same w passed h =
    subst (λ (q : QueueId). TxStands q.0 e'.output.queue.0 (from_queues e') (to_queues e') w passed) (sym same.input)
    (subst (λ (q : QueueId). TxStands e.input.queue.0 q.0 (from_queues e') (to_queues e') w passed) (sym same.output)
    (subst (λ (qs : List QueueId). TxStands e.input.queue.0 e.output.queue.0 qs (to_queues e') w passed) (sym same.from_clients)
    (subst (λ (qs : List QueueId). TxStands e.input.queue.0 e.output.queue.0 (from_queues e) qs w passed) (sym same.to_clients) h)))

-- whatever was called
with_calls : (i o : ℕ) (f t : List QueueId) (w : Traffic) (passed : Passed) (calls : List Event) → TxStands i o f t w passed → TxStands i o f t w (record passed { calls = calls })
with_calls i o f t w passed calls h = record { work = h.work; from_each = h.from_each; to_each = h.to_each; turn = h.turn; place = h.place; taken = h.taken; stands = h.stands; stray = h.stray; alone = h.alone; balances = h.balances }

-- where nothing moved, all stays
pub still : (e e' : VirtEnds) → SameVirt e e' → (w : Traffic) (passed : Passed) (took put : Lists) (calls : List Event) → ((n : ℕ) → took n ≡ []) → ((n : ℕ) → put n ≡ []) → TxStands e.input.queue.0 e.output.queue.0 (from_queues e) (to_queues e) w passed → TxStands e'.input.queue.0 e'.output.queue.0 (from_queues e') (to_queues e') w (record { taken = with passed.taken took; sent = with passed.sent put; calls = calls })
still e e' same w passed took put calls takes puts h =
    moved e e' same w (record { taken = with passed.taken took; sent = with passed.sent put; calls = calls })
    (subst (λ (p : Passed). TxStands e.input.queue.0 e.output.queue.0 (from_queues e) (to_queues e) w p) (nothing passed took put calls takes puts) (with_calls e.input.queue.0 e.output.queue.0 (from_queues e) (to_queues e) w passed calls h))

pub stray_none : (b : Bool) (s : Option Cargo) → s ≡ None → if_there b (option_to_list s) ≡ []
stray_none b s e = ap (λ (o : Option Cargo). if_there b (option_to_list o)) e ∙ none_if b

-- a client was served further
module _ (i o : ℕ) (f t : List QueueId) (w w' : Traffic) (k : ℕ) (came sent returned back : List Cargo) (m : OneMoved w w' k came sent returned back) (none : w.stray ≡ None) (passed : Passed) (took put : Lists) (calls : List Event) (h : TxStands i o f t w passed) where
  abbrev after : Passed
  after = record { taken = with passed.taken took; sent = with passed.sent put; calls = calls }

  none' : w'.stray ≡ None
  none' = m.stray ∙ none

  turn_on : (n : ℕ) → passed.taken n ++ took n ≡ (h.turn n ++ took n) ++ if_there (h.place == n) (option_to_list w'.stray)
  turn_on n = ap (λ c. c ++ took n) (h.taken n ∙ (ap (λ c. h.turn n ++ c) (stray_none (h.place == n) w.stray none) ∙ append-nil (h.turn n))) ∙ (sym (append-nil (h.turn n ++ took n)) ∙ ap (λ c. (h.turn n ++ took n) ++ c) (sym (stray_none (h.place == n) w'.stray none')))

  no_such : (P : Cargo → Type 0) → (c : Cargo) → w'.stray ≡ Some c → P c
  no_such P c e = let no : None ≡ Some c = sym none' ∙ e in absurd cc

  as_many : length w'.clients.items ≡ length w.clients.items
  as_many = ap length m.clients ∙ length-set w.clients.items k m.now

  pub served : ((j : ℕ) → j < length w.clients.items → took (queue_at f j) ≡ if_there (k == j) came) → put o ≡ sent → took i ≡ returned → ((j : ℕ) → j < length w.clients.items → put (queue_at t j) ≡ if_there (k == j) back)
      → ((pool : PoolId) → buffers_of pool (bodies_at took (i ∷ map (λ q. q.0) f)) ≡ carried pool came + carried pool returned) → ((pool : PoolId) → buffers_of pool (bodies_at put (o ∷ map (λ q. q.0) t)) ≡ carried pool sent + carried pool back) → TxStands i o f t w' after
  served comes goes returns backs ins outs = record {
    work = moved_traffic w w' h.work k came sent returned back m;
    from_each = h.from_each ∙ sym as_many;
    to_each = h.to_each ∙ sym as_many;
    turn = with h.turn took;
    place = h.place;
    taken = turn_on;
    stands = as_lists w' (with_more (λ j. h.turn (queue_at f j)) k came) (passed.sent o ++ sent) (h.turn i ++ returned) (with_more (λ j. passed.sent (queue_at t j)) k back) (λ j. h.turn (queue_at f j) ++ took (queue_at f j)) (λ j. passed.sent (queue_at t j) ++ put (queue_at t j)) (passed.sent o ++ put o) (h.turn i ++ took i)
        (λ j there. ap (λ c. h.turn (queue_at f j) ++ c) (comes j (let l = as_many in omega (arith, l, there))))
        (ap (λ c. passed.sent o ++ c) goes)
        (ap (λ c. h.turn i ++ c) returns)
        (λ j there. ap (λ c. passed.sent (queue_at t j) ++ c) (backs j (let l = as_many in omega (arith, l, there))))
        (moved_stands w w' h.work k came sent returned back m (λ j. h.turn (queue_at f j)) (passed.sent o) (h.turn i) (λ j. passed.sent (queue_at t j)) h.stands);
    stray = no_such (IsOutOfTurn i o f t (senders w') (with h.turn took) (with passed.sent put) h.place);
    alone = λ j c x e at here. no_such (λ y. is_idle c ≡ true) x e;
    balances = λ pool.
        let was = h.balances pool in
        let a = count_more pool passed.taken took (i ∷ map (λ q. q.0) f) in
        let b = count_more pool passed.sent put (o ∷ map (λ q. q.0) t) in
        let now = moved_held w w' h.work k came sent returned back m pool in
        let c = ins pool in
        let d = outs pool in
        omega (arith, was, a, b, now, c, d);
  }

no_buffers : (pool : PoolId) → carried pool [] ≡ 0
no_buffers pool = refl

nothing_at : (pool : PoolId) (more : Lists) (ns : List ℕ) → ((n : ℕ) → more n ≡ []) → buffers_of pool (bodies_at more ns) ≡ 0
nothing_at pool more ns h = ap (λ (l : Lists). buffers_of pool (bodies_at l ns)) (λ i n. h n i) ∙ nowhere ns
  where
    nowhere : (ms : List ℕ) → buffers_of pool (bodies_at (λ n. []) ms) ≡ 0
    nowhere [] = refl
    nowhere (n ∷ ms) = nowhere ms

-- what moved at the queue of the driver moved at no client's
not_client : (n : ℕ) (qs : List QueueId) (more : Lists) (x : List Cargo) → ((k : ℕ) (q : QueueId) → slice_get qs k ≡ Some q → n ≡ q.0 → ⊥) → ((m : ℕ) → more m ≡ if_there (n == m) x) → (k j : ℕ) → j < length qs → more (queue_at qs j) ≡ if_there (k == j) []
not_client n qs more x apart h k j there = h (queue_at qs j) ∙ (beside n (queue_at qs j) x (apart j (slice_index_or qs j (record { 0 = 0 })) (queue_there qs j there)) ∙ sym (none_if (k == j)))

-- each of the four ways in which a client is served
module _ (i o : ℕ) (f t : List QueueId) (w w' : Traffic) (k : ℕ) (passed : Passed) (took put : Lists) (calls : List Event) (from_each : length f ≡ length w.clients.items) (to_each : length t ≡ length w.clients.items) (none : w.stray ≡ None) (h : TxStands i o f t w passed) where
  abbrev then : Passed
  then = record { taken = with passed.taken took; sent = with passed.sent put; calls = calls }

  -- a descriptor came in turn
  pub descriptor_in : (x : Cargo) → OneMoved w w' k (x ∷ []) [] [] [] → (q : QueueId) → slice_get f k ≡ Some q → AreApart f → (i ≡ q.0 → ⊥) → ((n : ℕ) → took n ≡ if_there (q.0 == n) (x ∷ [])) → ((n : ℕ) → put n ≡ []) → TxStands i o f t w' then
  descriptor_in x m q at apart ne takes puts = served i o f t w w' k (x ∷ []) [] [] [] m none passed took put calls h
      (λ j there. at_client f k q at apart took (x ∷ []) takes j (omega (arith, from_each, there)) (cases_eq k j))
      (puts o)
      (takes i ∙ beside q.0 i (x ∷ []) (λ e. ne (sym e)))
      (λ j there. puts (queue_at t j) ∙ sym (none_if (k == j)))
      (λ pool. later_more pool took (x ∷ []) i f k q at apart ne takes ∙ sym (add-zero (carried pool (x ∷ []))))
      (λ pool. nothing_at pool put (o ∷ map (λ q. q.0) t) puts)

  -- a buffer came back in turn
  pub buffer_in : (x : Cargo) → OneMoved w w' k [] [] (x ∷ []) [] → ((j : ℕ) (q : QueueId) → slice_get f j ≡ Some q → i ≡ q.0 → ⊥) → ((n : ℕ) → took n ≡ if_there (i == n) (x ∷ [])) → ((n : ℕ) → put n ≡ []) → TxStands i o f t w' then
  buffer_in x m apart takes puts = served i o f t w w' k [] [] (x ∷ []) [] m none passed took put calls h
      (λ j there. not_client i f took (x ∷ []) apart takes k j (omega (arith, from_each, there)))
      (puts o)
      (takes i ∙ if_there_here i (x ∷ []))
      (λ j there. puts (queue_at t j) ∙ sym (none_if (k == j)))
      (λ pool. first_more pool took (x ∷ []) i f apart takes ∙ sym (zero-add (carried pool (x ∷ []))))
      (λ pool. nothing_at pool put (o ∷ map (λ q. q.0) t) puts)

  -- a descriptor went to the driver
  pub descriptor_out : (p : List Cargo) → OneMoved w w' k [] p [] [] → ((j : ℕ) (q : QueueId) → slice_get t j ≡ Some q → o ≡ q.0 → ⊥) → ((n : ℕ) → took n ≡ []) → ((n : ℕ) → put n ≡ if_there (o == n) p) → TxStands i o f t w' then
  descriptor_out p m apart takes puts = served i o f t w w' k [] p [] [] m none passed took put calls h
      (λ j there. takes (queue_at f j) ∙ sym (none_if (k == j)))
      (puts o ∙ if_there_here o p)
      (takes i)
      (λ j there. not_client o t put p apart puts k j (omega (arith, to_each, there)))
      (λ pool. nothing_at pool took (i ∷ map (λ q. q.0) f) takes)
      (λ pool. first_more pool put p o t apart puts ∙ sym (add-zero (carried pool p)))

  -- an entry went back to the client
  pub entry_back : (p : List Cargo) → OneMoved w w' k [] [] [] p → (q : QueueId) → slice_get t k ≡ Some q → AreApart t → (o ≡ q.0 → ⊥) → ((n : ℕ) → took n ≡ []) → ((n : ℕ) → put n ≡ if_there (q.0 == n) p) → TxStands i o f t w' then
  entry_back p m q at apart ne takes puts = served i o f t w w' k [] [] [] p m none passed took put calls h
      (λ j there. takes (queue_at f j) ∙ sym (none_if (k == j)))
      (puts o ∙ beside q.0 o p (λ e. ne (sym e)))
      (takes i)
      (λ j there. at_client t k q at apart put p puts j (omega (arith, to_each, there)) (cases_eq k j))
      (λ pool. nothing_at pool took (i ∷ map (λ q. q.0) f) takes)
      (λ pool. later_more pool put p o t k q at apart ne puts ∙ sym (zero-add (carried pool p)))

-- an entry strayed
module _ (i o : ℕ) (f t : List QueueId) (w : Traffic) (x : Cargo) (passed : Passed) (took put : Lists) (calls : List Event) (place : ℕ) (h : TxStands i o f t w passed) (none : w.stray ≡ None)
    (takes : (n : ℕ) → took n ≡ if_there (place == n) (x ∷ [])) (puts : (n : ℕ) → put n ≡ []) where
  abbrev ws : Traffic
  ws = record w { stray = Some x }

  pub strays_work : IsTraffic ws
  strays_work = record { each = h.work.each; ranges_are = h.work.ranges_are; apart = h.work.apart; few = h.work.few }

  pub strays : IsOutOfTurn i o f t (senders w) h.turn passed.sent place x → ((k : ℕ) (c : Client) → slice_get w.clients.items k ≡ Some c → place ≡ queue_at f k → is_idle c ≡ true) → ((pool : PoolId) → buffers_of pool (bodies_at took (i ∷ map (λ q. q.0) f)) ≡ carried pool (x ∷ [])) → TxStands i o f t ws (record { taken = with passed.taken took; sent = with passed.sent put; calls = calls })
  strays out idle one = subst (λ (s : Lists). TxStands i o f t ws (record { taken = with passed.taken took; sent = s; calls = calls })) (sym (none_more passed.sent put puts)) (record {
    work = strays_work;
    from_each = h.from_each;
    to_each = h.to_each;
    turn = h.turn;
    place = place;
    taken = λ n. ap (λ c. c ++ took n) (h.taken n ∙ (ap (λ c. h.turn n ++ c) (stray_none (h.place == n) w.stray none) ∙ append-nil (h.turn n))) ∙ ap (λ c. h.turn n ++ c) (takes n);
    stands = record { clients = h.stands.clients; within = h.stands.within };
    stray = λ c e. subst (λ (y : Cargo). IsOutOfTurn i o f t (senders w) h.turn passed.sent place y) (some_eq e) out;
    alone = λ k c y e at here. idle k c at here;
    balances = λ pool.
        let was = h.balances pool in
        let a = count_more pool passed.taken took (i ∷ map (λ q. q.0) f) in
        let b = one pool in
        let now = cargo-append pool (flat_map client_cargo w.clients.items) (x ∷ []) in
        let then = cargo-append pool (flat_map client_cargo w.clients.items) (option_to_list w.stray) in
        let gone = ap (λ (s : Option Cargo). carried pool (option_to_list s)) none in
        omega (arith, was, a, b, now, then, gone);
  })

-- what is at a client's buffer is what is at its offset of what is the client's
pub own_at : (s : Sender) → 1 ≤ s.size → (b : ℕ) → b < s.buffers → (xs : List Cargo) → at_address (s.base + b * s.size) xs ≡ at_address (b * s.size) (own_of s xs)
own_at s some b low [] = refl
own_at s some b low (x ∷ xs) = by_own (own_at s some b low xs) (is_own s x) refl (cases_eq (addr_of x.0) (s.base + b * s.size))
  where
    offset : (item : Item) → s.base ≤ addr_of item → addr_of (with_addr (addr_of item - s.base) item) ≡ addr_of item - s.base
    offset (ItemOf.Net d) l = refl
    offset (ItemOf.Byte n) l = omega arith
    offset (ItemOf.Req r) l = omega arith
    offset (ItemOf.Resp r) l = omega arith

    own_here : addr_of x.0 ≡ s.base + b * s.size → is_own s x ≡ true
    own_here e = and_from (nat_le s.base (addr_of x.0)) (nat_lt (addr_of x.0) (s.base + s.buffers * s.size)) (le-leb s.base (addr_of x.0) (omega (arith, e))) (lt-ltb (addr_of x.0) (s.base + s.buffers * s.size) (let within = ends_within s.size b s.buffers low in omega (arith, e, some, within)))

    by_own : at_address (s.base + b * s.size) xs ≡ at_address (b * s.size) (own_of s xs) → (t : Bool) → is_own s x ≡ t → (addr_of x.0 ≡ s.base + b * s.size) ⊎ (addr_of x.0 ≡ s.base + b * s.size → ⊥) → at_address (s.base + b * s.size) (x ∷ xs) ≡ at_address (b * s.size) (map (to_client s.base) (cond (is_own s x) (x ∷ filter (is_own s) xs) (filter (is_own s) xs)))
    by_own r true own (inl e) =
        let one = bit_same (addr_of x.0) (s.base + b * s.size) e in
        let l = leb-true s.base (addr_of x.0) (and_parts (nat_le s.base (addr_of x.0)) (nat_lt (addr_of x.0) (s.base + s.buffers * s.size)) own).0 in
        let o = offset x.0 l in
        let two = bit_same (addr_of (to_client s.base x).0) (b * s.size) (omega (arith, o, e)) in
        let split = ap (λ c. at_address (b * s.size) (map (to_client s.base) (cond c (x ∷ filter (is_own s) xs) (filter (is_own s) xs)))) own in
        omega (arith, one, two, r, split)
    by_own r true own (inr ne) =
        let none = bit_other (addr_of x.0) (s.base + b * s.size) ne in
        let l = leb-true s.base (addr_of x.0) (and_parts (nat_le s.base (addr_of x.0)) (nat_lt (addr_of x.0) (s.base + s.buffers * s.size)) own).0 in
        let o = offset x.0 l in
        let two = bit_other (addr_of (to_client s.base x).0) (b * s.size) (λ e. ne (omega (arith, o, e, l))) in
        let split = ap (λ c. at_address (b * s.size) (map (to_client s.base) (cond c (x ∷ filter (is_own s) xs) (filter (is_own s) xs)))) own in
        omega (arith, none, two, r, split)
    by_own r false own (inl e) = let no : true ≡ false = sym (own_here e) ∙ own in absurd cc
    by_own r false own (inr ne) =
        let none = bit_other (addr_of x.0) (s.base + b * s.size) ne in
        let split = ap (λ c. at_address (b * s.size) (map (to_client s.base) (cond c (x ∷ filter (is_own s) xs) (filter (is_own s) xs)))) own in
        omega (arith, none, r, split)

-- a buffer of the client that went once more than it came back is away
away_here : (c : Client) → 1 ≤ c.sender.size → (a b : ℕ) → a ≡ c.sender.base + b * c.sender.size → is_marked c.away b ≡ true → is_away c a ≡ true
away_here c some a b e m =
    let off : a - c.sender.base ≡ b * c.sender.size = omega (arith, e) in
    let same : buffer_at c a ≡ b = ap (λ n. n / c.sender.size) off ∙ number_back c.sender.size b some in
    and_from (nat_le c.sender.base a) ((c.sender.base + buffer_at c a * c.sender.size == a) && is_marked c.away (buffer_at c a)) (le-leb c.sender.base a (omega (arith, e)))
    (and_from (c.sender.base + buffer_at c a * c.sender.size == a) (is_marked c.away (buffer_at c a)) (eq-eqb (c.sender.base + buffer_at c a * c.sender.size) a (ap (λ k. c.sender.base + k * c.sender.size) same ∙ sym e)) (ap (is_marked c.away) same ∙ m))

-- an entry that came back from the driver and is nobody's that is away is out of turn
pub back_stray : (w : Traffic) → IsTraffic w → (cs : ℕ → List Cargo) (ss rs : List Cargo) (bs : ℕ → List Cargo) → TrafficStands w cs ss rs bs → (x : Cargo) → ((k : ℕ) (c : Client) → slice_get w.clients.items k ≡ Some c → is_away c (addr_of x.0) ≡ false) → IsBackInTurn ss rs x → ⊥
back_stray w work cs ss rs bs s x off less = by_one (where_at (IsSomeones w.clients.items) (addr_of x.0) ss s.within (omega (arith, less)))
  where
    by_one : (y : Cargo) × IsSomeones w.clients.items y × (addr_of y.0 ≡ addr_of x.0) → ⊥
    by_one (y, (k, c, at, (b, low, is)), same) =
        let e : addr_of x.0 ≡ c.sender.base + b * c.sender.size = sym same ∙ is in
        let some = (work.each k c at).sized in
        let one = own_at c.sender some b low ss in
        let two = own_at c.sender some b low rs in
        let n = (s.clients k c at).counts b low in
        let p = ap (λ a. at_address a ss) e in
        let q = ap (λ a. at_address a rs) e in
        let m = mark_true (is_marked c.away b) (omega (arith, less, one, two, n, p, q)) in
        let yes = away_here c some (addr_of x.0) b e m in
        let no : true ≡ false = sym yes ∙ off k c at in
        absurd cc

-- a good descriptor whose buffer is inside is out of turn
pub descriptor_stray : (c : Client) → IsClient c → (came sent returned back : List Cargo) → ClientStands c came sent returned back → (x : Cargo) → is_idle c ≡ true → is_good_of c.sender x ≡ true → is_marked c.inside (number_of x.1) ≡ true → IsDescriptorInTurn c.sender came back x → ⊥
descriptor_stray c h came sent returned back s x idle good mark turn =
    let g = good_is c.sender x good in
    let n = number_of x.1 in
    let a = g.1 in
    let free = idle_parts c.leaving c.bad idle in
    let le = turn good in
    let p = ap (λ m. at_address m came) a in
    let q = ap (λ m. at_address m back) a in
    let split = at_split (n * c.sender.size) (is_good_of c.sender) came in
    let sends = ap (at_address (n * c.sender.size)) s.sends in
    let sends' = at_append (n * c.sender.size) sent (map (to_client c.sender.base) (option_to_list c.leaving)) in
    let none = ap (λ (l : Option Cargo). at_address (n * c.sender.size) (map (to_client c.sender.base) (option_to_list l))) free.0 in
    let counts = s.counts n g.0 in
    let rets = ap (at_address (n * c.sender.size)) s.rets_are in
    let rets' = at_append (n * c.sender.size) s.rets (returns_list c.returns) in
    let bads = ap (at_address (n * c.sender.size)) s.bads_are in
    let bads' = at_append (n * c.sender.size) s.bads (option_to_list c.bad) in
    let good_none = ap (λ (l : Option Cargo). at_address (n * c.sender.size) (option_to_list l)) free.1 in
    let merge = merge_at (n * c.sender.size) s.bads s.rets back s.merged in
    let marks = h.marks n g.0 in
    let leaves = ap (λ (l : Option Cargo). at_address (c.sender.base + n * c.sender.size) (option_to_list l)) free.0 in
    let one = ap bit mark in
    omega (arith, le, p, q, split, sends, sends', none, counts, rets, rets', bads, bads', good_none, merge, marks, leaves, one)

-- an entry came back from the driver, in turn or out of it
pub tx_back : (i o : ℕ) (f t : List QueueId) (w w' : Traffic) (x : Cargo) (passed : Passed) (took put : Lists) (calls : List Event) → length f ≡ length w.clients.items → length t ≡ length w.clients.items → w.stray ≡ None → TxStands i o f t w passed → TookBack w w' x → ((j : ℕ) (q : QueueId) → slice_get f j ≡ Some q → i ≡ q.0 → ⊥)
    → ((n : ℕ) → took n ≡ if_there (i == n) (x ∷ [])) → ((n : ℕ) → put n ≡ []) → TxStands i o f t w' (record { taken = with passed.taken took; sent = with passed.sent put; calls = calls })
tx_back i o f t w w' x passed took put calls from_each to_each none h (inl (k, m)) apart takes puts = buffer_in i o f t w w' k passed took put calls from_each to_each none h x m apart takes puts
tx_back i o f t w w' x passed took put calls from_each to_each none h (inr (off, is)) apart takes puts =
    subst (λ (v : Traffic). TxStands i o f t v (record { taken = with passed.taken took; sent = with passed.sent put; calls = calls })) (sym is)
    (strays i o f t w x passed took put calls i h none takes puts (inl (refl, back_stray w h.work (λ k. h.turn (queue_at f k)) (passed.sent o) (h.turn i) (λ k. passed.sent (queue_at t k)) h.stands x off)) (λ k c there here. absurd (apart k (slice_index_or f k (record { 0 = 0 })) (queue_there f k (let l = slice_get_within w.clients.items k c there in omega (arith, l, from_each))) here)) (λ pool. first_more pool took (x ∷ []) i f apart takes))

-- a descriptor came from a client, in turn or out of it
pub tx_in : (i o : ℕ) (f t : List QueueId) (w w' : Traffic) (k : ℕ) (q : QueueId) (x : Cargo) (passed : Passed) (took put : Lists) (calls : List Event) → length f ≡ length w.clients.items → length t ≡ length w.clients.items → w.stray ≡ None → TxStands i o f t w passed → TookIn w w' k x → slice_get f k ≡ Some q → AreApart f → (i ≡ q.0 → ⊥)
    → ((n : ℕ) → took n ≡ if_there (q.0 == n) (x ∷ [])) → ((n : ℕ) → put n ≡ []) → TxStands i o f t w' (record { taken = with passed.taken took; sent = with passed.sent put; calls = calls })
tx_in i o f t w w' k q x passed took put calls from_each to_each none h (inl m) at apart ne takes puts = descriptor_in i o f t w w' k passed took put calls from_each to_each none h x m q at apart ne takes puts
tx_in i o f t w w' k q x passed took put calls from_each to_each none h (inr ((c, there, idle, good, mark), is)) at apart ne takes puts =
    let place : q.0 ≡ queue_at f k = sym (queue_is f k q at) in
    subst (λ (v : Traffic). TxStands i o f t v (record { taken = with passed.taken took; sent = with passed.sent put; calls = calls })) (sym is)
    (strays i o f t w x passed took put calls q.0 h none takes puts
    (inr (k, c.sender, get_map (λ (y : Client). y.sender) w.clients.items k c there, place, λ b. descriptor_stray c (h.work.each k c there) (h.turn (queue_at f k)) (own_of c.sender (passed.sent o)) (own_of c.sender (h.turn i)) (passed.sent (queue_at t k)) (h.stands.clients k c there) x idle good mark (subst (λ n. IsDescriptorInTurn c.sender (h.turn n) (passed.sent (queue_at t k)) x) place b)))
    (λ j d is_there here.
    let l = slice_get_within w.clients.items j d is_there in
    let same : k ≡ j = apart k j q (slice_index_or f j (record { 0 = 0 })) at (queue_there f j (omega (arith, l, from_each))) here in
    subst (λ (y : Client). is_idle y ≡ true) (some_eq (sym there ∙ (ap (slice_get w.clients.items) same ∙ is_there))) idle)
    (λ pool. later_more pool took (x ∷ []) i f k q at apart ne takes))

given_none : (item : Option Item) → given item None ≡ None
given_none None = refl
given_none (Some item) = refl

-- nothing is put where nothing is loaded
pub puts_none : (e : Event) (n m : ℕ) → if_there (n == m) (option_to_list (put_of e None)) ≡ []
puts_none e n m = ap (λ (s : Option Cargo). if_there (n == m) (option_to_list s)) (given_none e.item) ∙ none_if (n == m)

pub is_there : (o : Option Cargo) (x : Cargo) → o ≡ Some x → IsSome o
is_there None x e = absurd cc
is_there (Some y) x e = refl

pub free_none : (s : Option Cargo) → is_none s ≡ true → s ≡ None
free_none None e = refl
free_none (Some x) e = absurd cc

-- what it keeps fits together after a client was served further, or an entry strayed
abbrev pub Keeps : Traffic → Traffic → Type 0
Keeps w w' = IsTraffic w' × (senders w' ≡ senders w)

pub one_keeps : (w w' : Traffic) → IsTraffic w → (k : ℕ) (came sent returned back : List Cargo) → OneMoved w w' k came sent returned back → Keeps w w'
one_keeps w w' h k came sent returned back m = (moved_traffic w w' h k came sent returned back m, same_senders w w' h k came sent returned back m)

stray_keeps : (w w' : Traffic) → IsTraffic w → (x : Cargo) → w' ≡ record w { stray = Some x } → Keeps w w'
stray_keeps w w' h x is = subst (λ v. Keeps w v) (sym is) (record { each = h.each; ranges_are = h.ranges_are; apart = h.apart; few = h.few }, refl)

pub back_keeps : (w w' : Traffic) → IsTraffic w → (x : Cargo) → TookBack w w' x → Keeps w w'
back_keeps w w' h x (inl (k, m)) = one_keeps w w' h k [] [] (x ∷ []) [] m
back_keeps w w' h x (inr (off, is)) = stray_keeps w w' h x is

pub in_keeps : (w w' : Traffic) → IsTraffic w → (k : ℕ) (x : Cargo) → TookIn w w' k x → Keeps w w'
in_keeps w w' h k x (inl m) = one_keeps w w' h k (x ∷ []) [] [] [] m
in_keeps w w' h k x (inr (again, is)) = stray_keeps w w' h x is

as_many_clients : (w w' : Traffic) → senders w' ≡ senders w → length w'.clients.items ≡ length w.clients.items
as_many_clients w w' e =
    let a = length-map w.clients.items (λ (c : Client). c.sender) in
    let b = length-map w'.clients.items (λ (c : Client). c.sender) in
    let l = ap length e in
    omega (arith, a, b, l)

pub fits_on : (ends ends' : Role → ℕ → End) (v : NetVirtTx) (e : VirtEnds) (w : Traffic) → FitsTx ends v → FitsVirt ends' e → SameVirt v.ends e → Keeps v.work w → FitsTx ends' (record { ends = e; work = w })
fits_on ends ends' v e w h fits same keeps =
    let many = as_many_clients v.work w keeps.1 in
    record {
      ends_fit = fits;
      work = keeps.0;
      from_each = ap length same.from_clients ∙ (h.from_each ∙ sym many);
      to_each = ap length same.to_clients ∙ (h.to_each ∙ sym many);
    }
