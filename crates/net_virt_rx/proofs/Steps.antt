-- What the virtualiser stands for after each call.
use Rattle.std.proofs.Common.{◌≡◌, ◌⊎◌, ◌+◌, ◌*◌, ◌-◌, ◌/◌, ◌==◌, ◌<◌, ◌^◌, ◌&&◌, ℕ, zero, suc, Bool, true, false, nat_lt, not, inl, inr, Option, Some, None, is_some, is_none, IsSome, List, [], ◌∷◌, ◌++◌, length, map, reverse, slice_get, slice_set, slice_index_or, refl, sym, ap, ◌∙◌, subst, append_assoc, eq-eqb, ne_eqb, arith}
use Rattle.std.specs.Option.{option_to_list}
use Rattle.std.proofs.Math.Nat.{mul-div_cancel}
use Rattle.std.proofs.lemmas.Bool.{and_from, lt-ltb, cases_eq}
use Rattle.std.proofs.lemmas.Option.{slice_get-get_or, slice_get_within, get_or_from_slice_get}
use Rattle.std.proofs.lemmas.List.{append-nil, length-append, length-map, length-reverse, length-set, get_or-set_other}
use Rattle.cargo_core.specs.declared.item.PoolId.{PoolId}
use Rattle.cargo_core.specs.declared.item.Item.{Item}
use Rattle.cargo_core.specs.declared.item.Body.TheVariants as Carried
use Rattle.cargo_core.specs.Bodies.{buffers_of, buffers_in}
use Rattle.cargo_core.specs.Loans.{Loan, receivers_at}
use Rattle.cargo_core.specs.Pages.{Paged}
use Rattle.frame_core.specs.declared.mac.Mac.{Mac}
use Rattle.wire_core.specs.declared.names.QueueId.{QueueId}
use Rattle.wire_core.specs.Bells.{bit}
use Rattle.wire_core.specs.declared.names.Event.{Event}
use Rattle.wire_core.specs.Deeds.{Cargo, given, put_of}
use Rattle.wire_core.specs.Lists.{Lists, Passed, with, if_there}
use Rattle.wire_core.proofs.Places.{if_there_here}
use Rattle.turn_kit.specs.Hands.{bodies_of, bodies_at}
use Rattle.turn_kit.specs.ManyEnds.{AreApart}
use Rattle.turn_kit.proofs.Holding.{buffers-append, cargo-cons, cargo-append}
use Rattle.buffer_kit.specs.Entries.{addr_of}
use Rattle.buffer_kit.specs.Pools.{given_entry, page_bodies}
use Rattle.buffer_kit.specs.Stocks.{IsStock, IsStart, SameStock, stock_list, stock_hand}
use Rattle.buffer_kit.specs.declared.stock.Stock.{Stock}
use Rattle.buffer_kit.specs.declared.virt_ends.VirtEnds.{VirtEnds}
use Rattle.buffer_kit.specs.Virtualising.{SameVirt, from_queues, to_queues}
use Rattle.buffer_kit.proofs.Counts.{stock_count}
use Rattle.buffer_kit.proofs.Passing.{none_more, beside, count_more, first_more, later_more}
use Rattle.net_virt_rx.specs.declared.sharer.Sharer.{Sharer}
use Rattle.net_virt_rx.specs.Sharing.{IsSharer, SameSharer, SharerStands, ClientStands, IsFrameInTurn, IsLeaseInTurn, named, is_back, is_returned, is_due_back, returned, IsDueBack, is_out, is_idle, is_owing, how_many, owed_to, owed_lease, sharer_hand, sharer_bodies, lent_bodies, with_more}
use Rattle.net_virt_rx.specs.Receiving.{RxStands, IsOutOfTurn, queue_at}
use Rattle.net_virt_rx.proofs.Marking.{one_less}
use Rattle.net_virt_rx.proofs.Standing.{as_lists, gives}
use Rattle.net_virt_rx.proofs.Working.{no_stray, no_list}

some_eq : {X : Type 0} {a b : X} → Some a ≡ Some b → a ≡ b
some_eq h = cc

-- the same queues
pub moved : (e e' : VirtEnds) → SameVirt e e' → (w : Sharer) (passed : Passed) → RxStands e.input.queue.0 e.output.queue.0 (from_queues e) (to_queues e) w passed → RxStands e'.input.queue.0 e'.output.queue.0 (from_queues e') (to_queues e') w passed
moved e e' same w passed h =
    subst (λ (q : QueueId). RxStands q.0 e'.output.queue.0 (from_queues e') (to_queues e') w passed) (sym same.input)
    (subst (λ (q : QueueId). RxStands e.input.queue.0 q.0 (from_queues e') (to_queues e') w passed) (sym same.output)
    (subst (λ (qs : List QueueId). RxStands e.input.queue.0 e.output.queue.0 qs (to_queues e') w passed) (sym same.from_clients)
    (subst (λ (qs : List QueueId). RxStands e.input.queue.0 e.output.queue.0 (from_queues e) qs w passed) (sym same.to_clients) h)))

-- the lists stay
lists_stay : (passed : Passed) (took put : Lists) (calls : List Event) → ((n : ℕ) → took n ≡ []) → ((n : ℕ) → put n ≡ []) → record passed { calls = calls } ≡ record { taken = with passed.taken took; sent = with passed.sent put; calls = calls }
lists_stay passed took put calls takes puts = sym (λ j. record { taken = none_more passed.taken took takes j; sent = none_more passed.sent put puts j; calls = calls })

-- whatever was called
with_calls : (i o : ℕ) (f t : List QueueId) (w : Sharer) (passed : Passed) (calls : List Event) → RxStands i o f t w passed → RxStands i o f t w (record passed { calls = calls })
with_calls i o f t w passed calls h = record { work = h.work; start = h.start; is_start = h.is_start; turn = h.turn; place = h.place; taken = h.taken; stands = h.stands; stray = h.stray; balances = h.balances }

-- where nothing moved, all stays
pub still : (e e' : VirtEnds) → SameVirt e e' → (w w' : Sharer) → w' ≡ w → (passed : Passed) (took put : Lists) (calls : List Event) → ((n : ℕ) → took n ≡ []) → ((n : ℕ) → put n ≡ []) → RxStands e.input.queue.0 e.output.queue.0 (from_queues e) (to_queues e) w passed → RxStands e'.input.queue.0 e'.output.queue.0 (from_queues e') (to_queues e') w' (record { taken = with passed.taken took; sent = with passed.sent put; calls = calls })
still e e' same w w' is passed took put calls takes puts h =
    moved e e' same w' (record { taken = with passed.taken took; sent = with passed.sent put; calls = calls })
    (subst (λ (v : Sharer). RxStands e.input.queue.0 e.output.queue.0 (from_queues e) (to_queues e) v (record { taken = with passed.taken took; sent = with passed.sent put; calls = calls })) (sym is)
    (subst (λ (p : Passed). RxStands e.input.queue.0 e.output.queue.0 (from_queues e) (to_queues e) w p) (lists_stay passed took put calls takes puts) (with_calls e.input.queue.0 e.output.queue.0 (from_queues e) (to_queues e) w passed calls h)))

pub none_if : (b : Bool) → if_there b [] ≡ []
none_if true = refl
none_if false = refl

stray_none : (b : Bool) (s : Option Cargo) → s ≡ None → if_there b (option_to_list s) ≡ []
stray_none b s e = ap (λ (o : Option Cargo). if_there b (option_to_list o)) e ∙ none_if b

-- the queue of a client that is there
queue_there : (qs : List QueueId) (k : ℕ) → k < length qs → slice_get qs k ≡ Some (slice_index_or qs k (record { 0 = 0 }))
queue_there qs k there = slice_get-get_or qs k (record { 0 = 0 }) there

pub queue_is : (qs : List QueueId) (k : ℕ) (q : QueueId) → slice_get qs k ≡ Some q → queue_at qs k ≡ q.0
queue_is qs k q at = ap (λ (r : QueueId). r.0) (get_or_from_slice_get qs k q (record { 0 = 0 }) at)

-- what moved at the queue of client k moved at no other client's
at_client : (qs : List QueueId) (k : ℕ) (q : QueueId) → slice_get qs k ≡ Some q → AreApart qs → (more : Lists) (x : List Cargo) → ((n : ℕ) → more n ≡ if_there (q.0 == n) x) → (j : ℕ) → j < length qs → (k ≡ j) ⊎ (k ≡ j → ⊥) → more (queue_at qs j) ≡ if_there (k == j) x
at_client qs k q at apart more x h j there (inl e) =
    ap more (ap (queue_at qs) (sym e) ∙ queue_is qs k q at) ∙ (h q.0 ∙ (if_there_here q.0 x ∙ sym (ap (λ b. if_there b x) (eq-eqb k j e))))
at_client qs k q at apart more x h j there (inr ne) =
    h (queue_at qs j) ∙ (beside q.0 (queue_at qs j) x (λ e. ne (apart k j q (slice_index_or qs j (record { 0 = 0 })) at (queue_there qs j there) e)) ∙ sym (ap (λ b. if_there b x) (ne_eqb k j ne)))

same_start : (w w' : Sharer) → SameSharer w w' → (start : List Paged) → IsStart w.stock start → IsStart w'.stock start
same_start w w' same start h = record { are_pool = rw (same.stock.base, same.stock.same_pool, same.stock.size) h.are_pool; many = h.many ∙ sym same.stock.buffers }

-- an entry more came, and is in its hand or lent
balance_in : (pool : PoolId) (start : ℕ) (taken took sent put : Lists) (came went : List ℕ) (w w' : Sharer) (x : Cargo) → ((n : ℕ) → put n ≡ []) → buffers_of pool (bodies_at took came) ≡ buffers_of pool (bodies_of (x ∷ []))
    → buffers_of pool (sharer_bodies w') ≡ buffers_of pool (sharer_bodies w) + buffers_in pool x.1 → start + buffers_of pool (bodies_at taken came) ≡ buffers_of pool (bodies_at sent went) + (buffers_of pool (sharer_hand w) + buffers_of pool (lent_bodies w.lent))
    → start + buffers_of pool (bodies_at (with taken took) came) ≡ buffers_of pool (bodies_at (with sent put) went) + (buffers_of pool (sharer_hand w') + buffers_of pool (lent_bodies w'.lent))
balance_in pool start taken took sent put came went w w' x puts one held was =
    let more = count_more pool taken took came in
    let same = ap (λ (l : Lists). buffers_of pool (bodies_at l went)) (none_more sent put puts) in
    let now = buffers-append pool (sharer_hand w') (lent_bodies w'.lent) in
    let then = buffers-append pool (sharer_hand w) (lent_bodies w.lent) in
    let body = cargo-cons pool x [] in
    omega (arith, more, same, now, then, body, one, held, was)

-- an entry more went, which was in its hand
balance_out : (pool : PoolId) (start : ℕ) (taken took sent put : Lists) (came went : List ℕ) (w w' : Sharer) (p : List Cargo) → ((n : ℕ) → took n ≡ []) → buffers_of pool (bodies_at put went) ≡ buffers_of pool (bodies_of p)
    → buffers_of pool (sharer_hand w) ≡ buffers_of pool (bodies_of p) + buffers_of pool (sharer_hand w') → w'.lent ≡ w.lent → start + buffers_of pool (bodies_at taken came) ≡ buffers_of pool (bodies_at sent went) + (buffers_of pool (sharer_hand w) + buffers_of pool (lent_bodies w.lent))
    → start + buffers_of pool (bodies_at (with taken took) came) ≡ buffers_of pool (bodies_at (with sent put) went) + (buffers_of pool (sharer_hand w') + buffers_of pool (lent_bodies w'.lent))
balance_out pool start taken took sent put came went w w' p takes one hand lent was =
    let more = count_more pool sent put went in
    let same = ap (λ (l : Lists). buffers_of pool (bodies_at l came)) (none_more taken took takes) in
    let kept = ap (λ (l : List (Option Loan)). buffers_of pool (lent_bodies l)) lent in
    omega (arith, more, same, kept, one, hand, was)

module _ (i o : ℕ) (f t : List QueueId) (w w' : Sharer) (same : SameSharer w w') (fits : IsSharer w') (passed : Passed) (took put : Lists) (calls : List Event) (h : RxStands i o f t w passed) where
  abbrev after : Passed
  after = record { taken = with passed.taken took; sent = with passed.sent put; calls = calls }

  turn_on : w.stray ≡ None → w'.stray ≡ None → (n : ℕ) → passed.taken n ++ took n ≡ (h.turn n ++ took n) ++ if_there (h.place == n) (option_to_list w'.stray)
  turn_on none none' n = ap (λ c. c ++ took n) (h.taken n ∙ (ap (λ c. h.turn n ++ c) (stray_none (h.place == n) w.stray none) ∙ append-nil (h.turn n))) ∙ (sym (append-nil (h.turn n ++ took n)) ∙ ap (λ c. (h.turn n ++ took n) ++ c) (sym (stray_none (h.place == n) w'.stray none')))

  turn_same : w'.stray ≡ w.stray → ((n : ℕ) → took n ≡ []) → (n : ℕ) → passed.taken n ++ took n ≡ h.turn n ++ if_there (h.place == n) (option_to_list w'.stray)
  turn_same s takes n = ap (λ c. passed.taken n ++ c) (takes n) ∙ (append-nil (passed.taken n) ∙ (h.taken n ∙ ap (λ (c : Option Cargo). h.turn n ++ if_there (h.place == n) (option_to_list c)) (sym s)))

  no_such : w'.stray ≡ None → (P : Cargo → Type 0) → (c : Cargo) → w'.stray ≡ Some c → P c
  no_such none P c e = let no : None ≡ Some c = sym none ∙ e in absurd cc

  module _ (x : Cargo) (puts : (n : ℕ) → put n ≡ []) (from_each : length f ≡ length w.macs.items) where
    sent_on : (n : ℕ) → passed.sent n ≡ passed.sent n ++ put n
    sent_on n = sym (ap (λ c. passed.sent n ++ c) (puts n) ∙ append-nil (passed.sent n))

    module _ (none : w.stray ≡ None) (stray : w'.stray ≡ w.stray) (held : (pool : PoolId) → buffers_of pool (sharer_bodies w') ≡ buffers_of pool (sharer_bodies w) + buffers_in pool x.1) where
      -- a frame came in turn
      pub frame_in : ((start : List Paged) (frames given : List Cargo) (shared back : ℕ → List Cargo) → SharerStands w start frames given shared back → SharerStands w' start (frames ++ x ∷ []) given shared back)
          → ((k : ℕ) (q : QueueId) → slice_get f k ≡ Some q → i ≡ q.0 → ⊥) → ((n : ℕ) → took n ≡ if_there (i == n) (x ∷ [])) → RxStands i o f t w' after
      frame_in stands apart takes = record {
        work = fits;
        start = h.start;
        is_start = same_start w w' same h.start h.is_start;
        turn = with h.turn took;
        place = h.place;
        taken = turn_on none (stray ∙ none);
        stands = as_lists w' h.start (h.turn i ++ took i) (passed.sent o ++ put o) (λ k. passed.sent (queue_at t k)) (λ k. h.turn (queue_at f k)) (λ k. passed.sent (queue_at t k) ++ put (queue_at t k)) (λ k. h.turn (queue_at f k) ++ took (queue_at f k))
            (λ k there. sent_on (queue_at t k))
            (λ k there. let within : k < length f = (let m = ap (λ v. length v.items) same.macs in omega (arith, m, from_each, there)) in sym (ap (λ c. h.turn (queue_at f k) ++ c) (takes (queue_at f k) ∙ beside i (queue_at f k) (x ∷ []) (apart k (slice_index_or f k (record { 0 = 0 })) (queue_there f k within))) ∙ append-nil (h.turn (queue_at f k))))
            (subst (λ (g : List Cargo). SharerStands w' h.start (h.turn i ++ took i) g (λ k. passed.sent (queue_at t k)) (λ k. h.turn (queue_at f k))) (sent_on o)
            (subst (λ (c : List Cargo). SharerStands w' h.start (h.turn i ++ c) (passed.sent o) (λ k. passed.sent (queue_at t k)) (λ k. h.turn (queue_at f k))) (sym (takes i ∙ if_there_here i (x ∷ [])))
            (stands h.start (h.turn i) (passed.sent o) (λ k. passed.sent (queue_at t k)) (λ k. h.turn (queue_at f k)) h.stands)));
        stray = no_such (stray ∙ none) (IsOutOfTurn i o f w' (with h.turn took) (with passed.sent put) h.place);
        balances = λ pool. balance_in pool (buffers_of pool (page_bodies h.start)) passed.taken took passed.sent put (i ∷ map (λ q. q.0) f) (o ∷ map (λ q. q.0) t) w w' x puts (first_more pool took (x ∷ []) i f apart takes) (held pool) (h.balances pool);
      }

      -- a lease came back in turn
      pub lease_in : (k : ℕ) (q : QueueId) → slice_get f k ≡ Some q → AreApart f → (i ≡ q.0 → ⊥)
          → ((start : List Paged) (frames given : List Cargo) (shared back : ℕ → List Cargo) → SharerStands w start frames given shared back → SharerStands w' start frames given shared (with_more back k (x ∷ [])))
          → ((n : ℕ) → took n ≡ if_there (q.0 == n) (x ∷ [])) → RxStands i o f t w' after
      lease_in k q at apart ne stands takes = record {
        work = fits;
        start = h.start;
        is_start = same_start w w' same h.start h.is_start;
        turn = with h.turn took;
        place = h.place;
        taken = turn_on none (stray ∙ none);
        stands = as_lists w' h.start (h.turn i ++ took i) (passed.sent o ++ put o) (λ j. passed.sent (queue_at t j)) (with_more (λ j. h.turn (queue_at f j)) k (x ∷ [])) (λ j. passed.sent (queue_at t j) ++ put (queue_at t j)) (λ j. h.turn (queue_at f j) ++ took (queue_at f j))
            (λ j there. sent_on (queue_at t j))
            (λ j there. let within : j < length f = (let m = ap (λ v. length v.items) same.macs in omega (arith, m, from_each, there)) in ap (λ c. h.turn (queue_at f j) ++ c) (sym (at_client f k q at apart took (x ∷ []) takes j within (cases_eq k j))))
            (subst (λ (g : List Cargo). SharerStands w' h.start (h.turn i ++ took i) g (λ j. passed.sent (queue_at t j)) (with_more (λ j. h.turn (queue_at f j)) k (x ∷ []))) (sent_on o)
            (subst (λ (c : List Cargo). SharerStands w' h.start c (passed.sent o) (λ j. passed.sent (queue_at t j)) (with_more (λ j. h.turn (queue_at f j)) k (x ∷ []))) (sym (ap (λ c. h.turn i ++ c) (takes i ∙ beside q.0 i (x ∷ []) (λ e. ne (sym e))) ∙ append-nil (h.turn i)))
            (stands h.start (h.turn i) (passed.sent o) (λ j. passed.sent (queue_at t j)) (λ j. h.turn (queue_at f j)) h.stands)));
        stray = no_such (stray ∙ none) (IsOutOfTurn i o f w' (with h.turn took) (with passed.sent put) h.place);
        balances = λ pool. balance_in pool (buffers_of pool (page_bodies h.start)) passed.taken took passed.sent put (i ∷ map (λ q. q.0) f) (o ∷ map (λ q. q.0) t) w w' x puts (later_more pool took (x ∷ []) i f k q at apart ne takes) (held pool) (h.balances pool);
      }

  -- buffers or leases went
  module _ (p : List Cargo) (to_each : length t ≡ length w.macs.items) (takes : (n : ℕ) → took n ≡ []) (none : w.stray ≡ None) (stray : w'.stray ≡ w.stray) (lent : w'.lent ≡ w.lent)
      (hand : (pool : PoolId) → buffers_of pool (sharer_hand w) ≡ buffers_of pool (bodies_of p) + buffers_of pool (sharer_hand w')) (outs : (b j : ℕ) → is_out w' b j ≡ is_out w b j) where
    went : (more : ℕ → List Cargo) → ((j : ℕ) → more j ++ owed_to w' j ≡ owed_to w j) → (passed.sent o ++ put o) ++ stock_list w'.stock ≡ passed.sent o ++ stock_list w.stock → ((j : ℕ) → j < length t → put (queue_at t j) ≡ more j)
        → ((pool : PoolId) → buffers_of pool (bodies_at put (o ∷ map (λ q. q.0) t)) ≡ buffers_of pool (bodies_of p)) → RxStands i o f t w' after
    went more owed stocked puts_at one = record {
      work = fits;
      start = h.start;
      is_start = same_start w w' same h.start h.is_start;
      turn = h.turn;
      place = h.place;
      taken = turn_same stray takes;
      stands = as_lists w' h.start (h.turn i) (passed.sent o ++ put o) (λ j. passed.sent (queue_at t j) ++ more j) (λ j. h.turn (queue_at f j)) (λ j. passed.sent (queue_at t j) ++ put (queue_at t j)) (λ j. h.turn (queue_at f j))
          (λ j there. let within : j < length t = (let m = ap (λ v. length v.items) same.macs in omega (arith, m, to_each, there)) in ap (λ c. passed.sent (queue_at t j) ++ c) (sym (puts_at j within)))
          (λ j there. refl)
          (gives w w' same more owed outs (λ b. ap (λ (l : List (Option Loan)). receivers_at l b) lent) (passed.sent o) (passed.sent o ++ put o) stocked h.start (h.turn i) (λ j. passed.sent (queue_at t j)) (λ j. h.turn (queue_at f j)) h.stands);
      stray = no_such (stray ∙ none) (IsOutOfTurn i o f w' h.turn (with passed.sent put) h.place);
      balances = λ pool. balance_out pool (buffers_of pool (page_bodies h.start)) passed.taken took passed.sent put (i ∷ map (λ q. q.0) f) (o ∷ map (λ q. q.0) t) w w' p takes (one pool) (hand pool) lent (h.balances pool);
    }

    -- a buffer went
    pub buffer_out : ((j : ℕ) → owed_to w' j ≡ owed_to w j) → stock_list w.stock ≡ p ++ stock_list w'.stock → ((k : ℕ) (q : QueueId) → slice_get t k ≡ Some q → o ≡ q.0 → ⊥) → ((n : ℕ) → put n ≡ if_there (o == n) p) → RxStands i o f t w' after
    buffer_out owed list apart puts = went (λ j. []) owed
        (append_assoc (passed.sent o) (put o) (stock_list w'.stock) ∙ ap (λ c. passed.sent o ++ c) (ap (λ c. c ++ stock_list w'.stock) (puts o ∙ if_there_here o p) ∙ sym list))
        (λ j within. puts (queue_at t j) ∙ beside o (queue_at t j) p (apart j (slice_index_or t j (record { 0 = 0 })) (queue_there t j within)))
        (λ pool. first_more pool put p o t apart puts)

    -- a lease went
    pub lease_out : (k : ℕ) (q : QueueId) → slice_get t k ≡ Some q → AreApart t → (o ≡ q.0 → ⊥) → ((j : ℕ) → if_there (k == j) p ++ owed_to w' j ≡ owed_to w j) → stock_list w'.stock ≡ stock_list w.stock → ((n : ℕ) → put n ≡ if_there (q.0 == n) p) → RxStands i o f t w' after
    lease_out k q at apart ne owed list puts = went (λ j. if_there (k == j) p) owed
        (ap (λ c. c ++ stock_list w'.stock) (ap (λ c. passed.sent o ++ c) (puts o ∙ beside q.0 o p (λ e. ne (sym e))) ∙ append-nil (passed.sent o)) ∙ ap (λ c. passed.sent o ++ c) list)
        (λ j within. at_client t k q at apart put p puts j within (cases_eq k j))
        (λ pool. later_more pool put p o t k q at apart ne puts)

-- an entry strayed
module _ (i o : ℕ) (f t : List QueueId) (w : Sharer) (x : Cargo) (passed : Passed) (took put : Lists) (calls : List Event) (place : ℕ) (h : RxStands i o f t w passed) (fits : IsSharer (record w { stray = Some x })) (none : w.stray ≡ None)
    (takes : (n : ℕ) → took n ≡ if_there (place == n) (x ∷ [])) (puts : (n : ℕ) → put n ≡ []) where
  abbrev ws : Sharer
  ws = record w { stray = Some x }

  client_strays : (k : ℕ) (mac : Mac) (frames earlier shared back : List Cargo) → ClientStands w k mac frames earlier shared back → ClientStands ws k mac frames earlier shared back
  client_strays k mac frames earlier shared back c = record { lends = c.lends; prompt = c.prompt; backs = c.backs }

  stray_stands : (start : List Paged) (frames given : List Cargo) (shared back : ℕ → List Cargo) → SharerStands w start frames given shared back → SharerStands ws start frames given shared back
  stray_stands start frames given shared back s = record {
    earlier = s.earlier;
    latest = s.latest;
    split = s.split;
    few = s.few;
    within = s.within;
    clients = λ k mac at. client_strays k mac frames s.earlier (shared k) (back k) (s.clients k mac at);
    later = s.later;
    gives = s.gives;
    given_within = s.given_within;
    counts = s.counts;
  }

  stray_held : (pool : PoolId) → buffers_of pool (sharer_bodies ws) ≡ buffers_of pool (sharer_bodies w) + buffers_in pool x.1
  stray_held pool =
      let now = buffers-append pool (sharer_hand ws) (lent_bodies w.lent) in
      let then = buffers-append pool (sharer_hand w) (lent_bodies w.lent) in
      let hand = buffers-append pool (stock_hand w.stock) (bodies_of (x ∷ [])) in
      let hand' = buffers-append pool (stock_hand w.stock) (bodies_of (option_to_list w.stray)) in
      let gone = ap (λ (s : Option Cargo). buffers_of pool (bodies_of (option_to_list s))) none in
      let one = cargo-cons pool x [] in
      omega (arith, now, then, hand, hand', gone, one)

  pub strays : IsOutOfTurn i o f w h.turn passed.sent place x → ((pool : PoolId) → buffers_of pool (bodies_at took (i ∷ map (λ q. q.0) f)) ≡ buffers_of pool (bodies_of (x ∷ []))) → RxStands i o f t ws (record { taken = with passed.taken took; sent = with passed.sent put; calls = calls })
  strays out one = subst (λ (s : Lists). RxStands i o f t ws (record { taken = with passed.taken took; sent = s; calls = calls })) (sym (none_more passed.sent put puts)) (record {
    work = fits;
    start = h.start;
    is_start = h.is_start;
    turn = h.turn;
    place = place;
    taken = λ n. ap (λ c. c ++ took n) (h.taken n ∙ (ap (λ c. h.turn n ++ c) (stray_none (h.place == n) w.stray none) ∙ append-nil (h.turn n))) ∙ ap (λ c. h.turn n ++ c) (takes n);
    stands = stray_stands h.start (h.turn i) (passed.sent o) (λ k. passed.sent (queue_at t k)) (λ k. h.turn (queue_at f k)) h.stands;
    stray = λ c e. subst (λ (y : Cargo). IsOutOfTurn i o f w h.turn passed.sent place y) (some_eq e) out;
    balances = λ pool. balance_in pool (buffers_of pool (page_bodies h.start)) passed.taken took passed.sent (λ n. []) (i ∷ map (λ q. q.0) f) (o ∷ map (λ q. q.0) t) w ws x (λ n. refl) (one pool) (stray_held pool) (h.balances pool) ∙ ap (λ (l : Lists). buffers_of pool (bodies_at l (o ∷ map (λ q. q.0) t)) + (buffers_of pool (sharer_hand ws) + buffers_of pool (lent_bodies w.lent))) (none_more passed.sent (λ n. []) (λ n. refl));
  })

-- a frame that isn't back is out of turn
zero_bit : (n : ℕ) → bit (nat_lt 0 n) ≡ 0 → n ≡ 0
zero_bit zero e = refl
zero_bit (suc n) e = let t : nat_lt 0 (suc n) ≡ true = lt-ltb 0 (suc n) (omega arith) in let one = ap bit t in absurd (omega (arith, one, e))

pub frame_out : (w : Sharer) → IsSharer w → is_idle w ≡ true → (x : Cargo) → is_back w x ≡ false → (start : List Paged) (frames given : List Cargo) (shared back : ℕ → List Cargo) → SharerStands w start frames given shared back → IsFrameInTurn w.stock frames given x → ⊥
frame_out w h idle (item, Carried.Lease l) e start frames given shared back s b = b.0
frame_out w h idle (item, Carried.Empty) e start frames given shared back s b = b.0
frame_out w h idle (item, Carried.Page page) e start frames given shared back s b =
    let was = s.counts page.no b.0.1 in
    let list = ap (λ xs. named w.stock.base w.stock.size page.no xs) (ap (λ xs. given ++ xs) (no_list w h idle) ∙ append-nil given) in
    let less = b.1 in
    let none = zero_bit (receivers_at w.lent page.no) (omega (arith, was, list, less)) in
    let yes : is_back w (item, Carried.Page page) ≡ true =
    and_from _ _ (eq-eqb page.pool.0 w.stock.pool.0 (ap (λ (p : PoolId). p.0) b.0.0)) (and_from _ _ (lt-ltb page.no w.stock.buffers b.0.1) (and_from _ _ (eq-eqb (addr_of item) (w.stock.base + page.no * w.stock.size) b.0.2) (and_from _ _ (eq-eqb (receivers_at w.lent page.no) 0 none) (eq-eqb (length page.bytes) w.stock.size b.0.3)))) in
    let no : true ≡ false = sym yes ∙ e in
    absurd cc

-- a lease that came back brings no buffer
pub returned_bare : (w : Sharer) (k : ℕ) (x : Cargo) (n : ℕ) → returned w k x ≡ Some n → (pool : PoolId) → buffers_in pool x.1 ≡ 0
returned_bare w k (item, Carried.Page page) n e pool = absurd cc
returned_bare w k (item, Carried.Lease l) n e pool = refl
returned_bare w k (item, Carried.Empty) n e pool = refl

-- an item that names no buffer of which a lease is out names none that is due
due_stray : (w : Sharer) → IsSharer w → (k : ℕ) (mac : Mac) (item : Item) → is_due_back w k item ≡ false → (frames earlier shared back : List Cargo) → ClientStands w k mac frames earlier shared back → IsDueBack w.stock mac frames back item → ⊥
due_stray w h k mac item e frames earlier shared back s b =
    let was = s.backs b.0 b.1 in
    let less = b.3 in
    let out = one_bit (is_out w b.0 k) (λ z. omega (arith, was, less, z)) in
    let number : addr_of item / w.stock.size ≡ b.0 = ap (λ a. a / w.stock.size) b.2 ∙ mul-div_cancel b.0 h.some in
    let by : nat_lt b.0 w.stock.buffers && ((addr_of item == b.0 * w.stock.size) && is_out w b.0 k) ≡ true = and_from _ _ (lt-ltb b.0 w.stock.buffers b.1) (and_from _ _ (eq-eqb (addr_of item) (b.0 * w.stock.size) b.2) out) in
    let yes : is_due_back w k item ≡ true = ap (λ n. nat_lt n w.stock.buffers && ((addr_of item == n * w.stock.size) && is_out w n k)) number ∙ by in
    let no : true ≡ false = sym yes ∙ e in
    absurd cc
  where
    one_bit : (t : Bool) → (bit t ≡ 0 → ⊥) → t ≡ true
    one_bit true ne = refl
    one_bit false ne = absurd (ne refl)

-- a lease that isn't out is out of turn
pub lease_stray : (w : Sharer) → IsSharer w → (k : ℕ) (mac : Mac) → slice_get w.macs.items k ≡ Some mac → (x : Cargo) → is_returned w k x ≡ false → (frames earlier shared back : List Cargo) → ClientStands w k mac frames earlier shared back → IsLeaseInTurn w.stock mac frames back x → ⊥
lease_stray w h k mac at (item, Carried.Page page) e frames earlier shared back s b = b
lease_stray w h k mac at (item, Carried.Empty) e frames earlier shared back s b = due_stray w h k mac item e frames earlier shared back s b
lease_stray w h k mac at (item, Carried.Lease l) e frames earlier shared back s b = due_stray w h k mac item e frames earlier shared back s b

-- what was put is the load, or the load stays
pub load_gone : (old p new : Option Cargo) → option_to_list old ≡ option_to_list p ++ option_to_list new → new ≡ None → option_to_list p ≡ option_to_list old
load_gone old p new e none = sym (e ∙ (ap (λ (n : Option Cargo). option_to_list p ++ option_to_list n) none ∙ append-nil (option_to_list p)))

pub load_stays : (old p new : Option Cargo) → option_to_list old ≡ option_to_list p ++ option_to_list new → is_none new ≡ false → (new ≡ old) × (option_to_list p ≡ [])
load_stays old p None e s = absurd cc
load_stays None None (Some y) e s = absurd cc
load_stays None (Some z) (Some y) e s = absurd cc
load_stays (Some x) None (Some y) e s = (let g : x ≡ y = cc in ap (λ v. Some v) (sym g), refl)
load_stays (Some x) (Some z) (Some y) e s = absurd cc

-- what it keeps fits together after a buffer went
pub given_work : (w : Sharer) → IsSharer w → (s : Stock) → IsStock s → SameStock w.stock s → stock_list s ≡ stock_list (record w.stock { next = None }) → is_none w.stock.next ≡ false → IsSharer (record w { stock = s })
given_work w h s stock same list some = record {
  stock = stock;
  rest = rest_now;
  room = rw (same.base, same.buffers, same.size) h.room;
  some = rw same.size h.some;
  few = h.few;
  owed_long = h.owed_long;
  lent_long = h.lent_long ∙ sym same.buffers;
  out_long = h.out_long ∙ sym same.buffers;
  outs_long = rw same.buffers h.outs_long;
  counts = rw same.buffers h.counts;
  loans = λ b loan at. let l = h.loans b loan at in record { same_pool = l.same_pool ∙ sym same.same_pool; number = l.number; sized = l.sized ∙ sym same.size; some = l.some };
  owing = λ e. absurd (busy (h.owing e).next);
  ready = λ x at. absurd (busy (h.owing (h.ready x at).0).next);
  strayed = λ e. absurd (busy (h.strayed e));
}
  where
    busy : w.stock.next ≡ None → ⊥
    busy e = let no : is_none {T = Cargo} None ≡ false = ap is_none (sym e) ∙ some in cc

    rest_now : length s.rest.items < 2 ^ 32 - 1
    rest_now =
        let a = length-append (option_to_list s.next) (map (given_entry s.base s.size) (reverse s.rest.items)) in
        let b = length-map (reverse s.rest.items) (given_entry s.base s.size) in
        let c = length-reverse s.rest.items in
        let d = length-map (reverse w.stock.rest.items) (given_entry w.stock.base w.stock.size) in
        let f = length-reverse w.stock.rest.items in
        let e = ap length list in
        let r = h.rest in
        omega (arith, a, b, c, d, f, e, r)

-- and after a lease went
pub shared_work : (w : Sharer) → IsSharer w → (k : ℕ) → slice_index_or w.owed k false ≡ true → (r : Option Cargo) → r ≡ None → IsSharer (record w { ready = r; owed = slice_set w.owed k false })
shared_work w h k owed r gone = record {
  stock = h.stock;
  rest = h.rest;
  room = h.room;
  some = h.some;
  few = h.few;
  owed_long = length-set w.owed k false ∙ h.owed_long;
  lent_long = h.lent_long;
  out_long = h.out_long;
  outs_long = h.outs_long;
  counts = h.counts;
  loans = h.loans;
  owing = λ e. let b = h.owing was in record { next = b.next; stray = b.stray; within = b.within; lent = b.lent };
  ready = λ x at. let no : None ≡ Some x = sym gone ∙ at in absurd cc;
  strayed = h.strayed;
}
  where
    was : is_owing w ≡ true
    was = let e = one_less w.owed k owed in lt-ltb 0 (how_many w.owed) (omega (arith, e))

-- who is owed a lease
pub owes_some : (w : Sharer) → (k : ℕ) → slice_index_or w.owed k false ≡ true → is_owing w ≡ true
owes_some w k owed = let e = one_less w.owed k owed in lt-ltb 0 (how_many w.owed) (omega (arith, e))

pub owed_after : (w : Sharer) (r : Option Cargo) (k : ℕ) → slice_index_or w.owed k false ≡ true → (j : ℕ) → (k ≡ j) ⊎ (k ≡ j → ⊥) → if_there (k == j) (owed_lease w ∷ []) ++ owed_to (record w { ready = r; owed = slice_set w.owed k false }) j ≡ owed_to w j
owed_after w r k owed j (inl e) =
    let off : slice_index_or (slice_set w.owed k false) j false ≡ false = ap (slice_index_or (slice_set w.owed k false) j) refl ∙ (ap (λ m. slice_index_or (slice_set w.owed k false) m false) (sym e) ∙ cleared w.owed k) in
    ap (λ b. if_there b (owed_lease w ∷ []) ++ if_there (slice_index_or (slice_set w.owed k false) j false) (owed_lease w ∷ [])) (eq-eqb k j e) ∙ (ap (λ b. (owed_lease w ∷ []) ++ if_there b (owed_lease w ∷ [])) off ∙ sym (ap (λ b. if_there b (owed_lease w ∷ [])) (ap (λ m. slice_index_or w.owed m false) (sym e) ∙ owed)))
  where
    cleared : (xs : List Bool) (m : ℕ) → slice_index_or (slice_set xs m false) m false ≡ false
    cleared [] m = refl
    cleared (y ∷ xs) zero = refl
    cleared (y ∷ xs) (suc m) = cleared xs m
owed_after w r k owed j (inr ne) =
    ap (λ b. if_there b (owed_lease w ∷ []) ++ if_there (slice_index_or (slice_set w.owed k false) j false) (owed_lease w ∷ [])) (ne_eqb k j ne) ∙ ap (λ b. if_there b (owed_lease w ∷ [])) (get_or-set_other w.owed k j false false (λ e. ne (sym e)))

-- a buffer less is in hand
pub hand_less : (pool : PoolId) (w w' : Sharer) (p : List Cargo) → stock_list w.stock ≡ p ++ stock_list w'.stock → w'.stray ≡ w.stray → buffers_of pool (sharer_hand w) ≡ buffers_of pool (bodies_of p) + buffers_of pool (sharer_hand w')
hand_less pool w w' p list stray =
    let all = ap (λ xs. buffers_of pool (bodies_of xs)) list ∙ cargo-append pool p (stock_list w'.stock) in
    let a = stock_count pool w.stock in
    let b = stock_count pool w'.stock in
    let c = buffers-append pool (stock_hand w.stock) (bodies_of (option_to_list w.stray)) in
    let d = buffers-append pool (stock_hand w'.stock) (bodies_of (option_to_list w'.stray)) in
    let e = ap (λ (s : Option Cargo). buffers_of pool (bodies_of (option_to_list s))) stray in
    omega (arith, all, a, b, c, d, e)

pub is_there : (o : Option Cargo) (x : Cargo) → o ≡ Some x → IsSome o
is_there None x e = absurd cc
is_there (Some y) x e = refl

-- a frame came, in turn or out of it
pub rx_takes : (i o : ℕ) (f t : List QueueId) (w w' : Sharer) → IsSharer w → IsSharer w' → is_idle w ≡ true → length f ≡ length w.macs.items → (x : Cargo) (passed : Passed) (took put : Lists) (calls : List Event) → SameSharer w w' → (is_back w x ≡ true → w'.stray ≡ w.stray)
    → (is_back w x ≡ true → (start : List Paged) (frames given : List Cargo) (shared back : ℕ → List Cargo) → SharerStands w start frames given shared back → SharerStands w' start (frames ++ x ∷ []) given shared back)
    → (is_back w x ≡ false → w' ≡ record w { stray = Some x }) → ((pool : PoolId) → buffers_of pool (sharer_bodies w') ≡ buffers_of pool (sharer_bodies w) + buffers_in pool x.1)
    → ((k : ℕ) (q : QueueId) → slice_get f k ≡ Some q → i ≡ q.0 → ⊥) → ((n : ℕ) → took n ≡ if_there (i == n) (x ∷ [])) → ((n : ℕ) → put n ≡ []) → RxStands i o f t w passed → (is_back w x ≡ true) ⊎ (is_back w x ≡ false)
    → RxStands i o f t w' (record { taken = with passed.taken took; sent = with passed.sent put; calls = calls })
rx_takes i o f t w w' work fits idle from_each x passed took put calls same turn stands stray held apart takes puts h (inl turned_in) =
    frame_in i o f t w w' same fits passed took put calls h x puts from_each (no_stray w work idle) (turn turned_in) held (stands turned_in) apart takes
rx_takes i o f t w w' work fits idle from_each x passed took put calls same turn stands stray held apart takes puts h (inr strayed) =
    subst (λ (v : Sharer). RxStands i o f t v (record { taken = with passed.taken took; sent = with passed.sent put; calls = calls })) (sym (stray strayed))
    (strays i o f t w x passed took put calls i h (subst IsSharer (stray strayed) fits) (no_stray w work idle) takes puts (inl (refl, frame_out w work idle x strayed h.start (h.turn i) (passed.sent o) (λ k. passed.sent (queue_at t k)) (λ k. h.turn (queue_at f k)) h.stands)) (λ pool. first_more pool took (x ∷ []) i f apart takes))

-- a lease came back, in turn or out of it
pub rx_returns : (i o : ℕ) (f t : List QueueId) (w w' : Sharer) → IsSharer w → IsSharer w' → is_idle w ≡ true → length f ≡ length w.macs.items → (k : ℕ) (q : QueueId) → slice_get f k ≡ Some q → AreApart f → (i ≡ q.0 → ⊥) → (x : Cargo) (passed : Passed) (took put : Lists) (calls : List Event) → SameSharer w w' → (is_returned w k x ≡ true → w'.stray ≡ w.stray)
    → (is_returned w k x ≡ true → (start : List Paged) (frames given : List Cargo) (shared back : ℕ → List Cargo) → SharerStands w start frames given shared back → SharerStands w' start frames given shared (with_more back k (x ∷ [])))
    → (is_returned w k x ≡ false → w' ≡ record w { stray = Some x }) → ((pool : PoolId) → buffers_of pool (sharer_bodies w') ≡ buffers_of pool (sharer_bodies w) + buffers_in pool x.1)
    → ((n : ℕ) → took n ≡ if_there (q.0 == n) (x ∷ [])) → ((n : ℕ) → put n ≡ []) → RxStands i o f t w passed → (is_returned w k x ≡ true) ⊎ (is_returned w k x ≡ false)
    → RxStands i o f t w' (record { taken = with passed.taken took; sent = with passed.sent put; calls = calls })
rx_returns i o f t w w' work fits idle from_each k q at apart ne x passed took put calls same turn stands stray held takes puts h (inl turned_in) =
    lease_in i o f t w w' same fits passed took put calls h x puts from_each (no_stray w work idle) (turn turned_in) held k q at apart ne (stands turned_in) takes
rx_returns i o f t w w' work fits idle from_each k q at apart ne x passed took put calls same turn stands stray held takes puts h (inr strayed) =
    let there : k < length w.macs.items = (let l = slice_get_within f k q at in omega (arith, l, from_each)) in
    let mac : Mac = slice_index_or w.macs.items k (record { 0 = [] }) in
    let mac_at : slice_get w.macs.items k ≡ Some mac = slice_get-get_or w.macs.items k (record { 0 = [] }) there in
    let place : q.0 ≡ queue_at f k = sym (queue_is f k q at) in
    subst (λ (v : Sharer). RxStands i o f t v (record { taken = with passed.taken took; sent = with passed.sent put; calls = calls })) (sym (stray strayed))
    (strays i o f t w x passed took put calls q.0 h (subst IsSharer (stray strayed) fits) (no_stray w work idle) takes puts
    (inr (k, mac, mac_at, place, λ b. lease_stray w work k mac mac_at x strayed (h.turn i) h.stands.earlier (passed.sent (queue_at t k)) (h.turn (queue_at f k)) (h.stands.clients k mac mac_at) (subst (λ n. IsLeaseInTurn w.stock mac (h.turn i) (h.turn n) x) place b)))
    (λ pool. later_more pool took (x ∷ []) i f k q at apart ne takes))

given_none : (item : Option Item) → given item None ≡ None
given_none None = refl
given_none (Some item) = refl

-- nothing is put where nothing is loaded
pub puts_none : (e : Event) (n m : ℕ) → if_there (n == m) (option_to_list (put_of e None)) ≡ []
puts_none e n m = ap (λ (s : Option Cargo). if_there (n == m) (option_to_list s)) (given_none e.item) ∙ none_if (n == m)

pub is_nothing : (s : Option Cargo) (b : Bool) → is_some s ≡ not b → b ≡ true → s ≡ None
is_nothing None b e t = refl
is_nothing (Some x) b e t = let no_such : true ≡ false = e ∙ ap not t in absurd cc

pub is_something : (s : Option Cargo) (b : Bool) → is_some s ≡ not b → b ≡ false → is_none s ≡ false
is_something None b e t = let no_such : false ≡ true = e ∙ ap not t in absurd cc
is_something (Some x) b e t = refl

pub stray_gone : (s next : Option Cargo) → (is_some s ≡ true → next ≡ None) → is_none next ≡ false → s ≡ None
stray_gone None next h e = refl
stray_gone (Some x) next h e = let no_such : true ≡ false = sym (ap is_none (h refl)) ∙ e in absurd cc

pub ready_list : (r : Option Cargo) (x : Cargo) → is_some r ≡ true → ((y : Cargo) → r ≡ Some y → y ≡ x) → option_to_list r ≡ x ∷ []
ready_list None x e h = absurd cc
ready_list (Some y) x e h = ap (λ z. z ∷ []) (h y refl)

pub lease_hand : (pool : PoolId) (w : Sharer) (n : ℕ) → n ≡ buffers_of pool (bodies_of (owed_lease w ∷ [])) + n
lease_hand pool w n = let one = cargo-cons pool (owed_lease w) [] in omega (arith, one)

-- a lease was made ready
module _ (w : Sharer) (r : Option Cargo) where
  ready_client : (k : ℕ) (mac : Mac) (frames earlier shared back : List Cargo) → ClientStands w k mac frames earlier shared back → ClientStands (record w { ready = r }) k mac frames earlier shared back
  ready_client k mac frames earlier shared back c = record { lends = c.lends; prompt = c.prompt; backs = c.backs }

  ready_sharer : (start : List Paged) (frames given : List Cargo) (shared back : ℕ → List Cargo) → SharerStands w start frames given shared back → SharerStands (record w { ready = r }) start frames given shared back
  ready_sharer start frames given shared back s = record {
    earlier = s.earlier;
    latest = s.latest;
    split = s.split;
    few = s.few;
    within = s.within;
    clients = λ k mac at. ready_client k mac frames s.earlier (shared k) (back k) (s.clients k mac at);
    later = s.later;
    gives = s.gives;
    given_within = s.given_within;
    counts = s.counts;
  }

  pub ready_stands : (i o : ℕ) (f t : List QueueId) (passed : Passed) → IsSharer (record w { ready = r }) → RxStands i o f t w passed → RxStands i o f t (record w { ready = r }) passed
  ready_stands i o f t passed fits h = record {
    work = fits;
    start = h.start;
    is_start = h.is_start;
    turn = h.turn;
    place = h.place;
    taken = h.taken;
    stands = ready_sharer h.start (h.turn i) (passed.sent o) (λ k. passed.sent (queue_at t k)) (λ k. h.turn (queue_at f k)) h.stands;
    stray = h.stray;
    balances = h.balances;
  }
