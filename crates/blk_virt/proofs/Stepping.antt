-- What the virtualiser stands for after each call.
use Rattle.std.proofs.Common.{◌≡◌, ◌+◌, ◌<◌, ◌==◌, ℕ, Bool, true, false, not, ◌&&◌, is_some, is_none, inl, inr, Option, Some, None, List, [], ◌∷◌, ◌++◌, length, map, drop, slice_get, slice_index_or, refl, sym, ap, ◌∙◌, subst, arith}
use Rattle.std.specs.Option.{option_to_list}
use Rattle.std.proofs.lemmas.Bool.{cases_eq}
use Rattle.std.proofs.lemmas.Option.{slice_get_within}
use Rattle.std.proofs.lemmas.List.{append-nil, length-map}
use Rattle.cargo_core.specs.declared.item.Body.TheVariants as Carried
use Rattle.cargo_core.specs.Pages.{Paged}
use Rattle.wire_core.specs.declared.names.QueueId.{QueueId}
use Rattle.wire_core.specs.declared.names.Event.{Event}
use Rattle.wire_core.specs.Deeds.{Cargo, put_of}
use Rattle.wire_core.specs.Lists.{Lists, Passed, with, if_there}
use Rattle.wire_core.proofs.Places.{if_there_here}
use Rattle.turn_kit.specs.Hands.{bodies_of, bodies_at}
use Rattle.turn_kit.specs.ManyEnds.{AreApart}
use Rattle.buffer_kit.specs.declared.virt_ends.VirtEnds.{VirtEnds}
use Rattle.buffer_kit.specs.Conserving.{Count, weight, counted, weighed}
use Rattle.buffer_kit.specs.Virtualising.{SameVirt, from_queues, to_queues}
use Rattle.buffer_kit.proofs.Passing.{none_more, beside, counted_more, counted_first, counted_later}
use Rattle.blk_mbr.specs.declared.part.Part.{Part}
use Rattle.buffer_kit.proofs.ManyClients.{some_eq, nothing, queue_there, at_client}
use Rattle.blk_virt.specs.declared.client.Client.{Client}
use Rattle.blk_virt.specs.declared.desk.Desk.{Desk}
use Rattle.blk_virt.specs.declared.work.Work.{Work}
use Rattle.blk_virt.specs.Serving.{own_of, own_back}
use Rattle.blk_virt.specs.Openings.{IsOutOfTurn}
use Rattle.blk_virt.specs.Desks.{DeskStands, holders, with_more}
use Rattle.blk_virt.specs.Works.{IsWork, SameWork, WorkStands, Received, work_cargo}
use Rattle.blk_virt.specs.Virtualising.{VirtStands, queue_at}
use Rattle.blk_virt.proofs.Answering.{same_lists}
use Rattle.blk_virt.proofs.Sending.{given_some, given_none}

-- what came and was given matters only at the clients' places
as_desk : (w : Desk) (parts : ℕ → Option Part) (cs gs cs' gs' : ℕ → List Cargo) (ls bs : List Cargo) → ((k : ℕ) → k < length w.clients.items → cs' k ≡ cs k) → ((k : ℕ) → k < length w.clients.items → gs' k ≡ gs k) → DeskStands w parts cs ls bs gs → DeskStands w parts cs' ls bs gs'
as_desk w parts cs gs cs' gs' ls bs e f h = record {
  clients = λ k c at.
      let there = slice_get_within w.clients.items k c at in
      same_lists c (parts c.holder.partition) (cs k) (own_of c.holder ls) (own_back c.holder ls bs) (gs k) (cs' k) (own_of c.holder ls) (own_back c.holder ls bs) (gs' k) (e k there) refl refl (f k there) (h.clients k c at);
  answered = h.answered;
  unanswered = h.unanswered;
  sent_are = h.sent_are;
  as_many = h.as_many;
  are_of = h.are_of;
  within = h.within;
}

holders_long : (w : Desk) → length (holders w) ≡ length w.clients.items
holders_long w = length-map w.clients.items (λ (c : Client). c.holder)

as_work : (w : Work) (start : Paged) (back : List Cargo) (cs gs cs' gs' : ℕ → List Cargo) (ss ss' : List Cargo) → ((k : ℕ) → k < length (holders w.desk) → cs' k ≡ cs k) → ss' ≡ ss → ((k : ℕ) → k < length (holders w.desk) → gs' k ≡ gs k) → WorkStands w start back cs ss gs → WorkStands w start back cs' ss' gs'
as_work w start back cs gs cs' gs' ss ss' e f g h = subst (λ l. WorkStands w start back cs' l gs') (sym f) (record {
  is_start = h.is_start;
  opens = h.opens;
  serves = λ parts knows. as_desk w.desk parts cs gs cs' gs' (drop 1 ss) (drop 1 back) (λ k low. e k (long k low)) (λ k low. g k (long k low)) (h.serves parts knows);
  quiet = λ none k low. e k low ∙ h.quiet none k low;
  numbered = h.numbered;
  number = h.number;
})
  where
    long : (k : ℕ) → k < length w.desk.clients.items → k < length (holders w.desk)
    long k low = let n = holders_long w.desk in omega (arith, n, low)

-- the same queues
pub moved : (e e' : VirtEnds) → SameVirt e e' → (w : Work) (passed : Passed) → VirtStands e.input.queue.0 e.output.queue.0 (from_queues e) (to_queues e) w passed → VirtStands e'.input.queue.0 e'.output.queue.0 (from_queues e') (to_queues e') w passed
moved e e' same w passed h =
    subst (λ (q : QueueId). VirtStands q.0 e'.output.queue.0 (from_queues e') (to_queues e') w passed) (sym same.input)
    (subst (λ (q : QueueId). VirtStands e.input.queue.0 q.0 (from_queues e') (to_queues e') w passed) (sym same.output)
    (subst (λ (qs : List QueueId). VirtStands e.input.queue.0 e.output.queue.0 qs (to_queues e') w passed) (sym same.from_clients)
    (subst (λ (qs : List QueueId). VirtStands e.input.queue.0 e.output.queue.0 (from_queues e) qs w passed) (sym same.to_clients) h)))

-- whatever was called
with_calls : (i o : ℕ) (f t : List QueueId) (w : Work) (passed : Passed) (calls : List Event) → VirtStands i o f t w passed → VirtStands i o f t w (record passed { calls = calls })
with_calls i o f t w passed calls h = record { work = h.work; start = h.start; long = h.long; back = h.back; taken = h.taken; stands = h.stands; stray = h.stray; conserves = h.conserves }

-- where nothing moved, all stays
pub still : (i o : ℕ) (f t : List QueueId) (w : Work) (passed : Passed) (took put : Lists) (calls : List Event) → ((n : ℕ) → took n ≡ []) → ((n : ℕ) → put n ≡ []) → VirtStands i o f t w passed → VirtStands i o f t w (record { taken = with passed.taken took; sent = with passed.sent put; calls = calls })
still i o f t w passed took put calls takes puts h = subst (λ (p : Passed). VirtStands i o f t w p) (nothing passed took put calls takes puts) (with_calls i o f t w passed calls h)

module _ (i o : ℕ) (f t : List QueueId) (w w' : Work) (same : SameWork w w') (fits : IsWork w') (passed : Passed) (took put : Lists) (calls : List Event) (h : VirtStands i o f t w passed) where
  abbrev after : Passed
  after = record { taken = with passed.taken took; sent = with passed.sent put; calls = calls }

  none_on : (lists more : Lists) (n : ℕ) → more n ≡ [] → lists n ++ more n ≡ lists n
  none_on lists more n e = ap (λ c. lists n ++ c) e ∙ append-nil (lists n)

  as_many : length (holders w'.desk) ≡ length (holders w.desk)
  as_many = ap length same.clients

  -- an entry came
  module _ (x : Cargo) (free : w.stray ≡ None) (puts : (n : ℕ) → put n ≡ []) (held : (c : Count) → weighed c (work_cargo w') ≡ weighed c (work_cargo w) + weight c x.1) where
    balance_in : (c : Count) → counted c (bodies_at took (i ∷ map (λ q. q.0) f)) ≡ weighed c (x ∷ []) → counted c (Carried.Page h.start ∷ []) + counted c (bodies_at (with passed.taken took) (i ∷ map (λ q. q.0) f)) ≡ counted c (bodies_at (with passed.sent put) (o ∷ map (λ q. q.0) t)) + (weighed c (work_cargo w') + counted c [])
    balance_in c one =
        let more = counted_more c passed.taken took (i ∷ map (λ q. q.0) f) in
        let none = ap (λ (l : Lists). counted c (bodies_at l (o ∷ map (λ q. q.0) t))) (none_more passed.sent put puts) in
        let was = h.conserves c in
        let hand = held c in
        omega (arith, more, none, one, was, hand)

    -- a response
    pub response_in : ((k : ℕ) (q : QueueId) → slice_get f k ≡ Some q → i ≡ q.0 → ⊥) → length f ≡ length (holders w.desk) → ((n : ℕ) → took n ≡ if_there (i == n) (x ∷ [])) → Received w w' x h.start h.back (λ k. passed.taken (queue_at f k)) (passed.sent o) (λ k. passed.sent (queue_at t k)) → VirtStands i o f t w' after
    response_in apart from_each takes received = by received
      where
        here : took i ≡ x ∷ []
        here = takes i ∙ if_there_here i (x ∷ [])

        all_back : passed.taken i ≡ h.back
        all_back = h.taken ∙ (ap (λ (s : Option Cargo). h.back ++ option_to_list s) free ∙ append-nil h.back)

        others : (k : ℕ) → k < length (holders w'.desk) → passed.taken (queue_at f k) ++ took (queue_at f k) ≡ passed.taken (queue_at f k)
        others k low = none_on passed.taken took (queue_at f k) (takes (queue_at f k) ∙ beside i (queue_at f k) (x ∷ []) (apart k (slice_index_or f k (record { 0 = 0 })) (queue_there f k (let m = as_many in omega (arith, m, from_each, low)))))

        sents : (k : ℕ) → k < length (holders w'.desk) → passed.sent (queue_at t k) ++ put (queue_at t k) ≡ passed.sent (queue_at t k)
        sents k low = none_on passed.sent put (queue_at t k) (puts (queue_at t k))

        by : Received w w' x h.start h.back (λ k. passed.taken (queue_at f k)) (passed.sent o) (λ k. passed.sent (queue_at t k)) → VirtStands i o f t w' after
        by (inl r) = record {
          work = fits;
          start = h.start;
          long = h.long;
          back = h.back ++ x ∷ [];
          taken = ap (λ (l : List Cargo). l ++ took i) all_back ∙ (ap (λ l. h.back ++ l) here ∙ (sym (append-nil (h.back ++ x ∷ [])) ∙ ap (λ (s : Option Cargo). (h.back ++ x ∷ []) ++ option_to_list s) (sym (r.0 ∙ free))));
          stands = as_work w' h.start (h.back ++ x ∷ []) (λ k. passed.taken (queue_at f k)) (λ k. passed.sent (queue_at t k)) (λ k. passed.taken (queue_at f k) ++ took (queue_at f k)) (λ k. passed.sent (queue_at t k) ++ put (queue_at t k)) (passed.sent o) (passed.sent o ++ put o) others (none_on passed.sent put o (puts o)) sents r.1;
          stray = λ y is. let e : None ≡ Some y = sym (r.0 ∙ free) ∙ is in absurd cc;
          conserves = λ c. balance_in c (counted_first c took (x ∷ []) i f apart takes);
        }
        by (inr r) = record {
          work = fits;
          start = h.start;
          long = h.long;
          back = h.back;
          taken = ap (λ (l : List Cargo). l ++ took i) all_back ∙ (ap (λ l. h.back ++ l) here ∙ ap (λ (v : Work). h.back ++ option_to_list v.stray) (sym r.1));
          stands = as_work w' h.start h.back (λ k. passed.taken (queue_at f k)) (λ k. passed.sent (queue_at t k)) (λ k. passed.taken (queue_at f k) ++ took (queue_at f k)) (λ k. passed.sent (queue_at t k) ++ put (queue_at t k)) (passed.sent o) (passed.sent o ++ put o) others (none_on passed.sent put o (puts o)) sents
              (subst (λ (v : Work). WorkStands v h.start h.back (λ k. passed.taken (queue_at f k)) (passed.sent o) (λ k. passed.sent (queue_at t k))) (sym r.1) (record { is_start = h.stands.is_start; opens = h.stands.opens; serves = h.stands.serves; quiet = h.stands.quiet; numbered = h.stands.numbered; number = h.stands.number }));
          stray = λ y is.
              let e : x ≡ y = some_eq (sym (ap (λ (v : Work). v.stray) r.1) ∙ is) in
              subst (λ l. IsOutOfTurn l h.back y) (sym (none_on passed.sent put o (puts o))) (subst (λ z. IsOutOfTurn (passed.sent o) h.back z) e r.0);
          conserves = λ c. balance_in c (counted_first c took (x ∷ []) i f apart takes);
        }

    -- a request of client k
    pub request_in : (k : ℕ) (q : QueueId) → slice_get f k ≡ Some q → AreApart f → (i ≡ q.0 → ⊥) → length f ≡ length (holders w.desk) → w'.stray ≡ w.stray → ((n : ℕ) → took n ≡ if_there (q.0 == n) (x ∷ []))
        → WorkStands w' h.start h.back (with_more (λ j. passed.taken (queue_at f j)) k (x ∷ [])) (passed.sent o) (λ j. passed.sent (queue_at t j)) → VirtStands i o f t w' after
    request_in k q at apart ne from_each stray takes stands = record {
      work = fits;
      start = h.start;
      long = h.long;
      back = h.back;
      taken = none_on passed.taken took i (takes i ∙ beside q.0 i (x ∷ []) (λ e. ne (sym e))) ∙ (h.taken ∙ ap (λ (s : Option Cargo). h.back ++ option_to_list s) (sym stray));
      stands = as_work w' h.start h.back (with_more (λ j. passed.taken (queue_at f j)) k (x ∷ [])) (λ j. passed.sent (queue_at t j)) (λ j. passed.taken (queue_at f j) ++ took (queue_at f j)) (λ j. passed.sent (queue_at t j) ++ put (queue_at t j)) (passed.sent o) (passed.sent o ++ put o)
          (λ j low. ap (λ c. passed.taken (queue_at f j) ++ c) (at_client f k q at apart took (x ∷ []) takes j (let m = as_many in omega (arith, m, from_each, low)) (cases_eq k j)))
          (none_on passed.sent put o (puts o)) (λ j low. none_on passed.sent put (queue_at t j) (puts (queue_at t j))) stands;
      stray = λ y is. let e : None ≡ Some y = sym (stray ∙ free) ∙ is in absurd cc;
      conserves = λ c. balance_in c (counted_later c took (x ∷ []) i f k q at apart ne takes);
    }

  -- entries went
  module _ (p : List Cargo) (takes : (n : ℕ) → took n ≡ []) (free : w.stray ≡ None) (stray : w'.stray ≡ w.stray) (held : (c : Count) → weighed c (work_cargo w) ≡ weighed c p + weighed c (work_cargo w')) where
    balance_out : (c : Count) → counted c (bodies_at put (o ∷ map (λ q. q.0) t)) ≡ weighed c p → counted c (Carried.Page h.start ∷ []) + counted c (bodies_at (with passed.taken took) (i ∷ map (λ q. q.0) f)) ≡ counted c (bodies_at (with passed.sent put) (o ∷ map (λ q. q.0) t)) + (weighed c (work_cargo w') + counted c [])
    balance_out c one =
        let more = counted_more c passed.sent put (o ∷ map (λ q. q.0) t) in
        let none = ap (λ (l : Lists). counted c (bodies_at l (i ∷ map (λ q. q.0) f))) (none_more passed.taken took takes) in
        let was = h.conserves c in
        let hand = held c in
        omega (arith, more, none, one, was, hand)

    taken_still : passed.taken i ++ took i ≡ h.back ++ option_to_list w'.stray
    taken_still = none_on passed.taken took i (takes i) ∙ (h.taken ∙ ap (λ (s : Option Cargo). h.back ++ option_to_list s) (sym stray))

    none_strays : (y : Cargo) → w'.stray ≡ Some y → IsOutOfTurn (after.sent o) h.back y
    none_strays y is = let e : None ≡ Some y = sym (stray ∙ free) ∙ is in absurd cc

    -- to the driver
    pub driver_out : ((k : ℕ) (q : QueueId) → slice_get t k ≡ Some q → o ≡ q.0 → ⊥) → length t ≡ length (holders w.desk) → ((n : ℕ) → put n ≡ if_there (o == n) p) → ((start : Paged) (back ss : List Cargo) (came gave : ℕ → List Cargo) → WorkStands w start back came ss gave → WorkStands w' start back came (ss ++ p) gave) → VirtStands i o f t w' after
    driver_out apart to_each puts stands = record {
      work = fits;
      start = h.start;
      long = h.long;
      back = h.back;
      taken = taken_still;
      stands = as_work w' h.start h.back (λ j. passed.taken (queue_at f j)) (λ j. passed.sent (queue_at t j)) (λ j. passed.taken (queue_at f j) ++ took (queue_at f j)) (λ j. passed.sent (queue_at t j) ++ put (queue_at t j)) (passed.sent o ++ p) (passed.sent o ++ put o)
          (λ j low. none_on passed.taken took (queue_at f j) (takes (queue_at f j))) (ap (λ c. passed.sent o ++ c) (puts o ∙ if_there_here o p))
          (λ j low. none_on passed.sent put (queue_at t j) (puts (queue_at t j) ∙ beside o (queue_at t j) p (apart j (slice_index_or t j (record { 0 = 0 })) (queue_there t j (let m = as_many in omega (arith, m, to_each, low))))))
          (stands h.start h.back (passed.sent o) (λ j. passed.taken (queue_at f j)) (λ j. passed.sent (queue_at t j)) h.stands);
      stray = none_strays;
      conserves = λ c. balance_out c (counted_first c put p o t apart puts);
    }

    -- to client k
    pub client_out : (k : ℕ) (q : QueueId) → slice_get t k ≡ Some q → AreApart t → (o ≡ q.0 → ⊥) → length t ≡ length (holders w.desk) → ((n : ℕ) → put n ≡ if_there (q.0 == n) p) → ((start : Paged) (back ss : List Cargo) (came gave : ℕ → List Cargo) → WorkStands w start back came ss gave → WorkStands w' start back came ss (with_more gave k p)) → VirtStands i o f t w' after
    client_out k q at apart ne to_each puts stands = record {
      work = fits;
      start = h.start;
      long = h.long;
      back = h.back;
      taken = taken_still;
      stands = as_work w' h.start h.back (λ j. passed.taken (queue_at f j)) (with_more (λ j. passed.sent (queue_at t j)) k p) (λ j. passed.taken (queue_at f j) ++ took (queue_at f j)) (λ j. passed.sent (queue_at t j) ++ put (queue_at t j)) (passed.sent o) (passed.sent o ++ put o)
          (λ j low. none_on passed.taken took (queue_at f j) (takes (queue_at f j))) (none_on passed.sent put o (puts o ∙ beside q.0 o p (λ e. ne (sym e))))
          (λ j low. ap (λ c. passed.sent (queue_at t j) ++ c) (at_client t k q at apart put p puts j (let m = as_many in omega (arith, m, to_each, low)) (cases_eq k j)))
          (stands h.start h.back (passed.sent o) (λ j. passed.taken (queue_at f j)) (λ j. passed.sent (queue_at t j)) h.stands);
      stray = none_strays;
      conserves = λ c. balance_out c (counted_later c put p o t k q at apart ne puts);
    }

-- nothing strayed where something was needed
pub is_free : (stray : Option Cargo) (b : Bool) → is_some stray ≡ not b → b ≡ true → stray ≡ None
is_free None b h t = refl
is_free (Some y) b h t = let e : true ≡ false = h ∙ ap not t in cc

pub free_from : (stray : Option Cargo) (b : Bool) → (is_none stray && b) ≡ true → stray ≡ None
free_from None b h = refl
free_from (Some y) b h = cc

-- of nothing, nothing was put
pub nothing_put : (e : Event) → put_of e None ≡ None
nothing_put e = by (is_some e.item) refl
  where
    by : (b : Bool) → is_some e.item ≡ b → put_of e None ≡ None
    by true h = given_some e None h
    by false h = given_none e None h
