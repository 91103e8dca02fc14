-- What the virtualiser stands for after each call.
use Rattle.std.proofs.Common.{◌≡◌, ◌⊎◌, ◌+◌, ◌≤◌, ◌<◌, ◌==◌, ◌&&◌, ℕ, zero, suc, Bool, true, false, cond, not, is_some, is_none, inl, inr, Option, Some, None, List, [], ◌∷◌, ◌++◌, All, length, length-append, map, slice_get, slice_set, slice_index_or, refl, sym, ap, ◌∙◌, subst, arith, append_assoc, append-nil}
use Rattle.std.specs.Option.{option_to_list, ForSome}
use Rattle.std.specs.List.{filter}
use Rattle.std.proofs.lemmas.List.{map-append}
use Rattle.std.proofs.lemmas.Bool.{eqb-true, eq-eqb, cases_eq}
use Rattle.std.proofs.lemmas.Option.{slice_get_within, slice_get-get_or}
use Rattle.cargo_core.specs.declared.item.Body.{Body}
use Rattle.cargo_core.specs.declared.item.Body.TheVariants as Bodies
use Rattle.cargo_core.specs.declared.item.Item.{Item}
use Rattle.cargo_core.specs.Pages.{Paged}
use Rattle.wire_core.specs.declared.names.QueueId.{QueueId}
use Rattle.wire_core.specs.declared.names.Event.{Event}
use Rattle.wire_core.specs.Deeds.{Cargo, put_of, given}
use Rattle.wire_core.specs.Lists.{Lists, Passed, with, if_there}
use Rattle.wire_core.proofs.Places.{if_there_here}
use Rattle.wire_core.proofs.Sinces.{eqb_apart}
use Rattle.turn_kit.specs.ManyEnds.{AreApart}
use Rattle.buffer_kit.specs.Clients.{queue_at, with_more}
use Rattle.buffer_kit.specs.declared.virt_ends.VirtEnds.{VirtEnds}
use Rattle.buffer_kit.specs.Virtualising.{SameVirt, FitsVirt, from_queues, to_queues}
use Rattle.wire_core.specs.Ends.{Role, End}
use Rattle.buffer_kit.proofs.Passing.{beside}
use Rattle.buffer_kit.proofs.ManyClients.{some_eq, queue_there, at_client, none_if}
use Rattle.i2c_virt.specs.I2cKit.Entries.{is_own_request}
use Rattle.i2c_virt.specs.declared.desk.Desk.{Desk}
use Rattle.i2c_virt.specs.declared.virtualiser.I2cVirt.{I2cVirt}
use Rattle.i2c_virt.specs.declared.work.From.{From}
use Rattle.i2c_virt.specs.declared.work.From.TheVariants as Source
use Rattle.i2c_virt.specs.declared.work.Stray.{Stray}
use Rattle.i2c_virt.specs.declared.work.Work.{Work}
use Rattle.i2c_virt.specs.Desks.{Judged, DeskStands, IsDesk, AreGiven, forwarded, own_entry, shared_entry, is_open}
use Rattle.i2c_virt.specs.Works.{Took, IsTook, IsSomeones, IsWork, WorkStands, Asked, Strayed, AskedIf, TookFrom, Answered, AnsweredIf, TookBack, clients_in, entries_of, judged_of, of_client, is_of, is_due, strayed_from, strayed_back, wants_at}
use Rattle.i2c_virt.specs.Virtualising.{VirtStands, I2cVirtStandsFor, VirtRow, IsAstray, IsResponseTo, FitsEnds, order_of, strays_of, strays_back, strays_by}
use Rattle.i2c_virt.proofs.Working.{judged_here, judged_beside, wanted_there}
use Rattle.i2c_virt.proofs.Desking.{given_fewer}
use Rattle.i2c_virt.proofs.Due.{due_by}

none_on : (lists more : Lists) (n : ℕ) → more n ≡ [] → lists n ++ more n ≡ lists n
none_on lists more n e = ap (λ c. lists n ++ c) e ∙ append-nil (lists n)

-- what was given matters only at the clients' places
as_gave : (w : Work) (log : List Took) (ss ss' bs : List Cargo) (gs gs' : ℕ → List Cargo) → ss' ≡ ss → ((k : ℕ) → k < length w.desks.items → gs' k ≡ gs k) → WorkStands w log ss bs gs → WorkStands w log ss' bs gs'
as_gave w log ss ss' bs gs gs' e f h = subst (λ xs. WorkStands w log xs bs gs') (sym e) (record {
  knows = h.knows;
  took = h.took;
  someones = h.someones;
  desks = λ k d at. subst (DeskStands k d (judged_of k log) (of_client k ss) (of_client k bs)) (sym (f k (slice_get_within w.desks.items k d at))) (h.desks k d at);
})

-- the same queues
pub moved : (e e' : VirtEnds) → SameVirt e e' → (w : Work) (passed : Passed) → VirtStands e.input.queue.0 e.output.queue.0 (from_queues e) (to_queues e) w passed → VirtStands e'.input.queue.0 e'.output.queue.0 (from_queues e') (to_queues e') w passed
moved e e' same w passed h =
    subst (λ (q : QueueId). VirtStands q.0 e'.output.queue.0 (from_queues e') (to_queues e') w passed) (sym same.input)
    (subst (λ (q : QueueId). VirtStands e.input.queue.0 q.0 (from_queues e') (to_queues e') w passed) (sym same.output)
    (subst (λ (qs : List QueueId). VirtStands e.input.queue.0 e.output.queue.0 qs (to_queues e') w passed) (sym same.from_clients)
    (subst (λ (qs : List QueueId). VirtStands e.input.queue.0 e.output.queue.0 (from_queues e) qs w passed) (sym same.to_clients) h)))

clients_more : (log : List Took) (t : Took) → clients_in (log ++ t ∷ []) ≡ clients_in log ++ t.request.client ∷ []
clients_more [] t = refl
clients_more (x ∷ log) t = ap (λ cs. x.request.client ∷ cs) (clients_more log t)

entries_here : (k : ℕ) (log : List Took) (t : Took) → t.request.client ≡ k → entries_of k (log ++ t ∷ []) ≡ entries_of k log ++ own_entry t.page ∷ []
entries_here k log t is = ap (map (λ (j : Judged). own_entry j.0)) (judged_here k log t is) ∙ map-append (λ (j : Judged). own_entry j.0) (judged_of k log) _

entries_beside : (k : ℕ) (log : List Took) (t : Took) → (t.request.client ≡ k → ⊥) → entries_of k (log ++ t ∷ []) ≡ entries_of k log
entries_beside k log t off = ap (map (λ (j : Judged). own_entry j.0)) (judged_beside k log t off)

strays_here : (k : ℕ) (x : Cargo) → strays_of k (Some (strayed_from k x)) ≡ x ∷ []
strays_here k x = ap (λ b. cond b (x ∷ []) []) (eq-eqb k k refl)

strays_beside : (k j : ℕ) (x : Cargo) → (k ≡ j → ⊥) → strays_of j (Some (strayed_from k x)) ≡ []
strays_beside k j x off = ap (λ b. cond b (x ∷ []) []) (eqb_apart k j off)

module _ (i o : ℕ) (f t : List QueueId) (w w' : Work) (passed : Passed) (took put : Lists) (calls : List Event) (h : VirtStands i o f t w passed) where
  abbrev after : Passed
  after = record { taken = with passed.taken took; sent = with passed.sent put; calls = calls }

  abbrev gave : ℕ → List Cargo
  gave k = passed.sent (queue_at t k)

  -- nothing moved at its own queues
  pub still_at : took i ≡ [] → ((k : ℕ) → k < length w.desks.items → took (queue_at f k) ≡ []) → put o ≡ [] → ((k : ℕ) → k < length w.desks.items → put (queue_at t k) ≡ []) → order_of f calls ≡ order_of f passed.calls → VirtStands i o f t w after
  still_at came comes went goes order = record {
    work = h.work;
    log = h.log;
    back = h.back;
    stands = as_gave w h.log (passed.sent o) (after.sent o) h.back gave (λ k. after.sent (queue_at t k)) (none_on passed.sent put o went) (λ k lt. none_on passed.sent put (queue_at t k) (goes k lt)) h.stands;
    order = order ∙ h.order;
    requests = λ k lt. none_on passed.taken took (queue_at f k) (comes k lt) ∙ h.requests k lt;
    responses = none_on passed.taken took i came ∙ h.responses;
    out_of_turn = λ s is. subst (λ ss. IsAstray (length w.desks.items) ss h.back s.from s.entry) (sym (none_on passed.sent put o went)) (h.out_of_turn s is);
    waiting = h.waiting;
  }

  -- nothing moved
  pub still : ((n : ℕ) → took n ≡ []) → ((n : ℕ) → put n ≡ []) → order_of f calls ≡ order_of f passed.calls → VirtStands i o f t w after
  still takes puts order = still_at (takes i) (λ k lt. takes (queue_at f k)) (puts o) (λ k lt. puts (queue_at t k)) order

  -- nothing was out of turn
  module _ (free : w.stray ≡ None) (fits' : IsWork w') where
    no_strays : (k : ℕ) → strays_of k w.stray ≡ []
    no_strays k = ap (strays_of k) free

    taken_before : (k : ℕ) → k < length w.desks.items → passed.taken (queue_at f k) ≡ entries_of k h.log
    taken_before k lt = h.requests k lt ∙ (ap (λ xs. entries_of k h.log ++ xs) (no_strays k) ∙ append-nil (entries_of k h.log))

    back_before : passed.taken i ≡ h.back
    back_before = h.responses ∙ (ap (λ (s : Option Stray). h.back ++ strays_back s) free ∙ append-nil h.back)

    order_before : order_of f passed.calls ≡ clients_in h.log
    order_before = h.order ∙ (ap (λ (s : Option Stray). clients_in h.log ++ strays_by s) free ∙ append-nil (clients_in h.log))

    -- nothing is out of turn still
    module _ (stray : w'.stray ≡ w.stray) where
      none_now : w'.stray ≡ None
      none_now = stray ∙ free

      none_astray : ForSome w'.stray (λ (s : Stray). IsAstray (length w'.desks.items) (after.sent o) h.back s.from s.entry)
      none_astray s is = let no : None ≡ Some s = sym none_now ∙ is in cc

      none_waits : (k : ℕ) (d : Desk) (s : Stray) → w'.stray ≡ Some s → s.from ≡ Source.Client k → slice_get w'.desks.items k ≡ Some d → is_open d ≡ true
      none_waits k d s is from at = let no : None ≡ Some s = sym none_now ∙ is in cc

    -- a request of client k came
    module _ (k : ℕ) (q : QueueId) (x : Cargo) (at : slice_get f k ≡ Some q) (apart : AreApart f) (off : i ≡ q.0 → ⊥) (from_each : length f ≡ length w.desks.items) (there : k < length w.desks.items) (opened : (d : Desk) → slice_get w.desks.items k ≡ Some d → is_open d ≡ true)
        (takes : (n : ℕ) → took n ≡ if_there (q.0 == n) (x ∷ [])) (puts : (n : ℕ) → put n ≡ []) (order : order_of f calls ≡ order_of f passed.calls ++ k ∷ []) (same : length w'.desks.items ≡ length w.desks.items) where
      came_at : (j : ℕ) → j < length w.desks.items → took (queue_at f j) ≡ if_there (k == j) (x ∷ [])
      came_at j lt = at_client f k q at apart took (x ∷ []) takes j (omega (arith, from_each, lt)) (cases_eq k j)

      none_back : took i ≡ []
      none_back = takes i ∙ beside q.0 i (x ∷ []) (λ e. off (sym e))

      taken_by_turn : (b : Bool) (j : ℕ) → (k == j) ≡ b → j < length w.desks.items → after.taken (queue_at f j) ≡ entries_of j h.log ++ if_there b (x ∷ [])
      taken_by_turn b j is lt = ap (λ ys. passed.taken (queue_at f j) ++ ys) (came_at j lt ∙ ap (λ c. if_there c (x ∷ [])) is) ∙ ap (λ ys. ys ++ if_there b (x ∷ [])) (taken_before j lt)

      asked : Asked w k x w' → VirtStands i o f t w' after
      asked a = record {
        work = fits';
        log = h.log ++ a.took ∷ [];
        back = h.back;
        stands = as_gave w' (h.log ++ a.took ∷ []) (passed.sent o) (after.sent o) h.back gave (λ j. after.sent (queue_at t j)) (none_on passed.sent put o (puts o)) (λ j lt. none_on passed.sent put (queue_at t j) (puts (queue_at t j))) (a.stands h.log (passed.sent o) h.back gave h.stands);
        order = order ∙ (ap (λ cs. cs ++ k ∷ []) order_before ∙ (ap (λ c. clients_in h.log ++ c ∷ []) (sym a.client) ∙ (sym (clients_more h.log a.took) ∙ (sym (append-nil (clients_in (h.log ++ a.took ∷ []))) ∙ ap (λ (s : Option Stray). clients_in (h.log ++ a.took ∷ []) ++ strays_by s) (sym (a.stray ∙ free))))));
        requests = λ j lt. now j (let m = same in omega (arith, m, lt)) (cases_eq k j) ∙ (sym (append-nil (entries_of j (h.log ++ a.took ∷ []))) ∙ ap (λ (s : Option Stray). entries_of j (h.log ++ a.took ∷ []) ++ strays_of j s) (sym (a.stray ∙ free)));
        responses = none_on passed.taken took i none_back ∙ (back_before ∙ (sym (append-nil h.back) ∙ ap (λ (s : Option Stray). h.back ++ strays_back s) (sym (a.stray ∙ free))));
        out_of_turn = none_astray a.stray;
        waiting = none_waits a.stray;
      }
        where
          now : (j : ℕ) → j < length w.desks.items → (k ≡ j) ⊎ (k ≡ j → ⊥) → after.taken (queue_at f j) ≡ entries_of j (h.log ++ a.took ∷ [])
          now j lt (inl e) = taken_by_turn true j (eq-eqb k j e) lt ∙ (ap (λ y. entries_of j h.log ++ y ∷ []) a.is ∙ sym (entries_here j h.log a.took (a.client ∙ e)))
          now j lt (inr ne) = taken_by_turn false j (eqb_apart k j ne) lt ∙ (append-nil (entries_of j h.log) ∙ sym (entries_beside j h.log a.took (λ e. ne (sym a.client ∙ e))))

      astray : is_own_request (record { 0 = k }) x ≡ false → Strayed w (strayed_from k x) w' → VirtStands i o f t w' after
      astray bad a = subst (λ (v : Work). VirtStands i o f t v after) (sym a.is) (record {
        work = record { owners = h.work.owners; few = h.work.few; desks = h.work.desks };
        log = h.log;
        back = h.back;
        stands = as_gave (record w { stray = Some (strayed_from k x) }) h.log (passed.sent o) (after.sent o) h.back gave (λ j. after.sent (queue_at t j)) (none_on passed.sent put o (puts o)) (λ j lt. none_on passed.sent put (queue_at t j) (puts (queue_at t j))) (record { knows = h.stands.knows; took = h.stands.took; someones = h.stands.someones; desks = h.stands.desks });
        order = order ∙ ap (λ cs. cs ++ k ∷ []) order_before;
        requests = λ j lt. now j lt (cases_eq k j);
        responses = none_on passed.taken took i none_back ∙ (back_before ∙ sym (append-nil h.back));
        out_of_turn = λ s is. subst (λ (z : Stray). IsAstray (length w.desks.items) (after.sent o) h.back z.from z.entry) (some_eq is) (there, bad);
        waiting = λ j d s is from dat. opened d (subst (λ n. slice_get w.desks.items n ≡ Some d) (sym (number k j (ap (λ (z : Stray). z.from) (some_eq is) ∙ from))) dat);
      })
        where
          number : (a b : ℕ) → Source.Client a ≡ Source.Client b → a ≡ b
          number a b e = cc

          now : (j : ℕ) → j < length w.desks.items → (k ≡ j) ⊎ (k ≡ j → ⊥) → after.taken (queue_at f j) ≡ entries_of j h.log ++ strays_of j (Some (strayed_from k x))
          now j lt (inl e) = taken_by_turn true j (eq-eqb k j e) lt ∙ ap (λ ys. entries_of j h.log ++ ys) (sym (ap (λ b. cond b (x ∷ []) []) (eq-eqb k j e)))
          now j lt (inr ne) = taken_by_turn false j (eqb_apart k j ne) lt ∙ ap (λ ys. entries_of j h.log ++ ys) (sym (strays_beside k j x ne))

      pub request_in : TookFrom w k x w' → VirtStands i o f t w' after
      request_in a = by (is_own_request (record { 0 = k }) x) refl a
        where
          by : (b : Bool) → is_own_request (record { 0 = k }) x ≡ b → AskedIf b w k x w' → VirtStands i o f t w' after
          by true is a = asked a
          by false is a = astray is a

    -- an entry of the driver came
    module _ (y : Cargo) (apart : (k : ℕ) (q : QueueId) → slice_get f k ≡ Some q → i ≡ q.0 → ⊥) (from_each : length f ≡ length w.desks.items)
        (takes : (n : ℕ) → took n ≡ if_there (i == n) (y ∷ [])) (puts : (n : ℕ) → put n ≡ []) (order : order_of f calls ≡ order_of f passed.calls) (same : length w'.desks.items ≡ length w.desks.items) where
      others : (k : ℕ) → k < length w.desks.items → after.taken (queue_at f k) ≡ entries_of k h.log
      others k lt = none_on passed.taken took (queue_at f k) (takes (queue_at f k) ∙ beside i (queue_at f k) (y ∷ []) (apart k (slice_index_or f k (record { 0 = 0 })) (queue_there f k (omega (arith, from_each, lt))))) ∙ taken_before k lt

      back_now : after.taken i ≡ h.back ++ y ∷ []
      back_now = ap (λ ys. passed.taken i ++ ys) (takes i ∙ if_there_here i (y ∷ [])) ∙ ap (λ ys. ys ++ y ∷ []) back_before

      answered : Answered w y w' → VirtStands i o f t w' after
      answered a = record {
        work = fits';
        log = h.log;
        back = h.back ++ y ∷ [];
        stands = as_gave w' h.log (passed.sent o) (after.sent o) (h.back ++ y ∷ []) gave (λ j. after.sent (queue_at t j)) (none_on passed.sent put o (puts o)) (λ j lt. none_on passed.sent put (queue_at t j) (puts (queue_at t j))) (a.stands h.log (passed.sent o) h.back gave h.stands);
        order = order ∙ (order_before ∙ (sym (append-nil (clients_in h.log)) ∙ ap (λ (s : Option Stray). clients_in h.log ++ strays_by s) (sym (a.stray ∙ free))));
        requests = λ j lt. others j (let m = same in omega (arith, m, lt)) ∙ (sym (append-nil (entries_of j h.log)) ∙ ap (λ (s : Option Stray). entries_of j h.log ++ strays_of j s) (sym (a.stray ∙ free)));
        responses = back_now ∙ (sym (append-nil (h.back ++ y ∷ [])) ∙ ap (λ (s : Option Stray). (h.back ++ y ∷ []) ++ strays_back s) (sym (a.stray ∙ free)));
        out_of_turn = λ s is. let no : None ≡ Some s = sym (a.stray ∙ free) ∙ is in cc;
        waiting = none_waits a.stray;
      }

      astray_back : is_due w y ≡ false → Strayed w (strayed_back y) w' → VirtStands i o f t w' after
      astray_back bad a = subst (λ (v : Work). VirtStands i o f t v after) (sym a.is) (record {
        work = record { owners = h.work.owners; few = h.work.few; desks = h.work.desks };
        log = h.log;
        back = h.back;
        stands = as_gave (record w { stray = Some (strayed_back y) }) h.log (passed.sent o) (after.sent o) h.back gave (λ j. after.sent (queue_at t j)) (none_on passed.sent put o (puts o)) (λ j lt. none_on passed.sent put (queue_at t j) (puts (queue_at t j))) (record { knows = h.stands.knows; took = h.stands.took; someones = h.stands.someones; desks = h.stands.desks });
        order = order ∙ (order_before ∙ sym (append-nil (clients_in h.log)));
        requests = λ j lt. others j lt ∙ sym (append-nil (entries_of j h.log));
        responses = back_now;
        out_of_turn = λ s is. subst (λ (z : Stray). IsAstray (length w.desks.items) (after.sent o) h.back z.from z.entry) (some_eq is)
            (λ r. let no : false ≡ true = sym bad ∙ due_by w h.log (passed.sent o) h.back gave h.work h.stands y (subst (λ ss. IsResponseTo ss h.back y) (none_on passed.sent put o (puts o)) r) in cc);
        waiting = λ j d s is from dat. let no : Source.Driver ≡ Source.Client j = ap (λ (z : Stray). z.from) (some_eq is) ∙ from in cc;
      })

      pub response_in : TookBack w y w' → VirtStands i o f t w' after
      response_in a = by (is_due w y) refl a
        where
          by : (b : Bool) → is_due w y ≡ b → AnsweredIf b w y w' → VirtStands i o f t w' after
          by true is a = answered a
          by false is a = astray_back is a

    -- entries went
    module _ (p : List Cargo) (stray : w'.stray ≡ w.stray) (takes : (n : ℕ) → took n ≡ []) (order : order_of f calls ≡ order_of f passed.calls) (same : length w'.desks.items ≡ length w.desks.items) where
      went : WorkStands w' h.log (after.sent o) h.back (λ j. after.sent (queue_at t j)) → VirtStands i o f t w' after
      went st = record {
        work = fits';
        log = h.log;
        back = h.back;
        stands = st;
        order = order ∙ (h.order ∙ ap (λ (s : Option Stray). clients_in h.log ++ strays_by s) (sym stray));
        requests = λ j lt. none_on passed.taken took (queue_at f j) (takes (queue_at f j)) ∙ (h.requests j (let m = same in omega (arith, m, lt)) ∙ ap (λ (s : Option Stray). entries_of j h.log ++ strays_of j s) (sym stray));
        responses = none_on passed.taken took i (takes i) ∙ (h.responses ∙ ap (λ (s : Option Stray). h.back ++ strays_back s) (sym stray));
        out_of_turn = none_astray stray;
        waiting = none_waits stray;
      }

      -- to the driver
      pub driver_out : ((k : ℕ) (q : QueueId) → slice_get t k ≡ Some q → o ≡ q.0 → ⊥) → length t ≡ length w.desks.items → ((n : ℕ) → put n ≡ if_there (o == n) p)
          → ((log : List Took) (ss bs : List Cargo) (gs : ℕ → List Cargo) → WorkStands w log ss bs gs → WorkStands w' log (ss ++ p) bs gs) → VirtStands i o f t w' after
      driver_out apart to_each puts stands = went (as_gave w' h.log (passed.sent o ++ p) (after.sent o) h.back gave (λ j. after.sent (queue_at t j)) (ap (λ c. passed.sent o ++ c) (puts o ∙ if_there_here o p))
          (λ j lt. none_on passed.sent put (queue_at t j) (puts (queue_at t j) ∙ beside o (queue_at t j) p (apart j (slice_index_or t j (record { 0 = 0 })) (queue_there t j (let m = same in omega (arith, m, to_each, lt))))))
          (stands h.log (passed.sent o) h.back gave h.stands))

      -- to client k
      pub client_out : (k : ℕ) (q : QueueId) → slice_get t k ≡ Some q → AreApart t → (o ≡ q.0 → ⊥) → length t ≡ length w.desks.items → ((n : ℕ) → put n ≡ if_there (q.0 == n) p)
          → ((log : List Took) (ss bs : List Cargo) (gs : ℕ → List Cargo) → WorkStands w log ss bs gs → WorkStands w' log ss bs (with_more gs k p)) → VirtStands i o f t w' after
      client_out k q at apart off to_each puts stands = went (as_gave w' h.log (passed.sent o) (after.sent o) h.back (with_more gave k p) (λ j. after.sent (queue_at t j)) (none_on passed.sent put o (puts o ∙ beside q.0 o p (λ e. off (sym e))))
          (λ j lt. ap (λ c. passed.sent (queue_at t j) ++ c) (at_client t k q at apart put p puts j (let m = same in omega (arith, m, to_each, lt)) (cases_eq k j)))
          (stands h.log (passed.sent o) h.back gave h.stands))

-- of nothing, nothing was put
given_none : (item : Option Item) → given item None ≡ None
given_none None = refl
given_none (Some x) = refl

pub nothing_put : (e : Event) → put_of e None ≡ None
nothing_put e = given_none e.item

pub is_free : (stray : Option Stray) (b : Bool) → is_some stray ≡ not b → b ≡ true → stray ≡ None
is_free None b h t = refl
is_free (Some s) b h t = let no : true ≡ false = h ∙ ap not t in cc

pub free_from : (stray : Option Stray) (b : Bool) → (is_none stray && b) ≡ true → stray ≡ None
free_from None b h = refl
free_from (Some y) b h = cc

few_strays : (k : ℕ) (s : Option Stray) → length (strays_of k s) ≤ 1
few_strays k None = omega arith
few_strays k (Some s) = by s.from
  where
    one : (b : Bool) → length (cond b (s.entry ∷ []) []) ≤ 1
    one true = omega arith
    one false = omega arith

    by : (from : From) → length (strays_of k (Some (record { from = from; entry = s.entry }))) ≤ 1
    by Source.Driver = omega arith
    by (Source.Client j) = one (j == k)

-- it fits with other work at the same queues
pub fits_same : (ends ends' : Role → ℕ → End) (v v' : I2cVirt) → FitsEnds ends v → FitsVirt ends' v'.ends → SameVirt v.ends v'.ends → IsWork v'.work → length v'.work.desks.items ≡ length v.work.desks.items → FitsEnds ends' v'
fits_same ends ends' v v' f now same work many = record {
  ends_fit = now;
  work = work;
  from_each = ap length same.from_clients ∙ (f.from_each ∙ sym many);
  to_each = ap length same.to_clients ∙ (f.to_each ∙ sym many);
}
