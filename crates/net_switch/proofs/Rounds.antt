-- The turns of a switch's ends.
use Rattle.std.proofs.Common.{◌≡◌, ◌+◌, ◌*◌, ◌<◌, ◌&&◌, ℕ, suc, Bool, true, false, Some, List, ◌∷◌, ◌++◌, length, slice_get, slice_index_or, refl, sym, ap, ◌∙◌, subst, zero-add, arith}
use Rattle.std.proofs.lemmas.Option.{slice_get-get_or}
use Rattle.std.proofs.lemmas.List.{length-map, length-append}
use Rattle.wire_core.specs.declared.names.QueueId.{QueueId}
use Rattle.wire_core.specs.declared.names.Event.{Event}
use Rattle.wire_core.specs.Marks.{is_mark}
use Rattle.turn_kit.specs.declared.turns.Turn.{Turn}
use Rattle.turn_kit.specs.declared.ends.Intake.{Intake}
use Rattle.turn_kit.specs.declared.ends.Outlet.{Outlet}
use Rattle.turn_kit.specs.Turns.{Post, PostedAt, Turned, Choosing, choosing, offered_from, choice_of, chosen_place, last_after, settled_all, is_at_rest}
use Rattle.turn_kit.specs.Posts.{intake_post, outlet_post}
use Rattle.turn_kit.specs.ManyEnds.{intake_posts, outlet_posts, intake_queues, outlet_queues, needs_from}
use Rattle.turn_kit.proofs.Offers.{get_need}
use Rattle.turn_kit.proofs.Turning.{no_mark_at}
use Rattle.turn_kit.specs.declared.intakes.Intakes.{Intakes}
use Rattle.turn_kit.specs.declared.outlets.Outlets.{Outlets}
use Rattle.buffer_kit.proofs.TwoLists.{offered_append, offered_count, settled_append, posted_front, posted_behind, get_front, get_behind, needs_length, needs_same}
use Rattle.net_switch.specs.declared.ends.SwitchEnd.{SwitchEnd}
use Rattle.net_switch.specs.declared.ends.SwitchEnd.TheVariants as At
use Rattle.net_switch.specs.declared.ends.SwitchEnds.{SwitchEnds}
use Rattle.net_switch.specs.Ends.{SameEnds, IsThere, come_queues, back_queues, room_queues, copy_queues, switch_posts, switch_needs, ends_round, place_of, need_at}

no_queue : QueueId
no_queue = record { 0 = 0 }

intakes_long : (xs : Intakes) → length (intake_posts xs) ≡ length (intake_queues xs)
intakes_long xs =
    let a = length-map xs.ends.items intake_post in
    let b = length-map xs.ends.items (λ (i : Intake). i.queue) in
    omega (arith, a, b)

outlets_long : (xs : Outlets) → length (outlet_posts xs) ≡ length (outlet_queues xs)
outlets_long xs =
    let a = length-map xs.ends.items outlet_post in
    let b = length-map xs.ends.items (λ (i : Outlet). i.queue) in
    omega (arith, a, b)

-- as many of each sort as the first one's are
pub record AreMany (e : SwitchEnds) : Type 0 where
  pub back : length (back_queues e) ≡ length (come_queues e)
  pub room : length (room_queues e) ≡ length (come_queues e)
  pub copy : length (copy_queues e) ≡ length (come_queues e)

module _ (e : SwitchEnds) (t r n l : ℕ → Bool) where
  come_long : length (needs_from t 0 (come_queues e)) ≡ length (intake_posts e.come)
  come_long = needs_length t 0 (come_queues e) ∙ sym (intakes_long e.come)

  back_long : length (needs_from r 0 (back_queues e)) ≡ length (outlet_posts e.back)
  back_long = needs_length r 0 (back_queues e) ∙ sym (outlets_long e.back)

  room_long : length (needs_from n 0 (room_queues e)) ≡ length (intake_posts e.room)
  room_long = needs_length n 0 (room_queues e) ∙ sym (intakes_long e.room)

  copy_long : length (needs_from l 0 (copy_queues e)) ≡ length (outlet_posts e.copy)
  copy_long = needs_length l 0 (copy_queues e) ∙ sym (outlets_long e.copy)

  posts_long : length (switch_posts e) ≡ length (come_queues e) + (length (back_queues e) + (length (room_queues e) + length (copy_queues e)))
  posts_long =
      let a = length-append (intake_posts e.come) (outlet_posts e.back ++ (intake_posts e.room ++ outlet_posts e.copy)) in
      let b = length-append (outlet_posts e.back) (intake_posts e.room ++ outlet_posts e.copy) in
      let c = length-append (intake_posts e.room) (outlet_posts e.copy) in
      let x = intakes_long e.come in
      let y = outlets_long e.back in
      let z = intakes_long e.room in
      let w = outlets_long e.copy in
      omega (arith, a, b, c, x, y, z, w)

  pub needs_long : length (switch_needs e t r n l) ≡ length (switch_posts e)
  needs_long =
      let a = length-append (needs_from t 0 (come_queues e)) (needs_from r 0 (back_queues e) ++ (needs_from n 0 (room_queues e) ++ needs_from l 0 (copy_queues e))) in
      let b = length-append (needs_from r 0 (back_queues e)) (needs_from n 0 (room_queues e) ++ needs_from l 0 (copy_queues e)) in
      let c = length-append (needs_from n 0 (room_queues e)) (needs_from l 0 (copy_queues e)) in
      let x = needs_length t 0 (come_queues e) in
      let y = needs_length r 0 (back_queues e) in
      let z = needs_length n 0 (room_queues e) in
      let w = needs_length l 0 (copy_queues e) in
      let p = posts_long in
      omega (arith, a, b, c, x, y, z, w, p)

  pub choice_count : AreMany e → (choice_of (ends_round e t r n l)).count ≡ 4 * length (come_queues e)
  choice_count m =
      let b = m.back in let ro = m.room in let co = m.copy in
      offered_count (choosing (length (switch_posts e)) e.turn.last) 0 (switch_posts e) (switch_needs e t r n l) ∙ (let p = posts_long in omega (arith, p, b, ro, co))

  -- the ends were offered in their order
  pub all_offered : AreMany e → (count ports : ℕ) (c0 c1 c2 c3 c4 : Choosing) → ports ≡ length (come_queues e) → count ≡ 4 * ports → c0 ≡ choosing count e.turn.last
      → c1 ≡ offered_from c0 0 (intake_posts e.come) (needs_from t 0 (come_queues e)) → c2 ≡ offered_from c1 ports (outlet_posts e.back) (needs_from r 0 (back_queues e))
      → c3 ≡ offered_from c2 (2 * ports) (intake_posts e.room) (needs_from n 0 (room_queues e)) → c4 ≡ offered_from c3 (3 * ports) (outlet_posts e.copy) (needs_from l 0 (copy_queues e)) → c4 ≡ choice_of (ends_round e t r n l)
  all_offered m count ports c0 c1 c2 c3 c4 pe ce h0 h1 h2 h3 h4 =
      let b = m.back in let ro = m.room in let co = m.copy in
      let x = intakes_long e.come in
      let y = outlets_long e.back in
      let z = intakes_long e.room in
      let p = posts_long in
      let start : c0 ≡ choosing (length (switch_posts e)) e.turn.last = h0 ∙ ap (λ k. choosing k e.turn.last) (omega (arith, p, b, ro, co, pe, ce)) in
      let at1 : ports ≡ 0 + length (intake_posts e.come) = omega (arith, x, pe) in
      let at2 : 2 * ports ≡ ports + length (outlet_posts e.back) = omega (arith, y, b, pe) in
      let at3 : 3 * ports ≡ 2 * ports + length (intake_posts e.room) = omega (arith, z, ro, pe) in
      let whole : c4 ≡ offered_from (choosing (length (switch_posts e)) e.turn.last) 0 (switch_posts e) (switch_needs e t r n l) =
      h4 ∙ (ap (λ c. offered_from c (3 * ports) (outlet_posts e.copy) (needs_from l 0 (copy_queues e))) h3
      ∙ (ap (λ k. offered_from (offered_from c2 (2 * ports) (intake_posts e.room) (needs_from n 0 (room_queues e))) k (outlet_posts e.copy) (needs_from l 0 (copy_queues e))) at3
      ∙ (sym (offered_append c2 (2 * ports) (intake_posts e.room) (outlet_posts e.copy) (needs_from n 0 (room_queues e)) (needs_from l 0 (copy_queues e)) room_long)
      ∙ (ap (λ c. offered_from c (2 * ports) (intake_posts e.room ++ outlet_posts e.copy) (needs_from n 0 (room_queues e) ++ needs_from l 0 (copy_queues e))) h2
      ∙ (ap (λ k. offered_from (offered_from c1 ports (outlet_posts e.back) (needs_from r 0 (back_queues e))) k (intake_posts e.room ++ outlet_posts e.copy) (needs_from n 0 (room_queues e) ++ needs_from l 0 (copy_queues e))) at2
      ∙ (sym (offered_append c1 ports (outlet_posts e.back) (intake_posts e.room ++ outlet_posts e.copy) (needs_from r 0 (back_queues e)) (needs_from n 0 (room_queues e) ++ needs_from l 0 (copy_queues e)) back_long)
      ∙ (ap (λ c. offered_from c ports (outlet_posts e.back ++ (intake_posts e.room ++ outlet_posts e.copy)) (needs_from r 0 (back_queues e) ++ (needs_from n 0 (room_queues e) ++ needs_from l 0 (copy_queues e)))) h1
      ∙ (ap (λ k. offered_from (offered_from c0 0 (intake_posts e.come) (needs_from t 0 (come_queues e))) k (outlet_posts e.back ++ (intake_posts e.room ++ outlet_posts e.copy)) (needs_from r 0 (back_queues e) ++ (needs_from n 0 (room_queues e) ++ needs_from l 0 (copy_queues e)))) at1
      ∙ (sym (offered_append c0 0 (intake_posts e.come) (outlet_posts e.back ++ (intake_posts e.room ++ outlet_posts e.copy)) (needs_from t 0 (come_queues e)) (needs_from r 0 (back_queues e) ++ (needs_from n 0 (room_queues e) ++ needs_from l 0 (copy_queues e))) come_long)
      ∙ ap (λ c. offered_from c 0 (switch_posts e) (switch_needs e t r n l)) start))))))))) in
      whole

  -- all ends are settled
  pub all_settled : settled_all (switch_posts e) (switch_needs e t r n l)
      ≡ (settled_all (intake_posts e.come) (needs_from t 0 (come_queues e)) && (settled_all (outlet_posts e.back) (needs_from r 0 (back_queues e))
      && (settled_all (intake_posts e.room) (needs_from n 0 (room_queues e)) && settled_all (outlet_posts e.copy) (needs_from l 0 (copy_queues e)))))
  all_settled =
      settled_append (intake_posts e.come) (outlet_posts e.back ++ (intake_posts e.room ++ outlet_posts e.copy)) (needs_from t 0 (come_queues e)) (needs_from r 0 (back_queues e) ++ (needs_from n 0 (room_queues e) ++ needs_from l 0 (copy_queues e))) come_long
      ∙ ap (λ b. settled_all (intake_posts e.come) (needs_from t 0 (come_queues e)) && b)
      (settled_append (outlet_posts e.back) (intake_posts e.room ++ outlet_posts e.copy) (needs_from r 0 (back_queues e)) (needs_from n 0 (room_queues e) ++ needs_from l 0 (copy_queues e)) back_long
      ∙ ap (λ b. settled_all (outlet_posts e.back) (needs_from r 0 (back_queues e)) && b)
      (settled_append (intake_posts e.room) (outlet_posts e.copy) (needs_from n 0 (room_queues e)) (needs_from l 0 (copy_queues e)) room_long))

  pub rest_of : (a b x y : Bool) → a ≡ settled_all (intake_posts e.come) (needs_from t 0 (come_queues e)) → b ≡ settled_all (outlet_posts e.back) (needs_from r 0 (back_queues e))
      → x ≡ settled_all (intake_posts e.room) (needs_from n 0 (room_queues e)) → y ≡ settled_all (outlet_posts e.copy) (needs_from l 0 (copy_queues e)) → (a && (b && (x && y))) ≡ is_at_rest (ends_round e t r n l)
  rest_of a b x y sa sb sx sy = rw (sa, sb, sx, sy) (sym all_settled)

  -- the need of an end that is there
  need_in : (need : ℕ → Bool) (qs : List QueueId) (k : ℕ) → k < length qs → slice_get (needs_from need 0 qs) k ≡ Some (need k)
  need_in need qs k less = get_need need 0 qs k (slice_index_or qs k no_queue) (slice_get-get_or qs k no_queue less) ∙ ap (λ i. Some (need i)) (zero-add k)

  need_there : (at : SwitchEnd) → IsThere e at → slice_get (switch_needs e t r n l) (place_of e at) ≡ Some (need_at t r n l at)
  need_there (At.Come k) there = get_front (needs_from t 0 (come_queues e)) (needs_from r 0 (back_queues e) ++ (needs_from n 0 (room_queues e) ++ needs_from l 0 (copy_queues e))) k (t k) (need_in t (come_queues e) k there)
  need_there (At.Back k) there =
      ap (λ i. slice_get (switch_needs e t r n l) (i + k)) (sym (needs_length t 0 (come_queues e)))
      ∙ (get_behind (needs_from t 0 (come_queues e)) (needs_from r 0 (back_queues e) ++ (needs_from n 0 (room_queues e) ++ needs_from l 0 (copy_queues e))) k
      ∙ get_front (needs_from r 0 (back_queues e)) (needs_from n 0 (room_queues e) ++ needs_from l 0 (copy_queues e)) k (r k) (need_in r (back_queues e) k there))
  need_there (At.Room k) there =
      let a = needs_length t 0 (come_queues e) in
      let b = needs_length r 0 (back_queues e) in
      let at : length (come_queues e) + length (back_queues e) + k ≡ length (needs_from t 0 (come_queues e)) + (length (needs_from r 0 (back_queues e)) + k) = omega (arith, a, b) in
      ap (slice_get (switch_needs e t r n l)) at
      ∙ (get_behind (needs_from t 0 (come_queues e)) (needs_from r 0 (back_queues e) ++ (needs_from n 0 (room_queues e) ++ needs_from l 0 (copy_queues e))) (length (needs_from r 0 (back_queues e)) + k)
      ∙ (get_behind (needs_from r 0 (back_queues e)) (needs_from n 0 (room_queues e) ++ needs_from l 0 (copy_queues e)) k
      ∙ get_front (needs_from n 0 (room_queues e)) (needs_from l 0 (copy_queues e)) k (n k) (need_in n (room_queues e) k there)))
  need_there (At.Copy k) there =
      let a = needs_length t 0 (come_queues e) in
      let b = needs_length r 0 (back_queues e) in
      let c = needs_length n 0 (room_queues e) in
      let at : length (come_queues e) + length (back_queues e) + length (room_queues e) + k ≡ length (needs_from t 0 (come_queues e)) + (length (needs_from r 0 (back_queues e)) + (length (needs_from n 0 (room_queues e)) + k)) = omega (arith, a, b, c) in
      ap (slice_get (switch_needs e t r n l)) at
      ∙ (get_behind (needs_from t 0 (come_queues e)) (needs_from r 0 (back_queues e) ++ (needs_from n 0 (room_queues e) ++ needs_from l 0 (copy_queues e))) (length (needs_from r 0 (back_queues e)) + (length (needs_from n 0 (room_queues e)) + k))
      ∙ (get_behind (needs_from r 0 (back_queues e)) (needs_from n 0 (room_queues e) ++ needs_from l 0 (copy_queues e)) (length (needs_from n 0 (room_queues e)) + k)
      ∙ (get_behind (needs_from n 0 (room_queues e)) (needs_from l 0 (copy_queues e)) k ∙ need_in l (copy_queues e) k there)))

-- an end of each sort moved
module _ (e : SwitchEnds) (k : ℕ) (need : Bool) (ev : Event) where
  pub posted_come : (xs : Intakes) → PostedAt (intake_posts e.come) k need ev (intake_posts xs) → PostedAt (switch_posts e) k need ev (switch_posts (record e { come = xs }))
  posted_come xs h = posted_front (intake_posts e.come) (intake_posts xs) (outlet_posts e.back ++ (intake_posts e.room ++ outlet_posts e.copy)) k need ev h

  pub posted_back : (xs : Outlets) → PostedAt (outlet_posts e.back) k need ev (outlet_posts xs) → PostedAt (switch_posts e) (length (come_queues e) + k) need ev (switch_posts (record e { back = xs }))
  posted_back xs h =
      rw (← intakes_long e.come) (posted_behind (intake_posts e.come) (outlet_posts e.back ++ (intake_posts e.room ++ outlet_posts e.copy)) (outlet_posts xs ++ (intake_posts e.room ++ outlet_posts e.copy)) k need ev
      (posted_front (outlet_posts e.back) (outlet_posts xs) (intake_posts e.room ++ outlet_posts e.copy) k need ev h))

  pub posted_room : (xs : Intakes) → PostedAt (intake_posts e.room) k need ev (intake_posts xs) → PostedAt (switch_posts e) (length (come_queues e) + length (back_queues e) + k) need ev (switch_posts (record e { room = xs }))
  posted_room xs h =
      let a = intakes_long e.come in
      let b = outlets_long e.back in
      let at : length (intake_posts e.come) + (length (outlet_posts e.back) + k) ≡ length (come_queues e) + length (back_queues e) + k = omega (arith, a, b) in
      subst (λ p. PostedAt (switch_posts e) p need ev (switch_posts (record e { room = xs }))) at
      (posted_behind (intake_posts e.come) (outlet_posts e.back ++ (intake_posts e.room ++ outlet_posts e.copy)) (outlet_posts e.back ++ (intake_posts xs ++ outlet_posts e.copy)) (length (outlet_posts e.back) + k) need ev
      (posted_behind (outlet_posts e.back) (intake_posts e.room ++ outlet_posts e.copy) (intake_posts xs ++ outlet_posts e.copy) k need ev
      (posted_front (intake_posts e.room) (intake_posts xs) (outlet_posts e.copy) k need ev h)))

  pub posted_copy : (xs : Outlets) → PostedAt (outlet_posts e.copy) k need ev (outlet_posts xs) → PostedAt (switch_posts e) (length (come_queues e) + length (back_queues e) + length (room_queues e) + k) need ev (switch_posts (record e { copy = xs }))
  posted_copy xs h =
      let a = intakes_long e.come in
      let b = outlets_long e.back in
      let c = intakes_long e.room in
      let at : length (intake_posts e.come) + (length (outlet_posts e.back) + (length (intake_posts e.room) + k)) ≡ length (come_queues e) + length (back_queues e) + length (room_queues e) + k = omega (arith, a, b, c) in
      subst (λ p. PostedAt (switch_posts e) p need ev (switch_posts (record e { copy = xs }))) at
      (posted_behind (intake_posts e.come) (outlet_posts e.back ++ (intake_posts e.room ++ outlet_posts e.copy)) (outlet_posts e.back ++ (intake_posts e.room ++ outlet_posts xs)) (length (outlet_posts e.back) + (length (intake_posts e.room) + k)) need ev
      (posted_behind (outlet_posts e.back) (intake_posts e.room ++ outlet_posts e.copy) (intake_posts e.room ++ outlet_posts xs) (length (intake_posts e.room) + k) need ev
      (posted_behind (intake_posts e.room) (outlet_posts e.copy) (outlet_posts xs) k need ev h)))

-- what is needed or loaded stays
pub record SameNeeds (t r n l t' r' n' l' : ℕ → Bool) : Type 0 where
  pub taking : (k : ℕ) → t' k ≡ t k
  pub returning : (k : ℕ) → r' k ≡ r k
  pub wanting : (k : ℕ) → n' k ≡ n k
  pub loaded : (k : ℕ) → l' k ≡ l k

needs_stay : (old new : SwitchEnds) (t r n l t' r' n' l' : ℕ → Bool) → SameEnds old new → SameNeeds t r n l t' r' n' l' → switch_needs new t' r' n' l' ≡ switch_needs old t r n l
needs_stay old new t r n l t' r' n' l' same h =
    let a = needs_same t t' 0 (come_queues new) h.taking ∙ ap (needs_from t 0) same.come in
    let b = needs_same r r' 0 (back_queues new) h.returning ∙ ap (needs_from r 0) same.back in
    let c = needs_same n n' 0 (room_queues new) h.wanting ∙ ap (needs_from n 0) same.room in
    let d = needs_same l l' 0 (copy_queues new) h.loaded ∙ ap (needs_from l 0) same.copy in
    (λ i. a i ++ (b i ++ (c i ++ d i)))

-- an end had its turn
pub turned : (old mid new : SwitchEnds) (turn : Turn) (ev : Event) (at : SwitchEnd) (t r n l t' r' n' l' : ℕ → Bool) → mid ≡ record old { turn = turn } → place_of old at ≡ chosen_place (choice_of (ends_round old t r n l)) → IsThere old at
    → PostedAt (switch_posts mid) (place_of mid at) (need_at t r n l at) ev (switch_posts new) → SameEnds mid new → new.turn ≡ mid.turn → turn.last ≡ last_after (choice_of (ends_round old t r n l)) → (is_mark ev.op ev.answer ≡ false → SameNeeds t r n l t' r' n' l')
    → Turned (ends_round old t r n l) ev (ends_round new t' r' n' l')
turned old mid new turn ev at t r n l t' r' n' l' after is there posted same still last stays =
    let posted' : PostedAt (switch_posts old) (place_of old at) (need_at t r n l at) ev (switch_posts new) = subst (λ (m : SwitchEnds). PostedAt (switch_posts m) (place_of m at) (need_at t r n l at) ev (switch_posts new)) after posted in
    let same' : SameEnds old new = record {
      come = same.come ∙ ap (λ (m : SwitchEnds). come_queues m) after;
      back = same.back ∙ ap (λ (m : SwitchEnds). back_queues m) after;
      room = same.room ∙ ap (λ (m : SwitchEnds). room_queues m) after;
      copy = same.copy ∙ ap (λ (m : SwitchEnds). copy_queues m) after;
    } in
    record {
      place = place_of old at;
      need = need_at t r n l at;
      is_chosen = is;
      needed = need_there old t r n l at there;
      posted = posted';
      needs = λ m. needs_stay old new t r n l t' r' n' l' same' (stays (no_mark_at posted'.post ev m));
      size = needs_long new t' r' n' l';
      last = ap (λ (x : Turn). x.last) (still ∙ ap (λ (m : SwitchEnds). m.turn) after) ∙ last;
    }
