-- A switch goes on to stand for what passed, where a call comes after the others.
use Rattle.std.proofs.Common.{◌≡◌, ◌⊎◌, ◌==◌, ◌&&◌, ◌+◌, ◌<◌, ◌≤◌, ℕ, zero, suc, Bool, true, false, cond, Option, Some, None, List, [], ◌∷◌, ◌++◌, length, slice_get, slice_index_or, is_some, eqb, flat_map, drop, subst, refl, sym, ap, ◌∙◌, inl, inr, arith, eq-eqb, ne_eqb, add-zero}
use Rattle.std.specs.List.{find, count_by}
use Rattle.std.specs.Option.{option_to_list}
use Rattle.std.proofs.lemmas.Bool.{cases_Bool}
use Rattle.std.proofs.lemmas.Option.{slice_get_within}
use Rattle.std.proofs.lemmas.List.{append-nil, length-append}
use Rattle.frame_core.specs.declared.mac.Mac.{Mac}
use Rattle.wire_core.specs.declared.names.QueueId.{QueueId}
use Rattle.wire_core.specs.declared.names.Event.{Event}
use Rattle.wire_core.specs.declared.names.Op.{Op}
use Rattle.wire_core.specs.declared.names.Op.TheVariants as Do
use Rattle.wire_core.specs.Deeds.{Deed, Cargo, cargo_of}
use Rattle.wire_core.specs.Lists.{Lists, Passed, with, with_deed, taken_by, put_by, if_there, if_taken}
use Rattle.wire_core.specs.Ends.{Role, End}
use Rattle.turn_kit.specs.ManyEnds.{AreApart}
use Rattle.buffer_kit.specs.Clients.{queue_at, with_more, entry_in, is_so, capped}
use Rattle.buffer_kit.specs.Entries.{all_filled}
use Rattle.buffer_kit.proofs.ManyClients.{none_if, queue_there, queue_is, at_client}
use Rattle.buffer_kit.proofs.Passing.{beside}
use Rattle.net_switch.specs.declared.switch_desk.slot.Slot.{Slot}
use Rattle.net_switch.specs.declared.switch_desk.desk.Desk.{Desk}
use Rattle.net_switch.specs.SwitchDesk.Frames.{Sent, entries_from, frames_to, sent_to, is_lost}
use Rattle.net_switch.specs.SwitchDesk.Desks.{DeskStands, PortStands, Moved, IsDesk, IsSlot, held_at, copy_at, owed_to, first_owing, has_copy}
use Rattle.net_switch.proofs.SwitchDesk.Moves.{from_here, from_else}
use Rattle.net_switch.proofs.SwitchDesk.Places.{same_or_not, still_more, owed_in}
use Rattle.net_switch.specs.declared.switch.NetSwitch.{NetSwitch}
use Rattle.net_switch.specs.Ends.{FitsEnds, SameEnds, ShareNone, is_take, come_queues, back_queues, room_queues, copy_queues}
use Rattle.net_switch.specs.Switching.{FitsSwitch, SwitchStandsFor, SameSwitch, SameDesk, takes_on, taken_after, taken_in_order, took, all_sent}
use Rattle.net_switch.proofs.Takes.{takes, takes_more, took_none, took_here, after_append, after_more}

-- a call that takes from no queue moves nothing there
not_taken : (o : Op) (c : List Cargo) → is_take o ≡ false → if_taken o c ≡ []
not_taken Do.Take c h = cc
not_taken Do.Put c h = refl
not_taken Do.See c h = refl
not_taken Do.Room c h = refl
not_taken (Do.Ask s) c h = refl
not_taken (Do.Waive s) c h = refl
not_taken (Do.Wake s) c h = refl
not_taken (Do.Wanted s) c h = refl
not_taken (Do.Settle s) c h = refl
not_taken (Do.Ring s) c h = refl
not_taken (Do.Store w v) c h = refl

taken_off : (d : Deed) (n : ℕ) → takes n d.event ≡ false → taken_by d n ≡ []
taken_off d n h = elim (cases_Bool (is_take d.event.op)) [
  | inl is ↦ (let off : (d.event.queue.0 == n) ≡ false = let f = rw is at h in f in ap (λ b. if_there b (if_taken d.event.op (cargo_of d))) off)
  | inr isnt ↦ ap (if_there (d.event.queue.0 == n)) (not_taken d.event.op (cargo_of d) isnt) ∙ none_if (d.event.queue.0 == n)
]

-- what holds of a desk goes over to lists that are equal at each port
stands_as : (d : Desk) (ss ss' : List Sent) (gs gs' ws ws' bs bs' : ℕ → List Cargo) → ss' ≡ ss → ((k : ℕ) → k < length d.macs.items → gs' k ≡ gs k) → ((k : ℕ) → k < length d.macs.items → ws' k ≡ ws k) → ((k : ℕ) → k < length d.macs.items → bs' k ≡ bs k)
    → DeskStands d ss gs ws bs → DeskStands d ss' gs' ws' bs'
stands_as d ss ss' gs gs' ws ws' bs bs' e g w b h = record {
  ports = λ k less. rw (e, g k less, w k less, b k less) (h.ports k less);
  lost = rw e h.lost;
}

-- a desk that stays
module _ (old new : Desk) (same : SameDesk old new) where
  first_stays : (k : ℕ) → first_owing new k ≡ first_owing old k
  first_stays k = (λ i. find (λ x. is_so (λ (s : Slot). slice_index_or s.owed k false) (slice_get (same.slots i) x)) (same.order i))

  owed_stays : (k : ℕ) → owed_to new k ≡ owed_to old k
  owed_stays k = (λ i. flat_map (λ x. owed_in k x (slice_get (same.slots i) x)) (same.order i))

  held_stays : (k : ℕ) → held_at new k ≡ held_at old k
  held_stays k = ap (λ (xs : List Slot). entry_in (λ (s : Slot). s.frame) (slice_get xs k)) same.slots

  copy_stays : (k : ℕ) → copy_at new k ≡ copy_at old k
  copy_stays k = ap (λ (xs : List Slot). entry_in (λ (s : Slot). s.copy) (slice_get xs k)) same.slots

  port_stays : (k : ℕ) (ss : List Sent) (gave went back : List Cargo) → PortStands old k ss gave went back → PortStands new k ss gave went back
  port_stays k ss gave went back h = record {
    backs = ap (λ o. back ++ option_to_list o) (held_stays k) ∙ h.backs;
    copies = ap (λ o. went ++ option_to_list o) (copy_stays k) ∙ (h.copies ∙ ap (λ (m : List Mac). all_filled (frames_to m k ss) gave) (sym same.macs));
    takes = h.takes ∙ ap (λ o. length (went ++ option_to_list o)) (sym (copy_stays k));
    owed = ap (λ (m : List Mac). drop (length went) (sent_to m k ss)) same.macs ∙ (h.owed ∙ sym (owed_stays k));
  }

  desk_is : IsDesk old → IsDesk new
  desk_is h = record {
    kept = record {
      few = rw same.macs h.kept.few;
      many = ap length same.slots ∙ (h.kept.many ∙ ap length (sym same.macs));
      each = λ k s at. subst (λ n. IsSlot n s) (ap length (sym same.macs)) (h.kept.each k s (ap (λ (xs : List Slot). slice_get xs k) (sym same.slots) ∙ at));
      order = rw (same.macs, same.order) h.kept.order;
    };
    copied = λ k loaded. ap is_some (first_stays k) ∙ h.copied k (ap (λ (xs : List Slot). is_so has_copy (slice_get xs k)) (sym same.slots) ∙ loaded);
  }

pub desk_stays : (old new : Desk) (port : ℕ) → SameDesk old new → IsDesk old → Moved old new port [] [] [] []
desk_stays old new port same h = record {
  desk = desk_is old new same h;
  macs = same.macs;
  stands = λ ss gs ws bs st. stands_as new ss (ss ++ []) gs (with_more gs port []) ws (with_more ws port []) bs (with_more bs port []) (append-nil ss) (λ k less. still_more gs port k) (λ k less. still_more ws port k) (λ k less. still_more bs port k)
      (record {
        ports = λ k less. port_stays old new same k ss (gs k) (ws k) (bs k) (st.ports k (let e = ap length same.macs in omega (arith, e, less)));
        lost = same.lost ∙ (st.lost ∙ ap (λ (m : List Mac). capped (count_by (is_lost m) ss)) (sym same.macs));
      });
}

pub same_desk : (d : Desk) → SameDesk d d
same_desk d = record { macs = refl; slots = refl; order = refl; lost = refl }

-- where a call comes after the others
module _ (v new : NetSwitch) (same : SameEnds v.ends new.ends) (ports : length v.desk.macs.items ≡ length (come_queues v.ends)) (passed : Passed) (d : Deed) where
  within : (e : length new.desk.macs.items ≡ length v.desk.macs.items) (k : ℕ) → k < length new.desk.macs.items → k < length (come_queues v.ends)
  within e k less = omega (arith, e, ports, less)

  -- so much more was taken, and came and went at one port
  pub goes_on : (port : ℕ) (sent : List Sent) (gave went back : List Cargo) → Moved v.desk new.desk port sent gave went back → SwitchStandsFor v passed
      → taken_in_order (come_queues v.ends) (with_deed passed d) ≡ all_sent v passed ++ sent
      → ((k : ℕ) → k < length (come_queues v.ends) → entries_from k (all_sent v passed ++ sent) ≡ (with_deed passed d).taken (queue_at (come_queues v.ends) k))
      → ((k : ℕ) → k < length (come_queues v.ends) → takes_on (queue_at (come_queues v.ends) k) (passed.calls ++ d.event ∷ []) ≡ length ((with_deed passed d).taken (queue_at (come_queues v.ends) k)))
      → ((k : ℕ) → k < length (come_queues v.ends) → taken_by d (queue_at (room_queues v.ends) k) ≡ if_there (port == k) gave)
      → ((k : ℕ) → k < length (come_queues v.ends) → put_by d (queue_at (copy_queues v.ends) k) ≡ if_there (port == k) went)
      → ((k : ℕ) → k < length (come_queues v.ends) → put_by d (queue_at (back_queues v.ends) k) ≡ if_there (port == k) back)
      → SwitchStandsFor new (with_deed passed d)
  goes_on port sent gave went back m h all came called room copy backs =
      let long = ap length m.macs in
      let old = m.stands (all_sent v passed) (λ k. passed.taken (queue_at (room_queues v.ends) k)) (λ k. passed.sent (queue_at (copy_queues v.ends) k)) (λ k. passed.sent (queue_at (back_queues v.ends) k)) h.desk in
      let all' : all_sent new (with_deed passed d) ≡ all_sent v passed ++ sent = ap (λ qs. taken_in_order qs (with_deed passed d)) same.come ∙ all in
      record {
        fits = m.desk;
        ports = long ∙ (ports ∙ ap length (sym same.come));
        desk = stands_as new.desk _ _ _ (λ k. (with_deed passed d).taken (queue_at (room_queues new.ends) k)) _ (λ k. (with_deed passed d).sent (queue_at (copy_queues new.ends) k)) _ (λ k. (with_deed passed d).sent (queue_at (back_queues new.ends) k)) all'
            (λ k less. ap (λ qs. (with_deed passed d).taken (queue_at qs k)) same.room ∙ ap (λ l. passed.taken (queue_at (room_queues v.ends) k) ++ l) (room k (within long k less)))
            (λ k less. ap (λ qs. (with_deed passed d).sent (queue_at qs k)) same.copy ∙ ap (λ l. passed.sent (queue_at (copy_queues v.ends) k) ++ l) (copy k (within long k less)))
            (λ k less. ap (λ qs. (with_deed passed d).sent (queue_at qs k)) same.back ∙ ap (λ l. passed.sent (queue_at (back_queues v.ends) k) ++ l) (backs k (within long k less)))
            old;
        came = λ k less.
            let less' : k < length (come_queues v.ends) = let e = ap length same.come in omega (arith, e, less) in
            ap (entries_from k) all' ∙ (came k less' ∙ ap (λ qs. (with_deed passed d).taken (queue_at qs k)) (sym same.come));
        called = λ k less.
            let less' : k < length (come_queues v.ends) = let e = ap length same.come in omega (arith, e, less) in
            ap (λ qs. takes_on (queue_at qs k) (passed.calls ++ d.event ∷ [])) same.come ∙ (called k less' ∙ ap (λ qs. length ((with_deed passed d).taken (queue_at qs k))) (sym same.come));
      }

  bounds : SwitchStandsFor v passed → (k : ℕ) (q : QueueId) → slice_get (come_queues v.ends) k ≡ Some q → takes_on q.0 ([] ++ passed.calls) ≤ length (passed.taken q.0)
  bounds h k q at =
      let e = queue_is (come_queues v.ends) k q at in
      let c : takes_on q.0 passed.calls ≡ length (passed.taken q.0) = rw (← e) (h.called k (slice_get_within (come_queues v.ends) k q at)) in
      omega (arith, c)

  -- the call takes no frame
  module _ (off : (k : ℕ) (q : QueueId) → slice_get (come_queues v.ends) k ≡ Some q → takes q.0 d.event ≡ false) where
    off_at : (k : ℕ) → k < length (come_queues v.ends) → takes (queue_at (come_queues v.ends) k) d.event ≡ false
    off_at k less = off k (slice_index_or (come_queues v.ends) k (record { 0 = 0 })) (queue_there (come_queues v.ends) k less)

    pub goes_on_off : (port : ℕ) (gave went back : List Cargo) → Moved v.desk new.desk port [] gave went back → SwitchStandsFor v passed
        → ((k : ℕ) → k < length (come_queues v.ends) → taken_by d (queue_at (room_queues v.ends) k) ≡ if_there (port == k) gave)
        → ((k : ℕ) → k < length (come_queues v.ends) → put_by d (queue_at (copy_queues v.ends) k) ≡ if_there (port == k) went)
        → ((k : ℕ) → k < length (come_queues v.ends) → put_by d (queue_at (back_queues v.ends) k) ≡ if_there (port == k) back)
        → SwitchStandsFor new (with_deed passed d)
    goes_on_off port gave went back m h room copy backs =
        let more = taken_by d in
        let stays : (k : ℕ) → k < length (come_queues v.ends) → (with_deed passed d).taken (queue_at (come_queues v.ends) k) ≡ passed.taken (queue_at (come_queues v.ends) k) =
        λ k less. ap (λ l. passed.taken (queue_at (come_queues v.ends) k) ++ l) (taken_off d (queue_at (come_queues v.ends) k) (off_at k less)) ∙ append-nil (passed.taken (queue_at (come_queues v.ends) k)) in
        let all : taken_in_order (come_queues v.ends) (with_deed passed d) ≡ all_sent v passed ++ [] =
        after_append (come_queues v.ends) (with passed.taken more) [] passed.calls d.event
        ∙ (ap (λ l. taken_after (come_queues v.ends) (with passed.taken more) [] passed.calls ++ l) (took_none (come_queues v.ends) (with passed.taken more) ([] ++ passed.calls) d.event off)
        ∙ ap (λ l. l ++ []) (after_more (come_queues v.ends) passed.taken more [] passed.calls (bounds h))) in
        goes_on port [] gave went back m h all
        (λ k less. ap (entries_from k) (append-nil (all_sent v passed)) ∙ (h.came k less ∙ sym (stays k less)))
        (λ k less. takes_more (queue_at (come_queues v.ends) k) passed.calls d.event
        ∙ (ap (λ b. takes_on (queue_at (come_queues v.ends) k) passed.calls + cond b 1 0) (off_at k less)
        ∙ (add-zero (takes_on (queue_at (come_queues v.ends) k) passed.calls) ∙ (h.called k less ∙ ap length (sym (stays k less))))))
        room copy backs

  -- the call takes a frame of one port
  module _ (port : ℕ) (c : Cargo) (on : slice_get (come_queues v.ends) port ≡ Some d.event.queue) (apart : AreApart (come_queues v.ends)) (takes_it : is_take d.event.op ≡ true) (moves : (n : ℕ) → taken_by d n ≡ if_there (d.event.queue.0 == n) (c ∷ [])) where
    here : taken_by d d.event.queue.0 ≡ c ∷ []
    here = moves d.event.queue.0 ∙ ap (λ b. if_there b (c ∷ [])) (eq-eqb d.event.queue.0 d.event.queue.0 refl)

    last : {X : Type 0} (xs : List X) (x : X) → slice_get (xs ++ x ∷ []) (length xs) ≡ Some x
    last [] x = refl
    last (y ∷ xs) x = last xs x

    at_port : (k : ℕ) → k < length (come_queues v.ends) → taken_by d (queue_at (come_queues v.ends) k) ≡ if_there (port == k) (c ∷ [])
    at_port k less = at_client (come_queues v.ends) port d.event.queue on apart (taken_by d) (c ∷ []) moves k less (same_or_not port k)

    takes_at : (k : ℕ) → k < length (come_queues v.ends) → takes (queue_at (come_queues v.ends) k) d.event ≡ (port == k)
    takes_at k less = elim (same_or_not port k) [
      | inl is ↦
          let q = queue_is (come_queues v.ends) port d.event.queue on in
          let qk : queue_at (come_queues v.ends) k ≡ d.event.queue.0 = ap (queue_at (come_queues v.ends)) (sym is) ∙ q in
          ap (λ b. b && d.event.queue.0 == queue_at (come_queues v.ends) k) takes_it ∙ (eq-eqb d.event.queue.0 (queue_at (come_queues v.ends) k) (sym qk) ∙ sym (eq-eqb port k is))
      | inr ne ↦
          let off : d.event.queue.0 ≡ queue_at (come_queues v.ends) k → ⊥ = λ e. ne (apart port k d.event.queue (slice_index_or (come_queues v.ends) k (record { 0 = 0 })) on (queue_there (come_queues v.ends) k less) e) in
          ap (λ b. b && d.event.queue.0 == queue_at (come_queues v.ends) k) takes_it ∙ (ne_eqb d.event.queue.0 (queue_at (come_queues v.ends) k) off ∙ sym (ne_eqb port k ne))
    ]

    pub goes_on_here : Moved v.desk new.desk port ((port, c) ∷ []) [] [] [] → SwitchStandsFor v passed
        → ((k : ℕ) → k < length (come_queues v.ends) → taken_by d (queue_at (room_queues v.ends) k) ≡ []) → ((n : ℕ) → put_by d n ≡ []) → SwitchStandsFor new (with_deed passed d)
    goes_on_here m h room puts =
        let more = taken_by d in
        let q = queue_is (come_queues v.ends) port d.event.queue on in
        let less = slice_get_within (come_queues v.ends) port d.event.queue on in
        let calls : takes_on d.event.queue.0 passed.calls ≡ length (passed.taken d.event.queue.0) = rw (← q) (h.called port less) in
        let got : slice_get (with passed.taken more d.event.queue.0) (takes_on d.event.queue.0 ([] ++ passed.calls)) ≡ Some c =
        ap (λ l. slice_get (passed.taken d.event.queue.0 ++ l) (takes_on d.event.queue.0 passed.calls)) here ∙ (ap (slice_get (passed.taken d.event.queue.0 ++ c ∷ [])) calls ∙ last (passed.taken d.event.queue.0) c) in
        let all : taken_in_order (come_queues v.ends) (with_deed passed d) ≡ all_sent v passed ++ (port, c) ∷ [] =
        after_append (come_queues v.ends) (with passed.taken more) [] passed.calls d.event
        ∙ (ap (λ l. taken_after (come_queues v.ends) (with passed.taken more) [] passed.calls ++ l) (took_here (come_queues v.ends) (with passed.taken more) ([] ++ passed.calls) d.event port c on apart takes_it got)
        ∙ ap (λ l. l ++ (port, c) ∷ []) (after_more (come_queues v.ends) passed.taken more [] passed.calls (bounds h))) in
        goes_on port ((port, c) ∷ []) [] [] [] m h all
        (λ k near. elim (same_or_not port k) [
          | inl is ↦
              ap (λ n. entries_from n (all_sent v passed ++ (port, c) ∷ [])) (sym is) ∙ (from_here port c (all_sent v passed)
              ∙ (ap (λ n. entries_from n (all_sent v passed) ++ c ∷ []) is ∙ (ap (λ l. l ++ c ∷ []) (h.came k near)
              ∙ ap (λ l. passed.taken (queue_at (come_queues v.ends) k) ++ l) (sym (at_port k near ∙ ap (λ b. if_there b (c ∷ [])) (eq-eqb port k is))))))
          | inr ne ↦
              from_else k port c (all_sent v passed) ne ∙ (h.came k near ∙ sym (ap (λ l. passed.taken (queue_at (come_queues v.ends) k) ++ l) (at_port k near ∙ ap (λ b. if_there b (c ∷ [])) (ne_eqb port k ne)) ∙ append-nil (passed.taken (queue_at (come_queues v.ends) k))))
        ])
        (λ k near.
        let a = takes_more (queue_at (come_queues v.ends) k) passed.calls d.event in
        let b = ap (λ t. cond {A = ℕ} t 1 0) (takes_at k near) in
        let e = length-append (passed.taken (queue_at (come_queues v.ends) k)) (taken_by d (queue_at (come_queues v.ends) k)) in
        let f = ap length (at_port k near) ∙ one_long (port == k) c in
        let i = h.called k near in
        omega (arith, a, b, e, f, i))
        (λ k near. room k near ∙ sym (none_if (port == k)))
        (λ k near. puts (queue_at (copy_queues v.ends) k) ∙ sym (none_if (port == k)))
        (λ k near. puts (queue_at (back_queues v.ends) k) ∙ sym (none_if (port == k)))
      where
        one_long : (b : Bool) (c : Cargo) → length (if_there b (c ∷ [])) ≡ cond b 1 0
        one_long true c = refl
        one_long false c = refl
