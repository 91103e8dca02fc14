-- Whatever a switch stands for meets its row.
use Rattle.std.proofs.Common.{◌≡◌, ◌⊎◌, ◌==◌, ◌+◌, ◌<◌, ◌≤◌, ℕ, zero, suc, Bool, true, false, cond, Option, Some, None, List, [], ◌∷◌, ◌++◌, length, map, drop, flat_map, slice_index_or, eqb, refl, sym, ap, ◌∙◌, inl, inr, arith, subst}
use Rattle.std.specs.List.{filter}
use Rattle.std.specs.Option.{option_to_list, option_map}
use Rattle.std.proofs.lemmas.Bool.{cases_Bool, cases_lt, eqb-true, eq-eqb}
use Rattle.std.proofs.lemmas.List.{length-append, length-map, length-set, map-append, drop-append-le}
use Rattle.std.proofs.lemmas.List.Elements.{filter-append}
use Rattle.frame_core.specs.declared.mac.Mac.{Mac}
use Rattle.class_expect.specs.NetExpect.Expecting.{is_for_client}
use Rattle.wire_core.specs.Bells.{bit}
use Rattle.wire_core.specs.Deeds.{Cargo}
use Rattle.wire_core.specs.Lists.{Passed}
use Rattle.buffer_kit.specs.Clients.{queue_at}
use Rattle.buffer_kit.specs.Entries.{frame_of}
use Rattle.net_switch.specs.declared.switch_desk.desk.Desk.{Desk}
use Rattle.net_switch.specs.SwitchDesk.Frames.{Sent, receivers_of, goes_to, sent_to, frames_to, entries_from}
use Rattle.net_switch.specs.SwitchDesk.Orders.{times}
use Rattle.net_switch.specs.SwitchDesk.Desks.{IsDesk, PortStands, held_at, copy_at, owes, owed_by, owed_to}
use Rattle.net_switch.proofs.SwitchDesk.Moves.{few_given}
use Rattle.net_switch.specs.declared.switch.NetSwitch.{NetSwitch}
use Rattle.net_switch.specs.Ends.{come_queues, back_queues, room_queues, copy_queues}
use Rattle.net_switch.specs.Switching.{SwitchStandsFor, SwitchRow, all_sent}

-- the entries of a port among more
entries_append : (s : ℕ) (xs ys : List Sent) → entries_from s (xs ++ ys) ≡ entries_from s xs ++ entries_from s ys
entries_append s xs ys = ap (map (λ (x : Sent). x.1)) (filter-append (λ (x : Sent). x.0 == s) xs ys) ∙ map-append (λ (x : Sent). x.1) (filter (λ (x : Sent). x.0 == s) xs) (filter (λ (x : Sent). x.0 == s) ys)

entries_one : (x : Sent) (xs : List Sent) → entries_from x.0 (x ∷ xs) ≡ x.1 ∷ entries_from x.0 xs
entries_one x xs = ap (λ b. map (λ (y : Sent). y.1) (cond b (x ∷ filter (λ (y : Sent). y.0 == x.0) xs) (filter (λ (y : Sent). y.0 == x.0) xs))) (eq-eqb x.0 x.0 refl)

-- of what is owed to a port, one port has no more than one
few_of_one : (s y : ℕ) (b : Bool) (o : Option Cargo) → length (entries_from s (cond b (option_to_list (option_map (λ (c : Cargo). (y, c)) o)) [])) ≤ bit (eqb y s)
few_of_one s y false o = omega arith
few_of_one s y true None = omega arith
few_of_one s y true (Some c) = elim (cases_Bool (eqb y s)) [
  | inl is ↦ rw is (omega arith)
  | inr isnt ↦ rw isnt (omega arith)
]

few_of_all : (d : Desk) (port s : ℕ) (xs : List ℕ) → length (entries_from s (flat_map (owed_by d port) xs)) ≤ times s xs
few_of_all d port s [] = omega arith
few_of_all d port s (y ∷ xs) =
    let one = few_of_one s y (owes d y port) (held_at d y) in
    let rest = few_of_all d port s xs in
    let all = ap length (entries_append s (owed_by d port y) (flat_map (owed_by d port) xs)) in
    let long = length-append (entries_from s (owed_by d port y)) (entries_from s (flat_map (owed_by d port) xs)) in
    omega (arith, one, rest, all, long)

-- what is owed is held
same_pair : (x : Sent) (y : ℕ) (b : Bool) (o : Option Cargo) (ls rs : List Sent) → cond b (option_to_list (option_map (λ (c : Cargo). (y, c)) o)) [] ≡ ls ++ x ∷ rs → (y ≡ x.0) × (o ≡ Some x.1)
same_pair x y false o [] rs h = cc
same_pair x y false o (l ∷ ls) rs h = cc
same_pair x y true None [] rs h = cc
same_pair x y true None (l ∷ ls) rs h = cc
same_pair x y true (Some c) [] rs h = let e : (y, c) ≡ x = cc in (ap (λ (z : Sent). z.0) e, ap (λ (z : Sent). Some z.1) e)
same_pair x y true (Some c) (l ∷ []) rs h = cc
same_pair x y true (Some c) (l ∷ m ∷ ls) rs h = cc

-- an element of two lists is in one of them
in_front_or_behind : (x : Sent) (xs ys ls rs : List Sent) → xs ++ ys ≡ ls ++ x ∷ rs → ((us : List Sent) × (bs : List Sent) × (xs ≡ us ++ x ∷ bs)) ⊎ ((us : List Sent) × (bs : List Sent) × (ys ≡ us ++ x ∷ bs))
in_front_or_behind x [] ys ls rs h = inr (ls, rs, h)
in_front_or_behind x (z ∷ xs) ys [] rs h = let e : z ≡ x = cc in inl ([], xs, ap (λ y. y ∷ xs) e)
in_front_or_behind x (z ∷ xs) ys (l ∷ ls) rs h =
    let e : z ≡ l = cc in
    let rest : xs ++ ys ≡ ls ++ x ∷ rs = cc in
    elim (in_front_or_behind x xs ys ls rs rest) [
      | inl p ↦ inl (z ∷ p.0, p.1, ap (λ k. z ∷ k) p.2)
      | inr p ↦ inr p
    ]

owed_is_held : (d : Desk) (port : ℕ) (x : Sent) (xs : List ℕ) (ls rs : List Sent) → flat_map (owed_by d port) xs ≡ ls ++ x ∷ rs → held_at d x.0 ≡ Some x.1
owed_is_held d port x [] [] rs h = cc
owed_is_held d port x [] (l ∷ ls) rs h = cc
owed_is_held d port x (y ∷ xs) ls rs h = elim (in_front_or_behind x (owed_by d port y) (flat_map (owed_by d port) xs) ls rs h) [
  | inl p ↦ (let e = same_pair x y (owes d y port) (held_at d y) p.0 p.1 p.2 in ap (held_at d) (sym e.0) ∙ e.1)
  | inr p ↦ owed_is_held d port x xs p.0 p.1 p.2
]

-- where an entry is the last of its port, it goes where its equal goes
last_counts : (macs : List Mac) (port s : ℕ) (c : Cargo) (ys : List Sent) (zs : List Cargo) → entries_from s ys ≡ zs ++ c ∷ [] → goes_to macs port (s, c) ≡ true → 1 ≤ length (entries_from s (sent_to macs port ys))
last_counts macs port s c [] [] h goes = cc
last_counts macs port s c [] (z ∷ zs) h goes = cc
last_counts macs port s c (y ∷ ys) zs h goes = elim (cases_Bool (eqb y.0 s)) [
  | inl is ↦
      let here : y.0 ≡ s = eqb-true y.0 s is in
      let first : y.1 ∷ entries_from s ys ≡ zs ++ c ∷ [] = sym (subst (λ n. entries_from n (y ∷ ys) ≡ y.1 ∷ entries_from n ys) here (entries_one y ys)) ∙ h in
      ended zs first here (λ ws e. last_counts macs port s c ys ws e goes)
  | inr isnt ↦
      let rest = last_counts macs port s c ys zs (sym (ap (λ b. map (λ (x : Sent). x.1) (cond b (y ∷ filter (λ (x : Sent). x.0 == s) ys) (filter (λ (x : Sent). x.0 == s) ys))) isnt) ∙ h) goes in
      more (goes_to macs port y) rest
]
  where
    more : (b : Bool) → 1 ≤ length (entries_from s (sent_to macs port ys)) → 1 ≤ length (entries_from s (cond b (y ∷ sent_to macs port ys) (sent_to macs port ys)))
    more false rest = rest
    more true rest =
        let all = ap length (entries_append s (y ∷ []) (sent_to macs port ys)) in
        let long = length-append (entries_from s (y ∷ [])) (entries_from s (sent_to macs port ys)) in
        omega (arith, rest, all, long)

    ended : (ws : List Cargo) → y.1 ∷ entries_from s ys ≡ ws ++ c ∷ [] → y.0 ≡ s → ((vs : List Cargo) → entries_from s ys ≡ vs ++ c ∷ [] → 1 ≤ length (entries_from s (sent_to macs port ys))) → 1 ≤ length (entries_from s (sent_to macs port (y ∷ ys)))
    ended [] e here later =
        let same : y.1 ≡ c = cc in
        let is : y ≡ (s, c) = (λ i. (here i, same i)) in
        let goes_too : goes_to macs port y ≡ true = ap (goes_to macs port) is ∙ goes in
        let one = ap length (entries_append s (y ∷ []) (sent_to macs port ys)) in
        let long = length-append (entries_from s (y ∷ [])) (entries_from s (sent_to macs port ys)) in
        let mine = ap length (subst (λ n. entries_from n (y ∷ []) ≡ y.1 ∷ entries_from n []) here (entries_one y [])) in
        rw goes_too (omega (arith, one, long, mine))
    ended (w ∷ ws) e here later =
        let rest : entries_from s ys ≡ ws ++ c ∷ [] = cc in
        more (goes_to macs port y) (later ws rest)

-- the last of a list
behind : (us bs : List Cargo) (x : Cargo) (ys : List Cargo) → us ++ x ∷ [] ≡ bs ++ ys → length bs < length us + 1 → (zs : List Cargo) × (ys ≡ zs ++ x ∷ [])
behind us [] x ys h less = (us, sym h)
behind [] (b ∷ bs) x ys h less = absurd (omega (arith, less))
behind (a ∷ us) (b ∷ bs) x ys h less = behind us bs x ys (let rest : us ++ x ∷ [] ≡ bs ++ ys = cc in rest) (omega (arith, less))

goes_within : (xs : List Bool) (k : ℕ) → slice_index_or xs k false ≡ true → k < length xs
goes_within [] k h = cc
goes_within (b ∷ bs) zero h = omega arith
goes_within (b ∷ bs) (suc k) h = let less = goes_within bs k h in omega (arith, less)

module _ (v : NetSwitch) (passed : Passed) (h : SwitchStandsFor v passed) where
  at_port : (k : ℕ) → k < length (come_queues v.ends) → PortStands v.desk k (all_sent v passed) (passed.taken (queue_at (room_queues v.ends) k)) (passed.sent (queue_at (copy_queues v.ends) k)) (passed.sent (queue_at (back_queues v.ends) k))
  at_port k less = let p = h.ports in h.desk.ports k (omega (arith, p, less))

  few_held : (o : Option Cargo) → length (option_to_list o) ≤ 1
  few_held None = omega arith
  few_held (Some c) = omega arith

  after_copies : (before after : List Sent) (x : Sent) (port : ℕ) → x.0 < length (come_queues v.ends) → all_sent v passed ≡ before ++ x ∷ after
      → length (entries_from x.0 before) < length (passed.sent (queue_at (back_queues v.ends) x.0)) → goes_to v.desk.macs.items port x ≡ true
      → length (sent_to v.desk.macs.items port before) < length (passed.sent (queue_at (copy_queues v.ends) port))
  after_copies before after x port there split back goes = elim (cases_lt (length (sent_to v.desk.macs.items port before)) (length (passed.sent (queue_at (copy_queues v.ends) port)))) [
    | inl less ↦ less
    | inr past ↦ absurd (unsent (omega (arith, past)))
  ]
    where
      unsent : length (passed.sent (queue_at (copy_queues v.ends) port)) ≤ length (sent_to v.desk.macs.items port before) → ⊥
      unsent few =
          let went = passed.sent (queue_at (copy_queues v.ends) port) in
          let long = length-set (map (λ (m : Mac). is_for_client m (frame_of x.1)) v.desk.macs.items) x.0 false in
          let wide = length-map v.desk.macs.items (λ (m : Mac). is_for_client m (frame_of x.1)) in
          let in_list = goes_within (receivers_of v.desk.macs.items x) port goes in
          let p = h.ports in
          let to = at_port port (omega (arith, p, long, wide, in_list)) in
          let own = at_port x.0 there in
          -- what is owed there is behind what was put
          let parts : sent_to v.desk.macs.items port (all_sent v passed) ≡ sent_to v.desk.macs.items port before ++ x ∷ sent_to v.desk.macs.items port after =
          ap (sent_to v.desk.macs.items port) split ∙ (filter-append (goes_to v.desk.macs.items port) before (x ∷ after)
          ∙ ap (λ b. sent_to v.desk.macs.items port before ++ cond b (x ∷ sent_to v.desk.macs.items port after) (sent_to v.desk.macs.items port after)) goes) in
          let rest : owed_to v.desk port ≡ drop (length went) (sent_to v.desk.macs.items port before) ++ x ∷ sent_to v.desk.macs.items port after =
          sym to.owed ∙ (ap (drop (length went)) parts ∙ drop-append-le (length went) (sent_to v.desk.macs.items port before) (x ∷ sent_to v.desk.macs.items port after) few) in
          -- so it is held, and came last of its port
          let held = owed_is_held v.desk port x v.desk.order (drop (length went) (sent_to v.desk.macs.items port before)) (sent_to v.desk.macs.items port after) rest in
          let all : passed.sent (queue_at (back_queues v.ends) x.0) ++ x.1 ∷ [] ≡ entries_from x.0 before ++ (x.1 ∷ entries_from x.0 after) =
          ap (λ o. passed.sent (queue_at (back_queues v.ends) x.0) ++ option_to_list o) (sym held) ∙ (own.backs ∙ (ap (entries_from x.0) split ∙ (entries_append x.0 before (x ∷ after) ∙ ap (λ l. entries_from x.0 before ++ l) (entries_one x after)))) in
          let tail = behind (passed.sent (queue_at (back_queues v.ends) x.0)) (entries_from x.0 before) x.1 (x.1 ∷ entries_from x.0 after) all (omega (arith, back)) in
          let last = ended tail.0 tail.1 (let e = ap length all in let a = length-append (passed.sent (queue_at (back_queues v.ends) x.0)) (x.1 ∷ []) in let b = length-append (entries_from x.0 before) (x.1 ∷ entries_from x.0 after) in omega (arith, e, a, b, back)) in
          let again = last_counts v.desk.macs.items port x.0 x.1 after last.0 last.1 goes in
          -- but no port is owed there twice
          let many = few_of_all v.desk port x.0 v.desk.order in
          let once = h.fits.kept.order.once x.0 (omega (arith, p, there)) in
          let two = ap length (ap (entries_from x.0) rest ∙ (entries_append x.0 (drop (length went) (sent_to v.desk.macs.items port before)) (x ∷ sent_to v.desk.macs.items port after)
          ∙ ap (λ l. entries_from x.0 (drop (length went) (sent_to v.desk.macs.items port before)) ++ l) (entries_one x (sent_to v.desk.macs.items port after)))) in
          let sum = length-append (entries_from x.0 (drop (length went) (sent_to v.desk.macs.items port before))) (x.1 ∷ entries_from x.0 (sent_to v.desk.macs.items port after)) in
          omega (arith, again, many, once, two, sum)
        where
          ended : (zs : List Cargo) → x.1 ∷ entries_from x.0 after ≡ zs ++ x.1 ∷ [] → 1 ≤ length (entries_from x.0 after) → (ws : List Cargo) × (entries_from x.0 after ≡ ws ++ x.1 ∷ [])
          ended [] e some = absurd (let none : entries_from x.0 after ≡ [] = cc in let long = ap length none in omega (arith, long, some))
          ended (z ∷ zs) e some = (zs, (let rest : entries_from x.0 after ≡ zs ++ x.1 ∷ [] = cc in rest))

  pub row_of : SwitchRow v passed
  row_of = record {
    backs = λ k less. (option_to_list (held_at v.desk k), (at_port k less).backs ∙ h.came k less);
    held = λ k less.
        let e = ap length ((at_port k less).backs ∙ h.came k less) in
        let a = length-append (passed.sent (queue_at (back_queues v.ends) k)) (option_to_list (held_at v.desk k)) in
        let f = few_held (held_at v.desk k) in
        omega (arith, e, a, f);
    copies = λ k less. (option_to_list (copy_at v.desk k), (at_port k less).copies);
    rooms = λ k less.
        let few = few_given v.desk k (all_sent v passed) (passed.taken (queue_at (room_queues v.ends) k)) (passed.sent (queue_at (copy_queues v.ends) k)) (passed.sent (queue_at (back_queues v.ends) k)) (at_port k less) in
        let long = length-map (sent_to v.desk.macs.items k (all_sent v passed)) (λ (x : Sent). frame_of x.1) in
        omega (arith, few, long);
    after_copies = λ before after x port there split back goes. after_copies before after x port there split back goes;
    came = h.came;
    lost = h.desk.lost;
  }
