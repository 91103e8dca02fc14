-- The order in which frames were taken goes on where a call comes after the others.
use Rattle.std.proofs.Common.{◌≡◌, ◌==◌, ◌&&◌, ◌+◌, ◌<◌, ◌≤◌, ℕ, zero, suc, Bool, true, false, cond, not, ltb, eqb, Option, Some, None, List, [], ◌∷◌, ◌++◌, length, slice_get, refl, sym, ap, ◌∙◌, arith, inl, inr, zero-add}
use Rattle.std.specs.List.{position, position_or_len, count_by}
use Rattle.std.specs.Option.{option_and_then, option_map, option_to_list}
use Rattle.std.proofs.lemmas.Bool.{cases_Bool, eqb-true, eq-eqb, ne_eqb, ltb-true, lt-ltb}
use Rattle.std.proofs.lemmas.List.{append-nil, append_assoc, length-append}
use Rattle.std.proofs.lemmas.List.Sums.{sum_by_push, sum_by-append, sum_by-cons}
use Rattle.wire_core.specs.declared.names.QueueId.{QueueId}
use Rattle.wire_core.specs.declared.names.Event.{Event}
use Rattle.wire_core.specs.Bells.{bit}
use Rattle.wire_core.specs.Deeds.{Cargo}
use Rattle.wire_core.specs.Lists.{Lists, with}
use Rattle.turn_kit.specs.ManyEnds.{AreApart}
use Rattle.net_switch.specs.SwitchDesk.Frames.{Sent}
use Rattle.net_switch.specs.Ends.{is_take}
use Rattle.net_switch.specs.Switching.{takes_on, port_of, took, taken_after}

some_eq : {X : Type 0} {a b : X} → Some a ≡ Some b → a ≡ b
some_eq h = cc

-- this call takes from a queue
abbrev pub takes : ℕ → Event → Bool
takes n e = is_take e.op && e.queue.0 == n

pub takes_more : (n : ℕ) (es : List Event) (e : Event) → takes_on n (es ++ e ∷ []) ≡ takes_on n es + cond (takes n e) 1 0
takes_more n es e = sum_by_push (λ (x : Event). cond (takes n x) 1 0) es e

-- a call among others that took
takes_before : (n : ℕ) (before es : List Event) (e : Event) → takes n e ≡ true → takes_on n before < takes_on n (before ++ e ∷ es)
takes_before n before es e is =
    let a = sum_by-append (λ (x : Event). cond (takes n x) 1 0) before (e ∷ es) in
    let b = sum_by-cons (λ (x : Event). cond (takes n x) 1 0) e es in
    let one : cond {A = ℕ} (takes n e) 1 0 ≡ 1 = ap (λ b. cond {A = ℕ} b 1 0) is in
    omega (arith, a, b, one)

found_at : (m n k : ℕ) → cond (ltb m n) (Some m) None ≡ Some k → (m < n) × (m ≡ k)
found_at m n k h = elim (cases_Bool (ltb m n)) [
  | inl is ↦ (ltb-true m n is, (let e = rw is at h in cc))
  | inr isnt ↦ absurd (let e = rw isnt at h in cc)
]

-- the queue at the place where one was found
there : (n : ℕ) (qs : List QueueId) → position_or_len (λ (q : QueueId). q.0 == n) qs < length qs → (q : QueueId) × (slice_get qs (position_or_len (λ (x : QueueId). x.0 == n) qs) ≡ Some q) × (q.0 ≡ n)
there n [] h = absurd (omega (arith, h))
there n (x ∷ qs) h = elim (cases_Bool (eqb x.0 n)) [
  | inl is ↦ (x, (rw is refl), eqb-true x.0 n is)
  | inr isnt ↦
      let less : position_or_len (λ (q : QueueId). q.0 == n) (x ∷ qs) ≡ suc (position_or_len (λ (q : QueueId). q.0 == n) qs) = rw isnt (omega arith) in
      let rest = there n qs (omega (arith, h, less)) in
      (rest.0, ap (slice_get (x ∷ qs)) less ∙ rest.1, rest.2)
]

pub port_there : (qs : List QueueId) (e : Event) (k : ℕ) → port_of qs e ≡ Some k → (q : QueueId) × (slice_get qs k ≡ Some q) × (takes q.0 e ≡ true)
port_there qs e k h = elim (cases_Bool (is_take e.op)) [
  | inl is ↦
      let found = found_at (position_or_len (λ (q : QueueId). q.0 == e.queue.0) qs) (length qs) k (let f = rw is at h in f) in
      let q = there e.queue.0 qs found.0 in
      (q.0, ap (slice_get qs) (sym found.1) ∙ q.1, (rw is (eq-eqb e.queue.0 q.0.0 (sym q.2))))
  | inr isnt ↦ absurd (let f = rw isnt at h in cc)
]

-- where no queue of these is taken from, nothing is
none_found : (n : ℕ) (qs : List QueueId) → ((k : ℕ) (q : QueueId) → slice_get qs k ≡ Some q → eqb q.0 n ≡ false) → position_or_len (λ (q : QueueId). q.0 == n) qs ≡ length qs
none_found n [] h = refl
none_found n (x ∷ qs) h =
    let isnt : eqb x.0 n ≡ false = h zero x refl in
    let rest = none_found n qs (λ k q at. h (suc k) q at) in
    let less : position_or_len (λ (q : QueueId). q.0 == n) (x ∷ qs) ≡ suc (position_or_len (λ (q : QueueId). q.0 == n) qs) = rw isnt (omega arith) in
    less ∙ ap suc rest

past_none : (n : ℕ) → cond (ltb n n) (Some n) None ≡ None
past_none n = elim (cases_Bool (ltb n n)) [
  | inl is ↦ absurd (let less = ltb-true n n is in omega (arith, less))
  | inr isnt ↦ rw isnt refl
]

pub no_port : (qs : List QueueId) (e : Event) → ((k : ℕ) (q : QueueId) → slice_get qs k ≡ Some q → takes q.0 e ≡ false) → port_of qs e ≡ None
no_port qs e h = elim (cases_Bool (is_take e.op)) [
  | inl is ↦
      let all = none_found e.queue.0 qs (λ k q at. apart q.0 (let f = rw is at h k q at in f)) in
      rw is (ap (λ m. cond (ltb m (length qs)) (Some m) None) all ∙ past_none (length qs))
  | inr isnt ↦ rw isnt refl
]
  where
    apart : (n : ℕ) → eqb e.queue.0 n ≡ false → eqb n e.queue.0 ≡ false
    apart n f = ne_eqb n e.queue.0 (λ s. let bad = sym (eq-eqb e.queue.0 n (sym s)) ∙ f in cc)

pub took_none : (qs : List QueueId) (taken : Lists) (before : List Event) (e : Event) → ((k : ℕ) (q : QueueId) → slice_get qs k ≡ Some q → takes q.0 e ≡ false) → took qs taken before e ≡ []
took_none qs taken before e h = ap (λ o. option_to_list (option_and_then (λ (port : ℕ). option_map (λ (c : Cargo). (port, c)) (slice_get (taken e.queue.0) (takes_on e.queue.0 before))) o)) (no_port qs e h)

-- the place of a queue among queues that are apart
place_of_queue : (qs : List QueueId) (k : ℕ) (q : QueueId) → slice_get qs k ≡ Some q → AreApart qs → (position_or_len (λ (x : QueueId). x.0 == q.0) qs ≡ k) × (k < length qs)
place_of_queue [] k q at apart = cc
place_of_queue (x ∷ qs) zero q at apart =
    let is : eqb x.0 q.0 ≡ true = eq-eqb x.0 q.0 (ap (λ (y : QueueId). y.0) (some_eq at)) in
    ((rw is refl), omega arith)
place_of_queue (x ∷ qs) (suc k) q at apart =
    let isnt : eqb x.0 q.0 ≡ false = ne_eqb x.0 q.0 (λ e. let bad : zero ≡ suc k = apart zero (suc k) x q refl at e in cc) in
    let rest = place_of_queue qs k q at (λ a b y z g i e. let s : suc a ≡ suc b = apart (suc a) (suc b) y z g i e in cc) in
    let less : position_or_len (λ (y : QueueId). y.0 == q.0) (x ∷ qs) ≡ suc (position_or_len (λ (y : QueueId). y.0 == q.0) qs) = rw isnt (omega arith) in
    let long = rest.1 in
    (less ∙ ap suc rest.0, omega (arith, long))

pub took_here : (qs : List QueueId) (taken : Lists) (before : List Event) (e : Event) (k : ℕ) (c : Cargo) → slice_get qs k ≡ Some e.queue → AreApart qs → is_take e.op ≡ true → slice_get (taken e.queue.0) (takes_on e.queue.0 before) ≡ Some c → took qs taken before e ≡ (k, c) ∷ []
took_here qs taken before e k c on apart is got =
    let place = place_of_queue qs k e.queue on apart in
    let less = lt-ltb k (length qs) place.1 in
    let port : port_of qs e ≡ Some k = rw is (ap (λ m. cond (ltb m (length qs)) (Some m) None) place.0 ∙ ap (λ b. cond b (Some k) None) less) in
    ap (λ o. option_to_list (option_and_then (λ (port : ℕ). option_map (λ (c : Cargo). (port, c)) (slice_get (taken e.queue.0) (takes_on e.queue.0 before))) o)) port
    ∙ ap (λ o. option_to_list (option_map (λ (c : Cargo). (k, c)) o)) got

-- one call more
pub after_append : (qs : List QueueId) (taken : Lists) (before es : List Event) (e : Event) → taken_after qs taken before (es ++ e ∷ []) ≡ taken_after qs taken before es ++ took qs taken (before ++ es) e
after_append qs taken before [] e = append-nil (took qs taken before e) ∙ ap (λ l. took qs taken l e) (sym (append-nil before))
after_append qs taken before (x ∷ es) e =
    ap (λ l. took qs taken before x ++ l) (after_append qs taken (before ++ x ∷ []) es e ∙ ap (λ l. taken_after qs taken (before ++ x ∷ []) es ++ took qs taken l e) (append_assoc before (x ∷ []) es))
    ∙ sym (append_assoc (took qs taken before x) (taken_after qs taken (before ++ x ∷ []) es) (took qs taken (before ++ x ∷ es) e))

get_front : {X : Type 0} (xs ys : List X) (k : ℕ) → k < length xs → slice_get (xs ++ ys) k ≡ slice_get xs k
get_front [] ys k h = absurd (omega (arith, h))
get_front (x ∷ xs) ys zero h = refl
get_front (x ∷ xs) ys (suc k) h = get_front xs ys k (omega (arith, h))

took_more : (qs : List QueueId) (taken more : Lists) (before : List Event) (x : Event) → ((k : ℕ) (q : QueueId) → slice_get qs k ≡ Some q → takes q.0 x ≡ true → takes_on q.0 before < length (taken q.0)) → took qs (with taken more) before x ≡ took qs taken before x
took_more qs taken more before x h = go (port_of qs x) refl
  where
    go : (o : Option ℕ) → port_of qs x ≡ o → option_to_list {X = Sent} (option_and_then (λ (port : ℕ). option_map (λ (c : Cargo). (port, c)) (slice_get (with taken more x.queue.0) (takes_on x.queue.0 before))) (port_of qs x))
        ≡ option_to_list {X = Sent} (option_and_then (λ (port : ℕ). option_map (λ (c : Cargo). (port, c)) (slice_get (taken x.queue.0) (takes_on x.queue.0 before))) (port_of qs x))
    go None e = rw e refl
    go (Some k) e =
        let t = port_there qs x k e in
        let same : t.0.0 ≡ x.queue.0 = sym (eqb-true x.queue.0 t.0.0 (second (is_take x.op) (x.queue.0 == t.0.0) t.2)) in
        let less : takes_on x.queue.0 before < length (taken x.queue.0) = rw (sym same) (h k t.0 t.1 t.2) in
        ap (λ g. option_to_list {X = Sent} (option_and_then (λ (port : ℕ). option_map (λ (c : Cargo). (port, c)) g) (port_of qs x))) (get_front (taken x.queue.0) (more x.queue.0) (takes_on x.queue.0 before) less)
      where
        second : (a b : Bool) → (a && b) ≡ true → b ≡ true
        second true b h = h
        second false b h = cc

-- what is taken later changes nothing of what was taken before
pub after_more : (qs : List QueueId) (taken more : Lists) (before es : List Event) → ((k : ℕ) (q : QueueId) → slice_get qs k ≡ Some q → takes_on q.0 (before ++ es) ≤ length (taken q.0)) → taken_after qs (with taken more) before es ≡ taken_after qs taken before es
after_more qs taken more before [] h = refl
after_more qs taken more before (x ∷ es) h =
    let one = took_more qs taken more before x (λ k q at is. let a = takes_before q.0 before es x is in let b = h k q at in omega (arith, a, b)) in
    let rest = after_more qs taken more (before ++ x ∷ []) es (λ k q at. rw (append_assoc before (x ∷ []) es) (h k q at)) in
    ap (λ l. l ++ taken_after qs (with taken more) (before ++ x ∷ []) es) one ∙ ap (λ l. took qs taken before x ++ l) rest
