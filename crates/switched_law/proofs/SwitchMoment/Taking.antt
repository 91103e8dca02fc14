-- What the switch took, by its calls and by what the ports send.
use Rattle.std.proofs.Common.{◌≡◌, ◌⊎◌, ◌==◌, ◌+◌, ◌*◌, ◌<◌, ◌≤◌, ℕ, zero, suc, true, false, cond, Option, Some, List, [], ◌∷◌, ◌++◌, length, map, slice_get, refl, sym, ap, ◌∙◌, subst, arith, inl, inr, append_assoc}
use Rattle.std.specs.Option.{option_map, option_to_list}
use Rattle.std.proofs.lemmas.Bool.{cases_Bool, cases_lt, eqb-true, and_parts}
use Rattle.std.proofs.lemmas.List.{map-append}
use Rattle.std.proofs.lemmas.List.Sums.{sum_by-append, sum_by-cons}
use Rattle.cargo_core.specs.Lists.{IsPrefix}
use Rattle.wire_core.specs.declared.names.QueueId.{QueueId}
use Rattle.wire_core.specs.declared.names.Event.{Event}
use Rattle.wire_core.specs.Deeds.{Cargo}
use Rattle.wire_core.specs.Lists.{Lists}
use Rattle.turn_kit.specs.ManyEnds.{AreApart}
use Rattle.play_core.proofs.Lists.{some_is, map_get, there_is, there_below}
use Rattle.buffer_kit.specs.Entries.{frame_of}
use Rattle.net_law.proofs.PartsLemmas.Leasing.{prefix_get}
use Rattle.net_switch.specs.Ends.{is_take}
use Rattle.net_switch.specs.Switching.{takes_on, took, taken_after}
use Rattle.net_switch.proofs.Takes.{takes, took_none, took_here}
use Rattle.switched_law.specs.SwitchMoment.Takes.{told, takes_from, next_frame, frames_after}

-- a call that took among others
takes_before : (n : ℕ) (before es : List Event) (e : Event) → takes n e ≡ true → takes_on n before < takes_on n (before ++ e ∷ es)
takes_before n before es e is =
    let a = sum_by-append (λ (x : Event). cond (takes n x) 1 0) before (e ∷ es) in
    let b = sum_by-cons (λ (x : Event). cond (takes n x) 1 0) e es in
    let one : cond {A = ℕ} (takes n e) 1 0 ≡ 1 = ap (λ b. cond {A = ℕ} b 1 0) is in
    omega (arith, a, b, one)

-- a call takes at one queue alone
other_queue : (a b : ℕ) (e : Event) → takes_from a e ≡ true → (a ≡ b → ⊥) → takes_from b e ≡ false
other_queue a b e is off = elim (cases_Bool (takes_from b e)) [
  | inl so ↦
      let one = eqb-true e.queue.0 (4 * a) (and_parts (is_take e.op) (e.queue.0 == 4 * a) is).1 in
      let other = eqb-true e.queue.0 (4 * b) (and_parts (is_take e.op) (e.queue.0 == 4 * b) so).1 in
      absurd (off (omega (arith, one, other)))
  | inr isnt ↦ isnt
]

-- where a call takes from none of these ports, no frame comes
next_none : (s : ℕ) (sends : List (List (List ℕ))) (before : List Event) (e : Event) → ((k : ℕ) → k < length sends → takes_from (s + k) e ≡ false) → next_frame s sends before e ≡ []
next_none s [] before e none = refl
next_none s (frames ∷ sends) before e none =
    let here : takes_from s e ≡ false = subst (λ i. takes_from i e ≡ false) (omega arith) (none 0 (omega arith)) in
    ap (λ b. cond b (option_to_list (option_map (λ (frame : List ℕ). (s, frame)) (slice_get frames (takes_on (4 * s) before)))) [] ++ next_frame (s + 1) sends before e) here
    ∙ next_none (s + 1) sends before e (λ k less. subst (λ i. takes_from i e ≡ false) (omega arith) (none (suc k) (omega (arith, less))))

-- where it takes from one of them, the next of its frames comes
next_here : (s : ℕ) (sends : List (List (List ℕ))) (before : List Event) (e : Event) (k : ℕ) (frames : List (List ℕ)) (frame : List ℕ) → slice_get sends k ≡ Some frames → takes_from (s + k) e ≡ true → slice_get frames (takes_on (4 * (s + k)) before) ≡ Some frame
    → next_frame s sends before e ≡ (s + k, frame) ∷ []
next_here s [] before e k frames frame at is got = cc
next_here s (fs ∷ sends) before e zero frames frame at is got =
    let z : s + 0 ≡ s = omega arith in
    let here : takes_from s e ≡ true = subst (λ i. takes_from i e ≡ true) z is in
    let mine : slice_get fs (takes_on (4 * s) before) ≡ Some frame = ap (λ l. slice_get l (takes_on (4 * s) before)) (some_is at) ∙ subst (λ i. slice_get frames (takes_on (4 * i) before) ≡ Some frame) z got in
    let rest : next_frame (s + 1) sends before e ≡ [] = next_none (s + 1) sends before e (λ k less. other_queue s ((s + 1) + k) e here (λ same. omega (arith, same))) in
    ap (λ b. cond b (option_to_list (option_map (λ (f : List ℕ). (s, f)) (slice_get fs (takes_on (4 * s) before)))) [] ++ next_frame (s + 1) sends before e) here
    ∙ (ap (λ o. option_to_list (option_map (λ (f : List ℕ). (s, f)) o) ++ next_frame (s + 1) sends before e) mine
    ∙ (ap (λ l. (s, frame) ∷ l) rest ∙ ap (λ i. (i, frame) ∷ []) (sym z)))
next_here s (fs ∷ sends) before e (suc k) frames frame at is got =
    let z : s + suc k ≡ (s + 1) + k = omega arith in
    let here : takes_from s e ≡ false = other_queue (s + suc k) s e is (λ same. omega (arith, same)) in
    ap (λ b. cond b (option_to_list (option_map (λ (f : List ℕ). (s, f)) (slice_get fs (takes_on (4 * s) before)))) [] ++ next_frame (s + 1) sends before e) here
    ∙ (next_here (s + 1) sends before e k frames frame at (subst (λ i. takes_from i e ≡ true) z is) (subst (λ i. slice_get frames (takes_on (4 * i) before) ≡ Some frame) z got)
    ∙ ap (λ i. (i, frame) ∷ []) (sym z))

-- a queue by its number
abbrev queue_some : ℕ → Option QueueId
queue_some n = Some (record { 0 = n })

-- one of so many ports from which a call takes, or none
taker : (n : ℕ) (e : Event) → ((port : ℕ) × (port < n) × (takes_from port e ≡ true)) ⊎ ((port : ℕ) → port < n → takes_from port e ≡ false)
taker zero e = inr (λ port less. absurd (omega (arith, less)))
taker (suc n) e = elim (cases_Bool (takes_from n e)) [
  | inl is ↦ inl (n, omega arith, is)
  | inr isnt ↦ elim (taker n e) [
    | inl found ↦ (let less = found.1 in inl (found.0, omega (arith, less), found.2))
    | inr none ↦ inr (λ port less. elim (cases_lt port n) [
      | inl below ↦ none port below
      | inr past ↦ (let same : n ≡ port = omega (arith, less, past) in subst (λ i. takes_from i e ≡ false) same isnt)
    ])
  ]
]

module _ (qs : List QueueId) (sends : List (List (List ℕ))) (taken : Lists) (many : length qs ≡ length sends) (each : (port : ℕ) → port < length sends → slice_get qs port ≡ Some (record { 0 = 4 * port })) (apart : AreApart qs)
    (first : (port : ℕ) (frames : List (List ℕ)) → slice_get sends port ≡ Some frames → IsPrefix (map (λ (c : Cargo). frame_of c) (taken (4 * port))) frames) where
  -- one call
  took_same : (before es : List Event) (e : Event) → ((port : ℕ) → port < length sends → takes_on (4 * port) (before ++ e ∷ es) ≤ length (taken (4 * port))) → map told (took qs taken before e) ≡ next_frame 0 sends before e
  took_same before es e bound = elim (taker (length sends) e) [
    | inl found ↦ here found.0 found.1 found.2
    | inr none ↦
        ap (map told) (took_none qs taken before e (λ k q at. off k q at none))
        ∙ sym (next_none 0 sends before e (λ k less. let z : k ≡ 0 + k = omega arith in subst (λ i. takes_from i e ≡ false) z (none k less)))
  ]
    where
      off : (k : ℕ) (q : QueueId) → slice_get qs k ≡ Some q → ((port : ℕ) → port < length sends → takes_from port e ≡ false) → takes q.0 e ≡ false
      off k q at none =
          let below = there_below qs k q at in
          let less : k < length sends = omega (arith, below, many) in
          let same : record { 0 = 4 * k } ≡ q = some_is (sym (each k less) ∙ at) in
          subst (λ (r : QueueId). takes r.0 e ≡ false) same (none k less)

      here : (port : ℕ) → port < length sends → takes_from port e ≡ true → map told (took qs taken before e) ≡ next_frame 0 sends before e
      here port less is =
          let parts = and_parts (is_take e.op) (e.queue.0 == 4 * port) is in
          let number : e.queue.0 ≡ 4 * port = eqb-true e.queue.0 (4 * port) parts.1 in
          let more = takes_before (4 * port) before es e is in
          let c = there_is (taken (4 * port)) (takes_on (4 * port) before) (let b = bound port less in omega (arith, more, b)) in
          let on : slice_get qs port ≡ Some e.queue = each port less ∙ ap queue_some (sym number) in
          let got : slice_get (taken e.queue.0) (takes_on e.queue.0 before) ≡ Some c.0 = ap (λ n. slice_get (taken n) (takes_on n before)) number ∙ c.1 in
          let fs = there_is sends port less in
          let frame : slice_get fs.0 (takes_on (4 * port) before) ≡ Some (frame_of c.0) =
          prefix_get (map (λ (x : Cargo). frame_of x) (taken (4 * port))) fs.0 (first port fs.0 fs.1) (takes_on (4 * port) before) (frame_of c.0) (map_get (λ (x : Cargo). frame_of x) (taken (4 * port)) (takes_on (4 * port) before) c.0 c.1) in
          let z : port ≡ 0 + port = omega arith in
          ap (map told) (took_here qs taken before e port c.0 on apart parts.0 got)
          ∙ (ap (λ i. (i, frame_of c.0) ∷ []) z
          ∙ sym (next_here 0 sends before e port fs.0 (frame_of c.0) fs.1 (subst (λ i. takes_from i e ≡ true) z is) (subst (λ i. slice_get fs.0 (takes_on (4 * i) before) ≡ Some (frame_of c.0)) z frame)))

  -- all calls
  pub taken_same : (before es : List Event) → ((port : ℕ) → port < length sends → takes_on (4 * port) (before ++ es) ≤ length (taken (4 * port))) → map told (taken_after qs taken before es) ≡ frames_after sends before es
  taken_same before [] bound = refl
  taken_same before (e ∷ es) bound =
      map-append told (took qs taken before e) (taken_after qs taken (before ++ e ∷ []) es)
      ∙ (ap (λ l. l ++ map told (taken_after qs taken (before ++ e ∷ []) es)) (took_same before es e bound)
      ∙ ap (λ l. next_frame 0 sends before e ++ l) (taken_same (before ++ e ∷ []) es (λ port less. subst (λ l. takes_on (4 * port) l ≤ length (taken (4 * port))) (sym (append_assoc before (e ∷ []) es)) (bound port less))))
