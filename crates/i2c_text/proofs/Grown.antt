use Rattle.std.proofs.Common.{◌≡◌, ℕ, zero, suc, ◌+◌, ◌<◌, ◌≤◌, inl, inr, Bool, true, false, cond, eqb, leb, ltb, ◌||◌, List, [], ◌∷◌, ◌++◌, length, sum_by, count_by, Option, Some, None, refl, ap, sym, ◌∙◌, arith, add-zero, zero-add, append-nil, MatchBool}
use Rattle.std.specs.List.{flat_map}
use Rattle.std.specs.Option.{option_to_list}
use Rattle.std.proofs.lemmas.Bool.{cases_Bool, eqb-true, eqb-false, ltb-true, ltb-false}
use Rattle.std.proofs.lemmas.List.Concat.{flat_map-append}
use Rattle.std.proofs.lemmas.List.Sums.{sum_by-append}
use Rattle.i2c_text.specs.declared.bus.Bus.{Bus}
use Rattle.i2c_text.specs.declared.bus.BusAsk.{BusAsk}
use Rattle.i2c_text.specs.declared.line.Line.{Line}
use Rattle.i2c_text.specs.declared.line.Line.TheVariants as Says
use Rattle.i2c_text.specs.declared.reader.Reader.{Reader}
use Rattle.line_text.specs.Lists.{per_client, grown_at}
use Rattle.line_text.proofs.Rows.{per_client_same, per_client_grown, length_per_client}
use Rattle.i2c_text.specs.Buses.{clients_said, devices_said, asks_said, is_ask, is_said, clients_in, devices_in, bus_from, is_out_of_place, is_bad_after}
use Rattle.i2c_text.specs.Reading.{reader_after, is_refused, reader_with, IsTaken, IsRead, HasLists}

-- one more line, and what it gives
flat_more : {T : Type 0} (f : Line → List T) (lines : List Line) (e : Line) → flat_map f (lines ++ e ∷ []) ≡ flat_map f lines ++ f e
flat_more f lines e = flat_map-append f lines (e ∷ []) ∙ ap (λ more. flat_map f lines ++ more) (append-nil (f e))

flat_same : {T : Type 0} (f : Line → List T) (lines : List Line) (e : Line) → f e ≡ [] → flat_map f (lines ++ e ∷ []) ≡ flat_map f lines
flat_same f lines e none = flat_more f lines e ∙ ap (λ more. flat_map f lines ++ more) none ∙ append-nil (flat_map f lines)

sum_more : (f : Line → ℕ) (lines : List Line) (e : Line) → sum_by f (lines ++ e ∷ []) ≡ sum_by f lines + f e
sum_more f lines e = sum_by-append f lines (e ∷ []) ∙ ap (λ k. sum_by f lines + k) (zero-add (f e))

sum_same : (f : Line → ℕ) (lines : List Line) (e : Line) → f e ≡ 0 → sum_by f (lines ++ e ∷ []) ≡ sum_by f lines
sum_same f lines e none = sum_more f lines e ∙ ap (λ k. sum_by f lines + k) none ∙ add-zero (sum_by f lines)

pub has_lists : (lines : List Line) → HasLists (reader_after lines)
unfolding bus_from
has_lists lines = length_per_client (clients_in lines) _

choice_here : {T : Type 0} (c k : ℕ) (more : List T) → c ≡ k → cond (eqb c k) more [] ≡ more
choice_here c k more is = elim (cases_Bool (eqb c k)) [
  | inl same ↦ rw same refl
  | inr other ↦ absurd (eqb-false c k other is)
]

choice_other : {T : Type 0} (c k : ℕ) (more : List T) → (c ≡ k → ⊥) → cond (eqb c k) more [] ≡ []
choice_other c k more isnt = elim (cases_Bool (eqb c k)) [
  | inl same ↦ absurd (isnt (eqb-true c k same))
  | inr other ↦ rw other refl
]

-- the requests of all clients after a line that gives none
asks_same : (lines : List Line) (e : Line) → clients_said e ≡ 0 → ((k : ℕ) → asks_said k e ≡ [])
    → per_client (clients_in lines) (λ k. flat_map (asks_said k) lines) ≡ per_client (clients_in (lines ++ e ∷ [])) (λ k. flat_map (asks_said k) (lines ++ e ∷ []))
asks_same lines e none h =
    rw (sum_same clients_said lines e none)
    (per_client_same (clients_in lines) _ _ (λ k. sym (flat_same (asks_said k) lines e (h k))))

-- after one that gives a client one more
asks_grown : (lines : List Line) (c : ℕ) (ask : BusAsk)
    → grown_at (per_client (clients_in lines) (λ k. flat_map (asks_said k) lines)) c (ask ∷ [])
    ≡ per_client (clients_in (lines ++ Says.Ask c ask ∷ [])) (λ k. flat_map (asks_said k) (lines ++ Says.Ask c ask ∷ []))
asks_grown lines c ask =
    rw (sum_same clients_said lines (Says.Ask c ask) refl)
    (per_client_grown (clients_in lines) c (ask ∷ []) (λ k. flat_map (asks_said k) lines) (λ k. flat_map (asks_said k) (lines ++ Says.Ask c ask ∷ []))
    (λ k is. flat_more (asks_said k) lines (Says.Ask c ask) ∙ ap (λ x. flat_map (asks_said k) lines ++ x) (choice_here c k (ask ∷ []) is))
    (λ k isnt. flat_same (asks_said k) lines (Says.Ask c ask) (choice_other c k (ask ∷ []) isnt)))

-- a count of one more line that counts isn't 0
begun_more : (lines : List Line) (e : Line) → is_said e ≡ true → ltb 0 (count_by is_said (lines ++ e ∷ [])) ≡ true
begun_more lines e h =
    let more = sum_more (λ x. cond (is_said x) 1 0) lines e in
    rw (more, h) (elim (cases_Bool (ltb 0 (count_by is_said lines + 1))) [
      | inl is ↦ is
      | inr isnt ↦ absurd (let none = ltb-false 0 (count_by is_said lines + 1) isnt in omega arith)
    ])

one_said : (e : Line) (lines : List Line) → is_said e ≡ true → count_by is_said (e ∷ lines) ≡ 0 → ⊥
one_said e lines h none =
    let split : count_by is_said (e ∷ lines) ≡ sum_by (λ (x : Line). cond (is_said x) 1 0) (e ∷ []) + count_by is_said lines = sum_by-append (λ (x : Line). cond (is_said x) 1 0) (e ∷ []) lines in
    let one : sum_by (λ (x : Line). cond (is_said x) 1 0) (e ∷ []) ≡ 1 = rw h refl in
    omega (arith, split, one, none)

-- where only skipped lines came, nobody asked, and there are no devices and no clients
unsaid : (lines : List Line) → count_by is_said lines ≡ 0 → (clients_in lines ≡ 0) × ((k : ℕ) → flat_map (asks_said k) lines ≡ [])
unsaid [] h = (refl, λ k. refl)
unsaid (Says.Skipped ∷ lines) h = let rest = unsaid lines h in (rest.0, rest.1)
unsaid (Says.Clients n ∷ lines) h = absurd (one_said (Says.Clients n) lines refl h)
unsaid (Says.Device a ∷ lines) h = absurd (one_said (Says.Device a) lines refl h)
unsaid (Says.Ask c ask ∷ lines) h = absurd (one_said (Says.Ask c ask) lines refl h)

none_said : (lines : List Line) → ltb 0 (count_by is_said lines) ≡ false → count_by is_said lines ≡ 0
none_said lines h = let none = ltb-false 0 (count_by is_said lines) h in omega arith

assemble : (clients clients' : ℕ) (devices devices' : List ℕ) (asks asks' : List (List BusAsk)) (begun begun' : Bool) (asked asked' : ℕ)
    → clients ≡ clients' → devices ≡ devices' → asks ≡ asks' → begun ≡ begun' → asked ≡ asked'
    → ◌≡◌ {A = Reader}
    (record { bus = record { clients = clients; devices = devices; asks = asks }; begun = begun; asked = asked })
    (record { bus = record { clients = clients'; devices = devices'; asks = asks' }; begun = begun'; asked = asked' })
assemble a a' b b' c c' d d' e e' e1 e2 e3 e4 e5 = rw (e1, e2, e3, e4, e5) refl

-- the reader after one more line
grown_after : (lines : List Line) (e : Line) → is_refused (reader_after lines) e ≡ false → reader_with (reader_after lines) e ≡ reader_after (lines ++ e ∷ [])
unfolding bus_from
grown_after lines Says.Skipped h = assemble _ _ _ _ _ _ _ _ _ _
    (sym (sum_same clients_said lines Says.Skipped refl))
    (sym (flat_same devices_said lines Says.Skipped refl))
    (asks_same lines Says.Skipped refl (λ k. refl))
    (ap (ltb 0) (sym (sum_same (λ x. cond (is_said x) 1 0) lines Says.Skipped refl)))
    (sym (sum_same (λ x. cond (is_ask x) 1 0) lines Says.Skipped refl))
grown_after lines (Says.Clients n) h =
    let none = unsaid lines (none_said lines h) in
    let count : clients_in (lines ++ Says.Clients n ∷ []) ≡ n = sum_more clients_said lines (Says.Clients n) ∙ ap (λ k. k + n) none.0 ∙ zero-add n in
    assemble _ _ _ _ _ _ _ _ _ _
    (sym count)
    (sym (flat_same devices_said lines (Says.Clients n) refl))
    (rw count (per_client_same n _ _ (λ k. sym (flat_same (asks_said k) lines (Says.Clients n) refl ∙ none.1 k))))
    (sym (begun_more lines (Says.Clients n) refl))
    (sym (sum_same (λ x. cond (is_ask x) 1 0) lines (Says.Clients n) refl))
grown_after lines (Says.Device a) h = assemble _ _ _ _ _ _ _ _ _ _
    (sym (sum_same clients_said lines (Says.Device a) refl))
    (sym (flat_more devices_said lines (Says.Device a)))
    (asks_same lines (Says.Device a) refl (λ k. refl))
    (sym (begun_more lines (Says.Device a) refl))
    (sym (sum_same (λ x. cond (is_ask x) 1 0) lines (Says.Device a) refl))
grown_after lines (Says.Ask c ask) h = assemble _ _ _ _ _ _ _ _ _ _
    (sym (sum_same clients_said lines (Says.Ask c ask) refl))
    (sym (flat_same devices_said lines (Says.Ask c ask) refl))
    (asks_grown lines c ask)
    (sym (begun_more lines (Says.Ask c ask) refl))
    (sym (sum_more (λ x. cond (is_ask x) 1 0) lines (Says.Ask c ask)))

refused_same : (lines : List Line) (e : Line) → is_refused (reader_after lines) e ≡ is_out_of_place lines e
unfolding bus_from
refused_same lines Says.Skipped = refl
refused_same lines (Says.Clients n) = refl
refused_same lines (Says.Device a) = refl
refused_same lines (Says.Ask c ask) = refl

-- a line that was taken
pub taken_after : (lines : List Line) (e : Option Line) (r : Reader) → IsRead (reader_after lines) r true e
    → (is_bad_after lines e ≡ false) × (r ≡ reader_after (lines ++ option_to_list e))
taken_after lines None r h = cc
taken_after lines (Some e) r h = (sym (refused_same lines e) ∙ h.0, sym h.1 ∙ grown_after lines e h.0)

-- a line that was found bad
pub bad_after : (lines : List Line) (e : Option Line) (r : Reader) → IsRead (reader_after lines) r false e → is_bad_after lines e ≡ true
bad_after lines None r h = refl
bad_after lines (Some e) r h = sym (refused_same lines e) ∙ h
