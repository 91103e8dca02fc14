use Rattle.std.proofs.Common.{◌≡◌, ℕ, zero, suc, ◌+◌, ◌<◌, ◌≤◌, inl, inr, Bool, true, false, cond, eqb, leb, ltb, ◌||◌, List, [], ◌∷◌, ◌++◌, length, sum_by, count_by, Option, Some, None, refl, ap, sym, ◌∙◌, arith, add-zero, zero-add, append-nil, length-append, MatchBool}
use Rattle.std.specs.List.{flat_map}
use Rattle.std.specs.Option.{option_to_list}
use Rattle.std.proofs.lemmas.Bool.{cases_Bool, eqb-true, eqb-false, ltb-false}
use Rattle.std.proofs.lemmas.List.Concat.{flat_map-append}
use Rattle.std.proofs.lemmas.List.Sums.{sum_by-append}
use Rattle.frame_core.specs.declared.mac.Mac.{Mac}
use Rattle.line_text.specs.Lists.{per_client, grown_at}
use Rattle.line_text.proofs.Rows.{per_client_more, per_client_same, per_client_grown, length_per_client}
use Rattle.line_text.specs.declared.ports_text.line.Line.{Line}
use Rattle.line_text.specs.declared.ports_text.line.Line.TheVariants as Says
use Rattle.line_text.specs.declared.ports_text.reader.Reader.{Reader}
use Rattle.line_text.specs.PortsText.Given.{macs_said, sends_said, is_send, macs_in, is_among, ports_from, is_out_of_place, is_bad_after}
use Rattle.line_text.specs.PortsText.Reading.{reader_after, is_refused, reader_with, IsTaken, IsRead, HasLists}

-- one more line, and what it gives
flat_more : {T : Type 0} (f : Line → List T) (lines : List Line) (e : Line) → flat_map f (lines ++ e ∷ []) ≡ flat_map f lines ++ f e
flat_more f lines e = flat_map-append f lines (e ∷ []) ∙ ap (λ more. flat_map f lines ++ more) (append-nil (f e))

flat_same : {T : Type 0} (f : Line → List T) (lines : List Line) (e : Line) → f e ≡ [] → flat_map f (lines ++ e ∷ []) ≡ flat_map f lines
flat_same f lines e none = flat_more f lines e ∙ ap (λ more. flat_map f lines ++ more) none ∙ append-nil (flat_map f lines)

sum_more : (f : Line → ℕ) (lines : List Line) (e : Line) → sum_by f (lines ++ e ∷ []) ≡ sum_by f lines + f e
sum_more f lines e = sum_by-append f lines (e ∷ []) ∙ ap (λ k. sum_by f lines + k) (zero-add (f e))

sum_same : (f : Line → ℕ) (lines : List Line) (e : Line) → f e ≡ 0 → sum_by f (lines ++ e ∷ []) ≡ sum_by f lines
sum_same f lines e none = sum_more f lines e ∙ ap (λ k. sum_by f lines + k) none ∙ add-zero (sum_by f lines)

pub has_lists : (lines : List Line) → HasLists (reader_after lines)
unfolding ports_from
has_lists lines = length_per_client (length (macs_in lines)) _

choice_here : {T : Type 0} (c k : ℕ) (more : List T) → c ≡ k → cond (eqb c k) more [] ≡ more
choice_here c k more is = elim (cases_Bool (eqb c k)) [
  | inl same ↦ rw same refl
  | inr other ↦ absurd (eqb-false c k other is)
]

choice_other : {T : Type 0} (c k : ℕ) (more : List T) → (c ≡ k → ⊥) → cond (eqb c k) more [] ≡ []
choice_other c k more isnt = elim (cases_Bool (eqb c k)) [
  | inl same ↦ absurd (isnt (eqb-true c k same))
  | inr other ↦ rw other refl
]

-- a line that gives no port leaves their number
ports_same : (lines : List Line) (e : Line) → macs_said e ≡ [] → length (macs_in (lines ++ e ∷ [])) ≡ length (macs_in lines)
ports_same lines e none = ap length (flat_same macs_said lines e none)

-- the frames of all ports after a skipped line
sends_same : (lines : List Line) → per_client (length (macs_in lines)) (λ k. flat_map (sends_said k) lines)
    ≡ per_client (length (macs_in (lines ++ Says.Skipped ∷ []))) (λ k. flat_map (sends_said k) (lines ++ Says.Skipped ∷ []))
sends_same lines =
    rw (ports_same lines Says.Skipped refl)
    (per_client_same (length (macs_in lines)) _ _ (λ k. sym (flat_same (sends_said k) lines Says.Skipped refl)))

-- after one that gives a port one more
sends_grown : (lines : List Line) (c : ℕ) (frame : List ℕ)
    → grown_at (per_client (length (macs_in lines)) (λ k. flat_map (sends_said k) lines)) c (frame ∷ [])
    ≡ per_client (length (macs_in (lines ++ Says.Send c frame ∷ []))) (λ k. flat_map (sends_said k) (lines ++ Says.Send c frame ∷ []))
sends_grown lines c frame =
    rw (ports_same lines (Says.Send c frame) refl)
    (per_client_grown (length (macs_in lines)) c (frame ∷ []) (λ k. flat_map (sends_said k) lines) (λ k. flat_map (sends_said k) (lines ++ Says.Send c frame ∷ []))
    (λ k is. flat_more (sends_said k) lines (Says.Send c frame) ∙ ap (λ x. flat_map (sends_said k) lines ++ x) (choice_here c k (frame ∷ []) is))
    (λ k isnt. flat_same (sends_said k) lines (Says.Send c frame) (choice_other c k (frame ∷ []) isnt)))

-- after a new port, where no frame was sent yet
sends_with_port : (lines : List Line) (mac : Mac) → ((k : ℕ) → flat_map (sends_said k) lines ≡ [])
    → per_client (length (macs_in lines)) (λ k. flat_map (sends_said k) lines) ++ [] ∷ []
    ≡ per_client (length (macs_in (lines ++ Says.Port mac ∷ []))) (λ k. flat_map (sends_said k) (lines ++ Says.Port mac ∷ []))
sends_with_port lines mac h =
    let n = length (macs_in lines) in
    let g = λ (k : ℕ). flat_map (sends_said k) (lines ++ Says.Port mac ∷ []) in
    let count : length (macs_in (lines ++ Says.Port mac ∷ [])) ≡ n + 1 = ap length (flat_more macs_said lines (Says.Port mac)) ∙ length-append (macs_in lines) (mac ∷ []) in
    let none : g n ≡ [] = flat_same (sends_said n) lines (Says.Port mac) refl ∙ h n in
    ap (λ l. l ++ [] ∷ []) (per_client_same n (λ k. flat_map (sends_said k) lines) g (λ k. sym (flat_same (sends_said k) lines (Says.Port mac) refl)))
    ∙ (ap (λ x. per_client n g ++ x ∷ []) (sym none) ∙ (sym (per_client_more n g) ∙ ap (λ m. per_client m g) (sym count)))

one_sent : (c : ℕ) (frame : List ℕ) (lines : List Line) → count_by is_send (Says.Send c frame ∷ lines) ≡ 0 → ⊥
one_sent c frame lines none =
    let split : count_by is_send (Says.Send c frame ∷ lines) ≡ 1 + count_by is_send lines = sum_by-append (λ (x : Line). cond (is_send x) 1 0) (Says.Send c frame ∷ []) lines in
    omega (arith, split, none)

-- where no line sends, no port has a frame
unsent : (lines : List Line) → count_by is_send lines ≡ 0 → (k : ℕ) → flat_map (sends_said k) lines ≡ []
unsent [] h k = refl
unsent (Says.Skipped ∷ lines) h k = unsent lines h k
unsent (Says.Port mac ∷ lines) h k = unsent lines h k
unsent (Says.Send c frame ∷ lines) h k = absurd (one_sent c frame lines h)

none_sent : (lines : List Line) → ltb 0 (count_by is_send lines) ≡ false → count_by is_send lines ≡ 0
none_sent lines h = let none = ltb-false 0 (count_by is_send lines) h in omega arith

or_left : (a b : Bool) → (a || b) ≡ false → a ≡ false
or_left true b h = cc
or_left false b h = refl

assemble : (macs macs' : List Mac) (sends sends' : List (List (List ℕ))) (sent sent' : ℕ) → macs ≡ macs' → sends ≡ sends' → sent ≡ sent'
    → ◌≡◌ {A = Reader} (record { ports = record { macs = macs; sends = sends }; sent = sent }) (record { ports = record { macs = macs'; sends = sends' }; sent = sent' })
assemble a a' b b' c c' e1 e2 e3 = rw (e1, e2, e3) refl

-- the reader after one more line
grown_after : (lines : List Line) (e : Line) → is_refused (reader_after lines) e ≡ false → reader_with (reader_after lines) e ≡ reader_after (lines ++ e ∷ [])
unfolding ports_from
grown_after lines Says.Skipped h = assemble _ _ _ _ _ _
    (sym (flat_same macs_said lines Says.Skipped refl))
    (sends_same lines)
    (sym (sum_same (λ x. cond (is_send x) 1 0) lines Says.Skipped refl))
grown_after lines (Says.Port mac) h =
    let none = or_left (ltb 0 (count_by is_send lines)) _ (or_left _ (is_among mac (macs_in lines)) h) in
    assemble _ _ _ _ _ _
    (sym (flat_more macs_said lines (Says.Port mac)))
    (sends_with_port lines mac (unsent lines (none_sent lines none)))
    (sym (sum_same (λ x. cond (is_send x) 1 0) lines (Says.Port mac) refl))
grown_after lines (Says.Send c frame) h = assemble _ _ _ _ _ _
    (sym (flat_same macs_said lines (Says.Send c frame) refl))
    (sends_grown lines c frame)
    (sym (sum_more (λ x. cond (is_send x) 1 0) lines (Says.Send c frame)))

refused_same : (lines : List Line) (e : Line) → is_refused (reader_after lines) e ≡ is_out_of_place lines e
unfolding ports_from
refused_same lines Says.Skipped = refl
refused_same lines (Says.Port mac) = refl
refused_same lines (Says.Send c frame) = refl

-- a line that was taken
pub taken_after : (lines : List Line) (e : Option Line) (r : Reader) → IsRead (reader_after lines) r true e
    → (is_bad_after lines e ≡ false) × (r ≡ reader_after (lines ++ option_to_list e))
taken_after lines None r h = cc
taken_after lines (Some e) r h = (sym (refused_same lines e) ∙ h.0, sym h.1 ∙ grown_after lines e h.0)

-- a line that was found bad
pub bad_after : (lines : List Line) (e : Option Line) (r : Reader) → IsRead (reader_after lines) r false e → is_bad_after lines e ≡ true
bad_after lines None r h = refl
bad_after lines (Some e) r h = sym (refused_same lines e) ∙ h
