use Rattle.std.proofs.Common.{◌≡◌, refl, sym, ◌∙◌, ap, ℕ, zero, suc, ◌+◌, ◌<◌, ◌≤◌, ◌==◌, true, false, List, [], ◌∷◌, length, drop, slice_index, arith, if◌then◌else◌}
use Rattle.std.proofs.lemmas.Bool.{eq-eqb, ne_eqb}
use Rattle.std.proofs.lemmas.List.{drop_more}
use Rattle.report_text.specs.Runs.{ByteRun, with_byte, runs_of}

-- a byte put before some runs so many times
abbrev pub lengthened : ℕ → ℕ → List ByteRun → List ByteRun
lengthened zero b rs = rs
lengthened (suc n) b rs = lengthened n b (with_byte b rs)

-- more of the byte of the first run lengthen it
grown : (n m b : ℕ) (rs : List ByteRun) → lengthened n b (record { times = m; byte = b } ∷ rs) ≡ record { times = m + n; byte = b } ∷ rs
grown zero m b rs = ap (λ k. record { times = k; byte = b } ∷ rs) (omega arith)
grown (suc n) m b rs =
    ap (λ t. lengthened n b (if t then record { times = m + 1; byte = b } ∷ rs else record { times = 1; byte = b } ∷ record { times = m; byte = b } ∷ rs)) (eq-eqb b b refl)
    ∙ grown n (m + 1) b rs ∙ ap (λ k. record { times = k; byte = b } ∷ rs) (omega arith)

-- a byte before runs of another byte is a run of its own
begins : (b c : ℕ) (rs : List ByteRun) → (b == c) ≡ false → with_byte b (with_byte c rs) ≡ record { times = 1; byte = b } ∷ with_byte c rs
begins b c [] e = ap (λ t. if t then record { times = 2; byte = b } ∷ [] else record { times = 1; byte = b } ∷ record { times = 1; byte = c } ∷ []) e
begins b c (r ∷ rs) e = elim (c == r.byte) as (λ t. with_byte b (if t then record { times = r.times + 1; byte = c } ∷ rs else record { times = 1; byte = c } ∷ r ∷ rs) ≡ record { times = 1; byte = b } ∷ (if t then record { times = r.times + 1; byte = c } ∷ rs else record { times = 1; byte = c } ∷ r ∷ rs)) [
  | true ↦ ap (λ t. if t then record { times = r.times + 1 + 1; byte = b } ∷ rs else record { times = 1; byte = b } ∷ record { times = r.times + 1; byte = c } ∷ rs) e
  | false ↦ ap (λ t. if t then record { times = 2; byte = b } ∷ r ∷ rs else record { times = 1; byte = b } ∷ record { times = 1; byte = c } ∷ r ∷ rs) e
]

-- so many of a byte before runs of another byte, or before none
counted : (n b : ℕ) (rs : List ByteRun) → 0 < n → with_byte b rs ≡ record { times = 1; byte = b } ∷ rs → lengthened n b rs ≡ record { times = n; byte = b } ∷ rs
counted zero b rs h e = absurd (omega (arith, h))
counted (suc n) b rs h e = ap (lengthened n b) e ∙ grown n 1 b rs ∙ ap (λ k. record { times = k; byte = b } ∷ rs) (omega arith)

-- the run ends before another byte
pub ends_before : (bytes : List ℕ) (n b : ℕ) → 0 < n → n < length bytes → (slice_index bytes n ≡ b → ⊥)
    → runs_of bytes ≡ lengthened n b (runs_of (drop n bytes)) → runs_of bytes ≡ record { times = n; byte = b } ∷ runs_of (drop n bytes)
ends_before bytes n b h l e so =
    let other : (b == slice_index bytes n) ≡ false = ne_eqb b (slice_index bytes n) (λ same. e (sym same)) in
    let rest : drop n bytes ≡ slice_index bytes n ∷ drop (n + 1) bytes = drop_more bytes n 0 l in
    so ∙ counted n b (runs_of (drop n bytes)) h
    (ap (λ bs. with_byte b (runs_of bs)) rest ∙ begins b (slice_index bytes n) (runs_of (drop (n + 1) bytes)) other ∙ sym (ap (λ bs. record { times = 1; byte = b } ∷ runs_of bs) rest))

none_left : (bytes : List ℕ) (n : ℕ) → length bytes ≤ n → drop n bytes ≡ []
none_left [] zero h = refl
none_left [] (suc n) h = refl
none_left (x ∷ bytes) zero h = absurd (omega (arith, h))
none_left (x ∷ bytes) (suc n) h = none_left bytes n (omega (arith, h))

-- the run ends where the list does
pub ends_last : (bytes : List ℕ) (n b : ℕ) → 0 < n → length bytes ≤ n
    → runs_of bytes ≡ lengthened n b (runs_of (drop n bytes)) → runs_of bytes ≡ record { times = n; byte = b } ∷ runs_of (drop n bytes)
ends_last bytes n b h l so =
    let rest = none_left bytes n l in
    so ∙ counted n b (runs_of (drop n bytes)) h (ap (λ bs. with_byte b (runs_of bs)) rest ∙ sym (ap (λ bs. record { times = 1; byte = b } ∷ runs_of bs) rest))
