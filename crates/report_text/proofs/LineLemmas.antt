use Rattle.std.proofs.Common.{◌≡◌, refl, sym, ◌∙◌, ap, ℕ, zero, suc, ◌+◌, List, [], ◌∷◌, ◌++◌, map, drop, slice_get, Some, append_assoc, rules}
use Rattle.report_text.specs.Lines.{text_of}
use Rattle.report_text.specs.Reports.{each_numbered, one_numbered}

-- the text of more lines
pub text_of-append : (a b : List (List ℕ)) → text_of (a ++ b) ≡ text_of a ++ text_of b
text_of-append [] b = refl
text_of-append (line ∷ a) b = ap (λ t. line ++ 10 ∷ t) (text_of-append a b) ∙ sym (append_assoc line (10 ∷ text_of a) (text_of b))

-- a list from the place of an element on
pub drop_at : {T : Type 0} (xs : List T) (k : ℕ) (x : T) → slice_get xs k ≡ Some x → drop k xs ≡ x ∷ drop (k + 1) xs
drop_at [] k x h = search h
drop_at (y ∷ xs) zero x h = search h
drop_at (y ∷ xs) (suc k) x h = search (rules, drop_at xs k x h)

-- one more line written: what is written and what is left stay the whole
pub line_written : {X : Type 0} (f : X → List ℕ) (xs : List X) (k : ℕ) (x : X) (old new whole : List ℕ)
    → slice_get xs k ≡ Some x → new ≡ old ++ text_of (f x ∷ []) → old ++ text_of (map f (drop k xs)) ≡ whole
    → new ++ text_of (map f (drop (k + 1) xs)) ≡ whole
line_written {X = X} f xs k x old new whole at is so =
    let rest = text_of (map f (drop (k + 1) xs)) in
    ap (λ w. w ++ rest) is ∙ append_assoc old (f x ++ 10 ∷ []) rest ∙ ap (λ w. old ++ w) (append_assoc (f x) (10 ∷ []) rest)
    ∙ sym (ap (λ (l : List X). old ++ text_of (map f l)) (drop_at xs k x at)) ∙ so

-- the lines of one more client written
pub client_written : {X : Type 0} (lines : ℕ → X → List (List ℕ)) (xs : List X) (k : ℕ) (x : X) (old new whole : List ℕ)
    → slice_get xs k ≡ Some x → new ≡ old ++ text_of (lines k x) → old ++ text_of (each_numbered lines k (drop k xs)) ≡ whole
    → new ++ text_of (each_numbered lines (k + 1) (drop (k + 1) xs)) ≡ whole
client_written {X = X} lines xs k x old new whole at is so =
    let rest = each_numbered lines (k + 1) (drop (k + 1) xs) in
    ap (λ w. w ++ text_of rest) is ∙ append_assoc old (text_of (lines k x)) (text_of rest)
    ∙ sym (ap (λ w. old ++ w) (text_of-append (lines k x) rest))
    ∙ sym (ap (λ (l : List X). old ++ text_of (each_numbered lines k l)) (drop_at xs k x at)) ∙ so

-- lines written behind lines
pub written_on : (a b : List (List ℕ)) (old new : List ℕ) → old ≡ text_of a → new ≡ old ++ text_of b → new ≡ text_of (a ++ b)
written_on a b old new before more = more ∙ ap (λ w. w ++ text_of b) before ∙ sym (text_of-append a b)

-- the line of one more client written
pub count_written : {X : Type 0} (line : ℕ → X → List ℕ) (xs : List X) (k : ℕ) (x : X) (old new whole : List ℕ)
    → slice_get xs k ≡ Some x → new ≡ old ++ text_of (line k x ∷ []) → old ++ text_of (one_numbered line k (drop k xs)) ≡ whole
    → new ++ text_of (one_numbered line (k + 1) (drop (k + 1) xs)) ≡ whole
count_written {X = X} line xs k x old new whole at is so =
    let rest = text_of (one_numbered line (k + 1) (drop (k + 1) xs)) in
    ap (λ w. w ++ rest) is ∙ append_assoc old (line k x ++ 10 ∷ []) rest ∙ ap (λ w. old ++ w) (append_assoc (line k x) (10 ∷ []) rest)
    ∙ sym (ap (λ (l : List X). old ++ text_of (one_numbered line k l)) (drop_at xs k x at)) ∙ so
