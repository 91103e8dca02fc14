use Rattle.std.proofs.Common.{◌≡◌, ℕ, ◌+◌, ◌<◌, List, ◌∷◌, ◌++◌, length, drop, get_or, refl, sym, ◌∙◌, ap, add-one, append_assoc, drop-cons}
use Rattle.export_text.specs.ConfigText.Lines.{each_numbered}

-- a list from a place on begins with the element there
drop-at : {T : Type 0} (xs : List T) (at : ℕ) (x : T) → at < length xs → x ≡ get_or xs at x → drop at xs ≡ x ∷ drop (at + 1) xs
drop-at xs at x less is = drop-cons xs at x less ∙ rw (← is, add-one) refl

-- a loop writes the first of the things that are left
pub numbered-step : {T : Type 0} (text : ℕ → T → List ℕ) (xs : List T) (at : ℕ) (x : T) (old new whole : List ℕ)
    → at < length xs → x ≡ get_or xs at x → new ≡ old ++ text at x
    → old ++ each_numbered text at (drop at xs) ≡ whole → new ++ each_numbered text (at + 1) (drop (at + 1) xs) ≡ whole
numbered-step {T = T} text xs at x old new whole less is wrote was =
    let rest = each_numbered text (at + 1) (drop (at + 1) xs) in
    ap (λ l. l ++ rest) wrote ∙ append_assoc old (text at x) rest
    ∙ sym (ap (λ (l : List T). old ++ each_numbered text at l) (drop-at xs at x less is)) ∙ was

-- three texts were written one behind another
pub three-written : (old one two new a b c : List ℕ) → one ≡ old ++ a → two ≡ one ++ b → new ≡ two ++ c → new ≡ old ++ (a ++ (b ++ c))
three-written old one two new a b c e f g =
    g ∙ ap (λ l. l ++ c) (f ∙ ap (λ l. l ++ b) e) ∙ append_assoc (old ++ a) b c ∙ append_assoc old a (b ++ c)

-- a text was written, and then others
pub written-before : (old one new a rest : List ℕ) → one ≡ old ++ a → new ≡ one ++ rest → new ≡ old ++ (a ++ rest)
written-before old one new a rest e f = f ∙ ap (λ l. l ++ rest) e ∙ append_assoc old a rest

-- four texts were written one behind another
pub four-written : (old one two three new a b c d : List ℕ) → one ≡ old ++ a → two ≡ one ++ b → three ≡ two ++ c → new ≡ three ++ d
    → new ≡ old ++ (a ++ (b ++ (c ++ d)))
four-written old one two three new a b c d e f g h =
    written-before old one new a (b ++ (c ++ d)) e (three-written one two three new b c d f g h)

-- seven texts were written one behind another
pub seven-written : (old one two three four five six new a b c d e f g : List ℕ) → one ≡ old ++ a → two ≡ one ++ b → three ≡ two ++ c
    → four ≡ three ++ d → five ≡ four ++ e → six ≡ five ++ f → new ≡ six ++ g
    → new ≡ old ++ (a ++ (b ++ (c ++ (d ++ (e ++ (f ++ g))))))
seven-written old one two three four five six new a b c d e f g wrote-a wrote-b wrote-c wrote-d wrote-e wrote-f wrote-g =
    written-before old one new a (b ++ (c ++ (d ++ (e ++ (f ++ g))))) wrote-a
    (written-before one two new b (c ++ (d ++ (e ++ (f ++ g)))) wrote-b
    (written-before two three new c (d ++ (e ++ (f ++ g))) wrote-c
    (four-written three four five six new d e f g wrote-d wrote-e wrote-f wrote-g)))
