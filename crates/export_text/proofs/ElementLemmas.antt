use Rattle.std.proofs.Common.{◌≡◌, List, [], ◌∷◌, ◌++◌, refl, sym, ◌∙◌, ap, append_assoc}

-- a beginning, what is inside and an end were written one behind another
pub element-written : {T : Type 0} (old first second new inside : List T) (a z : T)
    → first ≡ old ++ a ∷ [] → second ≡ first ++ inside → new ≡ second ++ z ∷ [] → new ≡ old ++ (a ∷ (inside ++ z ∷ []))
element-written {T = T} old first second new inside a z one two three =
    three ∙ ap (λ (l : List T). l ++ z ∷ []) (two ∙ ap (λ (l : List T). l ++ inside) one)
    ∙ append_assoc (old ++ a ∷ []) inside (z ∷ []) ∙ append_assoc old (a ∷ []) (inside ++ z ∷ [])
