use Rattle.std.proofs.Common.{◌≡◌, refl, sym, ◌∙◌, ap, subst, ℕ, ◌==◌, Bool, true, false, inl, inr, Some, List, [], ◌∷◌, ◌++◌, append_assoc}
use Rattle.std.proofs.lemmas.Bool.{cases_Bool, eqb-true}
use Rattle.std.specs.List.{flat_map}
use Rattle.std.specs.Option.{option_map}
use Rattle.picture_kit.specs.Quotes.{Got, quoted_byte, quoted, read_quoted, with_byte}

-- a byte that is written is read, and the reader goes on behind it
abbrev IsRead : List ℕ → ℕ → Type 0
IsRead more b = read_quoted false (quoted_byte b ++ more) ≡ option_map (with_byte b) (read_quoted false more)

-- a byte that has no backslash stays
stays : (b : ℕ) → (b == 34) ≡ false → (b == 92) ≡ false → (b == 10) ≡ false → quoted_byte b ≡ b ∷ []
stays b e1 e2 e3 = rw (e1, e2, e3) refl

read_plain : (more : List ℕ) (b : ℕ) → (b == 34) ≡ false → (b == 92) ≡ false → read_quoted false (b ∷ more) ≡ option_map (with_byte b) (read_quoted false more)
read_plain more b e1 e2 = rw (e1, e2) refl

read_more : (more : List ℕ) (b : ℕ) → IsRead more b
read_more more b =
    elim (cases_Bool (b == 34)) [
      | inl e ↦ subst (IsRead more) (sym (eqb-true b 34 e)) refl
      | inr e1 ↦
          elim (cases_Bool (b == 92)) [
            | inl e ↦ subst (IsRead more) (sym (eqb-true b 92 e)) refl
            | inr e2 ↦
                elim (cases_Bool (b == 10)) [
                  | inl e ↦ subst (IsRead more) (sym (eqb-true b 10 e)) refl
                  | inr e3 ↦
                      ap (λ w. read_quoted false (w ++ more)) (stays b e1 e2 e3) ∙ read_plain more b e1 e2
                ]
          ]
    ]

-- a text that is written is read up to its last quote
pub read_all : (text rest : List ℕ) → read_quoted false (flat_map quoted_byte text ++ 34 ∷ rest) ≡ Some (record { text = text; rest = rest })
read_all [] rest = refl
read_all (b ∷ text) rest =
    ap (read_quoted false) (append_assoc (quoted_byte b) (flat_map quoted_byte text) (34 ∷ rest))
    ∙ read_more (flat_map quoted_byte text ++ 34 ∷ rest) b
    ∙ ap (option_map (with_byte b)) (read_all text rest)

-- so behind the first quote a reader gets the text, and what stands behind the last one
pub read_back : (text rest inside : List ℕ) → quoted text ++ rest ≡ 34 ∷ inside → read_quoted false inside ≡ Some (record { text = text; rest = rest })
read_back text rest inside h =
    let same : (flat_map quoted_byte text ++ 34 ∷ []) ++ rest ≡ inside = cc in
    ap (read_quoted false) (sym same ∙ append_assoc (flat_map quoted_byte text) (34 ∷ []) rest) ∙ read_all text rest
