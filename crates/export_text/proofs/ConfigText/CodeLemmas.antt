use Rattle.std.proofs.Common.{◌≡◌, ℕ, ◌==◌, true, false, List, [], ◌∷◌, ◌++◌, inl, inr, refl, sym, ◌∙◌, ap}
use Rattle.std.proofs.lemmas.Bool.{cases_Bool, eqb-true}
use Rattle.export_text.specs.ConfigText.Code.{stays, mark_of, code_byte, code, byte_of, name_from}

-- the byte of its code
data Sort (b : ℕ) : Type 0 where
  line : b ≡ 95 → Sort b
  dash : b ≡ 45 → Sort b
  dot : b ≡ 46 → Sort b
  sign : b ≡ 64 → Sort b
  other : mark_of b ≡ b → Sort b

other-is : (b : ℕ) → (b == 95) ≡ false → (b == 45) ≡ false → (b == 46) ≡ false → (b == 64) ≡ false → mark_of b ≡ b
other-is b h1 h2 h3 h4 = rw (h1, h2, h3, h4) refl

sort-of : (b : ℕ) → Sort b
sort-of b = elim (cases_Bool (b == 95)) [
  | inl e ↦ line (eqb-true b 95 e)
  | inr e1 ↦
      elim (cases_Bool (b == 45)) [
        | inl e ↦ dash (eqb-true b 45 e)
        | inr e2 ↦
            elim (cases_Bool (b == 46)) [
              | inl e ↦ dot (eqb-true b 46 e)
              | inr e3 ↦
                  elim (cases_Bool (b == 64)) [ inl e ↦ sign (eqb-true b 64 e) | inr e4 ↦ other (other-is b e1 e2 e3 e4) ]
            ]
      ]
]

-- a byte that is no letter or digit is none of the codes
not-one : (b m : ℕ) → stays b ≡ false → stays m ≡ true → (b == m) ≡ false
not-one b m h g = elim (cases_Bool (b == m)) [ inl e ↦ (let same = eqb-true b m e in absurd (cc (ap stays same, h, g))) | inr e ↦ e ]

back-other : (b : ℕ) → stays b ≡ false → byte_of b ≡ b
back-other b h =
    let e1 = not-one b 117 h refl in let e2 = not-one b 104 h refl in let e3 = not-one b 100 h refl in let e4 = not-one b 97 h refl in
    rw (e1, e2, e3, e4) refl

back : (b : ℕ) → stays b ≡ false → Sort b → byte_of (mark_of b) ≡ b
back b h (line e) = rw e refl
back b h (dash e) = rw e refl
back b h (dot e) = rw e refl
back b h (sign e) = rw e refl
back b h (other e) = rw e (back-other b h)

-- a letter or a digit is no `_`
no-line : (b : ℕ) → stays b ≡ true → (b == 95) ≡ false
no-line b h = elim (cases_Bool (b == 95)) [ inl e ↦ (let same = eqb-true b 95 e in absurd (cc (ap stays same, h))) | inr e ↦ e ]

byte-read : (b : ℕ) (rest : List ℕ) → name_from false (code_byte b ++ rest) ≡ b ∷ name_from false rest
byte-read b rest = elim (cases_Bool (stays b)) [
  | inl h ↦ (let kept : code_byte b ≡ b ∷ [] = rw h refl in let plain = no-line b h in ap (λ l. name_from false (l ++ rest)) kept ∙ rw plain refl)
  | inr h ↦ (let coded : code_byte b ≡ 95 ∷ mark_of b ∷ [] = rw h refl in
      ap (λ l. name_from false (l ++ rest)) coded ∙ ap (λ x. x ∷ name_from false rest) (back b h (sort-of b)))
]

pub code-read : (name : List ℕ) → name_from false (code name) ≡ name
code-read [] = refl
code-read (b ∷ name) = byte-read b (code name) ∙ ap (λ l. b ∷ l) (code-read name)

pub code-injective : (a b : List ℕ) → code a ≡ code b → a ≡ b
code-injective a b e = sym (code-read a) ∙ ap (λ l. name_from false l) e ∙ code-read b
