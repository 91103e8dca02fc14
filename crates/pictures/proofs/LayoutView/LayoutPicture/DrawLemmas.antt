use Rattle.std.proofs.Common.{◌≡◌, refl, sym, ◌∙◌, ap, ℕ, zero, suc, ◌+◌, List, [], ◌∷◌, ◌++◌, drop, slice_get, Some, append_assoc, rules}
use Rattle.pictures.specs.LayoutView.LayoutPicture.Cards.{draw_each}

-- a list from the place of an element on
pub drop_at : {T : Type 0} (xs : List T) (k : ℕ) (x : T) → slice_get xs k ≡ Some x → drop k xs ≡ x ∷ drop (k + 1) xs
drop_at [] k x h = search h
drop_at (y ∷ xs) zero x h = search h
drop_at (y ∷ xs) (suc k) x h = search (rules, drop_at xs k x h)

-- one more element drawn: what is drawn and what is left stay the whole
pub drawn_more : {T A : Type 0} (f : ℕ → T → List A) (xs : List T) (k : ℕ) (x : T) (old new whole : List A)
    → slice_get xs k ≡ Some x → new ≡ old ++ f k x → old ++ draw_each f k (drop k xs) ≡ whole
    → new ++ draw_each f (k + 1) (drop (k + 1) xs) ≡ whole
drawn_more {T = T} {A = A} f xs k x old new whole at is so =
    let rest = draw_each f (k + 1) (drop (k + 1) xs) in
    ap (λ w. w ++ rest) is ∙ append_assoc old (f k x) rest
    ∙ sym (ap (λ (l : List T). old ++ draw_each f k l) (drop_at xs k x at)) ∙ so

-- a part below its heading
pub headed : {A : Type 0} (old mid new head rest : List A) → mid ≡ old ++ head → new ≡ mid ++ rest → new ≡ old ++ (head ++ rest)
headed old mid new head rest a b = b ∙ ap (λ w. w ++ rest) a ∙ append_assoc old head rest
