-- Acts that are left out because they give what isn't kept.
use Rattle.std.proofs.Common.{◌≡◌, ◌<◌, ◌≤◌, ◌+◌, ◌-◌, ℕ, Bool, true, false, List, [], ◌∷◌, length, drop, get_or, refl, sym, ap, ◌∙◌, subst, arith, suc, nat_le, drop-cons, length-drop}
use native.Mathlib.Numerals.{unary_clauses}
use Rattle.std.proofs.lemmas.Bool.{le-leb, lt-leb}
use Rattle.std.proofs.lemmas.List.{drop_all}
use Rattle.cargo_core.specs.declared.act.Act.{Act}
use Rattle.client_programs.specs.Rogue.Acts.{makes_call, next_acts, is_none_left}

-- an act that makes a call stays the next one
pub stays : (kept : ℕ) (x : Act) (xs : List Act) → makes_call kept x ≡ true → next_acts kept (x ∷ xs) ≡ x ∷ xs
stays kept x xs h = rw h refl

-- one that makes none is left out
pub skips : (kept : ℕ) (x : Act) (xs : List Act) → makes_call kept x ≡ false → next_acts kept (x ∷ xs) ≡ next_acts kept xs
skips kept x xs h = rw h refl

pub skip_at : (kept : ℕ) (acts : List Act) (i : ℕ) (d : Act) → i < length acts → makes_call kept (get_or acts i d) ≡ false → next_acts kept (drop i acts) ≡ next_acts kept (drop (i + 1) acts)
skip_at kept acts i d h n = simp unary_clauses (ap (next_acts kept) (drop-cons acts i d h) ∙ skips kept (get_or acts i d) (drop (suc i) acts) n)

pub stay_at : (kept : ℕ) (acts : List Act) (i : ℕ) (d : Act) → i < length acts → makes_call kept (get_or acts i d) ≡ true → next_acts kept (drop i acts) ≡ drop i acts
stay_at kept acts i d h y = ap (next_acts kept) (drop-cons acts i d h) ∙ (stays kept (get_or acts i d) (drop (suc i) acts) y ∙ sym (drop-cons acts i d h))

pub end_at : (kept : ℕ) (acts : List Act) (i : ℕ) → length acts ≤ i → next_acts kept (drop i acts) ≡ drop i acts
end_at kept acts i le = rw (drop_all i acts le) refl

-- the first of the acts that are left makes a call
pub heads_call : (kept : ℕ) (ys : List Act) (x : Act) (xs : List Act) → next_acts kept ys ≡ x ∷ xs → makes_call kept x ≡ true
heads_call kept [] x xs h = cc
heads_call kept (y ∷ ys) x xs h = decide (heads_call kept ys x xs) (makes_call kept y) refl
  where
    decide : (next_acts kept ys ≡ x ∷ xs → makes_call kept x ≡ true) → (b : Bool) → makes_call kept y ≡ b → makes_call kept x ≡ true
    decide again true e = let same : y ∷ ys ≡ x ∷ xs = sym (stays kept y ys e) ∙ h in let one : y ≡ x = cc in subst (λ z. makes_call kept z ≡ true) one e
    decide again false e = again (sym (skips kept y ys e) ∙ h)

-- what is left is none exactly at the end
pub none_at : (acts : List Act) (i : ℕ) → i ≤ length acts → is_none_left (drop i acts) ≡ true → i ≡ length acts
none_at acts i le h = done (drop i acts) refl h
  where
    done : (rest : List Act) → drop i acts ≡ rest → is_none_left rest ≡ true → i ≡ length acts
    done [] e t = let l : length acts - i ≡ 0 = sym (length-drop i acts) ∙ ap length e in omega (arith, l, le)
    done (x ∷ xs) e t = cc

pub rest_is : (acts : List Act) (i n : ℕ) → n ≡ length acts → nat_le n i ≡ is_none_left (drop i acts)
rest_is acts i n many = rw many (done (drop i acts) refl)
  where
    done : (rest : List Act) → drop i acts ≡ rest → nat_le (length acts) i ≡ is_none_left (drop i acts)
    done [] e = let l : length acts - i ≡ 0 = sym (length-drop i acts) ∙ ap length e in le-leb (length acts) i (omega (arith, l)) ∙ ap is_none_left (sym e)
    done (x ∷ xs) e = let l : length acts - i ≡ suc (length xs) = sym (length-drop i acts) ∙ ap length e in lt-leb (length acts) i (omega (arith, l)) ∙ ap is_none_left (sym e)
