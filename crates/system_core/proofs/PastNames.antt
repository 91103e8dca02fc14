-- The names that are kept of what was put before a journal begins tell all of it.
use Rattle.std.proofs.Common.{◌≡◌, ◌==◌, ◌<◌, ◌+◌, ◌++◌, ℕ, zero, suc, Bool, true, false, cond, Some, List, [], ◌∷◌, slice_get, refl, sym, ap, ◌∙◌, arith, append-nil, eq-eqb, ne_eqb}
use Rattle.wire_core.specs.Deeds.{Cargo}
use Rattle.spsc_queue.specs.Known.Ends.{EndedIs}
use Rattle.play_core.specs.Names.{Noted, name_of, names_of, told_by}
use Rattle.play_core.proofs.Lists.{some_is}
use Rattle.system_core.specs.States.{is_noted, names_left, notes_at}

told_append : (xs ys : List Noted) (n : ℕ) → told_by (xs ++ ys) n ≡ told_by xs n ++ told_by ys n
told_append [] ys n = refl
told_append (x ∷ xs) ys n = by (x.queue == n) (told_append xs ys n)
  where
    by : (b : Bool) → told_by (xs ++ ys) n ≡ told_by xs n ++ told_by ys n → cond b (x.name ∷ told_by (xs ++ ys) n) (told_by (xs ++ ys) n) ≡ cond b (x.name ∷ told_by xs n) (told_by xs n) ++ told_by ys n
    by true rest = ap (λ l. x.name ∷ l) rest
    by false rest = rest

told_here : (q n : ℕ) (cs : List Cargo) → (q == n) ≡ true → told_by (notes_at q cs) n ≡ names_of cs
told_here q n [] e = refl
told_here q n (c ∷ cs) e = ap (λ b. cond b (name_of c.1 ∷ told_by (notes_at q cs) n) (told_by (notes_at q cs) n)) e ∙ ap (λ l. name_of c.1 ∷ l) (told_here q n cs e)

told_beside : (q n : ℕ) (cs : List Cargo) → (q == n) ≡ false → told_by (notes_at q cs) n ≡ []
told_beside q n [] e = refl
told_beside q n (c ∷ cs) e = ap (λ b. cond b (name_of c.1 ∷ told_by (notes_at q cs) n) (told_by (notes_at q cs) n)) e ∙ told_beside q n cs e

-- those of another queue tell nothing of this one
none_beside : (q n : ℕ) (cs : List Cargo) (b : Bool) → (q == n) ≡ false → told_by (cond b (notes_at q cs) []) n ≡ []
none_beside q n cs true e = told_beside q n cs e
none_beside q n cs false e = refl

told_before : (k n : ℕ) (es : List EndedIs) → n < k → told_by (names_left k es) n ≡ []
told_before k n [] lt = refl
told_before k n (e ∷ es) lt =
    told_append (cond (is_noted e) (notes_at k e.producer.entries) []) (names_left (k + 1) es) n
    ∙ (λ i. none_beside k n e.producer.entries (is_noted e) (ne_eqb k n (λ same. omega (arith, same, lt))) i ++ told_before (k + 1) n es (omega (arith, lt)) i)

-- of a ring of which they are kept, all
pub told_left : (k m : ℕ) (es : List EndedIs) (e : EndedIs) → slice_get es m ≡ Some e → is_noted e ≡ true → told_by (names_left k es) (k + m) ≡ names_of e.producer.entries
told_left k m [] e at noted = cc
told_left k zero (x ∷ es) e at noted =
    let same : x ≡ e = some_is at in
    told_append (cond (is_noted x) (notes_at k x.producer.entries) []) (names_left (k + 1) es) (k + zero)
    ∙ ((λ i. told_by (cond ((ap is_noted same ∙ noted) i) (notes_at k (same i).producer.entries) []) (k + zero) ++ told_before (k + 1) (k + zero) es (omega arith) i)
    ∙ (append-nil (told_by (notes_at k e.producer.entries) (k + zero)) ∙ told_here k (k + zero) e.producer.entries (eq-eqb k (k + zero) (omega arith))))
told_left k (suc m) (x ∷ es) e at noted =
    let next : (k + 1) + m ≡ k + suc m = omega arith in
    told_append (cond (is_noted x) (notes_at k x.producer.entries) []) (names_left (k + 1) es) (k + suc m)
    ∙ (λ i. none_beside k (k + suc m) x.producer.entries (is_noted x) (ne_eqb k (k + suc m) (λ same. omega (arith, same))) i ++ (ap (told_by (names_left (k + 1) es)) (sym next) ∙ told_left (k + 1) m es e at noted) i)

-- where none are kept there are none
pub none_left : (k : ℕ) (es : List EndedIs) → ((m : ℕ) (e : EndedIs) → slice_get es m ≡ Some e → is_noted e ≡ false) → names_left k es ≡ []
none_left k [] each = refl
none_left k (e ∷ es) each = λ i. cond (each 0 e refl i) (notes_at k e.producer.entries) [] ++ none_left (k + 1) es (λ m x at. each (suc m) x at) i
