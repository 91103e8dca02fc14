use Rattle.std.proofs.Common.{◌≡◌, ◌+◌, ◌*◌, ◌<◌, ◌++◌, ℕ, zero, suc, Some, List, [], ◌∷◌, length, slice_get, refl, sym, ap, ◌∙◌, arith}
use Rattle.wire_core.specs.declared.names.QueueId.{QueueId}
use Rattle.actor_set.specs.Actors.{numbers}
use Rattle.cast_core.specs.Sources.{every_second}
use Rattle.play_core.proofs.Lists.{some_is}

pub second_get : (first count k m : ℕ) → slice_get (every_second first count) k ≡ Some m → (k < count) × (m ≡ first + 2 * k)
second_get first zero k m h = cc
second_get first (suc count) zero m h = let e : first ≡ m = some_is h in (omega arith, omega (arith, e))
second_get first (suc count) (suc k) m h = let r = second_get (first + 2) count k m h in let lt = r.0 in let e = r.1 in (omega (arith, lt), omega (arith, e))

pub second_there : (first count k : ℕ) → k < count → slice_get (every_second first count) k ≡ Some (first + 2 * k)
second_there first zero k lt = absurd (omega arith)
second_there first (suc count) zero lt = let e : first ≡ first + 2 * 0 = omega arith in ap Some e
second_there first (suc count) (suc k) lt = let e : first + 2 + 2 * k ≡ first + 2 * suc k = omega arith in second_there (first + 2) count k (omega (arith, lt)) ∙ ap Some e

pub second_length : (first count : ℕ) → length (every_second first count) ≡ count
second_length first zero = refl
second_length first (suc count) = ap suc (second_length (first + 2) count)

pub second_apart : (first count k j m : ℕ) → slice_get (every_second first count) k ≡ Some m → slice_get (every_second first count) j ≡ Some m → k ≡ j
second_apart first count k j m p q = let a = (second_get first count k m p).1 in let b = (second_get first count j m q).1 in omega (arith, a, b)

one_more : (first count : ℕ) → every_second first (suc count) ≡ every_second first count ++ (first + 2 * count) ∷ []
one_more first zero = let e : first ≡ first + 2 * 0 = omega arith in ap (λ n. n ∷ []) e
one_more first (suc count) = let e : first + 2 + 2 * count ≡ first + 2 * suc count = omega arith in ap (λ ns. first ∷ ns) (one_more (first + 2) count) ∙ ap (λ n. first ∷ every_second (first + 2) count ++ n ∷ []) e

numbers_more : (qs : List QueueId) (q : QueueId) → numbers (qs ++ q ∷ []) ≡ numbers qs ++ q.0 ∷ []
numbers_more [] q = refl
numbers_more (a ∷ qs) q = ap (λ ns. a.0 ∷ ns) (numbers_more qs q)

-- one queue more
pub second_more : (first k : ℕ) (qs new : List QueueId) (q : QueueId) → new ≡ qs ++ q ∷ [] → q.0 ≡ first + 2 * k → numbers qs ≡ every_second first k → numbers new ≡ every_second first (k + 1)
second_more first k qs new q is n h =
    let e : suc k ≡ k + 1 = omega arith in
    ap numbers is ∙ (numbers_more qs q ∙ (ap (λ ns. ns ++ q.0 ∷ []) h ∙ (ap (λ m. every_second first k ++ m ∷ []) n ∙ (sym (one_more first k) ∙ ap (every_second first) e))))
