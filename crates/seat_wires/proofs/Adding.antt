-- An end more among those of one role.
use Rattle.std.proofs.Common.{◌≡◌, ◌∙◌, ℕ, zero, suc, ◌<◌, List, [], ◌∷◌, length, refl, sym, ap, arith, Option, Some, None, slice_get, slice_set}
use mathlib.Core.Logic.{dite}
use native.Mathlib.Decide.{ℕ_discrete}
use Rattle.spsc_queue.specs.Known.Ends.{EndIs, RingIs}
use Rattle.seat_wires.specs.Places.{joined_get, stands_at, EndsOn, SetsEnd}
use Rattle.seat_wires.proofs.Seating.{slice_get_beside}

module _ {X : Type 0} where
  same_end : (x y : X) → Some x ≡ Some y → x ≡ y
  same_end x y e = cc

  -- what was written is what stands there
  written : (xs : List X) (q : ℕ) (x y : X) → slice_get (slice_set xs q x) q ≡ Some y → y ≡ x
  written [] q x y is = cc
  written (a ∷ xs) zero x y is = sym (same_end x y is)
  written (a ∷ xs) (suc q) x y is = written xs q x y is

  written_there : (xs : List X) (q : ℕ) (x : X) → q < length xs → slice_get (slice_set xs q x) q ≡ Some x
  written_there [] q x lt = absurd (omega arith)
  written_there (a ∷ xs) zero x lt = refl
  written_there (a ∷ xs) (suc q) x lt = written_there xs q x (omega arith)

  pub length_set : (xs : List X) (q : ℕ) (x : X) → length (slice_set xs q x) ≡ length xs
  length_set [] q x = refl
  length_set (a ∷ xs) zero x = refl
  length_set (a ∷ xs) (suc q) x = ap suc (length_set xs q x)

  there : (x : Option (Option X)) (e : X) → joined_get x ≡ Some e → x ≡ Some (Some e)
  there None e is = cc
  there (Some None) e is = cc
  there (Some (Some x)) e is = ap (λ (z : Option X). Some z) is

-- where the lists have the same ends and one more is written, each is on its ring
pub sets_on : (rings : List RingIs) (xs ys : List (Option EndIs)) (q : ℕ) (e : EndIs) → EndsOn rings xs → ((n : ℕ) → stands_at ys n ≡ stands_at xs n) → (r : RingIs) × (slice_get rings q ≡ Some r) × (e.ring ≡ r.id) → EndsOn rings (slice_set ys q (Some e))
sets_on rings xs ys q e on same at k f is = dite (ℕ_discrete k q)
    (λ here. let f_is : f ≡ e = same_end f e (written ys q (Some e) (Some f) (ap (λ (z : ℕ). slice_get (slice_set ys q (Some e)) z) (sym here) ∙ is)) in
    (at.0, ap (λ (z : ℕ). slice_get rings z) here ∙ at.1, ap (λ (z : EndIs). z.ring) f_is ∙ at.2))
    (λ away. on k f (there (slice_get xs k) f (sym (same k) ∙ ap joined_get (sym (slice_get_beside ys q k (Some e) away) ∙ is))))

-- and nothing else changed
pub sets_end : (xs ys : List (Option EndIs)) (q : ℕ) (x : Option EndIs) → ((n : ℕ) → stands_at ys n ≡ stands_at xs n) → q < length ys → SetsEnd xs q x (slice_set ys q x)
sets_end xs ys q x same lt = (
  ap joined_get (written_there ys q x lt),
  λ n away. ap joined_get (slice_get_beside ys q n x away) ∙ same n,
)
