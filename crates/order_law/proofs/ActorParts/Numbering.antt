-- What stands at places, and with its number.
use Rattle.std.proofs.Common.{◌≡◌, ◌∙◌, ⊎_elim, if◌then◌else◌, ℕ, Bool, zero, suc, ◌+◌, ◌<◌, ◌≤◌, List, [], ◌∷◌, ◌++◌, refl, sym, ap, arith, Option, Some, None, slice_get, append_assoc}
use Rattle.std.proofs.lemmas.Bool.Decides.{eqb_tells}
use Rattle.wire_core.specs.declared.names.QueueId.{QueueId}
use Rattle.spsc_queue.specs.Known.Ends.{EndIs}
use Rattle.seat_wires.specs.Places.{stands_at}
use Rattle.order_law.specs.ActorParts.Parting.{end_in}
use Rattle.order_law.specs.ActorParts.Numbered.{numbered}

first : {Y : Type 0} {x y : Y} → Some x ≡ Some y → x ≡ y
first e = cc

-- an end that has a number stands at that place
pub numbered_from : {X : Type 0} (k : ℕ) (ps : List (Option X)) (i : ℕ) (x : QueueId × X) → slice_get (numbered k ps) i ≡ Some x → (n : ℕ) × (x.0.0 ≡ k + n) × (slice_get ps n ≡ Some (Some x.1))
numbered_from k [] i x is = cc
numbered_from k (None ∷ ps) i x is = let h = numbered_from (k + 1) ps i x is in (suc h.0, (let e = h.1 in omega (arith, e)), h.2)
numbered_from k (Some y ∷ ps) zero x is = let e : (record { 0 = k }, y) ≡ x = first is in (0, (let z : x.0.0 ≡ k = sym (ap (λ w. w.0.0) e) in omega (arith, z)), ap (λ w. Some (Some w.1)) e)
numbered_from k (Some y ∷ ps) (suc i) x is = let h = numbered_from (k + 1) ps i x is in (suc h.0, (let e = h.1 in omega (arith, e)), h.2)

-- below the first number none is found
none_below : (k : ℕ) (ps : List (Option EndIs)) (m : ℕ) → m < k → end_in (numbered k ps) m ≡ None
none_below k [] m lt = refl
none_below k (None ∷ ps) m lt = none_below (k + 1) ps m (omega arith)
none_below k (Some x ∷ ps) m lt = ⊎_elim
    (λ same. absurd (let e = same.1 in omega (arith, e)))
    (λ away. ap (λ (b : Bool). if b then Some x else end_in (numbered (k + 1) ps) m) away.0 ∙ none_below (k + 1) ps m (omega arith))
    (eqb_tells k m)

-- what is found by its number is what stands at the place
pub found_from : (k : ℕ) (ps : List (Option EndIs)) (n m : ℕ) → m ≡ k + n → end_in (numbered k ps) m ≡ stands_at ps n
found_from k [] n m is = refl
found_from k (None ∷ ps) zero m is = none_below (k + 1) ps m (omega (arith, is))
found_from k (None ∷ ps) (suc n) m is = found_from (k + 1) ps n m (omega (arith, is))
found_from k (Some x ∷ ps) zero m is = ⊎_elim
    (λ same. ap (λ (b : Bool). if b then Some x else end_in (numbered (k + 1) ps) m) same.0)
    (λ away. absurd (away.1 (omega (arith, is))))
    (eqb_tells k m)
found_from k (Some x ∷ ps) (suc n) m is = ⊎_elim
    (λ same. absurd (let e = same.1 in omega (arith, e, is)))
    (λ away. ap (λ (b : Bool). if b then Some x else end_in (numbered (k + 1) ps) m) away.0 ∙ found_from (k + 1) ps n m (omega (arith, is)))
    (eqb_tells k m)

-- numbers ascend, so none stands there twice
above : (k : ℕ) (ps : List (Option EndIs)) (i : ℕ) (x : QueueId × EndIs) → slice_get (numbered k ps) i ≡ Some x → k ≤ x.0.0
above k ps i x is = let h = numbered_from k ps i x is in let e = h.1 in omega (arith, e)

pub once : (k : ℕ) (ps : List (Option EndIs)) (i j : ℕ) (x y : QueueId × EndIs) → slice_get (numbered k ps) i ≡ Some x → slice_get (numbered k ps) j ≡ Some y → x.0.0 ≡ y.0.0 → i ≡ j
once k [] i j x y at_x at_y same = cc
once k (None ∷ ps) i j x y at_x at_y same = once (k + 1) ps i j x y at_x at_y same
once k (Some z ∷ ps) zero zero x y at_x at_y same = refl
once k (Some z ∷ ps) zero (suc j) x y at_x at_y same = absurd (let a = above (k + 1) ps j y at_y in let e : k ≡ x.0.0 = ap (λ (w : QueueId × EndIs). w.0.0) (first at_x) in omega (arith, a, e, same))
once k (Some z ∷ ps) (suc i) zero x y at_x at_y same = absurd (let a = above (k + 1) ps i x at_x in let e : k ≡ y.0.0 = ap (λ (w : QueueId × EndIs). w.0.0) (first at_y) in omega (arith, a, e, same))
once k (Some z ∷ ps) (suc i) (suc j) x y at_x at_y same = ap suc (once (k + 1) ps i j x y at_x at_y same)

-- one place more was gone through
module _ {X : Type 0} (k : ℕ) (ends now : List (QueueId × X)) (into rest all : List (Option X)) (place : Option X) where
  pub one_more : (x : X) → now ≡ ends ++ (record { 0 = k }, x) ∷ [] → into ≡ place ∷ rest → place ≡ Some x → ends ++ numbered k into ≡ numbered 0 all → now ++ numbered (k + 1) rest ≡ numbered 0 all
  one_more x is step place_is was = ap (λ l. l ++ numbered (k + 1) rest) is ∙ (append_assoc ends ((record { 0 = k }, x) ∷ []) (numbered (k + 1) rest) ∙ (sym (ap (λ l. ends ++ numbered k l) (step ∙ ap (λ z. z ∷ rest) place_is)) ∙ was))

  pub none_more : now ≡ ends → into ≡ place ∷ rest → place ≡ None → ends ++ numbered k into ≡ numbered 0 all → now ++ numbered (k + 1) rest ≡ numbered 0 all
  none_more is step place_is was = ap (λ l. l ++ numbered (k + 1) rest) is ∙ (sym (ap (λ l. ends ++ numbered k l) (step ∙ ap (λ z. z ∷ rest) place_is)) ∙ was)
