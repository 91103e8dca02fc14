use Rattle.std.proofs.Common.{◌≡◌, ◌≢◌, ◌⊎◌, ◌++◌, ◌<◌, ℕ, true, false, nat_lt, List, [], ◌∷◌, length, length-append, refl, sym, ap, ◌∙◌, subst, arith, append_assoc, inl, inr}
use Rattle.std.proofs.Math.Dec.{eqb}
use Rattle.std.proofs.lemmas.Bool.{ltb-true, lt-ltb, eq-eqb}
use Rattle.std.proofs.lemmas.Bool.Decides.{eqb_tells}
use Rattle.std.proofs.lemmas.List.{append-nil}
use Rattle.cargo_core.specs.Lists.{IsPrefix}
use Rattle.cargo_core.specs.declared.item.Item.{Item}
use Rattle.play_core.specs.Moved.{Moved, with_put}
use Rattle.play_core.proofs.Walks.{begins_few}

-- a beginning that is shorter goes on
pub prefix_more : {T : Type 0} (xs ys : List T) → IsPrefix xs ys → nat_lt (length xs) (length ys) ≡ true → (x : T) × IsPrefix (xs ++ x ∷ []) ys
prefix_more {T} xs ys ([], h) lt =
    let short : length xs < length ys = ltb-true (length xs) (length ys) lt in
    let same : length xs ≡ length ys = ap length (sym (append-nil xs) ∙ h) in
    absurd (omega (arith, short, same))
prefix_more {T} xs ys (x ∷ rest, h) lt = (x, (rest, append_assoc xs (x ∷ []) rest ∙ h))

-- a beginning that goes on is shorter
pub prefix_shorter : {T : Type 0} (xs ys : List T) (x : T) → IsPrefix (xs ++ x ∷ []) ys → nat_lt (length xs) (length ys) ≡ true
prefix_shorter xs ys x h =
    let few = begins_few (xs ++ x ∷ []) ys h in
    let n = length-append xs (x ∷ []) in
    lt-ltb (length xs) (length ys) (omega (arith, few, n))

-- what one more put changes, and what it leaves
pub put_here : (m : Moved) (n : ℕ) (x : Item) → (with_put m n x).sent n ≡ m.sent n ++ x ∷ []
put_here m n x = rw (eq-eqb n n refl) refl

pub put_beside : (m : Moved) (n : ℕ) (x : Item) (k : ℕ) → n ≢ k → (with_put m n x).sent k ≡ m.sent k
put_beside m n x k away = go (eqb_tells n k)
  where
    go : ((eqb n k ≡ true) × (n ≡ k)) ⊎ ((eqb n k ≡ false) × (n ≢ k)) → (with_put m n x).sent k ≡ m.sent k
    go (inl e) = absurd (away e.1)
    go (inr e) = rw e.0 refl

-- of what is copied to queue n
pub copy_more : (m : Moved) (n : ℕ) (ys : List Item) → IsPrefix (m.sent n) ys → nat_lt (length (m.sent n)) (length ys) ≡ true → (x : Item) × IsPrefix ((with_put m n x).sent n) ys
copy_more m n ys h lt =
    let more = prefix_more (m.sent n) ys h lt in
    (more.0, subst (λ xs. IsPrefix xs ys) (sym (put_here m n more.0)) more.1)

pub copy_shorter : (m : Moved) (n : ℕ) (ys : List Item) (x : Item) → IsPrefix ((with_put m n x).sent n) ys → nat_lt (length (m.sent n)) (length ys) ≡ true
copy_shorter m n ys x h = prefix_shorter (m.sent n) ys x (subst (λ xs. IsPrefix xs ys) (put_here m n x) h)
