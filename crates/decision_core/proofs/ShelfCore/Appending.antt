use Rattle.std.proofs.Common.{◌≡◌, ◌+◌, ◌-◌, ℕ, List, length, ◌++◌, take, drop, refl, sym, ap, ◌∙◌, append_assoc, arith, Option, Some, None}
use Rattle.std.proofs.Math.Seq.{take-add}
use Rattle.std.proofs.lemmas.List.{take-append-drop, take_all, length-drop}
use Rattle.cargo_core.specs.Lists.{IsPrefix}
use Rattle.decision_core.specs.ShelfCore.Outside.{appended}

-- what is appended in two pieces is appended whole
pub appended-twice : (before : Option (List ℕ)) (xs ys : List ℕ) → appended (appended before xs) ys ≡ appended before (xs ++ ys)
appended-twice (Some before) xs ys = ap Some (append_assoc before xs ys)
appended-twice None xs ys = refl

-- one more piece of a text
pub appended-piece : (before now next : Option (List ℕ)) (text : List ℕ) (done n : ℕ) → now ≡ appended before (take done text) → next ≡ appended now (take n (drop done text)) → next ≡ appended before (take (done + n) text)
appended-piece before now next text done n h k =
    k ∙ ap (λ w. appended w (take n (drop done text))) h ∙ appended-twice before (take done text) (take n (drop done text)) ∙ ap (λ x. appended before x) (sym (take-add done n text))

-- the first bytes are a beginning
pub take-begins : (n : ℕ) (text : List ℕ) → IsPrefix (take n text) text
take-begins n text = (drop n text, take-append-drop n text)

-- from a place on to the end is what follows there
pub take-rest : (done : ℕ) (text : List ℕ) → take (length text - done) (drop done text) ≡ drop done text
take-rest done text = take_all (length text - done) (drop done text) (omega (arith, length-drop done text))
