use Rattle.std.proofs.Common.{◌≡◌, ◌≤◌, ◌+◌, ℕ, List, [], ◌++◌, length, take, drop, refl, sym, ap, ◌∙◌, arith, Option, Some, None}
use Rattle.std.proofs.Math.Seq.{take-add}
use Rattle.std.proofs.lemmas.List.{drop-drop, drop_all, take_all, length-drop, length-append, length-take-le, append-nil}
use Rattle.std.specs.Option.{option_map, IfSome}
use Rattle.decision_core.specs.ShelfCore.Reading.{ReadsOn}

-- where the text is told, these are its first bytes, and the others are left
pub record HasRead (told left : Option (List ℕ)) (bytes : List ℕ) : Type 0 where
  pub begun : IfSome told (λ text. bytes ≡ take (length bytes) text)
  pub inside : IfSome told (λ text. length bytes ≤ length text)
  pub rest : left ≡ option_map (drop (length bytes)) told

-- nothing was read yet
pub HasRead-nothing : (told left : Option (List ℕ)) → left ≡ told → HasRead told left []
HasRead-nothing (Some text) left e = record { begun = refl; inside = omega arith; rest = e }
HasRead-nothing None left e = record { begun = tt; inside = tt; rest = e }

-- the first bytes of a text, and then n more
more : (text old new : List ℕ) (n : ℕ) → old ≡ take (length old) text → n ≤ length (drop (length old) text) → new ≡ old ++ take n (drop (length old) text)
    → (length new ≡ length old + n) × (new ≡ take (length old + n) text)
more text old new n begun within joined = (
  ap length joined ∙ length-append old (take n (drop (length old) text)) ∙ ap (λ k. length old + k) (length-take-le n (drop (length old) text) within),
  joined ∙ ap (λ xs. xs ++ take n (drop (length old) text)) begun ∙ sym (take-add (length old) n text),
)

-- one more piece was read
pub HasRead-more : (told left left' : Option (List ℕ)) (old new : List ℕ) (n : ℕ) → HasRead told left old → ReadsOn left old n left' new → HasRead told left' new
HasRead-more (Some text) left left' old new n h r =
    let within : n ≤ length (drop (length old) text) = rw h.rest at r.within in
    let joined : new ≡ old ++ take n (drop (length old) text) = rw h.rest at r.bytes in
    let m = more text old new n h.begun within joined in
    record {
      begun = m.1 ∙ ap (λ k. take k text) (sym m.0);
      inside = omega (arith, m.0, length-drop (length old) text, h.inside);
      rest = r.rest ∙ ap (option_map (drop n)) h.rest ∙ ap Some (drop-drop n (length old) text ∙ ap (λ k. drop k text) (sym m.0));
    }
HasRead-more None left left' old new n h r = record { begun = tt; inside = tt; rest = r.rest ∙ ap (option_map (drop n)) h.rest }

-- as many were read as are read at most
pub read-full : (most : ℕ) (told left : Option (List ℕ)) (bytes : List ℕ) → length bytes ≡ most → HasRead told left bytes → IfSome told (λ text. bytes ≡ take most text)
read-full most (Some text) left bytes e h = h.begun ∙ ap (λ k. take k text) e
read-full most None left bytes e h = tt

-- what is left once as many were read as are read at most
pub left-full : (most : ℕ) (told left : Option (List ℕ)) (bytes : List ℕ) → length bytes ≡ most → HasRead told left bytes → left ≡ option_map (drop most) told
left-full most told left bytes e h = h.rest ∙ ap (λ k. option_map (drop k) told) e

-- what is left once a piece of no bytes ended it
pub left-ended : (most : ℕ) (told left left' : Option (List ℕ)) (old new : List ℕ) (n : ℕ) → n ≡ 0 → length old ≤ most → HasRead told left old → ReadsOn left old n left' new → left' ≡ option_map (drop most) told
left-ended most (Some text) left left' old new n e w h r =
    let none : drop (length old) text ≡ [] = rw h.rest at (r.none e) in
    let short : length text ≤ length old = omega (arith, ap length none, length-drop (length old) text) in
    r.rest ∙ ap (option_map (drop n)) h.rest ∙ ap Some (ap (λ xs. drop n xs) none ∙ ap (λ k. drop k []) e ∙ sym (drop_all most text (omega arith)))
left-ended most None left left' old new n e w h r = r.rest ∙ ap (option_map (drop n)) h.rest

-- a piece of no bytes ends it
pub read-ended : (most : ℕ) (told left left' : Option (List ℕ)) (old new : List ℕ) (n : ℕ) → n ≡ 0 → length old ≤ most → HasRead told left old → ReadsOn left old n left' new → IfSome told (λ text. new ≡ take most text)
read-ended most (Some text) left left' old new n e w h r =
    let none : drop (length old) text ≡ [] = rw h.rest at (r.none e) in
    let joined : new ≡ old ++ take n (drop (length old) text) = rw h.rest at r.bytes in
    let short : length text ≤ length old = omega (arith, ap length none, length-drop (length old) text) in
    joined ∙ ap (λ xs. old ++ take n xs) none ∙ ap (λ xs. old ++ xs) (take_all n [] (omega arith)) ∙ append-nil old
    ∙ h.begun ∙ take_all (length old) text short ∙ sym (take_all most text (omega arith))
read-ended most None left left' old new n e w h r = tt
