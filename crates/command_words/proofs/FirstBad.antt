use Rattle.std.proofs.Common.{◌≡◌, ◌↔◌, ℕ, suc, ◌+◌, List, [], ◌∷◌, ◌++◌, length, take, drop, append_assoc, length-append, sym, ap, ◌∙◌, subst, arith, Some, get_or, drop-cons}
use Rattle.std.specs.Prelude.{slice_get}
use Rattle.std.proofs.Math.Seq.{take-append-add}
use Rattle.std.proofs.lemmas.Option.{slice_get_within, get_or_from_slice_get}
use Rattle.command_words.specs.Reading.{IsFirstBad}

-- the words from a place on, by the word there
pub drop-at : (words : List (List ℕ)) (at : ℕ) (word : List ℕ) → slice_get words at ≡ Some word → drop at words ≡ word ∷ drop (at + 1) words
drop-at words at word e =
    let lt = slice_get_within words at word e in
    let d : drop at words ≡ get_or words at word ∷ drop (suc at) words = drop-cons words at word lt in
    let same : get_or words at word ≡ word = get_or_from_slice_get words at word word e in
    let next : suc at ≡ at + 1 = omega arith in
    d ∙ ap (λ w. w ∷ drop (suc at) words) same ∙ ap (λ k. word ∷ drop k words) next

module _ (Good : List (List ℕ) → Type 0) where
  -- the first word is bad
  pub bad-first : (w : List ℕ) (rest : List (List ℕ)) → (more : List (List ℕ)) × Good more → ((more : List (List ℕ)) → Good (w ∷ more) → ⊥) → IsFirstBad Good (w ∷ rest) 0
  bad-first w rest begun bad = record { within = omega arith; before = begun; here = λ lt more g. bad more g; whole = λ e. absurd (omega arith) }

  -- no word is there
  pub bad-none : (more : List (List ℕ)) × Good more → (Good [] → ⊥) → IsFirstBad Good [] 0
  bad-none begun bad = record { within = omega arith; before = begun; here = λ lt. absurd (omega arith); whole = λ e g. bad g }

  -- words whose first is good are bad further on
  pub bad-behind : (p rest : List (List ℕ)) (j k : ℕ) → k ≡ length p + j → IsFirstBad (λ words. Good (p ++ words)) rest j → IsFirstBad Good (p ++ rest) k
  bad-behind p rest j k e b = record {
    within = let l = length-append p rest in omega (arith, b.within, e, l);
    before = (b.before.0, subst (λ ws. Good ws) (sym (begun j k e b.before.0)) b.before.1);
    here = λ lt more g.
        let l = length-append p rest in
        b.here (omega (arith, e, l, lt)) more (subst (λ ws. Good ws) (begun (j + 1) (k + 1) (omega (arith, e)) more) g);
    whole = λ end g. let l = length-append p rest in b.whole (omega (arith, e, l, end)) g;
  } where
    begun : (i n : ℕ) → n ≡ length p + i → (more : List (List ℕ)) → take n (p ++ rest) ++ more ≡ p ++ (take i rest ++ more)
    begun i n same more =
        ap (λ m. take m (p ++ rest) ++ more) same ∙ ap (λ ws. ws ++ more) (take-append-add p rest i) ∙ append_assoc p (take i rest) more

-- words that are good by another name
pub bad-also : (Good Same : List (List ℕ) → Type 0) → ((words : List (List ℕ)) → Good words ↔ Same words) → (words : List (List ℕ)) (k : ℕ) → IsFirstBad Good words k → IsFirstBad Same words k
bad-also Good Same same words k b = record {
  within = b.within;
  before = (b.before.0, (same (take k words ++ b.before.0)).0 b.before.1);
  here = λ lt more g. b.here lt more ((same (take (k + 1) words ++ more)).1 g);
  whole = λ e g. b.whole e ((same words).1 g);
}
