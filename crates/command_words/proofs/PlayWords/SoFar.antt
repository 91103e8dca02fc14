-- The options are read one behind the other.
use Rattle.std.proofs.Common.{◌≡◌, ◌↔◌, refl, sym, ap, ◌∙◌, subst, ℕ, ◌+◌, ◌≤◌, ◌<◌, List, [], ◌∷◌, ◌++◌, append_assoc, length, length-append, length-drop, drop, arith}
use Rattle.std.proofs.lemmas.List.{append-nil}
use Rattle.std.proofs.Math.ListN.{drop_of_length-le}
use Rattle.command_words.specs.Reading.{IsFirstBad, IsBadFrom}
use Rattle.command_words.proofs.FirstBad.{bad-behind, bad-also}
use Rattle.command_words.specs.declared.play_words.options.Setting.{Setting}
use Rattle.command_words.specs.PlayWords.Words.{text_of, number_words_of, option_words, AreFit}
use Rattle.command_words.specs.PlayWords.Reading.{OptionsAre, MayBeOptions, MayFollow, HasRead}
use Rattle.command_words.proofs.PlayWords.OptionLemmas.{split, words-append}

-- the options up to a place were read
pub record SoFar (words : List (List ℕ)) (at : ℕ) (done : List Setting) : Type 0 where
  pub at_is : at ≡ 3 + length (option_words done)
  pub within : at ≤ length words
  pub stands : drop 3 words ≡ option_words done ++ drop at words
  pub fit : AreFit done

pub at-first : (words : List (List ℕ)) → 3 ≤ length words → SoFar words 3 []
at-first words long = record { at_is = refl; within = long; stands = refl; fit = tt }

pub one-more : (words : List (List ℕ)) (at next : ℕ) (done : List Setting) (s : Setting) → SoFar words at done → at < length words → HasRead done words at s next → SoFar words next (done ++ s ∷ [])
one-more words at next done s so inside r =
    let group : List (List ℕ) = text_of s.name ∷ number_words_of s in
    let all : option_words (done ++ s ∷ []) ≡ option_words done ++ group
    = words-append done (s ∷ []) ∙ ap (λ (l : List (List ℕ)). option_words done ++ (text_of s.name ∷ l)) (append-nil (number_words_of s)) in
    record {
      at_is =
          let l = ap length all ∙ length-append (option_words done) group in
          omega (arith, l, so.at_is, r.next_is);
      within =
          let l = ap length r.stands in
          let m = length-append (number_words_of s) (drop next words) in
          let d = length-drop at words in
          let e = length-drop next words in
          omega (arith, l, m, d, e, r.next_is, inside);
      stands = so.stands ∙ (ap (λ (w : List (List ℕ)). option_words done ++ w) r.stands
          ∙ (sym (append_assoc (option_words done) group (drop next words)) ∙ ap (λ (w : List (List ℕ)). w ++ drop next words) (sym all)));
      fit = r.fit;
    }

pub all-read : (words : List (List ℕ)) (at : ℕ) (done : List Setting) → SoFar words at done → length words ≤ at → OptionsAre (drop 3 words) done
all-read words at done s end = (s.stands ∙ (ap (λ (w : List (List ℕ)). option_words done ++ w) (drop_of_length-le words end) ∙ append-nil (option_words done)), s.fit)

module _ (words : List (List ℕ)) (at : ℕ) (done : List Setting) (s : SoFar words at done) where
  behind-done : (more : List (List ℕ)) → MayFollow done more ↔ MayBeOptions (option_words done ++ more)
  behind-done more = (
    (λ f. (done ++ f.0, (ap (λ (w : List (List ℕ)). option_words done ++ w) f.1 ∙ sym (words-append done f.0), f.2))),
    (λ o. let r = split done o.0 more s.fit o.1.1 o.1.0 in (r.0, r.2, subst (λ ss. AreFit ss) r.1 o.1.1)),
  )

  pub bad-option : (k : ℕ) → IsBadFrom at (MayFollow done) words k → IsBadFrom 3 MayBeOptions words k
  bad-option k b = (
    length (option_words done) + b.0,
    (let e = b.1 in let f = s.at_is in omega arith),
    subst (λ ws. IsFirstBad MayBeOptions ws (length (option_words done) + b.0)) (sym s.stands)
        (bad-behind MayBeOptions (option_words done) (drop at words) b.0 (length (option_words done) + b.0) refl
        (bad-also (MayFollow done) (λ ws. MayBeOptions (option_words done ++ ws)) behind-done (drop at words) b.0 b.2)),
  )
