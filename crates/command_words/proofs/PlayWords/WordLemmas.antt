-- The words of a drawing, by what stands behind the first, and their first bad word.
use Rattle.std.proofs.Common.{◌≡◌, ◌≢◌, ◌↔◌, refl, sym, ap, ◌∙◌, subst, ℕ, Bool, true, false, Some, List, [], ◌∷◌, length, drop, codes, arith, Result, Ok, Err, IfOk}
use Rattle.std.specs.Prelude.{slice_get}
use Rattle.command_words.specs.Reading.{IsFirstBad, IsBadFrom}
use Rattle.command_words.proofs.FirstBad.{drop-at, bad-first, bad-none, bad-behind, bad-also}
use Rattle.command_words.proofs.Names.{a-name}
use Rattle.command_words.specs.declared.play_words.ask.Drawing.{Drawing}
use Rattle.command_words.specs.declared.play_words.options.Setting.{Setting}
use Rattle.command_words.specs.PlayWords.Words.{first_word, option_words, Spells, IsBadWord, IsKind}
use Rattle.command_words.specs.PlayWords.Reading.{OptionsAre, Asks, MayAsk}

-- the words ask for some drawing
abbrev IsDrawing : List (List ℕ) → Type 0
IsDrawing words = (drawing : Drawing) × Spells words drawing

from-first : (words : List (List ℕ)) (k : ℕ) → IsFirstBad IsDrawing words k → IsBadWord words k
from-first words k b = record {
  within = b.within;
  before = (b.before.0, b.before.1.0, b.before.1.1);
  here = λ lt begun. b.here lt begun.0 (begun.1, begun.2);
  whole = λ e drawing s. b.whole e (drawing, s);
}

abbrev drawn : Bool → List Setting → Drawing
drawn page settings = record { page = page; settings = settings }

spelled : (page : Bool) (more : List (List ℕ)) (settings : List Setting) → Asks more settings → Spells (first_word page ∷ more) (drawn page settings)
spelled page more settings a = (
  a.desc,
  a.trace,
  record {
    words_are = ap (λ (w : List (List ℕ)). first_word page ∷ w) (a.words_are ∙ ap (λ (w : List (List ℕ)). a.desc ∷ a.trace ∷ w) a.sets.0);
    desc_named = a.desc_named;
    trace_named = a.trace_named;
    fit = a.sets.1;
  },
)

asked : (first : List ℕ) (more : List (List ℕ)) (drawing : Drawing) → Spells (first ∷ more) drawing → Asks more drawing.settings
asked first more drawing s = record {
  desc = s.0;
  trace = s.1;
  more = option_words drawing.settings;
  words_are = let e = s.2.words_are in cc;
  desc_named = s.2.desc_named;
  trace_named = s.2.trace_named;
  sets = (refl, s.2.fit);
}

behind-kind : (page : Bool) (more : List (List ℕ)) → MayAsk more ↔ IsDrawing (first_word page ∷ more)
behind-kind page more = (
  (λ a. (drawn page a.0, spelled page more a.0 a.1)),
  (λ s. (s.0.settings, asked (first_word page) more s.0 s.1)),
)

begun : (more : List (List ℕ)) × IsDrawing more
begun = (
  codes "play" ∷ codes "a" ∷ codes "a" ∷ [],
  (drawn false [], (codes "a", codes "a", record { words_are = refl; desc_named = a-name; trace_named = a-name; fit = tt })),
)

first-of : (page : Bool) (name : List ℕ) → name ≢ codes "play" → name ≢ codes "html" → name ≢ first_word page
first-of true name p h e = h e
first-of false name p h e = p e

no-words : (drawing : Drawing) → Spells [] drawing → ⊥
no-words drawing s = let e = s.2.words_are in absurd (cc e)

pub bad-empty : (words : List (List ℕ)) → length words ≡ 0 → IsBadWord words 0
bad-empty [] e = from-first [] 0 (bad-none IsDrawing begun (λ g. no-words g.0 g.1))
bad-empty (w ∷ words) e = absurd (omega arith)

-- the first word asks for nothing
pub bad-kind : (words : List (List ℕ)) (name : List ℕ) → slice_get words 0 ≡ Some name → name ≢ codes "play" → name ≢ codes "html" → IsBadWord words 0
bad-kind words name first p h =
    from-first words 0
    (subst (λ ws. IsFirstBad IsDrawing ws 0) (sym (drop-at words 0 name first))
    (bad-first IsDrawing name (drop 1 words) begun (λ more s. let e = s.1.2.words_are in first-of s.0.page name p h (cc e))))

module _ (words : List (List ℕ)) (page : Bool) (first : IsKind words page) where
  stands : words ≡ first_word page ∷ drop 1 words
  stands = drop-at words 0 (first_word page) first

  pub bad-asked : (k : ℕ) → IsBadFrom 1 MayAsk words k → IsBadWord words k
  bad-asked k b =
      from-first words k
      (subst (λ ws. IsFirstBad IsDrawing ws k) (sym stands)
      (bad-behind IsDrawing (first_word page ∷ []) (drop 1 words) b.0 k b.1 (bad-also MayAsk (λ ws. IsDrawing (first_word page ∷ ws)) (behind-kind page) (drop 1 words) b.0 b.2)))

  pub spells-asked : (settings : List Setting) → Asks (drop 1 words) settings → Spells words (drawn page settings)
  spells-asked settings a = subst (λ ws. Spells ws (drawn page settings)) (sym stands) (spelled page (drop 1 words) settings a)

-- two names and no options ask for something
pub no-options : (settings : List Setting) × OptionsAre [] settings
no-options = ([], (refl, tt))

-- what holds of each value that holds of another
pub map-ok : {T E : Type 0} (r : Result T E) (P Q : T → Type 0) → ((x : T) → P x → Q x) → IfOk r P → IfOk r Q
map-ok (Ok x) P Q m h = m x h
map-ok (Err e) P Q m h = tt
