use Rattle.std.proofs.Common.{◌≡◌, ◌+◌, ◌<◌, ◌≤◌, ℕ, Some, None, List, [], ◌∷◌, ◌++◌, length, take, codes, slice_get, refl, sym, ap, ◌∙◌, subst, arith}
use Rattle.command_words.specs.Words.{IsName}
use Rattle.view_plays.specs.declared.view_core.ask.View.{View}
use Rattle.view_plays.specs.declared.view_core.ask.View.TheVariants as Of
use Rattle.view_plays.specs.ViewCore.Words.{first_word, last_words, AsksFor, Spells, Begins, IsBadWord, IsNameAt, BeginsAlone, BeginsNone, GoesOn}

-- a name
some-name : IsName (codes "d")
some-name = record { filled = omega arith; plain = λ p. (let e : ◌≡◌ {A = ℕ} 45 100 = cc p.1 in omega (arith, e)) }

begins-export : Begins []
begins-export = (codes "export" ∷ codes "d" ∷ [], Of.System, (codes "d", record { words_are = refl; named = some-name }))

begins-one : (a : List ℕ) (view : View) → last_words view ≡ [] → a ≡ first_word view → Begins (a ∷ [])
begins-one a view n e =
    (codes "d" ∷ [], view, (codes "d", record { words_are = ap (λ w. w ∷ codes "d" ∷ []) e ∙ ap (λ m. first_word view ∷ codes "d" ∷ m) (sym n); named = some-name }))

begins-two : (a b : List ℕ) (view : View) → last_words view ≡ [] → a ≡ first_word view → IsName b → Begins (a ∷ b ∷ [])
begins-two a b view n e h = ([], view, (b, record { words_are = ap (λ w. w ∷ b ∷ []) e ∙ ap (λ m. first_word view ∷ b ∷ m) (sym n); named = h }))

begins-three : (a b c : List ℕ) → a ≡ codes "export" → IsName b → c ≡ codes "--config" → Begins (a ∷ b ∷ c ∷ [])
begins-three a b c e h g = ([], Of.Config, (b, record { words_are = ap (λ w. w ∷ b ∷ c ∷ []) e ∙ ap (λ w. codes "export" ∷ b ∷ w ∷ []) g; named = h }))

-- the first word is bad
pub bad-first : (words : List (List ℕ)) → BeginsNone words → IsBadWord words 0
bad-first [] never = record {
  within = omega arith;
  before = begins-export;
  here = λ lt b. absurd (omega (arith, lt));
  whole = λ e view s. (let f = s.1.words_are in cc f);
}
bad-first (a ∷ rest) never = record {
  within = omega arith;
  before = begins-export;
  here = λ lt b. (let f = b.2.1.words_are in never b.1 (cc f));
  whole = λ e view s. absurd (omega (arith, e));
}

-- the second word is bad
pub bad-second : (words : List (List ℕ)) (view : View) → BeginsAlone words view → (IsNameAt words 1 → ⊥) → IsBadWord words 1
bad-second [] view is never = (let f = is.first in absurd (cc f))
bad-second (a ∷ []) view is never = record {
  within = omega arith;
  before = begins-one a view is.last (let f = is.first in cc f);
  here = λ lt b. absurd (omega (arith, lt));
  whole = λ e other s. (let f = s.1.words_are in cc f);
}
bad-second (a ∷ b ∷ rest) view is never = record {
  within = omega arith;
  before = begins-one a view is.last (let f = is.first in cc f);
  here = λ lt g. (let f = g.2.1.words_are in let same : g.2.0 ≡ b = cc f in never (b, refl, rw same at g.2.1.named));
  whole = λ e other s. absurd (omega (arith, e));
}

-- words that go on are those of `export`, and the third is `--config`
third-is : (a b c : List ℕ) (behind : List (List ℕ)) (name : List ℕ) (other view : View)
    → a ∷ b ∷ c ∷ behind ≡ first_word other ∷ name ∷ last_words other → a ≡ first_word view → last_words view ≡ []
    → (view ≡ Of.System) × (c ≡ codes "--config") × (behind ≡ [])
third-is a b c behind name Of.System view e f n = absurd (cc e)
third-is a b c behind name Of.Layout view e f n = absurd (cc e)
third-is a b c behind name Of.Graph view e f n = absurd (cc e)
third-is a b c behind name Of.Config Of.System e f n = (refl, cc e, cc e)
third-is a b c behind name Of.Config Of.Config e f n = absurd (cc n)
third-is a b c behind name Of.Config Of.Layout e f n = (let g : ◌≡◌ {A = ℕ} 101 108 = cc (e, f) in absurd (omega (arith, g)))
third-is a b c behind name Of.Config Of.Graph e f n = (let g : ◌≡◌ {A = ℕ} 101 115 = cc (e, f) in absurd (omega (arith, g)))

-- the third word is bad
pub bad-third : (words : List (List ℕ)) (view : View) → BeginsAlone words view → IsNameAt words 1 → (length words ≡ 2 → ⊥)
    → (GoesOn words view → ⊥) → IsBadWord words 2
bad-third [] view is named two never = (let f = is.first in absurd (cc f))
bad-third (a ∷ []) view is named two never = absurd (cc named.1)
bad-third (a ∷ b ∷ []) view is named two never = absurd (two refl)
bad-third (a ∷ b ∷ c ∷ rest) view is named two never = record {
  within = omega arith;
  before = begins-two a b view is.last (let f = is.first in cc f) (let same : named.0 ≡ b = cc named.1 in rw same at named.2);
  here = λ lt g. (let t = third-is a b c _ g.2.0 g.1 view g.2.1.words_are (let f = is.first in cc f) is.last in never (t.0, ap Some t.1));
  whole = λ e other s. absurd (omega (arith, e));
}

-- the fourth word is bad
pub bad-fourth : (words : List (List ℕ)) (view : View) → BeginsAlone words view → IsNameAt words 1
    → GoesOn words view → 3 < length words → IsBadWord words 3
bad-fourth [] view is named on more = (let f = is.first in absurd (cc f))
bad-fourth (a ∷ []) view is named on more = absurd (cc named.1)
bad-fourth (a ∷ b ∷ []) view is named on more = absurd (cc on.1)
bad-fourth (a ∷ b ∷ c ∷ []) view is named on more = absurd (omega (arith, more))
bad-fourth (a ∷ b ∷ c ∷ d ∷ rest) view is named on more = record {
  within = omega arith;
  before = begins-three a b c (let f = rw on.0 at is.first in cc f) (let same : named.0 ≡ b = cc named.1 in rw same at named.2) (cc on.1);
  here = λ lt g. (let t = third-is a b c _ g.2.0 g.1 view g.2.1.words_are (let f = is.first in cc f) is.last in absurd (cc t.2));
  whole = λ e other s. absurd (omega (arith, e));
}

-- the first word and a name ask for this
pub asks-alone : (words : List (List ℕ)) (view : View) → BeginsAlone words view → IsNameAt words 1 → length words ≡ 2 → Spells words view
asks-alone [] view is named two = (let f = is.first in absurd (cc f))
asks-alone (a ∷ []) view is named two = absurd (cc named.1)
asks-alone (a ∷ b ∷ []) view is named two =
    let e : a ≡ first_word view = (let f = is.first in cc f) in
    (b, record { words_are = ap (λ w. w ∷ b ∷ []) e ∙ ap (λ m. first_word view ∷ b ∷ m) (sym is.last); named = let same : named.0 ≡ b = cc named.1 in rw same at named.2 })
asks-alone (a ∷ b ∷ c ∷ rest) view is named two = absurd (omega (arith, two))

-- the words ask for the header
pub asks-config : (words : List (List ℕ)) (view : View) → BeginsAlone words view → IsNameAt words 1 → GoesOn words view → length words ≤ 3 → Spells words Of.Config
asks-config [] view is named on few = (let f = is.first in absurd (cc f))
asks-config (a ∷ []) view is named on few = absurd (cc named.1)
asks-config (a ∷ b ∷ []) view is named on few = absurd (cc on.1)
asks-config (a ∷ b ∷ c ∷ []) view is named on few =
    let first : a ≡ codes "export" = (let f = rw on.0 at is.first in cc f) in
    let third : c ≡ codes "--config" = cc on.1 in
    (b, record { words_are = cc (first, third); named = let same : named.0 ≡ b = cc named.1 in rw same at named.2 })
asks-config (a ∷ b ∷ c ∷ d ∷ rest) view is named on few = absurd (omega (arith, few))

-- the first word is none of those by which a form begins
pub begins-none : (words : List (List ℕ)) → (slice_get words 0 ≡ Some (codes "export") → ⊥) → (slice_get words 0 ≡ Some (codes "layout") → ⊥)
    → (slice_get words 0 ≡ Some (codes "system") → ⊥) → BeginsNone words
begins-none words a b c Of.System e = a e
begins-none words a b c Of.Config e = a e
begins-none words a b c Of.Layout e = b e
begins-none words a b c Of.Graph e = c e

-- words that ask for something are two at least
pub two-words : (words : List (List ℕ)) (view : View) → Spells words view → 1 < length words
two-words words view s = rw s.1.words_are (omega arith)

-- the second of them names the description
pub second-named : (words : List (List ℕ)) (view : View) (w : List ℕ) → Spells words view → slice_get words 1 ≡ Some w → AsksFor words w view
second-named words view w s at =
    let there : slice_get words 1 ≡ Some s.0 = rw s.1.words_are refl in
    let same : s.0 ≡ w = cc in
    subst (λ x. AsksFor words x view) same s.1

pub ruleset word_lemmas = (bad-first, bad-second, bad-third, bad-fourth, asks-alone, asks-config, begins-none)
