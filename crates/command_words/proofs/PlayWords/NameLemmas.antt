-- Options by their names: a name has one word, and an option that isn't there has no number.
use Rattle.std.proofs.Common.{◌≡◌, refl, sym, ap, ◌∙◌, subst, ℕ, true, false, Option, Some, None, List, [], ◌∷◌, ◌++◌, codes, inl, inr}
use Rattle.std.specs.Prelude.{if◌then◌else◌, bytes_eq}
use Rattle.std.proofs.lemmas.Bool.{cases_Bool}
use Rattle.command_words.specs.declared.play_words.options.Name.{Name}
use Rattle.command_words.specs.declared.play_words.options.Name.TheVariants as An
use Rattle.command_words.specs.declared.play_words.options.Setting.{Setting}
use Rattle.command_words.specs.PlayWords.Words.{text_of, same_name, number_of, AreFit, IsWithin}

-- which option a word names
abbrev decode : List ℕ → Option Name
decode w =
    if bytes_eq w (codes "--seed") then Some An.Seed
    else if bytes_eq w (codes "--steps") then Some An.Steps
    else if bytes_eq w (codes "--from") then Some An.From
    else if bytes_eq w (codes "--to") then Some An.To
    else Some An.Counts

decoded : (name : Name) → decode (text_of name) ≡ Some name
decoded An.Seed = refl
decoded An.Steps = refl
decoded An.From = refl
decoded An.To = refl
decoded An.Counts = refl

-- a word names one option
pub text-once : (a b : Name) → text_of a ≡ text_of b → a ≡ b
text-once a b e = let s = sym (decoded a) ∙ (ap decode e ∙ decoded b) in cc

same-self : (a : Name) → same_name a a ≡ true
same-self An.Seed = refl
same-self An.Steps = refl
same-self An.From = refl
same-self An.To = refl
same-self An.Counts = refl

pub same-true : (a b : Name) → same_name a b ≡ true → a ≡ b
same-true An.Seed An.Seed e = refl
same-true An.Seed An.Steps e = absurd (cc e)
same-true An.Seed An.From e = absurd (cc e)
same-true An.Seed An.To e = absurd (cc e)
same-true An.Seed An.Counts e = absurd (cc e)
same-true An.Steps An.Seed e = absurd (cc e)
same-true An.Steps An.Steps e = refl
same-true An.Steps An.From e = absurd (cc e)
same-true An.Steps An.To e = absurd (cc e)
same-true An.Steps An.Counts e = absurd (cc e)
same-true An.From An.Seed e = absurd (cc e)
same-true An.From An.Steps e = absurd (cc e)
same-true An.From An.From e = refl
same-true An.From An.To e = absurd (cc e)
same-true An.From An.Counts e = absurd (cc e)
same-true An.To An.Seed e = absurd (cc e)
same-true An.To An.Steps e = absurd (cc e)
same-true An.To An.From e = absurd (cc e)
same-true An.To An.To e = refl
same-true An.To An.Counts e = absurd (cc e)
same-true An.Counts An.Seed e = absurd (cc e)
same-true An.Counts An.Steps e = absurd (cc e)
same-true An.Counts An.From e = absurd (cc e)
same-true An.Counts An.To e = absurd (cc e)
same-true An.Counts An.Counts e = refl

-- two names are the same in either order
same-turned : (a b : Name) → same_name a b ≡ false → same_name b a ≡ false
same-turned a b e = elim (cases_Bool (same_name b a)) [
  | inl t ↦ (let s = subst (λ n. same_name a n ≡ true) (sym (same-true b a t)) (same-self a) in absurd (cc (s, e)))
  | inr f ↦ f
]

-- an option that isn't there stands neither first nor behind
absent-first : (name : Name) (s : Setting) (more : List Setting) → number_of name (s ∷ more) ≡ None → same_name s.name name ≡ false
absent-first name s more e = elim (cases_Bool (same_name s.name name)) [
  | inl t ↦ (let f = rw t at e in absurd (cc f))
  | inr f ↦ f
]

absent-behind : (name : Name) (s : Setting) (more : List Setting) → number_of name (s ∷ more) ≡ None → number_of name more ≡ None
absent-behind name s more e = let f = absent-first name s more e in rw f at e

absent-joined : (name : Name) (s : Setting) (more : List Setting) → same_name s.name name ≡ false → number_of name more ≡ None → number_of name (s ∷ more) ≡ None
absent-joined name s more f e = rw f e

-- and none of those behind others
absent-at : (name : Name) (done : List Setting) (s : Setting) (more : List Setting) → number_of name (done ++ s ∷ more) ≡ None → same_name s.name name ≡ false
absent-at name [] s more e = absent-first name s more e
absent-at name (d ∷ done) s more e = absent-at name done s more (absent-behind name d (done ++ s ∷ more) e)

absent-more : (name : Name) (done : List Setting) (s : Setting) → number_of name done ≡ None → same_name s.name name ≡ false → number_of name (done ++ s ∷ []) ≡ None
absent-more name [] s e f = absent-joined name s [] f refl
absent-more name (d ∷ done) s e f =
    absent-joined name d (done ++ s ∷ []) (absent-first name d done e) (absent-more name done s (absent-behind name d done e) f)

-- an option that stands behind others is within its limits, and none of them
pub fit-at : (done : List Setting) (s : Setting) (more : List Setting) → AreFit (done ++ s ∷ more) → IsWithin s × (number_of s.name done ≡ None)
fit-at [] s more fit = (fit.0, refl)
fit-at (d ∷ done) s more fit =
    let f = fit-at done s more fit.2 in
    (f.0, absent-joined s.name d done (same-turned s.name d.name (absent-at d.name done s more fit.1)) f.1)

-- one more, which isn't there yet
pub fit-more : (done : List Setting) (s : Setting) → AreFit done → IsWithin s → number_of s.name done ≡ None → AreFit (done ++ s ∷ [])
fit-more [] s fit within none = (within, refl, tt)
fit-more (d ∷ done) s fit within none = (
  fit.0,
  absent-more d.name done s fit.1 (same-turned d.name s.name (absent-first s.name d done none)),
  fit-more done s fit.2 within (absent-behind s.name d done none),
)

-- those that stand first are fit
pub fit-first : (done more : List Setting) → AreFit (done ++ more) → AreFit done
fit-first [] more fit = tt
fit-first (d ∷ done) more fit = (fit.0, absent-done d.name done more fit.1, fit-first done more fit.2)
  where
    absent-done : (name : Name) (done more : List Setting) → number_of name (done ++ more) ≡ None → number_of name done ≡ None
    absent-done name [] more e = refl
    absent-done name (d ∷ done) more e = absent-joined name d done (absent-first name d (done ++ more) e) (absent-done name done more (absent-behind name d (done ++ more) e))
