use Rattle.std.proofs.Common.{◌≡◌, ◌≢◌, ◌↔◌, ℕ, Option, List, [], ◌∷◌, length, drop, codes, refl, sym, ap, ◌∙◌, subst, arith, Some}
use Rattle.std.specs.Prelude.{slice_get}
use Rattle.command_words.specs.declared.command.Command.{Command}
use Rattle.command_words.specs.declared.command.Command.TheVariants as Do
use Rattle.command_words.specs.declared.command.Options.{Options}
use Rattle.command_words.specs.declared.command.Schedule.{Schedule}
use Rattle.command_words.specs.Words.{IsAlone, Spells, IsBadWord}
use Rattle.command_words.specs.Reading.{IsFirstBad, IsBadFrom, IsOneName, IsTheNumber, IsOneNumber, AsksToPlay, MayAskToPlay, AsksToRun, MayAskToRun, AsksAlone, MayAskAlone}
use Rattle.command_words.proofs.Letters.{run-or-gen, run-or-i2c, gen-or-i2c, layout-or-switch}
use Rattle.command_words.proofs.Names.{a-name}
use Rattle.command_words.proofs.FirstBad.{drop-at, bad-first, bad-none, bad-behind, bad-also}

abbrev IsCommand : List (List ℕ) → Type 0
IsCommand words = (command : Command) × Spells words command

from-first : (words : List (List ℕ)) (k : ℕ) → IsFirstBad IsCommand words k → IsBadWord words k
from-first words k b = record {
  within = b.within;
  before = (b.before.0, b.before.1.0, b.before.1.1);
  here = λ lt begun. b.here lt begun.0 (begun.1, begun.2);
  whole = λ e command s. b.whole e (command, s);
}

-- the first word, and what its kind of command wants behind it
check-behind : (more : List (List ℕ)) → IsOneName more ↔ IsCommand (codes "check" ∷ more)
check-behind more = ((λ o. (Do.Check, (o.0, record { words_are = ap (λ (w : List (List ℕ)). codes "check" ∷ w) o.1; desc_named = o.2 }))), (λ s. from s.0 s.1)) where
  from : (command : Command) → Spells (codes "check" ∷ more) command → IsOneName more
  from Do.Check s = (s.0, (let e = s.1.words_are in cc), s.1.desc_named)
  from Do.Layout s = let e = s.1.words_are in cc
  from (Do.Play options) s = let e = s.2.words_are in cc
  from (Do.Run n) s = let e = s.2.words_are in cc
  from (Do.Gen n) s = let e = s.words_are in cc
  from (Do.I2c d) s = let e = s.1.words_are in cc
  from (Do.Switch d) s = let e = s.1.words_are in cc

layout-behind : (more : List (List ℕ)) → IsOneName more ↔ IsCommand (codes "layout" ∷ more)
layout-behind more = ((λ o. (Do.Layout, (o.0, record { words_are = ap (λ (w : List (List ℕ)). codes "layout" ∷ w) o.1; desc_named = o.2 }))), (λ s. from s.0 s.1)) where
  from : (command : Command) → Spells (codes "layout" ∷ more) command → IsOneName more
  from Do.Check s = let e = s.1.words_are in cc
  from Do.Layout s = (s.0, (let e = s.1.words_are in cc), s.1.desc_named)
  from (Do.Play options) s = let e = s.2.words_are in cc
  from (Do.Run n) s = let e = s.2.words_are in cc
  from (Do.Gen n) s = let e = s.words_are in cc
  from (Do.I2c d) s = let e = s.1.words_are in cc
  from (Do.Switch d) s = absurd (layout-or-switch (codes "layout" ∷ more) _ _ refl s.1.words_are)

play-spelled : (more : List (List ℕ)) (options : Options) → AsksToPlay more options → Spells (codes "play" ∷ more) (Do.Play options)
play-spelled more options o = (
  o.desc,
  o.trace,
  record {
    more = o.more;
    seed = o.sets.0;
    words_are = ap (λ (w : List (List ℕ)). codes "play" ∷ w) o.words_are;
    desc_named = o.desc_named;
    trace_named = o.trace_named;
    options_are = o.sets.1;
    seed_is = o.sets.2;
  },
)

play-behind : (more : List (List ℕ)) → MayAskToPlay more ↔ IsCommand (codes "play" ∷ more)
play-behind more = ((λ o. (Do.Play o.0, play-spelled more o.0 o.1)), (λ s. from s.0 s.1)) where
  from : (command : Command) → Spells (codes "play" ∷ more) command → MayAskToPlay more
  from Do.Check s = let e = s.1.words_are in cc
  from Do.Layout s = let e = s.1.words_are in cc
  from (Do.Play options) s = (
    options,
    record {
      desc = s.0;
      trace = s.1;
      more = s.2.more;
      words_are = let e = s.2.words_are in cc;
      desc_named = s.2.desc_named;
      trace_named = s.2.trace_named;
      sets = (s.2.seed, s.2.options_are, s.2.seed_is);
    },
  )
  from (Do.Run n) s = let e = s.2.words_are in cc
  from (Do.Gen n) s = let e = s.words_are in cc
  from (Do.I2c d) s = let e = s.1.words_are in cc
  from (Do.Switch d) s = let e = s.1.words_are in cc

run-spelled : (more : List (List ℕ)) (steps : Option ℕ) → AsksToRun more steps → Spells (codes "run" ∷ more) (Do.Run steps)
run-spelled more steps o = (
  o.desc,
  o.trace,
  record {
    more = o.more;
    words_are = ap (λ (w : List (List ℕ)). codes "run" ∷ w) o.words_are;
    desc_named = o.desc_named;
    trace_named = o.trace_named;
    limit_is = o.sets;
  },
)

run-behind : (more : List (List ℕ)) → MayAskToRun more ↔ IsCommand (codes "run" ∷ more)
run-behind more = ((λ o. (Do.Run o.0, run-spelled more o.0 o.1)), (λ s. from s.0 s.1)) where
  from : (command : Command) → Spells (codes "run" ∷ more) command → MayAskToRun more
  from Do.Check s = let e = s.1.words_are in cc
  from Do.Layout s = let e = s.1.words_are in cc
  from (Do.Play options) s = let e = s.2.words_are in cc
  from (Do.Run n) s = (
    n,
    record {
      desc = s.0;
      trace = s.1;
      more = s.2.more;
      words_are = let e = s.2.words_are in cc;
      desc_named = s.2.desc_named;
      trace_named = s.2.trace_named;
      sets = s.2.limit_is;
    },
  )
  from (Do.Gen n) s = absurd (run-or-gen (codes "run" ∷ more) _ _ refl s.words_are)
  from (Do.I2c d) s = absurd (run-or-i2c (codes "run" ∷ more) _ _ refl s.1.words_are)
  from (Do.Switch d) s = let e = s.1.words_are in cc

gen-behind : (more : List (List ℕ)) → IsOneNumber more ↔ IsCommand (codes "gen" ∷ more)
gen-behind more = ((λ o. (Do.Gen o.0, record { words_are = ap (λ (w : List (List ℕ)). codes "gen" ∷ w) o.1.0; small = o.1.1 })), (λ s. from s.0 s.1)) where
  from : (command : Command) → Spells (codes "gen" ∷ more) command → IsOneNumber more
  from Do.Check s = let e = s.1.words_are in cc
  from Do.Layout s = let e = s.1.words_are in cc
  from (Do.Play options) s = let e = s.2.words_are in cc
  from (Do.Run n) s = absurd (run-or-gen (codes "gen" ∷ more) _ _ s.2.words_are refl)
  from (Do.Gen n) s = (n, ((let e = s.words_are in cc), s.small))
  from (Do.I2c d) s = absurd (gen-or-i2c (codes "gen" ∷ more) _ _ refl s.1.words_are)
  from (Do.Switch d) s = let e = s.1.words_are in cc

alone-spelled : (kind : List ℕ) (more : List (List ℕ)) (d : Schedule) (o : AsksAlone more d) → IsAlone kind (kind ∷ more) o.trace d
alone-spelled kind more d o = record {
  more = o.more;
  seed = o.sets.0;
  words_are = ap (λ (w : List (List ℕ)). kind ∷ w) o.words_are;
  trace_named = o.trace_named;
  options_are = o.sets.1;
  seed_is = o.sets.2;
}

alone-asked : (kind : List ℕ) (more : List (List ℕ)) (d : Schedule) (trace : List ℕ) → IsAlone kind (kind ∷ more) trace d → MayAskAlone more
alone-asked kind more d trace s = (
  d,
  record {
    trace = trace;
    more = s.more;
    words_are = let e = s.words_are in cc;
    trace_named = s.trace_named;
    sets = (s.seed, s.options_are, s.seed_is);
  },
)

i2c-behind : (more : List (List ℕ)) → MayAskAlone more ↔ IsCommand (codes "i2c" ∷ more)
i2c-behind more = ((λ o. (Do.I2c o.0, (o.1.trace, alone-spelled (codes "i2c") more o.0 o.1))), (λ s. from s.0 s.1)) where
  from : (command : Command) → Spells (codes "i2c" ∷ more) command → MayAskAlone more
  from Do.Check s = let e = s.1.words_are in cc
  from Do.Layout s = let e = s.1.words_are in cc
  from (Do.Play options) s = let e = s.2.words_are in cc
  from (Do.Run n) s = absurd (run-or-i2c (codes "i2c" ∷ more) _ _ s.2.words_are refl)
  from (Do.Gen n) s = absurd (gen-or-i2c (codes "i2c" ∷ more) _ _ s.words_are refl)
  from (Do.I2c d) s = alone-asked (codes "i2c") more d s.0 s.1
  from (Do.Switch d) s = let e = s.1.words_are in cc

switch-behind : (more : List (List ℕ)) → MayAskAlone more ↔ IsCommand (codes "switch" ∷ more)
switch-behind more = ((λ o. (Do.Switch o.0, (o.1.trace, alone-spelled (codes "switch") more o.0 o.1))), (λ s. from s.0 s.1)) where
  from : (command : Command) → Spells (codes "switch" ∷ more) command → MayAskAlone more
  from Do.Check s = let e = s.1.words_are in cc
  from Do.Layout s = absurd (layout-or-switch (codes "switch" ∷ more) _ _ s.1.words_are refl)
  from (Do.Play options) s = let e = s.2.words_are in cc
  from (Do.Run n) s = let e = s.2.words_are in cc
  from (Do.Gen n) s = let e = s.words_are in cc
  from (Do.I2c d) s = let e = s.1.words_are in cc
  from (Do.Switch d) s = alone-asked (codes "switch") more d s.0 s.1

module _ (words : List (List ℕ)) (name : List ℕ) (first : slice_get words 0 ≡ Some name) where
  stands : (kind : List ℕ) → name ≡ kind → words ≡ kind ∷ drop 1 words
  stands kind e = drop-at words 0 name first ∙ ap (λ (n : List ℕ). n ∷ drop 1 words) e

  bad-behind-first : (kind : List ℕ) (Good : List (List ℕ) → Type 0) → ((more : List (List ℕ)) → Good more ↔ IsCommand (kind ∷ more)) → name ≡ kind → (k : ℕ) → IsBadFrom 1 Good words k → IsBadWord words k
  bad-behind-first kind Good same e k b =
      from-first words k
      (subst (λ ws. IsFirstBad IsCommand ws k) (sym (stands kind e))
      (bad-behind IsCommand (kind ∷ []) (drop 1 words) b.0 k b.1 (bad-also Good (λ ws. IsCommand (kind ∷ ws)) same (drop 1 words) b.0 b.2)))

  pub bad-check : name ≡ codes "check" → (k : ℕ) → IsBadFrom 1 IsOneName words k → IsBadWord words k
  bad-check e k b = bad-behind-first (codes "check") IsOneName check-behind e k b

  pub bad-layout : name ≡ codes "layout" → (k : ℕ) → IsBadFrom 1 IsOneName words k → IsBadWord words k
  bad-layout e k b = bad-behind-first (codes "layout") IsOneName layout-behind e k b

  pub bad-play : name ≡ codes "play" → (k : ℕ) → IsBadFrom 1 MayAskToPlay words k → IsBadWord words k
  bad-play e k b = bad-behind-first (codes "play") MayAskToPlay play-behind e k b

  pub bad-run : name ≡ codes "run" → (k : ℕ) → IsBadFrom 1 MayAskToRun words k → IsBadWord words k
  bad-run e k b = bad-behind-first (codes "run") MayAskToRun run-behind e k b

  pub bad-gen : name ≡ codes "gen" → (k : ℕ) → IsBadFrom 1 IsOneNumber words k → IsBadWord words k
  bad-gen e k b = bad-behind-first (codes "gen") IsOneNumber gen-behind e k b

  pub bad-i2c : name ≡ codes "i2c" → (k : ℕ) → IsBadFrom 1 MayAskAlone words k → IsBadWord words k
  bad-i2c e k b = bad-behind-first (codes "i2c") MayAskAlone i2c-behind e k b

  pub bad-switch : name ≡ codes "switch" → (k : ℕ) → IsBadFrom 1 MayAskAlone words k → IsBadWord words k
  bad-switch e k b = bad-behind-first (codes "switch") MayAskAlone switch-behind e k b

  pub spells-i2c : name ≡ codes "i2c" → (d : Schedule) → AsksAlone (drop 1 words) d → Spells words (Do.I2c d)
  spells-i2c e d o = (o.trace, subst (λ ws. IsAlone (codes "i2c") ws o.trace d) (sym (stands (codes "i2c") e)) (alone-spelled (codes "i2c") (drop 1 words) d o))

  pub spells-switch : name ≡ codes "switch" → (d : Schedule) → AsksAlone (drop 1 words) d → Spells words (Do.Switch d)
  spells-switch e d o = (o.trace, subst (λ ws. IsAlone (codes "switch") ws o.trace d) (sym (stands (codes "switch") e)) (alone-spelled (codes "switch") (drop 1 words) d o))

  pub spells-gen : name ≡ codes "gen" → (n : ℕ) → IsTheNumber (drop 1 words) n → Spells words (Do.Gen n)
  spells-gen e n o = record { words_are = stands (codes "gen") e ∙ ap (λ (w : List (List ℕ)). codes "gen" ∷ w) o.0; small = o.1 }

  pub spells-check : name ≡ codes "check" → IsOneName (drop 1 words) → Spells words Do.Check
  spells-check e o = (o.0, record { words_are = stands (codes "check") e ∙ ap (λ (w : List (List ℕ)). codes "check" ∷ w) o.1; desc_named = o.2 })

  pub spells-layout : name ≡ codes "layout" → IsOneName (drop 1 words) → Spells words Do.Layout
  spells-layout e o = (o.0, record { words_are = stands (codes "layout") e ∙ ap (λ (w : List (List ℕ)). codes "layout" ∷ w) o.1; desc_named = o.2 })

  pub spells-play : name ≡ codes "play" → (options : Options) → AsksToPlay (drop 1 words) options → Spells words (Do.Play options)
  spells-play e options o = subst (λ ws. Spells ws (Do.Play options)) (sym (stands (codes "play") e)) (play-spelled (drop 1 words) options o)

  pub spells-run : name ≡ codes "run" → (steps : Option ℕ) → AsksToRun (drop 1 words) steps → Spells words (Do.Run steps)
  spells-run e steps o = subst (λ ws. Spells ws (Do.Run steps)) (sym (stands (codes "run") e)) (run-spelled (drop 1 words) steps o)

begun : (more : List (List ℕ)) × IsCommand more
begun = (codes "check" ∷ codes "a" ∷ [], (Do.Check, (codes "a", record { words_are = refl; desc_named = a-name })))

no-such : (name : List ℕ) → name ≢ codes "check" → name ≢ codes "layout" → name ≢ codes "play" → name ≢ codes "run" → name ≢ codes "gen" → name ≢ codes "i2c" → name ≢ codes "switch" → (more : List (List ℕ)) (command : Command) → Spells (name ∷ more) command → ⊥
no-such name c l p r g i w more Do.Check s = c (let e = s.1.words_are in cc)
no-such name c l p r g i w more Do.Layout s = l (let e = s.1.words_are in cc)
no-such name c l p r g i w more (Do.Play options) s = p (let e = s.2.words_are in cc)
no-such name c l p r g i w more (Do.Run n) s = r (let e = s.2.words_are in cc)
no-such name c l p r g i w more (Do.Gen n) s = g (let e = s.words_are in cc)
no-such name c l p r g i w more (Do.I2c d) s = i (let e = s.1.words_are in cc)
no-such name c l p r g i w more (Do.Switch d) s = w (let e = s.1.words_are in cc)

-- the first word names no kind of command
pub bad-kind : (words : List (List ℕ)) (name : List ℕ) → slice_get words 0 ≡ Some name → name ≢ codes "check" → name ≢ codes "layout" → name ≢ codes "play" → name ≢ codes "run" → name ≢ codes "gen" → name ≢ codes "i2c" → name ≢ codes "switch" → IsBadWord words 0
bad-kind words name first c l p r g i w =
    from-first words 0
    (subst (λ ws. IsFirstBad IsCommand ws 0) (sym (drop-at words 0 name first)) (bad-first IsCommand name (drop 1 words) begun (λ more s. no-such name c l p r g i w more s.0 s.1)))

no-words : (command : Command) → Spells [] command → ⊥
no-words Do.Check s = let e = s.1.words_are in cc
no-words Do.Layout s = let e = s.1.words_are in cc
no-words (Do.Play options) s = let e = s.2.words_are in cc
no-words (Do.Run n) s = let e = s.2.words_are in cc
no-words (Do.Gen n) s = let e = s.words_are in cc
no-words (Do.I2c d) s = let e = s.1.words_are in cc
no-words (Do.Switch d) s = let e = s.1.words_are in cc

pub bad-empty : (words : List (List ℕ)) → length words ≡ 0 → IsBadWord words 0
bad-empty [] e = from-first [] 0 (bad-none IsCommand begun (λ g. no-words g.0 g.1))
bad-empty (w ∷ words) e = absurd (omega arith)
