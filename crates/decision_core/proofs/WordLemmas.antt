use Rattle.std.proofs.Common.{◌≡◌, ◌<◌, ℕ, List, [], ◌∷◌, length, refl, sym, ap, ◌∙◌, subst, inl, inr, get_or, arith}
use Rattle.std.specs.Prelude.{string_bytes}
use Rattle.std.specs.Global.{Global}
use Rattle.std.specs.declared.string.String.{String}
use Rattle.command_words.specs.declared.command.Command.{Command}
use Rattle.command_words.specs.declared.command.Command.TheVariants as Do
use Rattle.command_words.specs.Words.{texts_of, IsCheck, IsLayout, IsPlay, IsRun, IsI2c, IsSwitch, Spells}
use Rattle.command_words.specs.declared.command.Schedule.{Schedule}
use Rattle.decision_core.specs.declared.showing.Showing.TheVariants as Show
use Rattle.decision_core.specs.declared.showing.Asked.{Asked}
use Rattle.decision_core.specs.declared.showing.Asked.TheVariants as Ask
use Rattle.decision_core.specs.declared.showing.Alone.{Alone}
use Rattle.decision_core.specs.declared.showing.Alone.TheVariants as Only
use Rattle.decision_core.specs.Naming.{HasDescription}
use Rattle.decision_core.specs.Leading.{AsksOfTrace}
use Rattle.decision_core.specs.Decisions.{NamesDescription, AsksFor, AsksAlone, to_play, to_run}

-- the words of a command are two at least
none-spelled : (c : Command) → Spells [] c → ⊥
none-spelled Do.Check s = let e = s.1.words_are in cc
none-spelled Do.Layout s = let e = s.1.words_are in cc
none-spelled (Do.Play o) s = let e = s.2.words_are in cc
none-spelled (Do.Run n) s = let e = s.2.words_are in cc
none-spelled (Do.Gen n) s = let e = s.words_are in cc
none-spelled (Do.I2c d) s = let e = s.1.words_are in cc
none-spelled (Do.Switch d) s = let e = s.1.words_are in cc

one-spelled : (w : List ℕ) (c : Command) → Spells (w ∷ []) c → ⊥
one-spelled w Do.Check s = let e = s.1.words_are in cc
one-spelled w Do.Layout s = let e = s.1.words_are in cc
one-spelled w (Do.Play o) s = let e = s.2.words_are in cc
one-spelled w (Do.Run n) s = let e = s.2.words_are in cc
one-spelled w (Do.Gen n) s = let e = s.words_are in cc
one-spelled w (Do.I2c d) s = let e = s.1.words_are in cc
one-spelled w (Do.Switch d) s = let e = s.1.words_are in cc

-- the names in the words of a command
second-named : (words : List (String Global)) (c : Command) (w : String Global) → Spells (texts_of words) c → HasDescription c → w ≡ get_or words 1 w → NamesDescription (texts_of words) (string_bytes w)
second-named [] c w s named e = absurd (none-spelled c s)
second-named (a ∷ []) c w s named e = absurd (one-spelled (string_bytes a) c s)
second-named (a ∷ b ∷ ws) Do.Check w s named e =
    let f = s.1.words_are in let d : s.0 ≡ string_bytes b = cc in
    inl (subst (λ x. IsCheck (texts_of (a ∷ b ∷ ws)) x) (d ∙ ap (λ (x : String Global). string_bytes x) (sym e)) s.1)
second-named (a ∷ b ∷ ws) Do.Layout w s named e =
    let f = s.1.words_are in let d : s.0 ≡ string_bytes b = cc in
    inr (inl (subst (λ x. IsLayout (texts_of (a ∷ b ∷ ws)) x) (d ∙ ap (λ (x : String Global). string_bytes x) (sym e)) s.1))
second-named (a ∷ b ∷ ws) (Do.Gen n) w s named e = absurd named
second-named (a ∷ b ∷ ws) (Do.I2c d) w s named e = absurd named
second-named (a ∷ b ∷ ws) (Do.Switch d) w s named e = absurd named
second-named (a ∷ b ∷ ws) (Do.Play o) w s named e =
    let f = s.2.words_are in let d : s.0 ≡ string_bytes b = cc in
    inr (inr (s.1, Ask.Play (Show.Report o), to_play o (subst (λ x. IsPlay (texts_of (a ∷ b ∷ ws)) x s.1 o) (d ∙ ap (λ (x : String Global). string_bytes x) (sym e)) s.2)))
second-named (a ∷ b ∷ ws) (Do.Run n) w s named e =
    let f = s.2.words_are in let d : s.0 ≡ string_bytes b = cc in
    inr (inr (s.1, Ask.Run n, to_run n (subst (λ x. IsRun (texts_of (a ∷ b ∷ ws)) x s.1 n) (d ∙ ap (λ (x : String Global). string_bytes x) (sym e)) s.2)))

third-word : (words : List (String Global)) (first desc trace : List ℕ) (more : List (List ℕ)) (w : String Global) → texts_of words ≡ first ∷ desc ∷ trace ∷ more → w ≡ get_or words 2 w → trace ≡ string_bytes w
third-word [] first desc trace more w f e = cc
third-word (a ∷ []) first desc trace more w f e = cc
third-word (a ∷ b ∷ []) first desc trace more w f e = cc
third-word (a ∷ b ∷ c ∷ ws) first desc trace more w f e =
    let t : trace ≡ string_bytes c = cc in
    t ∙ ap (λ (x : String Global). string_bytes x) (sym e)

-- the trace in words that ask for something of it
pub third-named : (words : List (String Global)) (desc trace : List ℕ) (asked : Asked) (w : String Global) → AsksFor (texts_of words) desc trace asked → w ≡ get_or words 2 w
    → AsksFor (texts_of words) desc (string_bytes w) asked
third-named words desc trace _ w (to_play o p) e = to_play o (subst (λ x. IsPlay (texts_of words) desc x o) (third-word words _ desc trace _ w p.words_are e) p)
third-named words desc trace _ w (to_run n p) e = to_run n (subst (λ x. IsRun (texts_of words) desc x n) (third-word words _ desc trace _ w p.words_are e) p)

-- the description's name, however the word is written
pub named-second : (words : List (String Global)) (c : Command) (w : String Global) (name : List ℕ) → Spells (texts_of words) c → HasDescription c → w ≡ get_or words 1 w → name ≡ string_bytes w → NamesDescription (texts_of words) name
named-second words c w name s named e n = subst (λ x. NamesDescription (texts_of words) x) (sym n) (second-named words c w s named e)

pub command-two : (words : List (String Global)) (c : Command) → Spells (texts_of words) c → 1 < length words
command-two [] c s = absurd (none-spelled c s)
command-two (a ∷ []) c s = absurd (one-spelled (string_bytes a) c s)
command-two (a ∷ b ∷ ws) c s = omega arith

three-words : (words : List (String Global)) (first desc trace : List ℕ) (more : List (List ℕ)) → texts_of words ≡ first ∷ desc ∷ trace ∷ more → 2 < length words
three-words [] first desc trace more f = cc
three-words (a ∷ []) first desc trace more f = cc
three-words (a ∷ b ∷ []) first desc trace more f = cc
three-words (a ∷ b ∷ c ∷ ws) first desc trace more f = omega arith

asks-three : (words : List (String Global)) (desc trace : List ℕ) (asked : Asked) → AsksFor (texts_of words) desc trace asked → 2 < length words
asks-three words desc trace _ (to_play o p) = three-words words _ desc trace _ p.words_are
asks-three words desc trace _ (to_run n p) = three-words words _ desc trace _ p.words_are

-- the text in words that name it alone
second-word : (words : List (String Global)) (first trace : List ℕ) (more : List (List ℕ)) (w : String Global) → texts_of words ≡ first ∷ trace ∷ more → w ≡ get_or words 1 w → trace ≡ string_bytes w
second-word [] first trace more w f e = cc
second-word (a ∷ []) first trace more w f e = cc
second-word (a ∷ b ∷ ws) first trace more w f e =
    let t : trace ≡ string_bytes b = cc in
    t ∙ ap (λ (x : String Global). string_bytes x) (sym e)

named-alone : (words : List (String Global)) (trace : List ℕ) (asked : Alone) (w : String Global) → AsksAlone (texts_of words) trace asked → w ≡ get_or words 1 w → AsksAlone (texts_of words) (string_bytes w) asked
named-alone words trace (Only.Bus d) w p e = subst (λ x. IsI2c (texts_of words) x d) (second-word words _ trace _ w p.words_are e) p
named-alone words trace (Only.Switch d) w p e = subst (λ x. IsSwitch (texts_of words) x d) (second-word words _ trace _ w p.words_are e) p

pub alone-named : (words : List (String Global)) (trace : List ℕ) (asked : Alone) (w : String Global) (name : List ℕ) → AsksAlone (texts_of words) trace asked → w ≡ get_or words 1 w → name ≡ string_bytes w → AsksAlone (texts_of words) name asked
alone-named words trace asked w name p e n = subst (λ x. AsksAlone (texts_of words) x asked) (sym n) (named-alone words trace asked w p e)

two-words : (words : List (String Global)) (first trace : List ℕ) (more : List (List ℕ)) → texts_of words ≡ first ∷ trace ∷ more → 1 < length words
two-words [] first trace more f = cc
two-words (a ∷ []) first trace more f = cc
two-words (a ∷ b ∷ ws) first trace more f = omega arith

pub alone-two : (words : List (String Global)) (trace : List ℕ) (asked : Alone) → AsksAlone (texts_of words) trace asked → 1 < length words
alone-two words trace (Only.Bus d) p = two-words words _ trace _ p.words_are
alone-two words trace (Only.Switch d) p = two-words words _ trace _ p.words_are

-- a command that is none of these names a description
pub has-description : (c : Command) → ((n : ℕ) → c ≡ Do.Gen n → ⊥) → ((d : Schedule) → c ≡ Do.I2c d → ⊥) → ((d : Schedule) → c ≡ Do.Switch d → ⊥) → HasDescription c
has-description Do.Check g i s = tt
has-description Do.Layout g i s = tt
has-description (Do.Play o) g i s = tt
has-description (Do.Run n) g i s = tt
has-description (Do.Gen n) g i s = absurd (g n refl)
has-description (Do.I2c d) g i s = absurd (i d refl)
has-description (Do.Switch d) g i s = absurd (s d refl)

-- a command's words ask for what it asks of a trace
pub asks-of : (words : List (List ℕ)) (command : Command) (asked : Asked) → Spells words command → AsksOfTrace command asked → (desc : List ℕ) × (trace : List ℕ) × AsksFor words desc trace asked
asks-of words Do.Check asked s a = absurd a
asks-of words Do.Layout asked s a = absurd a
asks-of words (Do.Play o) asked s a = (s.0, s.1, subst (λ (x : Asked). AsksFor words s.0 s.1 x) (sym a) (to_play o s.2))
asks-of words (Do.Run n) asked s a = (s.0, s.1, subst (λ (x : Asked). AsksFor words s.0 s.1 x) (sym a) (to_run n s.2))
asks-of words (Do.Gen n) asked s a = absurd a
asks-of words (Do.I2c d) asked s a = absurd a
asks-of words (Do.Switch d) asked s a = absurd a

pub trace-three : (words : List (String Global)) (c : Command) (asked : Asked) → Spells (texts_of words) c → AsksOfTrace c asked → 2 < length words
trace-three words c asked s a = let t = asks-of (texts_of words) c asked s a in asks-three words t.0 t.1 asked t.2
