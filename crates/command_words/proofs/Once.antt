use Rattle.std.proofs.Common.{◌≡◌, ℕ, ◌+◌, ◌<◌, ◌≤◌, inl, inr, Option, Bool, List, ◌++◌, length, take, drop, append_assoc, length-append, length-take, decimal, refl, sym, ap, ◌∙◌, subst, arith}
use Rattle.std.specs.Prelude.{unwrap_or, Result, Ok, Err}
use Rattle.std.proofs.lemmas.List.{take-append-drop, take-take}
use Rattle.std.proofs.lemmas.Bool.{cases_lt}
use Rattle.std.proofs.lemmas.Fmt.{decimal_injective}
use Rattle.command_words.specs.declared.command.Command.{Command}
use Rattle.command_words.specs.declared.command.Command.TheVariants as Do
use Rattle.command_words.specs.declared.command.Options.{Options}
use Rattle.command_words.specs.declared.command.Schedule.{Schedule}
use Rattle.command_words.specs.Options.{AreOptions, IsLimit}
use Rattle.command_words.specs.Words.{IsPlay, IsRun, IsAlone, Spells, Begins, IsBadWord, last_name}
use Rattle.command_words.proofs.Letters.{run-or-gen, run-or-i2c, gen-or-i2c, layout-or-switch}
use Rattle.command_words.proofs.Inverted.{options-once, options-short, limit-once, limit-short}

-- fewer words begin a command too
begins-fewer : (n m : ℕ) (words : List (List ℕ)) → n ≤ m → Begins (take m words) → Begins (take n words)
begins-fewer n m words le b =
    let same : take m words ++ b.0 ≡ take n words ++ (drop n (take m words) ++ b.0)
    = ap (λ x. x ++ b.0) (sym (take-append-drop n (take m words))) ∙ append_assoc (take n (take m words)) (drop n (take m words)) b.0
    ∙ ap (λ x. x ++ (drop n (take m words) ++ b.0)) (take-take n m words le) in
    (drop n (take m words) ++ b.0, b.1, subst (λ ws. Spells ws b.1) same b.2)

-- no two words are the first bad one
bad-once : (words : List (List ℕ)) (k l : ℕ) → IsBadWord words k → IsBadWord words l → k < l → ⊥
bad-once words k l h i lt = h.here (omega (arith, i.within)) (begins-fewer (k + 1) l words (omega arith) i.before)

bad-same : (words : List (List ℕ)) (k l : ℕ) → IsBadWord words k → IsBadWord words l → k ≡ l
bad-same words k l h i = elim (cases_lt k l) [
  | inl lt ↦ absurd (bad-once words k l h i lt)
  | inr ge ↦ elim (cases_lt l k) [ inl lt ↦ absurd (bad-once words l k i h lt) | inr le ↦ omega arith ]
]

-- a command has no bad word
pub bad-spelled : (words : List (List ℕ)) (k : ℕ) (command : Command) → IsBadWord words k → Spells words command → ⊥
bad-spelled words k command h s = elim (cases_lt k (length words)) [
  | inl lt ↦ h.here lt (drop (k + 1) words, command, subst (λ ws. Spells ws command) (sym (take-append-drop (k + 1) words)) s)
  | inr ge ↦ h.whole (omega (arith, h.within)) command s
]

-- options that set the same
abbrev set : ℕ → Option ℕ → Bool → Options
set seed steps journal = record { seed = seed; steps = steps; journal = journal }

options-same : (o o' : Options) → o.seed ≡ o'.seed → o.steps ≡ o'.steps → o.journal ≡ o'.journal → o ≡ o'
options-same o o' a b c =
    ap (λ (x : ℕ). set x o.steps o.journal) a ∙ ap (λ (x : Option ℕ). set o'.seed x o.journal) b ∙ ap (λ (x : Bool). set o'.seed o'.steps x) c

-- words spell one command at most
play-once : (words : List (List ℕ)) (desc trace desc' trace' : List ℕ) (o o' : Options) → IsPlay words desc trace o → IsPlay words desc' trace' o' → o ≡ o'
play-once words desc trace desc' trace' o o' p q =
    let e = sym p.words_are ∙ q.words_are in
    let more : p.more ≡ q.more = cc in
    let once = options-once q.more p.seed o.steps o.journal q.seed o'.steps o'.journal (subst (λ ws. AreOptions ws p.seed o.steps o.journal) more p.options_are) q.options_are in
    options-same o o' (p.seed_is ∙ ap (λ (s : Option ℕ). unwrap_or s 0) once.0 ∙ sym q.seed_is) once.1 once.2

run-once : (words : List (List ℕ)) (desc trace desc' trace' : List ℕ) (n m : Option ℕ) → IsRun words desc trace n → IsRun words desc' trace' m → n ≡ m
run-once words desc trace desc' trace' n m p q =
    let e = sym p.words_are ∙ q.words_are in
    let more : p.more ≡ q.more = cc in
    limit-once q.more n m (subst (λ ws. IsLimit ws n) more p.limit_is) q.limit_is

abbrev plan : ℕ → Option ℕ → Schedule
plan seed steps = record { seed = seed; steps = steps }

alone-once : (kind : List ℕ) (words : List (List ℕ)) (trace trace' : List ℕ) (d d' : Schedule) → IsAlone kind words trace d → IsAlone kind words trace' d' → d ≡ d'
alone-once kind words trace trace' d d' p q =
    let e = sym p.words_are ∙ q.words_are in
    let more : p.more ≡ q.more = cc in
    let once = options-once q.more p.seed d.steps Rattle.std.proofs.Common.false q.seed d'.steps Rattle.std.proofs.Common.false (subst (λ ws. AreOptions ws p.seed d.steps Rattle.std.proofs.Common.false) more p.options_are) q.options_are in
    ap (λ (x : ℕ). plan x d.steps) (p.seed_is ∙ ap (λ (s : Option ℕ). unwrap_or s 0) once.0 ∙ sym q.seed_is) ∙ ap (λ (x : Option ℕ). plan d'.seed x) once.1

spells-once : (words : List (List ℕ)) (a b : Command) → Spells words a → Spells words b → a ≡ b
spells-once words Do.Check Do.Check s t = refl
spells-once words Do.Check Do.Layout s t = let e = sym s.1.words_are ∙ t.1.words_are in cc
spells-once words Do.Check (Do.Play o) s t = let e = sym s.1.words_are ∙ t.2.words_are in cc
spells-once words Do.Check (Do.Run n) s t = let e = sym s.1.words_are ∙ t.2.words_are in cc
spells-once words Do.Check (Do.Gen n) s t = let e = sym s.1.words_are ∙ t.words_are in cc
spells-once words Do.Check (Do.I2c d) s t = let e = sym s.1.words_are ∙ t.1.words_are in cc
spells-once words Do.Check (Do.Switch d) s t = let e = sym s.1.words_are ∙ t.1.words_are in cc
spells-once words Do.Layout Do.Check s t = let e = sym s.1.words_are ∙ t.1.words_are in cc
spells-once words Do.Layout Do.Layout s t = refl
spells-once words Do.Layout (Do.Play o) s t = let e = sym s.1.words_are ∙ t.2.words_are in cc
spells-once words Do.Layout (Do.Run n) s t = let e = sym s.1.words_are ∙ t.2.words_are in cc
spells-once words Do.Layout (Do.Gen n) s t = let e = sym s.1.words_are ∙ t.words_are in cc
spells-once words Do.Layout (Do.I2c d) s t = let e = sym s.1.words_are ∙ t.1.words_are in cc
spells-once words Do.Layout (Do.Switch d) s t = absurd (layout-or-switch words _ _ s.1.words_are t.1.words_are)
spells-once words (Do.Play o) Do.Check s t = let e = sym s.2.words_are ∙ t.1.words_are in cc
spells-once words (Do.Play o) Do.Layout s t = let e = sym s.2.words_are ∙ t.1.words_are in cc
spells-once words (Do.Play o) (Do.Play o') s t = ap (λ x. Do.Play x) (play-once words s.0 s.1 t.0 t.1 o o' s.2 t.2)
spells-once words (Do.Play o) (Do.Run n) s t = let e = sym s.2.words_are ∙ t.2.words_are in cc
spells-once words (Do.Play o) (Do.Gen n) s t = let e = sym s.2.words_are ∙ t.words_are in cc
spells-once words (Do.Play o) (Do.I2c d) s t = let e = sym s.2.words_are ∙ t.1.words_are in cc
spells-once words (Do.Play o) (Do.Switch d) s t = let e = sym s.2.words_are ∙ t.1.words_are in cc
spells-once words (Do.Run n) Do.Check s t = let e = sym s.2.words_are ∙ t.1.words_are in cc
spells-once words (Do.Run n) Do.Layout s t = let e = sym s.2.words_are ∙ t.1.words_are in cc
spells-once words (Do.Run n) (Do.Play o) s t = let e = sym s.2.words_are ∙ t.2.words_are in cc
spells-once words (Do.Run n) (Do.Run m) s t = ap (λ (x : Option ℕ). Do.Run x) (run-once words s.0 s.1 t.0 t.1 n m s.2 t.2)
spells-once words (Do.Run n) (Do.Gen m) s t = absurd (run-or-gen words _ _ s.2.words_are t.words_are)
spells-once words (Do.Run n) (Do.I2c d) s t = absurd (run-or-i2c words _ _ s.2.words_are t.1.words_are)
spells-once words (Do.Run n) (Do.Switch d) s t = let e = sym s.2.words_are ∙ t.1.words_are in cc
spells-once words (Do.Gen n) Do.Check s t = let e = sym s.words_are ∙ t.1.words_are in cc
spells-once words (Do.Gen n) Do.Layout s t = let e = sym s.words_are ∙ t.1.words_are in cc
spells-once words (Do.Gen n) (Do.Play o) s t = let e = sym s.words_are ∙ t.2.words_are in cc
spells-once words (Do.Gen n) (Do.Run m) s t = absurd (run-or-gen words _ _ t.2.words_are s.words_are)
spells-once words (Do.Gen n) (Do.Gen m) s t =
    let e = sym s.words_are ∙ t.words_are in
    let same : decimal n ≡ decimal m = cc in
    ap (λ (k : ℕ). Do.Gen k) (decimal_injective n m s.small t.small same)
spells-once words (Do.Gen n) (Do.I2c d) s t = absurd (gen-or-i2c words _ _ s.words_are t.1.words_are)
spells-once words (Do.Gen n) (Do.Switch d) s t = let e = sym s.words_are ∙ t.1.words_are in cc
spells-once words (Do.I2c d) Do.Check s t = let e = sym s.1.words_are ∙ t.1.words_are in cc
spells-once words (Do.I2c d) Do.Layout s t = let e = sym s.1.words_are ∙ t.1.words_are in cc
spells-once words (Do.I2c d) (Do.Play o) s t = let e = sym s.1.words_are ∙ t.2.words_are in cc
spells-once words (Do.I2c d) (Do.Run n) s t = absurd (run-or-i2c words _ _ t.2.words_are s.1.words_are)
spells-once words (Do.I2c d) (Do.Gen n) s t = absurd (gen-or-i2c words _ _ t.words_are s.1.words_are)
spells-once words (Do.I2c d) (Do.I2c d') s t = ap (λ (x : Schedule). Do.I2c x) (alone-once _ words s.0 t.0 d d' s.1 t.1)
spells-once words (Do.I2c d) (Do.Switch d') s t = let e = sym s.1.words_are ∙ t.1.words_are in cc
spells-once words (Do.Switch d) Do.Check s t = let e = sym s.1.words_are ∙ t.1.words_are in cc
spells-once words (Do.Switch d) Do.Layout s t = absurd (layout-or-switch words _ _ t.1.words_are s.1.words_are)
spells-once words (Do.Switch d) (Do.Play o) s t = let e = sym s.1.words_are ∙ t.2.words_are in cc
spells-once words (Do.Switch d) (Do.Run n) s t = let e = sym s.1.words_are ∙ t.2.words_are in cc
spells-once words (Do.Switch d) (Do.Gen n) s t = let e = sym s.1.words_are ∙ t.words_are in cc
spells-once words (Do.Switch d) (Do.I2c d') s t = let e = sym s.1.words_are ∙ t.1.words_are in cc
spells-once words (Do.Switch d) (Do.Switch d') s t = ap (λ (x : Schedule). Do.Switch x) (alone-once _ words s.0 t.0 d d' s.1 t.1)

pub same-command : (words : List (List ℕ)) (a b : Command) → Spells words a → Spells words b → ◌≡◌ {A = Result Command ℕ} (Ok a) (Ok b)
same-command words a b s t = ap (λ (x : Command). Ok x) (spells-once words a b s t)

pub same-place : (words : List (List ℕ)) (k l : ℕ) → IsBadWord words k → IsBadWord words l → ◌≡◌ {A = Result Command ℕ} (Err k) (Err l)
same-place words k l h i = ap (λ (x : ℕ). Err x) (bad-same words k l h i)

-- a command is eight words at most
short : (words : List (List ℕ)) (command : Command) → Spells words command → length words ≤ 8
short words Do.Check s = let l = ap length s.1.words_are in omega arith
short words Do.Layout s = let l = ap length s.1.words_are in omega arith
short words (Do.Play o) s =
    let l = ap length s.2.words_are in
    let five = options-short s.2.more s.2.seed o.steps o.journal s.2.options_are in
    omega arith
short words (Do.Run n) s =
    let l = ap length s.2.words_are in
    let two = limit-short s.2.more n s.2.limit_is in
    omega arith
short words (Do.Gen n) s = let l = ap length s.words_are in omega arith
short words (Do.I2c d) s =
    let l = ap length s.1.words_are in
    let five = options-short s.1.more s.1.seed d.steps Rattle.std.proofs.Common.false s.1.options_are in
    omega arith
short words (Do.Switch d) s =
    let l = ap length s.1.words_are in
    let five = options-short s.1.more s.1.seed d.steps Rattle.std.proofs.Common.false s.1.options_are in
    omega arith

pub bad-early : (words : List (List ℕ)) (k : ℕ) → IsBadWord words k → k ≤ 8
bad-early words k h =
    let s = short (take k words ++ h.before.0) h.before.1 h.before.2 in
    let l = length-append (take k words) h.before.0 in
    let m = length-take k words in
    let n = h.within in
    omega arith

-- the names are there
pub names-there : (words : List (List ℕ)) (command : Command) → Spells words command → last_name command < length words
names-there words Do.Check s = let l = ap length s.1.words_are in omega arith
names-there words Do.Layout s = let l = ap length s.1.words_are in omega arith
names-there words (Do.Play o) s = let l = ap length s.2.words_are in omega arith
names-there words (Do.Run n) s = let l = ap length s.2.words_are in omega arith
names-there words (Do.Gen n) s = let l = ap length s.words_are in omega arith
names-there words (Do.I2c d) s = let l = ap length s.1.words_are in omega arith
names-there words (Do.Switch d) s = let l = ap length s.1.words_are in omega arith
