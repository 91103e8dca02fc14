use Rattle.std.proofs.Common.{◌≡◌, inl, inr, ◌<◌, ◌≤◌, ◌+◌, ℕ, List, ◌++◌, ◌∷◌, length, take, drop, refl, sym, ap, ◌∙◌, subst, append_assoc, codes, decimal, arith, get_or, Option, Some, None, Result, Ok, Err, IfOk}
use Rattle.std.specs.Prelude.{string_bytes}
use Rattle.std.specs.Global.{Global}
use Rattle.std.specs.declared.string.String.{String}
use Rattle.std.proofs.lemmas.Bool.{cases_lt}
use Rattle.std.proofs.lemmas.Fmt.{decimal_injective}
use Rattle.std.proofs.lemmas.List.{take-append-drop, take-take}
use Rattle.sdf_plan.specs.declared.place.Place.{Place}
use Rattle.sdf_plan.specs.declared.plan.Plan.{Plan}
use Rattle.trace_text.specs.declared.trace.Trace.{Trace}
use Rattle.trace_text.specs.Traces.{HasNoBadLine, IsLeastBadLine}
use Rattle.report_text.specs.Answers.{usage_text, bad_trace_text}
use Rattle.command_words.specs.declared.command.Command.{Command}
use Rattle.command_words.specs.declared.command.Command.TheVariants as Do
use Rattle.command_words.specs.Words.{texts_of, IsCheck, IsLayout, IsGen, Spells, Begins, IsBadWord}
use Rattle.decision_core.specs.declared.status.Status.TheVariants as Ended
use Rattle.decision_core.specs.declared.showing.Asked.{Asked}
use Rattle.decision_core.specs.declared.showing.Asked.TheVariants as Ask
use Rattle.decision_core.specs.declared.showing.Showing.TheVariants as Show
use Rattle.workload.specs.Generated.{generated_text}
use Rattle.workload.specs.declared.description.TheConstants.{FULL_EXAMPLE}
use Rattle.decision_core.specs.Decisions.{Decision, Say, Play, Run, asked_on, AsksFor, to_play, to_run, AsksAlone, AloneDecides, OneTextDecides, long_text_alone, bad_text, good_text, bus_played, ports_played, alone, TraceDecides, PlanDecides, TextDecides, GeneratedDecides, Decides, NamesDescription, refuses, long_trace, bad_trace, good_trace, checked, laid_out, traced, long_description, refused, accepted, no_command, described, generated}
use Rattle.decision_core.specs.Naming.{HasDescription}
use Rattle.decision_core.specs.declared.showing.Alone.{Alone}
use Rattle.decision_core.specs.declared.showing.Alone.TheVariants as Only
use Rattle.command_words.specs.declared.command.Schedule.{Schedule}
use Rattle.i2c_text.specs.Buses.{HasNoBadLine as HasNoBadBusLine, IsLeastBadLine as IsLeastBadBusLine}
use Rattle.line_text.specs.PortsText.Given.{HasNoBadLine as HasNoBadPortLine, IsLeastBadLine as IsLeastBadPortLine}
use Rattle.decision_core.specs.ShelfCore.Reading.{WasRead}
use Rattle.command_words.specs.declared.command.Options.{Options}
use Rattle.command_words.specs.Words.{IsPlay, IsRun}
use Rattle.command_words.proofs.Letters.{run-or-gen}
use Rattle.command_words.proofs.Once.{same-command}
use Rattle.decision_core.specs.Leading.{AsksOfTrace, PlanSays, says_accepted, says_layout}
use Rattle.decision_core.proofs.WordLemmas.{asks-of, third-named}
use Rattle.decision_core.proofs.JudgedLemmas.{same-accepted, accepted-or-refused, same-refused}

-- fewer words begin a command too
begins-fewer : (n m : ℕ) (words : List (List ℕ)) → n ≤ m → Begins (take m words) → Begins (take n words)
begins-fewer n m words le b =
    let same : take m words ++ b.0 ≡ take n words ++ (drop n (take m words) ++ b.0)
    = ap (λ x. x ++ b.0) (sym (take-append-drop n (take m words))) ∙ append_assoc (take n (take m words)) (drop n (take m words)) b.0
    ∙ ap (λ x. x ++ (drop n (take m words) ++ b.0)) (take-take n m words le) in
    (drop n (take m words) ++ b.0, b.1, subst (λ ws. Spells ws b.1) same b.2)

-- no two words are the first bad one
bad-once : (words : List (List ℕ)) (k l : ℕ) → IsBadWord words k → IsBadWord words l → k < l → ⊥
bad-once words k l h i lt = h.here (omega (arith, i.within)) (begins-fewer (k + 1) l words (omega arith) i.before)

bad-same : (words : List (List ℕ)) (k l : ℕ) → IsBadWord words k → IsBadWord words l → k ≡ l
bad-same words k l h i = elim (cases_lt k l) [
  | inl lt ↦ absurd (bad-once words k l h i lt)
  | inr ge ↦ elim (cases_lt l k) [ inl lt ↦ absurd (bad-once words l k i h lt) | inr le ↦ omega arith ]
]

-- a command has no bad word
pub bad-none : (words : List (List ℕ)) (k : ℕ) (command : Command) → IsBadWord words k → Spells words command → ⊥
bad-none words k command h s = elim (cases_lt k (length words)) [
  | inl lt ↦ h.here lt (drop (k + 1) words, command, subst (λ ws. Spells ws command) (sym (take-append-drop (k + 1) words)) s)
  | inr ge ↦ h.whole (omega (arith, h.within)) command s
]

-- words that ask for something of a trace are a command
pub asks-spell : (words : List (List ℕ)) (desc trace : List ℕ) (asked : Asked) → AsksFor words desc trace asked → (command : Command) × Spells words command
asks-spell words desc trace _ (to_play o p) = (Do.Play o, (desc, trace, p))
asks-spell words desc trace _ (to_run n p) = (Do.Run n, (desc, trace, p))

-- words that name a description are a command
pub names-spell : (words : List (List ℕ)) (desc : List ℕ) → NamesDescription words desc → (command : Command) × Spells words command
names-spell words desc (inl c) = (Do.Check, (desc, c))
names-spell words desc (inr (inl l)) = (Do.Layout, (desc, l))
names-spell words desc (inr (inr p)) = asks-spell words desc p.0 p.1 p.2

-- the names in words
second-of : (words : List (List ℕ)) (w desc : List ℕ) (ws : List (List ℕ)) (v desc' : List ℕ) (vs : List (List ℕ)) → words ≡ w ∷ desc ∷ ws → words ≡ v ∷ desc' ∷ vs → desc ≡ desc'
second-of words w desc ws v desc' vs e f = let g : w ∷ desc ∷ ws ≡ v ∷ desc' ∷ vs = sym e ∙ f in cc

asks-words : (words : List (List ℕ)) (desc trace : List ℕ) (asked : Asked) → AsksFor words desc trace asked → (w : List ℕ) × (ws : List (List ℕ)) × (words ≡ w ∷ desc ∷ trace ∷ ws)
asks-words words desc trace _ (to_play o p) = (_, _, p.words_are)
asks-words words desc trace _ (to_run n p) = (_, _, p.words_are)

names-words : (words : List (List ℕ)) (desc : List ℕ) → NamesDescription words desc → (w : List ℕ) × (ws : List (List ℕ)) × (words ≡ w ∷ desc ∷ ws)
names-words words desc (inl c) = (_, _, c.words_are)
names-words words desc (inr (inl l)) = (_, _, l.words_are)
names-words words desc (inr (inr p)) = let a = asks-words words desc p.0 p.1 p.2 in (_, _, a.2)

pub same-desc : (words : List (List ℕ)) (desc desc' : List ℕ) → NamesDescription words desc → NamesDescription words desc' → desc ≡ desc'
same-desc words desc desc' n m = let a = names-words words desc n in let b = names-words words desc' m in second-of words a.0 desc a.1 b.0 desc' b.1 a.2 b.2

-- the description and the trace that a command's words name
pub trace-asked : (words : List (String Global)) (c : Command) (asked : Asked) (w : String Global) (name trace : List ℕ) → Spells (texts_of words) c → AsksOfTrace c asked → NamesDescription (texts_of words) name → w ≡ get_or words 2 w → trace ≡ string_bytes w → AsksFor (texts_of words) name trace asked
trace-asked words c asked w name trace s a named e n =
    let t = asks-of (texts_of words) c asked s a in
    let u : AsksFor (texts_of words) t.0 trace asked = subst (λ x. AsksFor (texts_of words) t.0 x asked) (sym n) (third-named words t.0 t.1 asked w t.2 e) in
    subst (λ x. AsksFor (texts_of words) x trace asked) (same-desc (texts_of words) t.0 name (inr (inr (trace, asked, u))) named) u

same-trace : (words : List (List ℕ)) (desc trace desc' trace' : List ℕ) (o o' : Asked) → AsksFor words desc trace o → AsksFor words desc' trace' o' → trace ≡ trace'
same-trace words desc trace desc' trace' o o' p q =
    let a = asks-words words desc trace o p in
    let b = asks-words words desc' trace' o' q in
    let e = sym a.2 ∙ b.2 in cc

-- words are one command
check-or-traced : (words : List (List ℕ)) (desc desc' trace : List ℕ) (o : Asked) → IsCheck words desc → AsksFor words desc' trace o → ⊥
check-or-traced words desc desc' trace _ c (to_play o p) = let e = sym c.words_are ∙ p.words_are in cc
check-or-traced words desc desc' trace _ c (to_run n p) = let e = sym c.words_are ∙ p.words_are in cc

layout-or-traced : (words : List (List ℕ)) (desc desc' trace : List ℕ) (o : Asked) → IsLayout words desc → AsksFor words desc' trace o → ⊥
layout-or-traced words desc desc' trace _ l (to_play o p) = let e = sym l.words_are ∙ p.words_are in cc
layout-or-traced words desc desc' trace _ l (to_run n p) = let e = sym l.words_are ∙ p.words_are in cc

check-or-layout : (words : List (List ℕ)) (desc desc' : List ℕ) → IsCheck words desc → IsLayout words desc' → ⊥
check-or-layout words desc desc' c l = let e = sym c.words_are ∙ l.words_are in cc

-- the same words have the same options
same-options : (words : List (List ℕ)) (desc trace desc' trace' : List ℕ) (o o' : Options) → IsPlay words desc trace o → IsPlay words desc' trace' o' → o ≡ o'
same-options words desc trace desc' trace' o o' p q = let e = same-command words (Do.Play o) (Do.Play o') (desc, trace, p) (desc', trace', q) in cc

same-limit : (words : List (List ℕ)) (desc trace desc' trace' : List ℕ) (n n' : Option ℕ) → IsRun words desc trace n → IsRun words desc' trace' n' → n ≡ n'
same-limit words desc trace desc' trace' n n' p q = let e = same-command words (Do.Run n) (Do.Run n') (desc, trace, p) (desc', trace', q) in cc

-- what the same words ask for
play-or-run : (words : List (List ℕ)) (more less : List (List ℕ)) → words ≡ codes "play" ∷ more → words ≡ codes "run" ∷ less → ⊥
play-or-run words more less e f = let g = sym e ∙ f in cc

same-asked : (words : List (List ℕ)) (desc trace desc' trace' : List ℕ) (a b : Asked) → AsksFor words desc trace a → AsksFor words desc' trace' b → (plan : Plan) (t : Trace) → asked_on plan t a ≡ asked_on plan t b
same-asked words desc trace desc' trace' _ _ (to_play o p) (to_play o' q) plan t = ap (λ (x : Options). Play plan t (Show.Report x)) (same-options words desc trace desc' trace' o o' p q)
same-asked words desc trace desc' trace' _ _ (to_play o p) (to_run n q) plan t = absurd (play-or-run words _ _ p.words_are q.words_are)
same-asked words desc trace desc' trace' _ _ (to_run n p) (to_play o q) plan t = absurd (play-or-run words _ _ q.words_are p.words_are)
same-asked words desc trace desc' trace' _ _ (to_run n p) (to_run n' q) plan t = ap (λ (x : Option ℕ). Run plan t x) (same-limit words desc trace desc' trace' n n' p q)

long-or-short : (xs : List ℕ) → 16777216 < length xs → length xs ≤ 16777216 → ⊥
long-or-short xs long short = omega arith

-- there is one least bad line
bad-once-line : (plan : Plan) (bytes : List ℕ) (l m : ℕ) (h : IsLeastBadLine plan bytes l) (i : IsLeastBadLine plan bytes m) → h.at < i.at → ⊥
bad-once-line plan bytes l m h i lt = let e = h.bad in let f = i.before h.at lt in cc

same-line : (plan : Plan) (bytes : List ℕ) (l m : ℕ) → IsLeastBadLine plan bytes l → IsLeastBadLine plan bytes m → l ≡ m
same-line plan bytes l m h i = elim (cases_lt h.at i.at) [
  | inl lt ↦ absurd (bad-once-line plan bytes l m h i lt)
  | inr ge ↦ elim (cases_lt i.at h.at) [ inl lt ↦ absurd (bad-once-line plan bytes m l i h lt) | inr le ↦ omega (arith, h.counted, i.counted) ]
]

good-or-bad : (plan : Plan) (bytes : List ℕ) (l : ℕ) → HasNoBadLine plan bytes → IsLeastBadLine plan bytes l → ⊥
good-or-bad plan bytes l h i = let e = i.bad in let f = h i.at in cc

-- what is said of a bad line
abbrev pub says_bad : ℕ → Decision
says_bad line = Say (Ended.BadTrace line) (bad_trace_text line)

-- what the bytes of a trace decide
one-trace : (plan : Plan) (o o' : Asked) → ((t : Trace) → asked_on plan t o ≡ asked_on plan t o') → (bytes : List ℕ) (d d' : Decision) → TraceDecides plan o bytes d → TraceDecides plan o' bytes d' → d ≡ d'
one-trace plan o o' same bytes _ _ (long_trace l) (long_trace m) = refl
one-trace plan o o' same bytes _ _ (long_trace l) (bad_trace k m b) = absurd (long-or-short bytes l m)
one-trace plan o o' same bytes _ _ (long_trace l) (good_trace m g) = absurd (long-or-short bytes l m)
one-trace plan o o' same bytes _ _ (bad_trace k l b) (long_trace m) = absurd (long-or-short bytes m l)
one-trace plan o o' same bytes _ _ (bad_trace k l b) (bad_trace k' m b') = ap says_bad (same-line plan bytes k k' b b')
one-trace plan o o' same bytes _ _ (bad_trace k l b) (good_trace m g) = absurd (good-or-bad plan bytes k g b)
one-trace plan o o' same bytes _ _ (good_trace l g) (long_trace m) = absurd (long-or-short bytes m l)
one-trace plan o o' same bytes _ _ (good_trace l g) (bad_trace k m b) = absurd (good-or-bad plan bytes k g b)
one-trace plan o o' same bytes _ _ (good_trace l g) (good_trace m g') = same _

-- what the bytes of a description decide, where what a plan decides is the same
one-text : (P Q : Plan → Decision → Type 0) → ((plan : Plan) (d d' : Decision) → P plan d → Q plan d' → d ≡ d') → (bytes : List ℕ) (d d' : Decision)
    → TextDecides P bytes d → TextDecides Q bytes d' → d ≡ d'
one-text P Q one bytes _ _ (long_description l) (long_description m) = refl
one-text P Q one bytes _ _ (long_description l) (refused r m i) = absurd (long-or-short bytes l m)
one-text P Q one bytes _ _ (long_description l) (accepted p d m i q) = absurd (long-or-short bytes l m)
one-text P Q one bytes _ _ (refused r l h) (long_description m) = absurd (long-or-short bytes m l)
one-text P Q one bytes _ _ (refused r l h) (refused r' m i) = ap refuses (same-refused bytes r r' h i)
one-text P Q one bytes _ _ (refused r l h) (accepted p d m i q) = absurd (accepted-or-refused bytes p r i h)
one-text P Q one bytes _ _ (accepted p d l h q) (long_description m) = absurd (long-or-short bytes m l)
one-text P Q one bytes _ _ (accepted p d l h q) (refused r m i) = absurd (accepted-or-refused bytes p r h i)
one-text P Q one bytes _ _ (accepted p d l h q) (accepted p' d' m i q') =
    one p' d d' (subst (λ x. P x d) (same-accepted bytes p p' h i) q) q'

-- no words are `gen` and another command
pub gen-or-named : (words : List (List ℕ)) (n : ℕ) (desc : List ℕ) → IsGen words n → NamesDescription words desc → ⊥
gen-or-named words n desc g (inl c) = let e = sym g.words_are ∙ c.words_are in cc
gen-or-named words n desc g (inr (inl l)) = let e = sym g.words_are ∙ l.words_are in cc
gen-or-named words n desc g (inr (inr p)) = gen-or-traced p.1 p.2 where
  gen-or-traced : (asked : Asked) → AsksFor words desc p.0 asked → ⊥
  gen-or-traced _ (to_play o q) = let e = sym g.words_are ∙ q.words_are in cc
  gen-or-traced _ (to_run m q) = run-or-gen words _ _ q.words_are g.words_are

gen-same : (words : List (List ℕ)) (n m : ℕ) → IsGen words n → IsGen words m → n ≡ m
gen-same words n m g h =
    let e = sym g.words_are ∙ h.words_are in
    let same : decimal n ≡ decimal m = cc in
    decimal_injective n m g.small h.small same

-- words that ask for something of one text are a command that names no description
abbrev pub command_alone : Alone → Command
command_alone (Only.Bus schedule) = Do.I2c schedule
command_alone (Only.Switch schedule) = Do.Switch schedule

spells-alone : (words : List (List ℕ)) (trace : List ℕ) (a : Alone) → AsksAlone words trace a → Spells words (command_alone a)
spells-alone words trace (Only.Bus schedule) w = (trace, w)
spells-alone words trace (Only.Switch schedule) w = (trace, w)

pub alone-spell : (words : List (List ℕ)) (trace : List ℕ) (a : Alone) → AsksAlone words trace a → (command : Command) × Spells words command
alone-spell words trace a w = (command_alone a, spells-alone words trace a w)

alone-words : (words : List (List ℕ)) (trace : List ℕ) (a : Alone) → AsksAlone words trace a → (w : List ℕ) × (ws : List (List ℕ)) × (words ≡ w ∷ trace ∷ ws)
alone-words words trace (Only.Bus schedule) w = (_, _, w.words_are)
alone-words words trace (Only.Switch schedule) w = (_, _, w.words_are)

-- the text that is named alone
pub same-alone : (words : List (List ℕ)) (trace trace' : List ℕ) (a a' : Alone) → AsksAlone words trace a → AsksAlone words trace' a' → trace ≡ trace'
same-alone words trace trace' a a' w w' = let p = alone-words words trace a w in let q = alone-words words trace' a' w' in second-of words p.0 trace p.1 q.0 trace' q.1 p.2 q.2

-- words spell one command
pub one-command : (words : List (List ℕ)) (c d : Command) → Spells words c → Spells words d → c ≡ d
one-command words c d s t = let e = same-command words c d s t in cc

no-description : (a : Alone) → HasDescription (command_alone a) → ⊥
no-description (Only.Bus schedule) h = h
no-description (Only.Switch schedule) h = h

described-command : (words : List (List ℕ)) (desc : List ℕ) → NamesDescription words desc → (command : Command) × HasDescription command × Spells words command
described-command words desc (inl c) = (Do.Check, tt, (desc, c))
described-command words desc (inr (inl l)) = (Do.Layout, tt, (desc, l))
described-command words desc (inr (inr p)) = by p.1 p.2
  where
    by : (asked : Asked) → AsksFor words desc p.0 asked → (command : Command) × HasDescription command × Spells words command
    by _ (to_play o q) = (Do.Play o, tt, (desc, p.0, q))
    by _ (to_run n q) = (Do.Run n, tt, (desc, p.0, q))

pub alone-or-named : (words : List (List ℕ)) (trace desc : List ℕ) (a : Alone) → AsksAlone words trace a → NamesDescription words desc → ⊥
alone-or-named words trace desc a w n =
    let d = described-command words desc n in
    no-description a (subst (λ (c : Command). HasDescription c) (one-command words d.0 (command_alone a) d.2 (spells-alone words trace a w)) d.1)

gen-not-alone : (n : ℕ) (a : Alone) → Do.Gen n ≡ command_alone a → ⊥
gen-not-alone n (Only.Bus schedule) e = cc
gen-not-alone n (Only.Switch schedule) e = cc

pub gen-or-alone : (words : List (List ℕ)) (n : ℕ) (trace : List ℕ) (a : Alone) → IsGen words n → AsksAlone words trace a → ⊥
gen-or-alone words n trace a g w = gen-not-alone n a (one-command words (Do.Gen n) (command_alone a) g (spells-alone words trace a w))

alone-once : (a a' : Alone) → command_alone a ≡ command_alone a' → a ≡ a'
alone-once (Only.Bus s) (Only.Bus s') e = let f : s ≡ s' = cc in ap (λ (x : Schedule). Only.Bus x) f
alone-once (Only.Bus s) (Only.Switch s') e = cc
alone-once (Only.Switch s) (Only.Bus s') e = cc
alone-once (Only.Switch s) (Only.Switch s') e = let f : s ≡ s' = cc in ap (λ (x : Schedule). Only.Switch x) f

asked-alone : (words : List (List ℕ)) (trace trace' : List ℕ) (a a' : Alone) → AsksAlone words trace a → AsksAlone words trace' a' → a ≡ a'
asked-alone words trace trace' a a' w w' = alone-once a a' (one-command words (command_alone a) (command_alone a') (spells-alone words trace a w) (spells-alone words trace' a' w'))

-- there is one least bad line of a bus, and of the ports of a switch
bad-once-bus : (bytes : List ℕ) (l m : ℕ) (h : IsLeastBadBusLine bytes l) (i : IsLeastBadBusLine bytes m) → h.at < i.at → ⊥
bad-once-bus bytes l m h i lt = let e = h.bad in let f = i.before h.at lt in cc

same-bus-line : (bytes : List ℕ) (l m : ℕ) → IsLeastBadBusLine bytes l → IsLeastBadBusLine bytes m → l ≡ m
same-bus-line bytes l m h i = elim (cases_lt h.at i.at) [
  | inl lt ↦ absurd (bad-once-bus bytes l m h i lt)
  | inr ge ↦ elim (cases_lt i.at h.at) [ inl lt ↦ absurd (bad-once-bus bytes m l i h lt) | inr le ↦ omega (arith, h.counted, i.counted) ]
]

good-or-bad-bus : (bytes : List ℕ) (l : ℕ) → HasNoBadBusLine bytes → IsLeastBadBusLine bytes l → ⊥
good-or-bad-bus bytes l h i = let e = i.bad in let f = h i.at in cc

bad-once-port : (bytes : List ℕ) (l m : ℕ) (h : IsLeastBadPortLine bytes l) (i : IsLeastBadPortLine bytes m) → h.at < i.at → ⊥
bad-once-port bytes l m h i lt = let e = h.bad in let f = i.before h.at lt in cc

same-port-line : (bytes : List ℕ) (l m : ℕ) → IsLeastBadPortLine bytes l → IsLeastBadPortLine bytes m → l ≡ m
same-port-line bytes l m h i = elim (cases_lt h.at i.at) [
  | inl lt ↦ absurd (bad-once-port bytes l m h i lt)
  | inr ge ↦ elim (cases_lt i.at h.at) [ inl lt ↦ absurd (bad-once-port bytes m l i h lt) | inr le ↦ omega (arith, h.counted, i.counted) ]
]

good-or-bad-port : (bytes : List ℕ) (l : ℕ) → HasNoBadPortLine bytes → IsLeastBadPortLine bytes l → ⊥
good-or-bad-port bytes l h i = let e = i.bad in let f = h i.at in cc

-- what the bytes of a text that is named alone decide
module _ (Good : List ℕ → Type 0) (Bad : List ℕ → ℕ → Type 0) (once : (bytes : List ℕ) (l m : ℕ) → Bad bytes l → Bad bytes m → l ≡ m) (apart : (bytes : List ℕ) (l : ℕ) → Good bytes → Bad bytes l → ⊥) (play : List ℕ → Decision) where
  one-text-alone : (bytes : List ℕ) (d d' : Decision) → OneTextDecides Good Bad play bytes d → OneTextDecides Good Bad play bytes d' → d ≡ d'
  one-text-alone bytes _ _ (long_text_alone l) (long_text_alone m) = refl
  one-text-alone bytes _ _ (long_text_alone l) (bad_text k m b) = absurd (long-or-short bytes l m)
  one-text-alone bytes _ _ (long_text_alone l) (good_text m g) = absurd (long-or-short bytes l m)
  one-text-alone bytes _ _ (bad_text k l b) (long_text_alone m) = absurd (long-or-short bytes m l)
  one-text-alone bytes _ _ (bad_text k l b) (bad_text k' m b') = ap says_bad (once bytes k k' b b')
  one-text-alone bytes _ _ (bad_text k l b) (good_text m g) = absurd (apart bytes k g b)
  one-text-alone bytes _ _ (good_text l g) (long_text_alone m) = absurd (long-or-short bytes m l)
  one-text-alone bytes _ _ (good_text l g) (bad_text k m b) = absurd (apart bytes k g b)
  one-text-alone bytes _ _ (good_text l g) (good_text m g') = refl

one-alone : (a : Alone) (bytes : List ℕ) (d d' : Decision) → AloneDecides a bytes d → AloneDecides a bytes d' → d ≡ d'
one-alone (Only.Bus schedule) bytes d d' h i = one-text-alone HasNoBadBusLine IsLeastBadBusLine same-bus-line good-or-bad-bus (bus_played schedule) bytes d d' h i
one-alone (Only.Switch schedule) bytes d d' h i = one-text-alone HasNoBadPortLine IsLeastBadPortLine same-port-line good-or-bad-port (ports_played schedule) bytes d d' h i

-- two tellings of what was read agree
module _ (R S : List ℕ → List ℕ → Type 0) (same : (name a b : List ℕ) → R name a → S name b → a ≡ b) (words : List (List ℕ)) where
  -- what the words decide for a plan
  one-plan : (plan : Plan) (d d' : Decision) → PlanDecides R words plan d → PlanDecides S words plan d' → d ≡ d'
  one-plan plan _ _ (checked desc c) (checked desc' c') = refl
  one-plan plan _ _ (checked desc c) (laid_out desc' l') = absurd (check-or-layout words desc desc' c l')
  one-plan plan _ _ (checked desc c) (traced desc' trace' bytes' o' d' p' r' t') = absurd (check-or-traced words desc desc' trace' o' c p')
  one-plan plan _ _ (laid_out desc l) (checked desc' c') = absurd (check-or-layout words desc' desc c' l)
  one-plan plan _ _ (laid_out desc l) (laid_out desc' l') = refl
  one-plan plan _ _ (laid_out desc l) (traced desc' trace' bytes' o' d' p' r' t') = absurd (layout-or-traced words desc desc' trace' o' l p')
  one-plan plan _ _ (traced desc trace bytes o d p r t) (checked desc' c') = absurd (check-or-traced words desc' desc trace o c' p)
  one-plan plan _ _ (traced desc trace bytes o d p r t) (laid_out desc' l') = absurd (layout-or-traced words desc' desc trace o l' p)
  one-plan plan _ _ (traced desc trace bytes o d p r t) (traced desc' trace' bytes' o' d' p' r' t') =
      let b : bytes ≡ bytes' = same trace' bytes bytes' (subst (λ n. R n bytes) (same-trace words desc trace desc' trace' o o' p p') r) r' in
      one-trace plan o o' (λ t. same-asked words desc trace desc' trace' o o' p p' plan t) bytes' d d' (subst (λ x. TraceDecides plan o x d) b t) t'

  -- what the words and the texts under their names decide
  pub one-decision : (d d' : Decision) → Decides R words d → Decides S words d' → d ≡ d'
  one-decision _ _ (no_command k h) (no_command l i) = ap (λ (n : ℕ). Say (Ended.Usage n) (usage_text n)) (bad-same words k l h i)
  one-decision _ _ (no_command k h) (described desc bytes d n r t) = let s = names-spell words desc n in absurd (bad-none words k s.0 h s.1)
  one-decision _ _ (described desc bytes d n r t) (no_command k h) = let s = names-spell words desc n in absurd (bad-none words k s.0 h s.1)
  one-decision _ _ (described desc bytes d n r t) (described desc' bytes' d' n' r' t') =
      let b : bytes ≡ bytes' = same desc' bytes bytes' (subst (λ x. R x bytes) (same-desc words desc desc' n n') r) r' in
      one-text (PlanDecides R words) (PlanDecides S words) one-plan bytes' d d' (subst (λ x. TextDecides (PlanDecides R words) x d) b t) t'
  one-decision _ _ (no_command k h) (generated n d g t) = absurd (bad-none words k (Do.Gen n) h g)
  one-decision _ _ (generated n d g t) (no_command k h) = absurd (bad-none words k (Do.Gen n) h g)
  one-decision _ _ (described desc bytes d n r t) (generated m d' g t') = absurd (gen-or-named words m desc g n)
  one-decision _ _ (generated m d g t) (described desc bytes d' n r t') = absurd (gen-or-named words m desc g n)
  one-decision _ _ (generated n d g t) (generated m d' g' t') =
      one-text (GeneratedDecides m) (GeneratedDecides m) (λ plan e e' a b. one-trace plan (Ask.Play Show.Summary) (Ask.Play Show.Summary) (λ t. refl) (generated_text m) e e' a b) FULL_EXAMPLE.now d d'
      (subst (λ k. TextDecides (GeneratedDecides k) FULL_EXAMPLE.now d) (gen-same words n m g g') t) t'
  one-decision _ _ (alone trace bytes a d w r t) (no_command k h) = let s = alone-spell words trace a w in absurd (bad-none words k s.0 h s.1)
  one-decision _ _ (no_command k h) (alone trace bytes a d w r t) = let s = alone-spell words trace a w in absurd (bad-none words k s.0 h s.1)
  one-decision _ _ (alone trace bytes a d w r t) (described desc bytes' d' n r' t') = absurd (alone-or-named words trace desc a w n)
  one-decision _ _ (described desc bytes' d' n r' t') (alone trace bytes a d w r t) = absurd (alone-or-named words trace desc a w n)
  one-decision _ _ (alone trace bytes a d w r t) (generated m d' g t') = absurd (gen-or-alone words m trace a g w)
  one-decision _ _ (generated m d' g t') (alone trace bytes a d w r t) = absurd (gen-or-alone words m trace a g w)
  one-decision _ _ (alone trace bytes a d w r t) (alone trace' bytes' a' d' w' r' t') =
      let b : bytes ≡ bytes' = same trace' bytes bytes' (subst (λ x. R x bytes) (same-alone words trace trace' a a' w w') r) r' in
      let k : a ≡ a' = asked-alone words trace trace' a a' w w' in
      one-alone a' bytes' d d' (subst (λ x. AloneDecides x bytes' d) k (subst (λ x. AloneDecides a x d) b t)) t'

-- what is decided where a text was read as it was before
pub plan-read : (R S : List ℕ → List ℕ → Type 0) → ((name bytes : List ℕ) → R name bytes → S name bytes) → (words : List (List ℕ)) (plan : Plan) (d : Decision)
    → PlanDecides R words plan d → PlanDecides S words plan d
plan-read R S m words plan _ (checked desc c) = checked desc c
plan-read R S m words plan _ (laid_out desc l) = laid_out desc l
plan-read R S m words plan _ (traced desc trace bytes o d p r t) = traced desc trace bytes o d p (m trace bytes r) t

pub text-read : (P Q : Plan → Decision → Type 0) → ((plan : Plan) (d : Decision) → P plan d → Q plan d) → (bytes : List ℕ) (d : Decision)
    → TextDecides P bytes d → TextDecides Q bytes d
text-read P Q m bytes _ (long_description l) = long_description l
text-read P Q m bytes _ (refused r l h) = refused r l h
text-read P Q m bytes _ (accepted p d l h q) = accepted p d l h (m p d q)

-- texts that didn't change are read as before
pub read-before : (told told' : List ℕ → Option (List ℕ)) → ((n : List ℕ) → told' n ≡ told n) → (name bytes : List ℕ) → WasRead told' name bytes → WasRead told name bytes
read-before told told' same name bytes r = rw (same name) at r

-- what a command says of a plan without a trace is what its words decide
plan-said : (R : List ℕ → List ℕ → Type 0) (words : List (List ℕ)) (command : Command) (plan : Plan) (d : Decision) → Spells words command → PlanSays command plan d → PlanDecides R words plan d
plan-said R words command plan _ s (says_accepted e) = let t : Spells words Do.Check = subst (λ (c : Command). Spells words c) e s in checked t.0 t.1
plan-said R words command plan _ s (says_layout e) = let t : Spells words Do.Layout = subst (λ (c : Command). Spells words c) e s in laid_out t.0 t.1

pub said-decides : (R : List ℕ → List ℕ → Type 0) (words : List (List ℕ)) (command : Command) (bytes : List ℕ) (d : Decision) → Spells words command → TextDecides (PlanSays command) bytes d → TextDecides (PlanDecides R words) bytes d
said-decides R words command bytes d s h = text-read (PlanSays command) (PlanDecides R words) (λ plan e k. plan-said R words command plan e s k) bytes d h

-- what holds of what was decided holds in another form
pub map-ok : {T E : Type 0} (r : Result T E) (P Q : T → Type 0) → ((x : T) → P x → Q x) → IfOk r P → IfOk r Q
map-ok (Ok x) P Q m h = m x h
map-ok (Err e) P Q m h = tt
