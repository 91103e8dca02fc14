use Rattle.std.proofs.Common.{◌≡◌, ℕ, List, refl, ap}
use Rattle.std.specs.Prelude.{slice_get}
use Rattle.sdf_plan.specs.declared.plan.Plan.{Plan}
use Rattle.trace_text.specs.declared.trace.Trace.{Trace}
use Rattle.trace_text.specs.Traces.{IsReadFor}
use Rattle.command_words.specs.Words.{BeginsRun}
use Rattle.decision_core.specs.declared.deciding.Decided.{Decided}
use Rattle.decision_core.specs.declared.deciding.Decided.TheVariants as Is
use Rattle.decision_core.specs.declared.showing.Asked.{Asked}
use Rattle.decision_core.specs.declared.showing.Asked.TheVariants as Ask
use Rattle.decision_core.specs.declared.showing.Showing.TheVariants as Show
use Rattle.decision_core.specs.Judged.{IsAcceptedPlan}
use Rattle.decision_core.specs.Decided.{decision_of, IsSound, AsksToRun}
use Rattle.i2c_text.specs.Buses.{IsReadBus}
use Rattle.line_text.specs.PortsText.Given.{ArePorts}
use Rattle.decision_core.specs.declared.showing.Alone.{Alone}
use Rattle.decision_core.specs.declared.showing.Alone.TheVariants as Only
use Rattle.decision_core.specs.Decisions.{Decision, Say, Play, Run, PlayBus, PlayPorts, AloneDecides, long_text_alone, bad_text, good_text, alone as of_one_text, asked_on, AsksFor, to_play, to_run, Decides, TextDecides, PlanDecides, TraceDecides, GeneratedDecides, long_trace, bad_trace, good_trace, checked, laid_out, traced, long_description, refused, accepted, no_command, described, generated}

-- what a decision plays or runs is accepted, and read for its plan
abbrev pub Sound : Decision → Type 0
Sound (Say s x) = Unit {0}
Sound (Play p t o) = IsAcceptedPlan p × IsReadFor p t
Sound (Run p t n) = IsAcceptedPlan p × IsReadFor p t
Sound (PlayBus bus schedule) = IsReadBus bus
Sound (PlayPorts ports schedule) = ArePorts ports

sound-asked : (p : Plan) (t : Trace) (a : Asked) → IsAcceptedPlan p → IsReadFor p t → Sound (asked_on p t a)
sound-asked p t (Ask.Play o) h r = (h, r)
sound-asked p t (Ask.Run n) h r = (h, r)

trace-sound : (p : Plan) (a : Asked) (bytes : List ℕ) (d : Decision) → IsAcceptedPlan p → TraceDecides p a bytes d → Sound d
trace-sound p a bytes _ h (long_trace l) = tt
trace-sound p a bytes _ h (bad_trace k l b) = tt
trace-sound p a bytes _ h (good_trace l g) = sound-asked p _ a h (record { text = bytes; good = g; given = refl })

plan-sound : (R : List ℕ → List ℕ → Type 0) (words : List (List ℕ)) (p : Plan) (d : Decision) → IsAcceptedPlan p → PlanDecides R words p d → Sound d
plan-sound R words p _ h (checked desc c) = tt
plan-sound R words p _ h (laid_out desc l) = tt
plan-sound R words p _ h (traced desc trace bytes a d w r t) = trace-sound p a bytes d h t

text-sound : (P : Plan → Decision → Type 0) → ((p : Plan) (d : Decision) → IsAcceptedPlan p → P p d → Sound d) → (bytes : List ℕ) (d : Decision) → TextDecides P bytes d → Sound d
text-sound P s bytes _ (long_description l) = tt
text-sound P s bytes _ (refused r l i) = tt
text-sound P s bytes _ (accepted p d l i q) = s p d (bytes, i) q

alone-sound : (a : Alone) (bytes : List ℕ) (d : Decision) → AloneDecides a bytes d → Sound d
alone-sound (Only.Bus schedule) bytes _ (long_text_alone l) = tt
alone-sound (Only.Bus schedule) bytes _ (bad_text k l b) = tt
alone-sound (Only.Bus schedule) bytes _ (good_text l g) = record { text = bytes; good = g; given = refl }
alone-sound (Only.Switch schedule) bytes _ (long_text_alone l) = tt
alone-sound (Only.Switch schedule) bytes _ (bad_text k l b) = tt
alone-sound (Only.Switch schedule) bytes _ (good_text l g) = record { text = bytes; good = g; given = refl }

sound-decision : (R : List ℕ → List ℕ → Type 0) (words : List (List ℕ)) (d : Decision) → Decides R words d → Sound d
sound-decision R words _ (no_command k b) = tt
sound-decision R words _ (described desc bytes d n r t) = text-sound (PlanDecides R words) (plan-sound R words) bytes d t
sound-decision R words _ (of_one_text trace bytes a d w r t) = alone-sound a bytes d t
sound-decision R words _ (generated n d g t) = text-sound (GeneratedDecides n) (λ p e h q. trace-sound p (Ask.Play Show.Summary) _ e h q) _ d t

-- what is kept of it is sound
kept-sound : (p : Plan) (t : Trace) (a : Asked) → Sound (asked_on p t a) → IsAcceptedPlan p × IsReadFor p t
kept-sound p t (Ask.Play o) h = h
kept-sound p t (Ask.Run n) h = h

decided-sound : (d : Decided) → Sound (decision_of d) → IsSound d
decided-sound (Is.Say s x) h = tt
decided-sound (Is.Go p t a) h = kept-sound p t a h
decided-sound (Is.Bus bus schedule) h = h
decided-sound (Is.Ports ports schedule) h = h

pub sound : (R : List ℕ → List ℕ → Type 0) (words : List (List ℕ)) (d : Decided) → Decides R words (decision_of d) → IsSound d
sound R words d h = decided-sound d (sound-decision R words (decision_of d) h)

-- a run is decided for words alone whose first is `run`
abbrev pub IsRunning : Decision → Type 0
IsRunning (Say s x) = ⊥
IsRunning (Play p t o) = ⊥
IsRunning (Run p t n) = Unit {0}
IsRunning (PlayBus bus schedule) = ⊥
IsRunning (PlayPorts ports schedule) = ⊥

words-run : (words : List (List ℕ)) (desc trace : List ℕ) (a : Asked) (p : Plan) (t : Trace) → AsksFor words desc trace a → IsRunning (asked_on p t a) → BeginsRun words
words-run words desc trace _ p t (to_play o w) r = absurd r
words-run words desc trace _ p t (to_run n w) r = ap (λ (ws : List (List ℕ)). slice_get ws 0) w.words_are

trace-run : (words : List (List ℕ)) (p : Plan) (a : Asked) (bytes : List ℕ) (d : Decision) → ((t : Trace) → IsRunning (asked_on p t a) → BeginsRun words) → TraceDecides p a bytes d → IsRunning d → BeginsRun words
trace-run words p a bytes _ w (long_trace l) r = absurd r
trace-run words p a bytes _ w (bad_trace k l b) r = absurd r
trace-run words p a bytes _ w (good_trace l g) r = w _ r

plan-run : (R : List ℕ → List ℕ → Type 0) (words : List (List ℕ)) (p : Plan) (d : Decision) → PlanDecides R words p d → IsRunning d → BeginsRun words
plan-run R words p _ (checked desc c) r = absurd r
plan-run R words p _ (laid_out desc l) r = absurd r
plan-run R words p _ (traced desc trace bytes a d w i t) r = trace-run words p a bytes d (λ u. words-run words desc trace a p u w) t r

text-run : (words : List (List ℕ)) (P : Plan → Decision → Type 0) → ((p : Plan) (d : Decision) → P p d → IsRunning d → BeginsRun words) → (bytes : List ℕ) (d : Decision) → TextDecides P bytes d → IsRunning d → BeginsRun words
text-run words P w bytes _ (long_description l) r = absurd r
text-run words P w bytes _ (refused s l i) r = absurd r
text-run words P w bytes _ (accepted p d l i q) r = w p d q r

alone-run : (a : Alone) (bytes : List ℕ) (d : Decision) → AloneDecides a bytes d → IsRunning d → ⊥
alone-run (Only.Bus schedule) bytes _ (long_text_alone l) r = r
alone-run (Only.Bus schedule) bytes _ (bad_text k l b) r = r
alone-run (Only.Bus schedule) bytes _ (good_text l g) r = r
alone-run (Only.Switch schedule) bytes _ (long_text_alone l) r = r
alone-run (Only.Switch schedule) bytes _ (bad_text k l b) r = r
alone-run (Only.Switch schedule) bytes _ (good_text l g) r = r

decision-run : (R : List ℕ → List ℕ → Type 0) (words : List (List ℕ)) (d : Decision) → Decides R words d → IsRunning d → BeginsRun words
decision-run R words _ (no_command k b) r = absurd r
decision-run R words _ (described desc bytes d n i t) r = text-run words (PlanDecides R words) (plan-run R words) bytes d t r
decision-run R words _ (of_one_text trace bytes a d w i t) r = absurd (alone-run a bytes d t r)
decision-run R words _ (generated n d g t) r = text-run words (GeneratedDecides n) (λ p e q s. trace-run words p (Ask.Play Show.Summary) _ e (λ u f. absurd f) q s) _ d t r

kept-run : (d : Decided) → AsksToRun d → IsRunning (decision_of d)
kept-run (Is.Say s x) r = absurd r
kept-run (Is.Go p t (Ask.Play o)) r = absurd r
kept-run (Is.Go p t (Ask.Run n)) r = tt
kept-run (Is.Bus bus schedule) r = absurd r
kept-run (Is.Ports ports schedule) r = absurd r

pub alone : (R : List ℕ → List ℕ → Type 0) (words : List (List ℕ)) (d : Decided) → Decides R words (decision_of d) → (BeginsRun words → ⊥) → AsksToRun d → ⊥
alone R words d h other r = other (decision-run R words (decision_of d) h (kept-run d r))
