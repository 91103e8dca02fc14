-- A reply that was decided is no fault of reading.
use Rattle.std.proofs.Common.{◌≡◌, inl, inr, ℕ, Bool, true, false, List, ◌∷◌}
use Rattle.sdf_plan.specs.declared.plan.Plan.{Plan}
use Rattle.trace_text.specs.declared.trace.Trace.{Trace}
use Rattle.decision_core.specs.declared.showing.Asked.{Asked}
use Rattle.decision_core.specs.declared.showing.Asked.TheVariants as Ask
use Rattle.decision_core.specs.declared.showing.Alone.{Alone}
use Rattle.decision_core.specs.declared.showing.Alone.TheVariants as Only
use Rattle.std.specs.Prelude.{codes}
use Rattle.decision_core.specs.declared.status.Status.{Status}
use Rattle.decision_core.specs.declared.status.Status.TheVariants as Ended
use Rattle.decision_core.specs.Decisions.{Decision, Say, Play, Run, PlayBus, PlayPorts, OneTextDecides, long_text_alone, bad_text, good_text, AloneDecides, AsksAlone, alone, asked_on, Decides, TextDecides, PlanDecides, TraceDecides, GeneratedDecides, long_trace, bad_trace, good_trace, checked, laid_out, traced, long_description, refused as refused_text, accepted, no_command, described, generated}
use Rattle.decision_core.specs.declared.deciding.Decided.{Decided}
use Rattle.decision_core.specs.declared.deciding.Decided.TheVariants as Kept
use Rattle.decision_core.specs.Decided.{decision_of, IsPlayable}
use Rattle.command_words.specs.declared.play_words.ask.Drawing.{Drawing}
use Rattle.view_plays.specs.Deciding.{IsOnPlan, Answered, Drawn, Refused, DrawsPlay, no_drawing, refused, drawn, IsDrawnOf, drawn_of, ending_of}
use Rattle.view_plays.specs.Viewed.{EndsFor}

-- a decision says no fault of reading
abbrev Says : Decision → Type 0
Says (Say status text) = status ≡ Ended.ReadFault → ⊥
Says (Play p t o) = Unit {0}
Says (Run p t n) = Unit {0}
Says (PlayBus b s) = Unit {0}
Says (PlayPorts p s) = Unit {0}

-- a decision is of a plan: it is no bus and no switch
abbrev pub OfPlan : Decision → Type 0
OfPlan (Say status text) = Unit {0}
OfPlan (Play p t o) = Unit {0}
OfPlan (Run p t n) = Unit {0}
OfPlan (PlayBus b s) = ⊥
OfPlan (PlayPorts p s) = ⊥

asked-says : (p : Plan) (t : Trace) (a : Asked) → Says (asked_on p t a)
asked-says p t (Ask.Play o) = tt
asked-says p t (Ask.Run n) = tt

trace-says : (p : Plan) (a : Asked) (bytes : List ℕ) (d : Decision) → TraceDecides p a bytes d → Says d
trace-says p a bytes _ (long_trace l) = λ e. cc e
trace-says p a bytes _ (bad_trace k l b) = λ e. cc e
trace-says p a bytes _ (good_trace l g) = asked-says p _ a

plan-says : (R : List ℕ → List ℕ → Type 0) (words : List (List ℕ)) (p : Plan) (d : Decision) → PlanDecides R words p d → Says d
plan-says R words p _ (checked desc c) = λ e. cc e
plan-says R words p _ (laid_out desc l) = λ e. cc e
plan-says R words p _ (traced desc trace bytes a d w r t) = trace-says p a bytes d t

text-says : (P : Plan → Decision → Type 0) → ((p : Plan) (d : Decision) → P p d → Says d) → (bytes : List ℕ) (d : Decision) → TextDecides P bytes d → Says d
text-says P s bytes _ (long_description l) = λ e. cc e
text-says P s bytes _ (refused_text r l i) = λ e. cc e
text-says P s bytes _ (accepted p d l i q) = s p d q

one-says : (Good : List ℕ → Type 0) (Bad : List ℕ → ℕ → Type 0) (play : List ℕ → Decision) → ((bytes : List ℕ) → Says (play bytes)) → (bytes : List ℕ) (d : Decision) → OneTextDecides Good Bad play bytes d → Says d
one-says Good Bad play s bytes _ (long_text_alone l) = λ e. cc e
one-says Good Bad play s bytes _ (bad_text line l b) = λ e. cc e
one-says Good Bad play s bytes _ (good_text l g) = s bytes

alone-says : (a : Alone) (bytes : List ℕ) (d : Decision) → AloneDecides a bytes d → Says d
alone-says (Only.Bus s) bytes d h = one-says _ _ _ (λ b. tt) bytes d h
alone-says (Only.Switch s) bytes d h = one-says _ _ _ (λ b. tt) bytes d h

decision-says : (R : List ℕ → List ℕ → Type 0) (words : List (List ℕ)) (d : Decision) → Decides R words d → Says d
decision-says R words _ (no_command k b) = λ e. cc e
decision-says R words _ (described desc bytes d n r t) = text-says (PlanDecides R words) (plan-says R words) bytes d t
decision-says R words _ (alone trace bytes a d w r t) = alone-says a bytes d t
decision-says R words _ (generated n d g t) = text-says (GeneratedDecides n) (λ p e q. trace-says p _ _ e q) _ d t

-- no word of a play asks for a bus or a switch
asked-of-plan : (p : Plan) (t : Trace) (a : Asked) → OfPlan (asked_on p t a)
asked-of-plan p t (Ask.Play o) = tt
asked-of-plan p t (Ask.Run n) = tt

trace-of-plan : (p : Plan) (a : Asked) (bytes : List ℕ) (d : Decision) → TraceDecides p a bytes d → OfPlan d
trace-of-plan p a bytes _ (long_trace l) = tt
trace-of-plan p a bytes _ (bad_trace k l b) = tt
trace-of-plan p a bytes _ (good_trace l g) = asked-of-plan p _ a

plan-of-plan : (R : List ℕ → List ℕ → Type 0) (words : List (List ℕ)) (p : Plan) (d : Decision) → PlanDecides R words p d → OfPlan d
plan-of-plan R words p _ (checked desc c) = tt
plan-of-plan R words p _ (laid_out desc l) = tt
plan-of-plan R words p _ (traced desc trace bytes a d w r t) = trace-of-plan p a bytes d t

text-of-plan : (P : Plan → Decision → Type 0) → ((p : Plan) (d : Decision) → P p d → OfPlan d) → (bytes : List ℕ) (d : Decision) → TextDecides P bytes d → OfPlan d
text-of-plan P s bytes _ (long_description l) = tt
text-of-plan P s bytes _ (refused_text r l i) = tt
text-of-plan P s bytes _ (accepted p d l i q) = s p d q

no-alone : (rest : List (List ℕ)) (words : List (List ℕ)) (trace : List ℕ) (a : Alone) → words ≡ codes "play" ∷ rest → AsksAlone words trace a → ⊥
no-alone rest words trace (Only.Bus s) e h = let f = h.words_are in cc (e, f)
no-alone rest words trace (Only.Switch s) e h = let f = h.words_are in cc (e, f)

pub of-plan : (R : List ℕ → List ℕ → Type 0) (rest words : List (List ℕ)) (d : Decision) → words ≡ codes "play" ∷ rest → Decides R words d → OfPlan d
of-plan R rest words _ e (no_command k b) = tt
of-plan R rest words _ e (described desc bytes d n r t) = text-of-plan (PlanDecides R words) (plan-of-plan R words) bytes d t
of-plan R rest words _ e (generated n d g t) = text-of-plan (GeneratedDecides n) (λ p f q. trace-of-plan p _ _ f q) _ d t
of-plan R rest words _ e (alone trace bytes a d w r t) = absurd (no-alone rest words trace a e w)

-- an answer is no fault of reading
abbrev NoFault : Answered → Type 0
NoFault (Drawn status text) = status ≡ Ended.ReadFault → ⊥
NoFault (Refused status line) = status ≡ Ended.ReadFault → ⊥

ending-calm : (quiet : Bool) (steps : ℕ) → ending_of quiet steps ≡ Ended.ReadFault → ⊥
ending-calm true steps e = cc e
ending-calm false steps e = cc e

drawn-calm : (plan : Plan) (trace : Trace) (drawing : Drawing) (a : Answered) → IsDrawnOf plan trace drawing a → NoFault a
drawn-calm plan trace drawing _ (drawn_of shown p q) = ending-calm _ _

decided-calm : (reads : List ℕ → List ℕ → Type 0) (words : List (List ℕ)) (a : Answered) → DrawsPlay reads words a → NoFault a
decided-calm reads words _ (no_drawing k h) = λ e. cc e
decided-calm reads words _ (refused drawing status line s d) = decision-says reads _ _ d
decided-calm reads words _ (drawn drawing plan trace asked a s d h) = drawn-calm plan trace drawing a h

ends-calm : (a : Answered) (status : Status) → NoFault a → EndsFor a status → status ≡ Ended.ReadFault → ⊥
ends-calm (Drawn why text) status n (inl e) f = n (cc (e, f))
ends-calm (Drawn why text) status n (inr e) f = cc (e, f)
ends-calm (Refused why line) status n (inl e) f = n (cc (e, f))
ends-calm (Refused why line) status n (inr e) f = cc (e, f)

pub answered-calm : (reads : List ℕ → List ℕ → Type 0) (words : List (List ℕ)) (a : Answered) (status : Status) → DrawsPlay reads words a → EndsFor a status → status ≡ Ended.ReadFault → ⊥
answered-calm reads words a status h e f = ends-calm a status (decided-calm reads words a h) e f

pub on-plan : (d : Decided) → OfPlan (decision_of d) → IsPlayable d → IsOnPlan d
on-plan (Kept.Say status line) o p = tt
on-plan (Kept.Go plan trace asked) o p = p
on-plan (Kept.Bus bus schedule) o p = absurd o
on-plan (Kept.Ports ports schedule) o p = absurd o
