use Rattle.std.proofs.Common.{◌≡◌, ◌≤◌, ◌⊎◌, inl, inr, refl, ℕ, Bool, true, false, List, Option, sym, ◌∙◌, subst, Result, Ok, Err, IfOk}
use Rattle.sdf_plan.specs.declared.plan.Plan.{Plan}
use Rattle.trace_text.specs.declared.trace.Trace.{Trace}
use Rattle.system_core.specs.Reports.{report_of}
use Rattle.decision_core.specs.declared.showing.Showing.{Showing}
use Rattle.decision_core.specs.declared.showing.Asked.{Asked}
use Rattle.decision_core.specs.declared.showing.Asked.TheVariants as Ask
use Rattle.decision_core.specs.declared.showing.Showing.TheVariants as Show
use Rattle.decision_core.specs.declared.status.Status.{Status}
use Rattle.decision_core.specs.declared.status.Status.TheVariants as Ended
use Rattle.sddf_top.specs.declared.played.Played.{Played}
use Rattle.decision_core.specs.declared.showing.Alone.{Alone}
use Rattle.decision_core.specs.declared.showing.Alone.TheVariants as Only
use Rattle.decision_core.specs.Decisions.{Decision, Say, Play, Run, PlayBus, PlayPorts, AloneDecides, long_text_alone, bad_text, good_text, alone, asked_on, Decides, TextDecides, PlanDecides, TraceDecides, GeneratedDecides, long_trace, bad_trace, good_trace, checked, laid_out, traced, long_description, refused, accepted, no_command, described, generated, IsStatusOf}
use Rattle.sddf_top.specs.Shown.{ending_of}
use Rattle.sddf_top.specs.Answers.{Answers, Comes, Shows, ShowsRun, Serves, IsEnough, IsFault, no_reading, no_writing, no_memory}
use Rattle.decision_core.specs.ShelfCore.Reading.{WasRead, IsTold}
use Rattle.decision_core.specs.ShelfCore.Outside.{appended}
use Rattle.decision_core.proofs.DecisionLemmas.{one-decision, plan-read, text-read}

-- what was read of a told text is its bytes
pub told-same : (told : List ℕ → Option (List ℕ)) (name a b : List ℕ) → IsTold told name a → WasRead told name b → a ≡ b
told-same told name a b h r = h.2 ∙ sym (rw h.1 at r)

-- a play gets quiet or spends its steps
ending-status : (quiet : Bool) (steps : ℕ) (s : Status) → s ≡ ending_of quiet steps → (s ≡ Ended.Ok) ⊎ ((n : ℕ) × (s ≡ Ended.Spent n))
ending-status true steps s e = inl e
ending-status false steps s e = inr (steps, e)

play-status : (plan : Plan) (t : Trace) (o : Showing) (s : Status) (x : List ℕ) (p : Played) → Shows plan t o s x p → (s ≡ Ended.Ok) ⊎ ((n : ℕ) × (s ≡ Ended.Spent n))
play-status plan t o s x p h = ending-status (report_of h.system).quiet (report_of h.system).steps s h.status_is

run-status : (plan : Plan) (t : Trace) (n : Option ℕ) (s : Status) (x : List ℕ) (p : Played) → ShowsRun plan t n s x p → (s ≡ Ended.Ok) ⊎ ((n : ℕ) × (s ≡ Ended.Spent n))
run-status plan t n s x p h = ending-status (report_of h.system).quiet (report_of h.system).steps s h.status_is

-- an answer has a status to which its decision leads
pub come-status : (d : Decision) (s : Status) (x : List ℕ) (p : Played) → Comes d s x p → IsStatusOf d s
come-status (Say t y) s x p c = c.0
come-status (Play q u o) s x p c = play-status q u o s x p c
come-status (Run q u n) s x p c = run-status q u n s x p c
come-status (PlayBus bus schedule) s x p c = ending-status c.report.quiet c.report.steps s c.status_is
come-status (PlayPorts ports schedule) s x p c = ending-status c.report.quiet c.report.steps s c.status_is

-- an answer by a decision that is enough is `Ok`
enough-status : (d : Decision) (s : Status) (x : List ℕ) (p : Played) → IsEnough d → Comes d s x p → s ≡ Ended.Ok
enough-status (Say t y) s x p e c = c.0 ∙ e
enough-status (Play q u o) s x p e c = c.bounded e.0 e.1
enough-status (Run q u n) s x p e c = c.bounded e.0 e.1
enough-status (PlayBus bus schedule) s x p e c = c.bounded e
enough-status (PlayPorts ports schedule) s x p e c = c.bounded e

-- these aren't faults
abbrev pub MayBeFault : Status → Type 0
MayBeFault Ended.Ok = ⊥
MayBeFault (Ended.Usage k) = ⊥
MayBeFault (Ended.Refused n) = ⊥
MayBeFault (Ended.BadTrace l) = ⊥
MayBeFault Ended.ReadFault = Unit {0}
MayBeFault Ended.WriteFault = Unit {0}
MayBeFault (Ended.Spent n) = ⊥
MayBeFault Ended.TooLong = ⊥
MayBeFault (Ended.Memory memory) = Unit {0}

may-be : (s : Status) → IsFault s → MayBeFault s
may-be _ no_reading = tt
may-be _ no_writing = tt
may-be _ (no_memory memory) = tt

module _ (told : List ℕ → Option (List ℕ)) (words : List (List ℕ)) where
  -- an answer has the status that the told texts decide
  pub told-status : (d : Decision) (s : Status) (x : List ℕ) (p : Played) → Decides (IsTold told) words d → Answers (WasRead told) words s x p → IsStatusOf d s
  told-status d s x p h a =
      come-status d s x p (subst (λ z. Comes z s x p) (sym (one-decision (IsTold told) (WasRead told) (told-same told) words d a.0 h a.1)) a.2)

  -- an answer that was written whole or in part is the one that the told texts decide, or a fault
  pub served-status : (old new : Option (List ℕ)) (result : Status) (played : Played) (d : Decision) → Decides (IsTold told) words d
      → Serves (WasRead told) words old new result played → IsStatusOf d result ⊎ IsFault result
  served-status old new Ended.Ok played d h b = inl (told-status d Ended.Ok b.0 played h b.1)
  served-status old new (Ended.Usage k) played d h b = inl (told-status d (Ended.Usage k) b.0 played h b.1)
  served-status old new (Ended.Refused n) played d h b = inl (told-status d (Ended.Refused n) b.0 played h b.1)
  served-status old new (Ended.BadTrace l) played d h b = inl (told-status d (Ended.BadTrace l) b.0 played h b.1)
  served-status old new Ended.ReadFault played d h b = inr no_reading
  served-status old new Ended.WriteFault played d h b = inr no_writing
  served-status old new (Ended.Spent n) played d h b = inl (told-status d (Ended.Spent n) b.0 played h b.1)
  served-status old new Ended.TooLong played d h b = inl (told-status d Ended.TooLong b.0 played h b.1)
  served-status old new (Ended.Memory memory) played d h b = inr (no_memory memory)

  -- an answer that was written whole or in part is `Ok` where the told texts decide what is enough, or a fault
  told-enough : (d : Decision) (s : Status) (x : List ℕ) (p : Played) → Decides (IsTold told) words d → IsEnough d → Answers (WasRead told) words s x p → s ≡ Ended.Ok
  told-enough d s x p h e a =
      enough-status d s x p e (subst (λ z. Comes z s x p) (sym (one-decision (IsTold told) (WasRead told) (told-same told) words d a.0 h a.1)) a.2)

  pub served-enough : (old new : Option (List ℕ)) (result : Status) (played : Played) (d : Decision) → Decides (IsTold told) words d → IsEnough d
      → Serves (WasRead told) words old new result played → (result ≡ Ended.Ok) ⊎ IsFault result
  served-enough old new Ended.Ok played d h e b = inl refl
  served-enough old new (Ended.Usage k) played d h e b = inl (told-enough d (Ended.Usage k) b.0 played h e b.1)
  served-enough old new (Ended.Refused n) played d h e b = inl (told-enough d (Ended.Refused n) b.0 played h e b.1)
  served-enough old new (Ended.BadTrace l) played d h e b = inl (told-enough d (Ended.BadTrace l) b.0 played h e b.1)
  served-enough old new Ended.ReadFault played d h e b = inr no_reading
  served-enough old new Ended.WriteFault played d h e b = inr no_writing
  served-enough old new (Ended.Spent n) played d h e b = inl (told-enough d (Ended.Spent n) b.0 played h e b.1)
  served-enough old new Ended.TooLong played d h e b = inl (told-enough d Ended.TooLong b.0 played h e b.1)
  served-enough old new (Ended.Memory memory) played d h e b = inr (no_memory memory)

-- a decision isn't a fault
abbrev pub IsCalm : Decision → Type 0
IsCalm (Say s x) = IsFault s → ⊥
IsCalm (Play q t o) = Unit {0}
IsCalm (Run q t n) = Unit {0}
IsCalm (PlayBus bus schedule) = Unit {0}
IsCalm (PlayPorts ports schedule) = Unit {0}

asked-calm : (plan : Plan) (t : Trace) (a : Asked) → IsCalm (asked_on plan t a)
asked-calm plan t (Ask.Play o) = tt
asked-calm plan t (Ask.Run n) = tt

trace-calm : (plan : Plan) (o : Asked) (bytes : List ℕ) (d : Decision) → TraceDecides plan o bytes d → IsCalm d
trace-calm plan o bytes _ (long_trace l) = may-be Ended.TooLong
trace-calm plan o bytes _ (bad_trace k l b) = may-be (Ended.BadTrace k)
trace-calm plan o bytes _ (good_trace l g) = asked-calm plan _ o

text-calm : (P : Plan → Decision → Type 0) → ((plan : Plan) (d : Decision) → P plan d → IsCalm d) → (bytes : List ℕ) (d : Decision) → TextDecides P bytes d → IsCalm d
text-calm P calm bytes _ (long_description l) = may-be Ended.TooLong
text-calm P calm bytes _ (refused r l h) = may-be (Ended.Refused r.rule)
text-calm P calm bytes _ (accepted p d l h q) = calm p d q

alone-calm : (a : Alone) (bytes : List ℕ) (d : Decision) → AloneDecides a bytes d → IsCalm d
alone-calm (Only.Bus schedule) bytes _ (long_text_alone l) = may-be Ended.TooLong
alone-calm (Only.Bus schedule) bytes _ (bad_text k l b) = may-be (Ended.BadTrace k)
alone-calm (Only.Bus schedule) bytes _ (good_text l g) = tt
alone-calm (Only.Switch schedule) bytes _ (long_text_alone l) = may-be Ended.TooLong
alone-calm (Only.Switch schedule) bytes _ (bad_text k l b) = may-be (Ended.BadTrace k)
alone-calm (Only.Switch schedule) bytes _ (good_text l g) = tt

generated-calm : (n : ℕ) (plan : Plan) (d : Decision) → GeneratedDecides n plan d → IsCalm d
generated-calm n plan d t = trace-calm plan (Ask.Play Show.Summary) _ d t

module _ (R : List ℕ → List ℕ → Type 0) (words : List (List ℕ)) where
  plan-calm : (plan : Plan) (d : Decision) → PlanDecides R words plan d → IsCalm d
  plan-calm plan _ (checked desc c) = may-be Ended.Ok
  plan-calm plan _ (laid_out desc l) = may-be Ended.Ok
  plan-calm plan _ (traced desc trace bytes o d p r t) = trace-calm plan o bytes d t

  is-calm : (d : Decision) → Decides R words d → IsCalm d
  is-calm _ (no_command k h) = may-be (Ended.Usage k)
  is-calm _ (described desc bytes d n r t) = text-calm (PlanDecides R words) plan-calm bytes d t
  is-calm _ (alone trace bytes a d w r t) = alone-calm a bytes d t
  is-calm _ (generated n d g t) = text-calm (GeneratedDecides n) (generated-calm n) _ d t

calm-ending : (s : Status) → (s ≡ Ended.Ok) ⊎ ((n : ℕ) × (s ≡ Ended.Spent n)) → IsFault s → ⊥
calm-ending s (inl e) f = may-be Ended.Ok (subst (λ t. IsFault t) e f)
calm-ending s (inr h) f = may-be (Ended.Spent h.0) (subst (λ t. IsFault t) h.1 f)

calm-status : (d : Decision) (s : Status) (x : List ℕ) (p : Played) → IsCalm d → Comes d s x p → IsFault s → ⊥
calm-status (Say t y) s x p n c f = n (subst (λ s. IsFault s) c.0 f)
calm-status (Play q t o) s x p n c f = calm-ending s (play-status q t o s x p c) f
calm-status (Run q t m) s x p n c f = calm-ending s (run-status q t m s x p c) f
calm-status (PlayBus bus schedule) s x p n c f = calm-ending s (ending-status c.report.quiet c.report.steps s c.status_is) f
calm-status (PlayPorts ports schedule) s x p n c f = calm-ending s (ending-status c.report.quiet c.report.steps s c.status_is) f

-- no answer is a fault
pub answer-calm : (R : List ℕ → List ℕ → Type 0) (words : List (List ℕ)) (s : Status) (x : List ℕ) (p : Played) → Answers R words s x p → IsFault s → ⊥
answer-calm R words s x p a f = calm-status a.0 s x p (is-calm R words a.0 a.1) a.2 f

pub answer-not : (R : List ℕ → List ℕ → Type 0) (words : List (List ℕ)) (s s' : Status) (x : List ℕ) (p : Played) → Answers R words s x p → IsFault s' → s ≡ s' → ⊥
answer-not R words s s' x p a f e = answer-calm R words s x p a (subst (λ t. IsFault t) (sym e) f)

-- an answer whose text was written whole
pub written-whole : (R : List ℕ → List ℕ → Type 0) (words : List (List ℕ)) (old new : Option (List ℕ)) (s : Status) (x : List ℕ) (p : Played) → Answers R words s x p → new ≡ appended old x
    → Serves R words old new s p
written-whole R words old new Ended.Ok x p a e = (x, a, e)
written-whole R words old new (Ended.Usage k) x p a e = (x, a, e)
written-whole R words old new (Ended.Refused n) x p a e = (x, a, e)
written-whole R words old new (Ended.BadTrace l) x p a e = (x, a, e)
written-whole R words old new Ended.ReadFault x p a e = absurd (answer-calm R words Ended.ReadFault x p a no_reading)
written-whole R words old new Ended.WriteFault x p a e = absurd (answer-calm R words Ended.WriteFault x p a no_writing)
written-whole R words old new (Ended.Spent n) x p a e = (x, a, e)
written-whole R words old new Ended.TooLong x p a e = (x, a, e)
written-whole R words old new (Ended.Memory memory) x p a e = absurd (answer-calm R words (Ended.Memory memory) x p a (no_memory memory))

-- what came of an answer isn't another fault than one of writing
pub not-instead : (R : List ℕ → List ℕ → Type 0) (words : List (List ℕ)) (s result f : Status) (x : List ℕ) (p : Played) → Answers R words s x p → (result ≡ s) ⊎ (result ≡ Ended.WriteFault) → IsFault f
    → (f ≡ Ended.WriteFault → ⊥) → result ≡ f → ⊥
not-instead R words s result f x p a (inl same) h n e = answer-not R words s f x p a h (sym same ∙ e)
not-instead R words s result f x p a (inr failed) h n e = n (sym e ∙ failed)
