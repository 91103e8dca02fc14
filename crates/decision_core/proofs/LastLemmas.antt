use Rattle.std.proofs.Common.{◌≡◌, ◌≤◌, ◌<◌, ◌⊎◌, inl, inr, ℕ, List, length, Option, Some, None, ap, subst, arith}
use Rattle.std.proofs.lemmas.List.{length-take}
use Rattle.sdf_plan.specs.declared.plan.Plan.{Plan}
use Rattle.trace_text.specs.declared.trace.Trace.{Trace}
use Rattle.decision_core.specs.declared.showing.Asked.{Asked}
use Rattle.decision_core.specs.declared.showing.Asked.TheVariants as Ask
use Rattle.decision_core.specs.declared.status.Status.{Status}
use Rattle.decision_core.specs.declared.status.Status.TheVariants as Ended
use Rattle.sdf_model.specs.Counts.{text_most}
use Rattle.decision_core.specs.ShelfCore.Outside.{IsRead, read_most}
use Rattle.decision_core.specs.declared.showing.Alone.{Alone}
use Rattle.decision_core.specs.declared.showing.Alone.TheVariants as Only
use Rattle.decision_core.specs.Decisions.{Decision, AloneDecides, OneTextDecides, long_text_alone, bad_text, good_text, bus_played, ports_played, asked_on, TextDecides, TraceDecides, GeneratedDecides, long_description, refused, accepted, long_trace, bad_trace, good_trace, IsStatusOf}
use Rattle.decision_core.specs.Leading.{PlanSays, says_accepted, says_layout}
use Rattle.decision_core.specs.Readings.{IsLong, IsWithinLimit, IsOfText, IsOfPlan, IsOfPlay, IsUnread}
use Rattle.command_words.specs.declared.command.Command.{Command}
use Rattle.command_words.specs.declared.command.Command.TheVariants as Do
use Rattle.command_words.specs.Words.{Spells}

-- a text is too long, or within the limit, as the bytes are that were read of it
pub long-read : (told : Option (List ℕ)) (bytes : List ℕ) → IsRead told bytes → text_most < length bytes → IsLong told
long-read (Some text) bytes r l = omega (arith, l, ap length r, length-take read_most text)
long-read None bytes r l = tt

pub within-read : (told : Option (List ℕ)) (bytes : List ℕ) → IsRead told bytes → length bytes ≤ text_most → IsWithinLimit told
within-read (Some text) bytes r l = omega (arith, l, ap length r, length-take read_most text)
within-read None bytes r l = tt

-- what is asked of a trace ends as a trace may be answered
of-play : (s : Status) → (s ≡ Ended.Ok) ⊎ ((n : ℕ) × (s ≡ Ended.Spent n)) → IsOfPlay s
of-play s (inl e) = rw e tt
of-play s (inr h) = rw h.1 tt

asked-leads : (plan : Plan) (t : Trace) (a : Asked) (s : Status) → IsStatusOf (asked_on plan t a) s → IsOfPlay s
asked-leads plan t (Ask.Play o) s h = of-play s h
asked-leads plan t (Ask.Run n) s h = of-play s h

-- what a trace decides is an answer to a trace
pub trace-status : (told : Option (List ℕ)) (plan : Plan) (a : Asked) (bytes : List ℕ) (d : Decision) (s : Status) → IsRead told bytes → TraceDecides plan a bytes d → IsStatusOf d s → IsOfText told IsOfPlay s
trace-status told plan a bytes _ s r (long_trace l) h = inl (long-read told bytes r l, h)
trace-status told plan a bytes _ s r (bad_trace k l b) h = inr (within-read told bytes r l, rw h tt)
trace-status told plan a bytes _ s r (good_trace l g) h = inr (within-read told bytes r l, asked-leads plan _ a s h)

-- what a text that is named alone decides is an answer to a trace
text-alone : (Good : List ℕ → Type 0) (Bad : List ℕ → ℕ → Type 0) (play : List ℕ → Decision) (told : Option (List ℕ)) (bytes : List ℕ) (d : Decision) (s : Status) → ((b : List ℕ) → IsStatusOf (play b) s → IsOfPlay s)
    → IsRead told bytes → OneTextDecides Good Bad play bytes d → IsStatusOf d s → IsOfText told IsOfPlay s
text-alone Good Bad play told bytes _ s ends r (long_text_alone l) h = inl (long-read told bytes r l, h)
text-alone Good Bad play told bytes _ s ends r (bad_text k l b) h = inr (within-read told bytes r l, rw h tt)
text-alone Good Bad play told bytes _ s ends r (good_text l g) h = inr (within-read told bytes r l, ends bytes h)

pub alone-status : (a : Alone) (told : Option (List ℕ)) (bytes : List ℕ) (d : Decision) (s : Status) → IsRead told bytes → AloneDecides a bytes d → IsStatusOf d s → IsOfText told IsOfPlay s
alone-status (Only.Bus schedule) told bytes d s r t h = text-alone _ _ (bus_played schedule) told bytes d s (λ b e. of-play s e) r t h
alone-status (Only.Switch schedule) told bytes d s r t h = text-alone _ _ (ports_played schedule) told bytes d s (λ b e. of-play s e) r t h

-- what a command says of a plan without a trace is an answer to its description
plan-status : (words : List (List ℕ)) (command : Command) (plan : Plan) (d : Decision) (s : Status) → Spells words command → PlanSays command plan d → IsStatusOf d s → IsOfPlan words s
plan-status words command plan _ s spells (says_accepted e) h = let t : Spells words Do.Check = subst (λ (c : Command). Spells words c) e spells in rw h (t.0, inl t.1)
plan-status words command plan _ s spells (says_layout e) h = let t : Spells words Do.Layout = subst (λ (c : Command). Spells words c) e spells in rw h (t.0, inr t.1)

pub said-status : (told : Option (List ℕ)) (words : List (List ℕ)) (command : Command) (bytes : List ℕ) (d : Decision) (s : Status) → Spells words command → IsRead told bytes → TextDecides (PlanSays command) bytes d → IsStatusOf d s → IsOfText told (IsOfPlan words) s
said-status told words command bytes _ s spells r (long_description l) h = inl (long-read told bytes r l, h)
said-status told words command bytes _ s spells r (refused q l i) h = inr (within-read told bytes r l, rw h tt)
said-status told words command bytes _ s spells r (accepted plan d l i says) h = inr (within-read told bytes r l, plan-status words command plan d s spells says h)

-- what `gen` decides is an answer to a command that reads no text
asked-unread : (plan : Plan) (t : Trace) (a : Asked) (s : Status) → IsStatusOf (asked_on plan t a) s → IsUnread s
asked-unread plan t (Ask.Play o) s (inl e) = rw e tt
asked-unread plan t (Ask.Play o) s (inr h) = rw h.1 tt
asked-unread plan t (Ask.Run n) s (inl e) = rw e tt
asked-unread plan t (Ask.Run n) s (inr h) = rw h.1 tt

trace-unread : (plan : Plan) (a : Asked) (bytes : List ℕ) (d : Decision) (s : Status) → TraceDecides plan a bytes d → IsStatusOf d s → IsUnread s
trace-unread plan a bytes _ s (long_trace l) h = rw h tt
trace-unread plan a bytes _ s (bad_trace k l b) h = rw h tt
trace-unread plan a bytes _ s (good_trace l g) h = asked-unread plan _ a s h

pub gen-unread : (n : ℕ) (bytes : List ℕ) (d : Decision) (s : Status) → TextDecides (GeneratedDecides n) bytes d → IsStatusOf d s → IsUnread s
gen-unread n bytes _ s (long_description l) h = rw h tt
gen-unread n bytes _ s (refused r l i) h = rw h tt
gen-unread n bytes _ s (accepted plan d l i t) h = trace-unread plan _ _ d s t h
