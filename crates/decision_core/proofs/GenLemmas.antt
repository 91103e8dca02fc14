use Rattle.std.proofs.Common.{◌≡◌, refl, ap, sym, ◌∙◌, ℕ, inl, inr, subst, arith}
use Rattle.std.proofs.lemmas.Option.{same_Some}
use Rattle.sdf_plan.specs.declared.place.Refusal.{Refusal}
use Rattle.sdf_plan.specs.declared.plan.Plan.{Plan}
use Rattle.sdf_plan.specs.Elements.{outline_of}
use Rattle.sdf_plan.specs.Places.{walk, IsRefusal}
use Rattle.sdf_model.specs.Spelled.{plan_of}
use Rattle.sdf_check.specs.Valid.{IsRefused, broken, first_rule, last_rule}
use Rattle.trace_text.specs.Traces.{trace_of}
use Rattle.workload.specs.declared.description.TheConstants.{FULL_EXAMPLE}
use Rattle.workload.specs.Generated.{generated_text}
use Rattle.workload.specs.WorkloadLaw.Clients.{HasClients}
use Rattle.workload.proofs.WorkloadLaw.Example.{root, full_clients, full_short}
use Rattle.workload.proofs.WorkloadLaw.Kept.{is_document, rules_kept}
use Rattle.workload.proofs.WorkloadLaw.Accepted.{full_valid}
use Rattle.workload.proofs.WorkloadLaw.Generated.{generated_good, generated_short}
use Rattle.decision_core.specs.declared.showing.Showing.TheVariants as Show
use Rattle.decision_core.specs.declared.showing.Asked.TheVariants as Ask
use Rattle.decision_core.specs.Judged.{SpellsPlan, IsRefusedText}
use Rattle.decision_core.specs.Decisions.{Decision, TextDecides, TraceDecides, GeneratedDecides, long_description, refused, accepted, long_trace, bad_trace, good_trace}
use Rattle.decision_core.specs.Generating.{IsSummary}

-- the full example spells one plan
pub one-plan : (plan : Plan) → SpellsPlan FULL_EXAMPLE.now plan → plan ≡ plan_of root
one-plan plan s = s.plan_is ∙ ap plan_of (same_Some s.root root (sym s.document.1 ∙ is_document.1))

-- it isn't refused
not-refused : (refusal : Refusal) → IsRefusedText FULL_EXAMPLE.now refusal → ⊥
not-refused refusal (inl r) = rules_kept refusal.rule r.from r.to r.broken_at.at refusal.place r.broken_at.there r.broken_at.here
not-refused refusal (inr (plan, spelled, is)) =
    let r : IsRefusal (broken (plan_of root)) (walk (outline_of (plan_of root))) first_rule last_rule refusal = subst (λ p. IsRefused p refusal) (one-plan plan spelled) is in
    full_valid refusal.rule r.from r.to r.broken_at.at refusal.place r.broken_at.there r.broken_at.here

-- its generated trace is played
trace-plays : (n : ℕ) (plan : Plan) (decision : Decision) → HasClients plan → TraceDecides plan (Ask.Play Show.Summary) (generated_text n) decision → IsSummary decision
trace-plays n plan _ has (long_trace long) = let short = generated_short n in absurd (omega (arith, long, short))
trace-plays n plan _ has (bad_trace line short least) = absurd (let good = generated_good plan n has least.at in cc (sym good ∙ least.bad))
trace-plays n plan _ has (good_trace short good) = (plan, trace_of plan (generated_text n), refl)

-- what `gen` decides is a play
pub gen-plays : (n : ℕ) (decision : Decision) → TextDecides (GeneratedDecides n) FULL_EXAMPLE.now decision → IsSummary decision
gen-plays n _ (long_description long) = let short = full_short in absurd (omega (arith, long, short))
gen-plays n _ (refused refusal short is) = absurd (not-refused refusal is)
gen-plays n _ (accepted plan decision short is decides) =
    trace-plays n plan decision (subst (λ p. HasClients p) (sym (one-plan plan is.spelled)) full_clients) decides
