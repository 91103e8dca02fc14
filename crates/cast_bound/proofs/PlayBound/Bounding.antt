use Rattle.std.proofs.Common.{◌≡◌, ◌<◌, ◌≤◌, ◌+◌, ◌*◌, List, [], length, sym, subst}
use Rattle.wire_core.specs.declared.names.Entry.{Entry}
use Rattle.wire_core.specs.Journal.{History, Hostiles, LegalJournal, BellsHold, QueuesFlow}
use Rattle.wire_core.specs.Marks.{Drops, Brisk, AreOwned, all_sent, dropped}
use Rattle.step_bound.specs.Calm.{AreCalm}
use Rattle.sdf_plan.specs.declared.plan.Plan.{Plan}
use Rattle.sdf_check.specs.Valid.{Valid}
use Rattle.trace_text.specs.declared.trace.Trace.{Trace}
use Rattle.region_layout.specs.Rows.{queues_of, actors_of}
use Rattle.expect_core.specs.Budgets.{counts_of, hops_of, most_ends, budget_of}
use Rattle.step_bound.proofs.Law.{bounded}
use Rattle.layout_laws.proofs.RegionLaws.BudgetsLemmas.Actors.{actors_are}
use Rattle.layout_laws.proofs.RegionLaws.BudgetsLemmas.Most.{most_is}
use Rattle.cast_bound.proofs.PlayBound.Owners.{most_ends_have}

-- a journal of a plan is shorter than its budget
pub within_budget : (plan : Plan) (trace : Trace) (hostile : Hostiles) (history : History) (journal : List Entry) (drops : Drops) → Valid plan → AreCalm hostile (queues_of plan) → BellsHold hostile history (queues_of plan) [] → QueuesFlow history (queues_of plan) [] → LegalJournal hostile history (queues_of plan) journal → Brisk hostile (queues_of plan) drops journal → AreOwned (queues_of plan) (length (actors_of plan)) → all_sent history (queues_of plan) journal + dropped drops journal ≤ hops_of (counts_of plan trace) → length journal < budget_of plan trace
within_budget plan trace hostile history journal drops valid calm bells flows legal brisk owned moves =
    let ends = most_ends_have (queues_of plan) (length (actors_of plan)) (most_ends (counts_of plan trace)) owned (most_is plan valid trace) in
    subst (λ n. length journal < 32 * (hops_of (counts_of plan trace) + n + 1) * (most_ends (counts_of plan trace) + 1)) (sym (actors_are plan valid trace))
    (bounded hostile drops history (queues_of plan) journal (hops_of (counts_of plan trace)) (length (actors_of plan)) (most_ends (counts_of plan trace)) calm bells flows legal brisk owned ends moves)
