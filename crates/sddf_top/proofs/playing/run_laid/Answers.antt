use Rattle.std.proofs.Common.{refl, sym, ◌∙◌, ◌≤◌, subst, length}
use Rattle.expect_core.specs.Budgets.{budget_of}
use Rattle.system_core.specs.Reports.{report_of}
use Rattle.sddf_top.specs.SystemRun.Ran.{IsRan}
use Rattle.sddf_top.proofs.PlanLemmas.{spent-whole, quiet-bounded}
use Rattle.sddf_top.proofs.playing.run_laid.Goals as goal

pub returns-in-Ok : goal.returns-in-Ok
returns-in-Ok g c = record {
  system = c.in_ok-system.system;
  played_is = refl;
  ran = subst (λ n. IsRan c.args.plan.now c.args.trace.now n c.in_ok-system.system) c.limit_or_budget-limit.ensures c.in_ok-system.ensures.ran;
  spent = λ q. spent-whole c.limit_or_budget-limit.result c.in_ok-system.system c.in_ok-system.field-0-1 c.in_ok-system.ensures.ended q ∙ c.limit_or_budget-limit.ensures;
  status_is = c.in-Ok.ensures.status;
  bounded = λ calm enough. quiet-bounded (report_of c.in_ok-system.system).quiet (report_of c.in_ok-system.system).steps (length c.in_ok-system.system.journal) c.limit_or_budget-limit.result (budget_of c.args.plan.now c.args.trace.now) c.in-Ok.status
      c.in-Ok.ensures.status
      (λ q. spent-whole c.limit_or_budget-limit.result c.in_ok-system.system c.in_ok-system.field-0-1 c.in_ok-system.ensures.ended q)
      (c.in_ok-system.ensures.ran.played.system.bounded calm)
      (subst (λ n. budget_of c.args.plan.now c.args.trace.now ≤ n) (sym c.limit_or_budget-limit.ensures) enough);
  text_is = c.in-Ok.ensures.text;
}
