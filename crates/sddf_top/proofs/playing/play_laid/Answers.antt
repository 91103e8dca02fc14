use Rattle.std.proofs.Common.{refl, sym, ap, ◌∙◌, ◌≤◌, subst, length}
use Rattle.region_layout.specs.declared.layout.Layout.{Layout}
use Rattle.expect_core.specs.Budgets.{budget_of}
use Rattle.system_core.specs.PlanPlays.{IsPlayed}
use Rattle.system_core.specs.Reports.{report_of}
use Rattle.sddf_top.specs.Shown.{seed_of, shown_text}
use Rattle.sddf_top.proofs.PlanLemmas.{spent-whole, quiet-bounded}
use Rattle.sddf_top.proofs.playing.play_laid.Goals as goal

pub returns-in-Ok : goal.returns-in-Ok
returns-in-Ok c = record {
  system = c.in_ok-system.system;
  played_is = refl;
  plays = subst (λ n. IsPlayed c.args.plan.now c.args.trace.now (seed_of c.args.showing) n c.in_ok-system.system) c.limit_of-limit.ensures (subst (λ n. IsPlayed c.args.plan.now c.args.trace.now n c.limit_of-limit.result c.in_ok-system.system) c.seed_of.ensures c.in_ok-system.ensures.played);
  spent = λ q. spent-whole c.limit_of-limit.result c.in_ok-system.system c.in_ok-system.field-0-1 c.in_ok-system.ensures.ended q ∙ c.limit_of-limit.ensures;
  status_is = c.in-Ok.ensures.status;
  bounded = λ calm enough. quiet-bounded (report_of c.in_ok-system.system).quiet (report_of c.in_ok-system.system).steps (length c.in_ok-system.system.journal) c.limit_of-limit.result (budget_of c.args.plan.now c.args.trace.now) c.in-Ok.status
      c.in-Ok.ensures.status
      (λ q. spent-whole c.limit_of-limit.result c.in_ok-system.system c.in_ok-system.field-0-1 c.in_ok-system.ensures.ended q)
      (c.in_ok-system.ensures.played.played.system.bounded calm)
      (subst (λ n. budget_of c.args.plan.now c.args.trace.now ≤ n) (sym c.limit_of-limit.ensures) enough);
  text_is = c.in-Ok.ensures.text ∙ ap (λ (l : Layout). shown_text l c.args.showing (report_of c.in_ok-system.system) c.in_ok-system.system.journal) c.requires.layout;
}
