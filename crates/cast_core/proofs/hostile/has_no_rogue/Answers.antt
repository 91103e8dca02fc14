use Rattle.std.proofs.Common.{◌∙◌, sym, arith}
use Rattle.cast_core.proofs.HostileLemmas.{eight_calm, none_at, one_calm_more, some_at}
use Rattle.cast_core.proofs.hostile.has_no_rogue.Goals as goal

pub loop-client-init : goal.loop-client-init
loop-client-init c = λ k lt. absurd (omega (arith, lt))

pub loop-client-preserved : goal.loop-client-preserved
loop-client-preserved c = one_calm_more c.args.plan.now c.loop-client.client c.loop-client.invariant (none_at c.args.plan.now c.loop-client.client (sym c.is_any_rogue.ensures ∙ c.if-is_any_rogue.false))

pub returns-then-is_any_rogue-clause-some : goal.returns-then-is_any_rogue-clause-some
returns-then-is_any_rogue-clause-some c = λ is none. some_at c.args.plan.now c.loop-client.client (sym c.is_any_rogue.ensures ∙ c.if-is_any_rogue.true) none

pub returns-clause-none : goal.returns-clause-none
returns-clause-none c = λ is. eight_calm c.args.plan.now c.requires c.loop-client.client c.loop-client-test.false c.loop-client.invariant
