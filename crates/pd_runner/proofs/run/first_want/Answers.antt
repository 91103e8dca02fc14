use Rattle.std.proofs.Common.{◌∙◌, sym, arith}
use Rattle.play_core.proofs.Lists.{there_below}
use Rattle.pd_runner.specs.declared.part.Ran.{Ran}
use Rattle.pd_runner.specs.Running.{HasNoWant}
use Rattle.pd_runner.proofs.Eaches.{every_of, up_to}
use Rattle.pd_runner.proofs.run.first_want.Goals as goal

pub loop-ran-preserved : goal.loop-ran-preserved
loop-ran-preserved c = up_to (λ (r : Ran). HasNoWant r.part) c.args.rans.now c.loop-ran.ran-index c.ran-item.result c.ran-item.is c.loop-ran-test.true c.loop-ran.invariant (sym c.wanted.ensures ∙ c.in-None.is)

pub returns : goal.returns
returns c = every_of (λ (r : Ran). HasNoWant r.part) c.args.rans.now (λ n r at. c.loop-ran.invariant n r (let lt = there_below c.args.rans.now n r at in let end = c.loop-ran-test.false in omega (arith, lt, end)) at)
