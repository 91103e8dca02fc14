use Rattle.std.proofs.Common.{◌≡◌, inr}
use Rattle.sdf_plan.specs.declared.place.SdfFault.TheVariants as Fault
use Rattle.decision_core.proofs.judging.judge.Goals as goal

pub returns-in-Err-check-clause-refused : goal.returns-in-Err-check-clause-refused
returns-in-Err-check-clause-refused c refusal is =
    let spelled = c.in-Ok.ensures.accepted in
    let fault_is : c.in-Err-check.fault ≡ Fault.Refused refusal = cc in
    inr (c.in-Ok.plan, record { root = spelled.0; document = spelled.1; kept = spelled.2; plan_is = spelled.3 }, rw fault_is at c.in-Err-check.ensures.refused)
