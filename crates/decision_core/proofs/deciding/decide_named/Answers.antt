use Rattle.std.proofs.Common.{subst}
use Rattle.std.proofs.lemmas.Result.{err_from_is_err_and}
use Rattle.decision_core.specs.Decided.{decision_of}
use Rattle.decision_core.specs.Decisions.{TraceDecides}
use Rattle.decision_core.proofs.SettleLemmas.{trace-stopped, trace-starved, trace-settles}
use Rattle.decision_core.proofs.deciding.decide_named.Goals as goal

pub returns-in-Err : goal.returns-in-Err
returns-in-Err g c =
    trace-stopped g.F.Shelf.text g.F.Shelf.left g.F.Shelf.opens g.F.Shelf.faults g.F.Shelf.failed c.args.name.now c.args.plan c.args.asked _ _ _ c.in-Err.ensures.reads

pub returns-in_err-decide_trace-in-Ok : goal.returns-in_err-decide_trace-in-Ok
returns-in_err-decide_trace-in-Ok g c =
    let p = err_from_is_err_and c.from_residual.result c.from_residual.ensures.1 in
    rw p.1 (trace-starved g.F.Shelf.text g.F.Shelf.left g.F.Shelf.opens g.F.Shelf.faults g.F.Shelf.failed c.args.name.now c.args.plan c.args.asked _ _ c.in-Ok.bytes _ _ c.in-Ok.ensures.reads p.2)

pub returns-in_ok-decide_trace-in-Ok : goal.returns-in_ok-decide_trace-in-Ok
returns-in_ok-decide_trace-in-Ok g c =
    trace-settles g.F.Shelf.text g.F.Shelf.left g.F.Shelf.opens g.F.Shelf.faults g.F.Shelf.failed c.args.name.now c.args.plan c.args.asked _ _ c.in-Ok.bytes c.in_ok-decide_trace-in-Ok.field-0 c.in-Ok.ensures.reads c.in-Ok.ensures.bytes
    (subst (λ x. TraceDecides c.args.plan c.args.asked x (decision_of c.in_ok-decide_trace-in-Ok.field-0)) c.as_slice.ensures c.in_ok-decide_trace-in-Ok.ensures.decides) c.in_ok-decide_trace-in-Ok.ensures.playable
