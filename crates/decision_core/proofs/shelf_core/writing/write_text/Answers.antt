use Rattle.std.proofs.Common.{take, ◌∙◌, arith, length-drop}
use Rattle.std.proofs.lemmas.Result.{err_from_is_err_and}
use Rattle.decision_core.proofs.ShelfCore.Appending.{appended-piece, take-begins, take-rest}
use Rattle.decision_core.proofs.shelf_core.writing.write_text.Goals as goal

pub returns-in_err-done-clause-begun : goal.returns-in_err-done-clause-begun
returns-in_err-done-clause-begun g c =
    let p = err_from_is_err_and c.from_residual.result c.from_residual.ensures.1 in
    rw p.1 (take c.loop-done.done c.args.text.now, take-begins c.loop-done.done c.args.text.now, c.in_err-done.ensures.unwritten ∙ c.loop-done.invariant.so_far)

pub loop-done-preserved : goal.loop-done-preserved
loop-done-preserved g c = record {
  within = omega (arith, c.in_ok-done.ensures.bound, length-drop c.loop-done.done c.args.text.now);
  so_far = appended-piece _ _ _ _ _ _ c.loop-done.invariant.so_far (rw (take-rest c.loop-done.done c.args.text.now) at c.in_ok-done.ensures.appends);
  calm = c.in_ok-done.ensures.calm ∙ c.loop-done.invariant.calm;
}
