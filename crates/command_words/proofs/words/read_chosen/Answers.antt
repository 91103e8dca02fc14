use Rattle.std.proofs.lemmas.Result.{err_from_is_err_and}
use Rattle.std.proofs.lemmas.List.{length-map}
use Rattle.command_words.proofs.SoFar.{at-first, one-more, all-follow, bad-follow}
use Rattle.command_words.proofs.words.read_chosen.Goals as goal

pub loop-at-init : goal.loop-at-init
loop-at-init c = at-first c.args.from c.args.first _ (simp length-map c.requires)

pub returns-in_err-at-clause-err : goal.returns-in_err-at-clause-err
returns-in_err-at-clause-err c =
    let p = err_from_is_err_and c.from_residual.result c.from_residual.ensures.1 in
    rw (p.1, p.2) (bad-follow c.args.from c.args.first _ _ _ c.loop-at.invariant _ c.in_err-at.ensures.err)

pub loop-at-preserved : goal.loop-at-preserved
loop-at-preserved c = one-more c.args.from c.args.first _ _ _ _ _ c.loop-at.invariant (simp length-map c.loop-at-test.true) c.in_ok-at.ensures.ok

pub returns-clause-ok : goal.returns-clause-ok
returns-clause-ok c = all-follow c.args.from c.args.first _ _ _ c.loop-at.invariant (simp length-map c.loop-at-test.false)
