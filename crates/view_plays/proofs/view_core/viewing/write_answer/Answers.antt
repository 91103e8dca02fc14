use Rattle.std.proofs.Common.{refl, subst}
use Rattle.view_plays.specs.declared.view_core.ended.Ended.TheVariants as End
use Rattle.view_plays.specs.ViewCore.Viewed.{IsTold}
use Rattle.view_plays.proofs.ViewCore.ViewLemmas.{told-ends}
use Rattle.view_plays.proofs.view_core.viewing.write_answer.Goals as goal

pub returns-in-Show-clause-written : goal.returns-in-Show-clause-written
returns-in-Show-clause-written g c = rw c.in-Show.is
    (subst (λ t. IsTold g.K.Sink.written g.K.Sink.faults g.K.Sink.failed c.args.out.now c.write_to.new.sink t End.Ok c.write_to.result) c.as_slice.ensures c.write_to.ensures, refl)

pub returns-in-Show-clause-ends : goal.returns-in-Show-clause-ends
returns-in-Show-clause-ends g c = rw c.in-Show.is (told-ends _ _ _ _ _ _ _ _ c.write_to.ensures)

pub returns-in-Refuse-clause-written : goal.returns-in-Refuse-clause-written
returns-in-Refuse-clause-written g c = rw c.in-Refuse.is
    (subst (λ t. IsTold g.E.Sink.written g.E.Sink.faults g.E.Sink.failed c.args.err.now c.write_to-in-Refuse.new.sink t c.in-Refuse.ended c.write_to-in-Refuse.result) c.as_bytes.ensures.value c.write_to-in-Refuse.ensures, refl)

pub returns-in-Refuse-clause-ends : goal.returns-in-Refuse-clause-ends
returns-in-Refuse-clause-ends g c = rw c.in-Refuse.is (told-ends _ _ _ _ _ _ _ _ c.write_to-in-Refuse.ensures)
