use Rattle.std.proofs.Common.{subst, sym}
use Rattle.std.proofs.lemmas.Result.{err_from_is_err_and}
use Rattle.decision_core.specs.ShelfCore.Outside.{IsRead}
use Rattle.decision_core.specs.ShelfCore.Shelves.{Opens, LeavesRest}
use Rattle.decision_core.proofs.ShelfCore.ShelfLemmas.{reads-stopped, reads-for, reads-starved}
use Rattle.view_plays.specs.ViewCore.Opening.{LeavesAny}
use Rattle.view_plays.proofs.view_core.deciding.decide_named.Goals as goal

pub returns-clause-decides : goal.returns-clause-decides
returns-clause-decides g c =
    (c.as_slice.result.now, subst (λ x. IsRead (g.F.Shelf.text c.args.shelf.now c.args.name.now) x) (sym c.as_slice.ensures) c.in_ok-text.ensures.bytes, c.in_ok-decide_text.ensures)

pub returns-clause-reads : goal.returns-clause-reads
returns-clause-reads g c =
    reads-for g.F.Shelf.text g.F.Shelf.left g.F.Shelf.opens g.F.Shelf.faults g.F.Shelf.failed (Opens c.args.name.now) (Opens c.args.name.now)
    (LeavesRest (g.F.Shelf.text c.args.shelf.now) c.args.name.now) LeavesAny _ _ _ _ c.in_ok-text.ensures.reads (λ o. o) (λ l. tt)

pub returns-in_err-text-clause-reads : goal.returns-in_err-text-clause-reads
returns-in_err-text-clause-reads g c =
    let p = err_from_is_err_and c.from_residual.result c.from_residual.ensures.1 in
    rw (p.1, p.2) (reads-stopped g.F.Shelf.text g.F.Shelf.left g.F.Shelf.opens g.F.Shelf.faults g.F.Shelf.failed (Opens c.args.name.now) (Opens c.args.name.now)
    (LeavesRest (g.F.Shelf.text c.args.shelf.now) c.args.name.now) LeavesAny _ _ _ c.in_err-text.ensures.reads (λ o. o))

pub returns-in_err-decide_text-clause-reads : goal.returns-in_err-decide_text-clause-reads
returns-in_err-decide_text-clause-reads g c =
    let p = err_from_is_err_and c.from_residual-in_err-decide_text.result c.from_residual-in_err-decide_text.ensures.1 in
    rw p.1 (reads-starved g.F.Shelf.text g.F.Shelf.left g.F.Shelf.opens g.F.Shelf.faults g.F.Shelf.failed (Opens c.args.name.now) (Opens c.args.name.now)
    (LeavesRest (g.F.Shelf.text c.args.shelf.now) c.args.name.now) LeavesAny _ _ _ _ _ c.in_ok-text.ensures.reads p.2 (λ o. o))
