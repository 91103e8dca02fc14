use Rattle.std.proofs.Common.{refl, sym, subst, inl, inr}
use Rattle.std.proofs.lemmas.Result.{err_from_is_err_and}
use Rattle.command_words.specs.Words.{texts_of}
use Rattle.decision_core.specs.ShelfCore.Reading.{WasRead}
use Rattle.decision_core.specs.ShelfCore.Shelves.{Opens}
use Rattle.decision_core.proofs.ShelfCore.ShelfLemmas.{reads-as}
use Rattle.view_plays.specs.ViewCore.Deciding.{decision_of, Decides, no_view, viewed}
use Rattle.view_plays.specs.ViewCore.Opening.{OpensFor, LeavesAny}
use Rattle.view_plays.proofs.ViewCore.DecisionLemmas.{map-ok}
use Rattle.view_plays.proofs.ViewCore.WordLemmas.{two-words, second-named}
use Rattle.view_plays.proofs.view_core.deciding.decide_view.Goals as goal

pub name_of-requires : goal.name_of-requires
name_of-requires g c = two-words (texts_of c.args.words.now) c.in-Ok.view c.in-Ok.ensures.view

pub returns-in-Ok-clause-decides : goal.returns-in-Ok-clause-decides
returns-in-Ok-clause-decides g c =
    let asks = second-named (texts_of c.args.words.now) c.in-Ok.view c.name_of.result.now c.in-Ok.ensures.view c.name_of.ensures in
    map-ok c.decide_named.result _ _ (λ a h. viewed c.in-Ok.view c.name_of.result.now h.0 (decision_of a) asks h.1 h.2) c.decide_named.ensures.decides

pub returns-in-Ok-clause-reads : goal.returns-in-Ok-clause-reads
returns-in-Ok-clause-reads g c =
    let asks = second-named (texts_of c.args.words.now) c.in-Ok.view c.name_of.result.now c.in-Ok.ensures.view c.name_of.ensures in
    reads-as g.F.Shelf.text g.F.Shelf.left g.F.Shelf.opens g.F.Shelf.faults g.F.Shelf.failed (Opens c.name_of.result.now) (OpensFor (texts_of c.args.words.now))
    LeavesAny LeavesAny _ _ _ c.decide_named.ensures.reads (λ o. inr (c.in-Ok.view, c.name_of.result.now, asks, o)) (λ a l. tt)

pub returns-in_ok-refuse_words-in-Err-clause-decides : goal.returns-in_ok-refuse_words-in-Err-clause-decides
returns-in_ok-refuse_words-in-Err-clause-decides g c =
    subst (λ d. Decides (WasRead (g.F.Shelf.text c.args.shelf.now)) (texts_of c.args.words.now) d) (sym c.in_ok-refuse_words-in-Err.ensures) (no_view c.in-Err.k c.in-Err.ensures.bad)

pub returns-in_ok-refuse_words-in-Err-clause-reads : goal.returns-in_ok-refuse_words-in-Err-clause-reads
returns-in_ok-refuse_words-in-Err-clause-reads g c = record { texts = λ n. refl; opened = inl refl; last = tt; calm = refl; stopped = tt }

pub returns-in_err-refuse_words-in-Err-clause-reads : goal.returns-in_err-refuse_words-in-Err-clause-reads
returns-in_err-refuse_words-in-Err-clause-reads g c =
    let p = err_from_is_err_and c.from_residual.result c.from_residual.ensures.1 in
    rw (p.1, p.2) (record { texts = λ n. refl; opened = inl refl; last = tt; calm = tt; stopped = refl })
