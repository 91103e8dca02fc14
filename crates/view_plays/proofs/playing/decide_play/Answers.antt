use Rattle.std.proofs.Common.{refl, sym, subst, inl}
use Rattle.std.proofs.lemmas.Result.{err_from_is_err_and}
use Rattle.command_words.specs.Words.{texts_of}
use Rattle.decision_core.specs.ShelfCore.Reading.{WasRead}
use Rattle.view_plays.specs.Deciding.{DrawsPlay, no_drawing}
use Rattle.view_plays.proofs.playing.decide_play.Goals as goal

pub returns-in-Ok-clause-decides : goal.returns-in-Ok-clause-decides
returns-in-Ok-clause-decides g c = c.decide_drawing.ensures.decides

pub returns-in-Ok-clause-reads : goal.returns-in-Ok-clause-reads
returns-in-Ok-clause-reads g c = c.decide_drawing.ensures.reads

pub returns-in_ok-refuse_words-in-Err-clause-decides : goal.returns-in_ok-refuse_words-in-Err-clause-decides
returns-in_ok-refuse_words-in-Err-clause-decides g c =
    subst (λ x. DrawsPlay (WasRead (g.F.Shelf.text c.args.shelf.now)) (texts_of c.args.words.now) x) (sym c.in_ok-refuse_words-in-Err.ensures)
    (no_drawing c.in-Err.place (rw c.in-Err.is at c.in_ok-drawing.ensures.err))

pub returns-in_ok-refuse_words-in-Err-clause-reads : goal.returns-in_ok-refuse_words-in-Err-clause-reads
returns-in_ok-refuse_words-in-Err-clause-reads g c = record { texts = λ n. refl; opened = inl refl; last = tt; calm = refl; stopped = tt }

pub returns-in_err-refuse_words-in-Err-clause-reads : goal.returns-in_err-refuse_words-in-Err-clause-reads
returns-in_err-refuse_words-in-Err-clause-reads g c =
    let p = err_from_is_err_and c.from_residual-in_err-refuse_words-in-Err.result c.from_residual-in_err-refuse_words-in-Err.ensures.1 in
    rw (p.1, p.2) (record { texts = λ n. refl; opened = inl refl; last = tt; calm = tt; stopped = refl })

pub returns-in_err-drawing-clause-reads : goal.returns-in_err-drawing-clause-reads
returns-in_err-drawing-clause-reads g c =
    let p = err_from_is_err_and c.from_residual.result c.from_residual.ensures.1 in
    rw (p.1, p.2) (record { texts = λ n. refl; opened = inl refl; last = tt; calm = tt; stopped = refl })
