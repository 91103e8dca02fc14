use Rattle.std.proofs.Common.{◌∙◌, List, ap, refl, subst, inl, inr}
use Rattle.std.proofs.lemmas.Result.{err_from_is_err_and}
use Rattle.command_words.specs.Words.{texts_of}
use Rattle.decision_core.specs.ShelfCore.Reading.{WasRead}
use Rattle.decision_core.proofs.ShelfCore.ShelfLemmas.{reads-stopped, reads-for, reads-starved}
use Rattle.decision_core.specs.Decided.{decision_of, OfEach}
use Rattle.decision_core.specs.Decisions.{Decides}
use Rattle.decision_core.specs.Readings.{OpensInTurn, ReadLast}
use Rattle.command_words.specs.declared.play_words.options.Setting.{Setting}
use Rattle.command_words.specs.PlayWords.Words.{main_words}
use Rattle.view_plays.specs.Deciding.{decided_of, OpensFor, LeavesAny}
use Rattle.view_plays.proofs.CalmLemmas.{of-plan, on-plan}
use Rattle.view_plays.proofs.PlayLemmas.{draws}
use Rattle.view_plays.proofs.playing.decide_drawing.Goals as goal

pub returns-clause-decides : goal.returns-clause-decides
returns-clause-decides g c =
    draws (WasRead (g.F.Shelf.text c.args.shelf.now)) (texts_of c.args.words.now) c.args.drawing.now c.in_ok-decided.decided (decided_of c.in_ok-reply_to.field-0) c.requires
    (subst (λ ws. Decides (WasRead (g.F.Shelf.text c.args.shelf.now)) ws (decision_of c.in_ok-decided.decided)) (ap texts_of c.deref.ensures.value ∙ (c.in_ok-main.ensures ∙ ap (λ (xs : List Setting). main_words (texts_of c.args.words.now) xs) c.as_slice.ensures)) c.in_ok-decided.ensures.decides)
    c.in_ok-reply_to.ensures.replies

pub returns-in_err-main-clause-reads : goal.returns-in_err-main-clause-reads
returns-in_err-main-clause-reads g c =
    let p = err_from_is_err_and c.from_residual.result c.from_residual.ensures.1 in
    rw (p.1, p.2) (record { texts = λ n. refl; opened = inl refl; last = tt; calm = tt; stopped = refl })

pub returns-in_err-decided-clause-reads : goal.returns-in_err-decided-clause-reads
returns-in_err-decided-clause-reads g c =
    let p = err_from_is_err_and c.from_residual-in_err-decided.result c.from_residual-in_err-decided.ensures.1 in
    rw (p.1, p.2) (reads-stopped g.F.Shelf.text g.F.Shelf.left g.F.Shelf.opens g.F.Shelf.faults g.F.Shelf.failed
    (OpensInTurn (WasRead (g.F.Shelf.text c.args.shelf.now)) (texts_of c.deref.result.now)) (OpensFor (WasRead (g.F.Shelf.text c.args.shelf.now)) (texts_of c.args.words.now))
    (OfEach (ReadLast (g.F.Shelf.text c.args.shelf.now) (texts_of c.deref.result.now))) LeavesAny _ _ _ c.in_err-decided.ensures.reads
    (λ o. inr (c.args.drawing.now, c.requires, subst (λ ws. OpensInTurn (WasRead (g.F.Shelf.text c.args.shelf.now)) ws (g.F.Shelf.opens c.args.shelf.now) (g.F.Shelf.opens c.decide_words.new.shelf)) (ap texts_of c.deref.ensures.value ∙ (c.in_ok-main.ensures ∙ ap (λ (xs : List Setting). main_words (texts_of c.args.words.now) xs) c.as_slice.ensures)) o)))

pub returns-in_err-reply_to-clause-reads : goal.returns-in_err-reply_to-clause-reads
returns-in_err-reply_to-clause-reads g c =
    let p = err_from_is_err_and c.from_residual-in_err-reply_to.result c.from_residual-in_err-reply_to.ensures.1 in
    rw p.1 (reads-starved g.F.Shelf.text g.F.Shelf.left g.F.Shelf.opens g.F.Shelf.faults g.F.Shelf.failed
    (OpensInTurn (WasRead (g.F.Shelf.text c.args.shelf.now)) (texts_of c.deref.result.now)) (OpensFor (WasRead (g.F.Shelf.text c.args.shelf.now)) (texts_of c.args.words.now))
    (OfEach (ReadLast (g.F.Shelf.text c.args.shelf.now) (texts_of c.deref.result.now))) LeavesAny _ _ _ _ _ c.in_ok-decided.ensures.reads p.2
    (λ o. inr (c.args.drawing.now, c.requires, subst (λ ws. OpensInTurn (WasRead (g.F.Shelf.text c.args.shelf.now)) ws (g.F.Shelf.opens c.args.shelf.now) (g.F.Shelf.opens c.decide_words.new.shelf)) (ap texts_of c.deref.ensures.value ∙ (c.in_ok-main.ensures ∙ ap (λ (xs : List Setting). main_words (texts_of c.args.words.now) xs) c.as_slice.ensures)) o)))

pub returns-clause-reads : goal.returns-clause-reads
returns-clause-reads g c =
    reads-for g.F.Shelf.text g.F.Shelf.left g.F.Shelf.opens g.F.Shelf.faults g.F.Shelf.failed
    (OpensInTurn (WasRead (g.F.Shelf.text c.args.shelf.now)) (texts_of c.deref.result.now)) (OpensFor (WasRead (g.F.Shelf.text c.args.shelf.now)) (texts_of c.args.words.now))
    (OfEach (ReadLast (g.F.Shelf.text c.args.shelf.now) (texts_of c.deref.result.now))) LeavesAny _ _ _ _ c.in_ok-decided.ensures.reads
    (λ o. inr (c.args.drawing.now, c.requires, subst (λ ws. OpensInTurn (WasRead (g.F.Shelf.text c.args.shelf.now)) ws (g.F.Shelf.opens c.args.shelf.now) (g.F.Shelf.opens c.decide_words.new.shelf)) (ap texts_of c.deref.ensures.value ∙ (c.in_ok-main.ensures ∙ ap (λ (xs : List Setting). main_words (texts_of c.args.words.now) xs) c.as_slice.ensures)) o)) (λ l. tt)

pub reply_to-requires : goal.reply_to-requires
reply_to-requires g c =
    on-plan c.in_ok-decided.decided (of-plan (WasRead (g.F.Shelf.text c.args.shelf.now)) _ (texts_of c.deref.result.now) _ (ap texts_of c.deref.ensures.value ∙ (c.in_ok-main.ensures ∙ ap (λ (xs : List Setting). main_words (texts_of c.args.words.now) xs) c.as_slice.ensures)) c.in_ok-decided.ensures.decides) c.in_ok-decided.ensures.playable
