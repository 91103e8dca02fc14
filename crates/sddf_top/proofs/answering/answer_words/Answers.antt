use Rattle.std.proofs.lemmas.Result.{err_from_is_err_and}
use Rattle.command_words.specs.Words.{texts_of}
use Rattle.decision_core.specs.ShelfCore.Reading.{WasRead}
use Rattle.decision_core.proofs.ShelfCore.ShelfLemmas.{reads-stopped, reads-for, reads-starved}
use Rattle.decision_core.specs.Decided.{decision_of, OfEach}
use Rattle.decision_core.specs.Readings.{OpensInTurn, ReadLast}
use Rattle.sddf_top.specs.Outcomes.{EndsAfter}
use Rattle.sddf_top.proofs.AnswerLemmas.{come-status}
use Rattle.sddf_top.proofs.SoundLemmas.{sound}
use Rattle.sddf_top.proofs.answering.answer_words.Goals as goal

pub answer-requires-clause-sound : goal.answer-requires-clause-sound
answer-requires-clause-sound g c κs within = sound (WasRead (g.F.Shelf.text c.args.shelf.now)) (texts_of c.args.words.now) _ c.in_ok-decided.ensures.decides

pub returns-clause-reads : goal.returns-clause-reads
returns-clause-reads g c =
    reads-for g.F.Shelf.text g.F.Shelf.left g.F.Shelf.opens g.F.Shelf.faults g.F.Shelf.failed (OpensInTurn (WasRead (g.F.Shelf.text c.args.shelf.now)) (texts_of c.args.words.now))
    (OpensInTurn (WasRead (g.F.Shelf.text c.args.shelf.now)) (texts_of c.args.words.now)) (OfEach (ReadLast (g.F.Shelf.text c.args.shelf.now) (texts_of c.args.words.now)))
    (EndsAfter (ReadLast (g.F.Shelf.text c.args.shelf.now) (texts_of c.args.words.now))) _ _ c.in_ok-decided.decided c.in_ok-answer.field-0 c.in_ok-decided.ensures.reads (λ o. o)
    (λ h. h _ (come-status (decision_of c.in_ok-decided.decided) _ _ _ c.in_ok-answer.ensures))

pub returns-in_err-decided-clause-reads : goal.returns-in_err-decided-clause-reads
returns-in_err-decided-clause-reads g c =
    let p = err_from_is_err_and c.from_residual.result c.from_residual.ensures.1 in
    rw (p.1, p.2) (reads-stopped g.F.Shelf.text g.F.Shelf.left g.F.Shelf.opens g.F.Shelf.faults g.F.Shelf.failed (OpensInTurn (WasRead (g.F.Shelf.text c.args.shelf.now)) (texts_of c.args.words.now))
    (OpensInTurn (WasRead (g.F.Shelf.text c.args.shelf.now)) (texts_of c.args.words.now)) (OfEach (ReadLast (g.F.Shelf.text c.args.shelf.now) (texts_of c.args.words.now)))
    (EndsAfter (ReadLast (g.F.Shelf.text c.args.shelf.now) (texts_of c.args.words.now))) _ _ _ c.in_err-decided.ensures.reads (λ o. o))

pub returns-in_err-answer-clause-reads : goal.returns-in_err-answer-clause-reads
returns-in_err-answer-clause-reads g c =
    let p = err_from_is_err_and c.from_residual-in_err-answer.result c.from_residual-in_err-answer.ensures.1 in
    rw p.1 (reads-starved g.F.Shelf.text g.F.Shelf.left g.F.Shelf.opens g.F.Shelf.faults g.F.Shelf.failed (OpensInTurn (WasRead (g.F.Shelf.text c.args.shelf.now)) (texts_of c.args.words.now))
    (OpensInTurn (WasRead (g.F.Shelf.text c.args.shelf.now)) (texts_of c.args.words.now)) (OfEach (ReadLast (g.F.Shelf.text c.args.shelf.now) (texts_of c.args.words.now)))
    (EndsAfter (ReadLast (g.F.Shelf.text c.args.shelf.now) (texts_of c.args.words.now))) _ _ c.in_ok-decided.decided _ _ c.in_ok-decided.ensures.reads p.2 (λ o. o))
