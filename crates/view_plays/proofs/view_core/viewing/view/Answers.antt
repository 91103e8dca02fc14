use Rattle.std.proofs.Common.{refl}
use Rattle.command_words.specs.Words.{texts_of}
use Rattle.decision_core.specs.ShelfCore.Reading.{WasRead}
use Rattle.view_plays.specs.ViewCore.Deciding.{decision_of}
use Rattle.view_plays.specs.ViewCore.Viewed.{unread, unmade}
use Rattle.view_plays.proofs.ViewCore.ViewLemmas.{answered-calm}
use Rattle.view_plays.proofs.ViewCore.WrittenLemmas.{written-views}
use Rattle.view_plays.proofs.view_core.viewing.view.Goals as goal

pub returns-in-Ok : goal.returns-in-Ok
returns-in-Ok g c = record {
  views = written-views g.K.Sink.written g.K.Sink.faults g.K.Sink.failed g.E.Sink.written g.E.Sink.faults g.E.Sink.failed
      (WasRead (g.F.Shelf.text c.args.shelf.now)) (texts_of c.args.words.now) (decision_of c.in-Ok.answer) _ _ _ _ _ c.in-Ok.ensures.decides c.write_answer.ensures.written;
  opened = c.in-Ok.ensures.reads.opened;
  read_fault = λ e. absurd (answered-calm (WasRead (g.F.Shelf.text c.args.shelf.now)) (texts_of c.args.words.now) (decision_of c.in-Ok.answer) _ c.in-Ok.ensures.decides c.write_answer.ensures.ends e);
  read_calm = λ n. c.in-Ok.ensures.reads.calm;
  texts = c.in-Ok.ensures.reads.texts;
}

pub returns-in-Err-Failed : goal.returns-in-Err-Failed
returns-in-Err-Failed g c =
    let h = rw c.in-Err-Failed.field-0-is at c.in-Err-Failed.ensures.reads in
    record {
      views = unread refl refl;
      opened = h.opened;
      read_fault = λ e. h.stopped;
      read_calm = λ n. absurd (n refl);
      texts = h.texts;
    }

pub returns-in-Err-Memory : goal.returns-in-Err-Memory
returns-in-Err-Memory g c =
    let h = rw c.in-Err-Memory.field-0-is at c.in-Err-Memory.ensures.reads in
    record {
      views = unmade c.in-Err-Memory.memory refl refl;
      opened = h.opened;
      read_fault = λ e. cc e;
      read_calm = λ n. h.stopped;
      texts = h.texts;
    }
