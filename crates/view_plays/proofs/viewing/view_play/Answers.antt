use Rattle.std.proofs.Common.{refl}
use Rattle.command_words.specs.Words.{texts_of}
use Rattle.decision_core.specs.ShelfCore.Reading.{WasRead}
use Rattle.view_plays.specs.Deciding.{decided_of}
use Rattle.view_plays.specs.Viewed.{unread, unmade}
use Rattle.view_plays.proofs.CalmLemmas.{answered-calm}
use Rattle.view_plays.proofs.ReplyLemmas.{written-draws}
use Rattle.view_plays.proofs.viewing.view_play.Goals as goal

pub returns-in-Ok : goal.returns-in-Ok
returns-in-Ok g c = record {
  draws = written-draws g.K.Sink.written g.K.Sink.faults g.K.Sink.failed g.E.Sink.written g.E.Sink.faults g.E.Sink.failed
      (WasRead (g.F.Shelf.text c.args.shelf.now)) (texts_of c.args.words.now) (decided_of c.in-Ok.reply) _ _ _ _ _ _ c.in-Ok.ensures.decides c.decide_play.ensures.told c.write_reply.ensures.written;
  opened = c.in-Ok.ensures.reads.opened;
  read_fault = λ e. absurd (answered-calm (WasRead (g.F.Shelf.text c.args.shelf.now)) (texts_of c.args.words.now) (decided_of c.in-Ok.reply) _ c.in-Ok.ensures.decides c.write_reply.ensures.ends e);
  read_calm = λ n. c.in-Ok.ensures.reads.calm;
  texts = c.in-Ok.ensures.reads.texts;
}

pub returns-in-Err-Failed : goal.returns-in-Err-Failed
returns-in-Err-Failed g c =
    let h = rw c.in-Err-Failed.field-0-is at c.in-Err-Failed.ensures.reads in
    record {
      draws = unread refl c.decide_play.ensures.told;
      opened = h.opened;
      read_fault = λ e. h.stopped;
      read_calm = λ n. absurd (n refl);
      texts = h.texts;
    }

pub returns-in-Err-Memory : goal.returns-in-Err-Memory
returns-in-Err-Memory g c =
    let h = rw c.in-Err-Memory.field-0-is at c.in-Err-Memory.ensures.reads in
    record {
      draws = unmade c.in-Err-Memory.memory refl c.decide_play.ensures.told;
      opened = h.opened;
      read_fault = λ e. cc e;
      read_calm = λ n. h.stopped;
      texts = h.texts;
    }
