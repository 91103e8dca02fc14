use Rattle.sddf_top.proofs.ServeLemmas.{served}
use Rattle.sddf_top.proofs.serving.serve_alone.Goals as goal

pub returns : goal.returns
returns g c =
    served g.F.Shelf.text g.F.Shelf.left g.F.Shelf.opens g.F.Shelf.faults g.F.Shelf.failed g.K.Sink.written g.K.Sink.faults g.K.Sink.failed _ _ _ _ _ _ _ _ (record {
      answers = c.answer_words_alone-answer.ensures.answer;
      reads = c.answer_words_alone-answer.ensures.reads;
      command = c.answer_words_alone-answer.ensures.command;
      unread = c.answer_words_alone-answer.ensures.unread;
    })
    c.tell.ensures
