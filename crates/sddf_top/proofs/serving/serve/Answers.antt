use Rattle.sddf_top.proofs.ServeLemmas.{served}
use Rattle.sddf_top.proofs.serving.serve.Goals as goal

pub returns : goal.returns
returns g c =
    served g.F.Shelf.text g.F.Shelf.left g.F.Shelf.opens g.F.Shelf.faults g.F.Shelf.failed g.K.Sink.written g.K.Sink.faults g.K.Sink.failed _ _ _ _ _ _ _ _ (record {
      answers = c.answer_words-answer.ensures.answer;
      reads = c.answer_words-answer.ensures.reads;
      command = c.answer_words-answer.ensures.command;
      unread = c.answer_words-answer.ensures.unread;
    })
    c.tell.ensures
