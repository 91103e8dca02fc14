use Rattle.std.proofs.Common.{◌∙◌, arith}
use Rattle.decision_core.specs.ShelfCore.Reading.{Behind}
use Rattle.decision_core.proofs.ShelfCore.ReadLemmas.{HasRead-more, read-full, read-ended, left-full, left-ended}
use Rattle.decision_core.proofs.shelf_core.reading.read_text.Goals as goal
use Rattle.decision_core.proofs.shelf_core.reading.read_text.Goals.{else-loop-text-test, then-loop-text-test+in_ok-read_piece+then-branch-eq0}

pub loop-text-preserved : goal.loop-text-preserved
loop-text-preserved g c = record {
  texts = λ n. c.in_ok-read_piece.ensures.reads.texts n ∙ c.loop-text.invariant.texts n;
  opens = c.in_ok-read_piece.ensures.reads.opened ∙ c.loop-text.invariant.opens;
  calm = c.in_ok-read_piece.ensures.reads.calm ∙ c.loop-text.invariant.calm;
  read = HasRead-more _ _ _ _ _ _ c.loop-text.invariant.read c.in_ok-read_piece.ensures.reads.last;
  within = omega (arith, c.in_ok-read_piece.ensures.more, c.in_ok-read_piece.ensures.within, c.len-most.ensures, c.len.ensures);
}

pub returns-clause-bytes : goal.returns-clause-bytes
returns-clause-bytes g c =
    elim c.loop-text-test.branch [
      | else-loop-text-test w ↦ rw w.text-is (read-full 16777217 _ _ _ (omega (arith, c.loop-text.invariant.within, c.len.ensures)) c.loop-text.invariant.read)
      | then-loop-text-test+in_ok-read_piece+then-branch-eq0 w ↦ rw w.text-is (read-ended 16777217 _ _ _ _ _ _ w.if-branch-eq0.true c.loop-text.invariant.within c.loop-text.invariant.read w.in_ok-read_piece.ensures.reads.last)
    ]

pub returns-clause-reads : goal.returns-clause-reads
unfolding Behind
returns-clause-reads g c =
    elim c.loop-text-test.branch [
      | else-loop-text-test w ↦ rw w.shelf-is (record {
        texts = c.loop-text.invariant.texts;
        opened = c.loop-text.invariant.opens;
        last = left-full 16777217 _ _ _ (omega (arith, c.loop-text.invariant.within, c.len.ensures)) c.loop-text.invariant.read;
        calm = c.loop-text.invariant.calm;
        stopped = tt;
      })
      | then-loop-text-test+in_ok-read_piece+then-branch-eq0 w ↦ rw w.shelf-is (record {
        texts = λ n. w.in_ok-read_piece.ensures.reads.texts n ∙ c.loop-text.invariant.texts n;
        opened = w.in_ok-read_piece.ensures.reads.opened ∙ c.loop-text.invariant.opens;
        last = left-ended 16777217 _ _ _ _ _ _ w.if-branch-eq0.true c.loop-text.invariant.within c.loop-text.invariant.read w.in_ok-read_piece.ensures.reads.last;
        calm = w.in_ok-read_piece.ensures.reads.calm ∙ c.loop-text.invariant.calm;
        stopped = tt;
      })
    ]
