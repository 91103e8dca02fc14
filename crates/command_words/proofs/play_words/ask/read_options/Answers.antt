use Rattle.std.proofs.Common.{subst, sym}
use Rattle.std.proofs.lemmas.List.{length-map}
use Rattle.command_words.specs.Words.{texts_of}
use Rattle.command_words.specs.Reading.{IsBadFrom}
use Rattle.command_words.specs.PlayWords.Reading.{HasRead, MayFollow}
use Rattle.command_words.proofs.PlayWords.SoFar.{SoFar, one-more, all-read, bad-option}
use Rattle.command_words.proofs.play_words.ask.read_options.Goals as goal

pub loop-at-preserved : goal.loop-at-preserved
loop-at-preserved c =
    subst (λ s. SoFar (texts_of c.args.words.now) c.in-Ok.next s) (sym c.in_ok-push-in-Ok.ensures.ok)
    (one-more _ _ _ _ c.in-Ok.setting c.loop-at.invariant (simp length-map c.loop-at-test.true)
    (subst (λ d. HasRead d (texts_of c.args.words.now) c.loop-at.at c.in-Ok.setting c.in-Ok.next) c.as_slice.ensures c.in-Ok.ensures.ok))

pub returns-in-Err-clause-err : goal.returns-in-Err-clause-err
returns-in-Err-clause-err c = bad-option _ _ _ c.loop-at.invariant c.in-Err.place
    (subst (λ d. IsBadFrom c.loop-at.at (MayFollow d) (texts_of c.args.words.now) c.in-Err.place) c.as_slice.ensures c.in-Err.ensures.err)

pub returns-clause-ok : goal.returns-clause-ok
returns-clause-ok c = all-read _ _ _ c.loop-at.invariant (simp length-map c.loop-at-test.false)
