use Rattle.std.proofs.Common.{refl, sym, ◌∙◌}
use Rattle.std.proofs.lemmas.Result.{err_from_is_err_and}
use Rattle.command_words.specs.Words.{texts_of}
use Rattle.command_words.specs.declared.command.Command.TheVariants as Do
use Rattle.decision_core.proofs.DecisionLemmas.{bad-none, one-command}
use Rattle.decision_core.proofs.SettleLemmas.{settle-bad, settle-bad-starved}
use Rattle.decision_core.proofs.deciding.decide_words.Goals as goal

pub returns-in-Ok-clause-decides : goal.returns-in-Ok-clause-decides
returns-in-Ok-clause-decides g c = c.decide_command.ensures.settles.decides

pub returns-in-Ok-clause-reads : goal.returns-in-Ok-clause-reads
returns-in-Ok-clause-reads g c = c.decide_command.ensures.settles.reads

pub returns-in-Ok-clause-playable : goal.returns-in-Ok-clause-playable
returns-in-Ok-clause-playable g c = c.decide_command.ensures.settles.playable

pub returns-in-Ok-clause-command : goal.returns-in-Ok-clause-command
returns-in-Ok-clause-command g c stopped = (c.in-Ok.command, c.in-Ok.ensures.command)

pub returns-in-Ok-clause-unread : goal.returns-in-Ok-clause-unread
returns-in-Ok-clause-unread g c n is =
    let h = c.decide_command.ensures.generates n (one-command (texts_of c.args.words.now) c.in-Ok.command (Do.Gen n) c.in-Ok.ensures.command is) in h.0

pub returns-in-Ok-clause-plays : goal.returns-in-Ok-clause-plays
returns-in-Ok-clause-plays g c n is =
    let h = c.decide_command.ensures.generates n (one-command (texts_of c.args.words.now) c.in-Ok.command (Do.Gen n) c.in-Ok.ensures.command is) in h.1

pub returns-in_ok-say_usage-in-Err-clause-decides : goal.returns-in_ok-say_usage-in-Err-clause-decides
returns-in_ok-say_usage-in-Err-clause-decides g c =
    (settle-bad g.F.Shelf.text g.F.Shelf.left g.F.Shelf.opens g.F.Shelf.faults g.F.Shelf.failed (texts_of c.args.words.now) c.args.shelf.now c.in-Err.k c.in_ok-say_usage-in-Err.field-0 c.in-Err.ensures.bad c.in_ok-say_usage-in-Err.ensures).decides

pub returns-in_ok-say_usage-in-Err-clause-reads : goal.returns-in_ok-say_usage-in-Err-clause-reads
returns-in_ok-say_usage-in-Err-clause-reads g c =
    (settle-bad g.F.Shelf.text g.F.Shelf.left g.F.Shelf.opens g.F.Shelf.faults g.F.Shelf.failed (texts_of c.args.words.now) c.args.shelf.now c.in-Err.k c.in_ok-say_usage-in-Err.field-0 c.in-Err.ensures.bad c.in_ok-say_usage-in-Err.ensures).reads

pub returns-in_ok-say_usage-in-Err-clause-playable : goal.returns-in_ok-say_usage-in-Err-clause-playable
returns-in_ok-say_usage-in-Err-clause-playable g c =
    (settle-bad g.F.Shelf.text g.F.Shelf.left g.F.Shelf.opens g.F.Shelf.faults g.F.Shelf.failed (texts_of c.args.words.now) c.args.shelf.now c.in-Err.k c.in_ok-say_usage-in-Err.field-0 c.in-Err.ensures.bad c.in_ok-say_usage-in-Err.ensures).playable

pub returns-in_ok-say_usage-in-Err-clause-command : goal.returns-in_ok-say_usage-in-Err-clause-command
returns-in_ok-say_usage-in-Err-clause-command g c stopped = absurd (cc stopped)

pub returns-in_ok-say_usage-in-Err-clause-unread : goal.returns-in_ok-say_usage-in-Err-clause-unread
returns-in_ok-say_usage-in-Err-clause-unread g c n is = refl

pub returns-in_ok-say_usage-in-Err-clause-plays : goal.returns-in_ok-say_usage-in-Err-clause-plays
returns-in_ok-say_usage-in-Err-clause-plays g c n is =
    absurd (bad-none (texts_of c.args.words.now) c.in-Err.k (Do.Gen n) c.in-Err.ensures.bad is)

pub returns-in_err-say_usage-in-Err-clause-reads : goal.returns-in_err-say_usage-in-Err-clause-reads
returns-in_err-say_usage-in-Err-clause-reads g c =
    let p = err_from_is_err_and c.from_residual.result c.from_residual.ensures.1 in
    rw p.1 (settle-bad-starved g.F.Shelf.text g.F.Shelf.left g.F.Shelf.opens g.F.Shelf.faults g.F.Shelf.failed (texts_of c.args.words.now) c.args.shelf.now c.in-Err.k p.0 _ c.in-Err.ensures.bad p.2).reads

pub returns-in_err-say_usage-in-Err-clause-command : goal.returns-in_err-say_usage-in-Err-clause-command
returns-in_err-say_usage-in-Err-clause-command g c stopped =
    let p = err_from_is_err_and c.from_residual.result c.from_residual.ensures.1 in
    absurd (cc (sym p.1 ∙ stopped, p.2))

pub returns-in_err-say_usage-in-Err-clause-unread : goal.returns-in_err-say_usage-in-Err-clause-unread
returns-in_err-say_usage-in-Err-clause-unread g c n is = refl
