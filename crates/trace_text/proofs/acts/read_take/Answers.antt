use Rattle.std.proofs.Common.{sym}
use Rattle.trace_text.proofs.Acting.{take_none, take_all, take_more}
use Rattle.trace_text.proofs.acts.read_take.Goals as goal

pub returns-in_err-read_input-in-None : goal.returns-in_err-read_input-in-None
returns-in_err-read_input-in-None c = rw (c.from_residual.ensures, c.in-None.ensures.parts) (sym (take_none c.args.class c.args.words.now (sym c.in_err-read_input-in-None.ensures)))

pub returns-in-Some : goal.returns-in-Some
returns-in-Some c = rw c.in-Some.ensures.parts (sym (take_more c.args.class c.in-Some.field-0.0.now c.in-Some.field-0.1.now))

pub returns-in_ok-read_input-in-None : goal.returns-in_ok-read_input-in-None
returns-in_ok-read_input-in-None c = rw c.in-None.ensures.parts (sym (take_all c.args.class c.args.words.now c.in_ok-read_input-in-None.field-0 (sym c.in_ok-read_input-in-None.ensures)))
