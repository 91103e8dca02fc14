use Rattle.std.proofs.Common.{◌≡◌, Some, None, refl, sym, ◌∙◌}
use Rattle.line_text.proofs.PortsText.Words.{no_frame, not_frame, some_frame}
use Rattle.line_text.proofs.ports_text.line.read_frame.Goals as goal

pub returns-in-None : goal.returns-in-None
returns-in-None c = let long = rw c.in-None.is at c.in_ok-frame.ensures in sym (no_frame c.args.word.now long)

pub returns-then-not-is_frame : goal.returns-then-not-is_frame
returns-then-not-is_frame c =
    let read = rw c.in-Some.is at c.in_ok-frame.ensures in
    sym (not_frame c.args.word.now c.in-Some.frame read.0 (rw c.as_slice.ensures at (sym c.is_frame.ensures ∙ c.if-not-is_frame.true)))

pub returns : goal.returns
returns c =
    let read = rw c.in-Some.is at c.in_ok-frame.ensures in
    sym (some_frame c.args.word.now c.in-Some.frame read.0 (rw c.as_slice.ensures at (sym c.is_frame.ensures ∙ c.if-not-is_frame.false)))
