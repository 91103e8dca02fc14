use Rattle.std.proofs.Common.{◌≡◌, inl, inr, not, is_some, refl, ap, sym, ◌∙◌}
use Rattle.std.proofs.lemmas.Bool.{lt-leb, le-leb}
use Rattle.frame_core.specs.Frames.{is_frame_of}
use Rattle.trace_text.specs.Limits.{frame_most}
use Rattle.trace_text.proofs.Judged.{and_left, and_right}
use Rattle.trace_text.proofs.Forms.{rx_none, rx_taken, too_long_frame}
use Rattle.trace_text.proofs.reader.Reader.read_rx.Goals as goal

pub returns-then-is_none : goal.returns-then-is_none
returns-then-is_none c =
    rx_none c.args.self.now c.args.plan.now c.args.word.now (λ frame e. inl (and_left (is_some c.args.plan.now.net) (is_frame_of frame (frame_most c.args.plan.now)) (c.is_none.ensures ∙ ap not c.if-is_none.true)))

pub returns-then-self-ge-LINES : goal.returns-then-self-ge-LINES
returns-then-self-ge-LINES c =
    rx_none c.args.self.now c.args.plan.now c.args.word.now (λ frame e. inr (le-leb 1024 _ c.if-self-ge-LINES.true))

pub returns-in-None : goal.returns-in-None
returns-in-None c =
    let long = rw c.in-None.is at c.in_ok-frame.ensures in
    rx_none c.args.self.now c.args.plan.now c.args.word.now (λ frame e. inl (and_right _ _ (too_long_frame _ frame (rw c.frame_most-most.ensures at (long frame e)))))

pub returns-then-not-is_frame : goal.returns-then-not-is_frame
returns-then-not-is_frame c =
    let read = rw c.in-Some.is at c.in_ok-frame.ensures in
    let is_frame = rw (c.as_slice.ensures, c.frame_most-most.ensures) at (sym c.is_frame.ensures ∙ c.if-not-is_frame.true) in
    rx_none c.args.self.now c.args.plan.now c.args.word.now (λ frame e. inl (and_right (is_some c.args.plan.now.net) (is_frame_of frame (frame_most c.args.plan.now)) (let same : frame ≡ c.in-Some.frame = cc in rw same is_frame)))

pub returns : goal.returns
returns c =
    let read = rw c.in-Some.is at c.in_ok-frame.ensures in
    let is_frame = rw (c.as_slice.ensures, c.frame_most-most.ensures) at (sym c.is_frame.ensures ∙ c.if-not-is_frame.false) in
    rw (c.in_ok-push.ensures.ok, c.as_slice-2.ensures) (rx_taken c.args.self.now c.args.plan.now c.args.word.now c.in-Some.frame read.0 (rw ((c.is_none.ensures ∙ ap not c.if-is_none.false), is_frame) refl) (lt-leb 1024 _ c.if-self-ge-LINES.false))
