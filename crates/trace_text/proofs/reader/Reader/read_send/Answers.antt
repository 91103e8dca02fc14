use Rattle.std.proofs.Common.{◌≡◌, inl, inr, refl, sym, ◌∙◌}
use Rattle.std.proofs.lemmas.Bool.{lt-leb, le-leb}
use Rattle.frame_core.specs.Frames.{is_frame_of}
use Rattle.trace_text.specs.Limits.{frame_most}
use Rattle.trace_text.specs.Events.{is_source}
use Rattle.trace_text.proofs.Judged.{and_left, and_right}
use Rattle.trace_text.proofs.Forms.{send_none, send_taken, no_source, too_long_frame}
use Rattle.trace_text.proofs.reader.Reader.read_send.Goals as goal

pub returns-in-None : goal.returns-in-None
returns-in-None c =
    send_none c.args.self.now c.args.plan.now c.args.client.now c.args.word.now (λ n frame m e. inl (and_left _ _ (no_source c.args.plan.now n (rw c.net_client_count.ensures at (c.in-None.ensures.none n m)))))

pub returns-then-not-is_source : goal.returns-then-not-is_source
returns-then-not-is_source c =
    send_none c.args.self.now c.args.plan.now c.args.client.now c.args.word.now (λ n frame m e. inl (and_left (is_source c.args.plan.now n) (is_frame_of frame (frame_most c.args.plan.now)) (let told = c.in-Some.ensures.some in let same : n ≡ c.in-Some.client = cc in rw same (sym c.is_source.ensures ∙ c.if-not-is_source.true))))

pub returns-then-self-ge-LINES : goal.returns-then-self-ge-LINES
returns-then-self-ge-LINES c =
    send_none c.args.self.now c.args.plan.now c.args.client.now c.args.word.now (λ n frame m e. inr (le-leb 1024 _ c.if-self-ge-LINES.true))

pub returns-in-None-2 : goal.returns-in-None-2
returns-in-None-2 c =
    let long = rw c.in-None-2.is at c.in_ok-frame.ensures in
    send_none c.args.self.now c.args.plan.now c.args.client.now c.args.word.now (λ n frame m e. inl (and_right _ _ (too_long_frame _ frame (rw c.frame_most-most.ensures at (long frame e)))))

pub returns-then-not-is_frame : goal.returns-then-not-is_frame
returns-then-not-is_frame c =
    let read = rw c.in-Some-2.is at c.in_ok-frame.ensures in
    let is_frame = rw (c.as_slice.ensures, c.frame_most-most.ensures) at (sym c.is_frame.ensures ∙ c.if-not-is_frame.true) in
    send_none c.args.self.now c.args.plan.now c.args.client.now c.args.word.now (λ n frame m e. inl (and_right (is_source c.args.plan.now n) (is_frame_of frame (frame_most c.args.plan.now)) (let same : frame ≡ c.in-Some-2.frame = cc in rw same is_frame)))

pub returns : goal.returns
returns c =
    let read = rw c.in-Some-2.is at c.in_ok-frame.ensures in
    let is_frame = rw (c.as_slice.ensures, c.frame_most-most.ensures) at (sym c.is_frame.ensures ∙ c.if-not-is_frame.false) in
    let source = sym c.is_source.ensures ∙ c.if-not-is_source.false in
    rw (c.in_ok-add_frame.ensures, c.as_slice-2.ensures) (send_taken c.args.self.now c.args.plan.now c.args.client.now c.args.word.now c.in-Some.client c.in-Some-2.frame c.in-Some.ensures.some.0 read.0 (rw (source, is_frame) refl) (lt-leb 1024 _ c.if-self-ge-LINES.false))
