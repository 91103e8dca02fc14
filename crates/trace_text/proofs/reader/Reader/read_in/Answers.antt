use Rattle.std.proofs.Common.{inl, inr, not, ap, ◌∙◌, arith}
use Rattle.trace_text.proofs.Forms.{in_none, in_taken, is_above, not_above}
use Rattle.trace_text.proofs.reader.Reader.read_in.Goals as goal

pub returns-then-is_none : goal.returns-then-is_none
returns-then-is_none c =
    in_none c.args.self.now c.args.plan.now c.args.word.now (λ bytes e. inl (c.is_none.ensures ∙ ap not c.if-is_none.true))

pub returns-then-self-gt-STREAM_BYTES : goal.returns-then-self-gt-STREAM_BYTES
returns-then-self-gt-STREAM_BYTES c =
    in_none c.args.self.now c.args.plan.now c.args.word.now (λ bytes e. inr (is_above 81920 _ (omega arith)))

pub returns-in-None : goal.returns-in-None
returns-in-None c =
    let long = rw c.in-None.is at c.in_ok-bytes.ensures in
    in_none c.args.self.now c.args.plan.now c.args.word.now (λ bytes e. inr (is_above 81920 _ (let longer = long bytes e in omega arith)))

pub returns : goal.returns
returns c =
    let read = rw c.in-Some.is at c.in_ok-bytes.ensures in
    let fits = read.1 in
    rw (c.in_ok-extend_from_slice.ensures.ok, c.as_slice.ensures, c.len.ensures) (in_taken c.args.self.now c.args.plan.now c.args.word.now c.in-Some.bytes read.0 (c.is_none.ensures ∙ ap not c.if-is_none.false) (not_above 81920 _ (omega arith)))
