use Rattle.std.proofs.Common.{◌≡◌, inl, inr, sym, ◌∙◌, arith}
use Rattle.trace_text.proofs.Forms.{say_none, say_taken, no_speaker, is_above, not_above}
use Rattle.trace_text.proofs.reader.Reader.read_say.Goals as goal

pub returns-in-None : goal.returns-in-None
returns-in-None c =
    say_none c.args.self.now c.args.plan.now c.args.client.now c.args.word.now (λ n bytes m e. inl (no_speaker c.args.plan.now n (rw c.serial_client_count.ensures at (c.in-None.ensures.none n m))))

pub returns-then-not-is_speaker : goal.returns-then-not-is_speaker
returns-then-not-is_speaker c =
    say_none c.args.self.now c.args.plan.now c.args.client.now c.args.word.now (λ n bytes m e. inl (let told = c.in-Some.ensures.some in let same : n ≡ c.in-Some.client = cc in rw same (sym c.is_speaker.ensures ∙ c.if-not-is_speaker.true)))

pub returns-then-self-gt-STREAM_BYTES : goal.returns-then-self-gt-STREAM_BYTES
returns-then-self-gt-STREAM_BYTES c =
    say_none c.args.self.now c.args.plan.now c.args.client.now c.args.word.now (λ n bytes m e. inr (is_above 81920 _ (omega arith)))

pub returns-in-None-2 : goal.returns-in-None-2
returns-in-None-2 c =
    let long = rw c.in-None-2.is at c.in_ok-bytes.ensures in
    say_none c.args.self.now c.args.plan.now c.args.client.now c.args.word.now (λ n bytes m e. inr (is_above 81920 _ (let longer = long bytes e in omega arith)))

pub returns : goal.returns
returns c =
    let read = rw c.in-Some-2.is at c.in_ok-bytes.ensures in
    let fits = read.1 in
    rw (c.in_ok-add_bytes.ensures, c.as_slice.ensures, c.len.ensures) (say_taken c.args.self.now c.args.plan.now c.args.client.now c.args.word.now c.in-Some.client c.in-Some-2.bytes c.in-Some.ensures.some.0 read.0 (sym c.is_speaker.ensures ∙ c.if-not-is_speaker.false) (not_above 81920 _ (omega arith)))
