use Rattle.std.proofs.Common.{◌≡◌, inl, inr, not, ap, ◌∙◌, arith}
use Rattle.trace_text.proofs.Forms.{bytes_none, bytes_taken, patch_without_disk, patch_outside, patch_inside}
use Rattle.trace_text.proofs.reader.Reader.read_bytes.Goals as goal

pub returns-then-is_none : goal.returns-then-is_none
returns-then-is_none c =
    bytes_none c.args.self.now c.args.plan.now c.args.place.now c.args.word.now (λ at bytes n e. inl (c.is_none.ensures ∙ ap not c.if-is_none.true))

pub returns-then-self-eq0 : goal.returns-then-self-eq0
returns-then-self-eq0 c =
    bytes_none c.args.self.now c.args.plan.now c.args.place.now c.args.word.now (λ at bytes n e. inr (patch_without_disk c.args.self.now at bytes c.if-self-eq0.true))

pub returns-in-None : goal.returns-in-None
returns-in-None c =
    bytes_none c.args.self.now c.args.plan.now c.args.place.now c.args.word.now (λ at bytes n e. inr (patch_outside c.args.self.now at bytes (let large = c.in-None.ensures.none at n in omega (arith, c.len-end.ensures))))

pub returns-then-at-end : goal.returns-then-at-end
returns-then-at-end c =
    bytes_none c.args.self.now c.args.plan.now c.args.place.now c.args.word.now (λ at bytes n e. inr (patch_outside c.args.self.now at bytes (let told = c.in-Some.ensures.some in let same : at ≡ c.in-Some.at = cc in omega (arith, c.len-end.ensures))))

pub returns-in-None-2 : goal.returns-in-None-2
returns-in-None-2 c =
    let long = rw c.in-None-2.is at c.in_ok-bytes.ensures in
    bytes_none c.args.self.now c.args.plan.now c.args.place.now c.args.word.now (λ at bytes n e. inr (patch_outside c.args.self.now at bytes (let longer = long bytes e in let told = c.in-Some.ensures.some in let same : at ≡ c.in-Some.at = cc in omega (arith, c.len-end.ensures))))

pub returns : goal.returns
returns c =
    let read = rw c.in-Some-2.is at c.in_ok-bytes.ensures in
    let fits = read.1 in
    rw (c.replace.ensures, c.as_slice.ensures) (bytes_taken c.args.self.now c.args.plan.now c.args.place.now c.args.word.now c.in-Some.at c.in-Some-2.bytes c.in-Some.ensures.some read.0 (c.is_none.ensures ∙ ap not c.if-is_none.false) (patch_inside c.args.self.now c.in-Some.at c.in-Some-2.bytes c.if-self-eq0.false (omega (arith, c.len-end.ensures))))
