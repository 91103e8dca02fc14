use Rattle.std.proofs.Common.{◌≡◌, ◌*◌, ◌&&◌, inl, inr, eqb, length, refl, sym, ◌∙◌, arith}
use Rattle.std.proofs.lemmas.Bool.{lt-leb, le-leb}
use Rattle.trace_text.specs.Events.{is_script, is_reach}
use Rattle.trace_text.proofs.Judged.{and_left, and_right}
use Rattle.trace_text.proofs.Forms.{write_none, write_taken, no_script, is_reach_all, no_blocks, equal_length}
use Rattle.line_text.proofs.Pieces.{not_equal}
use Rattle.trace_text.proofs.reader.Reader.read_write.Goals as goal

pub returns-in-None : goal.returns-in-None
returns-in-None c =
    write_none c.args.self.now c.args.plan.now c.args.client.now c.args.first.now c.args.many.now c.args.word.now (λ n block count bytes m b k e. inl (and_left _ _ (and_left _ _ (no_script c.args.plan.now n (rw c.blk_client_count.ensures at (c.in-None.ensures.none n m))))))

pub returns-in-None-read_below : goal.returns-in-None-read_below
returns-in-None-read_below c =
    write_none c.args.self.now c.args.plan.now c.args.client.now c.args.first.now c.args.many.now c.args.word.now (λ n block count bytes m b k e. inl (and_left _ _ (and_right _ _ (and_left _ _ (and_left _ _ (lt-leb block 4294967295 (let from = c.in-None-read_below.ensures.none block b in omega arith)))))))

pub returns-in-None-read_below-2 : goal.returns-in-None-read_below-2
returns-in-None-read_below-2 c =
    write_none c.args.self.now c.args.plan.now c.args.client.now c.args.first.now c.args.many.now c.args.word.now (λ n block count bytes m b k e. inl (and_left _ _ (and_right _ _ (and_right _ _ (lt-leb count 8 (let from = c.in-None-read_below-2.ensures.none count k in omega arith))))))

pub returns-then-count-eq0 : goal.returns-then-count-eq0
returns-then-count-eq0 c =
    write_none c.args.self.now c.args.plan.now c.args.client.now c.args.first.now c.args.many.now c.args.word.now (λ n block count bytes m b k e. inl (and_left _ _ (and_right (is_script c.args.plan.now n) (is_reach block count) (let told = c.in-Some-read_below-2.ensures.some in let same : count ≡ c.in-Some-read_below-2.count = cc in no_blocks block count (same ∙ c.if-count-eq0.true)))))

pub returns-then-not-is_script : goal.returns-then-not-is_script
returns-then-not-is_script c =
    write_none c.args.self.now c.args.plan.now c.args.client.now c.args.first.now c.args.many.now c.args.word.now (λ n block count bytes m b k e. inl (and_left _ _ (and_left (is_script c.args.plan.now n) (is_reach block count) (let told = c.in-Some.ensures.some in let same : n ≡ c.in-Some.client = cc in rw same (sym c.is_script.ensures ∙ c.if-not-is_script.true)))))

pub returns-then-self-ge-LINES : goal.returns-then-self-ge-LINES
returns-then-self-ge-LINES c =
    write_none c.args.self.now c.args.plan.now c.args.client.now c.args.first.now c.args.many.now c.args.word.now (λ n block count bytes m b k e. inr (le-leb 1024 _ c.if-self-ge-LINES.true))

pub returns-in-None-2 : goal.returns-in-None-2
returns-in-None-2 c =
    let long = rw c.in-None-2.is at c.in_ok-fill.ensures in
    write_none c.args.self.now c.args.plan.now c.args.client.now c.args.first.now c.args.many.now c.args.word.now (λ n block count bytes m b k e. inl (and_right (is_script c.args.plan.now n && is_reach block count) (eqb (length bytes) (count * 4096)) (let told = c.in-Some-read_below-2.ensures.some in let same : count ≡ c.in-Some-read_below-2.count = cc in let longer = long bytes e in not_equal (length bytes) (count * 4096) (λ is. absurd (omega arith)))))

pub returns-then-len-count : goal.returns-then-len-count
returns-then-len-count c =
    let read = rw c.in-Some-2.is at c.in_ok-fill.ensures in
    write_none c.args.self.now c.args.plan.now c.args.client.now c.args.first.now c.args.many.now c.args.word.now (λ n block count bytes m b k e. inl (and_right (is_script c.args.plan.now n && is_reach block count) (eqb (length bytes) (count * 4096)) (let told = c.in-Some-read_below-2.ensures.some in let same : count ≡ c.in-Some-read_below-2.count = cc in let same_bytes : bytes ≡ c.in-Some-2.fill = cc in not_equal (length bytes) (count * 4096) (rw (same, same_bytes, ← c.len.ensures) c.if-len-count.true))))

pub returns : goal.returns
returns c =
    let read = rw c.in-Some-2.is at c.in_ok-fill.ensures in
    let there = sym c.is_script.ensures ∙ c.if-not-is_script.false in
    let reach = is_reach_all c.in-Some-read_below.block c.in-Some-read_below-2.count c.in-Some-read_below.ensures.some.1 (omega arith) c.in-Some-read_below-2.ensures.some.1 in
    let long = equal_length (length c.in-Some-2.fill) (c.in-Some-read_below-2.count * 4096) (sym c.len.ensures ∙ c.if-len-count.false) in
    rw c.in_ok-add_item.ensures (write_taken c.args.self.now c.args.plan.now c.args.client.now c.args.first.now c.args.many.now c.args.word.now c.in-Some.client c.in-Some-read_below.block c.in-Some-read_below-2.count c.in-Some-2.fill c.in-Some.ensures.some.0 c.in-Some-read_below.ensures.some.0 c.in-Some-read_below-2.ensures.some.0 read.0 (rw (there, reach, long) refl) (lt-leb 1024 _ c.if-self-ge-LINES.false))
