use Rattle.std.proofs.Common.{◌≡◌, inl, inr, refl, sym, ◌∙◌, arith}
use Rattle.std.proofs.lemmas.Bool.{lt-leb, le-leb}
use Rattle.trace_text.specs.Events.{is_script, is_reach}
use Rattle.trace_text.proofs.Judged.{and_left, and_right}
use Rattle.trace_text.proofs.Forms.{read_none, read_taken, no_script, is_reach_all, no_blocks}
use Rattle.trace_text.proofs.reader.Reader.read_read.Goals as goal

pub returns-in-None : goal.returns-in-None
returns-in-None c =
    read_none c.args.self.now c.args.plan.now c.args.client.now c.args.first.now c.args.many.now (λ n block count m b k. inl (and_left _ _ (no_script c.args.plan.now n (rw c.blk_client_count.ensures at (c.in-None.ensures.none n m)))))

pub returns-in-None-read_below : goal.returns-in-None-read_below
returns-in-None-read_below c =
    read_none c.args.self.now c.args.plan.now c.args.client.now c.args.first.now c.args.many.now (λ n block count m b k. inl (and_right _ _ (and_left _ _ (and_left _ _ (lt-leb block 4294967295 (let from = c.in-None-read_below.ensures.none block b in omega arith))))))

pub returns-in-None-read_below-2 : goal.returns-in-None-read_below-2
returns-in-None-read_below-2 c =
    read_none c.args.self.now c.args.plan.now c.args.client.now c.args.first.now c.args.many.now (λ n block count m b k. inl (and_right _ _ (and_right _ _ (lt-leb count 8 (let from = c.in-None-read_below-2.ensures.none count k in omega arith)))))

pub returns-then-count-eq0 : goal.returns-then-count-eq0
returns-then-count-eq0 c =
    read_none c.args.self.now c.args.plan.now c.args.client.now c.args.first.now c.args.many.now (λ n block count m b k. inl (and_right (is_script c.args.plan.now n) (is_reach block count) (let told = c.in-Some-read_below-2.ensures.some in let same : count ≡ c.in-Some-read_below-2.count = cc in no_blocks block count (same ∙ c.if-count-eq0.true))))

pub returns-then-not-is_script : goal.returns-then-not-is_script
returns-then-not-is_script c =
    read_none c.args.self.now c.args.plan.now c.args.client.now c.args.first.now c.args.many.now (λ n block count m b k. inl (and_left (is_script c.args.plan.now n) (is_reach block count) (let told = c.in-Some.ensures.some in let same : n ≡ c.in-Some.client = cc in rw same (sym c.is_script.ensures ∙ c.if-not-is_script.true))))

pub returns-then-self-ge-LINES : goal.returns-then-self-ge-LINES
returns-then-self-ge-LINES c =
    read_none c.args.self.now c.args.plan.now c.args.client.now c.args.first.now c.args.many.now (λ n block count m b k. inr (le-leb 1024 _ c.if-self-ge-LINES.true))

pub returns : goal.returns
returns c =
    let there = sym c.is_script.ensures ∙ c.if-not-is_script.false in
    let reach = is_reach_all c.in-Some-read_below.block c.in-Some-read_below-2.count c.in-Some-read_below.ensures.some.1 (omega arith) c.in-Some-read_below-2.ensures.some.1 in
    rw (c.in_ok-add_item.ensures, c.new.ensures) (read_taken c.args.self.now c.args.plan.now c.args.client.now c.args.first.now c.args.many.now c.in-Some.client c.in-Some-read_below.block c.in-Some-read_below-2.count c.in-Some.ensures.some.0 c.in-Some-read_below.ensures.some.0 c.in-Some-read_below-2.ensures.some.0 (rw (there, reach) refl) (lt-leb 1024 _ c.if-self-ge-LINES.false))
