use Rattle.std.proofs.Common.{◌≡◌, ◌%◌, inl, inr, not, is_some, eqb, refl, ap, ◌∙◌, arith}
use Rattle.std.proofs.lemmas.Bool.{lt-leb}
use Rattle.trace_text.proofs.Judged.{and_left, and_right}
use Rattle.trace_text.proofs.Forms.{disk_none, disk_taken, is_disk_all, is_above, not_above}
use Rattle.line_text.proofs.Pieces.{not_equal}
use Rattle.trace_text.proofs.reader.Reader.read_disk.Goals as goal

pub returns-then-is_none : goal.returns-then-is_none
returns-then-is_none c =
    disk_none c.args.self.now c.args.plan.now c.args.word.now (λ n e. inl (rw (c.is_none.ensures ∙ ap not c.if-is_none.true) refl))

pub returns-then-self-gt0 : goal.returns-then-self-gt0
returns-then-self-gt0 c =
    disk_none c.args.self.now c.args.plan.now c.args.word.now (λ n e. inr (is_above 0 _ c.if-self-gt0.true))

pub returns-in-None : goal.returns-in-None
returns-in-None c =
    disk_none c.args.self.now c.args.plan.now c.args.word.now (λ n e. inl (and_right _ _ (lt-leb n 65536 (let from = c.in-None.ensures.none n e in omega arith))))

pub returns-then-sectors-lt8 : goal.returns-then-sectors-lt8
returns-then-sectors-lt8 c =
    disk_none c.args.self.now c.args.plan.now c.args.word.now (λ n e. inl (and_left _ _ (and_right _ _ (lt-leb 8 n (let told = c.in-Some.ensures.some in let same : n ≡ c.in-Some.sectors = cc in omega arith)))))

pub returns-then-sectors-ne0 : goal.returns-then-sectors-ne0
returns-then-sectors-ne0 c =
    disk_none c.args.self.now c.args.plan.now c.args.word.now (λ n e. inl (and_left _ _ (and_left _ _ (and_right (is_some c.args.plan.now.blk) (eqb (n % 8) 0) (let told = c.in-Some.ensures.some in let same : n ≡ c.in-Some.sectors = cc in not_equal (n % 8) 0 (rw same c.if-sectors-ne0.true))))))

pub returns : goal.returns
returns c =
    let most = c.in-Some.ensures.some.1 in
    rw (c.from_vec.ensures, c.in_ok-vec.ensures.items_if_clones_equal (λ y same. same)) (disk_taken c.args.self.now c.args.plan.now c.args.word.now c.in-Some.sectors c.in-Some.ensures.some.0 (is_disk_all c.args.plan.now c.in-Some.sectors (c.is_none.ensures ∙ ap not c.if-is_none.false) c.if-sectors-ne0.false c.if-sectors-lt8.false (omega arith)) (not_above 0 _ c.if-self-gt0.false))
