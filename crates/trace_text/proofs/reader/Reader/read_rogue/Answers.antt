use Rattle.std.proofs.Common.{◌≡◌, inl, inr, sym, ◌∙◌}
use Rattle.std.proofs.lemmas.Bool.{lt-leb, le-leb}
use Rattle.line_text.specs.Texts.{words_of}
use Rattle.trace_text.proofs.Acting.{rogue_none, rogue_taken, no_rogue, has_acts}
use Rattle.trace_text.proofs.reader.Reader.read_rogue.Goals as goal

pub returns-in-None : goal.returns-in-None
returns-in-None c = rogue_none c.args.self.now c.args.plan.now c.args.class.now c.args.client.now (words_of c.args.words.now) (λ class n act k m a. absurd (let told = c.in-None.ensures in cc))

pub returns-in-None-read_below : goal.returns-in-None-read_below
returns-in-None-read_below c =
    rogue_none c.args.self.now c.args.plan.now c.args.class.now c.args.client.now (words_of c.args.words.now) (λ class n act k m a. inl (let told = c.in-Some.ensures in let same : class ≡ c.in-Some.class = cc in
    rw same (no_rogue c.args.plan.now c.in-Some.class n (rw c.client_count.ensures at (c.in-None-read_below.ensures.none n m)))))

pub returns-then-not-is_rogue : goal.returns-then-not-is_rogue
returns-then-not-is_rogue c =
    rogue_none c.args.self.now c.args.plan.now c.args.class.now c.args.client.now (words_of c.args.words.now) (λ class n act k m a. inl (let told = c.in-Some.ensures in let same : class ≡ c.in-Some.class = cc in
    let counted = c.in-Some-read_below.ensures.some in let same_client : n ≡ c.in-Some-read_below.client = cc in
    rw (same, same_client) (sym c.is_rogue.ensures ∙ c.if-not-is_rogue.true)))

pub returns-then-self-ge-LINES : goal.returns-then-self-ge-LINES
returns-then-self-ge-LINES c = rogue_none c.args.self.now c.args.plan.now c.args.class.now c.args.client.now (words_of c.args.words.now) (λ class n act k m a. inr (le-leb 1024 _ c.if-self-ge-LINES.true))

pub returns-in-None-read_act : goal.returns-in-None-read_act
returns-in-None-read_act c =
    rogue_none c.args.self.now c.args.plan.now c.args.class.now c.args.client.now (words_of c.args.words.now) (λ class n act k m a. absurd (let told = c.in-Some.ensures in let same : class ≡ c.in-Some.class = cc in let none = c.in-None-read_act.ensures in let some = rw same at a in cc))

pub keep_act-requires : goal.keep_act-requires
keep_act-requires c = rw (has_acts c.args.plan.now c.args.self.now c.in-Some.class c.requires, ← c.client_count.ensures) c.in-Some-read_below.ensures.some.1

pub returns : goal.returns
returns c =
    rw c.in_ok-keep_act.ensures (rogue_taken c.args.self.now c.args.plan.now c.args.class.now c.args.client.now (words_of c.args.words.now) c.in-Some.class c.in-Some-read_below.client c.in-Some-read_act.act (sym c.in-Some.ensures) c.in-Some-read_below.ensures.some.0 (sym c.in-Some-read_act.ensures) (sym c.is_rogue.ensures ∙ c.if-not-is_rogue.false) (lt-leb 1024 _ c.if-self-ge-LINES.false))
