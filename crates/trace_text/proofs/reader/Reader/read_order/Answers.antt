use Rattle.std.proofs.Common.{◌≡◌, inl, inr, sym, ◌∙◌}
use Rattle.std.proofs.lemmas.Bool.{lt-leb, le-leb}
use Rattle.trace_text.proofs.Forms.{order_none, order_taken, no_script}
use Rattle.trace_text.proofs.reader.Reader.read_order.Goals as goal

pub returns-in-None : goal.returns-in-None
returns-in-None c =
    order_none c.args.self.now c.args.plan.now c.args.client.now c.args.order.now (λ n code m e. inl (no_script c.args.plan.now n (rw c.blk_client_count.ensures at (c.in-None.ensures.none n m))))

pub returns-in-None-order_code : goal.returns-in-None-order_code
returns-in-None-order_code c =
    order_none c.args.self.now c.args.plan.now c.args.client.now c.args.order.now (λ n code m e. absurd (let told = c.in-None-order_code.ensures in cc))

pub returns-then-not-is_script : goal.returns-then-not-is_script
returns-then-not-is_script c =
    order_none c.args.self.now c.args.plan.now c.args.client.now c.args.order.now (λ n code m e. inl (let told = c.in-Some.ensures.some in let same : n ≡ c.in-Some.client = cc in rw same (sym c.is_script.ensures ∙ c.if-not-is_script.true)))

pub returns-then-self-ge-LINES : goal.returns-then-self-ge-LINES
returns-then-self-ge-LINES c =
    order_none c.args.self.now c.args.plan.now c.args.client.now c.args.order.now (λ n code m e. inr (le-leb 1024 _ c.if-self-ge-LINES.true))

pub returns : goal.returns
returns c =
    rw (c.in_ok-add_item.ensures, c.new.ensures) (order_taken c.args.self.now c.args.plan.now c.args.client.now c.args.order.now c.in-Some.client c.in-Some-order_code.code c.in-Some.ensures.some.0 (sym c.in-Some-order_code.ensures) (sym c.is_script.ensures ∙ c.if-not-is_script.false) (lt-leb 1024 _ c.if-self-ge-LINES.false))
