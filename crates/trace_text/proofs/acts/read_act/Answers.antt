use Rattle.std.proofs.Common.{sym, ◌∙◌}
use Rattle.trace_text.proofs.Acting.{act_one, act_take, act_put, act_give, act_store, act_none}
use Rattle.trace_text.proofs.acts.read_act.Goals as goal

pub returns-in_err-name : goal.returns-in_err-name
returns-in_err-name c = rw (c.from_residual.ensures, c.in_err-name.ensures.parts) (sym (act_one c.args.class c.args.words.now))

pub returns-then-same_text : goal.returns-then-same_text
returns-then-same_text c =
    rw c.in_ok-name.ensures.parts (c.read_take.ensures ∙ sym (act_take c.args.class c.in_ok-name.name.now c.in_ok-name.rest.now (sym c.same_text.ensures ∙ c.if-same_text.true)))

pub returns-then-same_text-2 : goal.returns-then-same_text-2
returns-then-same_text-2 c =
    rw c.in_ok-name.ensures.parts (c.read_put.ensures ∙ sym (act_put c.args.class c.in_ok-name.name.now c.in_ok-name.rest.now (sym c.same_text.ensures ∙ c.if-same_text.false) (sym c.same_text-2.ensures ∙ c.if-same_text-2.true)))

pub returns-then-same_text-3 : goal.returns-then-same_text-3
returns-then-same_text-3 c =
    rw c.in_ok-name.ensures.parts (c.read_give.ensures ∙ sym (act_give c.args.class c.in_ok-name.name.now c.in_ok-name.rest.now (sym c.same_text.ensures ∙ c.if-same_text.false) (sym c.same_text-2.ensures ∙ c.if-same_text-2.false) (sym c.same_text-3.ensures ∙ c.if-same_text-3.true)))

pub returns-then-same_text-4 : goal.returns-then-same_text-4
returns-then-same_text-4 c =
    rw c.in_ok-name.ensures.parts (c.read_store.ensures ∙ sym (act_store c.args.class c.in_ok-name.name.now c.in_ok-name.rest.now (sym c.same_text.ensures ∙ c.if-same_text.false) (sym c.same_text-2.ensures ∙ c.if-same_text-2.false) (sym c.same_text-3.ensures ∙ c.if-same_text-3.false) (sym c.same_text-4.ensures ∙ c.if-same_text-4.true)))

pub returns : goal.returns
returns c =
    rw c.in_ok-name.ensures.parts (sym (act_none c.args.class c.in_ok-name.name.now c.in_ok-name.rest.now (sym c.same_text.ensures ∙ c.if-same_text.false) (sym c.same_text-2.ensures ∙ c.if-same_text-2.false) (sym c.same_text-3.ensures ∙ c.if-same_text-3.false) (sym c.same_text-4.ensures ∙ c.if-same_text-4.false)))
