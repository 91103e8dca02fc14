use Rattle.std.proofs.Common.{◌≡◌, is_some, true, sym, ap, ◌∙◌, ◌++◌, subst, Some, slice_get, length, List, ℕ}
use Rattle.std.specs.Option.{option_to_list}
use Rattle.i2c_text.specs.declared.bus.BusAsk.{BusAsk}
use Rattle.i2c_virt.specs.I2cKit.Pages.{status_in, reply_in}
use Rattle.i2c_virt.proofs.I2cClient.Making.{due_parts, due_page, made_more, stands_more}
use Rattle.i2c_virt.proofs.I2cClient.Paging.{reply_bare, reply_lent}
use Rattle.i2c_virt.proofs.i2c_client.asking.Asking.receive.Goals as goal

pub keep_reply-requires-clause-spelled : goal.keep_reply-requires-clause-spelled
keep_reply-requires-clause-spelled c = subst (λ (b : List ℕ). is_some (status_in b) ≡ true) (sym c.bytes.ensures) (due_page c.args.self.now c.args.entry c.in-Page.page c.requires.due c.in-Page.is).spelled

pub prepare-requires : goal.prepare-requires
prepare-requires c = record {
  made = made_more c.args.self.now c.args.entry c.in-Page.page c.requires.due c.in-Page.is c.get-ask.result.now (subst (λ n. slice_get c.args.self.now.script n ≡ Some c.get-ask.result.now) c.len.ensures c.get-ask.ensures)
      c.keep_reply.new.replies c.push.new.self (c.keep_reply.ensures ∙ ap (λ (b : List ℕ). c.args.self.now.replies.shown ++ option_to_list (reply_in c.get-ask.result.now b)) c.bytes.ensures) c.push.ensures.shown c.push.ensures.room c.requires.asking.is_made;
}

pub returns-clause-stands : goal.returns-clause-stands
returns-clause-stands c = λ came put st. c.prepare.ensures.stands _ _ (stands_more c.args.self.now c.args.entry c.in-Page.page c.requires.due c.in-Page.is c.get-ask.result.now (subst (λ n. slice_get c.args.self.now.script n ≡ Some c.get-ask.result.now) c.len.ensures c.get-ask.ensures)
    c.keep_reply.new.replies c.push.new.self (c.keep_reply.ensures ∙ ap (λ (b : List ℕ). c.args.self.now.replies.shown ++ option_to_list (reply_in c.get-ask.result.now b)) c.bytes.ensures) c.push.ensures.shown c.push.ensures.room came put st)
