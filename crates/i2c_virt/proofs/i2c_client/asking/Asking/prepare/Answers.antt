use Rattle.std.proofs.Common.{◌≡◌, ◌++◌, None, Some, sym, ap, ◌∙◌}
use Rattle.std.specs.Option.{option_to_list}
use Rattle.i2c_virt.proofs.I2cClient.Making.{stands_ready, none_ready, not_some}
use Rattle.i2c_virt.proofs.i2c_client.asking.Asking.prepare.Goals as goal

pub returns-in-Some-clause-stands : goal.returns-in-Some-clause-stands
returns-in-Some-clause-stands c = λ came put st.
    stands_ready c.args.self.now c.pop.new.self came put c.in-Some.page c.asked_in.result c.get.result.now (not_some c.args.self.now.load (sym c.is_some.ensures ∙ c.if-is_some.false)) c.get.ensures c.requires.made
    (c.pop.ensures.shown ∙ ap (λ o. option_to_list o ++ c.pop.new.self.shown) c.in-Some.is) c.asked_in.ensures.asked st

pub returns-in_default-clause-asking : goal.returns-in_default-clause-asking
returns-in_default-clause-asking c =
    none_ready c.args.self.now c.pop.new.self (c.pop.ensures.shown ∙ ap (λ o. option_to_list o ++ c.pop.new.self.shown) c.in_default.is) c.pop.ensures.room (c.pop.ensures.none c.in_default.is) c.requires.made
