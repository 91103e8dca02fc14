use Rattle.std.proofs.Common.{◌≡◌, ◌+◌, ◌++◌, ◌∷◌, [], sym, subst, arith}
use Rattle.std.proofs.lemmas.Grind.{common_steps}
use Rattle.net_switch.specs.SwitchDesk.Orders.{AreOnce}
use Rattle.net_switch.proofs.SwitchDesk.Orders.{once_more}
use Rattle.net_switch.proofs.switch_desk.order.Order.new.Goals as goal

pub loop-place-preserved : goal.loop-place-preserved
loop-place-preserved c =
    let e : c.push.new.self.items ≡ c.loop-place.places.items ++ c.loop-place.place ∷ [] = grind (arith, common_steps) in
    subst (λ ps. AreOnce (c.loop-place.place + 1) ps) (sym e) (once_more c.loop-place.place c.loop-place.places.items c.loop-place.invariant)
