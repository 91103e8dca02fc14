use Rattle.std.proofs.Common.{ℕ, eqb, ap, ◌∙◌}
use Rattle.std.specs.List.{position}
use Rattle.net_switch.specs.SwitchDesk.Orders.{times, turned_last}
use Rattle.net_switch.proofs.SwitchDesk.Orders.{turned_at, not_lost}
use Rattle.net_switch.proofs.switch_desk.order.Order.turn.Goals as goal

pub returns-in-Some : goal.returns-in-Some
returns-in-Some c =
    c.push_reserved.ensures.items ∙ (turned_at c.args.place c.in-Some.at c.remove-turned.result c.self.inside.places.items c.remove-turned.new.self.items
    (c.in-Some.ensures ∙ ap (position (λ (o : ℕ). eqb o c.args.place)) c.deref.ensures.value) (ap (times c.args.place) c.self.view_is ∙ c.requires.1.once c.args.place c.requires.2) c.remove-turned.ensures.value c.remove-turned.ensures.items
    ∙ ap (turned_last c.args.place) c.self.view_is)

pub returns-in_default : goal.returns-in_default
returns-in_default c = absurd (not_lost c.args.place c.self.inside.places.items (c.in_default.ensures ∙ ap (position (λ (o : ℕ). eqb o c.args.place)) c.deref.ensures.value) (ap (times c.args.place) c.self.view_is ∙ c.requires.1.once c.args.place c.requires.2))
