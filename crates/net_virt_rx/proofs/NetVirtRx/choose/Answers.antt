use Rattle.std.proofs.Common.{◌≡◌, false, slice_index_or, refl, ap, ◌∙◌}
use Rattle.turn_kit.specs.Turns.{Round, choice_of, chosen_place, last_after}
use Rattle.buffer_kit.specs.Virtualising.{virt_round}
use Rattle.net_virt_rx.specs.Receiving.{rx_round}
use Rattle.net_virt_rx.proofs.NetVirtRx.choose.Goals as goal

same_round : (c : goal.After-choose) → virt_round c.args.self.now.ends c.is_idle-idle.result c.is_some-owes.result (λ place. c.is_idle-idle.result) (λ place. slice_index_or c.as_slice.result.now place false) ≡ rx_round c.args.self.now
same_round c = rw (c.is_idle-idle.ensures, c.is_some-owes.ensures, c.as_slice.ensures) refl

pub returns-clause-place : goal.returns-clause-place
returns-clause-place c = c.choose.ensures.place ∙ ap (λ (r : Round). chosen_place (choice_of r)) (same_round c)

pub returns-clause-after : goal.returns-clause-after
returns-clause-after c = ap (λ e. record c.args.self.now { ends = e }) (c.choose.ensures.after ∙ ap (λ (r : Round). record c.args.self.now.ends { turn = record { last = last_after (choice_of r) } }) (same_round c))
