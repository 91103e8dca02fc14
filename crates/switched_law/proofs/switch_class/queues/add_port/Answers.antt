use Rattle.std.proofs.Common.{◌++◌, ◌∷◌, [], ap, ◌∙◌}
use Rattle.switched_law.proofs.SwitchClass.Queueing.{four_pushed}
use Rattle.switched_law.proofs.switch_class.queues.add_port.Goals as goal

pub returns : goal.returns
returns c =
    let a = c.in_ok-tx_active.tx_active in
    let b = c.in_ok-tx_free.tx_free in
    let d = c.in_ok-rx_active.rx_active in
    let e = c.in_ok-rx_free.rx_free in
    let old = c.args.queues.now.items in
    record {
      tx_active = a;
      tx_free = b;
      rx_active = d;
      rx_free = e;
      sends = c.in_ok-tx_active.ensures;
      comes_back = c.in_ok-tx_free.ensures;
      comes = c.in_ok-rx_active.ensures;
      gives = c.in_ok-rx_free.ensures;
      new_is = c.in_ok-push-4.ensures.items ∙ (ap (λ l. l ++ e ∷ []) (c.in_ok-push-3.ensures.items ∙ ap (λ l. l ++ d ∷ []) (c.in_ok-push-2.ensures.items ∙ ap (λ l. l ++ b ∷ []) c.in_ok-push.ensures.items)) ∙ four_pushed old a b d e);
    }
