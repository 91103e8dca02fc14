use Rattle.std.proofs.Common.{◌≡◌, sym, ap, ◌∙◌, subst}
use Rattle.turn_kit.specs.Turns.{Turned}
use Rattle.device_model.specs.Ethernet.Devices.{device_round}
use Rattle.device_model.proofs.EthernetLemmas.Turns.{free_turned}
use Rattle.device_model.proofs.ethernet.EthDevice.step.Goals as goal

pub returns-in-0-clause-turned : goal.returns-in-0-clause-turned
returns-in-0-clause-turned g c =
    let me = c.args.self.now in
    let now = record me { wire = c.reserve.new.self } in
    let same : device_round now ≡ device_round me = ap (λ p. device_round (record me { wire = record me.wire { pipe = p } })) c.reserve.ensures.pipe in
    subst (λ r. Turned r c.step_free.result (device_round c.step_free.new.self)) same (free_turned now c.choose.new.self c.step_free.new.self c.step_free.result c.choose.ensures.after (sym c.in-0.is ∙ c.choose.ensures.place) c.step_free.ensures.posted c.step_free.ensures.still c.step_free.ensures.stays c.step_free.ensures.others)
