use Rattle.std.proofs.Common.{◌≡◌, ◌∙◌, sym, ap, subst, length}
use Rattle.device_model.specs.SerialTerminal.Terminals.{terminal_forgotten}
use Rattle.actor_set.specs.declared.actor.Actor.TheVariants as Kinds
use Rattle.net_virt_rx.specs.Sharing.{IsSharer}
use Rattle.net_virt_tx.specs.Traffics.{IsTraffic}
use Rattle.actor_set.specs.Actors.{FitsActor, ActorStandsFor, IsWhole, IsWholeReceiver, IsWholeSender, IsWholeServer, Forgot, part_of, part_anew}
use Rattle.actor_set.proofs.RogueLemmas.Ends.{anew_rogue_part}
use Rattle.actor_set.proofs.Casting.{few_still, first_still, rx_part}
use Rattle.actor_set.proofs.actor.Actor.forget.Goals as goal

pub returns-in-SerialVirtRx-clause-fits : goal.returns-in-SerialVirtRx-clause-fits
returns-in-SerialVirtRx-clause-fits c = λ ends h. c.forget-in-SerialVirtRx.ensures.fits ends (subst (FitsActor ends) c.in-SerialVirtRx.is h)

pub returns-in-SerialVirtRx-clause-lists : goal.returns-in-SerialVirtRx-clause-lists
returns-in-SerialVirtRx-clause-lists c = λ passed h. c.forget-in-SerialVirtRx.ensures.lists passed (subst (λ a. ActorStandsFor a passed) c.in-SerialVirtRx.is h)

pub returns-in-SerialVirtRx-clause-part : goal.returns-in-SerialVirtRx-clause-part
returns-in-SerialVirtRx-clause-part c = subst (λ a. part_of (Kinds.SerialVirtRx c.forget-in-SerialVirtRx.new.self) ≡ part_anew a) (sym c.in-SerialVirtRx.is) (rx_part c.in-SerialVirtRx.virt c.forget-in-SerialVirtRx.new.self c.forget-in-SerialVirtRx.ensures.queues c.forget-in-SerialVirtRx.ensures.policies)

pub returns-in-EthDevice-clause-fits : goal.returns-in-EthDevice-clause-fits
returns-in-EthDevice-clause-fits c = λ ends h. let f = subst (FitsActor ends) c.in-EthDevice.is h in (c.forget-in-EthDevice.ensures.fits ends f.0, c.forget-in-EthDevice.ensures.same.drops ∙ f.1)

pub returns-in-EthDevice-clause-lists : goal.returns-in-EthDevice-clause-lists
returns-in-EthDevice-clause-lists c = λ passed h. c.forget-in-EthDevice.ensures.lists passed (subst (λ a. ActorStandsFor a passed) c.in-EthDevice.is h)

pub returns-in-NetCopier-clause-fits : goal.returns-in-NetCopier-clause-fits
returns-in-NetCopier-clause-fits c = λ ends h. c.forget-in-NetCopier.ensures.fits ends (subst (FitsActor ends) c.in-NetCopier.is h)

pub returns-in-NetCopier-clause-lists : goal.returns-in-NetCopier-clause-lists
returns-in-NetCopier-clause-lists c = λ passed h. c.forget-in-NetCopier.ensures.lists passed (subst (λ a. ActorStandsFor a passed) c.in-NetCopier.is h)

pub returns-in-SerialVirtTx-clause-fits : goal.returns-in-SerialVirtTx-clause-fits
returns-in-SerialVirtTx-clause-fits c = λ ends h. c.forget-in-SerialVirtTx.ensures.fits ends (subst (FitsActor ends) c.in-SerialVirtTx.is h)

pub returns-in-UartDevice-clause-after : goal.returns-in-UartDevice-clause-after
returns-in-UartDevice-clause-after c = subst (λ a. Forgot a (Kinds.UartDevice (record { terminal = c.forget.new.self }))) (sym c.in-UartDevice.is) (c.forget.ensures.after ∙ ap terminal_forgotten c.deref_mut.ensures.value)

pub returns-in-SerialVirtRx-clause-after : goal.returns-in-SerialVirtRx-clause-after
returns-in-SerialVirtRx-clause-after c = subst (λ a. Forgot a (Kinds.SerialVirtRx c.forget-in-SerialVirtRx.new.self)) (sym c.in-SerialVirtRx.is) c.forget-in-SerialVirtRx.ensures.after

pub returns-in-SerialVirtTx-clause-after : goal.returns-in-SerialVirtTx-clause-after
returns-in-SerialVirtTx-clause-after c = subst (λ a. Forgot a (Kinds.SerialVirtTx c.forget-in-SerialVirtTx.new.self)) (sym c.in-SerialVirtTx.is) c.forget-in-SerialVirtTx.ensures.after

pub returns-in-SerialClient-clause-after : goal.returns-in-SerialClient-clause-after
returns-in-SerialClient-clause-after c = subst (λ a. Forgot a (Kinds.SerialClient (record { terminal = c.forget-in-SerialClient.new.self }))) (sym c.in-SerialClient.is) (c.forget-in-SerialClient.ensures.after ∙ ap terminal_forgotten c.deref_mut-in-SerialClient.ensures.value)

pub returns-in-NetVirtRx-clause-fits : goal.returns-in-NetVirtRx-clause-fits
returns-in-NetVirtRx-clause-fits c = λ ends h. let f = subst (FitsActor ends) c.in-NetVirtRx.is h in c.forget-in-NetVirtRx.ensures.fits ends f

pub returns-in-NetClient-clause-fits : goal.returns-in-NetClient-clause-fits
returns-in-NetClient-clause-fits c = λ ends h. let f = subst (FitsActor ends) c.in-NetClient.is h in (c.forget-in-NetClient.ensures.fits ends f.0, record { base = c.forget-in-NetClient.ensures.same.stock.base ∙ f.1.base; spare_base = c.forget-in-NetClient.ensures.same.spare.base ∙ f.1.spare_base })

pub returns-in-EthDevice-clause-whole : goal.returns-in-EthDevice-clause-whole
returns-in-EthDevice-clause-whole c = λ h. c.forget-in-EthDevice.ensures.same.drops ∙ subst IsWhole c.in-EthDevice.is h

pub returns-in-NetVirtRx-clause-whole : goal.returns-in-NetVirtRx-clause-whole
returns-in-NetVirtRx-clause-whole c = λ h.
    let was : IsWholeReceiver c.in-NetVirtRx.virt = subst IsWhole c.in-NetVirtRx.is h in
    let same = c.forget-in-NetVirtRx.ensures.same in
    record {
      work = subst IsSharer (sym c.forget-in-NetVirtRx.ensures.after.work) was.work;
      from_each = ap (λ qs. length qs) same.ends.from_clients ∙ (was.from_each ∙ sym (ap (λ ms. length ms.items) same.work.macs));
      to_each = ap (λ qs. length qs) same.ends.to_clients ∙ (was.to_each ∙ sym (ap (λ ms. length ms.items) same.work.macs));
    }

pub returns-in-NetVirtTx-clause-whole : goal.returns-in-NetVirtTx-clause-whole
returns-in-NetVirtTx-clause-whole c = λ h.
    let was : IsWholeSender c.in-NetVirtTx.virt = subst IsWhole c.in-NetVirtTx.is h in
    let same = c.forget-in-NetVirtTx.ensures.same in
    let work = c.forget-in-NetVirtTx.ensures.after.work in
    record {
      work = subst IsTraffic (sym work) was.work;
      from_each = ap (λ qs. length qs) same.ends.from_clients ∙ (was.from_each ∙ sym (ap (λ w. length w.clients.items) work));
      to_each = ap (λ qs. length qs) same.ends.to_clients ∙ (was.to_each ∙ sym (ap (λ w. length w.clients.items) work));
    }

pub returns-in-NetVirtTx-clause-fits : goal.returns-in-NetVirtTx-clause-fits
returns-in-NetVirtTx-clause-fits c = λ ends h. c.forget-in-NetVirtTx.ensures.fits ends (subst (FitsActor ends) c.in-NetVirtTx.is h)

pub returns-in-BlkVirt-clause-fits : goal.returns-in-BlkVirt-clause-fits
returns-in-BlkVirt-clause-fits c = λ ends h. let f = subst (FitsActor ends) c.in-BlkVirt.is h in (c.forget-in-BlkVirt.ensures.fits ends f.0, few_still c.in-BlkVirt.virt c.forget-in-BlkVirt.new.self c.forget-in-BlkVirt.ensures.same f.1, first_still c.in-BlkVirt.virt c.forget-in-BlkVirt.new.self c.forget-in-BlkVirt.ensures.same f.2)

pub returns-in-BlkVirt-clause-whole : goal.returns-in-BlkVirt-clause-whole
returns-in-BlkVirt-clause-whole c = λ h.
    let was : IsWholeServer c.in-BlkVirt.virt = subst IsWhole c.in-BlkVirt.is h in
    let same = c.forget-in-BlkVirt.ensures.same in
    record {
      few = few_still c.in-BlkVirt.virt c.forget-in-BlkVirt.new.self same was.few;
      first = first_still c.in-BlkVirt.virt c.forget-in-BlkVirt.new.self same was.first;
      from_each = ap (λ qs. length qs) same.ends.from_clients ∙ (was.from_each ∙ sym (ap (λ hs. length hs) same.work.clients));
      to_each = ap (λ qs. length qs) same.ends.to_clients ∙ (was.to_each ∙ sym (ap (λ hs. length hs) same.work.clients));
    }

pub returns-in-Rogue-clause-after : goal.returns-in-Rogue-clause-after
returns-in-Rogue-clause-after c = subst (λ a. Forgot a (Kinds.Rogue c.forget-in-Rogue.new.self)) (sym c.in-Rogue.is) c.forget-in-Rogue.ensures.after

pub returns-in-Rogue-clause-part : goal.returns-in-Rogue-clause-part
returns-in-Rogue-clause-part c = subst (λ a. part_of (Kinds.Rogue c.forget-in-Rogue.new.self) ≡ part_anew a) (sym c.in-Rogue.is) (anew_rogue_part c.in-Rogue.client c.forget-in-Rogue.new.self c.forget-in-Rogue.ensures.after)

pub returns-in-Rogue-clause-whole : goal.returns-in-Rogue-clause-whole
returns-in-Rogue-clause-whole c = λ h. c.forget-in-Rogue.ensures.whole (subst IsWhole c.in-Rogue.is h)

pub returns-in-Rogue-clause-fits : goal.returns-in-Rogue-clause-fits
returns-in-Rogue-clause-fits c = λ ends h. c.forget-in-Rogue.ensures.fits ends (subst (FitsActor ends) c.in-Rogue.is h)

pub returns-in-Rogue-clause-lists : goal.returns-in-Rogue-clause-lists
returns-in-Rogue-clause-lists c = λ passed h. c.forget-in-Rogue.ensures.lists passed (subst (λ a. ActorStandsFor a passed) c.in-Rogue.is h)
