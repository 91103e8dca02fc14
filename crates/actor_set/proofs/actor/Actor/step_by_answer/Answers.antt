use Rattle.std.proofs.Common.{◌∙◌, sym, subst}
use Rattle.net_virt_rx.specs.Receiving.{RxStandsFor as NetRxStandsFor}
use Rattle.device_model.specs.Ethernet.Devices.{DeviceStandsFor}
use Rattle.device_model.specs.Disk.Disks.{DiskStandsFor}
use Rattle.net_copier.specs.Copying.{CopierStandsFor}
use Rattle.client_programs.specs.Net.Clients.{ClientStandsFor}
use Rattle.client_programs.specs.Blk.Clients.{BlkClientStandsFor}
use Rattle.client_programs.specs.Rogue.Clients.{RogueStandsFor}
use Rattle.client_programs.proofs.RogueLemmas.Owning.{own_call}
use Rattle.actor_set.specs.Actors.{FitsActor, ActorStandsFor, IsActorCall}
use Rattle.actor_set.proofs.Casting.{as_actor}
use Rattle.actor_set.proofs.actor.Actor.step_by_answer.Goals as goal

pub returns-in_ok-event-in-EthDevice-clause-stepped : goal.returns-in_ok-event-in-EthDevice-clause-stepped
returns-in_ok-event-in-EthDevice-clause-stepped g c = as_actor DeviceStandsFor _ _ _ _ _ _ _ _ (λ passed h. subst (λ a. ActorStandsFor a passed) c.in-EthDevice.is h) (λ passed h. h) c.in_ok-event-in-EthDevice.ensures.stepped

pub returns-in_ok-event-in-NetVirtRx-clause-stepped : goal.returns-in_ok-event-in-NetVirtRx-clause-stepped
returns-in_ok-event-in-NetVirtRx-clause-stepped g c = as_actor NetRxStandsFor _ _ _ _ _ _ _ _ (λ passed h. subst (λ a. ActorStandsFor a passed) c.in-NetVirtRx.is h) (λ passed h. h) c.in_ok-event-in-NetVirtRx.ensures.stepped

pub returns-in-NetCopier-clause-stepped : goal.returns-in-NetCopier-clause-stepped
returns-in-NetCopier-clause-stepped g c = as_actor CopierStandsFor _ _ _ _ _ _ _ _ (λ passed h. subst (λ a. ActorStandsFor a passed) c.in-NetCopier.is h) (λ passed h. h) c.step-in-NetCopier.ensures.stepped

pub returns-in_ok-event-in-NetClient-clause-stepped : goal.returns-in_ok-event-in-NetClient-clause-stepped
returns-in_ok-event-in-NetClient-clause-stepped g c = as_actor ClientStandsFor _ _ _ _ _ _ _ _ (λ passed h. subst (λ a. ActorStandsFor a passed) c.in-NetClient.is h) (λ passed h. h) c.in_ok-event-in-NetClient.ensures.stepped

pub returns-in-DiskDevice-clause-stepped : goal.returns-in-DiskDevice-clause-stepped
returns-in-DiskDevice-clause-stepped g c = as_actor (DiskStandsFor c.in-DiskDevice.disk.start.value) _ _ _ _ _ _ _ _ (λ passed h. subst (λ a. ActorStandsFor a passed) c.in-DiskDevice.is h) (λ passed h. h) (c.step-in-DiskDevice.ensures.stepped c.in-DiskDevice.disk.start.value)

pub returns-in_ok-event-in-BlkClient-clause-stepped : goal.returns-in_ok-event-in-BlkClient-clause-stepped
returns-in_ok-event-in-BlkClient-clause-stepped g c = as_actor BlkClientStandsFor _ _ _ _ _ _ _ _ (λ passed h. subst (λ a. ActorStandsFor a passed) c.in-BlkClient.is h) (λ passed h. h) c.in_ok-event-in-BlkClient.ensures.stepped

pub returns-in-Rogue-clause-own : goal.returns-in-Rogue-clause-own
returns-in-Rogue-clause-own g c = let f = subst (FitsActor (g.W.Wires.ends c.args.wires.now)) c.in-Rogue.is c.requires.fits in subst (λ a. IsActorCall a c.step-in-Rogue.result) (sym c.in-Rogue.is) (own_call c.in-Rogue.client c.step-in-Rogue.result f.is c.step-in-Rogue.ensures.acted.next)

pub returns-in-Rogue-clause-stepped : goal.returns-in-Rogue-clause-stepped
returns-in-Rogue-clause-stepped g c = as_actor RogueStandsFor _ _ _ _ _ _ _ _ (λ passed h. subst (λ a. ActorStandsFor a passed) c.in-Rogue.is h) (λ passed h. h) c.step-in-Rogue.ensures.stepped
