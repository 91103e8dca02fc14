-- An actor of any kind may go to another thread: each of its kinds may. A `search` that goes down through
-- all of them at once runs out of steps.
use denote.Param.Send.{IsSend, sendable, recorded_send, enum_send}
use denote.Enum.Declared.{shape}
use Rattle.std.proofs.Crossing.{crosses}
use Rattle.pd_runner.specs.contracts.part.Part as Part
use Rattle.pd_runner.specs.contracts.part.Ran as Ran
use Rattle.spsc_queue.proofs.producer.Producer.TheSendSync as Producer
use Rattle.spsc_queue.proofs.consumer.Consumer.TheSendSync as Consumer
use Rattle.actor_set.specs.contracts.actor.Actor as Actor
use Rattle.actor_set.specs.contracts.disk.Disk as Disk
use Rattle.order_law.specs.contracts.actor_parts.worker.Worker as Worker
use Rattle.device_model.proofs.UartDevice.TheSendSync as UartDevice
use Rattle.uart_driver.proofs.UartDriver.TheSendSync as UartDriver
use Rattle.serial_virt.proofs.rx.SerialVirtRx.TheSendSync as SerialVirtRx
use Rattle.serial_virt.proofs.tx.SerialVirtTx.TheSendSync as SerialVirtTx
use Rattle.client_programs.proofs.SerialClient.TheSendSync as SerialClient
use Rattle.device_model.proofs.ethernet.EthDevice.TheSendSync as EthDevice
use Rattle.eth_driver.proofs.EthDriver.TheSendSync as EthDriver
use Rattle.net_virt_rx.proofs.NetVirtRx.TheSendSync as NetVirtRx
use Rattle.net_copier.proofs.NetCopier.TheSendSync as NetCopier
use Rattle.client_programs.proofs.net.NetClient.TheSendSync as NetClient
use Rattle.net_virt_tx.proofs.NetVirtTx.TheSendSync as NetVirtTx
use Rattle.blk_driver.proofs.BlkDriver.TheSendSync as BlkDriver
use Rattle.blk_virt.proofs.virtualiser.BlkVirt.TheSendSync as BlkVirt
use Rattle.client_programs.proofs.blk.BlkClient.TheSendSync as BlkClient
use Rattle.device_model.proofs.disk.DiskDevice.TheSendSync as DiskDevice
use Rattle.client_programs.specs.contracts.rogue.Rogue as Rogue
use Rattle.cargo_core.proofs.act.Act.TheSendSync as Act
use Rattle.cargo_core.proofs.item.Body.TheSendSync as Body
use Rattle.cargo_core.proofs.item.QueueKind.TheSendSync as QueueKind
use Rattle.cargo_core.proofs.page.Page.TheSendSync as Page
use Rattle.wire_core.proofs.names.QueueId.TheSendSync as QueueId

disk_field_send : IsSend Disk.the_field.row
disk_field_send = let a = DiskDevice.the_field_send in search sendable depth 20

rogue_field_send : IsSend Rogue.the_field.row
rogue_field_send = let a = Act.the_send in let b = Body.the_send in let c = QueueKind.the_field_send in let d = Page.the_send in let e = QueueId.the_send in search (crosses, sendable) depth 40

pub actor_field_send : IsSend Actor.the_field.row
actor_field_send = enum_send (shape Actor.the_type) (
  (UartDevice.the_field_send, tt),
  (
    (UartDriver.the_field_send, tt),
    (
      (SerialVirtRx.the_field_send, tt),
      (
        (SerialVirtTx.the_field_send, tt),
        (
          (SerialClient.the_field_send, tt),
          (
            (EthDevice.the_field_send, tt),
            (
              (EthDriver.the_field_send, tt),
              (
                (NetVirtRx.the_field_send, tt),
                (
                  (NetCopier.the_field_send, tt),
                  (
                    (NetClient.the_field_send, tt),
                    (
                      (NetVirtTx.the_field_send, tt),
                      (
                        (disk_field_send, tt),
                        (
                          (BlkDriver.the_field_send, tt),
                          (
                            (BlkVirt.the_field_send, tt),
                            ((BlkClient.the_field_send, tt), ((rogue_field_send, tt), tt)),
                          ),
                        ),
                      ),
                    ),
                  ),
                ),
              ),
            ),
          ),
        ),
      ),
    ),
  ),
)

pub actor_send : IsSend Actor.the_row
actor_send = recorded_send Actor.the_field.row _ _ Actor.the_type.to_one actor_field_send

worker_field_send : IsSend Worker.the_field.row
worker_field_send = let a = actor_field_send in search (crosses, sendable) depth 40

pub part_field_send : IsSend Part.the_field.row
part_field_send = let a = worker_field_send in let b = Producer.the_send in let c = Consumer.the_send in search (crosses, sendable) depth 40

pub part_send : IsSend Part.the_row
part_send = recorded_send Part.the_field.row _ _ Part.the_type.to_one part_field_send

pub ran_send : IsSend Ran.the_row
ran_send = recorded_send Ran.the_field.row _ _ Ran.the_type.to_one (let a = part_field_send in search (crosses, sendable) depth 40)
