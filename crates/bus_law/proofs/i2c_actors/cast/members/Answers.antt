use Rattle.std.proofs.Common.{◌+◌, ◌*◌, List, ℕ, ◌∙◌, subst}
use Rattle.wire_core.specs.declared.names.QueueId.{QueueId}
use Rattle.i2c_virt.specs.Virtualising.{IsNewI2cVirt}
use Rattle.bus_law.specs.I2cActors.Starting.{IsNewDevice, queue}
use Rattle.bus_law.proofs.I2cActors.Fresh.{three_more}
use Rattle.bus_law.proofs.i2c_actors.cast.members.Goals as goal

pub returns : goal.returns
returns c =
    let bus = c.args.bus.now in
    let req : QueueId = queue (2 * bus.clients) in
    let resp : QueueId = queue (2 * bus.clients + 1) in
    record {
      each = c.requires.each;
      clients = c.in_ok-members.members.items;
      virt = c.in_ok-virt.virt;
      driver = c.new-driver.result;
      device = c.in_ok-device.device;
      members_are = three_more _ _ _ _ _ _ _ c.in_ok-push.ensures.items c.in_ok-push-2.ensures.items c.in_ok-push-3.ensures.items;
      fresh = c.in_ok-members.ensures;
      new_virt = record {
        reqs = c.in_ok-reqs.reqs.items;
        resps = c.in_ok-resps.resps.items;
        reqs_are = c.in_ok-reqs.ensures;
        resps_are = c.in_ok-resps.ensures;
        new = subst (λ (l : List QueueId). IsNewI2cVirt req resp l c.in_ok-resps.resps.items c.in_ok-virt.virt) c.deref.ensures.value (subst (λ (l : List QueueId). IsNewI2cVirt req resp c.deref.result.now l c.in_ok-virt.virt) c.deref-2.ensures.value c.in_ok-virt.ensures.new);
        work = c.in_ok-virt.ensures.work;
        stands = c.in_ok-virt.ensures.stands;
      };
      new_driver = record { requests = c.new-driver.ensures.req; answers = c.new-driver.ensures.resp; stands = c.new-driver.ensures.stands };
      new_device = subst (λ (l : List ℕ). IsNewDevice bus.clients l c.in_ok-device.device) (c.in_ok-addresses.ensures ∙ c.as_slice.ensures) (record { new = c.in_ok-device.ensures.new; whole = c.in_ok-device.ensures.whole; stands = c.in_ok-device.ensures.stands });
    }
