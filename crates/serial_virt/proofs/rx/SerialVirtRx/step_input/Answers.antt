use Rattle.std.proofs.Common.{◌∙◌, ◌++◌, sym, ap, subst}
use Rattle.std.specs.Option.{option_map, option_to_list}
use Rattle.class_expect.specs.SerialSwitch.Standing.{StandsAfter}
use Rattle.class_expect.specs.SerialSwitch.Carried.{bytes_carried}
use Rattle.serial_virt.specs.declared.rx.SerialVirtRx.{SerialVirtRx}
use Rattle.serial_virt.proofs.Sharing.{rx_takes, free_load}
use Rattle.serial_virt.proofs.rx.SerialVirtRx.step_input.Goals as goal

pub returns-clause-stepped : goal.returns-clause-stepped
returns-clause-stepped g c = record {
  body = option_map (λ x. x.1) c.pull.new.got;
  happened = c.pull.ensures.did;
  kept = λ passed h. rx_takes c.args.self.now c.owe.new.self passed _ _ c.pull.new.event c.pull.new.got c.read-given.result
      (ap (λ (v : SerialVirtRx). v.outputs) c.owe.ensures.rest) (ap (λ (v : SerialVirtRx). v.input.queue) c.owe.ensures.rest ∙ c.pull.ensures.queue) (ap (λ (v : SerialVirtRx). v.drops.items) c.owe.ensures.rest) c.owe.ensures.load c.owe.ensures.to
      (ap (λ q. q.0) c.pull.ensures.on) c.pull.ensures.role c.pull.ensures.taken c.pull.ensures.item
      (λ n bs s. subst (StandsAfter n (bs ++ bytes_carried (option_to_list c.pull.new.got))) (sym (ap (λ (v : SerialVirtRx). v.switch) c.owe.ensures.rest)) (c.read-given.ensures.after n bs s)) c.read-given.ensures.given c.read-given.ensures.known c.read-given.ensures.none (free_load c.args.self.now.load c.pull.new.got c.read-given.result c.is_none.result c.is_none.ensures c.pull.ensures.needed c.read-given.ensures.none)
      c.pull.ensures.takes c.pull.ensures.puts h;
}
