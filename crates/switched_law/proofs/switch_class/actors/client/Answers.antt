use Rattle.std.proofs.Common.{◌≡◌, ◌+◌, ◌*◌, refl, subst, arith}
use Rattle.client_programs.specs.declared.net.program.NetProgram.TheVariants as Program
use Rattle.client_programs.specs.Net.Clients.{IsNewClient}
use Rattle.switched_law.specs.SwitchClass.Starting.{queue_no}
use Rattle.switched_law.proofs.switch_class.actors.client.Goals as goal

pub returns : goal.returns
returns c =
    let p = c.args.port in
    let zero_more : 4 * p ≡ 4 * p + 0 = omega arith in
    let mac = c.get-mac.result.now in
    let rx = c.in_ok-rx.rx.items in
    let tx = c.in_ok-tx.tx.items in
    record {
      mac = mac;
      frames = c.get.result.now;
      address = c.get-mac.ensures;
      sends = c.get.ensures;
      pages = rx;
      spare = tx;
      rx = c.in_ok-rx.ensures;
      tx = c.in_ok-tx.ensures;
      new = subst (λ fs. IsNewClient Program.Source mac (queue_no p 2) (queue_no p 3) (queue_no p 0) (queue_no p 1) rx tx fs c.new.result) c.in_ok-script.ensures
          (subst (λ k. IsNewClient Program.Source mac (queue_no p 2) (queue_no p 3) (record { 0 = k }) (queue_no p 1) rx tx c.in_ok-script.script c.new.result) zero_more
          (c.new.ensures.new (queue_no p 2) (queue_no p 3) (record { 0 = 4 * p }) (queue_no p 1) refl refl));
      stands = c.new.ensures.stands;
    }
