use Rattle.std.proofs.Common.{◌≡◌, ◌==◌, is_some, None, Option, refl, sym, ap, ◌∙◌}
use Rattle.std.specs.Option.{option_map, option_to_list}
use Rattle.wire_core.specs.Deeds.{Cargo}
use Rattle.wire_core.specs.Lists.{if_there}
use Rattle.i2c_virt.specs.declared.i2c_client.client.BusClient.{BusClient}
use Rattle.i2c_virt.proofs.I2cClient.Standing.{still, none_at, entry_came, none_left}
use Rattle.i2c_virt.proofs.i2c_client.client.BusClient.step_responses.Goals as goal

pub returns-in_default-clause-stepped : goal.returns-in_default-clause-stepped
returns-in_default-clause-stepped g c =
    let q = c.args.self.now.responses.queue.0 in
    record {
      body = option_map (λ x. x.1) c.pull.new.got;
      happened = c.pull.ensures.did;
      kept = λ passed h. still q c.args.self.now.requests.queue.0 c.pull.new.input.queue.0 c.args.self.now.requests.queue.0 c.args.self.now.asking c.args.self.now.stray passed _ _ _ (ap (λ r. r.0) c.pull.ensures.queue) refl
          (λ n. c.pull.ensures.takes n ∙ none_at q n c.pull.new.got c.in_default.is) c.pull.ensures.puts h;
    }

pub returns-in-Some-clause-stepped : goal.returns-in-Some-clause-stepped
returns-in-Some-clause-stepped g c =
    let b = c.args.self.now in
    let q = b.responses.queue.0 in
    let free : b.stray ≡ None = none_left b.stray c.is_none.result c.is_none.ensures (c.pull.ensures.needed (ap (λ (o : Option Cargo). is_some o) c.in-Some.is)) in
    record {
      body = option_map (λ x. x.1) c.pull.new.got;
      happened = c.pull.ensures.did;
      kept = λ passed h. entry_came b c.receive.new.self c.pull.new.input c.in-Some.entry passed _ _ _ (ap (λ (x : BusClient). x.responses.queue.0) c.receive.ensures.others ∙ ap (λ r. r.0) c.pull.ensures.queue) (ap (λ (x : BusClient). x.requests.queue.0) c.receive.ensures.others) free c.receive.ensures.asking c.receive.ensures.same
          (λ n. c.pull.ensures.takes n ∙ ap (λ (o : Option Cargo). if_there (q == n) (option_to_list o)) c.in-Some.is) c.pull.ensures.puts h c.receive.ensures.received;
    }
