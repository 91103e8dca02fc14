use Rattle.std.proofs.Common.{◌≡◌, ◌+◌, ◌==◌, ◌∷◌, [], List, Option, Some, None, refl, sym, ap, ◌∙◌, subst}
use Rattle.std.specs.Option.{option_map, option_to_list}
use Rattle.wire_core.specs.Deeds.{Cargo, deed_of, put_of}
use Rattle.wire_core.specs.Lists.{if_there, with_deed}
use Rattle.i2c_virt.specs.declared.i2c_client.asking.Asking.{Asking}
use Rattle.i2c_virt.specs.I2cClient.Asking.{AskingStands, IsMade}
use Rattle.i2c_virt.specs.I2cClient.Clients.{ClientStands}
use Rattle.i2c_virt.proofs.I2cClient.Standing.{request_went, made_gone, is_to_put, went, none_left, still, none_at, nothing_put, not_gone}
use Rattle.i2c_virt.proofs.i2c_client.client.BusClient.step_requests.Goals as goal

pub go_on-requires : goal.go_on-requires
go_on-requires g c =
    let w : Asking = c.args.self.now.asking in
    let there = is_to_put w.load c.args.self.now.stray (sym c.is_asking.ensures ∙ c.if-not-is_asking.false) in
    let none : c.push-2.new.load ≡ None = none_left c.push-2.new.load c.is_none.result c.is_none.ensures c.if-is_none.true in
    subst (λ (l : Option Cargo). IsMade (record w { load = l; sent = w.sent + 1 })) (sym none) (made_gone w there.0.0 there.0.1 c.requires.asking.is_made)

pub returns-then-is_none-clause-stepped : goal.returns-then-is_none-clause-stepped
returns-then-is_none-clause-stepped g c =
    let w : Asking = c.args.self.now.asking in
    let there = is_to_put w.load c.args.self.now.stray (sym c.is_asking.ensures ∙ c.if-not-is_asking.false) in
    let x : Cargo = there.0.0 in
    let none : c.push-2.new.load ≡ None = none_left c.push-2.new.load c.is_none.result c.is_none.ensures c.if-is_none.true in
    let put : option_to_list (put_of c.push-2.new.event w.load) ≡ x ∷ [] = went w.load (put_of c.push-2.new.event w.load) c.push-2.new.load x there.0.1 none c.push-2.ensures.load in
    record {
      body = option_map (λ y. y.1) (put_of c.push-2.new.event w.load);
      happened = c.push-2.ensures.did;
      kept = λ passed h.
          let i = c.args.self.now.responses.queue.0 in
          let o = c.args.self.now.requests.queue.0 in
          let d = deed_of c.push-2.new.event (put_of c.push-2.new.event w.load) in
          subst (λ (s : Option Cargo). ClientStands i c.push-2.new.output.queue.0 c.go_on.new.self s (with_deed passed d)) (sym there.1)
          (request_went w c.go_on.new.self i o c.push-2.new.output.queue.0 x there.0.1 passed _ _ _ (ap (λ r. r.0) c.push-2.ensures.queue) c.go_on.ensures.asking
          c.push-2.ensures.takes (λ n. c.push-2.ensures.puts n ∙ ap (λ (cs : List Cargo). if_there (o == n) cs) put)
          (λ came sent s. c.go_on.ensures.stands came sent (subst (λ (l : Option Cargo). AskingStands (record w { load = l; sent = w.sent + 1 }) came sent) (sym none) s))
          (subst (λ (s : Option Cargo). ClientStands i o w s passed) there.1 h));
    }

pub returns-then-not-is_asking-clause-stepped : goal.returns-then-not-is_asking-clause-stepped
returns-then-not-is_asking-clause-stepped g c =
    let q = c.args.self.now.requests.queue.0 in
    record {
      body = option_map (λ y. y.1) (put_of c.push.new.event None);
      happened = c.push.ensures.did;
      kept = λ passed h. still c.args.self.now.responses.queue.0 q c.args.self.now.responses.queue.0 c.push.new.output.queue.0 c.args.self.now.asking c.args.self.now.stray passed _ _ _ refl (ap (λ r. r.0) c.push.ensures.queue)
          c.push.ensures.takes (λ n. c.push.ensures.puts n ∙ none_at q n (put_of c.push.new.event None) (nothing_put c.push.new.event)) h;
    }

pub returns-else-is_none-clause-stepped : goal.returns-else-is_none-clause-stepped
returns-else-is_none-clause-stepped g c =
    let q = c.args.self.now.requests.queue.0 in
    let w : Asking = c.args.self.now.asking in
    let stays = not_gone w.load (put_of c.push-2.new.event w.load) c.push-2.new.load c.is_none.result c.is_none.ensures c.if-is_none.false c.push-2.ensures.load in
    let same : record w { load = c.push-2.new.load } ≡ w = ap (λ (o : Option Cargo). record w { load = o }) stays.1 in
    record {
      body = option_map (λ y. y.1) (put_of c.push-2.new.event w.load);
      happened = c.push-2.ensures.did;
      kept = λ passed h. still c.args.self.now.responses.queue.0 q c.args.self.now.responses.queue.0 c.push-2.new.output.queue.0 (record w { load = c.push-2.new.load }) c.args.self.now.stray passed _ _ _ refl (ap (λ r. r.0) c.push-2.ensures.queue)
          c.push-2.ensures.takes (λ n. c.push-2.ensures.puts n ∙ none_at q n (put_of c.push-2.new.event w.load) stays.0)
          (subst (λ (v : Asking). ClientStands c.args.self.now.responses.queue.0 q v c.args.self.now.stray passed) (sym same) h);
    }
