use Rattle.std.proofs.Common.{◌≡◌, ◌+◌, ◌==◌, ◌∷◌, [], List, Option, Some, None, refl, sym, ap, ◌∙◌, subst}
use Rattle.std.specs.Option.{option_map, option_to_list}
use Rattle.buffer_kit.specs.Conserving.{counted, weight}
use Rattle.wire_core.specs.Deeds.{Cargo, deed_of, put_of}
use Rattle.wire_core.specs.Lists.{if_there, with_deed}
use Rattle.client_programs.specs.declared.blk.asking.Asking.{Asking}
use Rattle.client_programs.specs.Blk.Asking.{AskingStands, asking_hand}
use Rattle.client_programs.specs.Blk.Clients.{BlkStands, resp_queue, req_queue}
use Rattle.client_programs.proofs.BlkLemmas.Standing.{request_put, is_to_put, went, none_left, hand_put, same_queue, still, none_at, nothing_put, not_gone}
use Rattle.client_programs.proofs.blk.BlkClient.step_requests.Goals as goal

pub returns-then-is_none-clause-stepped : goal.returns-then-is_none-clause-stepped
returns-then-is_none-clause-stepped g c =
    let w : Asking = c.args.self.now.asking in
    let there = is_to_put w.next c.args.self.now.stray (sym c.is_asking.ensures ∙ c.if-not-is_asking.false) in
    let x : Cargo = there.0.0 in
    let none : c.step-event.new.load ≡ None = none_left c.step-event.new.load c.is_none.result c.is_none.ensures c.if-is_none.true in
    let put : option_to_list (put_of c.step-event.result w.next) ≡ x ∷ [] = went w.next (put_of c.step-event.result w.next) c.step-event.new.load x there.0.1 none c.step-event.ensures.load in
    let back : record w { next = Some x } ≡ w = ap (λ (o : Option Cargo). record w { next = o }) (sym there.0.1) in
    record {
      body = option_map (λ y. y.1) (put_of c.step-event.result w.next);
      happened = c.step-event.ensures.did;
      kept = λ passed h.
          let q = resp_queue c.args.self.now in
          let d = deed_of c.step-event.result (put_of c.step-event.result w.next) in
          same_queue q (req_queue c.args.self.now) c.step-event.new.self.queue.0 c.go_on.new.self c.args.self.now.stray (with_deed passed d) (ap (λ r. r.0) c.step-event.ensures.queue) there.1
          (request_put q (req_queue c.args.self.now) w c.go_on.new.self (record { script = c.go_on.ensures.same.script; same_pool = c.go_on.ensures.same.same_pool; buffers = c.go_on.ensures.same.buffers }) passed _ _ _ (subst (λ (s : Option Cargo). BlkStands q (req_queue c.args.self.now) w (option_to_list s) passed) there.1 h) x
          c.step-event.ensures.takes (λ n. c.step-event.ensures.puts n ∙ ap (λ (cs : List Cargo). if_there (req_queue c.args.self.now == n) cs) put)
          (λ start came sent s. c.go_on.ensures.stands start came sent x (subst (λ (v : Asking). AskingStands v start came sent) (sym back) s))
          (λ f. hand_put f w x there.0.1 ∙ ap (λ n. n + weight f x.1) (ap (λ (o : Option Cargo). counted f (asking_hand (record w { next = o }))) (sym none) ∙ sym (c.go_on.ensures.held f))));
    }

pub returns-then-not-is_asking-clause-stepped : goal.returns-then-not-is_asking-clause-stepped
returns-then-not-is_asking-clause-stepped g c =
    let q = req_queue c.args.self.now in
    record {
      body = option_map (λ y. y.1) (put_of c.step.result None);
      happened = c.step.ensures.did;
      kept = λ passed h. still (resp_queue c.args.self.now) q (resp_queue c.args.self.now) c.step.new.self.queue.0 c.args.self.now.asking (option_to_list c.args.self.now.stray) passed _ _ _ refl (ap (λ r. r.0) c.step.ensures.queue)
          c.step.ensures.takes (λ n. c.step.ensures.puts n ∙ none_at q n (put_of c.step.result None) (nothing_put c.step.result)) h;
    }

pub returns-else-is_none-clause-stepped : goal.returns-else-is_none-clause-stepped
returns-else-is_none-clause-stepped g c =
    let q = req_queue c.args.self.now in
    let w : Asking = c.args.self.now.asking in
    let stays = not_gone w.next (put_of c.step-event.result w.next) c.step-event.new.load c.is_none.result c.is_none.ensures c.if-is_none.false c.step-event.ensures.load in
    let same : record w { next = c.step-event.new.load } ≡ w = ap (λ (o : Option Cargo). record w { next = o }) stays.1 in
    record {
      body = option_map (λ y. y.1) (put_of c.step-event.result w.next);
      happened = c.step-event.ensures.did;
      kept = λ passed h. still (resp_queue c.args.self.now) q (resp_queue c.args.self.now) c.step-event.new.self.queue.0 (record w { next = c.step-event.new.load }) (option_to_list c.args.self.now.stray) passed _ _ _ refl (ap (λ r. r.0) c.step-event.ensures.queue)
          c.step-event.ensures.takes (λ n. c.step-event.ensures.puts n ∙ none_at q n (put_of c.step-event.result w.next) stays.0)
          (subst (λ (v : Asking). BlkStands (resp_queue c.args.self.now) q v (option_to_list c.args.self.now.stray) passed) (sym same) h);
    }
