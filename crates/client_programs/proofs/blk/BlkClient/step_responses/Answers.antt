use Rattle.std.proofs.Common.{refl, ap, ◌∙◌}
use Rattle.std.specs.Option.{option_map, option_to_list}
use Rattle.client_programs.specs.Blk.Clients.{resp_queue, req_queue}
use Rattle.client_programs.proofs.BlkLemmas.Standing.{still, none_at}
use Rattle.client_programs.proofs.blk.BlkClient.step_responses.Goals as goal

pub returns-in_default-clause-stepped : goal.returns-in_default-clause-stepped
returns-in_default-clause-stepped g c =
    let q = resp_queue c.args.self.now in
    record {
      body = option_map (λ x. x.1) c.step-got.result.1;
      happened = c.step-got.ensures.did;
      kept = λ passed h. still q (req_queue c.args.self.now) c.step-got.new.self.queue.0 (req_queue c.args.self.now) c.args.self.now.asking (option_to_list c.args.self.now.stray) passed _ _ _ (ap (λ r. r.0) c.step-got.ensures.queue) refl
          (λ n. c.step-got.ensures.takes n ∙ none_at q n c.step-got.result.1 c.in_default.is) c.step-got.ensures.puts h;
    }
