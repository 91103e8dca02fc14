use Rattle.std.proofs.Common.{◌==◌, sym, ap, ◌∙◌, subst, length}
use Rattle.std.specs.Option.{option_map, option_to_list}
use Rattle.wire_core.specs.Deeds.{deed_of}
use Rattle.wire_core.specs.Lists.{if_there, with_deed}
use Rattle.device_model.specs.Disk.Disks.{DiskStandsFor, req}
use Rattle.device_model.proofs.DiskLemmas.Standing.{request_came, asking}
use Rattle.device_model.proofs.disk.DiskDevice.step_input.Goals as goal

pub returns-in-Some-clause-stepped : goal.returns-in-Some-clause-stepped
returns-in-Some-clause-stepped g c = λ start.
    let w = asking c.args.self.now c.step-got.result.1 c.is_asking-need.result c.is_asking-need.ensures c.step-got.ensures.needed c.in-Some.entry c.in-Some.is in
    record {
      body = option_map (λ x. x.1) c.step-got.result.1;
      happened = c.step-got.ensures.did;
      kept = λ passed h. subst (λ d. DiskStandsFor start d (with_deed passed (deed_of c.step-got.result.0 c.step-got.result.1))) (sym c.accept.ensures.after)
          (request_came start c.args.self.now c.step-got.new.self c.in-Some.entry passed _ _ _ c.step-got.ensures.queue w.0 w.1 (ap (λ d. length d.image) (sym c.accept.ensures.after) ∙ c.accept.ensures.size) (λ n. c.step-got.ensures.takes n ∙ ap (λ o. if_there (req c.args.self.now == n) (option_to_list o)) c.in-Some.is) c.step-got.ensures.puts h);
    }
