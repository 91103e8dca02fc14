use Rattle.std.proofs.Common.{sym, subst}
use Rattle.std.specs.Option.{option_to_list}
use Rattle.client_programs.specs.declared.blk.BlkClient.{BlkClient}
use Rattle.client_programs.specs.declared.blk.asking.Asking.{Asking}
use Rattle.client_programs.specs.Blk.Clients.{BlkStands, BlkClientStandsFor, resp_queue, req_queue}
use Rattle.client_programs.proofs.BlkLemmas.Standing.{ready_stands}
use Rattle.client_programs.proofs.blk.BlkClient.step.Goals as goal

pub returns-in-0-clause-stepped : goal.returns-in-0-clause-stepped
returns-in-0-clause-stepped g c =
    let s = c.step_responses.ensures.stepped in
    record {
      body = s.body;
      happened = s.happened;
      kept = λ passed h. s.kept passed (subst (λ (x : BlkClient). BlkClientStandsFor x passed) (sym c.choose.ensures.after)
          (subst (λ (w : Asking). BlkStands (resp_queue c.args.self.now) (req_queue c.args.self.now) w (option_to_list c.args.self.now.stray) passed) (sym c.in_ok-reserve.ensures.others)
          (ready_stands (resp_queue c.args.self.now) (req_queue c.args.self.now) c.args.self.now.asking c.reserve.new.self.kept (option_to_list c.args.self.now.stray) passed c.in_ok-reserve.ensures.shown c.in_ok-reserve.ensures.pages h)));
    }

pub returns-in-1-clause-stepped : goal.returns-in-1-clause-stepped
returns-in-1-clause-stepped g c =
    let s = c.step_requests.ensures.stepped in
    record {
      body = s.body;
      happened = s.happened;
      kept = λ passed h. s.kept passed (subst (λ (x : BlkClient). BlkClientStandsFor x passed) (sym c.choose.ensures.after)
          (subst (λ (w : Asking). BlkStands (resp_queue c.args.self.now) (req_queue c.args.self.now) w (option_to_list c.args.self.now.stray) passed) (sym c.in_ok-reserve.ensures.others)
          (ready_stands (resp_queue c.args.self.now) (req_queue c.args.self.now) c.args.self.now.asking c.reserve.new.self.kept (option_to_list c.args.self.now.stray) passed c.in_ok-reserve.ensures.shown c.in_ok-reserve.ensures.pages h)));
    }
