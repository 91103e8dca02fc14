use Rattle.std.proofs.Common.{◌≡◌, ◌∙◌, ap, subst}
use Rattle.switched_law.specs.SwitchMoment.Takes.{reaching, frames_in, sent_by}
use Rattle.switched_law.specs.Wants.{member_wants}
use Rattle.switched_law.proofs.Standing.{Laws, ends, passed, switch_at, switched_at, client_is, client_stands, taken_is}
use Rattle.switched_law.proofs.Wanting.{wants_are}
use Rattle.switched_law.proofs.Resting.{all_rest}
use Rattle.switched_law.proofs.whole_law.Goals as goal

pub returns-clause-taken : goal.returns-clause-taken
returns-clause-taken c = λ ports rows start turns p none port frames at.
    let laws : Laws = record {
      last = c.tale_law.ensures.last;
      count = c.tale_law.ensures.count;
      parts = c.tale_law.ensures.parts;
    } in
    let still = c.still_law.ensures rows start turns member_wants p.begins p.tale wants_are none in
    subst (λ xs. sent_by port xs ≡ frames) (taken_is laws ports rows start turns p)
    (c.whole_law.ensures.taken ports (ends laws ports rows start turns p) (switch_at laws ports rows start turns p).0 (passed laws ports rows start turns p) (switched_at laws ports rows start turns p) (all_rest laws ports rows start turns p c.quiet_law.ensures.rests still) port frames at)

pub returns-clause-records : goal.returns-clause-records
returns-clause-records c = λ ports rows start turns p none port x at.
    let laws : Laws = record {
      last = c.tale_law.ensures.last;
      count = c.tale_law.ensures.count;
      parts = c.tale_law.ensures.parts;
    } in
    let still = c.still_law.ensures rows start turns member_wants p.begins p.tale wants_are none in
    c.whole_law.ensures.records ports (ends laws ports rows start turns p) (switch_at laws ports rows start turns p).0 (passed laws ports rows start turns p) (switched_at laws ports rows start turns p) (all_rest laws ports rows start turns p c.quiet_law.ensures.rests still) port x (client_is laws ports rows start turns p port x at) (client_stands laws ports rows start turns p port x at)
    ∙ ap (λ xs. frames_in (reaching ports.macs port xs)) (taken_is laws ports rows start turns p)

pub returns-clause-merges : goal.returns-clause-merges
returns-clause-merges c = λ ports rows start turns p none port mac address x at.
    let laws : Laws = record {
      last = c.tale_law.ensures.last;
      count = c.tale_law.ensures.count;
      parts = c.tale_law.ensures.parts;
    } in
    let still = c.still_law.ensures rows start turns member_wants p.begins p.tale wants_are none in
    c.whole_law.ensures.merges ports (ends laws ports rows start turns p) (switch_at laws ports rows start turns p).0 (passed laws ports rows start turns p) (switched_at laws ports rows start turns p) (all_rest laws ports rows start turns p c.quiet_law.ensures.rests still) port mac address x (client_is laws ports rows start turns p port x at) (client_stands laws ports rows start turns p port x at)
