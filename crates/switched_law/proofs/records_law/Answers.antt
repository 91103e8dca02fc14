use Rattle.std.proofs.Common.{◌∙◌, ap, subst}
use Rattle.std.specs.List.{count_by}
use Rattle.cargo_core.specs.Lists.{IsPrefix}
use Rattle.switched_law.specs.SwitchMoment.Takes.{reaches_none, reaching, frames_in, sent_by}
use Rattle.switched_law.proofs.Standing.{Laws, ends, passed, switch_at, switched_at, switched, client_is, client_stands, taken_is}
use Rattle.switched_law.proofs.records_law.Goals as goal

pub returns-clause-taken : goal.returns-clause-taken
returns-clause-taken c = λ ports rows start turns p port frames at.
    let laws : Laws = record {
      last = c.tale_law.ensures.last;
      count = c.tale_law.ensures.count;
      parts = c.tale_law.ensures.parts;
    } in
    subst (λ xs. IsPrefix (sent_by port xs) frames) (taken_is laws ports rows start turns p)
    (c.take_law.ensures.first ports (ends laws ports rows start turns p) (switch_at laws ports rows start turns p).0 (passed laws ports rows start turns p) (switched_at laws ports rows start turns p) port frames at)

pub returns-clause-records : goal.returns-clause-records
returns-clause-records c = λ ports rows start turns p port x at.
    let laws : Laws = record {
      last = c.tale_law.ensures.last;
      count = c.tale_law.ensures.count;
      parts = c.tale_law.ensures.parts;
    } in
    subst (λ xs. IsPrefix x.frames.tape.shown (frames_in (reaching ports.macs port xs))) (taken_is laws ports rows start turns p)
    (c.record_law.ensures.first ports (ends laws ports rows start turns p) (switch_at laws ports rows start turns p).0 (passed laws ports rows start turns p) (switched_at laws ports rows start turns p) port x (client_is laws ports rows start turns p port x at) (client_stands laws ports rows start turns p port x at))

pub returns-clause-merges : goal.returns-clause-merges
returns-clause-merges c = λ ports rows start turns p port mac address x at.
    let laws : Laws = record {
      last = c.tale_law.ensures.last;
      count = c.tale_law.ensures.count;
      parts = c.tale_law.ensures.parts;
    } in
    c.record_law.ensures.merges ports (ends laws ports rows start turns p) (switch_at laws ports rows start turns p).0 (passed laws ports rows start turns p) (switched_at laws ports rows start turns p) port mac address x (client_is laws ports rows start turns p port x at) (client_stands laws ports rows start turns p port x at)

pub returns-clause-lost : goal.returns-clause-lost
returns-clause-lost c = λ ports rows start turns p v at.
    let laws : Laws = record {
      last = c.tale_law.ensures.last;
      count = c.tale_law.ensures.count;
      parts = c.tale_law.ensures.parts;
    } in
    c.take_law.ensures.lost ports (ends laws ports rows start turns p) v (passed laws ports rows start turns p) (switched laws ports rows start turns p v at)
    ∙ ap (count_by (reaches_none ports.macs)) (taken_is laws ports rows start turns p)
