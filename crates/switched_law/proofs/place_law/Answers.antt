use Rattle.switched_law.proofs.Standing.{Laws, client_at, switch_at}
use Rattle.switched_law.proofs.place_law.Goals as goal

pub returns-clause-clients : goal.returns-clause-clients
returns-clause-clients c = λ ports rows start turns p port less.
    let laws : Laws = record {
      last = c.tale_law.ensures.last;
      count = c.tale_law.ensures.count;
      parts = c.tale_law.ensures.parts;
    } in
    let x = client_at laws ports rows start turns p port less in
    (x.0, x.1)

pub returns-clause-switch : goal.returns-clause-switch
returns-clause-switch c = λ ports rows start turns p.
    let laws : Laws = record {
      last = c.tale_law.ensures.last;
      count = c.tale_law.ensures.count;
      parts = c.tale_law.ensures.parts;
    } in
    let x = switch_at laws ports rows start turns p in
    (x.0, x.1)
