use Rattle.bus_law.proofs.Bounding.{hops_are_few, steps_are_few}
use Rattle.bus_law.proofs.hops_law.Goals as goal

pub returns-clause-put : goal.returns-clause-put
returns-clause-put c = hops_are_few (record {
  last = c.tale_law.ensures.last;
  count = c.tale_law.ensures.count;
  parts = c.tale_law.ensures.parts;
})

pub returns-clause-steps : goal.returns-clause-steps
returns-clause-steps c = steps_are_few (record {
  last = c.tale_law.ensures.last;
  count = c.tale_law.ensures.count;
  parts = c.tale_law.ensures.parts;
}) c.bound_law.ensures
