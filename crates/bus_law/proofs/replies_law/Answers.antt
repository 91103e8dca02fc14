use Rattle.bus_law.proofs.Replying.{client_there, replies_begin}
use Rattle.bus_law.proofs.replies_law.Goals as goal

pub returns-clause-there : goal.returns-clause-there
returns-clause-there c = client_there (record {
  last = c.tale_law.ensures.last;
  count = c.tale_law.ensures.count;
  parts = c.tale_law.ensures.parts;
})

pub returns-clause-replies : goal.returns-clause-replies
returns-clause-replies c = replies_begin (record {
  last = c.tale_law.ensures.last;
  count = c.tale_law.ensures.count;
  parts = c.tale_law.ensures.parts;
}) c.moment_law.ensures
