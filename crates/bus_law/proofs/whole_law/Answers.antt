use Rattle.bus_law.proofs.Bounding.{all_replies}
use Rattle.bus_law.proofs.whole_law.Goals as goal

pub returns : goal.returns
returns c = all_replies (record {
  last = c.tale_law.ensures.last;
  count = c.tale_law.ensures.count;
  parts = c.tale_law.ensures.parts;
}) c.moment_law.ensures c.still_law.ensures c.quiet_law.ensures.rests
