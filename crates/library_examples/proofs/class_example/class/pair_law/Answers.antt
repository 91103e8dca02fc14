use Rattle.library_examples.proofs.ClassExample.Pairing.{pair_keeps}
use Rattle.library_examples.proofs.class_example.class.pair_law.Goals as goal

pub returns : goal.returns
returns c = λ s one other told pair. pair_keeps (record {
  last = c.tale_law.ensures.last;
  count = c.tale_law.ensures.count;
  parts = c.tale_law.ensures.parts;
  bells = c.tale_law.ensures.bells;
  quiet = c.tale_law.ensures.quiet;
  rest = c.rest_law.ensures;
  still = c.quiet_law.ensures.still;
  rests = c.quiet_law.ensures.rests;
}) s one other told pair
