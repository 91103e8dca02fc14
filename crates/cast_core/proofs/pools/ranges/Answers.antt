use Rattle.cast_core.proofs.Making.{ranges_next}
use Rattle.cast_core.proofs.pools.ranges.Goals as goal

pub add-requires-clause-apart : goal.add-requires-clause-apart
add-requires-clause-apart c = ranges_next c.args.clients.now c.loop-client.ranges c.loop-client.client-index _ c.requires.ranges c.loop-client.invariant c.loop-client-test.true
