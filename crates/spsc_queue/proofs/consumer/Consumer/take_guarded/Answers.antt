use Rattle.std.proofs.Common.{refl}
use Rattle.spsc_queue.proofs.TwoSteps.{took_both}
use Rattle.spsc_queue.proofs.consumer.Consumer.take_guarded.Goals as goal

pub returns-clause-did : goal.returns-clause-did
returns-clause-did c = let d = c.empty_guard-entry.ensures.did in (c.empty_guard-entry.result, d.0, refl, c.empty_guard-entry.ensures.was, took_both c.args.self.now.ring.slots c.args.self.now.knows c.empty_guard-entry.new.self.knows c.store_head.new.self.knows c.empty_guard-entry.result d.0 c.requires.sort d.1 c.store_head.ensures.did, refl)
