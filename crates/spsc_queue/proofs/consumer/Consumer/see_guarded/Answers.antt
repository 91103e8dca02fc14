use Rattle.std.proofs.Common.{rules, ◌≡◌, true, false, ap}
use Rattle.spsc_queue.proofs.TwoSteps.{tail_refused, entry_told}
use Rattle.spsc_queue.proofs.consumer.Consumer.see_guarded.Goals as goal

pub returns-then-not-see_tail-clause-did : goal.returns-then-not-see_tail-clause-did
returns-then-not-see_tail-clause-did c = let refused : c.see_tail.result ≡ false = search rules in tail_refused c.args.self.now.ring.slots c.args.self.now.knows c.see_tail.new.self.knows c.see_tail.result refused c.see_tail.ensures.did c.see_tail.ensures.answer

pub returns-clause-did : goal.returns-clause-did
returns-clause-did c = let fits : c.see_tail.result ≡ true = search rules in
    entry_told c.args.self.now.ring.slots c.see_tail.new.self.ring.slots c.args.self.now.knows c.see_tail.new.self.knows c.see_guard.new.self.knows c.see_tail.result c.see_guard.result fits c.see_tail.ensures.did c.see_tail.ensures.answer (ap (λ z. z.slots) c.see_tail.ensures.own) c.see_guard.ensures.did c.see_guard.ensures.answer c.see_guard.ensures.granted
