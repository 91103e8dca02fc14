use Rattle.std.proofs.Common.{rules, ◌≡◌, true, false, ap}
use Rattle.spsc_queue.proofs.TwoSteps.{head_refused, room_told}
use Rattle.spsc_queue.proofs.producer.Producer.room_guarded.Goals as goal

pub returns-then-not-room_head-clause-did : goal.returns-then-not-room_head-clause-did
returns-then-not-room_head-clause-did c = let refused : c.room_head.result ≡ false = search rules in head_refused c.args.self.now.ring.slots c.args.self.now.knows c.room_head.new.self.knows c.room_head.result refused c.room_head.ensures.did c.room_head.ensures.answer

pub returns-clause-did : goal.returns-clause-did
returns-clause-did c = let fits : c.room_head.result ≡ true = search rules in
    room_told c.args.self.now.ring.slots c.room_head.new.self.ring.slots c.args.self.now.knows c.room_head.new.self.knows c.room_guard.new.self.knows c.room_head.result c.room_guard.result fits c.room_head.ensures.did c.room_head.ensures.answer (ap (λ z. z.slots) c.room_head.ensures.own) c.room_guard.ensures.did c.room_guard.ensures.answer
