use Rattle.std.proofs.Common.{refl, ap, ◌∙◌}
use Rattle.wire_core.specs.Deeds.{Cargo}
use Rattle.spsc_queue.specs.declared.view.Half.{Half}
use Rattle.spsc_queue.proofs.TwoSteps.{sent_both}
use Rattle.spsc_queue.proofs.producer.Producer.put_guarded.Goals as goal

pub returns-clause-did : goal.returns-clause-did
returns-clause-did g c = let x : Cargo = (c.args.item, c.args.body) in (x, g.C.Clock.time, refl, sent_both c.args.self.now.ring.slots c.args.self.now.knows c.fill_guard.new.self.knows c.store_tail.new.self.knows x g.C.Clock.time c.requires.sort c.fill_guard.ensures.did c.store_tail.ensures.did, refl, c.requires.kind)

pub returns-clause-time : goal.returns-clause-time
returns-clause-time g c = ap (λ (z : Half). z.times) c.store_tail.ensures.did ∙ ap (λ (z : Half). z.times) c.fill_guard.ensures.did
