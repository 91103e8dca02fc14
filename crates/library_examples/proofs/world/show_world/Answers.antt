use Rattle.std.proofs.Common.{◌∙◌, ap, rules}
use Rattle.wire_core.specs.Ends.{End, Consumer}
use Rattle.library_examples.proofs.world.show_world.Goals as goal

-- the consumer's ringer is free from the start on
pub take-item-requires : goal.take-item-requires
take-item-requires c =
    let ringer = ap (λ (e : End). e.ringer) c.see.ensures.ends.this ∙ (ap (λ (e : End). e.ringer) c.wake.ensures.ends.this
    ∙ (ap (λ (e : End). e.ringer) (c.ring.ensures.ends.others Consumer 0 (λ r n. cc) ∙ (c.settle.ensures.ends.others Consumer 0 (λ r n. cc)
    ∙ (c.wanted.ensures.ends.others Consumer 0 (λ r n. cc) ∙ (c.put.ensures.ends.others Consumer 0 (λ r n. cc) ∙ c.room.ensures.ends.others Consumer 0 (λ r n. cc)))))
    ∙ c.in_ok-world.ensures.consumer.ringer)) in
    search (rules, ringer)
