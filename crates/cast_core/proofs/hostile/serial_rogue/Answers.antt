use Rattle.std.proofs.Common.{◌≡◌, ◌+◌, ◌*◌, ℕ, List, [], ◌∷◌, length, sym, ap, ap₂, ◌∙◌, subst, arith}
use Rattle.std.specs.List.{All}
use Rattle.cargo_core.specs.declared.act.Act.{Act}
use Rattle.cargo_core.specs.declared.item.QueueKind.TheVariants as Kind
use Rattle.wire_core.specs.declared.names.QueueId.{QueueId}
use Rattle.trace_text.specs.declared.class.Class.TheVariants as Of
use Rattle.client_programs.specs.Rogue.Clients.{AreApart, IsActOf}
use Rattle.actor_set.specs.Actors.{numbers, pages_at}
use Rattle.actor_set.specs.Parts.{HostilePart}
use Rattle.cast_core.specs.Hostile.{rogue_with}
use Rattle.cast_core.proofs.HostileLemmas.{acts_are, acts_few, acts_fit, one_apart, rogue_is, rogue_new}
use Rattle.cast_core.proofs.hostile.serial_rogue.Goals as goal

pub acts-requires : goal.acts-requires
acts-requires c = let count = c.requires.acts.count in let there = c.requires.there in omega (arith, count, there)

pub new-requires-clause-inputs : goal.new-requires-clause-inputs
new-requires-clause-inputs c = subst (λ (l : List QueueId). AreApart (numbers l)) (sym c.in_ok-inputs.ensures.items) (one_apart _)

pub new-requires-clause-outputs : goal.new-requires-clause-outputs
new-requires-clause-outputs c = subst (λ (l : List QueueId). AreApart (numbers l)) (sym c.in_ok-outputs.ensures.items) (one_apart _)

pub new-requires-clause-acts : goal.new-requires-clause-acts
new-requires-clause-acts c =
    subst (λ (l : List QueueId). All (IsActOf (length l) (length l + length c.in_ok-outputs.outputs.items)) c.in_ok-acts.acts.items) (sym c.in_ok-inputs.ensures.items)
    (subst (λ (l : List QueueId). All (IsActOf 1 (1 + length l)) c.in_ok-acts.acts.items) (sym c.in_ok-outputs.ensures.items)
    (subst (λ (l : List Act). All (IsActOf 1 2) l) (sym c.in_ok-acts.ensures.items) (acts_fit Of.Serial c.args.trace.now.serial_acts c.args.clients c.args.client c.acts.result.now c.requires.acts c.acts.ensures)))

pub new-requires-clause-few : goal.new-requires-clause-few
new-requires-clause-few c =
    let none : length c.new-own.result.items ≡ 0 = ap length c.new-own.ensures.items in
    let acts : length c.in_ok-acts.acts.items ≡ length c.acts.result.now = ap length c.in_ok-acts.ensures.items in
    let few = acts_few Of.Serial c.args.trace.now.serial_acts c.args.clients c.args.client c.acts.result.now c.requires.acts c.acts.ensures in
    omega (arith, none, acts, few)

pub returns-clause-new : goal.returns-clause-new
returns-clause-new c = rogue_new _ _ _ _ _ c.in_ok-new.field-0 c.in_ok-new.ensures.new

pub returns-clause-part : goal.returns-clause-part
returns-clause-part c =
    let k = c.args.client in
    let first = c.args.first in
    let acts = c.in_ok-acts.ensures.items ∙ sym (acts_are c.args.trace.now.serial_acts k c.acts.result.now c.acts.ensures) in
    let next : first + 4 + 2 * k + 1 ≡ first + 5 + 2 * k = omega arith in
    rogue_is Kind.Byte c.in_ok-inputs.inputs.items c.in_ok-outputs.outputs.items c.new-own.result.items c.in_ok-acts.acts.items c.in_ok-new.field-0 c.in_ok-new.ensures.new [] (ap pages_at c.new-own.ensures.items)
    ∙ (ap₂ (λ (i o : List QueueId). HostilePart (rogue_with Kind.Byte (numbers i) (numbers o) [] c.in_ok-acts.acts.items)) c.in_ok-inputs.ensures.items c.in_ok-outputs.ensures.items
    ∙ ap₂ (λ (n : ℕ) (l : List Act). HostilePart (rogue_with Kind.Byte ((first + 4 + 2 * k) ∷ []) (n ∷ []) [] l)) next acts)
