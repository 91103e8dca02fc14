use Rattle.std.proofs.Common.{rules, ap, ◌∙◌, ◌∷◌, [], ◌++◌, ◌%◌, ◌+◌, length, length-set, set, ℕ, Option}
use Rattle.wire_core.specs.Deeds.{Cargo}
use Rattle.plain_wires.specs.Contents.{distance, standing, Contents}
use Rattle.plain_wires.proofs.Rounds.{Added, added}
use Rattle.plain_wires.proofs.slots.Slots.push.Goals as goal

pub invariant_of-self : goal.invariant_of-self
invariant_of-self c = let s = c.self.inside in let i = c.self.invariant in
    let a : Added s.slots.items s.capacity s.head s.tail c.args.entry = added s.slots.items s.capacity s.head s.tail c.args.entry i.sized i.places (search rules) (search rules) i.filled (search rules) in record {
      sized = i.sized;
      places = length-set s.slots.items c.slot_of-place.result c.replace.new.self ∙ i.places;
      within = a.within;
      filled = ap (λ (p : ℕ). length (standing (set s.slots.items p c.replace.new.self) s.capacity s.head (distance s.head ((s.tail + 1) % 65536)))) c.slot_of-place.ensures ∙ (ap (λ (y : Option Cargo). length (standing (set s.slots.items (s.tail % s.capacity) y) s.capacity s.head (distance s.head ((s.tail + 1) % 65536)))) c.replace.ensures.after ∙ a.filled);
    }

pub returns-clause-entries : goal.returns-clause-entries
returns-clause-entries c = let s = c.self.inside in let i = c.self.invariant in
    let a : Added s.slots.items s.capacity s.head s.tail c.args.entry = added s.slots.items s.capacity s.head s.tail c.args.entry i.sized i.places (search rules) (search rules) i.filled (search rules) in
    ap (λ (p : ℕ). standing (set s.slots.items p c.replace.new.self) s.capacity s.head (distance s.head ((s.tail + 1) % 65536))) c.slot_of-place.ensures ∙ (ap (λ (y : Option Cargo). standing (set s.slots.items (s.tail % s.capacity) y) s.capacity s.head (distance s.head ((s.tail + 1) % 65536))) c.replace.ensures.after ∙ (a.entries ∙ ap (λ (v : Contents). v.entries ++ c.args.entry ∷ []) c.self.view_is))
