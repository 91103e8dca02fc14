use Rattle.std.proofs.Common.{rules, sym, ap, ◌∙◌, ◌%◌, ◌+◌, None, is_some, length, length-set, get_or, set, ℕ, Option}
use Rattle.std.proofs.lemmas.List.{get_or_read}
use Rattle.wire_core.specs.Deeds.{Cargo}
use Rattle.plain_wires.specs.Contents.{distance, standing, Contents}
use Rattle.plain_wires.proofs.Rounds.{Taken, taken, leaves}
use Rattle.plain_wires.proofs.slots.Slots.pop.Goals as goal

pub unwrap-requires : goal.unwrap-requires
unwrap-requires c = let s = c.self.inside in let i = c.self.invariant in
    let t : Taken s.slots.items s.capacity s.head s.tail = taken s.slots.items s.capacity s.head s.tail i.sized (search rules) (search rules) i.within i.filled (search rules) in
    let was = get_or_read s.slots.items c.slot_of-place.result c.index_mut.result.now (search rules) c.index_mut.ensures.value None in
    ap is_some (c.take.ensures.value ∙ (was ∙ (ap (λ (p : ℕ). get_or s.slots.items p None) c.slot_of-place.ensures ∙ t.there)))

pub invariant_of-self : goal.invariant_of-self
invariant_of-self c = let s = c.self.inside in let i = c.self.invariant in
    let t : Taken s.slots.items s.capacity s.head s.tail = taken s.slots.items s.capacity s.head s.tail i.sized (search rules) (search rules) i.within i.filled (search rules) in record {
      sized = i.sized;
      places = length-set s.slots.items c.slot_of-place.result c.take.new.self ∙ i.places;
      within = t.within;
      filled = ap (λ (p : ℕ). length (standing (set s.slots.items p c.take.new.self) s.capacity ((s.head + 1) % 65536) (distance ((s.head + 1) % 65536) s.tail))) c.slot_of-place.ensures ∙ (ap (λ (y : Option Cargo). length (standing (set s.slots.items (s.head % s.capacity) y) s.capacity ((s.head + 1) % 65536) (distance ((s.head + 1) % 65536) s.tail))) c.take.ensures.after ∙ t.filled);
    }

pub returns-clause-first : goal.returns-clause-first
returns-clause-first c = let s = c.self.inside in let i = c.self.invariant in
    let t : Taken s.slots.items s.capacity s.head s.tail = taken s.slots.items s.capacity s.head s.tail i.sized (search rules) (search rules) i.within i.filled (search rules) in
    let was = get_or_read s.slots.items c.slot_of-place.result c.index_mut.result.now (search rules) c.index_mut.ensures.value None in
    sym (ap (λ (v : Contents). v.entries) c.self.view_is) ∙ leaves s.slots.items s.capacity s.head s.tail t c.slot_of-place.result c.take.new.self c.unwrap.result c.slot_of-place.ensures c.take.ensures.after (sym was ∙ (sym c.take.ensures.value ∙ c.unwrap.ensures))
