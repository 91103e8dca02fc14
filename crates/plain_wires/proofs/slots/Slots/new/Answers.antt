use Rattle.std.proofs.Common.{rules, ap, List, length, arith}
use Rattle.wire_core.specs.Deeds.{Cargo}
use Rattle.plain_wires.specs.Contents.{Contents}
use Rattle.plain_wires.proofs.Rounds.{none_stands}
use Rattle.plain_wires.proofs.slots.Slots.new.Goals as goal

pub invariant_of-result : goal.invariant_of-result
invariant_of-result c = record {
  sized = c.requires;
  places = search rules;
  within = omega arith;
  filled = ap length (none_stands c.resize_with.new.self.items c.args.capacity 0);
}

pub returns : goal.returns
returns c = let holding : List Cargo → Contents = (λ es. record { capacity = c.args.capacity; entries = es }) in ap holding (none_stands c.resize_with.new.self.items c.args.capacity 0)
