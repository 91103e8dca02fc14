-- What stands in a choice among the ends of an actor.
use Rattle.std.specs.Prelude.{◌<◌, ◌^◌}
use Rattle.turn_kit.specs.declared.turns.Choice.TheInside.{Inside}
use Rattle.turn_kit.specs.Lowests.{found}
use Rattle.turn_kit.specs.Turns.{Choosing, IsWithin}

-- a choosing among ends, as contracts see it
abbrev pub choosing_of : Inside → Choosing
choosing_of c = record {
  count = c.count;
  last = c.last;
  unsettled = found c.unsettled;
  after = found c.after;
  first = found c.first;
}

-- each end that was found has a place below the count, and the last is the number of a queue
pub record IsChoice (c : Inside) : Type 0 where
  pub unsettled : IsWithin c.count (found c.unsettled)
  pub after : IsWithin c.count (found c.after)
  pub fits : c.count < 2 ^ 64
  pub first : IsWithin c.count (found c.first)
  pub number : c.last < 65536
