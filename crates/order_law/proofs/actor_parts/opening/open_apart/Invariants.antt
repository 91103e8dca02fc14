use Rattle.std.proofs.Common.{◌≡◌, length, take}
use Rattle.order_law.specs.ActorParts.Opened.{AreOpened}
use Rattle.order_law.proofs.actor_parts.opening.open_apart.Given as goal

abbrev pub invariant-loop-row : goal.invariant-loop-row
invariant-loop-row l = record {
  many : length l.rings.items ≡ l.row-index;
  opened : AreOpened (take (length l.rings.items) l.rows) l.fn.actors.items l.rings.items l.parts.items;
}
