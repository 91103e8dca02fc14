use Rattle.std.proofs.Common.{◌≡◌, map, take}
use Rattle.play_core.specs.Names.{is_wild}
use Rattle.actor_set.specs.Actors.{part_of}
use Rattle.actor_set.specs.Laws.Kinds.{hostiles}
use Rattle.system_core.proofs.names.kept_queues.Given as goal

abbrev pub invariant-loop-row : goal.invariant-loop-row
invariant-loop-row l = l.kept.items ≡ map (is_wild (hostiles (map part_of l.actors))) (take l.row-index l.rows)
