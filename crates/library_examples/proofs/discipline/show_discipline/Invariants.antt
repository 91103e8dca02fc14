use Rattle.std.proofs.Common.{◌≡◌}
use Rattle.std.specs.Option.{ForSome}
use Rattle.cargo_core.specs.Items.{kind_of}
use Rattle.wire_core.specs.Ends.{Consumer, Producer}
use Rattle.wire_core.specs.Queues.{end_at}
use Rattle.turn_kit.specs.Table.{Agrees}
use Rattle.library_examples.proofs.discipline.show_discipline.Given as goal

abbrev pub invariant-loop-put : goal.invariant-loop-put
invariant-loop-put l = (l.outlet.queue.0 ≡ 0) × Agrees (end_at l.world Producer 0) l.outlet.state × Agrees (end_at l.world Consumer 0) l.intake.state
    × ForSome l.load (λ c. kind_of c.0 ≡ (end_at l.world Producer 0).kind)

abbrev pub invariant-loop-take : goal.invariant-loop-take
invariant-loop-take l = (l.intake.queue.0 ≡ 0) × Agrees (end_at l.world Consumer 0) l.intake.state
