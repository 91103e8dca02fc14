use Rattle.std.proofs.Common.{◌≡◌, drop}
use Rattle.wire_core.specs.Picks.{drawn}
use Rattle.view_plays.proofs.told_plays.progress.drawn.Given as goal

abbrev pub invariant-loop-entry : goal.invariant-loop-entry
invariant-loop-entry l = drawn l.x (drop l._entry-index l.entries) ≡ drawn l.seed l.entries
