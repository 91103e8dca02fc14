use Rattle.std.proofs.Common.{◌≡◌, ◌+◌, ◌*◌, ◌≤◌, length}
use Rattle.wire_core.specs.Picks.{drawn}
use Rattle.view_plays.proofs.ToldPlays.SliceLemmas.{IsMade, IsToldSoFar}
use Rattle.view_plays.proofs.told_plays.progress.played_told.Given as goal

-- the slices that were made are one play so far, and their lines were told
abbrev pub invariant-loop-left : goal.invariant-loop-left
invariant-loop-left g l =
    IsMade l.plan l.trace l.seed l.system × (l.x ≡ drawn l.seed l.system.journal) × (length l.system.journal + l.left ≡ l.limit)
    × (262144 * l.slices + l.left ≤ l.limit) × IsToldSoFar g.E.Sink.written l.initial.err l.err l.going l.slices

abbrev pub decreases-loop-left : goal.decreases-loop-left
decreases-loop-left g l = l.left
