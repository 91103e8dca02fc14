use Rattle.std.proofs.Common.{◌≡◌, ◌≤◌, ◌-◌, length, drop}
use Rattle.client_programs.specs.Rogue.Acts.{next_acts}
use Rattle.client_programs.proofs.rogue.Rogue.upcoming.Given as goal

abbrev pub invariant-loop-place : goal.invariant-loop-place
invariant-loop-place l = (l.self.next ≤ length l.self.acts.items → l.place ≤ length l.self.acts.items) × (next_acts (length l.self.kept.items) (drop l.self.next l.self.acts.items) ≡ next_acts (length l.self.kept.items) (drop l.place l.self.acts.items))

abbrev pub decreases-loop-place : goal.decreases-loop-place
decreases-loop-place l = length l.self.acts.items - l.place
