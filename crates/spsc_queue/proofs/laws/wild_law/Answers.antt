use Rattle.spsc_queue.proofs.WildEvents.{beginning, guards_are, is_wild_event}
use Rattle.spsc_queue.proofs.laws.wild_law.Goals as goal

pub returns-clause-beginning : goal.returns-clause-beginning
returns-clause-beginning c = beginning

pub returns-clause-guards : goal.returns-clause-guards
returns-clause-guards c = λ kind n ws hs p q e. guards_are kind n ws hs p q e

pub returns-clause-event : goal.returns-clause-event
returns-clause-event c = λ kind n ws hs p q o a cargo h e may d read. is_wild_event kind n ws hs p q e o a cargo h may d read
