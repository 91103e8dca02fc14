use Rattle.spsc_queue.proofs.Events.{is_event}
use Rattle.spsc_queue.proofs.Told.{words_are}
use Rattle.spsc_queue.proofs.laws.ring_law.Goals as goal

pub returns-clause-event : goal.returns-clause-event
returns-clause-event c = is_event

pub returns-clause-words : goal.returns-clause-words
returns-clause-words c = words_are
