use Rattle.std.proofs.Common.{ap, ◌∙◌, List}
use Rattle.wire_core.specs.declared.names.QueueId.{QueueId}
use Rattle.wire_core.specs.declared.names.Event.{Event}
use Rattle.wire_core.specs.Lists.{Stepped}
use Rattle.wire_core.specs.Queues.{Queue, Happens}
use Rattle.turn_kit.specs.Turns.{Turned}
use Rattle.small_system.specs.Meanings.{Acts}
use Rattle.library_examples.specs.declared.class_example.source.Source.{Source}
use Rattle.library_examples.specs.declared.class_example.joiner.Joiner.{Joiner}
use Rattle.library_examples.specs.declared.class_example.member.Member.TheVariants as Members
use Rattle.library_examples.specs.ClassExample.Sources.{SourceStandsFor, SameSource, source_round}
use Rattle.library_examples.specs.ClassExample.Joiners.{JoinerStandsFor, SameJoiner, joiner_round}
use Rattle.library_examples.specs.ClassExample.Members.{Says, Joins, member_means}

-- A step of either kind of actor is one of the member.

pub source_acts : (w v : List Queue) (old new : Source) (e : Event) → Stepped SourceStandsFor Happens w v old new e → Turned (source_round old) e (source_round new) → SameSource old new → Acts member_means w v (Members.Source old) (Members.Source new) e
source_acts w v old new e st turned same = record {
  body = st.body;
  happened = st.happened;
  steps = record { turned = turned; kept = st.kept; part = ap (λ (q : QueueId). Says q.0 new.script) same.output ∙ ap (Says old.output.queue.0) same.script };
}

pub joiner_acts : (w v : List Queue) (old new : Joiner) (e : Event) → Stepped JoinerStandsFor Happens w v old new e → Turned (joiner_round old) e (joiner_round new) → SameJoiner old new → Acts member_means w v (Members.Joiner old) (Members.Joiner new) e
joiner_acts w v old new e st turned same = record {
  body = st.body;
  happened = st.happened;
  steps = record { turned = turned; kept = st.kept; part = ap (λ (q : QueueId). Joins q.0 new.second.queue.0) same.first ∙ ap (λ (q : QueueId). Joins old.first.queue.0 q.0) same.second };
}
