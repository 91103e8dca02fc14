use Rattle.std.proofs.Common.{◌∙◌, sym, refl}
use Rattle.std.specs.Option.{option_map, option_to_list}
use Rattle.wire_core.specs.Deeds.{put_of}
use Rattle.wire_core.proofs.Places.{if_there_here}
use Rattle.library_examples.proofs.ClassExample.Speech.{spoken_put}
use Rattle.library_examples.proofs.class_example.source.Source.step_output.Goals as goal

pub returns-then-is_some-clause-stepped : goal.returns-then-is_some-clause-stepped
returns-then-is_some-clause-stepped g c = record {
  body = option_map (λ x. x.1) (put_of c.step-event.result c.load-load.result);
  happened = c.step-event.ensures.did;
  kept = λ passed h. record {
    sent_is = rw (c.step-event.ensures.queue, c.step-event.ensures.puts c.args.self.now.output.queue.0, if_there_here c.args.self.now.output.queue.0 (option_to_list (put_of c.step-event.result c.load-load.result)), h.sent_is) (spoken_put c.args.self.now.script c.args.self.now.next _ c.step-event.result.item c.load-load.result (sym c.is_some.ensures ∙ c.if-is_some.true) refl c.load-load.ensures.load c.step-event.ensures.item);
  };
}
