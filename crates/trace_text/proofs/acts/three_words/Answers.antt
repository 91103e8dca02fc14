use Rattle.trace_text.proofs.Acting.{four_words}
use Rattle.trace_text.proofs.acts.three_words.Goals as goal

pub returns-in-Some : goal.returns-in-Some
returns-in-Some c =
    four_words c.args.text.now c.in_ok-first.rest.now c.in_ok-second.third.now c.in-Some.field-0.1.now c.in_ok-first.first.now c.in_ok-second.second.now c.in-Some.field-0.0.now c.in_ok-first.ensures.parts c.in_ok-second.ensures.parts c.in-Some.ensures.parts
