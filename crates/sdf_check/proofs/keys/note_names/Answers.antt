use Rattle.std.proofs.lemmas.List.{take_all}
use Rattle.sdf_check.specs.Lookups.{names_shown}
use Rattle.sdf_check.proofs.KeyLemmas.{note-step}
use Rattle.sdf_check.proofs.keys.note_names.Goals as goal

pub loop-name-preserved : goal.loop-name-preserved
loop-name-preserved c = λ finds.
    let was = c.loop-name.invariant finds in
    let next = c.in_ok-note_next.ensures was.0 in
    let step = note-step (names_shown c.args.all.now.items) (names_shown c.loop-name.all.items) (names_shown c.note_next.new.all.items) c.args.names.now c.loop-name.name-index _
    c.loop-name.again c.in_ok-note_next.field-0 c.either-again.result c.loop-name-test.true was.1 next.1 c.either-again.ensures was.2 next.2 in
    (next.0, step.0, step.1)

pub returns : goal.returns
returns c = λ finds.
    let was = c.loop-name.invariant finds in
    rw (take_all c.loop-name.name-index c.args.names.now c.loop-name-test.false) at was
