use Rattle.std.proofs.Common.{◌<◌, length, refl, arith}
use Rattle.std.proofs.lemmas.Option.{slice_get_read}
use Rattle.buffer_kit.specs.Virtualising.{intake_forgotten}
use Rattle.buffer_kit.proofs.Places.{changed_more, same_length}
use Rattle.buffer_kit.proofs.virt_ends.forget_inputs.Goals as goal

pub loop-k-preserved : goal.loop-k-preserved
loop-k-preserved c =
    let long = same_length intake_forgotten c.args.inputs.now.ends.items c.loop-k.inputs.ends.items c.loop-k.k c.loop-k.invariant in
    let within : c.loop-k.k < length c.loop-k.inputs.ends.items = omega (arith, long, c.len-k-end.ensures) in
    changed_more intake_forgotten c.args.inputs.now.ends.items c.loop-k.inputs.ends.items c.loop-k.k c.index_mut-end.result.now c.forget.new.self c.loop-k.invariant (slice_get_read c.loop-k.inputs.ends.items _ c.loop-k.k c.index_mut-end.result.now refl within c.index_mut-end.ensures.value) c.forget.ensures
