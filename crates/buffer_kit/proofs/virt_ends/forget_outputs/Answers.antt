use Rattle.std.proofs.Common.{◌<◌, length, refl, arith}
use Rattle.std.proofs.lemmas.Option.{slice_get_read}
use Rattle.buffer_kit.specs.Virtualising.{outlet_forgotten}
use Rattle.buffer_kit.proofs.Places.{changed_more, same_length}
use Rattle.buffer_kit.proofs.virt_ends.forget_outputs.Goals as goal

pub loop-k-preserved : goal.loop-k-preserved
loop-k-preserved c =
    let long = same_length outlet_forgotten c.args.outputs.now.ends.items c.loop-k.outputs.ends.items c.loop-k.k c.loop-k.invariant in
    let within : c.loop-k.k < length c.loop-k.outputs.ends.items = omega (arith, long, c.len-k-end.ensures) in
    changed_more outlet_forgotten c.args.outputs.now.ends.items c.loop-k.outputs.ends.items c.loop-k.k c.index_mut-end.result.now c.forget.new.self c.loop-k.invariant (slice_get_read c.loop-k.outputs.ends.items _ c.loop-k.k c.index_mut-end.result.now refl within c.index_mut-end.ensures.value) c.forget.ensures
