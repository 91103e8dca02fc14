use Rattle.std.proofs.Common.{◌≡◌, Some, slice_get, refl, sym}
use Rattle.std.proofs.lemmas.Option.{slice_get_read}
use Rattle.cast_law.specs.Pools.Holders.{holders_of}
use Rattle.system_core.proofs.Counting.{lines_next}
use Rattle.system_core.proofs.lines.lines.Goals as goal

pub loop-number-preserved : goal.loop-number-preserved
loop-number-preserved c =
    let at : slice_get c.args.pools.now c.loop-number.number ≡ Some c.index-pools-number.result = slice_get_read c.args.pools.now _ c.loop-number.number c.index-pools-number.result refl c.loop-number-test.true c.index-pools-number.is in
    rw (c.in_ok-push.ensures.ok, c.loop-number.invariant, c.in_ok-line.ensures) (sym (lines_next c.args.world.now (holders_of c.args.actors.now) c.args.pools.now c.loop-number.number c.index-pools-number.result at))
