use Rattle.std.proofs.Common.{refl}
use Rattle.std.proofs.lemmas.Option.{slice_get_read}
use Rattle.region_layout.specs.Bases.{bases_of}
use Rattle.region_layout.proofs.bases.bases_of.Goals as goal

pub loop-region-init : goal.loop-region-init
unfolding bases_of
loop-region-init c = rw (c.new-bases.ensures, c.floor_of-free.ensures.floor) (refl, rw c.floor_of-free.ensures.floor at c.floor_of-free.ensures.low)

pub place-base-requires-clause-small : goal.place-base-requires-clause-small
place-base-requires-clause-small c =
    c.requires.each c.loop-region.region-index c.region-item.result (slice_get_read c.args.regions.now _ c.loop-region.region-index c.region-item.result refl c.loop-region-test.true c.region-item.is)
