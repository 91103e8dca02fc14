use Rattle.std.proofs.Common.{◌<◌, length, get_or, min, refl, arith}
use Rattle.std.proofs.lemmas.Option.{slice_get_read, slice_get-get_or}
use Rattle.report_text.proofs.RegionLemmas.{region_written, all_written}
use Rattle.report_text.proofs.layout.add_regions.Goals as goal

pub loop-k-preserved : goal.loop-k-preserved
loop-k-preserved c =
    let both : c.loop-k.k < min (length c.args.regions.now) (length c.args.bases.now) = rw c.min-k-end.ensures at c.loop-k-test.true in
    let here = slice_get_read c.args.regions.now _ c.loop-k.k c.index-regions-k.result refl (omega arith) c.index-regions-k.is in
    let there = slice_get-get_or c.args.bases.now c.loop-k.k 0 (omega arith) in
    region_written c.args.regions.now c.args.bases.now c.loop-k.k c.index-regions-k.result (get_or c.args.bases.now c.loop-k.k 0) _ _ _ here there c.in_ok-add_region.ensures c.loop-k.invariant

pub returns : goal.returns
returns c = all_written c.args.regions.now c.args.bases.now c.loop-k.k _ _ (rw c.min-k-end.ensures at c.loop-k-test.false) c.loop-k.invariant
