use Rattle.std.proofs.Common.{◌≡◌, ◌++◌, take, map}
use Rattle.export_text.specs.System.{region_tag}
use Rattle.export_text.proofs.system.push_regions.Given as goal

abbrev pub invariant-loop-region : goal.invariant-loop-region
invariant-loop-region l = l.tags ≡ l.fn.tags ++ map region_tag (take l.region-index l.regions)
