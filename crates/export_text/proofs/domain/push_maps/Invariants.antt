use Rattle.std.proofs.Common.{◌≡◌, ◌++◌, take, map}
use Rattle.export_text.specs.System.{map_tag}
use Rattle.export_text.proofs.domain.push_maps.Given as goal

abbrev pub invariant-loop-map : goal.invariant-loop-map
invariant-loop-map l = l.tags ≡ l.fn.tags ++ map map_tag (take l.map-index l.maps)
