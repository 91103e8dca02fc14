use Rattle.std.proofs.Common.{◌≡◌, drop}
use Rattle.std.specs.Prelude.{max}
use Rattle.std.specs.List.{fold}
use Rattle.sdf_plan.specs.declared.plan.Region.{Region}
use Rattle.pictures.specs.LayoutView.LayoutPicture.Memory.{largest}
use Rattle.pictures.proofs.layout_view.layout_picture.memory.largest.Given as goal

abbrev pub invariant-loop-region : goal.invariant-loop-region
invariant-loop-region l = fold (λ most (region : Region). max most region.size) l.most (drop l.region-index l.regions) ≡ largest l.regions
