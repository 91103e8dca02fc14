use Rattle.std.proofs.Common.{◌≡◌, ◌≤◌, drop}
use Rattle.pictures.specs.LayoutView.LayoutPicture.Pictures.{longest_region}
use Rattle.pictures.proofs.layout_view.layout_picture.picture.longest_region.Given as goal

abbrev pub invariant-loop-region : goal.invariant-loop-region
invariant-loop-region l = (longest_region l.most (drop l.region-index l.regions) ≡ longest_region 0 l.regions) × (l.most ≤ 900)
