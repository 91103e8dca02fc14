-- What is drawn of a layout: each of its rows, by what the plan says of it.
use Rattle.std.specs.Prelude.{ℕ, List}
use Rattle.sdf_plan.specs.declared.plan.Plan.{Plan}
use Rattle.region_layout.specs.declared.layout.Layout.{Layout}
use Rattle.picture_kit.specs.Svg.{svg_text}
use Rattle.picture_kit.specs.declared.shape.Picture.{Picture}
use Rattle.pictures.specs.declared.layout_view.picture_style.sheet.TheConstants.{PICTURE_STYLE}
use Rattle.pictures.specs.LayoutView.LayoutPicture.Graph.{graph_of}
use Rattle.pictures.specs.LayoutView.LayoutPicture.Pictures.{picture_of}

-- the picture of a layout
abbrev pub layout_shapes : Plan → Layout → Picture
layout_shapes plan layout =
    picture_of plan layout.bases layout.queues layout.pools layout.actors

-- its text
unfoldable pub layout_svg : Plan → Layout → List ℕ
layout_svg plan layout = svg_text PICTURE_STYLE.now (layout_shapes plan layout)

-- the layout as a graph in DOT
unfoldable pub layout_graph : Plan → Layout → List ℕ
layout_graph plan layout =
    graph_of plan layout.bases layout.queues layout.pools layout.actors
