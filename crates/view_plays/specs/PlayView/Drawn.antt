-- What is drawn of a play.
use Rattle.std.specs.Prelude.{ℕ, ◌+◌, Bool, true, false, Option, unwrap_or, List, [], ◌∷◌, ◌++◌}
use Rattle.std.specs.Prelude.{if◌then◌else◌, is_some, length, take, min, codes}
use Rattle.sdf_plan.specs.declared.plan.Plan.{Plan}
use Rattle.expect_core.specs.declared.report.Report.{Report}
use Rattle.region_layout.specs.declared.layout.Layout.{Layout}
use Rattle.report_text.specs.Reports.{report_text}
use Rattle.wire_core.specs.declared.names.Entry.{Entry}
use Rattle.picture_kit.specs.Svg.{svg_text}
use Rattle.picture_kit.specs.declared.shape.Picture.{Picture}
use Rattle.pictures.specs.declared.layout_view.picture_style.page.TheConstants.{PAGE_FRONT, PAGE_END}
use Rattle.pictures.specs.declared.layout_view.picture_style.sheet.TheConstants.{PICTURE_STYLE}
use Rattle.view_plays.specs.PlayView.PageText.Page.{page_text}
use Rattle.view_plays.specs.declared.play_view.page_text.page.Part.{Part}
use Rattle.pictures.specs.PlayPicture.FillPicture.Fills.{counts_of as fills_of}
use Rattle.pictures.specs.PlayPicture.Pictures.{picture_of}
use Rattle.pictures.specs.PlayPicture.PoolPicture.Pictures.{picture_of as pools_of}
use Rattle.pictures.specs.LayoutView.Drawn.{layout_shapes}
use Rattle.command_words.specs.declared.play_words.ask.Drawing.{Drawing}
use Rattle.command_words.specs.declared.play_words.options.Name.TheVariants as An
use Rattle.command_words.specs.declared.play_words.options.Setting.{Setting}
use Rattle.command_words.specs.PlayWords.Words.{number_of}

-- the first step that the options name, or 0
abbrev pub named_first : List Setting → ℕ
named_first settings = unwrap_or (number_of An.From settings) 0

-- up to which of so many steps is drawn: the named one, or 2,000 behind the first
unfoldable pub last_of : List Setting → ℕ → ℕ
last_of settings steps =
    min (unwrap_or (number_of An.To settings) (named_first settings + 2000)) (min steps 4294967295)

-- from which step on
unfoldable pub first_of : List Setting → ℕ → ℕ
first_of settings steps = min (named_first settings) (last_of settings steps)

-- it is asked for how full the queues are
abbrev pub is_counted : List Setting → Bool
is_counted settings = is_some (number_of An.Counts settings)

-- the chart of the steps of a journal that are drawn
abbrev pub steps_of : Layout → List Entry → List Setting → Picture
steps_of layout journal settings =
    picture_of layout.queues layout.actors (take (last_of settings (length journal)) journal)
    (first_of settings (length journal)) (length journal)

-- how full the queues are over them
abbrev pub counts_of : Layout → List Entry → List Setting → Picture
counts_of layout journal settings =
    fills_of layout.queues (take (last_of settings (length journal)) journal)
    (first_of settings (length journal)) (length journal)

-- the picture that is asked for alone
abbrev pub chart_of : Layout → List Entry → List Setting → Picture
chart_of layout journal settings =
    if is_counted settings then counts_of layout journal settings
    else steps_of layout journal settings

-- a picture under a heading
abbrev pub part : List ℕ → Picture → Part
part heading picture = record { heading = heading; picture = picture }

-- how full the queues are, where that is asked for
abbrev pub counts_part : Layout → List Entry → List Setting → List Part
counts_part layout journal settings =
    if is_counted settings then part (codes "Queues") (counts_of layout journal settings) ∷ []
    else []

-- the pictures of a page: the layout, the steps, how full the queues are where that is asked for,
-- and where the buffers are
abbrev pub parts_of : Plan → Layout → List Entry → Report → List Setting → List Part
parts_of plan layout journal report settings =
    part (codes "Layout") (layout_shapes plan layout)
    ∷ part (codes "Steps") (steps_of layout journal settings)
    ∷ (counts_part layout journal settings ++ part (codes "Buffers") (pools_of report.pools) ∷ [])

-- what is drawn of a play: a page with its report, or a picture
unfoldable pub drawn_text : Plan → Layout → List Entry → Report → Drawing → List ℕ
drawn_text plan layout journal report drawing =
    if drawing.page
    then page_text PAGE_FRONT.now PICTURE_STYLE.now (parts_of plan layout journal report drawing.settings)
    (report_text report) PAGE_END.now
    else svg_text PICTURE_STYLE.now (chart_of layout journal drawing.settings)
