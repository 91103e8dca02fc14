-- The text of a page: its pictures, each under a heading, and its report.
use Rattle.std.specs.Prelude.{ℕ, List, [], ◌++◌, codes}
use Rattle.std.specs.List.{flat_map}
use Rattle.picture_kit.specs.XmlText.Spelling.{escaped}
use Rattle.picture_kit.specs.Svg.{svg_text}
use Rattle.view_plays.specs.declared.play_view.page_text.page.Part.{Part}

-- a text between a begin and an end
unfoldable pub between : List ℕ → List ℕ → List ℕ → List ℕ
between begin text end = begin ++ (text ++ end)

-- a heading
abbrev pub heading_text : List ℕ → List ℕ
heading_text heading = between (codes "<h2>") (escaped heading) (codes "</h2>\n")

-- a picture under its heading, in a frame that scrolls
unfoldable pub part_text : Part → List ℕ
part_text part =
    heading_text part.heading
    ++ between (codes "<div class=\"frame\">\n") (svg_text [] part.picture) (codes "</div>\n")

-- some pictures, each once and in order
abbrev pub parts_text : List Part → List ℕ
parts_text parts = flat_map part_text parts

-- a report, as it is printed
unfoldable pub report_text : List ℕ → List ℕ
report_text report =
    heading_text (codes "Report") ++ between (codes "<pre>\n") (escaped report) (codes "</pre>\n")

-- a style sheet for all pictures, in an element that shows nothing
abbrev pub style_text : List ℕ → List ℕ
style_text style =
    between (codes "<svg width=\"0\" height=\"0\" aria-hidden=\"true\">\n") style
    (codes "</svg>\n")

-- a page
unfoldable pub page_text : List ℕ → List ℕ → List Part → List ℕ → List ℕ → List ℕ
page_text front style parts report end =
    front ++ (style_text style ++ (parts_text parts ++ (report_text report ++ end)))
