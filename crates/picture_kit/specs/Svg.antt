-- The text of a picture: an element for each shape, with its texts escaped.
use Rattle.std.specs.Prelude.{ℕ, List, [], ◌∷◌, ◌++◌, codes}
use Rattle.std.specs.List.{flat_map}
use Rattle.std.specs.Fmt.{decimal}
use Rattle.picture_kit.specs.XmlText.Spelling.{escaped}
use Rattle.picture_kit.specs.declared.shape.Area.{Area}
use Rattle.picture_kit.specs.declared.shape.Segment.{Segment}
use Rattle.picture_kit.specs.declared.shape.Spot.{Spot}
use Rattle.picture_kit.specs.declared.shape.Form.{Form}
use Rattle.picture_kit.specs.declared.shape.Form.TheVariants as As
use Rattle.picture_kit.specs.declared.shape.Shape.{Shape}
use Rattle.picture_kit.specs.declared.shape.Picture.{Picture}
use Rattle.picture_kit.specs.Inks.{ink_text}

-- an attribute with a number
abbrev pub number_text : List ℕ → ℕ → List ℕ
number_text name n = 32 ∷ (name ++ (codes "=\"" ++ (decimal n ++ 34 ∷ [])))

-- where a rectangle is
abbrev pub area_text : Area → List ℕ
area_text a =
    number_text (codes "x") a.x ++ (number_text (codes "y") a.y
    ++ (number_text (codes "width") a.width ++ number_text (codes "height") a.height))

-- where a line is
abbrev pub segment_text : Segment → List ℕ
segment_text s =
    number_text (codes "x1") s.from.x ++ (number_text (codes "y1") s.from.y
    ++ (number_text (codes "x2") s.to.x ++ number_text (codes "y2") s.to.y))

-- where a dot is
abbrev pub dot_text : Spot → List ℕ
dot_text s =
    number_text (codes "cx") s.x ++ (number_text (codes "cy") s.y ++ number_text (codes "r") 3)

-- where words begin
abbrev pub spot_text : Spot → List ℕ
spot_text s = number_text (codes "x") s.x ++ number_text (codes "y") s.y

-- where a form is
abbrev pub place_text : Form → List ℕ
place_text (As.Block a) = area_text a
place_text (As.Line s) = segment_text s
place_text (As.Dot s) = dot_text s
place_text (As.Words s words) = spot_text s

-- the element for a form
abbrev pub form_name : Form → List ℕ
form_name (As.Block a) = codes "rect"
form_name (As.Line s) = codes "line"
form_name (As.Dot s) = codes "circle"
form_name (As.Words s words) = codes "text"

-- the words of a form
abbrev pub words_text : Form → List ℕ
words_text (As.Words s words) = escaped words
words_text _ = []

-- a note: nothing where it is empty
abbrev pub note_text : List ℕ → List ℕ
note_text [] = []
note_text (b ∷ bytes) = codes "<title>" ++ (escaped (b ∷ bytes) ++ codes "</title>")

-- the begin of a shape: its element, with its ink as the class, and its place
abbrev pub begin_text : Shape → List ℕ
begin_text s = 60 ∷ (form_name s.form ++ (codes " class=\"" ++ (ink_text s.ink
    ++ 34 ∷ (place_text s.form ++ 62 ∷ []))))

-- the end of a shape
abbrev pub end_text : Form → List ℕ
end_text form = codes "</" ++ (form_name form ++ codes ">\n")

-- a shape, with its note and its words
abbrev pub shape_text : Shape → List ℕ
shape_text s =
    begin_text s ++ (note_text s.note ++ (words_text s.form ++ end_text s.form))

-- some shapes, each once and in order
abbrev pub shapes_text : List Shape → List ℕ
shapes_text shapes = flat_map shape_text shapes

-- the begin of the element of a picture
unfoldable pub opening : List ℕ
opening = codes "<svg xmlns=\"http://www.w3.org/2000/svg\" role=\"img\""

-- that its places are counted from its upper left corner
abbrev pub view_text : ℕ → ℕ → List ℕ
view_text width height =
    codes " viewBox=\"0 0 " ++ (decimal width ++ (codes " " ++ (decimal height ++ codes "\">\n")))

-- its size
unfoldable pub size_text : ℕ → ℕ → List ℕ
size_text width height =
    number_text (codes "width") width ++ (number_text (codes "height") height
    ++ view_text width height)

-- an element with a text in it
unfoldable pub element_text : List ℕ → List ℕ → List ℕ
element_text name text =
    60 ∷ (name ++ 62 ∷ (escaped text ++ (codes "</" ++ (name ++ codes ">\n"))))

-- what stands in front of the shapes of a picture: its size, its title, its description, and the
-- style sheet
unfoldable pub front_text : List ℕ → Picture → List ℕ
front_text style p =
    opening ++ (size_text p.width p.height ++ (element_text (codes "title") p.title
    ++ (element_text (codes "desc") p.about ++ style)))

-- a picture, with its style sheet
abbrev pub svg_text : List ℕ → Picture → List ℕ
svg_text style p = front_text style p ++ (shapes_text p.shapes ++ codes "</svg>\n")
