-- How tags are spelled: escapes, attributes, tags, and a line for each tag.
use Rattle.std.specs.Prelude.{◌≡◌, ℕ, zero, suc, ◌+◌, ◌-◌, ◌==◌, Option, Some, None, List, [], ◌∷◌}
use Rattle.std.specs.Prelude.{◌++◌, if◌then◌else◌, codes}
use Rattle.std.specs.List.{flat_map}
use Rattle.picture_kit.specs.declared.xml_text.tag.Attribute.{Attribute}
use Rattle.picture_kit.specs.declared.xml_text.tag.Head.{Head}
use Rattle.picture_kit.specs.declared.xml_text.tag.Tag.{Tag}
use Rattle.picture_kit.specs.declared.xml_text.tag.Tag.TheVariants as Is

-- the name of the entity for a byte that may not stand for itself in a value: the characters of
-- markup, and a tab, an end of a line and a carriage return by their numbers
abbrev pub entity_of : ℕ → Option (List ℕ)
entity_of b =
    if b == 38 then Some (codes "amp") else
    if b == 60 then Some (codes "lt") else
    if b == 62 then Some (codes "gt") else
    if b == 34 then Some (codes "quot") else
    if b == 39 then Some (codes "apos") else
    if b == 9 then Some (codes "#9") else
    if b == 10 then Some (codes "#10") else
    if b == 13 then Some (codes "#13") else None

-- a byte, or the entity for it: an ampersand, the entity's name, a semicolon
abbrev pub byte_or_entity : ℕ → Option (List ℕ) → List ℕ
byte_or_entity b None = b ∷ []
byte_or_entity b (Some name) = 38 ∷ (name ++ 59 ∷ [])

-- a byte of a value as it is written
abbrev pub escaped_byte : ℕ → List ℕ
escaped_byte b = byte_or_entity b (entity_of b)

-- a value as it is written
abbrev pub escaped : List ℕ → List ℕ
escaped value = flat_map escaped_byte value

-- an attribute: a space, its name, and its value in quotes
abbrev pub attribute_text : Attribute → List ℕ
attribute_text a = 32 ∷ (a.name ++ (codes "=\"" ++ (escaped a.value ++ 34 ∷ [])))

-- some attributes, one behind another
abbrev pub attributes_text : List Attribute → List ℕ
attributes_text attributes = flat_map attribute_text attributes

-- what a tag has in front of its end
abbrev pub head_text : Head → List ℕ
head_text head = 60 ∷ (head.name ++ attributes_text head.attributes)

-- a tag
abbrev pub tag_text : Tag → List ℕ
tag_text (Is.Open head) = head_text head ++ codes ">"
tag_text (Is.Alone head) = head_text head ++ codes " />"
tag_text (Is.Close name) = codes "</" ++ (name ++ codes ">")

-- four spaces for each element that a line stands in
abbrev pub indent : ℕ → List ℕ
indent zero = []
indent (suc depth) = codes "    " ++ indent depth

-- how deep the line of a tag stands, where what is in front of it left this depth
abbrev pub depth_before : ℕ → Tag → ℕ
depth_before depth (Is.Open head) = depth
depth_before depth (Is.Alone head) = depth
depth_before depth (Is.Close name) = depth - 1

-- how deep the next line stands
abbrev pub depth_behind : ℕ → Tag → ℕ
depth_behind depth (Is.Open head) = depth + 1
depth_behind depth (Is.Alone head) = depth
depth_behind depth (Is.Close name) = depth

-- the line of a tag
abbrev pub line_text : ℕ → Tag → List ℕ
line_text depth tag = indent depth ++ (tag_text tag ++ 10 ∷ [])

-- the lines of some tags, from a depth on
abbrev pub lines_text : ℕ → List Tag → List ℕ
lines_text depth [] = []
lines_text depth (tag ∷ rest) =
    line_text (depth_before depth tag) tag
    ++ lines_text (depth_behind (depth_before depth tag) tag) rest

-- what an XML text begins with
abbrev pub prolog : List ℕ
prolog = codes "<?xml version=\"1.0\" encoding=\"UTF-8\"?>\n"

-- the text of some tags
abbrev pub xml_text : List Tag → List ℕ
xml_text tags = prolog ++ lines_text 0 tags
