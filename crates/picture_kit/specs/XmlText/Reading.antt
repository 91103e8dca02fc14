-- A plain reader of the same grammar: it goes over a text once, from the left, and tells its tags.
use Rattle.std.specs.Prelude.{◌≡◌, ℕ, ◌+◌, ◌==◌, ◌&&◌, ◌||◌, not, nat_lt, nat_eq, is_none, Bool}
use Rattle.std.specs.Prelude.{true, Option, Some, None, List, [], ◌∷◌, ◌++◌, length, take, drop}
use Rattle.std.specs.Prelude.{if◌then◌else◌, codes}
use Rattle.std.specs.List.{list_all, AllByRecursion}
use Rattle.std.specs.Cmp.Lexicographic.{pointwise}
use Rattle.picture_kit.specs.declared.xml_text.tag.Attribute.{Attribute}
use Rattle.picture_kit.specs.declared.xml_text.tag.Head.{Head}
use Rattle.picture_kit.specs.declared.xml_text.tag.Tag.{Tag}
use Rattle.picture_kit.specs.declared.xml_text.tag.Tag.TheVariants as Is
use Rattle.picture_kit.specs.XmlText.Spelling.{entity_of, prolog}

-- whether a number is from one to another
abbrev pub is_from_to : ℕ → ℕ → ℕ → Bool
is_from_to first last b = nat_lt b (last + 1) && not (nat_lt b first)

-- whether a byte may stand in the name of an element or an attribute: a letter, a digit or `_`
abbrev pub is_name_byte : ℕ → Bool
is_name_byte b = is_from_to 97 122 b || (is_from_to 65 90 b || (is_from_to 48 57 b || b == 95))

-- a name of an element or an attribute: one such byte or more
pub record IsName (name : List ℕ) : Type 0 where
  pub filled : (name ≡ []) → ⊥
  pub bytes : list_all is_name_byte name ≡ true

-- whether a byte stands for itself in a value
abbrev pub is_plain : ℕ → Bool
is_plain b = is_none (entity_of b)

-- the byte for which an entity of this name stands
abbrev pub byte_of : List ℕ → Option ℕ
byte_of name =
    if pointwise nat_eq name (codes "amp") then Some 38 else
    if pointwise nat_eq name (codes "lt") then Some 60 else
    if pointwise nat_eq name (codes "gt") then Some 62 else
    if pointwise nat_eq name (codes "quot") then Some 34 else
    if pointwise nat_eq name (codes "apos") then Some 39 else
    if pointwise nat_eq name (codes "#9") then Some 9 else
    if pointwise nat_eq name (codes "#10") then Some 10 else
    if pointwise nat_eq name (codes "#13") then Some 13 else None

-- where the reader stands: between tags; behind a `<`; in the name of a tag that ends an element,
-- or begins one; in such a tag behind a space, or behind an attribute; in an attribute's name,
-- behind its `=`, in its value, in an entity there; behind a `/` at the end of a tag; or it found
-- what isn't in the grammar. It has the parts of the tag that it read.
pub data State : Type 0 where
  Between : State
  Begun : State
  Closing : List ℕ → State
  Opening : List ℕ → State
  Inside : Head → State
  Behind : Head → State
  Naming : Head → List ℕ → State
  Equal : Head → List ℕ → State
  Valued : Head → List ℕ → List ℕ → State
  Entity : Head → List ℕ → List ℕ → List ℕ → State
  Ending : Head → State
  Lost : State

-- the tags that were read, and where the reader stands
pub record Reader : Type 0 where
  pub tags : List Tag
  pub state : State

-- a reader that read these tags and stands here
abbrev pub at : List Tag → State → Reader
at tags state = record { tags = tags; state = state }

-- a head with no attribute
abbrev pub bare : List ℕ → Head
bare name = record { name = name; attributes = [] }

-- a head with one more attribute
abbrev pub also : Head → List ℕ → List ℕ → Head
also head name value = record head {
  attributes = head.attributes ++ (record { name = name; value = value }) ∷ [];
}

-- the value goes on with the byte of an entity, if there is one of this name
abbrev pub replaced : List Tag → Head → List ℕ → List ℕ → Option ℕ → Reader
replaced tags head name value None = at tags Lost
replaced tags head name value (Some b) = at tags (Valued head name (value ++ b ∷ []))

-- the reader reads a byte
abbrev pub step_in : List Tag → State → ℕ → Reader
step_in tags Between b =
    if b == 60 then at tags Begun else
    if b == 32 then at tags Between else
    if b == 10 then at tags Between else at tags Lost
step_in tags Begun b =
    if is_name_byte b then at tags (Opening (b ∷ [])) else
    if b == 47 then at tags (Closing []) else at tags Lost
step_in tags (Closing name) b =
    if is_name_byte b then at tags (Closing (name ++ b ∷ [])) else
    if b == 62 then at (tags ++ Is.Close name ∷ []) Between else at tags Lost
step_in tags (Opening name) b =
    if is_name_byte b then at tags (Opening (name ++ b ∷ [])) else
    if b == 32 then at tags (Inside (bare name)) else
    if b == 62 then at (tags ++ Is.Open (bare name) ∷ []) Between else at tags Lost
step_in tags (Inside head) b =
    if is_name_byte b then at tags (Naming head (b ∷ [])) else
    if b == 47 then at tags (Ending head) else at tags Lost
step_in tags (Behind head) b =
    if b == 32 then at tags (Inside head) else
    if b == 62 then at (tags ++ Is.Open head ∷ []) Between else at tags Lost
step_in tags (Naming head name) b =
    if is_name_byte b then at tags (Naming head (name ++ b ∷ [])) else
    if b == 61 then at tags (Equal head name) else at tags Lost
step_in tags (Equal head name) b =
    if b == 34 then at tags (Valued head name []) else at tags Lost
step_in tags (Valued head name value) b =
    if is_plain b then at tags (Valued head name (value ++ b ∷ [])) else
    if b == 34 then at tags (Behind (also head name value)) else
    if b == 38 then at tags (Entity head name value []) else at tags Lost
step_in tags (Entity head name value entity) b =
    if b == 59 then replaced tags head name value (byte_of entity)
    else at tags (Entity head name value (entity ++ b ∷ []))
step_in tags (Ending head) b =
    if b == 62 then at (tags ++ Is.Alone head ∷ []) Between else at tags Lost
step_in tags Lost b = at tags Lost

-- the reader reads some bytes
abbrev pub run : Reader → List ℕ → Reader
run reader [] = reader
run reader (b ∷ bytes) = run (step_in reader.tags reader.state b) bytes

-- the tags of a text that was read, if it ended between tags
abbrev pub told : List Tag → State → Option (List Tag)
told tags Between = Some tags
told tags _ = None

-- the tags of a reader
abbrev pub tags_told : Reader → Option (List Tag)
tags_told reader = told reader.tags reader.state

-- whether a text begins with the prolog
abbrev pub has_prolog : List ℕ → Bool
has_prolog text = pointwise nat_eq (take (length prolog) text) prolog

-- the tags of a text, if it is one of the grammar
abbrev pub read_xml : List ℕ → Option (List Tag)
read_xml text =
    if has_prolog text then tags_told (run (at [] Between) (drop (length prolog) text)) else None

-- the names of a head are names
pub record IsHead (head : Head) : Type 0 where
  pub name : IsName head.name
  pub attributes : AllByRecursion (λ (a : Attribute). IsName a.name) head.attributes

-- the names of a tag are names
abbrev pub IsTag : Tag → Type 0
IsTag (Is.Open head) = IsHead head
IsTag (Is.Alone head) = IsHead head
IsTag (Is.Close name) = IsName name
