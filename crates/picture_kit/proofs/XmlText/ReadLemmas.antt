use Rattle.std.proofs.Common.{◌≡◌, ℕ, zero, suc, ◌==◌, ◌⊎◌, Bool, true, false, is_none, Option, Some, None, List, [], ◌∷◌, ◌++◌, codes, if◌then◌else◌, inl, inr, refl, sym, ◌∙◌, ap, append_assoc, append-nil}
use Rattle.std.proofs.lemmas.Bool.{cases_Bool, eqb-true, and_parts}
use Rattle.std.specs.List.{list_all, AllByRecursion}
use Rattle.picture_kit.specs.declared.xml_text.tag.Attribute.{Attribute}
use Rattle.picture_kit.specs.declared.xml_text.tag.Head.{Head}
use Rattle.picture_kit.specs.declared.xml_text.tag.Tag.{Tag}
use Rattle.picture_kit.specs.declared.xml_text.tag.Tag.TheVariants as Is
use Rattle.picture_kit.specs.XmlText.Spelling.{entity_of, byte_or_entity, escaped_byte, escaped, attribute_text, attributes_text, head_text, tag_text, indent, line_text, lines_text, depth_before, depth_behind, xml_text}
use Rattle.picture_kit.specs.XmlText.Reading.{is_name_byte, IsName, is_plain, State, Between, Begun, Closing, Opening, Inside, Behind, Naming, Equal, Valued, Entity, Ending, Lost, Reader, at, bare, also, step_in, run, tags_told, read_xml, IsHead, IsTag}

-- what a test that holds chooses
yes : {X : Type 0} (t : Bool) (x y : X) → t ≡ true → (if t then x else y) ≡ x
yes t x y h = rw h refl

-- a reader in a name takes each byte that may stand there
gathers : (tags : List Tag) (f : List ℕ → State)
    → ((acc : List ℕ) (b : ℕ) → is_name_byte b ≡ true → step_in tags (f acc) b ≡ at tags (f (acc ++ b ∷ [])))
    → (name rest acc : List ℕ) → list_all is_name_byte name ≡ true
    → run (at tags (f acc)) (name ++ rest) ≡ run (at tags (f (acc ++ name))) rest
gathers tags f step [] rest acc h = ap (λ a. run (at tags (f a)) rest) (sym (append-nil acc))
gathers tags f step (b ∷ name) rest acc h =
    let parts = and_parts (is_name_byte b) (list_all is_name_byte name) h in
    ap (λ r. run r (name ++ rest)) (step acc b parts.0)
    ∙ gathers tags f step name rest (acc ++ b ∷ []) parts.1
    ∙ ap (λ a. run (at tags (f a)) rest) (append_assoc acc (b ∷ []) name)

-- a byte is one of those that have an entity, or it has none
data Sort (b : ℕ) : Type 0 where
  amp : b ≡ 38 → Sort b
  lt : b ≡ 60 → Sort b
  gt : b ≡ 62 → Sort b
  quot : b ≡ 34 → Sort b
  apos : b ≡ 39 → Sort b
  tab : b ≡ 9 → Sort b
  line : b ≡ 10 → Sort b
  back : b ≡ 13 → Sort b
  plain : entity_of b ≡ None → Sort b

none-of : (b : ℕ) → (b == 38) ≡ false → (b == 60) ≡ false → (b == 62) ≡ false → (b == 34) ≡ false → (b == 39) ≡ false
    → (b == 9) ≡ false → (b == 10) ≡ false → (b == 13) ≡ false → entity_of b ≡ None
none-of b h1 h2 h3 h4 h5 h6 h7 h8 = rw (h1, h2, h3, h4, h5, h6, h7, h8) refl

sort-of : (b : ℕ) → Sort b
sort-of b = elim (cases_Bool (b == 38)) [
  | inl e ↦ amp (eqb-true b 38 e)
  | inr e1 ↦
      elim (cases_Bool (b == 60)) [
        | inl e ↦ lt (eqb-true b 60 e)
        | inr e2 ↦
            elim (cases_Bool (b == 62)) [
              | inl e ↦ gt (eqb-true b 62 e)
              | inr e3 ↦
                  elim (cases_Bool (b == 34)) [
                    | inl e ↦ quot (eqb-true b 34 e)
                    | inr e4 ↦
                        elim (cases_Bool (b == 39)) [
                          | inl e ↦ apos (eqb-true b 39 e)
                          | inr e5 ↦
                              elim (cases_Bool (b == 9)) [
                                | inl e ↦ tab (eqb-true b 9 e)
                                | inr e6 ↦
                                    elim (cases_Bool (b == 10)) [
                                      | inl e ↦ line (eqb-true b 10 e)
                                      | inr e7 ↦
                                          elim (cases_Bool (b == 13)) [
                                            | inl e ↦ back (eqb-true b 13 e)
                                            | inr e8 ↦
                                                plain (none-of b e1 e2 e3 e4 e5 e6 e7 e8)
                                          ]
                                    ]
                              ]
                        ]
                  ]
            ]
      ]
]

-- a reader in a value takes the byte of what is written of it
abbrev TakesByte : List Tag → Head → List ℕ → List ℕ → List ℕ → ℕ → Type 0
TakesByte tags head name acc rest b =
    run (at tags (Valued head name acc)) (escaped_byte b ++ rest) ≡ run (at tags (Valued head name (acc ++ b ∷ []))) rest

takes-plain : (tags : List Tag) (head : Head) (name acc rest : List ℕ) (b : ℕ) → entity_of b ≡ None → TakesByte tags head name acc rest b
takes-plain tags head name acc rest b e =
    ap (λ t. run (at tags (Valued head name acc)) (t ++ rest)) (ap (λ o. byte_or_entity b o) e)
    ∙ ap (λ r. run r rest) (yes (is_plain b) _ _ (ap is_none e))

takes-byte : (tags : List Tag) (head : Head) (name acc rest : List ℕ) (b : ℕ) → Sort b → TakesByte tags head name acc rest b
takes-byte tags head name acc rest b (amp e) = rw e refl
takes-byte tags head name acc rest b (lt e) = rw e refl
takes-byte tags head name acc rest b (gt e) = rw e refl
takes-byte tags head name acc rest b (quot e) = rw e refl
takes-byte tags head name acc rest b (apos e) = rw e refl
takes-byte tags head name acc rest b (tab e) = rw e refl
takes-byte tags head name acc rest b (line e) = rw e refl
takes-byte tags head name acc rest b (back e) = rw e refl
takes-byte tags head name acc rest b (plain e) = takes-plain tags head name acc rest b e

takes-value : (tags : List Tag) (head : Head) (name value rest acc : List ℕ)
    → run (at tags (Valued head name acc)) (escaped value ++ rest) ≡ run (at tags (Valued head name (acc ++ value))) rest
takes-value tags head name [] rest acc = ap (λ a. run (at tags (Valued head name a)) rest) (sym (append-nil acc))
takes-value tags head name (b ∷ value) rest acc =
    ap (λ t. run (at tags (Valued head name acc)) t) (append_assoc (escaped_byte b) (escaped value) rest)
    ∙ takes-byte tags head name acc (escaped value ++ rest) b (sort-of b)
    ∙ takes-value tags head name value rest (acc ++ b ∷ [])
    ∙ ap (λ a. run (at tags (Valued head name a)) rest) (append_assoc acc (b ∷ []) value)

-- behind a space a reader takes an attribute
takes-named : (tags : List Tag) (head : Head) (name value rest : List ℕ) → (name ≡ [] → ⊥) → list_all is_name_byte name ≡ true
    → run (at tags (Inside head)) ((name ++ (codes "=\"" ++ (escaped value ++ 34 ∷ []))) ++ rest) ≡ run (at tags (Behind (also head name value))) rest
takes-named tags head [] value rest filled bytes = absurd (filled refl)
takes-named tags head (b ∷ name) value rest filled bytes =
    let parts = and_parts (is_name_byte b) (list_all is_name_byte name) bytes in
    let behind = codes "=\"" ++ (escaped value ++ 34 ∷ []) in
    ap (λ r. run r ((name ++ behind) ++ rest)) (yes (is_name_byte b) _ _ parts.0)
    ∙ ap (λ t. run (at tags (Naming head (b ∷ []))) t) (append_assoc name behind rest)
    ∙ gathers tags (λ n. Naming head n) (λ acc c h. yes (is_name_byte c) _ _ h) name (behind ++ rest) (b ∷ []) parts.1
    ∙ ap (λ t. run (at tags (Valued head (b ∷ name) [])) t) (append_assoc (escaped value) (34 ∷ []) rest)
    ∙ takes-value tags head (b ∷ name) value (34 ∷ rest) []

takes-attributes : (tags : List Tag) (head : Head) (attributes : List Attribute) (rest : List ℕ)
    → AllByRecursion (λ (a : Attribute). IsName a.name) attributes
    → run (at tags (Behind head)) (attributes_text attributes ++ rest)
    ≡ run (at tags (Behind (record { name = head.name; attributes = head.attributes ++ attributes }))) rest
takes-attributes tags head [] rest h =
    ap (λ l. run (at tags (Behind (record { name = head.name; attributes = l }))) rest) (sym (append-nil head.attributes))
takes-attributes tags head (a ∷ more) rest h =
    ap (λ t. run (at tags (Behind head)) t) (append_assoc (attribute_text a) (attributes_text more) rest)
    ∙ takes-named tags head a.name a.value (attributes_text more ++ rest) h.0.filled h.0.bytes
    ∙ takes-attributes tags (also head a.name a.value) more rest h.1
    ∙ ap (λ l. run (at tags (Behind (record { name = head.name; attributes = l }))) rest) (append_assoc head.attributes (a ∷ []) more)

-- where a reader stands behind a head
abbrev past : List ℕ → List Attribute → State
past name [] = Opening name
past name (a ∷ more) = Behind (record { name = name; attributes = a ∷ more })

opens : (tags : List Tag) (name behind rest : List ℕ) → (name ≡ [] → ⊥) → list_all is_name_byte name ≡ true
    → run (at tags Begun) ((name ++ behind) ++ rest) ≡ run (at tags (Opening name)) (behind ++ rest)
opens tags [] behind rest filled bytes = absurd (filled refl)
opens tags (b ∷ name) behind rest filled bytes =
    let parts = and_parts (is_name_byte b) (list_all is_name_byte name) bytes in
    ap (λ r. run r ((name ++ behind) ++ rest)) (yes (is_name_byte b) _ _ parts.0)
    ∙ ap (λ t. run (at tags (Opening (b ∷ []))) t) (append_assoc name behind rest)
    ∙ gathers tags (λ n. Opening n) (λ acc c h. yes (is_name_byte c) _ _ h) name (behind ++ rest) (b ∷ []) parts.1

takes-all : (tags : List Tag) (name : List ℕ) (attributes : List Attribute) (rest : List ℕ)
    → AllByRecursion (λ (a : Attribute). IsName a.name) attributes
    → run (at tags (Opening name)) (attributes_text attributes ++ rest) ≡ run (at tags (past name attributes)) rest
takes-all tags name [] rest h = refl
takes-all tags name (a ∷ more) rest h =
    ap (λ t. run (at tags (Opening name)) t) (append_assoc (attribute_text a) (attributes_text more) rest)
    ∙ takes-named tags (bare name) a.name a.value (attributes_text more ++ rest) h.0.filled h.0.bytes
    ∙ takes-attributes tags (also (bare name) a.name a.value) more rest h.1

takes-head : (tags : List Tag) (head : Head) (rest : List ℕ) → IsHead head
    → run (at tags Between) (head_text head ++ rest) ≡ run (at tags (past head.name head.attributes)) rest
takes-head tags head rest h =
    opens tags head.name (attributes_text head.attributes) rest h.name.filled h.name.bytes
    ∙ takes-all tags head.name head.attributes rest h.attributes

ends-open : (tags : List Tag) (name : List ℕ) (attributes : List Attribute) (rest : List ℕ)
    → run (at tags (past name attributes)) (codes ">" ++ rest)
    ≡ run (at (tags ++ Is.Open (record { name = name; attributes = attributes }) ∷ []) Between) rest
ends-open tags name [] rest = refl
ends-open tags name (a ∷ more) rest = refl

ends-alone : (tags : List Tag) (name : List ℕ) (attributes : List Attribute) (rest : List ℕ)
    → run (at tags (past name attributes)) (codes " />" ++ rest)
    ≡ run (at (tags ++ Is.Alone (record { name = name; attributes = attributes }) ∷ []) Between) rest
ends-alone tags name [] rest = refl
ends-alone tags name (a ∷ more) rest = refl

takes-tag : (tags : List Tag) (tag : Tag) (rest : List ℕ) → IsTag tag
    → run (at tags Between) (tag_text tag ++ rest) ≡ run (at (tags ++ tag ∷ []) Between) rest
takes-tag tags (Is.Open head) rest h =
    ap (λ t. run (at tags Between) t) (append_assoc (head_text head) (codes ">") rest)
    ∙ takes-head tags head (codes ">" ++ rest) h ∙ ends-open tags head.name head.attributes rest
takes-tag tags (Is.Alone head) rest h =
    ap (λ t. run (at tags Between) t) (append_assoc (head_text head) (codes " />") rest)
    ∙ takes-head tags head (codes " />" ++ rest) h ∙ ends-alone tags head.name head.attributes rest
takes-tag tags (Is.Close name) rest h =
    ap (λ t. run (at tags (Closing [])) t) (append_assoc name (codes ">") rest)
    ∙ gathers tags (λ n. Closing n) (λ acc c h. yes (is_name_byte c) _ _ h) name (codes ">" ++ rest) [] h.bytes

takes-indent : (tags : List Tag) (depth : ℕ) (rest : List ℕ) → run (at tags Between) (indent depth ++ rest) ≡ run (at tags Between) rest
takes-indent tags zero rest = refl
takes-indent tags (suc depth) rest = takes-indent tags depth rest

takes-line : (tags : List Tag) (depth : ℕ) (tag : Tag) (rest : List ℕ) → IsTag tag
    → run (at tags Between) (line_text depth tag ++ rest) ≡ run (at (tags ++ tag ∷ []) Between) rest
takes-line tags depth tag rest h =
    ap (λ t. run (at tags Between) t) (append_assoc (indent depth) (tag_text tag ++ 10 ∷ []) rest)
    ∙ takes-indent tags depth ((tag_text tag ++ 10 ∷ []) ++ rest)
    ∙ ap (λ t. run (at tags Between) t) (append_assoc (tag_text tag) (10 ∷ []) rest)
    ∙ takes-tag tags tag (10 ∷ rest) h

takes-lines : (before : List Tag) (depth : ℕ) (tags : List Tag) → AllByRecursion IsTag tags
    → run (at before Between) (lines_text depth tags) ≡ at (before ++ tags) Between
takes-lines before depth [] h = ap (λ l. at l Between) (sym (append-nil before))
takes-lines before depth (tag ∷ tags) h =
    let here = depth_before depth tag in
    takes-line before here tag (lines_text (depth_behind here tag) tags) h.0
    ∙ takes-lines (before ++ tag ∷ []) (depth_behind here tag) tags h.1
    ∙ ap (λ l. at l Between) (append_assoc before (tag ∷ []) tags)

-- what is written is read again
pub read-written : (tags : List Tag) → AllByRecursion IsTag tags → read_xml (xml_text tags) ≡ Some tags
read-written tags h = ap tags_told (takes-lines [] 0 tags h)
