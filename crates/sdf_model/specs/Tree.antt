-- The elements of a document by their places, and the rules that are read on the text.
use Rattle.std.specs.Prelude.{◌≡◌, ℕ, ℤ, pos, negsuc, Bool, true, false, if◌then◌else◌, ◌==◌, ◌⊎◌}
use Rattle.std.specs.Prelude.{List, [], ◌∷◌, length, map}
use Rattle.std.specs.Prelude.{slice_get, codes, Option, Some, None, option_map, option_and_then}
use Rattle.std.specs.Str.{IsUtf8}
use Rattle.toml.specs.Data.{Items, Members, get_member, as_integer, as_array, as_table}
use Rattle.toml.specs.Text.{are_tables}
use Rattle.toml.specs.Parse.{parse_document}
use Rattle.sdf_plan.specs.declared.place.Place.{Place}
use Rattle.sdf_plan.specs.declared.place.Place.TheVariants as At
use Rattle.sdf_plan.specs.declared.place.Refusal.{Refusal}
use Rattle.sdf_plan.specs.declared.place.SdfFault.{SdfFault}
use Rattle.sdf_plan.specs.declared.place.SdfFault.TheVariants as Fault
use Rattle.sdf_model.specs.Keys.{tables_of, holds, keys_in, breaks_with}
use Rattle.sdf_plan.specs.Places.{Outline, walk}

-- the elements of a list: its tables, where it holds nothing else
abbrev pub tables_in : Option Items → List Members
tables_in None = []
tables_in (Some items) = if are_tables items then tables_of items else []

-- the elements of the list at a key
abbrev pub tables_at : List ℕ → Members → List Members
tables_at key t = tables_in (option_and_then as_array (get_member key t))

-- the table at a key, if there is one
abbrev pub table_at : List ℕ → Members → Option Members
table_at key t = option_and_then as_table (get_member key t)

-- an element of a list of an element, where that one is there
abbrev pub part_at : List ℕ → ℕ → Option Members → Option Members
part_at key n None = None
part_at key n (Some t) = slice_get (tables_at key t) n

-- the table of an element, if it is there
abbrev pub element_at : Members → Place → Option Members
element_at root At.System = Some root
element_at root (At.Region r) = part_at (codes "memory_region") r (Some root)
element_at root (At.Domain d) = part_at (codes "protection_domain") d (Some root)
element_at root (At.Map d m) =
    part_at (codes "map") m (part_at (codes "protection_domain") d (Some root))
element_at root (At.Irq d i) =
    part_at (codes "irq") i (part_at (codes "protection_domain") d (Some root))
element_at root (At.Channel c) = part_at (codes "channel") c (Some root)
element_at root (At.End c e) = part_at (codes "end") e (part_at (codes "channel") c (Some root))
element_at root At.Net = table_at (codes "net") root
element_at root (At.NetClient c) = part_at (codes "client") c (table_at (codes "net") root)
element_at root At.Serial = table_at (codes "serial") root
element_at root (At.SerialClient c) = part_at (codes "client") c (table_at (codes "serial") root)
element_at root At.Blk = table_at (codes "blk") root
element_at root (At.BlkClient c) = part_at (codes "client") c (table_at (codes "blk") root)

-- how many elements of each sort there are
abbrev pub outline_of : Members → Outline
outline_of root = record {
  regions = length (tables_at (codes "memory_region") root);
  domains =
      map (λ t. (length (tables_at (codes "map") t), length (tables_at (codes "irq") t)))
      (tables_at (codes "protection_domain") root);
  channels = map (λ t. length (tables_at (codes "end") t)) (tables_at (codes "channel") root);
  net = option_map (λ t. length (tables_at (codes "client") t)) (table_at (codes "net") root);
  serial =
      option_map (λ t. length (tables_at (codes "client") t)) (table_at (codes "serial") root);
  blk = option_map (λ t. length (tables_at (codes "client") t)) (table_at (codes "blk") root);
}

-- the text is this document
abbrev pub IsDocument : List ℕ → Members → Type 0
IsDocument text root = IsUtf8 text × (parse_document text ≡ Some root)

-- the elements of a text in their order: the system alone, where it is no document
abbrev pub places_in : Option Members → List Place
places_in None = At.System ∷ []
places_in (Some root) = walk (outline_of root)

-- the elements of a text, by their places, in their order
abbrev pub places_of : List ℕ → List Place
places_of text = places_in (parse_document text)

-- the integer is 2
abbrev pub is_two : ℤ → Bool
is_two (pos n) = n == 2
is_two (negsuc n) = false

-- the document says that its version is 2
abbrev pub is_second : Members → Bool
is_second root = holds is_two (option_and_then as_integer (get_member (codes "version") root))

-- the version of a document: 2 where it says so, and else 1
unfoldable pub version_of : Members → ℕ
version_of root = if is_second root then 2 else 1

-- the table of an element of a document of a version breaks the rule of this number
abbrev pub breaks : ℕ → ℕ → Place → Members → Bool
breaks version rule place t = breaks_with rule (keys_in version place) t

-- rule 1 is broken: the text is no document
abbrev pub IsNoDocument : List ℕ → Type 0
IsNoDocument text = (root : Members) → IsDocument text root → ⊥

-- the rule of this number, of the first four, is broken at this place
abbrev pub BreaksText : List ℕ → ℕ → Place → Type 0
BreaksText text rule place =
    ((rule ≡ 1) × (place ≡ At.System) × IsNoDocument text)
    ⊎ ((root : Members) × (t : Members) × (parse_document text ≡ Some root)
    × (element_at root place ≡ Some t) × (breaks (version_of root) rule place t ≡ true))

-- of a fault that is no want of memory
abbrev pub IfRefused : SdfFault → (Refusal → Type 0) → Type 0
IfRefused (Fault.Refused refusal) P = P refusal
IfRefused (Fault.Memory memory) P = Unit {0}
