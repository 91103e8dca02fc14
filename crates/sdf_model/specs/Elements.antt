-- The elements of a document with their tables, in the order of the walk, and the first to break a
-- rule.
use Rattle.std.specs.Prelude.{◌≡◌, ◌≤◌, ◌<◌, ℕ, ◌+◌, List, [], ◌∷◌, ◌++◌, find, codes, Option, Some}
use Rattle.std.specs.Prelude.{None, option_map}
use Rattle.toml.specs.Data.{Members}
use Rattle.toml.specs.View.{table_view}
use Rattle.sdf_plan.specs.declared.place.Place.{Place}
use Rattle.sdf_plan.specs.declared.place.Place.TheVariants as At
use Rattle.sdf_plan.specs.declared.place.Refusal.{Refusal}
use Rattle.sdf_model.specs.declared.element.Element.{Element}
use Rattle.sdf_model.specs.Tree.{tables_at, table_at, breaks}

-- an element: its place and its table
abbrev pub Seen : Type 0
Seen = Place × Members

-- an element of a document by its place and the members of its table
abbrev pub place_and_members : Element → Seen
place_and_members element = (element.place, table_view element.table.now)

-- the place of the element with a number, in the list in which the given place is
abbrev pub nth : Place → ℕ → Place
nth (At.Region r) n = At.Region n
nth (At.Map d m) n = At.Map d n
nth (At.Irq d i) n = At.Irq d n
nth (At.End c e) n = At.End c n
nth (At.NetClient c) n = At.NetClient n
nth (At.SerialClient c) n = At.SerialClient n
nth (At.BlkClient c) n = At.BlkClient n
nth place n = place

-- the elements of a list, from a number on
abbrev pub parts : Place → ℕ → List Members → List Seen
parts first n [] = []
parts first n (t ∷ ts) = (nth first n, t) ∷ parts first (n + 1) ts

-- domains, each with its maps and its interrupts, from a number on
abbrev pub domain_parts : ℕ → List Members → List Seen
domain_parts d [] = []
domain_parts d (t ∷ ts) =
    ((At.Domain d, t) ∷ parts (At.Map d 0) 0 (tables_at (codes "map") t)
    ++ parts (At.Irq d 0) 0 (tables_at (codes "irq") t)) ++ domain_parts (d + 1) ts

-- channels, each with its ends, from a number on
abbrev pub channel_parts : ℕ → List Members → List Seen
channel_parts c [] = []
channel_parts c (t ∷ ts) =
    ((At.Channel c, t) ∷ parts (At.End c 0) 0 (tables_at (codes "end") t))
    ++ channel_parts (c + 1) ts

-- a class and its clients, if it is there
abbrev pub class_parts : Place → Place → Option Members → List Seen
class_parts class client None = []
class_parts class client (Some t) = (class, t) ∷ parts client 0 (tables_at (codes "client") t)

-- all elements in the order of the walk, with their tables
unfoldable pub elements_of : Members → List Seen
elements_of root =
    (At.System, root) ∷ parts (At.Region 0) 0 (tables_at (codes "memory_region") root)
    ++ domain_parts 0 (tables_at (codes "protection_domain") root)
    ++ channel_parts 0 (tables_at (codes "channel") root)
    ++ class_parts At.Net (At.NetClient 0) (table_at (codes "net") root)
    ++ class_parts At.Serial (At.SerialClient 0) (table_at (codes "serial") root)
    ++ class_parts At.Blk (At.BlkClient 0) (table_at (codes "blk") root)

-- the first element that breaks a rule, of a document of a version
abbrev pub first_broken : ℕ → ℕ → List Seen → Option Place
first_broken version rule elements =
    option_map (λ e. e.0) (find (λ e. breaks version rule e.0 e.1) elements)

-- the least of the rules read on one element that is broken, and the first element that breaks it
abbrev pub Judged : ℕ → List Seen → Refusal → Type 0
Judged version elements refusal =
    (first_broken version refusal.rule elements ≡ Some refusal.place)
    × (2 ≤ refusal.rule) × (refusal.rule ≤ 4)
    × ((n : ℕ) → 2 ≤ n → n < refusal.rule → first_broken version n elements ≡ None)
