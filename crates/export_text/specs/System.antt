-- The tags of the system file of a plan: the elements and attributes of the Microkit manual, with
-- the attributes whose value isn't the manual's default.
use Rattle.std.specs.Prelude.{ℕ, ◌==◌, nat_eq, Bool, Option, Some, None, List, [], ◌∷◌, ◌++◌, map}
use Rattle.std.specs.Prelude.{if◌then◌else◌, codes}
use Rattle.std.specs.List.{flat_map}
use Rattle.std.specs.Fmt.{decimal}
use Rattle.std.specs.Cmp.Lexicographic.{pointwise}
use Rattle.sdf_plan.specs.declared.plan.Plan.{Plan}
use Rattle.sdf_plan.specs.declared.plan.Region.{Region}
use Rattle.sdf_plan.specs.declared.plan.Domain.{Domain}
use Rattle.sdf_plan.specs.declared.plan.Map.{Map}
use Rattle.sdf_plan.specs.declared.plan.Irq.{Irq}
use Rattle.sdf_plan.specs.declared.plan.Channel.{Channel}
use Rattle.sdf_plan.specs.declared.plan.End.{End}
use Rattle.picture_kit.specs.declared.xml_text.tag.Attribute.{Attribute}
use Rattle.picture_kit.specs.declared.xml_text.tag.Tag.{Tag}
use Rattle.picture_kit.specs.declared.xml_text.tag.Tag.TheVariants as Is
use Rattle.picture_kit.specs.XmlText.Spelling.{xml_text}
use Rattle.export_text.specs.Numbers.{hex_text}

-- an attribute
abbrev pub attribute : List ℕ → List ℕ → Attribute
attribute name value = record { name = name; value = value }

-- an attribute whose value a description may leave out
abbrev pub attribute_of : {T : Type 0} → (T → List ℕ) → List ℕ → Option T → List Attribute
attribute_of text name None = []
attribute_of text name (Some value) = attribute name (text value) ∷ []

-- a text that is its own spelling
abbrev pub same : List ℕ → List ℕ
same text = text

-- an element that has no other inside
abbrev pub alone : List ℕ → List Attribute → Tag
alone name attributes = Is.Alone (record { name = name; attributes = attributes })

-- an element with others inside
abbrev pub element : List ℕ → List Attribute → List Tag → List Tag
element name attributes inside =
    Is.Open (record { name = name; attributes = attributes }) ∷ (inside ++ Is.Close name ∷ [])

-- what a memory region says: its page size always, its physical address where it is given
abbrev pub region_attributes : Region → List Attribute
region_attributes region =
    attribute (codes "name") region.name
    ∷ attribute (codes "size") (hex_text region.size)
    ∷ attribute (codes "page_size") (hex_text region.page_size)
    ∷ attribute_of hex_text (codes "phys_addr") region.phys_addr

-- a memory region
abbrev pub region_tag : Region → Tag
region_tag region = alone (codes "memory_region") (region_attributes region)

-- whether a map is cached, unless it is
abbrev pub cached_attributes : Bool → List Attribute
cached_attributes cached =
    if cached then [] else attribute (codes "cached") (codes "false") ∷ []

-- what a map says: its permissions always
abbrev pub map_attributes : Map → List Attribute
map_attributes m =
    attribute (codes "mr") m.mr
    ∷ attribute (codes "vaddr") (hex_text m.vaddr)
    ∷ attribute (codes "perms") m.perms
    ∷ (cached_attributes m.cached ++ attribute_of same (codes "setvar_vaddr") m.setvar_vaddr)

-- a map
abbrev pub map_tag : Map → Tag
map_tag m = alone (codes "map") (map_attributes m)

-- the trigger of an interrupt, unless it is `level`
abbrev pub trigger_attributes : List ℕ → List Attribute
trigger_attributes trigger =
    if pointwise nat_eq trigger (codes "level") then []
    else attribute (codes "trigger") trigger ∷ []

-- what an interrupt says
abbrev pub irq_attributes : Irq → List Attribute
irq_attributes i =
    attribute (codes "irq") (decimal i.irq) ∷ attribute (codes "id") (decimal i.id)
    ∷ trigger_attributes i.trigger

-- an interrupt
abbrev pub irq_tag : Irq → Tag
irq_tag i = alone (codes "irq") (irq_attributes i)

-- what the image of a program says: its file
abbrev pub image_attributes : List ℕ → List Attribute
image_attributes program = attribute (codes "path") (program ++ codes ".elf") ∷ []

-- the image of a program
abbrev pub image_tag : List ℕ → Tag
image_tag program = alone (codes "program_image") (image_attributes program)

-- a number, unless it is the default
abbrev pub number_unless : Bool → List ℕ → ℕ → List Attribute
number_unless default name n = if default then [] else attribute name (decimal n) ∷ []

-- the time of a domain: its budget unless that is 1000, its period unless that is the budget
abbrev pub budget_attributes : ℕ → ℕ → List Attribute
budget_attributes budget period =
    number_unless (budget == 1000) (codes "budget") budget
    ++ number_unless (period == budget) (codes "period") period

-- what a domain has inside: its program, its maps and its interrupts
abbrev pub inside_domain : Domain → List Tag
inside_domain domain =
    image_tag domain.program ∷ (map map_tag domain.map ++ map irq_tag domain.irq)

-- the attributes of a domain
abbrev pub domain_attributes : Domain → List Attribute
domain_attributes domain =
    attribute (codes "name") domain.name
    ∷ attribute (codes "priority") (decimal domain.priority)
    ∷ budget_attributes domain.budget domain.period

-- a protection domain
abbrev pub domain_tags : Domain → List Tag
domain_tags domain =
    element (codes "protection_domain") (domain_attributes domain) (inside_domain domain)

-- what an end of a channel says
abbrev pub end_attributes : End → List Attribute
end_attributes e = attribute (codes "pd") e.pd ∷ attribute (codes "id") (decimal e.id) ∷ []

-- an end of a channel
abbrev pub end_tag : End → Tag
end_tag e = alone (codes "end") (end_attributes e)

-- a channel
abbrev pub channel_tags : Channel → List Tag
channel_tags channel = element (codes "channel") [] (map end_tag channel.end)

-- what a system has inside: its regions, its domains and its channels, each in file order
abbrev pub inside_system : Plan → List Tag
inside_system plan =
    map region_tag plan.memory_region
    ++ (flat_map domain_tags plan.protection_domain ++ flat_map channel_tags plan.channel)

-- all tags of a plan
unfoldable pub system_tags : Plan → List Tag
system_tags plan = element (codes "system") [] (inside_system plan)

-- the system file of a plan
abbrev pub system_text : Plan → List ℕ
system_text plan = xml_text (system_tags plan)
