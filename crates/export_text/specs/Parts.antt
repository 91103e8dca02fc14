-- How a reader takes the tags of a system file: element by element, with the manual's defaults for
-- attributes that aren't there.
use Rattle.std.specs.Prelude.{◌≡◌, ℕ, ◌-◌, ◌^◌, ◌<◌, nat_eq, not, is_none, Bool, Option, Some, None}
use Rattle.std.specs.Prelude.{unwrap_or, IfSome, List, [], ◌∷◌, length, take, if◌then◌else◌, codes}
use Rattle.std.specs.List.{AllByRecursion}
use Rattle.std.specs.Option.{option_map}
use Rattle.std.specs.Cmp.Lexicographic.{pointwise}
use Rattle.sdf_plan.specs.declared.plan.Plan.{Plan}
use Rattle.sdf_plan.specs.declared.plan.Region.{Region}
use Rattle.sdf_plan.specs.declared.plan.Domain.{Domain}
use Rattle.sdf_plan.specs.declared.plan.Map.{Map}
use Rattle.sdf_plan.specs.declared.plan.Irq.{Irq}
use Rattle.sdf_plan.specs.declared.plan.Channel.{Channel}
use Rattle.sdf_plan.specs.declared.plan.End.{End}
use Rattle.picture_kit.specs.declared.xml_text.tag.Attribute.{Attribute}
use Rattle.picture_kit.specs.declared.xml_text.tag.Tag.{Tag}
use Rattle.picture_kit.specs.declared.xml_text.tag.Tag.TheVariants as Is
use Rattle.picture_kit.specs.XmlText.Reading.{read_xml}
use Rattle.export_text.specs.Numbers.{hex_value, decimal_value}

-- the value of the attribute of a name, if there is one
abbrev pub value_if : List ℕ → List Attribute → Option (List ℕ)
value_if name [] = None
value_if name (a ∷ rest) = if pointwise nat_eq name a.name then Some a.value else value_if name rest

-- the value of the attribute of a name, or another where there is none
abbrev pub value_or : List ℕ → List ℕ → List Attribute → List ℕ
value_or absent name attributes = unwrap_or (value_if name attributes) absent

-- the value of an attribute that must be there
abbrev pub value_at : List ℕ → List Attribute → List ℕ
value_at name attributes = value_or [] name attributes

-- a number in hexadecimal, a number in decimal, and a decimal one with a default
abbrev pub hex_at : List ℕ → List Attribute → ℕ
hex_at name attributes = hex_value (value_at name attributes)

-- the number that an attribute spells in decimal digits
abbrev pub decimal_at : List ℕ → List Attribute → ℕ
decimal_at name attributes = decimal_value (value_at name attributes)

-- the same, and another number where the attribute is absent
abbrev pub decimal_or : ℕ → List ℕ → List Attribute → ℕ
decimal_or absent name attributes =
    unwrap_or (option_map decimal_value (value_if name attributes)) absent

-- a memory region
abbrev pub region_in : List Attribute → Region
region_in a = record {
  name = value_at (codes "name") a;
  size = hex_at (codes "size") a;
  page_size = hex_at (codes "page_size") a;
  phys_addr = option_map hex_value (value_if (codes "phys_addr") a);
}

-- a map: it is cached unless it says that it isn't
abbrev pub map_in : List Attribute → Map
map_in a = record {
  mr = value_at (codes "mr") a;
  vaddr = hex_at (codes "vaddr") a;
  perms = value_at (codes "perms") a;
  cached = not (pointwise nat_eq (value_or (codes "true") (codes "cached") a) (codes "false"));
  setvar_vaddr = value_if (codes "setvar_vaddr") a;
}

-- an interrupt: its trigger is `level` unless it says another
abbrev pub irq_in : List Attribute → Irq
irq_in a = record {
  irq = decimal_at (codes "irq") a;
  id = decimal_at (codes "id") a;
  trigger = value_or (codes "level") (codes "trigger") a;
}

-- an end of a channel
abbrev pub end_in : List Attribute → End
end_in a = record { pd = value_at (codes "pd") a; id = decimal_at (codes "id") a }

-- a program: the name of its image without the ending
abbrev pub program_in : List Attribute → List ℕ
program_in a = take (length (value_at (codes "path") a) - 4) (value_at (codes "path") a)

-- what was read, from the right: regions, domains and channels as a whole, and the parts of the
-- domain or the channel of which the beginning isn't yet read
pub record Parts : Type 0 where
  pub regions : List Region
  pub domains : List Domain
  pub channels : List Channel
  pub program : List ℕ
  pub maps : List Map
  pub irqs : List Irq
  pub ends : List End

-- nothing was read
abbrev pub nothing : Parts
nothing = record {
  regions = [];
  domains = [];
  channels = [];
  program = [];
  maps = [];
  irqs = [];
  ends = [];
}

-- an element that stands alone is read
abbrev pub alone_in : List ℕ → List Attribute → Parts → Parts
alone_in name a p =
    if pointwise nat_eq name (codes "memory_region")
    then record p { regions = region_in a ∷ p.regions } else
    if pointwise nat_eq name (codes "program_image") then record p { program = program_in a } else
    if pointwise nat_eq name (codes "map") then record p { maps = map_in a ∷ p.maps } else
    if pointwise nat_eq name (codes "irq") then record p { irqs = irq_in a ∷ p.irqs } else
    if pointwise nat_eq name (codes "end") then record p { ends = end_in a ∷ p.ends } else p

-- a domain with the parts that were read behind its beginning; its budget is 1000, and its period
-- the budget, unless it says another
abbrev pub domain_in : List Attribute → Parts → Domain
domain_in a p = record {
  name = value_at (codes "name") a;
  priority = decimal_at (codes "priority") a;
  budget = decimal_or 1000 (codes "budget") a;
  period = decimal_or (decimal_or 1000 (codes "budget") a) (codes "period") a;
  program = p.program;
  map = p.maps;
  irq = p.irqs;
}

-- a channel with the ends that were read behind its beginning
abbrev pub channel_in : Parts → Channel
channel_in p = record { end = p.ends }

-- the beginning of an element is read
abbrev pub open_in : List ℕ → List Attribute → Parts → Parts
open_in name a p =
    if pointwise nat_eq name (codes "protection_domain") then
    record p { domains = domain_in a p ∷ p.domains; program = []; maps = []; irqs = [] } else
    if pointwise nat_eq name (codes "channel")
    then record p { channels = channel_in p ∷ p.channels; ends = [] } else p

-- a tag is read
abbrev pub tag_in : Tag → Parts → Parts
tag_in (Is.Open head) p = open_in head.name head.attributes p
tag_in (Is.Alone head) p = alone_in head.name head.attributes p
tag_in (Is.Close name) p = p

-- some tags are read in front of others
abbrev pub parts_before : List Tag → Parts → Parts
parts_before [] p = p
parts_before (tag ∷ rest) p = tag_in tag (parts_before rest p)

-- what a text of tags tells
abbrev pub parts_of : List ℕ → Option Parts
parts_of text = option_map (λ tags. parts_before tags nothing) (read_xml text)

-- the regions, domains and channels of a plan
abbrev pub parts_in : Plan → Parts
parts_in plan = record nothing {
  regions = plan.memory_region;
  domains = plan.protection_domain;
  channels = plan.channel;
}

-- the numbers of a region take 64 bits, as any that a plan is made of
pub record IsWideRegion (region : Region) : Type 0 where
  pub size : region.size < 2 ^ 64
  pub page_size : region.page_size < 2 ^ 64
  pub phys_addr : IfSome region.phys_addr (λ base. base < 2 ^ 64)

-- the same of a map
pub record IsWideMap (m : Map) : Type 0 where
  pub vaddr : m.vaddr < 2 ^ 64

-- the same of an interrupt
pub record IsWideIrq (i : Irq) : Type 0 where
  pub irq : i.irq < 2 ^ 64
  pub id : i.id < 2 ^ 64

-- the same of a domain
pub record IsWideDomain (domain : Domain) : Type 0 where
  pub priority : domain.priority < 2 ^ 64
  pub budget : domain.budget < 2 ^ 64
  pub period : domain.period < 2 ^ 64
  pub maps : AllByRecursion IsWideMap domain.map
  pub irqs : AllByRecursion IsWideIrq domain.irq

-- the same of an end of a channel
pub record IsWideEnd (e : End) : Type 0 where
  pub id : e.id < 2 ^ 64

-- the same of a channel
pub record IsWideChannel (channel : Channel) : Type 0 where
  pub ends : AllByRecursion IsWideEnd channel.end

-- the same of all elements that the file has
pub record IsWide (plan : Plan) : Type 0 where
  pub regions : AllByRecursion IsWideRegion plan.memory_region
  pub domains : AllByRecursion IsWideDomain plan.protection_domain
  pub channels : AllByRecursion IsWideChannel plan.channel
