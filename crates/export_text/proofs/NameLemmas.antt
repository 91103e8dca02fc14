use Rattle.std.proofs.Common.{◌≡◌, ℕ, true, false, Bool, if◌then◌else◌, Option, Some, None, List, [], ◌∷◌, ◌++◌, map, codes, refl}
use Rattle.std.specs.List.{AllByRecursion, list_all, flat_map}
use Rattle.std.specs.Cmp.Lexicographic.{pointwise}
use Rattle.sdf_plan.specs.declared.plan.Plan.{Plan}
use Rattle.sdf_plan.specs.declared.plan.Region.{Region}
use Rattle.sdf_plan.specs.declared.plan.Domain.{Domain}
use Rattle.sdf_plan.specs.declared.plan.Map.{Map}
use Rattle.sdf_plan.specs.declared.plan.Irq.{Irq}
use Rattle.sdf_plan.specs.declared.plan.Channel.{Channel}
use Rattle.sdf_plan.specs.declared.plan.End.{End}
use Rattle.picture_kit.specs.declared.xml_text.tag.Attribute.{Attribute}
use Rattle.picture_kit.specs.declared.xml_text.tag.Tag.{Tag}
use Rattle.picture_kit.specs.declared.xml_text.tag.Tag.TheVariants as Is
use Rattle.picture_kit.specs.XmlText.Reading.{is_name_byte, IsName, IsHead, IsTag}
use Rattle.export_text.specs.Numbers.{hex_text}
use Rattle.export_text.specs.System.{attribute, attribute_of, same, cached_attributes, trigger_attributes, number_unless, budget_attributes, region_attributes, region_tag, map_attributes, map_tag, irq_attributes, irq_tag, image_attributes, image_tag, domain_attributes, domain_tags, end_attributes, end_tag, channel_tags, inside_domain, inside_system, system_tags, element}

-- the names of some attributes are names
abbrev Named : List Attribute → Type 0
Named attributes = AllByRecursion (λ (a : Attribute). IsName a.name) attributes

-- a name with a first byte
name-is : (b : ℕ) (rest : List ℕ) → list_all is_name_byte (b ∷ rest) ≡ true → IsName (b ∷ rest)
name-is b rest h = record { filled = λ e. cc; bytes = h }

named-append : (a b : List Attribute) → Named a → Named b → Named (a ++ b)
named-append [] b ha hb = hb
named-append (x ∷ a) b ha hb = (ha.0, named-append a b ha.1 hb)

named-of : {T : Type 0} (text : T → List ℕ) (name : List ℕ) (value : Option T) → IsName name → Named (attribute_of text name value)
named-of text name None h = tt
named-of text name (Some value) h = (h, tt)

named-unless : (t : Bool) (name : List ℕ) (n : ℕ) → IsName name → Named (number_unless t name n)
named-unless true name n h = tt
named-unless false name n h = (h, tt)

named-cached : (t : Bool) → Named (cached_attributes t)
named-cached true = tt
named-cached false = (name-is _ _ refl, tt)

named-either : (t : Bool) (value : List ℕ) → Named (if t then [] else attribute (codes "trigger") value ∷ [])
named-either true value = tt
named-either false value = (name-is _ _ refl, tt)

region-named : (region : Region) → IsTag (region_tag region)
region-named region = record {
  name = name-is _ _ refl;
  attributes = (name-is _ _ refl, (name-is _ _ refl, (name-is _ _ refl, named-of hex_text (codes "phys_addr") region.phys_addr (name-is _ _ refl))));
}

map-named : (m : Map) → IsTag (map_tag m)
map-named m = record {
  name = name-is _ _ refl;
  attributes = (
    name-is _ _ refl,
    (
      name-is _ _ refl,
      (
        name-is _ _ refl,
        named-append (cached_attributes m.cached) (attribute_of same (codes "setvar_vaddr") m.setvar_vaddr) (named-cached m.cached)
            (named-of same (codes "setvar_vaddr") m.setvar_vaddr (name-is _ _ refl)),
      ),
    ),
  );
}

irq-named : (i : Irq) → IsTag (irq_tag i)
irq-named i = record {
  name = name-is _ _ refl;
  attributes = (name-is _ _ refl, (name-is _ _ refl, named-either _ i.trigger));
}

end-named : (e : End) → IsTag (end_tag e)
end-named e = record { name = name-is _ _ refl; attributes = (name-is _ _ refl, (name-is _ _ refl, tt)) }

image-named : (program : List ℕ) → IsTag (image_tag program)
image-named program = record { name = name-is _ _ refl; attributes = (name-is _ _ refl, tt) }

-- all tags of some are named
abbrev AllNamed : List Tag → Type 0
AllNamed tags = AllByRecursion IsTag tags

all-append : (a b : List Tag) → AllNamed a → AllNamed b → AllNamed (a ++ b)
all-append [] b ha hb = hb
all-append (x ∷ a) b ha hb = (ha.0, all-append a b ha.1 hb)

all-map : {T : Type 0} (f : T → Tag) → ((x : T) → IsTag (f x)) → (xs : List T) → AllNamed (map f xs)
all-map f h [] = tt
all-map f h (x ∷ xs) = (h x, all-map f h xs)

all-flat : {T : Type 0} (f : T → List Tag) → ((x : T) → AllNamed (f x)) → (xs : List T) → AllNamed (flat_map f xs)
all-flat f h [] = tt
all-flat f h (x ∷ xs) = all-append (f x) (flat_map f xs) (h x) (all-flat f h xs)

all-element : (name : List ℕ) (attributes : List Attribute) (inside : List Tag) → IsName name → Named attributes → AllNamed inside
    → AllNamed (element name attributes inside)
all-element name attributes inside h ha hi =
    (record { name = h; attributes = ha }, all-append inside (Is.Close name ∷ []) hi (h, tt))

domain-named : (domain : Domain) → AllNamed (domain_tags domain)
domain-named domain =
    all-element (codes "protection_domain") (domain_attributes domain) (inside_domain domain) (name-is _ _ refl) (
      name-is _ _ refl,
      (
        name-is _ _ refl,
        named-append (number_unless _ (codes "budget") domain.budget) (number_unless _ (codes "period") domain.period)
            (named-unless _ (codes "budget") domain.budget (name-is _ _ refl)) (named-unless _ (codes "period") domain.period (name-is _ _ refl)),
      ),
    ) (
      image-named domain.program,
      all-append (map map_tag domain.map) (map irq_tag domain.irq)
          (all-map map_tag map-named domain.map) (all-map irq_tag irq-named domain.irq),
    )

channel-named : (channel : Channel) → AllNamed (channel_tags channel)
channel-named channel =
    all-element (codes "channel") [] (map end_tag channel.end) (name-is _ _ refl) tt (all-map end_tag end-named channel.end)

pub system-named : (plan : Plan) → AllNamed (system_tags plan)
unfolding system_tags
system-named plan =
    all-element (codes "system") [] (inside_system plan) (name-is _ _ refl) tt
    (all-append (map region_tag plan.memory_region) _ (all-map region_tag region-named plan.memory_region)
    (all-append (flat_map domain_tags plan.protection_domain) (flat_map channel_tags plan.channel)
    (all-flat domain_tags domain-named plan.protection_domain) (all-flat channel_tags channel-named plan.channel)))
