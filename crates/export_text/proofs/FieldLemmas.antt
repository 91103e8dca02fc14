use Rattle.std.proofs.Common.{◌≡◌, ℕ, ◌+◌, ◌-◌, ◌<◌, ◌^◌, ◌==◌, nat_eq, Bool, true, false, if◌then◌else◌, Option, Some, None, IfSome, List, [], ◌∷◌, ◌++◌, length, take, codes, refl, sym, ◌∙◌, ap, arith}
use Rattle.std.proofs.lemmas.Bool.{cases_Bool, eqb-true}
use Rattle.std.proofs.lemmas.Slice.Eq.{bytes_eq-Decides}
use Rattle.std.proofs.lemmas.List.{take-append-le, length-append}
use Rattle.std.proofs.Math.Seq.{take-append_seam}
use Rattle.std.specs.Cmp.Lexicographic.{pointwise}
use Rattle.std.specs.Option.{option_map}
use Rattle.std.specs.Fmt.{decimal}
use Rattle.sdf_plan.specs.declared.plan.Region.{Region}
use Rattle.sdf_plan.specs.declared.plan.Domain.{Domain}
use Rattle.sdf_plan.specs.declared.plan.Map.{Map}
use Rattle.sdf_plan.specs.declared.plan.Irq.{Irq}
use Rattle.sdf_plan.specs.declared.plan.End.{End}
use Rattle.picture_kit.specs.declared.xml_text.tag.Attribute.{Attribute}
use Rattle.export_text.specs.Numbers.{hex_text, hex_value, decimal_value}
use Rattle.export_text.specs.System.{attribute, attribute_of, same, number_unless, budget_attributes, trigger_attributes, region_attributes, map_attributes, irq_attributes, image_attributes, domain_attributes, end_attributes}
use Rattle.export_text.specs.Parts.{value_if, value_or, decimal_or, region_in, map_in, irq_in, end_in, program_in, domain_in, Parts, IsWideRegion, IsWideMap, IsWideIrq, IsWideDomain, IsWideEnd}
use Rattle.export_text.proofs.NumberLemmas.{hex-read, decimal-read}

-- an address that a description may leave out
phys-read : (base : Option ℕ) → IfSome base (λ b. b < 2 ^ 64)
    → option_map hex_value (value_if (codes "phys_addr") (attribute_of hex_text (codes "phys_addr") base)) ≡ base
phys-read None h = refl
phys-read (Some b) h = ap (λ n. Some n) (hex-read b h)

pub region-read : (region : Region) → IsWideRegion region → region_in (region_attributes region) ≡ region
region-read region h =
    ap (λ n. record {
      name = region.name;
      size = n;
      page_size = hex_value (hex_text region.page_size);
      phys_addr = option_map hex_value (value_if (codes "phys_addr") (attribute_of hex_text (codes "phys_addr") region.phys_addr));
    }) (hex-read region.size h.size)
    ∙ ap (λ n. record {
      name = region.name;
      size = region.size;
      page_size = n;
      phys_addr = option_map hex_value (value_if (codes "phys_addr") (attribute_of hex_text (codes "phys_addr") region.phys_addr));
    }) (hex-read region.page_size h.page_size)
    ∙ ap (λ (o : Option ℕ). record { name = region.name; size = region.size; page_size = region.page_size; phys_addr = o }) (phys-read region.phys_addr h.phys_addr)

-- a map with these values
abbrev the_map : List ℕ → ℕ → List ℕ → Bool → Option (List ℕ) → Map
the_map mr vaddr perms cached setvar = record { mr = mr; vaddr = vaddr; perms = perms; cached = cached; setvar_vaddr = setvar }

map-fields : (mr : List ℕ) (vaddr : ℕ) (perms : List ℕ) (cached : Bool) (setvar : Option (List ℕ)) → vaddr < 2 ^ 64
    → map_in (map_attributes (the_map mr vaddr perms cached setvar)) ≡ the_map mr vaddr perms cached setvar
map-fields mr vaddr perms true None h = ap (λ n. the_map mr n perms true None) (hex-read vaddr h)
map-fields mr vaddr perms true (Some s) h = ap (λ n. the_map mr n perms true (Some s)) (hex-read vaddr h)
map-fields mr vaddr perms false None h = ap (λ n. the_map mr n perms false None) (hex-read vaddr h)
map-fields mr vaddr perms false (Some s) h = ap (λ n. the_map mr n perms false (Some s)) (hex-read vaddr h)

pub map-read : (m : Map) → IsWideMap m → map_in (map_attributes m) ≡ m
map-read m h = map-fields m.mr m.vaddr m.perms m.cached m.setvar_vaddr h.vaddr

trigger-read : (t : Bool) (trigger : List ℕ) → (t ≡ true → trigger ≡ codes "level")
    → value_or (codes "level") (codes "trigger") (if t then [] else attribute (codes "trigger") trigger ∷ []) ≡ trigger
trigger-read true trigger h = sym (h refl)
trigger-read false trigger h = refl

pub irq-read : (i : Irq) → IsWideIrq i → irq_in (irq_attributes i) ≡ i
irq-read i h =
    ap (λ n. record { irq = n; id = decimal_value (decimal i.id); trigger = value_or (codes "level") (codes "trigger") (trigger_attributes i.trigger) }) (decimal-read i.irq h.irq)
    ∙ ap (λ n. record { irq = i.irq; id = n; trigger = value_or (codes "level") (codes "trigger") (trigger_attributes i.trigger) }) (decimal-read i.id h.id)
    ∙ ap (λ (t : List ℕ). record { irq = i.irq; id = i.id; trigger = t })
    (trigger-read (pointwise nat_eq i.trigger (codes "level")) i.trigger (bytes_eq-Decides i.trigger (codes "level")).0)

pub end-read : (e : End) → IsWideEnd e → end_in (end_attributes e) ≡ e
end-read e h = ap (λ n. record { pd = e.pd; id = n }) (decimal-read e.id h.id)

pub image-read : (program : List ℕ) → program_in (image_attributes program) ≡ program
image-read program =
    let front : length (program ++ codes ".elf") - 4 ≡ length program = rw (length-append program (codes ".elf")) (omega arith) in
    ap (λ n. take n (program ++ codes ".elf")) front ∙ take-append_seam program (codes ".elf")

-- the budget and the period, with their defaults
budget-read : (t u : Bool) (budget period : ℕ) → budget < 2 ^ 64 → (t ≡ true → budget ≡ 1000)
    → decimal_or 1000 (codes "budget") (number_unless t (codes "budget") budget ++ number_unless u (codes "period") period) ≡ budget
budget-read true true budget period h is = sym (is refl)
budget-read true false budget period h is = sym (is refl)
budget-read false u budget period h is = decimal-read budget h

period-read : (t u : Bool) (budget period absent : ℕ) → period < 2 ^ 64 → absent ≡ budget → (u ≡ true → period ≡ budget)
    → decimal_or absent (codes "period") (number_unless t (codes "budget") budget ++ number_unless u (codes "period") period) ≡ period
period-read true true budget period absent h same is = same ∙ sym (is refl)
period-read false true budget period absent h same is = same ∙ sym (is refl)
period-read true false budget period absent h same is = decimal-read period h
period-read false false budget period absent h same is = decimal-read period h

pub domain-read : (domain : Domain) (p : Parts) → IsWideDomain domain → p.program ≡ domain.program → p.maps ≡ domain.map → p.irqs ≡ domain.irq
    → domain_in (domain_attributes domain) p ≡ domain
domain-read domain p h program maps irqs =
    let times = budget_attributes domain.budget domain.period in
    let budget = budget-read (domain.budget == 1000) (domain.period == domain.budget) domain.budget domain.period h.budget (eqb-true domain.budget 1000) in
    let period = period-read (domain.budget == 1000) (domain.period == domain.budget) domain.budget domain.period _ h.period budget (eqb-true domain.period domain.budget) in
    ap (λ n. record {
      name = domain.name;
      priority = n;
      budget = decimal_or 1000 (codes "budget") times;
      period = decimal_or (decimal_or 1000 (codes "budget") times) (codes "period") times;
      program = p.program;
      map = p.maps;
      irq = p.irqs;
    }) (decimal-read domain.priority h.priority)
    ∙ ap (λ n. record { name = domain.name; priority = domain.priority; budget = decimal_or 1000 (codes "budget") times; period = n; program = p.program; map = p.maps; irq = p.irqs }) period
    ∙ ap (λ n. record { name = domain.name; priority = domain.priority; budget = n; period = domain.period; program = p.program; map = p.maps; irq = p.irqs }) budget
    ∙ ap (λ l. record { name = domain.name; priority = domain.priority; budget = domain.budget; period = domain.period; program = l; map = p.maps; irq = p.irqs }) program
    ∙ ap (λ l. record { name = domain.name; priority = domain.priority; budget = domain.budget; period = domain.period; program = domain.program; map = l; irq = p.irqs }) maps
    ∙ ap (λ l. record { name = domain.name; priority = domain.priority; budget = domain.budget; period = domain.period; program = domain.program; map = domain.map; irq = l }) irqs
