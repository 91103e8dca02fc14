use Rattle.std.proofs.Common.{◌≡◌, ℕ, Some, List, [], ◌∷◌, ◌++◌, map, codes, refl, sym, ◌∙◌, ap, append_assoc, append-nil}
use Rattle.std.specs.List.{AllByRecursion, flat_map}
use Rattle.std.specs.Option.{option_map}
use Rattle.sdf_plan.specs.declared.plan.Plan.{Plan}
use Rattle.sdf_plan.specs.declared.plan.Region.{Region}
use Rattle.sdf_plan.specs.declared.plan.Domain.{Domain}
use Rattle.sdf_plan.specs.declared.plan.Map.{Map}
use Rattle.sdf_plan.specs.declared.plan.Irq.{Irq}
use Rattle.sdf_plan.specs.declared.plan.Channel.{Channel}
use Rattle.sdf_plan.specs.declared.plan.End.{End}
use Rattle.picture_kit.specs.declared.xml_text.tag.Tag.{Tag}
use Rattle.picture_kit.specs.declared.xml_text.tag.Tag.TheVariants as Is
use Rattle.picture_kit.specs.XmlText.Spelling.{xml_text}
use Rattle.picture_kit.specs.XmlText.Reading.{IsTag, read_xml}
use Rattle.export_text.specs.System.{region_attributes, region_tag, map_attributes, map_tag, irq_attributes, irq_tag, image_tag, image_attributes, domain_attributes, domain_tags, end_attributes, end_tag, channel_tags, inside_domain, inside_system, system_tags, system_text}
use Rattle.export_text.specs.Parts.{Parts, nothing, tag_in, open_in, parts_before, parts_of, parts_in, IsWide, IsWideRegion, IsWideMap, IsWideIrq, IsWideDomain, IsWideEnd, IsWideChannel, region_in, program_in}
use Rattle.export_text.proofs.FieldLemmas.{region-read, map-read, irq-read, end-read, image-read, domain-read}
use Rattle.export_text.proofs.NameLemmas.{system-named}

-- regions, domains and channels as a whole, and no parts of others
abbrev whole : List Region → List Domain → List Channel → Parts
whole rs ds cs = record nothing { regions = rs; domains = ds; channels = cs }

-- the maps, the interrupts and the ends of a list of tags
maps-read : (maps : List Map) (tags : List Tag) (p q : Parts) → AllByRecursion IsWideMap maps → parts_before tags p ≡ q
    → parts_before (map map_tag maps ++ tags) p ≡ record q { maps = maps ++ q.maps }
maps-read [] tags p q h is = is
maps-read (m ∷ maps) tags p q h is =
    ap (λ r. tag_in (map_tag m) r) (maps-read maps tags p q h.1 is)
    ∙ ap (λ x. record q { maps = x ∷ (maps ++ q.maps) }) (map-read m h.0)

irqs-read : (irqs : List Irq) (tags : List Tag) (p q : Parts) → AllByRecursion IsWideIrq irqs → parts_before tags p ≡ q
    → parts_before (map irq_tag irqs ++ tags) p ≡ record q { irqs = irqs ++ q.irqs }
irqs-read [] tags p q h is = is
irqs-read (i ∷ irqs) tags p q h is =
    ap (λ r. tag_in (irq_tag i) r) (irqs-read irqs tags p q h.1 is)
    ∙ ap (λ x. record q { irqs = x ∷ (irqs ++ q.irqs) }) (irq-read i h.0)

ends-read : (ends : List End) (tags : List Tag) (p q : Parts) → AllByRecursion IsWideEnd ends → parts_before tags p ≡ q
    → parts_before (map end_tag ends ++ tags) p ≡ record q { ends = ends ++ q.ends }
ends-read [] tags p q h is = is
ends-read (e ∷ ends) tags p q h is =
    ap (λ r. tag_in (end_tag e) r) (ends-read ends tags p q h.1 is)
    ∙ ap (λ x. record q { ends = x ∷ (ends ++ q.ends) }) (end-read e h.0)

regions-read : (regions : List Region) (tags : List Tag) (p : Parts) (rs : List Region) (ds : List Domain) (cs : List Channel)
    → AllByRecursion IsWideRegion regions → parts_before tags p ≡ whole rs ds cs
    → parts_before (map region_tag regions ++ tags) p ≡ whole (regions ++ rs) ds cs
regions-read [] tags p rs ds cs h is = is
regions-read (r ∷ regions) tags p rs ds cs h is =
    ap (λ q. tag_in (region_tag r) q) (regions-read regions tags p rs ds cs h.1 is)
    ∙ ap (λ x. whole (x ∷ (regions ++ rs)) ds cs) (region-read r h.0)

-- the end of an element stands behind what it has inside
inside-first : (inside : List Tag) (name : List ℕ) (tags : List Tag) → (inside ++ Is.Close name ∷ []) ++ tags ≡ inside ++ (Is.Close name ∷ tags)
inside-first inside name tags = append_assoc inside (Is.Close name ∷ []) tags

-- what a domain has inside
domain-inside : (domain : Domain) (tags : List Tag) (p : Parts) (rs : List Region) (ds : List Domain) (cs : List Channel)
    → IsWideDomain domain → parts_before tags p ≡ whole rs ds cs
    → parts_before (inside_domain domain ++ tags) p
    ≡ record (whole rs ds cs) { program = program_in (image_attributes domain.program); maps = domain.map ++ []; irqs = domain.irq ++ [] }
domain-inside domain tags p rs ds cs h is =
    ap (λ l. tag_in (image_tag domain.program) (parts_before l p)) (append_assoc (map map_tag domain.map) (map irq_tag domain.irq) tags)
    ∙ ap (λ q. tag_in (image_tag domain.program) q)
    (maps-read domain.map (map irq_tag domain.irq ++ tags) p _ h.maps (irqs-read domain.irq tags p _ h.irqs is))

domain-step : (domain : Domain) (tags : List Tag) (p : Parts) (rs : List Region) (ds : List Domain) (cs : List Channel)
    → IsWideDomain domain → parts_before tags p ≡ whole rs ds cs
    → parts_before (domain_tags domain ++ tags) p ≡ whole rs (domain ∷ ds) cs
domain-step domain tags p rs ds cs h is =
    let read = record (whole rs ds cs) { program = program_in (image_attributes domain.program); maps = domain.map ++ []; irqs = domain.irq ++ [] } in
    ap (λ l. open_in (codes "protection_domain") (domain_attributes domain) (parts_before l p)) (inside-first (inside_domain domain) (codes "protection_domain") tags)
    ∙ ap (λ q. open_in (codes "protection_domain") (domain_attributes domain) q)
    (domain-inside domain (Is.Close (codes "protection_domain") ∷ tags) p rs ds cs h is)
    ∙ ap (λ d. whole rs (d ∷ ds) cs) (domain-read domain read h (image-read domain.program) (append-nil domain.map) (append-nil domain.irq))

domains-read : (domains : List Domain) (tags : List Tag) (p : Parts) (rs : List Region) (ds : List Domain) (cs : List Channel)
    → AllByRecursion IsWideDomain domains → parts_before tags p ≡ whole rs ds cs
    → parts_before (flat_map domain_tags domains ++ tags) p ≡ whole rs (domains ++ ds) cs
domains-read [] tags p rs ds cs h is = is
domains-read (d ∷ domains) tags p rs ds cs h is =
    ap (λ l. parts_before l p) (append_assoc (domain_tags d) (flat_map domain_tags domains) tags)
    ∙ domain-step d (flat_map domain_tags domains ++ tags) p rs (domains ++ ds) cs h.0 (domains-read domains tags p rs ds cs h.1 is)

channel-step : (channel : Channel) (tags : List Tag) (p : Parts) (rs : List Region) (ds : List Domain) (cs : List Channel)
    → IsWideChannel channel → parts_before tags p ≡ whole rs ds cs
    → parts_before (channel_tags channel ++ tags) p ≡ whole rs ds (channel ∷ cs)
channel-step channel tags p rs ds cs h is =
    ap (λ l. open_in (codes "channel") [] (parts_before l p)) (inside-first (map end_tag channel.end) (codes "channel") tags)
    ∙ ap (λ q. open_in (codes "channel") [] q) (ends-read channel.end (Is.Close (codes "channel") ∷ tags) p _ h.ends is)
    ∙ ap (λ l. whole rs ds ((record { end = l }) ∷ cs)) (append-nil channel.end)

channels-read : (channels : List Channel) (tags : List Tag) (p : Parts) (rs : List Region) (ds : List Domain) (cs : List Channel)
    → AllByRecursion IsWideChannel channels → parts_before tags p ≡ whole rs ds cs
    → parts_before (flat_map channel_tags channels ++ tags) p ≡ whole rs ds (channels ++ cs)
channels-read [] tags p rs ds cs h is = is
channels-read (c ∷ channels) tags p rs ds cs h is =
    ap (λ l. parts_before l p) (append_assoc (channel_tags c) (flat_map channel_tags channels) tags)
    ∙ channel-step c (flat_map channel_tags channels ++ tags) p rs ds (channels ++ cs) h.0 (channels-read channels tags p rs ds cs h.1 is)

-- what a system has inside, in front of its end
inside-read : (plan : Plan) → IsWide plan
    → parts_before (inside_system plan ++ Is.Close (codes "system") ∷ []) nothing
    ≡ whole (plan.memory_region ++ []) (plan.protection_domain ++ []) (plan.channel ++ [])
inside-read plan h =
    let last = Is.Close (codes "system") ∷ [] in
    let domains = flat_map domain_tags plan.protection_domain in
    let channels = flat_map channel_tags plan.channel in
    ap (λ l. parts_before l nothing) (append_assoc (map region_tag plan.memory_region) (domains ++ channels) last)
    ∙ ap (λ l. parts_before (map region_tag plan.memory_region ++ l) nothing) (append_assoc domains channels last)
    ∙ regions-read plan.memory_region (domains ++ (channels ++ last)) nothing [] (plan.protection_domain ++ []) (plan.channel ++ []) h.regions
    (domains-read plan.protection_domain (channels ++ last) nothing [] [] (plan.channel ++ []) h.domains
    (channels-read plan.channel last nothing [] [] [] h.channels refl))

tags-read : (plan : Plan) → IsWide plan → parts_before (system_tags plan) nothing ≡ parts_in plan
unfolding system_tags
tags-read plan h =
    inside-read plan h
    ∙ ap (λ l. whole l (plan.protection_domain ++ []) (plan.channel ++ [])) (append-nil plan.memory_region)
    ∙ ap (λ l. whole plan.memory_region l (plan.channel ++ [])) (append-nil plan.protection_domain)
    ∙ ap (λ l. whole plan.memory_region plan.protection_domain l) (append-nil plan.channel)

-- the file gives back what the plan has
pub file-read : ((tags : List Tag) → AllByRecursion IsTag tags → read_xml (xml_text tags) ≡ Some tags)
    → (plan : Plan) → IsWide plan → parts_of (system_text plan) ≡ Some (parts_in plan)
file-read law plan h =
    ap (λ o. option_map (λ tags. parts_before tags nothing) o) (law (system_tags plan) (system-named plan))
    ∙ ap (λ p. Some p) (tags-read plan h)
