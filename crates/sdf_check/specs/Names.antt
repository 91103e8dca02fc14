-- The names of a plan: those of its regions and domains, and those that class elements name, told
-- class by class. That these are the names of the rows of the table is a lemma.
use Rattle.std.specs.Prelude.{◌≡◌, ℕ, ◌<◌, List, [], ◌∷◌, map, Option, Some, slice_get, bytes_eq}
use Rattle.std.specs.Prelude.{position}
use Rattle.sdf_plan.specs.declared.plan.Plan.{Plan}
use Rattle.sdf_plan.specs.declared.plan.Region.{Region}
use Rattle.sdf_plan.specs.declared.plan.Domain.{Domain}
use Rattle.sdf_plan.specs.declared.plan.Net.{Net}
use Rattle.sdf_plan.specs.declared.plan.NetClient.{NetClient}
use Rattle.sdf_plan.specs.declared.plan.Serial.{Serial}
use Rattle.sdf_plan.specs.declared.plan.SerialClient.{SerialClient}
use Rattle.sdf_plan.specs.declared.plan.Blk.{Blk}
use Rattle.sdf_plan.specs.declared.plan.BlkClient.{BlkClient}

-- the names of some regions, in file order
abbrev pub region_names_of : List Region → List (List ℕ)
region_names_of regions = map (λ (r : Region). r.name) regions

-- the names of some domains
abbrev pub domain_names_of : List Domain → List (List ℕ)
domain_names_of domains = map (λ (d : Domain). d.name) domains

-- the names of a plan's regions
abbrev pub region_names : Plan → List (List ℕ)
region_names plan = region_names_of plan.memory_region

-- the names of a plan's domains
abbrev pub domain_names : Plan → List (List ℕ)
domain_names plan = domain_names_of plan.protection_domain

-- the place of the first of these names that is this one
abbrev pub place_of : List ℕ → List (List ℕ) → Option ℕ
place_of name names = position (λ other. bytes_eq other name) names

-- the place of the region that has a name
abbrev pub region_named : Plan → List ℕ → Option ℕ
region_named plan name = place_of name (region_names plan)

-- the place of the domain that has a name
abbrev pub domain_named : Plan → List ℕ → Option ℕ
domain_named plan name = place_of name (domain_names plan)

-- the value stands in a list before this place
abbrev pub StandsBefore : {T : Type 0} → T → List T → ℕ → Type 0
StandsBefore value values at = (earlier : ℕ) × (earlier < at)
    × (slice_get values earlier ≡ Some value)

-- the regions that the network class names
abbrev pub net_regions : Net → List (List ℕ)
net_regions net = net.rx_queues ∷ net.tx_queues ∷ net.rx_region ∷ []

-- the regions that a network client names, key by key
abbrev pub net_client_regions : NetClient → List (List ℕ)
net_client_regions client = client.lease_queues ∷ client.rx_queues ∷ client.tx_queues
    ∷ client.rx_region ∷ client.tx_region ∷ []

-- the regions that the serial class names
abbrev pub serial_regions : Serial → List (List ℕ)
serial_regions serial = serial.rx_queues ∷ serial.tx_queues ∷ []

-- the regions that a serial client names
abbrev pub serial_client_regions : SerialClient → List (List ℕ)
serial_client_regions client = client.rx_queues ∷ client.tx_queues ∷ []

-- the regions that the block class names
abbrev pub blk_regions : Blk → List (List ℕ)
blk_regions blk = blk.queues ∷ blk.region ∷ []

-- the regions that a block client names
abbrev pub blk_client_regions : BlkClient → List (List ℕ)
blk_client_regions client = client.queues ∷ client.region ∷ []

-- the domains that the network class names
abbrev pub net_domains : Net → List (List ℕ)
net_domains net = net.driver ∷ net.rx_virt ∷ net.tx_virt ∷ []

-- the domains that a network client names, key by key
abbrev pub net_client_domains : NetClient → List (List ℕ)
net_client_domains client = client.pd ∷ client.copier ∷ []

-- the domains that the serial class names
abbrev pub serial_domains : Serial → List (List ℕ)
serial_domains serial = serial.driver ∷ serial.rx_virt ∷ serial.tx_virt ∷ []

-- the domain that a serial client names
abbrev pub serial_client_domains : SerialClient → List (List ℕ)
serial_client_domains client = client.pd ∷ []

-- the domains that the block class names
abbrev pub blk_domains : Blk → List (List ℕ)
blk_domains blk = blk.driver ∷ blk.virt ∷ []

-- the domain that a block client names
abbrev pub blk_client_domains : BlkClient → List (List ℕ)
blk_client_domains client = client.pd ∷ []
