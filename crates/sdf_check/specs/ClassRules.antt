-- The rules on the classes of a plan: roles, channels, maps, capacities, sizes, ids, counts and
-- frames.
use Rattle.std.specs.Prelude.{◌≡◌, ◌≢◌, ℕ, ◌+◌, ◌*◌, ◌^◌, ◌<◌, ◌≤◌, ◌⊎◌, Bool, true, List, [], ◌∷◌}
use Rattle.std.specs.Prelude.{◌++◌, length, map, take, Option, slice_get, codes, IsNone, IsSomeAnd}
use Rattle.std.specs.Prelude.{MatchBool}
use Rattle.cargo_core.specs.Capacities.{IsCapacity}
use Rattle.std.specs.List.{flat_map}
use Rattle.std.specs.Option.{option_map_or, option_and_then}
use Rattle.sdf_plan.specs.declared.plan.Domain.{Domain}
use Rattle.sdf_plan.specs.declared.plan.Map.{Map}
use Rattle.sdf_plan.specs.declared.plan.Channel.{Channel}
use Rattle.std.specs.Prelude.{⊤}
use Rattle.frame_core.specs.Macs.{mac_of}
use Rattle.sdf_plan.specs.declared.place.Place.{Place}
use Rattle.sdf_plan.specs.declared.place.Place.TheVariants as At
use Rattle.sdf_plan.specs.declared.plan.Plan.{Plan}
use Rattle.sdf_plan.specs.declared.plan.Net.{Net}
use Rattle.sdf_plan.specs.declared.plan.NetClient.{NetClient}
use Rattle.sdf_plan.specs.declared.plan.Serial.{Serial}
use Rattle.sdf_plan.specs.declared.plan.SerialClient.{SerialClient}
use Rattle.sdf_plan.specs.declared.plan.Blk.{Blk}
use Rattle.sdf_plan.specs.declared.plan.BlkClient.{BlkClient}
use Rattle.sdf_plan.specs.declared.class_table.uses.Link.{Link}
use Rattle.sdf_plan.specs.declared.class_table.uses.Ends.{Ends}
use Rattle.sdf_plan.specs.declared.class_table.uses.Ends.TheVariants as Way
use Rattle.sdf_plan.specs.declared.class_table.uses.RoleUse.{RoleUse}
use Rattle.sdf_plan.specs.declared.class_table.uses.QueueUse.{QueueUse}
use Rattle.sdf_plan.specs.declared.class_table.uses.Grant.{Grant}
use Rattle.sdf_plan.specs.declared.class_table.uses.PoolUse.{PoolUse}
use Rattle.sdf_plan.specs.ClassTable.Rows.{Name}
use Rattle.sdf_plan.specs.ClassTable.Sizes.{queue_end, pool_bytes}
use Rattle.sdf_plan.specs.ClassTable.Names.{domains_of, regions_of}
use Rattle.sdf_plan.specs.ClassTable.Order.{elements_before}
use Rattle.sdf_plan.specs.ClassTable.Table.{Element, table_of}
use Rattle.sdf_plan.specs.ClassTable.Roles.{IsProgramOf}
use Rattle.sdf_plan.specs.Elements.{OfDomain, OfNetClient, OfSerialClient, OfBlkClient}
use Rattle.sdf_check.specs.Names.{StandsBefore, region_named, domain_named}
use Rattle.sdf_check.specs.Rules.{the_region, count_of}

-- this holds of one of the elements of a list
abbrev pub SomeOf : {T : Type 0} → (T → Type 0) → List T → Type 0
SomeOf P values = (key : ℕ) × IsSomeAnd (slice_get values key) P

-- a queue goes from one domain to another, and this holds of the two and of their region
abbrev pub OfLink : (Link Name → Type 0) → Ends Name → Type 0
OfLink P (Way.Across link) = P link
OfLink P (Way.FromDevice driver) = ⊥
OfLink P (Way.ToDevice driver) = ⊥

-- the region of a queue isn't there
abbrev pub QueueHasNoRegion : Plan → QueueUse Name → Type 0
QueueHasNoRegion plan q = OfLink (λ link. IsNone (region_named plan link.region)) q.ends

-- the region of a pool isn't there
abbrev pub PoolHasNoRegion : Plan → PoolUse Name → Type 0
PoolHasNoRegion plan p = IsNone (region_named plan p.region)

-- rule 13 of an element of a class: one of its queues or pools has no region
abbrev pub UsesNoRegion : Plan → Element → Type 0
UsesNoRegion plan e = SomeOf (QueueHasNoRegion plan) e.queues
    ⊎ SomeOf (PoolHasNoRegion plan) e.pools

-- the domain that has a role isn't there
abbrev pub RoleHasNoDomain : Plan → RoleUse Name → Type 0
RoleHasNoDomain plan r = IsNone (domain_named plan r.domain)

-- rule 17 of an element of a class: one of its roles has no domain
abbrev pub UsesNoDomain : Plan → Element → Type 0
UsesNoDomain plan e = SomeOf (RoleHasNoDomain plan) e.roles

-- the names that the network class and its clients use, read in these two ways
abbrev pub net_names : (Net → List (List ℕ)) → (NetClient → List (List ℕ)) → Plan → List (List ℕ)
net_names class client plan = option_map_or
    (λ net. class net ++ flat_map client net.client) plan.net []

-- the names that the serial class and its clients use, read in these two ways
abbrev pub serial_names : (Serial → List (List ℕ)) → (SerialClient → List (List ℕ)) → Plan
    → List (List ℕ)
serial_names class client plan = option_map_or
    (λ serial. class serial ++ flat_map client serial.client) plan.serial []

-- the names that the block class and its clients use, read in these two ways
abbrev pub blk_names : (Blk → List (List ℕ)) → (BlkClient → List (List ℕ)) → Plan → List (List ℕ)
blk_names class client plan = option_map_or
    (λ blk. class blk ++ flat_map client blk.client) plan.blk []

-- the domains that class elements name, element by element in the order of the table
abbrev pub class_domains : Plan → List (List ℕ)
class_domains plan = flat_map domains_of (table_of plan)

-- the regions that class elements name
abbrev pub class_regions : Plan → List (List ℕ)
class_regions plan = flat_map regions_of (table_of plan)

-- one of these names is among those before, or stands at an earlier key
abbrev pub RepeatsName : List (List ℕ) → List (List ℕ) → Type 0
RepeatsName before names = (key : ℕ) × IsSomeAnd (slice_get names key)
    (λ name. SomeOf (λ other. other ≡ name) (before ++ take key names))

-- the domain that has this name
abbrev pub the_domain : Plan → List ℕ → Option Domain
the_domain plan name = option_and_then (λ d. slice_get plan.protection_domain d)
    (domain_named plan name)

-- the domain of a role runs a program of it
abbrev pub Plays : Plan → RoleUse Name → Type 0
Plays plan r = IsSomeAnd (the_domain plan r.domain) (λ domain. IsProgramOf r.role domain.program)

-- rule 21: an element gives a role to a domain with another program
abbrev pub GivesWrongRole : Plan → Element → Type 0
GivesWrongRole plan e = SomeOf (λ (r : RoleUse Name). ¬ Plays plan r) e.roles

-- rule 21 too: an element gives a role to a domain that has one
abbrev pub NamesDomainAgain : Plan → Element → Type 0
NamesDomainAgain plan e =
    RepeatsName (flat_map domains_of (elements_before plan e.place)) (domains_of e)

-- and a domain whose program isn't `idle` has no role
abbrev pub LacksRole : Plan → Place → Type 0
LacksRole plan (At.Domain d) =
    OfDomain plan d (λ domain. (domain.program ≢ codes "idle")
    × ¬ SomeOf (λ name. name ≡ domain.name) (class_domains plan))
LacksRole plan _ = ⊥

-- a channel joins two domains, whichever end stands first
abbrev pub Joins : List ℕ × List ℕ → Channel → Type 0
Joins link channel =
    IsSomeAnd (slice_get channel.end 0) (λ first. IsSomeAnd (slice_get channel.end 1) (λ second.
    ((first.pd ≡ link.0) × (second.pd ≡ link.1)) ⊎ ((first.pd ≡ link.1) × (second.pd ≡ link.0))))

-- a channel joins the two domains of a link
abbrev pub AreJoined : Plan → List ℕ × List ℕ → Type 0
AreJoined plan link = SomeOf (Joins link) plan.channel

-- the domain of this name has an interrupt
abbrev pub HasInterrupt : Plan → List ℕ → Type 0
HasInterrupt plan name = IsSomeAnd (the_domain plan name) (λ domain. 0 < length domain.irq)

-- the two domains of a queue have no channel between them
abbrev pub QueueHasNoChannel : Plan → QueueUse Name → Type 0
QueueHasNoChannel plan q = OfLink (λ link. ¬ AreJoined plan (link.from, link.to)) q.ends

-- rule 22: one of an element's queues has no channel, or its driver no interrupt
abbrev pub LacksChannel : Plan → Element → Type 0
LacksChannel plan e = SomeOf (QueueHasNoChannel plan) e.queues
    ⊎ IsSomeAnd e.driver (λ name. ¬ HasInterrupt plan name)

-- permissions with `r`, and with `w` where it is asked for
abbrev pub AllowUse : List ℕ → Bool → Type 0
AllowUse perms writes = (0 < count_of 114 perms) × MatchBool writes (0 < count_of 119 perms) ⊤

-- a map of the region of a name, with the permissions asked
abbrev pub Grants : List ℕ → Bool → Map → Type 0
Grants region writes m = (m.mr ≡ region) × AllowUse m.perms writes

-- the domain of a name maps the region of a name with the permissions asked, by one single map
abbrev pub IsGranted : Plan → List ℕ × List ℕ × Bool → Type 0
IsGranted plan right = IsSomeAnd (the_domain plan right.0)
    (λ domain. SomeOf (Grants right.1 right.2) domain.map)

-- one of the two domains of a queue can't read and write its region
abbrev pub QueueLacksRight : Plan → QueueUse Name → Type 0
QueueLacksRight plan q =
    OfLink (λ link. (¬ IsGranted plan (link.from, link.region, true))
    ⊎ (¬ IsGranted plan (link.to, link.region, true))) q.ends

-- a domain that must map a pool's region lacks the rights asked of it
abbrev pub PoolLacksRight : Plan → PoolUse Name → Type 0
PoolLacksRight plan p = SomeOf (λ (g : Grant Name).
    ¬ IsGranted plan (g.domain, p.region, g.writes)) p.must

-- rule 23: a domain of one of an element's queues or pools lacks a map
abbrev pub LacksRight : Plan → Element → Type 0
LacksRight plan e = SomeOf (QueueLacksRight plan) e.queues ⊎ SomeOf (PoolLacksRight plan) e.pools

-- a domain has none of these names, and maps the region of this name
abbrev pub IsStranger : List ℕ → List (List ℕ) → Domain → Type 0
IsStranger region allowed domain = (¬ SomeOf (λ name. name ≡ domain.name) allowed)
    × SomeOf (λ (m : Map). m.mr ≡ region) domain.map

-- a domain that isn't allowed to maps the region of this name
abbrev pub HasStranger : Plan → List ℕ → List (List ℕ) → Type 0
HasStranger plan region allowed = SomeOf (IsStranger region allowed) plan.protection_domain

-- rule 24: a domain that is none of the two of a queue maps its region, or one that neither must
-- nor may map the region of a pool does so
abbrev pub QueueHasStranger : Plan → QueueUse Name → Type 0
QueueHasStranger plan q = OfLink (λ link.
    HasStranger plan link.region (link.from ∷ link.to ∷ [])) q.ends

-- the domains that must or may map the region of a pool
abbrev pub allowed : PoolUse Name → List (List ℕ)
allowed p = map (λ (g : Grant Name). g.domain) p.must ++ p.may

-- a domain that neither must nor may map the region of a pool does so
abbrev pub PoolHasStranger : Plan → PoolUse Name → Type 0
PoolHasStranger plan p = HasStranger plan p.region (allowed p)

-- rule 24 of the rows of an element: one of its queues or pools has a stranger
abbrev pub IsSharedWithStranger : Plan → Element → Type 0
IsSharedWithStranger plan e = SomeOf (QueueHasStranger plan) e.queues
    ⊎ SomeOf (PoolHasStranger plan) e.pools

-- rule 24 too: an element names a region that is named already
abbrev pub NamesRegionAgain : Plan → Element → Type 0
NamesRegionAgain plan e =
    RepeatsName (flat_map regions_of (elements_before plan e.place)) (regions_of e)

-- rule 25: the capacity of a queue is none
abbrev pub HasBadCapacity : Element → Type 0
HasBadCapacity e = SomeOf (λ (q : QueueUse Name). ¬ IsCapacity q.capacity) e.queues

-- rule 26: a queue has fewer entries than buffers or requests may come to stand there
abbrev pub HasLowCapacity : Element → Type 0
HasLowCapacity e = SomeOf (λ (q : QueueUse Name). q.capacity < q.holds) e.queues

-- the region of this name is smaller than this
abbrev pub IsSmaller : Plan → List ℕ × ℕ → Type 0
IsSmaller plan need = IsSomeAnd (the_region plan need.0) (λ region. region.size < need.1)

-- a region ends before the queue that stands there
abbrev pub QueueLacksRoom : Plan → QueueUse Name → Type 0
QueueLacksRoom plan q = OfLink (λ link. IsSmaller plan (link.region, queue_end q)) q.ends

-- a region ends before the pool that stands there
abbrev pub PoolLacksRoom : Plan → PoolUse Name → Type 0
PoolLacksRoom plan p = IsSmaller plan (p.region, pool_bytes p)

-- rule 27: a region ends before one of the queues or pools of an element
abbrev pub LacksRoom : Plan → Element → Type 0
LacksRoom plan e = SomeOf (QueueLacksRoom plan) e.queues ⊎ SomeOf (PoolLacksRoom plan) e.pools

-- rule 28: a MAC isn't readable, is a group address, or is that of an earlier client
abbrev pub HasBadMac : Plan → Place → Type 0
HasBadMac plan (At.NetClient c) =
    IsSomeAnd plan.net (λ net. IsSomeAnd (slice_get net.client c) (λ client.
    IsNone (mac_of client.mac) ⊎ StandsBefore (mac_of client.mac)
    (map (λ (other : NetClient). mac_of other.mac) net.client) c))
HasBadMac plan _ = ⊥

-- rule 29: a partition is above 3 or that of an earlier client
abbrev pub HasBadPartition : Plan → Place → Type 0
HasBadPartition plan (At.BlkClient c) =
    IsSomeAnd plan.blk (λ blk. IsSomeAnd (slice_get blk.client c) (λ client.
    (3 < client.partition) ⊎ StandsBefore client.partition
    (map (λ (other : BlkClient). other.partition) blk.client) c))
HasBadPartition plan _ = ⊥

-- a number of clients that is allowed: from 1 to 8
abbrev pub IsClientCount : ℕ → Type 0
IsClientCount n = (1 ≤ n) × (n ≤ 8)

-- a number of buffers that is allowed: from 1 to 512
abbrev pub IsBufferCount : ℕ → Type 0
IsBufferCount n = (1 ≤ n) × (n ≤ 512)

-- rule 30: a count passes its limit, or a class has no client, or a pool no buffer
abbrev pub IsPastLimit : Plan → Place → Type 0
IsPastLimit plan (At.Region r) = (256 ≤ r) × (r < length plan.memory_region)
IsPastLimit plan (At.Map d m) = OfDomain plan d (λ domain. (64 ≤ m) × (m < length domain.map))
IsPastLimit plan (At.Irq d i) = OfDomain plan d (λ domain. (8 ≤ i) × (i < length domain.irq))
IsPastLimit plan (At.Channel c) = (256 ≤ c) × (c < length plan.channel)
IsPastLimit plan At.Net = IsSomeAnd plan.net
    (λ net. (¬ IsClientCount (length net.client)) ⊎ (¬ IsBufferCount net.rx_buffers))
IsPastLimit plan (At.NetClient c) =
    OfNetClient plan c (λ client. (¬ IsBufferCount client.rx_buffers)
    ⊎ (¬ IsBufferCount client.tx_buffers))
IsPastLimit plan At.Serial = IsSomeAnd plan.serial
    (λ serial. ¬ IsClientCount (length serial.client))
IsPastLimit plan At.Blk = IsSomeAnd plan.blk (λ blk. ¬ IsClientCount (length blk.client))
IsPastLimit plan (At.BlkClient c) = OfBlkClient plan c (λ client. ¬ IsBufferCount client.buffers)
IsPastLimit plan _ = ⊥

-- rule 31: the longest frame is below 1,514 bytes or above 9,014
abbrev pub HasBadMaxFrame : Plan → Place → Type 0
HasBadMaxFrame plan At.Net = IsSomeAnd plan.net
    (λ net. (net.max_frame < 1514) ⊎ (9014 < net.max_frame))
HasBadMaxFrame plan _ = ⊥

-- a size that a network buffer may have: a power of two, from 2,048 to 16,384
abbrev pub IsBufferSize : ℕ → Type 0
IsBufferSize size = IsCapacity size × (2048 ≤ size) × (size ≤ 16384)

-- a network buffer has no such size, or the longest frame doesn't fit it
abbrev pub IsBadBuffer : ℕ → ℕ → Type 0
IsBadBuffer longest size = (¬ IsBufferSize size) ⊎ (size < longest)

-- rule 32: the size of a buffer is no power of two from 2,048 to 16,384, or is below the longest
-- frame
abbrev pub HasBadBufferSize : Plan → Place → Type 0
HasBadBufferSize plan At.Net = IsSomeAnd plan.net
    (λ net. IsBadBuffer net.max_frame net.rx_buffer_size)
HasBadBufferSize plan (At.NetClient c) =
    IsSomeAnd plan.net (λ net. IsSomeAnd (slice_get net.client c) (λ client.
    IsBadBuffer net.max_frame client.rx_buffer_size
    ⊎ IsBadBuffer net.max_frame client.tx_buffer_size))
HasBadBufferSize plan _ = ⊥
