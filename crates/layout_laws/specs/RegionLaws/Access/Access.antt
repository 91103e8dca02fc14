-- Who reaches the regions of queues and pools, and where these lie: in the words of a description,
-- and not by the tables that judge it.
use Rattle.std.specs.Prelude.{◌≡◌, ℕ, ◌<◌, ◌⊎◌, All, Any, Contains, List, [], ◌∷◌, ◌++◌, length}
use Rattle.std.specs.Prelude.{map, Some, slice_get, codes}
use Rattle.std.specs.Option.{option_map_or}
use Rattle.wire_core.specs.declared.names.QueueRow.{QueueRow}
use Rattle.wire_core.specs.declared.names.PoolRow.{PoolRow}
use Rattle.sdf_plan.specs.declared.plan.Plan.{Plan}
use Rattle.sdf_plan.specs.declared.plan.Region.{Region}
use Rattle.sdf_plan.specs.declared.plan.Domain.{Domain}
use Rattle.sdf_plan.specs.declared.plan.Map.{Map}
use Rattle.sdf_plan.specs.declared.plan.Channel.{Channel}
use Rattle.sdf_plan.specs.declared.plan.End.{End}
use Rattle.sdf_plan.specs.declared.plan.Net.{Net}
use Rattle.sdf_plan.specs.declared.plan.NetClient.{NetClient}
use Rattle.sdf_plan.specs.declared.plan.Serial.{Serial}
use Rattle.sdf_plan.specs.declared.plan.Blk.{Blk}
use Rattle.sdf_plan.specs.declared.plan.BlkClient.{BlkClient}
use Rattle.region_layout.specs.Rows.{actors_of, each_client, client_name}

-- a domain maps the region of a name
abbrev pub Maps : List ℕ → Domain → Type 0
Maps region domain = Any (λ (m : Map). m.mr ≡ region) domain.map

-- it maps that region with the letter `r`, which is 114
abbrev pub Reads : List ℕ → Domain → Type 0
Reads region domain = Any (λ (m : Map). (m.mr ≡ region) × Contains m.perms 114) domain.map

-- it maps it, by one map, with `r` and with `w`, which is 119
abbrev pub Writes : List ℕ → Domain → Type 0
Writes region domain = Any (λ (m : Map). (m.mr ≡ region) × Contains m.perms 114
    × Contains m.perms 119) domain.map

-- this holds of a domain that has this name
abbrev pub HoldsOf : Plan → List ℕ → (Domain → Type 0) → Type 0
HoldsOf plan name P = Any (λ domain. (domain.name ≡ name) × P domain) plan.protection_domain

-- the end of a channel at a place is that of the domain of this name
abbrev pub IsEnd : Channel → ℕ → List ℕ → Type 0
IsEnd channel at name = (end : End) × (slice_get channel.end at ≡ Some end) × (end.pd ≡ name)

-- a channel joins the domains of two names, whichever end stands first
abbrev pub JoinsBoth : List ℕ → List ℕ → Channel → Type 0
JoinsBoth a b channel = (IsEnd channel 0 a × IsEnd channel 1 b)
    ⊎ (IsEnd channel 0 b × IsEnd channel 1 a)

-- the domains of some names read a region, those of others read and write it, those of yet others
-- may map it, and no other domain maps it at all
pub record IsSharedBy (plan : Plan) (region : List ℕ)
    (readers writers others : List (List ℕ)) : Type 0 where
  pub read : All (λ name. HoldsOf plan name (Reads region)) readers
  pub write : All (λ name. HoldsOf plan name (Writes region)) writers
  pub nobody_else :
      All (λ domain. Maps region domain → Contains (readers ++ writers ++ others) domain.name)
      plan.protection_domain

-- two domains are joined by a channel, and they alone map a region, to read and to write it
pub record IsLink (plan : Plan) (region from to : List ℕ) : Type 0 where
  pub joined : Any (JoinsBoth from to) plan.channel
  pub shared : IsSharedBy plan region [] (from ∷ to ∷ []) []

-- the two actors of a queue that stands in a region are the two domains of a link over it
abbrev pub IsLinked : Plan → QueueRow → Type 0
IsLinked plan row =
    (r : ℕ) → row.region ≡ Some r → (region : Region) × (from : List ℕ) × (to : List ℕ)
    × (slice_get plan.memory_region r ≡ Some region)
    × (slice_get (actors_of plan) row.producer.0 ≡ Some from)
    × (slice_get (actors_of plan) row.consumer.0 ≡ Some to) × IsLink plan region.name from to

-- who reaches a pool, by its name: the domains that read its buffers, those that read and fill
-- them, and those that may map them too
pub record Users : Type 0 where
  pub pool : List ℕ
  pub readers : List (List ℕ)
  pub writers : List (List ℕ)
  pub others : List (List ℕ)

-- the users of a pool of this name
abbrev pub reached_by : List ℕ → List (List ℕ) → List (List ℕ) → List (List ℕ) → Users
reached_by pool readers writers others = record {
  pool = pool;
  readers = readers;
  writers = writers;
  others = others;
}

-- a network client's buffers to receive are filled by its copier, and those to send by itself
abbrev pub net_client_users : Net → ℕ → NetClient → List Users
net_client_users net c client =
    reached_by (client_name (codes "net.") c (codes ".rx")) (client.pd ∷ []) (client.copier ∷ []) []
    ∷ reached_by (client_name (codes "net.") c (codes ".tx")) [] (client.pd ∷ [])
    (net.tx_virt ∷ net.driver ∷ []) ∷ []

-- the buffers that the Ethernet device fills are read by the receiving virtualiser and by each
-- copier
abbrev pub net_users : Net → List Users
net_users net =
    reached_by (codes "net.rx") (net.rx_virt ∷ map (λ (c : NetClient). c.copier) net.client) []
    (net.driver ∷ [])
    ∷ each_client (net_client_users net) 0 net.client

-- a block client reads and fills its buffers itself
abbrev pub blk_client_users : Blk → ℕ → BlkClient → List Users
blk_client_users blk c client = reached_by (client_name (codes "blk.") c []) [] (client.pd ∷ [])
    (blk.virt ∷ blk.driver ∷ []) ∷ []

-- the virtualiser has a buffer of its own, for the partition table
abbrev pub blk_users : Blk → List Users
blk_users blk = reached_by (codes "blk") [] (blk.virt ∷ []) (blk.driver ∷ [])
    ∷ each_client (blk_client_users blk) 0 blk.client

-- the users of all pools, class by class
abbrev pub users_of : Plan → List Users
users_of plan = option_map_or net_users plan.net [] ++ option_map_or blk_users plan.blk []

-- a pool has this name, and its region is shared by these users
abbrev pub IsReached : Plan → PoolRow → Users → Type 0
IsReached plan row who =
    (region : Region) × (row.name ≡ who.pool)
    × (slice_get plan.memory_region row.region ≡ Some region)
    × IsSharedBy plan region.name who.readers who.writers who.others

-- the domain of this name has an interrupt
abbrev pub IsInterrupted : Plan → List ℕ → Type 0
IsInterrupted plan name = HoldsOf plan name (λ domain. 0 < length domain.irq)

-- the driver of each class that is there has an interrupt
pub record AreInterrupted (plan : Plan) : Type 0 where
  pub net : (net : Net) → plan.net ≡ Some net → IsInterrupted plan net.driver
  pub serial : (serial : Serial) → plan.serial ≡ Some serial → IsInterrupted plan serial.driver
  pub blk : (blk : Blk) → plan.blk ≡ Some blk → IsInterrupted plan blk.driver
