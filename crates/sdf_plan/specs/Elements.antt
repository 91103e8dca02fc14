-- The elements of a plan: how many there are of each sort, and what holds of the one at a place.
use Rattle.std.specs.Prelude.{ℕ, ◌<◌, ◌^◌, length, map, slice_get, All, IfSome, IsSomeAnd}
use Rattle.std.specs.Option.{option_map}
use Rattle.sdf_plan.specs.Places.{Outline}
use Rattle.sdf_plan.specs.declared.plan.Plan.{Plan}
use Rattle.sdf_plan.specs.declared.plan.Region.{Region}
use Rattle.sdf_plan.specs.declared.plan.Domain.{Domain}
use Rattle.sdf_plan.specs.declared.plan.Map.{Map}
use Rattle.sdf_plan.specs.declared.plan.Irq.{Irq}
use Rattle.sdf_plan.specs.declared.plan.Channel.{Channel}
use Rattle.sdf_plan.specs.declared.plan.End.{End}
use Rattle.sdf_plan.specs.declared.plan.Net.{Net}
use Rattle.sdf_plan.specs.declared.plan.NetClient.{NetClient}
use Rattle.sdf_plan.specs.declared.plan.Serial.{Serial}
use Rattle.sdf_plan.specs.declared.plan.SerialClient.{SerialClient}
use Rattle.sdf_plan.specs.declared.plan.Blk.{Blk}
use Rattle.sdf_plan.specs.declared.plan.BlkClient.{BlkClient}

-- how many maps and interrupts a domain has
abbrev pub domain_parts : Domain → ℕ × ℕ
domain_parts domain = (length domain.map, length domain.irq)

-- how many ends a channel has
abbrev pub channel_parts : Channel → ℕ
channel_parts channel = length channel.end

-- how many elements of each sort a plan has
abbrev pub outline_of : Plan → Outline
outline_of plan = record {
  regions = length plan.memory_region;
  domains = map domain_parts plan.protection_domain;
  channels = map channel_parts plan.channel;
  net = option_map (λ (n : Net). length n.client) plan.net;
  serial = option_map (λ (s : Serial). length s.client) plan.serial;
  blk = option_map (λ (b : Blk). length b.client) plan.blk;
}

-- each list of a plan has fewer than 2^32 elements, so that the number of each takes 32 bits
pub record IsNumbered (plan : Plan) : Type 0 where
  pub regions : length plan.memory_region < 2 ^ 32
  pub domains : length plan.protection_domain < 2 ^ 32
  pub maps : All (λ (d : Domain). length d.map < 2 ^ 32) plan.protection_domain
  pub irqs : All (λ (d : Domain). length d.irq < 2 ^ 32) plan.protection_domain
  pub channels : length plan.channel < 2 ^ 32
  pub ends : All (λ (c : Channel). length c.end < 2 ^ 32) plan.channel
  pub net : IfSome plan.net (λ (n : Net). length n.client < 2 ^ 32)
  pub serial : IfSome plan.serial (λ (s : Serial). length s.client < 2 ^ 32)
  pub blk : IfSome plan.blk (λ (b : Blk). length b.client < 2 ^ 32)

-- a region stands at this place, and the fact holds of it
abbrev pub OfRegion : Plan → ℕ → (Region → Type 0) → Type 0
OfRegion plan r P = IsSomeAnd (slice_get plan.memory_region r) P

-- a domain stands at this place, and the fact holds of it
abbrev pub OfDomain : Plan → ℕ → (Domain → Type 0) → Type 0
OfDomain plan d P = IsSomeAnd (slice_get plan.protection_domain d) P

-- a map stands at this place, and the fact holds of it
abbrev pub OfMap : Plan → ℕ → ℕ → (Map → Type 0) → Type 0
OfMap plan d m P = OfDomain plan d (λ domain. IsSomeAnd (slice_get domain.map m) P)

-- an interrupt stands at this place, and the fact holds of it
abbrev pub OfIrq : Plan → ℕ → ℕ → (Irq → Type 0) → Type 0
OfIrq plan d i P = OfDomain plan d (λ domain. IsSomeAnd (slice_get domain.irq i) P)

-- a channel stands at this place, and the fact holds of it
abbrev pub OfChannel : Plan → ℕ → (Channel → Type 0) → Type 0
OfChannel plan c P = IsSomeAnd (slice_get plan.channel c) P

-- an end of a channel stands at this place, and the fact holds of it
abbrev pub OfEnd : Plan → ℕ → ℕ → (End → Type 0) → Type 0
OfEnd plan c e P = OfChannel plan c (λ channel. IsSomeAnd (slice_get channel.end e) P)

-- a network client stands at this place, and the fact holds of it
abbrev pub OfNetClient : Plan → ℕ → (NetClient → Type 0) → Type 0
OfNetClient plan c P = IsSomeAnd plan.net (λ net. IsSomeAnd (slice_get net.client c) P)

-- a serial client stands at this place, and the fact holds of it
abbrev pub OfSerialClient : Plan → ℕ → (SerialClient → Type 0) → Type 0
OfSerialClient plan c P = IsSomeAnd plan.serial (λ serial. IsSomeAnd (slice_get serial.client c) P)

-- a block client stands at this place, and the fact holds of it
abbrev pub OfBlkClient : Plan → ℕ → (BlkClient → Type 0) → Type 0
OfBlkClient plan c P = IsSomeAnd plan.blk (λ blk. IsSomeAnd (slice_get blk.client c) P)
