-- The plan that a document spells, part by part, with every default filled in.
use Rattle.std.specs.Prelude.{ℕ, ℤ, pos, negsuc, Bool, true, List, [], map, codes, Option, Some}
use Rattle.std.specs.Prelude.{None, if◌then◌else◌, option_map, option_and_then, unwrap_or}
use Rattle.std.specs.Str.{bytes_eq}
use Rattle.toml.specs.Data.{Members, get_member, as_str, as_integer, as_bool}
use Rattle.sdf_plan.specs.declared.plan.Plan.{Plan}
use Rattle.sdf_plan.specs.declared.plan.Policy.{Policy}
use Rattle.sdf_plan.specs.declared.plan.Policy.TheVariants as To
use Rattle.sdf_plan.specs.declared.plan.Region.{Region}
use Rattle.sdf_plan.specs.declared.plan.Domain.{Domain}
use Rattle.sdf_plan.specs.declared.plan.Map.{Map}
use Rattle.sdf_plan.specs.declared.plan.Irq.{Irq}
use Rattle.sdf_plan.specs.declared.plan.Channel.{Channel}
use Rattle.sdf_plan.specs.declared.plan.End.{End}
use Rattle.sdf_plan.specs.declared.plan.Net.{Net}
use Rattle.sdf_plan.specs.declared.plan.NetClient.{NetClient}
use Rattle.sdf_plan.specs.declared.plan.Serial.{Serial}
use Rattle.sdf_plan.specs.declared.plan.SerialClient.{SerialClient}
use Rattle.sdf_plan.specs.declared.plan.Blk.{Blk}
use Rattle.sdf_plan.specs.declared.plan.BlkClient.{BlkClient}
use Rattle.sdf_model.specs.Tree.{tables_at, table_at}

-- the number that an integer of at least 0 is
abbrev pub natural : ℤ → Option ℕ
natural (pos n) = Some n
natural (negsuc n) = None

-- the number at a key, if there is one
abbrev pub number_if : List ℕ → Members → Option ℕ
number_if key t = option_and_then natural (option_and_then as_integer (get_member key t))

-- the text at a key, if there is one
abbrev pub text_if : List ℕ → Members → Option (List ℕ)
text_if key t = option_and_then as_str (get_member key t)

-- the truth value at a key, if there is one
abbrev pub truth_if : List ℕ → Members → Option Bool
truth_if key t = option_and_then as_bool (get_member key t)

-- the same with what an absent key means. A required key is there, so that what stands for it then
-- has no use.
abbrev pub number_or : ℕ → List ℕ → Members → ℕ
number_or absent key t = unwrap_or (number_if key t) absent

-- the text at a key, or another where there is none
abbrev pub text_or : List ℕ → List ℕ → Members → List ℕ
text_or absent key t = unwrap_or (text_if key t) absent

-- the number at a required key
abbrev pub number_at : List ℕ → Members → ℕ
number_at key t = number_or 0 key t

-- the text at a required key
abbrev pub text_at : List ℕ → Members → List ℕ
text_at key t = text_or [] key t

-- the policy that a text is: to drop where it says `drop`, and else to hold
abbrev pub policy_of : Option (List ℕ) → Policy
policy_of None = To.Hold
policy_of (Some text) = if bytes_eq text (codes "drop") then To.Drop else To.Hold

-- the policy at a key
abbrev pub policy_at : List ℕ → Members → Policy
policy_at key t = policy_of (text_if key t)

-- the region that a table spells
abbrev pub region_of : Members → Region
region_of t = record {
  name = text_at (codes "name") t;
  size = number_at (codes "size") t;
  page_size = number_or 4096 (codes "page_size") t;
  phys_addr = number_if (codes "phys_addr") t;
}

-- the map that a table spells
abbrev pub map_of : Members → Map
map_of t = record {
  mr = text_at (codes "mr") t;
  vaddr = number_at (codes "vaddr") t;
  perms = text_at (codes "perms") t;
  cached = unwrap_or (truth_if (codes "cached") t) true;
  setvar_vaddr = text_if (codes "setvar_vaddr") t;
}

-- the interrupt that a table spells
abbrev pub irq_of : Members → Irq
irq_of t = record {
  irq = number_at (codes "irq") t;
  id = number_at (codes "id") t;
  trigger = text_or (codes "level") (codes "trigger") t;
}

-- the domain that a table spells
abbrev pub domain_of : Members → Domain
domain_of t = record {
  name = text_at (codes "name") t;
  priority = number_at (codes "priority") t;
  budget = number_or 1000 (codes "budget") t;
  period = number_or (number_or 1000 (codes "budget") t) (codes "period") t;
  program = text_at (codes "program") t;
  map = map map_of (tables_at (codes "map") t);
  irq = map irq_of (tables_at (codes "irq") t);
}

-- the end of a channel that a table spells
abbrev pub end_of : Members → End
end_of t = record { pd = text_at (codes "pd") t; id = number_at (codes "id") t }

-- the channel that a table spells
abbrev pub channel_of : Members → Channel
channel_of t = record { end = map end_of (tables_at (codes "end") t) }

-- the network client that a table spells
abbrev pub net_client_of : Members → NetClient
net_client_of t = record {
  pd = text_at (codes "pd") t;
  copier = text_at (codes "copier") t;
  mac = text_at (codes "mac") t;
  lease_queues = text_at (codes "lease_queues") t;
  rx_region = text_at (codes "rx_region") t;
  rx_queues = text_at (codes "rx_queues") t;
  tx_region = text_at (codes "tx_region") t;
  tx_queues = text_at (codes "tx_queues") t;
  rx_buffers = number_at (codes "rx_buffers") t;
  rx_capacity = number_at (codes "rx_capacity") t;
  tx_buffers = number_at (codes "tx_buffers") t;
  tx_capacity = number_at (codes "tx_capacity") t;
  policy = policy_at (codes "policy") t;
  rx_buffer_size = number_or 2048 (codes "rx_buffer_size") t;
  tx_buffer_size = number_or 2048 (codes "tx_buffer_size") t;
}

-- the network class that a table spells
abbrev pub net_of : Members → Net
net_of t = record {
  driver = text_at (codes "driver") t;
  rx_virt = text_at (codes "rx_virt") t;
  tx_virt = text_at (codes "tx_virt") t;
  rx_region = text_at (codes "rx_region") t;
  rx_queues = text_at (codes "rx_queues") t;
  tx_queues = text_at (codes "tx_queues") t;
  rx_buffers = number_at (codes "rx_buffers") t;
  rx_capacity = number_at (codes "rx_capacity") t;
  tx_capacity = number_at (codes "tx_capacity") t;
  client = map net_client_of (tables_at (codes "client") t);
  max_frame = number_or 1514 (codes "max_frame") t;
  rx_buffer_size = number_or 2048 (codes "rx_buffer_size") t;
}

-- the serial client that a table spells
abbrev pub serial_client_of : Members → SerialClient
serial_client_of t = record {
  pd = text_at (codes "pd") t;
  rx_queues = text_at (codes "rx_queues") t;
  tx_queues = text_at (codes "tx_queues") t;
  rx_capacity = number_at (codes "rx_capacity") t;
  tx_capacity = number_at (codes "tx_capacity") t;
  policy = policy_at (codes "policy") t;
}

-- the serial class that a table spells
abbrev pub serial_of : Members → Serial
serial_of t = record {
  driver = text_at (codes "driver") t;
  rx_virt = text_at (codes "rx_virt") t;
  tx_virt = text_at (codes "tx_virt") t;
  rx_queues = text_at (codes "rx_queues") t;
  tx_queues = text_at (codes "tx_queues") t;
  rx_capacity = number_at (codes "rx_capacity") t;
  tx_capacity = number_at (codes "tx_capacity") t;
  client = map serial_client_of (tables_at (codes "client") t);
}

-- the block client that a table spells
abbrev pub blk_client_of : Members → BlkClient
blk_client_of t = record {
  pd = text_at (codes "pd") t;
  region = text_at (codes "region") t;
  queues = text_at (codes "queues") t;
  partition = number_at (codes "partition") t;
  buffers = number_at (codes "buffers") t;
  capacity = number_at (codes "capacity") t;
}

-- the block class that a table spells
abbrev pub blk_of : Members → Blk
blk_of t = record {
  driver = text_at (codes "driver") t;
  virt = text_at (codes "virt") t;
  queues = text_at (codes "queues") t;
  region = text_at (codes "region") t;
  capacity = number_at (codes "capacity") t;
  client = map blk_client_of (tables_at (codes "client") t);
}

-- the plan that a document spells
abbrev pub plan_of : Members → Plan
plan_of root = record {
  version = number_or 1 (codes "version") root;
  memory_region = map region_of (tables_at (codes "memory_region") root);
  protection_domain = map domain_of (tables_at (codes "protection_domain") root);
  channel = map channel_of (tables_at (codes "channel") root);
  net = option_map net_of (table_at (codes "net") root);
  serial = option_map serial_of (table_at (codes "serial") root);
  blk = option_map blk_of (table_at (codes "blk") root);
}
