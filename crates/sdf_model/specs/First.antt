-- How a text was read before there was a second version: the rows of version 1 alone, whose
-- `version` is 1, and the plan that they spell, in which sizes are 1,514 and 2,048.
use Rattle.std.specs.Prelude.{◌≡◌, ℕ, ℤ, pos, negsuc, Bool, true, false, not, if◌then◌else◌, ◌==◌}
use Rattle.std.specs.Prelude.{◌⊎◌, List, map, codes, Some, option_map}
use Rattle.std.specs.List.{list_any}
use Rattle.toml.specs.Data.{Data, Members, get_member, as_integer}
use Rattle.toml.specs.Parse.{parse_document}
use Rattle.sdf_plan.specs.declared.place.Place.{Place}
use Rattle.sdf_plan.specs.declared.place.Place.TheVariants as At
use Rattle.sdf_plan.specs.declared.plan.Plan.{Plan}
use Rattle.sdf_plan.specs.declared.plan.Net.{Net}
use Rattle.sdf_plan.specs.declared.plan.NetClient.{NetClient}
use Rattle.sdf_model.specs.declared.key.Kind.{Kind}
use Rattle.sdf_model.specs.declared.key.Kind.TheVariants as A
use Rattle.sdf_model.specs.Keys.{Row, holds, is_kind, keys_at, has_unknown_key, lacks_key}
use Rattle.sdf_model.specs.Tree.{tables_at, table_at, element_at, IsDocument, IsNoDocument}
use Rattle.sdf_model.specs.Tree.{version_of}
use Rattle.sdf_model.specs.Spelled.{number_or, number_at, text_at, policy_at, region_of, domain_of}
use Rattle.sdf_model.specs.Spelled.{channel_of, serial_of, blk_of}

-- the integer is 1
abbrev pub is_one : ℤ → Bool
is_one (pos n) = n == 1
is_one (negsuc n) = false

-- a value of the kind, where the one version is 1
abbrev pub is_first_kind : Kind → Data → Bool
is_first_kind A.Version d = holds is_one (as_integer d)
is_first_kind kind d = is_kind kind d

-- the value at the key is there, and isn't of the kind
abbrev pub is_first_misfit : Members → Row → Bool
is_first_misfit t key = holds (λ d. not (is_first_kind key.kind d)) (get_member key.name t)

-- the table of the element at a place breaks the rule of this number
unfoldable pub breaks_first : ℕ → Place → Members → Bool
breaks_first rule place t =
    if rule == 2 then has_unknown_key (keys_at place) t
    else if rule == 3 then lacks_key (keys_at place) t
    else if rule == 4 then list_any (is_first_misfit t) (keys_at place)
    else false

-- the rule of this number, of the first four, is broken at this place
abbrev pub BreaksFirst : List ℕ → ℕ → Place → Type 0
BreaksFirst text rule place =
    ((rule ≡ 1) × (place ≡ At.System) × IsNoDocument text)
    ⊎ ((root : Members) × (t : Members) × (parse_document text ≡ Some root)
    × (element_at root place ≡ Some t) × (breaks_first rule place t ≡ true))

-- the text isn't of version 2
abbrev pub IsOfFirst : List ℕ → Type 0
IsOfFirst text = (root : Members) → parse_document text ≡ Some root → version_of root ≡ 1

-- the network client that a table spells
abbrev pub first_net_client_of : Members → NetClient
first_net_client_of t = record {
  pd = text_at (codes "pd") t;
  copier = text_at (codes "copier") t;
  mac = text_at (codes "mac") t;
  lease_queues = text_at (codes "lease_queues") t;
  rx_region = text_at (codes "rx_region") t;
  rx_queues = text_at (codes "rx_queues") t;
  tx_region = text_at (codes "tx_region") t;
  tx_queues = text_at (codes "tx_queues") t;
  rx_buffers = number_at (codes "rx_buffers") t;
  rx_capacity = number_at (codes "rx_capacity") t;
  tx_buffers = number_at (codes "tx_buffers") t;
  tx_capacity = number_at (codes "tx_capacity") t;
  policy = policy_at (codes "policy") t;
  rx_buffer_size = 2048;
  tx_buffer_size = 2048;
}

-- the network class that a table spells
abbrev pub first_net_of : Members → Net
first_net_of t = record {
  driver = text_at (codes "driver") t;
  rx_virt = text_at (codes "rx_virt") t;
  tx_virt = text_at (codes "tx_virt") t;
  rx_region = text_at (codes "rx_region") t;
  rx_queues = text_at (codes "rx_queues") t;
  tx_queues = text_at (codes "tx_queues") t;
  rx_buffers = number_at (codes "rx_buffers") t;
  rx_capacity = number_at (codes "rx_capacity") t;
  tx_capacity = number_at (codes "tx_capacity") t;
  client = map first_net_client_of (tables_at (codes "client") t);
  max_frame = 1514;
  rx_buffer_size = 2048;
}

-- the plan that a document spells
abbrev pub first_plan_of : Members → Plan
first_plan_of root = record {
  version = number_or 1 (codes "version") root;
  memory_region = map region_of (tables_at (codes "memory_region") root);
  protection_domain = map domain_of (tables_at (codes "protection_domain") root);
  channel = map channel_of (tables_at (codes "channel") root);
  net = option_map first_net_of (table_at (codes "net") root);
  serial = option_map serial_of (table_at (codes "serial") root);
  blk = option_map blk_of (table_at (codes "blk") root);
}
