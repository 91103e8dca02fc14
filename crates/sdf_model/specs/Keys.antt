-- The key table: the keys of each element and what their values have to be, and the rules on them.
use Rattle.std.specs.Prelude.{if◌then◌else◌, ℕ, ℤ, pos, negsuc, Bool, true, false, not, ◌&&◌, ◌||◌}
use Rattle.std.specs.Prelude.{◌==◌, nat_le, List, [], ◌∷◌, ◌++◌, length, codes, Option, Some, None}
use Rattle.std.specs.Prelude.{is_some}
use Rattle.std.specs.List.{list_any, list_all}
use Rattle.std.specs.Str.{bytes_eq}
use Rattle.toml.specs.Data.{Data, Items, no_items, item, table, Members, no_members, member}
use Rattle.toml.specs.Data.{get_member, as_str, as_integer, as_bool, as_array, as_table}
use Rattle.toml.specs.Text.{are_tables}
use Rattle.sdf_plan.specs.declared.place.Place.{Place}
use Rattle.sdf_plan.specs.declared.place.Place.TheVariants as At
use Rattle.sdf_model.specs.declared.key.Kind.{Kind}
use Rattle.sdf_model.specs.declared.key.Kind.TheVariants as A
use Rattle.sdf_model.specs.declared.key.Absent.{Absent}
use Rattle.sdf_model.specs.declared.key.Absent.TheVariants as If
use Rattle.sdf_model.specs.declared.key.Key.{Key}

-- a key of an element: its name, what its value has to be, and what it means that it is absent
pub record Row : Type 0 where
  pub name : List ℕ
  pub kind : Kind
  pub absent : Absent

-- the row of a key: its name, its kind, and what its absence means
abbrev pub row : List ℕ → Kind → Absent → Row
row name kind absent = record { name = name; kind = kind; absent = absent }

-- the row that a key of the program is
abbrev pub row_of : Key → Row
row_of key = record { name = key.name.now; kind = key.kind; absent = key.absent }

-- the keys of the system
abbrev pub system_keys : List Row
system_keys =
    row (codes "version") A.Version (If.Number 1)
    ∷ row (codes "memory_region") A.List If.Empty
    ∷ row (codes "protection_domain") A.List If.Refused
    ∷ row (codes "channel") A.List If.Empty
    ∷ row (codes "net") A.Table If.Nothing
    ∷ row (codes "serial") A.Table If.Nothing
    ∷ row (codes "blk") A.Table If.Nothing ∷ []

-- the keys of a region
abbrev pub region_keys : List Row
region_keys =
    row (codes "name") A.Name If.Refused
    ∷ row (codes "size") A.Number If.Refused
    ∷ row (codes "page_size") A.Number (If.Number 4096)
    ∷ row (codes "phys_addr") A.Number If.Nothing ∷ []

-- the keys of a domain
abbrev pub domain_keys : List Row
domain_keys =
    row (codes "name") A.Name If.Refused
    ∷ row (codes "priority") A.Number (If.Number 0)
    ∷ row (codes "budget") A.Number (If.Number 1000)
    ∷ row (codes "period") A.Number If.Budget
    ∷ row (codes "program") A.Program If.Refused
    ∷ row (codes "map") A.List If.Empty
    ∷ row (codes "irq") A.List If.Empty ∷ []

-- the keys of a map
abbrev pub map_keys : List Row
map_keys =
    row (codes "mr") A.Name If.Refused
    ∷ row (codes "vaddr") A.Number If.Refused
    ∷ row (codes "perms") A.Text If.Refused
    ∷ row (codes "cached") A.Truth If.True
    ∷ row (codes "setvar_vaddr") A.Text If.Nothing ∷ []

-- the keys of an interrupt
abbrev pub irq_keys : List Row
irq_keys =
    row (codes "irq") A.Number If.Refused
    ∷ row (codes "id") A.Number If.Refused
    ∷ row (codes "trigger") A.Trigger If.Level ∷ []

-- the keys of a channel
abbrev pub channel_keys : List Row
channel_keys = row (codes "end") A.Pair If.Refused ∷ []

-- the keys of a channel's end
abbrev pub end_keys : List Row
end_keys = row (codes "pd") A.Name If.Refused ∷ row (codes "id") A.Number If.Refused ∷ []

-- required keys of the given kind
abbrev pub all_of : Kind → List (List ℕ) → List Row → List Row
all_of kind [] more = more
all_of kind (name ∷ names) more = row name kind If.Refused ∷ all_of kind names more

-- the keys of the network class
abbrev pub net_keys : List Row
net_keys =
    all_of A.Name
    (codes "driver" ∷ codes "rx_virt" ∷ codes "tx_virt" ∷ codes "rx_region" ∷ codes "rx_queues"
    ∷ codes "tx_queues" ∷ [])
    (all_of A.Number (codes "rx_buffers" ∷ codes "rx_capacity" ∷ codes "tx_capacity" ∷ [])
    (all_of A.List (codes "client" ∷ []) []))

-- the keys of a network client
abbrev pub net_client_keys : List Row
net_client_keys =
    all_of A.Name (codes "pd" ∷ codes "copier" ∷ [])
    (all_of A.Text (codes "mac" ∷ [])
    (all_of A.Name
    (codes "lease_queues" ∷ codes "rx_region" ∷ codes "rx_queues" ∷ codes "tx_region"
    ∷ codes "tx_queues" ∷ [])
    (all_of A.Number
    (codes "rx_buffers" ∷ codes "rx_capacity" ∷ codes "tx_buffers" ∷ codes "tx_capacity" ∷ [])
    (row (codes "policy") A.Policy If.Hold ∷ []))))

-- the keys of the serial class
abbrev pub serial_keys : List Row
serial_keys =
    all_of A.Name
    (codes "driver" ∷ codes "rx_virt" ∷ codes "tx_virt" ∷ codes "rx_queues" ∷ codes "tx_queues"
    ∷ [])
    (all_of A.Number (codes "rx_capacity" ∷ codes "tx_capacity" ∷ [])
    (all_of A.List (codes "client" ∷ []) []))

-- the keys of a serial client
abbrev pub serial_client_keys : List Row
serial_client_keys =
    all_of A.Name (codes "pd" ∷ codes "rx_queues" ∷ codes "tx_queues" ∷ [])
    (all_of A.Number (codes "rx_capacity" ∷ codes "tx_capacity" ∷ [])
    (row (codes "policy") A.Policy If.Hold ∷ []))

-- the keys of the block class
abbrev pub blk_keys : List Row
blk_keys =
    all_of A.Name (codes "driver" ∷ codes "virt" ∷ codes "queues" ∷ codes "region" ∷ [])
    (all_of A.Number (codes "capacity" ∷ []) (all_of A.List (codes "client" ∷ []) []))

-- the keys of a block client
abbrev pub blk_client_keys : List Row
blk_client_keys =
    all_of A.Name (codes "pd" ∷ codes "region" ∷ codes "queues" ∷ [])
    (all_of A.Number (codes "partition" ∷ codes "buffers" ∷ codes "capacity" ∷ []) [])

-- the keys of the element at a place, in a text of version 1
abbrev pub keys_at : Place → List Row
keys_at At.System = system_keys
keys_at (At.Region r) = region_keys
keys_at (At.Domain d) = domain_keys
keys_at (At.Map d m) = map_keys
keys_at (At.Irq d i) = irq_keys
keys_at (At.Channel c) = channel_keys
keys_at (At.End c e) = end_keys
keys_at At.Net = net_keys
keys_at (At.NetClient c) = net_client_keys
keys_at At.Serial = serial_keys
keys_at (At.SerialClient c) = serial_client_keys
keys_at At.Blk = blk_keys
keys_at (At.BlkClient c) = blk_client_keys

-- the keys that version 2 has more, of the element at a place
abbrev pub more_keys_at : Place → List Row
more_keys_at At.Net =
    row (codes "max_frame") A.Number (If.Number 1514)
    ∷ row (codes "rx_buffer_size") A.Number (If.Number 2048) ∷ []
more_keys_at (At.NetClient c) =
    row (codes "rx_buffer_size") A.Number (If.Number 2048)
    ∷ row (codes "tx_buffer_size") A.Number (If.Number 2048) ∷ []
more_keys_at _ = []

-- the keys of the element at a place, in a text of a version
abbrev pub keys_in : ℕ → Place → List Row
keys_in version place = keys_at place ++ (if version == 2 then more_keys_at place else [])

-- the programs that a domain may run
abbrev pub programs : List (List ℕ)
programs =
    codes "eth_driver" ∷ codes "net_virt_rx" ∷ codes "net_virt_tx" ∷ codes "net_copier"
    ∷ codes "net_sink" ∷ codes "net_source" ∷ codes "net_echo" ∷ codes "net_rogue"
    ∷ codes "uart_driver" ∷ codes "serial_virt_rx" ∷ codes "serial_virt_tx"
    ∷ codes "serial_reader" ∷ codes "serial_speaker" ∷ codes "serial_rogue"
    ∷ codes "blk_driver" ∷ codes "blk_virt" ∷ codes "blk_script" ∷ codes "blk_rogue"
    ∷ codes "idle" ∷ []

-- one of the texts
abbrev pub is_among : List (List ℕ) → List ℕ → Bool
is_among texts text = list_any (λ one. bytes_eq one text) texts

-- a letter, a digit, `_`, `-` or `.`, in ASCII
abbrev pub is_name_byte : ℕ → Bool
is_name_byte b =
    ((nat_le 97 b && nat_le b 122) || (nat_le 65 b && nat_le b 90))
    || (((nat_le 48 b && nat_le b 57) || (b == 95)) || ((b == 45) || (b == 46)))

-- a name: 1 to 64 such bytes
abbrev pub is_name : List ℕ → Bool
is_name text = (nat_le 1 (length text) && nat_le (length text) 64) && list_all is_name_byte text

-- the value is there and passes the test
abbrev pub holds : {T : Type 0} → (T → Bool) → Option T → Bool
holds test None = false
holds test (Some value) = test value

-- an integer of at least 0
abbrev pub is_natural : ℤ → Bool
is_natural (pos n) = true
is_natural (negsuc n) = false

-- the integer is a version: 1 or 2
abbrev pub is_version : ℤ → Bool
is_version (pos n) = (n == 1) || (n == 2)
is_version (negsuc n) = false

-- the tables among the values of a list
abbrev pub tables_of : Items → List Members
tables_of no_items = []
tables_of (item (table ms) ds) = ms ∷ tables_of ds
tables_of (item _ ds) = tables_of ds

-- two tables
abbrev pub is_pair : Items → Bool
is_pair items = are_tables items && (length (tables_of items) == 2)

-- a value of the kind, in its set and its form
abbrev pub is_kind : Kind → Data → Bool
is_kind A.Version d = holds is_version (as_integer d)
is_kind A.Number d = holds is_natural (as_integer d)
is_kind A.Name d = holds is_name (as_str d)
is_kind A.Text d = is_some (as_str d)
is_kind A.Program d = holds (is_among programs) (as_str d)
is_kind A.Trigger d = holds (is_among (codes "edge" ∷ codes "level" ∷ [])) (as_str d)
is_kind A.Policy d = holds (is_among (codes "hold" ∷ codes "drop" ∷ [])) (as_str d)
is_kind A.Truth d = is_some (as_bool d)
is_kind A.List d = holds are_tables (as_array d)
is_kind A.Pair d = holds is_pair (as_array d)
is_kind A.Table d = is_some (as_table d)

-- the names of a table's keys
abbrev pub names : Members → List (List ℕ)
names no_members = []
names (member name d ms) = name ∷ names ms

-- one of the rows has the name
abbrev pub is_known : List Row → List ℕ → Bool
is_known keys name = list_any (λ key. bytes_eq key.name name) keys

-- rule 2: a key of the table isn't in the element's rows
abbrev pub has_unknown_key : List Row → Members → Bool
has_unknown_key keys t = list_any (λ name. not (is_known keys name)) (names t)

-- the key must be there
abbrev pub is_required : Absent → Bool
is_required If.Refused = true
is_required _ = false

-- the key is required, and missing
abbrev pub is_lacking : Members → Row → Bool
is_lacking t key = is_required key.absent && not (is_some (get_member key.name t))

-- rule 3: a required key is missing
abbrev pub lacks_key : List Row → Members → Bool
lacks_key keys t = list_any (is_lacking t) keys

-- the value at the key is there, and isn't of the kind
abbrev pub is_misfit : Members → Row → Bool
is_misfit t key = holds (λ d. not (is_kind key.kind d)) (get_member key.name t)

-- rule 4: a value isn't of its key's kind
abbrev pub has_misfit : List Row → Members → Bool
has_misfit keys t = list_any (is_misfit t) keys

-- the table of an element with these keys breaks the rule of this number, of those that are read on
-- one element
unfoldable pub breaks_with : ℕ → List Row → Members → Bool
breaks_with rule keys t =
    if rule == 2 then has_unknown_key keys t
    else if rule == 3 then lacks_key keys t
    else if rule == 4 then has_misfit keys t
    else false
