-- The table: the element of each class and of each of its clients, in the order of the walk.
use Rattle.std.specs.Prelude.{◌≡◌, ℕ, ◌+◌, List, [], ◌∷◌, ◌++◌, length, Some, None, slice_get}
use Rattle.std.specs.Prelude.{IsSomeAnd}
use Rattle.std.specs.Option.{option_map, option_map_or}
use Rattle.sdf_plan.specs.declared.place.Place.{Place}
use Rattle.sdf_plan.specs.declared.place.Place.TheVariants as At
use Rattle.sdf_plan.specs.declared.plan.Plan.{Plan}
use Rattle.sdf_plan.specs.declared.plan.Net.{Net}
use Rattle.sdf_plan.specs.declared.plan.NetClient.{NetClient}
use Rattle.sdf_plan.specs.declared.plan.Serial.{Serial}
use Rattle.sdf_plan.specs.declared.plan.SerialClient.{SerialClient}
use Rattle.sdf_plan.specs.declared.plan.Blk.{Blk}
use Rattle.sdf_plan.specs.declared.plan.BlkClient.{BlkClient}
use Rattle.sdf_plan.specs.Places.{class_places}
use Rattle.sdf_plan.specs.declared.class_table.uses.ClassElement.{ClassElement}
use Rattle.sdf_plan.specs.ClassTable.Rows.{Name, net_roles, net_queues, net_pools, net_client_roles}
use Rattle.sdf_plan.specs.ClassTable.Rows.{net_client_queues, net_client_pools, serial_roles, serial_queues}
use Rattle.sdf_plan.specs.ClassTable.Rows.{serial_client_roles, serial_client_queues, blk_roles, blk_queues}
use Rattle.sdf_plan.specs.ClassTable.Rows.{blk_pools, blk_client_roles, blk_client_queues, blk_client_pools}

-- an element, with its texts as names
abbrev pub Element : Type 0
Element = ClassElement Name

-- what the network class uses
abbrev pub net_element : Net → Element
net_element net = record {
  place = At.Net;
  roles = net_roles net;
  driver = Some net.driver;
  queues = net_queues net;
  pools = net_pools net;
}

-- what a client of the network class uses, by its number
abbrev pub net_client_element : Net → ℕ → NetClient → Element
net_client_element net c client = record {
  place = At.NetClient c;
  roles = net_client_roles client;
  driver = None;
  queues = net_client_queues net c client;
  pools = net_client_pools net c client;
}

-- what the serial class uses
abbrev pub serial_element : Serial → Element
serial_element serial = record {
  place = At.Serial;
  roles = serial_roles serial;
  driver = Some serial.driver;
  queues = serial_queues serial;
  pools = [];
}

-- what a client of the serial class uses, by its number
abbrev pub serial_client_element : Serial → ℕ → SerialClient → Element
serial_client_element serial c client = record {
  place = At.SerialClient c;
  roles = serial_client_roles client;
  driver = None;
  queues = serial_client_queues serial c client;
  pools = [];
}

-- what the block class uses
abbrev pub blk_element : Blk → Element
blk_element blk = record {
  place = At.Blk;
  roles = blk_roles blk;
  driver = Some blk.driver;
  queues = blk_queues blk;
  pools = blk_pools blk;
}

-- what a client of the block class uses, by its number
abbrev pub blk_client_element : Blk → ℕ → BlkClient → Element
blk_client_element blk c client = record {
  place = At.BlkClient c;
  roles = blk_client_roles client;
  driver = None;
  queues = blk_client_queues blk c client;
  pools = blk_client_pools blk c client;
}

-- what each client of a class gives, with its number
abbrev pub numbered : {C T : Type 0} → (ℕ → C → T) → ℕ → List C → List T
numbered give c [] = []
numbered give c (client ∷ rest) = give c client ∷ numbered give (c + 1) rest

-- the network class, and then its clients
abbrev pub net_elements : Net → List Element
net_elements net = net_element net ∷ numbered (net_client_element net) 0 net.client

-- the serial class, and then its clients
abbrev pub serial_elements : Serial → List Element
serial_elements serial = serial_element serial
    ∷ numbered (serial_client_element serial) 0 serial.client

-- the block class, and then its clients
abbrev pub blk_elements : Blk → List Element
blk_elements blk = blk_element blk ∷ numbered (blk_client_element blk) 0 blk.client

-- the elements of the classes that a plan has
unfoldable pub table_of : Plan → List Element
table_of plan =
    option_map_or net_elements plan.net [] ++ option_map_or serial_elements plan.serial []
    ++ option_map_or blk_elements plan.blk []

-- this holds of the element at a place, which is that of a class or of a client
abbrev pub OfElement : Plan → Place → (Element → Type 0) → Type 0
OfElement plan At.Net P = IsSomeAnd plan.net (λ net. P (net_element net))
OfElement plan (At.NetClient c) P =
    IsSomeAnd plan.net (λ net. IsSomeAnd (slice_get net.client c)
    (λ client. P (net_client_element net c client)))
OfElement plan At.Serial P = IsSomeAnd plan.serial (λ serial. P (serial_element serial))
OfElement plan (At.SerialClient c) P =
    IsSomeAnd plan.serial (λ serial. IsSomeAnd (slice_get serial.client c)
    (λ client. P (serial_client_element serial c client)))
OfElement plan At.Blk P = IsSomeAnd plan.blk (λ blk. P (blk_element blk))
OfElement plan (At.BlkClient c) P =
    IsSomeAnd plan.blk (λ blk. IsSomeAnd (slice_get blk.client c)
    (λ client. P (blk_client_element blk c client)))
OfElement plan _ P = ⊥

-- the places of the classes and their clients, with which the walk over a plan ends
abbrev pub class_part : Plan → List Place
class_part plan =
    class_places At.Net (λ c. At.NetClient c) (option_map (λ (x : Net). length x.client) plan.net)
    ++ class_places At.Serial (λ c. At.SerialClient c)
    (option_map (λ (x : Serial). length x.client) plan.serial)
    ++ class_places At.Blk (λ c. At.BlkClient c)
    (option_map (λ (x : Blk). length x.client) plan.blk)

-- so many roles, queues and pools
pub record HasRows (e : Element) (a b c : ℕ) : Type 0 where
  pub roles : length e.roles ≡ a
  pub queues : length e.queues ≡ b
  pub pools : length e.pools ≡ c
