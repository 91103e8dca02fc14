use Rattle.std.proofs.Common.{arith}
use Rattle.bus_law.specs.BusOwners.Naming.{bus_naming}
use Rattle.bus_law.specs.BusOwners.Keepers.{pool_size, pool_owner, bus_keepers}
use Rattle.bus_law.proofs.BusOwners.Seating.{keepers_many}
use Rattle.bus_law.proofs.BusOwners.Keeping.{are_spread, have_keepers}
use Rattle.bus_law.proofs.bus_owners.owners_law.Goals as goal

pub returns-clause-owners : goal.returns-clause-owners
returns-clause-owners c = λ bus rows start turns t.
    c.keeper_law.ensures.owners (bus_naming bus.clients) bus.clients rows start turns (bus_keepers bus.clients) t.begins t.tale
    (have_keepers (record { client = c.client_law.ensures; virt = c.virt_law.ensures; driver = c.driver_law.ensures; device = c.bus_law.ensures }) bus rows start turns t
    (c.spread_law.ensures.dealt (pool_size bus.clients) pool_owner (bus_keepers bus.clients) (are_spread bus.clients)))

pub returns-clause-shown : goal.returns-clause-shown
returns-clause-shown c = λ bus rows start turns t.
    c.keeper_law.ensures.shown (bus_naming bus.clients) bus.clients rows start turns (bus_keepers bus.clients) t.begins t.tale
    (have_keepers (record { client = c.client_law.ensures; virt = c.virt_law.ensures; driver = c.driver_law.ensures; device = c.bus_law.ensures }) bus rows start turns t
    (c.spread_law.ensures.dealt (pool_size bus.clients) pool_owner (bus_keepers bus.clients) (are_spread bus.clients)))

pub returns-clause-pools : goal.returns-clause-pools
returns-clause-pools c = λ clients pool lt. c.spread_law.ensures.pools (pool_size clients) pool_owner (bus_keepers clients) (are_spread clients) pool (let m = keepers_many clients in omega (arith, m, lt))
