-- Who has an address: the client of the first claim of it that the virtualiser took.
use Rattle.std.specs.Prelude.{◌≡◌, ℕ, ◌==◌, ◌&&◌, Bool, true, false, if◌then◌else◌, List, [], ◌∷◌, Option}
use Rattle.std.specs.Prelude.{Some, None, map}
use Rattle.std.specs.List.{filter}
use Rattle.i2c_text.specs.declared.bus.BusAsk.{BusAsk}
use Rattle.i2c_text.specs.declared.bus.BusAsk.TheVariants as Asks
use Rattle.i2c_virt.specs.declared.i2c_kit.alone.Request.{Request}
use Rattle.i2c_virt.specs.I2cKit.Devices.{address_of}

-- whether a request is a claim
abbrev pub is_claim : BusAsk → Bool
is_claim (Asks.Claim a) = true
is_claim (Asks.Read a n) = false
is_claim (Asks.Write a bytes) = false

-- whether a request claims an address
abbrev pub claims : BusAsk → ℕ → Bool
claims ask address = is_claim ask && address_of ask == address

-- the client that has an address after these requests were taken: that of the first claim of it
abbrev pub owner_after : List Request → ℕ → Option ℕ
owner_after [] address = None
owner_after (r ∷ more) address =
    if claims r.ask address then Some r.client else owner_after more address

-- the address was granted to the client
abbrev pub IsGranted : (client : ℕ) → List Request → (address : ℕ) → Type 0
IsGranted client taken address = owner_after taken address ≡ Some client

-- whether no other client has it
abbrev pub is_free_for : Option ℕ → (client : ℕ) → Bool
is_free_for None client = true
is_free_for (Some c) client = c == client

-- whether this client has it
abbrev pub is_owner : Option ℕ → (client : ℕ) → Bool
is_owner None client = false
is_owner (Some c) client = c == client

-- the addresses that were granted to a client: of those that requests name, the ones whose first
-- claim is the client's
abbrev pub granted_to : (client : ℕ) → List Request → List ℕ
granted_to client taken =
    filter (λ a. is_owner (owner_after taken a) client)
    (map (λ (r : Request). address_of r.ask) taken)
