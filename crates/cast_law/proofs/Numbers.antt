-- The ends at the queues of clients, as parts and jobs have them.
use Rattle.std.proofs.Common.{◌≡◌, ◌+◌, ◌*◌, ◌<◌, ◌++◌, ℕ, zero, suc, Option, Some, None, List, [], ◌∷◌, length, map, flat_map, slice_get, refl, ap, ap₂, arith}
use Rattle.std.specs.Option.{option_map_or}
use Rattle.frame_core.specs.declared.mac.Mac.{Mac}
use Rattle.sdf_plan.specs.declared.plan.Plan.{Plan}
use Rattle.sdf_plan.specs.declared.plan.Net.{Net}
use Rattle.sdf_plan.specs.declared.plan.Serial.{Serial}
use Rattle.sdf_plan.specs.declared.plan.Blk.{Blk}
use Rattle.trace_text.specs.Events.{net_clients, serial_clients, blk_clients}
use Rattle.play_core.specs.Wants.{intake, outlet}
use Rattle.play_core.proofs.Lists.{some_is}
use Rattle.net_law.specs.Owners.Names.{ClientPools}
use Rattle.owner_law.specs.Pools.Places.{PoolAt}
use Rattle.net_law.specs.Parts.Parts.{Lessee}
use Rattle.net_law.specs.Parts.Numbers.{client_first, lessees_from}
use Rattle.net_law.specs.Parts.Table.{lessee_ends}
use Rattle.net_law.specs.TxParts.Parts.{Shipper}
use Rattle.net_law.specs.TxParts.Table.{shipper_ends}
use Rattle.net_law.specs.TxParts.Numbers.{shippers_from}
use Rattle.cast_core.specs.Sources.{every_second}
use Rattle.blk_law.specs.Sheets.Parts.{Sharer}
use Rattle.blk_law.specs.Sheets.Numbers.{sharers_from}
use Rattle.blk_law.specs.Sheets.Table.{sharer_ends}
use Rattle.layout_laws.specs.Seats.Ends.{net_count, serial_count, ends_from, lease_ends, send_ends, given_end, said_end, blk_count, ask_ends}

pub clients_counted : (plan : Plan) → length (net_clients plan) ≡ net_count plan
clients_counted plan = go plan.net
  where
    go : (o : Option Net) → length (option_map_or (λ (net : Net). net.client) o []) ≡ option_map_or (λ (net : Net). length net.client) o 0
    go None = refl
    go (Some net) = refl

pub speakers_counted : (plan : Plan) → length (serial_clients plan) ≡ serial_count plan
speakers_counted plan = go plan.serial
  where
    go : (o : Option Serial) → length (option_map_or (λ (serial : Serial). serial.client) o []) ≡ option_map_or (λ (serial : Serial). length serial.client) o 0
    go None = refl
    go (Some serial) = refl

pub askers_counted : (plan : Plan) → length (blk_clients plan) ≡ blk_count plan
askers_counted plan = go plan.blk
  where
    go : (o : Option Blk) → length (option_map_or (λ (blk : Blk). blk.client) o []) ≡ option_map_or (λ (blk : Blk). length blk.client) o 0
    go None = refl
    go (Some blk) = refl

pub asks_end : (first k : ℕ) (entries : List ℕ) (pools : List PoolAt) → length pools ≡ length entries → flat_map sharer_ends (sharers_from first k entries pools) ≡ ends_from (ask_ends first) k (length entries)
asks_end first k [] pools same = refl
asks_end first k (entry ∷ entries) [] same = absurd (omega (arith, same))
asks_end first k (entry ∷ entries) (pool ∷ pools) same = ap (λ ends. ask_ends first k ++ ends) (asks_end first (k + 1) entries pools (omega (arith, same)))

pub leases_end : (k : ℕ) (macs : List Mac) → flat_map lessee_ends (lessees_from 0 k macs) ≡ ends_from lease_ends k (length macs)
leases_end k [] = refl
leases_end k (mac ∷ macs) = ap (λ ends. lease_ends k ++ ends) (leases_end (k + 1) macs)

pub sends_end : (most k : ℕ) (pools : List ClientPools) → flat_map shipper_ends (shippers_from 0 most k pools) ≡ ends_from send_ends k (length pools)
sends_end most k [] = refl
sends_end most k (q ∷ pools) = ap (λ ends. send_ends k ++ ends) (sends_end most (k + 1) pools)

pub given_ends : (first k a count : ℕ) → a ≡ first + 4 + 2 * k → map outlet (every_second a count) ≡ ends_from (given_end first) k count
given_ends first k a zero is = refl
given_ends first k a (suc count) is = ap₂ (λ n ends. outlet n ∷ ends) is (given_ends first (k + 1) (a + 2) count (omega (arith, is)))

pub said_ends : (first k a count : ℕ) → a ≡ first + 5 + 2 * k → map intake (every_second a count) ≡ ends_from (said_end first) k count
said_ends first k a zero is = refl
said_ends first k a (suc count) is = ap₂ (λ n ends. intake n ∷ ends) is (said_ends first (k + 1) (a + 2) count (omega (arith, is)))

-- the queues of a client among those of all
pub lessee_numbers : (k : ℕ) (macs : List Mac) (c : ℕ) (x : Lessee) → slice_get (lessees_from 0 k macs) c ≡ Some x → (c < length macs) × (x.active ≡ 8 + 6 * (k + c)) × (x.free ≡ 9 + 6 * (k + c))
lessee_numbers k [] c x at = absurd cc
lessee_numbers k (mac ∷ macs) zero x at =
    let is : record { active = client_first 0 k; free = client_first 0 k + 1; mac = mac } ≡ x = some_is at in
    let a : 8 + 6 * k ≡ x.active = ap (λ (y : Lessee). y.active) is in
    let f : 8 + 6 * k + 1 ≡ x.free = ap (λ (y : Lessee). y.free) is in
    (omega arith, omega (arith, a), omega (arith, f))
lessee_numbers k (mac ∷ macs) (suc c) x at = let h = lessee_numbers (k + 1) macs c x at in let lt = h.0 in let a = h.1 in let f = h.2 in (omega (arith, lt), omega (arith, a), omega (arith, f))

pub shipper_numbers : (most k : ℕ) (pools : List ClientPools) (c : ℕ) (x : Shipper) → slice_get (shippers_from 0 most k pools) c ≡ Some x → (c < length pools) × (x.active ≡ 12 + 6 * (k + c)) × (x.free ≡ 13 + 6 * (k + c))
shipper_numbers most k [] c x at = absurd cc
shipper_numbers most k (q ∷ pools) zero x at =
    let is : record { active = client_first 0 k + 4; free = client_first 0 k + 5; pool = q.tx; most = most } ≡ x = some_is at in
    let a : 8 + 6 * k + 4 ≡ x.active = ap (λ (y : Shipper). y.active) is in
    let f : 8 + 6 * k + 5 ≡ x.free = ap (λ (y : Shipper). y.free) is in
    (omega arith, omega (arith, a), omega (arith, f))
shipper_numbers most k (q ∷ pools) (suc c) x at = let h = shipper_numbers most (k + 1) pools c x at in let lt = h.0 in let a = h.1 in let f = h.2 in (omega (arith, lt), omega (arith, a), omega (arith, f))

pub second_get : (first count k m : ℕ) → slice_get (every_second first count) k ≡ Some m → (k < count) × (m ≡ first + 2 * k)
second_get first zero k m h = absurd cc
second_get first (suc count) zero m h = let e : first ≡ m = some_is h in (omega arith, omega (arith, e))
second_get first (suc count) (suc k) m h = let r = second_get (first + 2) count k m h in let lt = r.0 in let e = r.1 in (omega (arith, lt), omega (arith, e))

pub second_apart : (first count k j m : ℕ) → slice_get (every_second first count) k ≡ Some m → slice_get (every_second first count) j ≡ Some m → k ≡ j
second_apart first count k j m p q = let a = (second_get first count k m p).1 in let b = (second_get first count j m q).1 in omega (arith, a, b)

pub sharer_numbers : (first k : ℕ) (entries : List ℕ) (pools : List PoolAt) (c : ℕ) (x : Sharer) → slice_get (sharers_from first k entries pools) c ≡ Some x → (x.req ≡ first + 4 + 2 * (k + c)) × (x.resp ≡ first + 5 + 2 * (k + c))
sharer_numbers first k [] pools c x at = absurd cc
sharer_numbers first k (entry ∷ entries) [] c x at = absurd cc
sharer_numbers first k (entry ∷ entries) (pool ∷ pools) zero x at =
    let is : record { req = first + 4 + 2 * k; resp = first + 5 + 2 * k; entry = entry; pool = pool } ≡ x = some_is at in
    let a : first + 4 + 2 * k ≡ x.req = ap (λ (y : Sharer). y.req) is in
    let f : first + 5 + 2 * k ≡ x.resp = ap (λ (y : Sharer). y.resp) is in
    (omega (arith, a), omega (arith, f))
sharer_numbers first k (entry ∷ entries) (pool ∷ pools) (suc c) x at = let h = sharer_numbers first (k + 1) entries pools c x at in let a = h.0 in let f = h.1 in (omega (arith, a), omega (arith, f))
