use Rattle.std.proofs.Common.{◌≡◌, ℕ, zero, suc, ◌+◌, ◌^◌, ◌<◌, ◌≤◌, ◌⊎◌, inl, inr, ⊎_elim, List, length, map, Option, Some, slice_get, refl, ap, ◌∙◌, arith}
use Rattle.std.specs.Option.{IsSomeAnd}
use Rattle.std.proofs.lemmas.Bool.{cases_lt, cases_eq}
use Rattle.std.proofs.lemmas.Nat.{pow_below}
use Rattle.std.proofs.lemmas.Option.{slice_get_within, slice_get-map}
use Rattle.sdf_plan.specs.declared.place.Place.TheVariants as At
use Rattle.sdf_plan.specs.declared.plan.Plan.{Plan}
use Rattle.sdf_plan.specs.declared.plan.Region.{Region}
use Rattle.sdf_plan.specs.declared.plan.Net.{Net}
use Rattle.sdf_plan.specs.declared.plan.NetClient.{NetClient}
use Rattle.sdf_plan.specs.declared.plan.Serial.{Serial}
use Rattle.sdf_plan.specs.declared.plan.SerialClient.{SerialClient}
use Rattle.sdf_plan.specs.declared.plan.Blk.{Blk}
use Rattle.sdf_plan.specs.declared.plan.BlkClient.{BlkClient}
use Rattle.sdf_check.specs.Rules.{IsPageSize, IsMultiple, MeetsEarlier, given_range}
use Rattle.cargo_core.specs.Capacities.{IsCapacity}
use Rattle.sdf_check.specs.ClassRules.{IsClientCount, IsBufferCount, IsBufferSize, IsBadBuffer}
use Rattle.sdf_check.specs.Valid.{Valid}
use Rattle.sdf_check.proofs.SoughtLemmas.{here-some}
use Rattle.region_layout.specs.Bases.{AreGivenApart}
use Rattle.region_layout.specs.Sizes.{IsSmallRegion, IsSmallNet, IsSmallSerial, IsSmallBlk, HasSmallNumbers}
use Rattle.region_layout.proofs.KeptLemmas.{net_keeps, net_client_keeps, serial_keeps, serial_client_keeps, blk_keeps, blk_client_keeps}
use Rattle.region_layout.proofs.WalkLemmas.{kept, region_walked, domain_walked, net_walked, net_client_walked, serial_walked, serial_client_walked, blk_walked, blk_client_walked}

-- what doesn't hold of an element that is there
pub not_of : {T : Type 0} (o : Option T) (x : T) (P : T → Type 0) → o ≡ Some x → (IsSomeAnd o P → ⊥) → P x → ⊥
not_of o x P is bad p = bad (here-some o x P is p)

-- the same of an element of what is there
pub not_of_part : {C T : Type 0} (class : Option C) (x : C) (parts : C → List T) (c : ℕ) (part : T) (P : T → Type 0) → class ≡ Some x → slice_get (parts x) c ≡ Some part
    → (IsSomeAnd class (λ y. IsSomeAnd (slice_get (parts y) c) P) → ⊥) → P part → ⊥
not_of_part class x parts c part P is there bad p =
    bad (here-some class x (λ y. IsSomeAnd (slice_get (parts y) c) P) is (here-some (slice_get (parts x) c) part P there p))

not_above : (a b : ℕ) → (a < b → ⊥) → b ≤ a
not_above a b never = ⊎_elim (λ (less : a < b). absurd (never less)) (λ (most : b ≤ a). most) (cases_lt a b)

is_page_size : (n : ℕ) → ((IsPageSize n → ⊥) → ⊥) → IsPageSize n
is_page_size n h =
    ⊎_elim (λ (small : n ≡ 4096). inl small)
    (λ (never : n ≡ 4096 → ⊥).
    ⊎_elim (λ (large : n ≡ 2097152). inr large)
    (λ (none : n ≡ 2097152 → ⊥). absurd (h (λ is. ⊎_elim (λ (e : n ≡ 4096). never e) (λ (e : n ≡ 2097152). none e) is)))
    (cases_eq n 2097152)) (cases_eq n 4096)

-- a number is one of the first powers of two, or none of them
power_or_none : (n m : ℕ) → ((k : ℕ) × (k ≤ m) × (n ≡ 2 ^ k)) ⊎ (((k : ℕ) × (k ≤ m) × (n ≡ 2 ^ k)) → ⊥)
power_or_none n zero =
    ⊎_elim (λ (e : n ≡ 2 ^ 0). inl (0, omega arith, e))
    (λ (never : n ≡ 2 ^ 0 → ⊥). inr (λ h. let none : h.0 ≡ 0 = omega (arith, h.1) in never (h.2 ∙ ap (λ (j : ℕ). 2 ^ j) none))) (cases_eq n (2 ^ 0))
power_or_none n (suc m) =
    ⊎_elim (λ (e : n ≡ 2 ^ suc m). inl (suc m, omega arith, e))
    (λ (never : n ≡ 2 ^ suc m → ⊥).
    ⊎_elim (λ (h : (k : ℕ) × (k ≤ m) × (n ≡ 2 ^ k)). let most : h.0 ≤ suc m = omega (arith, h.1) in inl (h.0, most, h.2))
    (λ (none : ((k : ℕ) × (k ≤ m) × (n ≡ 2 ^ k)) → ⊥).
    inr (λ h.
    ⊎_elim (λ (same : h.0 ≡ suc m). never (h.2 ∙ ap (λ (j : ℕ). 2 ^ j) same))
    (λ (differs : h.0 ≡ suc m → ⊥). let most : h.0 ≤ m = omega (arith, h.1, differs) in none (h.0, most, h.2)) (cases_eq h.0 (suc m))))
    (power_or_none n m)) (cases_eq n (2 ^ suc m))

pub is_capacity : (n : ℕ) → ((IsCapacity n → ⊥) → ⊥) → IsCapacity n
is_capacity n h = ⊎_elim (λ (is : IsCapacity n). is) (λ (never : IsCapacity n → ⊥). absurd (h never)) (power_or_none n 15)

pub capacity_small : (n : ℕ) → IsCapacity n → n < 2 ^ 32
capacity_small n is = let least : is.0 < 32 = omega (arith, is.1) in rw is.2 (pow_below is.0 32 least)

-- a count of buffers, of which it isn't said that it passes its limit
is_buffer_count : (n : ℕ) → ((IsBufferCount n → ⊥) → ⊥) → IsBufferCount n
is_buffer_count n h =
    (not_above n 1 (λ few. h (λ is. let no : ⊥ = omega (arith, is.0, few) in no)), not_above 512 n (λ many. h (λ is. let no : ⊥ = omega (arith, is.1, many) in no)))

is_client_count : (n : ℕ) → ((IsClientCount n → ⊥) → ⊥) → IsClientCount n
is_client_count n h =
    (not_above n 1 (λ few. h (λ is. let no : ⊥ = omega (arith, is.0, few) in no)), not_above 8 n (λ many. h (λ is. let no : ⊥ = omega (arith, is.1, many) in no)))

buffers_small : (n : ℕ) → IsBufferCount n → n < 2 ^ 32
buffers_small n is = omega (arith, is.1)

-- rules 9 to 11
region_small : (plan : Plan) → Valid plan → (r : ℕ) (region : Region) → slice_get plan.memory_region r ≡ Some region → IsSmallRegion region
region_small plan valid r region is =
    let there = region_walked plan r (slice_get_within plan.memory_region r region is) in
    let sized = not_of (slice_get plan.memory_region r) region
    (λ (x : Region). (x.size ≡ 0) ⊎ (0x40000000 < x.size) ⊎ (IsPageSize x.page_size × (IsMultiple x.size x.page_size → ⊥))) is
    (kept plan 9 (At.Region r) valid (omega arith) (omega arith) there) in
    let paged = is_page_size region.page_size (not_of (slice_get plan.memory_region r) region (λ (x : Region). IsPageSize x.page_size → ⊥) is
    (kept plan 10 (At.Region r) valid (omega arith) (omega arith) there)) in
    let given = not_of (slice_get plan.memory_region r) region
    (λ (x : Region). IsSomeAnd x.phys_addr (λ base. (IsMultiple base x.page_size → ⊥) ⊎ (2 ^ 40 < base + x.size))) is
    (kept plan 11 (At.Region r) valid (omega arith) (omega arith) there) in
    record {
      some = not_above region.size 1 (λ none. sized (inl (let zero : region.size ≡ 0 = omega (arith, none) in zero)));
      size = not_above (2 ^ 30) region.size (λ large. sized (inr (inl large)));
      page = ⊎_elim (λ (e : region.page_size ≡ 4096). let goal : 1 ≤ region.page_size = omega (arith, e) in goal)
          (λ (e : region.page_size ≡ 2097152). let goal : 1 ≤ region.page_size = omega (arith, e) in goal) paged;
      page_size = ⊎_elim (λ (e : region.page_size ≡ 4096). let goal : region.page_size ≤ 2 ^ 21 = omega (arith, e) in goal)
          (λ (e : region.page_size ≡ 2097152). let goal : region.page_size ≤ 2 ^ 21 = omega (arith, e) in goal) paged;
      given = λ base at. not_above (2 ^ 40) (base + region.size)
          (λ high. given (here-some region.phys_addr base (λ b. (IsMultiple b region.page_size → ⊥) ⊎ (2 ^ 40 < b + region.size)) at (inr high)));
    }

-- rule 30 on regions, and rule 6
few_regions : (plan : Plan) → Valid plan → length plan.memory_region ≤ 256
few_regions plan valid =
    not_above 256 (length plan.memory_region) (λ many. kept plan 30 (At.Region 256) valid (omega arith) (omega arith) (region_walked plan 256 many) (omega arith, many))

few_domains : (plan : Plan) → Valid plan → length plan.protection_domain ≤ 63
few_domains plan valid =
    not_above 63 (length plan.protection_domain) (λ many. kept plan 6 (At.Domain 63) valid (omega arith) (omega arith) (domain_walked plan 63 many) (omega arith, many))

-- rule 12
meets : (at end other last : ℕ) → at < end → other < last → other < end → at < last → (address : ℕ) × (at ≤ address) × (address < end) × (other ≤ address) × (address < last)
meets at end other last some more below above =
    ⊎_elim (λ (first : at < other). let low : at ≤ other = omega (arith, first) in let same : other ≤ other = omega arith in (other, low, below, same, more))
    (λ (second : other ≤ at). let same : at ≤ at = omega arith in (at, same, some, second, above)) (cases_lt at other)

given_at : (regions : List Region) (k : ℕ) (region : Region) (base : ℕ) → slice_get regions k ≡ Some region → region.phys_addr ≡ Some base
    → slice_get (map given_range regions) k ≡ Some (Some (base, base + region.size))
given_at regions k region base is given = slice_get-map given_range regions k ∙ rw (is, given) refl

pub given_apart : (plan : Plan) → Valid plan → AreGivenApart plan.memory_region
given_apart plan valid a b first second at other below there here given set =
    let apart : MeetsEarlier (map given_range plan.memory_region) b → ⊥ =
    kept plan 12 (At.Region b) valid (omega arith) (omega arith) (region_walked plan b (slice_get_within plan.memory_region b second here)) in
    let some : at < at + first.size = (let small = (region_small plan valid a first there).some in omega (arith, small)) in
    let more : other < other + second.size = (let small = (region_small plan valid b second here).some in omega (arith, small)) in
    ⊎_elim (λ (low : other < at + first.size).
    ⊎_elim (λ (high : at < other + second.size).
    absurd (apart (
      a,
      (at, at + first.size),
      (other, other + second.size),
      below,
      given_at plan.memory_region a first at there given,
      given_at plan.memory_region b second other here set,
      meets at (at + first.size) other (other + second.size) some more low high,
    )))
    (λ (after : other + second.size ≤ at). inr after) (cases_lt at (other + second.size)))
    (λ (before : at + first.size ≤ other). inl before) (cases_lt other (at + first.size))

-- rule 25
pub net_capacities : (plan : Plan) (net : Net) → Valid plan → plan.net ≡ Some net → IsCapacity net.rx_capacity × IsCapacity net.tx_capacity
net_capacities plan net valid is =
    let fine = net_keeps plan 25 valid (omega arith) (omega arith) net is in
    (is_capacity net.rx_capacity (λ lacks. fine (0, lacks)), is_capacity net.tx_capacity (λ lacks. fine (2, lacks)))

pub net_client_capacities : (plan : Plan) (net : Net) (c : ℕ) (client : NetClient) → Valid plan → plan.net ≡ Some net → slice_get net.client c ≡ Some client
    → IsCapacity client.rx_capacity × IsCapacity client.tx_capacity
net_client_capacities plan net c client valid is there =
    let fine = net_client_keeps plan 25 valid (omega arith) (omega arith) net c client is there in
    (is_capacity client.rx_capacity (λ lacks. fine (2, lacks)), is_capacity client.tx_capacity (λ lacks. fine (4, lacks)))

pub serial_capacities : (plan : Plan) (serial : Serial) → Valid plan → plan.serial ≡ Some serial → IsCapacity serial.rx_capacity × IsCapacity serial.tx_capacity
serial_capacities plan serial valid is =
    let fine = serial_keeps plan 25 valid (omega arith) (omega arith) serial is in
    (is_capacity serial.rx_capacity (λ lacks. fine (0, lacks)), is_capacity serial.tx_capacity (λ lacks. fine (1, lacks)))

pub serial_client_capacities : (plan : Plan) (serial : Serial) (c : ℕ) (client : SerialClient) → Valid plan → plan.serial ≡ Some serial → slice_get serial.client c ≡ Some client
    → IsCapacity client.rx_capacity × IsCapacity client.tx_capacity
serial_client_capacities plan serial c client valid is there =
    let fine = serial_client_keeps plan 25 valid (omega arith) (omega arith) serial c client is there in
    (is_capacity client.rx_capacity (λ lacks. fine (0, lacks)), is_capacity client.tx_capacity (λ lacks. fine (1, lacks)))

pub blk_capacity : (plan : Plan) (blk : Blk) → Valid plan → plan.blk ≡ Some blk → IsCapacity blk.capacity
blk_capacity plan blk valid is = is_capacity blk.capacity (λ lacks. blk_keeps plan 25 valid (omega arith) (omega arith) blk is (0, lacks))

pub blk_client_capacity : (plan : Plan) (blk : Blk) (c : ℕ) (client : BlkClient) → Valid plan → plan.blk ≡ Some blk → slice_get blk.client c ≡ Some client → IsCapacity client.capacity
blk_client_capacity plan blk c client valid is there =
    is_capacity client.capacity (λ lacks. blk_client_keeps plan 25 valid (omega arith) (omega arith) blk c client is there (0, lacks))

-- rule 30 on clients and buffers
pub net_counts : (plan : Plan) (net : Net) → Valid plan → plan.net ≡ Some net → IsClientCount (length net.client) × IsBufferCount net.rx_buffers
net_counts plan net valid is =
    let fine = not_of plan.net net (λ (x : Net). (IsClientCount (length x.client) → ⊥) ⊎ (IsBufferCount x.rx_buffers → ⊥)) is
    (kept plan 30 At.Net valid (omega arith) (omega arith) (net_walked plan net is)) in
    (is_client_count (length net.client) (λ lacks. fine (inl lacks)), is_buffer_count net.rx_buffers (λ lacks. fine (inr lacks)))

pub net_client_counts : (plan : Plan) (net : Net) (c : ℕ) (client : NetClient) → Valid plan → plan.net ≡ Some net → slice_get net.client c ≡ Some client
    → IsBufferCount client.rx_buffers × IsBufferCount client.tx_buffers
net_client_counts plan net c client valid is there =
    let fine = not_of_part plan.net net (λ (x : Net). x.client) c client (λ (x : NetClient). (IsBufferCount x.rx_buffers → ⊥) ⊎ (IsBufferCount x.tx_buffers → ⊥)) is there
    (kept plan 30 (At.NetClient c) valid (omega arith) (omega arith) (net_client_walked plan net c is (slice_get_within net.client c client there))) in
    (is_buffer_count client.rx_buffers (λ lacks. fine (inl lacks)), is_buffer_count client.tx_buffers (λ lacks. fine (inr lacks)))

pub serial_counts : (plan : Plan) (serial : Serial) → Valid plan → plan.serial ≡ Some serial → IsClientCount (length serial.client)
serial_counts plan serial valid is =
    is_client_count (length serial.client) (not_of plan.serial serial (λ (x : Serial). IsClientCount (length x.client) → ⊥) is
    (kept plan 30 At.Serial valid (omega arith) (omega arith) (serial_walked plan serial is)))

pub blk_counts : (plan : Plan) (blk : Blk) → Valid plan → plan.blk ≡ Some blk → IsClientCount (length blk.client)
blk_counts plan blk valid is =
    is_client_count (length blk.client) (not_of plan.blk blk (λ (x : Blk). IsClientCount (length x.client) → ⊥) is
    (kept plan 30 At.Blk valid (omega arith) (omega arith) (blk_walked plan blk is)))

pub blk_client_counts : (plan : Plan) (blk : Blk) (c : ℕ) (client : BlkClient) → Valid plan → plan.blk ≡ Some blk → slice_get blk.client c ≡ Some client → IsBufferCount client.buffers
blk_client_counts plan blk c client valid is there =
    is_buffer_count client.buffers (not_of_part plan.blk blk (λ (x : Blk). x.client) c client (λ (x : BlkClient). IsBufferCount x.buffers → ⊥) is there
    (kept plan 30 (At.BlkClient c) valid (omega arith) (omega arith) (blk_client_walked plan blk c is (slice_get_within blk.client c client there))))

-- rule 31
pub net_frames : (plan : Plan) (net : Net) → Valid plan → plan.net ≡ Some net → (1514 ≤ net.max_frame) × (net.max_frame ≤ 9014)
net_frames plan net valid is =
    let fine = not_of plan.net net (λ (x : Net). (x.max_frame < 1514) ⊎ (9014 < x.max_frame)) is
    (kept plan 31 At.Net valid (omega arith) (omega arith) (net_walked plan net is)) in
    (not_above net.max_frame 1514 (λ low. fine (inl low)), not_above 9014 net.max_frame (λ high. fine (inr high)))

-- rule 32
is_buffer_size : (n : ℕ) → ((IsBufferSize n → ⊥) → ⊥) → IsBufferSize n
is_buffer_size n h = (
  is_capacity n (λ never. h (λ is. never is.0)),
  not_above n 2048 (λ low. h (λ is. let no : ⊥ = omega (arith, is.1, low) in no)),
  not_above 16384 n (λ high. h (λ is. let no : ⊥ = omega (arith, is.2, high) in no)),
)

-- a buffer of which it isn't said that it is bad
fine_buffer : (longest size : ℕ) → (IsBadBuffer longest size → ⊥) → IsBufferSize size × (longest ≤ size)
fine_buffer longest size fine = (is_buffer_size size (λ lacks. fine (inl lacks)), not_above size longest (λ less. fine (inr less)))

pub net_buffer : (plan : Plan) (net : Net) → Valid plan → plan.net ≡ Some net → IsBufferSize net.rx_buffer_size × (net.max_frame ≤ net.rx_buffer_size)
net_buffer plan net valid is =
    fine_buffer net.max_frame net.rx_buffer_size (not_of plan.net net (λ (x : Net). IsBadBuffer x.max_frame x.rx_buffer_size) is
    (kept plan 32 At.Net valid (omega arith) (omega arith) (net_walked plan net is)))

-- the two buffers of a client
pub net_client_buffers : (plan : Plan) (net : Net) (c : ℕ) (client : NetClient) → Valid plan → plan.net ≡ Some net → slice_get net.client c ≡ Some client
    → (IsBufferSize client.rx_buffer_size × (net.max_frame ≤ client.rx_buffer_size)) × (IsBufferSize client.tx_buffer_size × (net.max_frame ≤ client.tx_buffer_size))
net_client_buffers plan net c client valid is there =
    let bad : Net → NetClient → Type 0 = λ x y. IsBadBuffer x.max_frame y.rx_buffer_size ⊎ IsBadBuffer x.max_frame y.tx_buffer_size in
    let kept_here = kept plan 32 (At.NetClient c) valid (omega arith) (omega arith) (net_client_walked plan net c is (slice_get_within net.client c client there)) in
    let fine : bad net client → ⊥ = λ p. kept_here (here-some plan.net net (λ (x : Net). IsSomeAnd (slice_get x.client c) (bad x)) is
    (here-some (slice_get net.client c) client (bad net) there p)) in
    (fine_buffer net.max_frame client.rx_buffer_size (λ b. fine (inl b)), fine_buffer net.max_frame client.tx_buffer_size (λ b. fine (inr b)))

size_small : (n : ℕ) → IsBufferSize n → n < 2 ^ 32
size_small n is = omega (arith, is.2)

net_small : (plan : Plan) → Valid plan → (net : Net) → plan.net ≡ Some net → IsSmallNet net
net_small plan valid net is =
    let caps = net_capacities plan net valid is in
    record {
      rx_capacity = capacity_small net.rx_capacity caps.0;
      tx_capacity = capacity_small net.tx_capacity caps.1;
      rx_buffers = buffers_small net.rx_buffers (net_counts plan net valid is).1;
      rx_buffer_size = size_small net.rx_buffer_size (net_buffer plan net valid is).0;
      clients = λ c client there.
          let own = net_client_capacities plan net c client valid is there in
          let counts = net_client_counts plan net c client valid is there in
          let sizes = net_client_buffers plan net c client valid is there in
          record {
            rx_capacity = capacity_small client.rx_capacity own.0;
            tx_capacity = capacity_small client.tx_capacity own.1;
            rx_buffers = buffers_small client.rx_buffers counts.0;
            tx_buffers = buffers_small client.tx_buffers counts.1;
            rx_buffer_size = size_small client.rx_buffer_size sizes.0.0;
            tx_buffer_size = size_small client.tx_buffer_size sizes.1.0;
          };
    }

serial_small : (plan : Plan) → Valid plan → (serial : Serial) → plan.serial ≡ Some serial → IsSmallSerial serial
serial_small plan valid serial is =
    let caps = serial_capacities plan serial valid is in
    record {
      rx_capacity = capacity_small serial.rx_capacity caps.0;
      tx_capacity = capacity_small serial.tx_capacity caps.1;
      clients = λ c client there.
          let own = serial_client_capacities plan serial c client valid is there in
          record { rx_capacity = capacity_small client.rx_capacity own.0; tx_capacity = capacity_small client.tx_capacity own.1 };
    }

blk_small : (plan : Plan) → Valid plan → (blk : Blk) → plan.blk ≡ Some blk → IsSmallBlk blk
blk_small plan valid blk is = record {
  capacity = capacity_small blk.capacity (blk_capacity plan blk valid is);
  clients = λ c client there. record {
    capacity = capacity_small client.capacity (blk_client_capacity plan blk c client valid is there);
    buffers = buffers_small client.buffers (blk_client_counts plan blk c client valid is there);
  };
}

-- the rules keep the numbers of a plan small
pub small_numbers : (plan : Plan) → Valid plan → HasSmallNumbers plan
small_numbers plan valid = record {
  domains = few_domains plan valid;
  regions = record { few = few_regions plan valid; each = region_small plan valid };
  net = net_small plan valid;
  serial = serial_small plan valid;
  blk = blk_small plan valid;
}
