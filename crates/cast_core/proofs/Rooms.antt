-- The pools of a valid plan are there, apart from each other, and end low.
use Rattle.std.proofs.Common.{subst, ◌≡◌, ◌⊎◌, ◌+◌, ◌-◌, ◌*◌, ◌<◌, ◌≤◌, ◌^◌, ℕ, zero, suc, max, fold, true, Option, Some, None, List, [], ◌∷◌, codes, length, map, slice_get, refl, sym, ap, arith, inl, inr, ◌∙◌, ap₂, ◌++◌}
use Rattle.std.specs.List.{All}
use Rattle.std.specs.Option.{option_map_or}
use Rattle.std.proofs.Math.Nat.{div-mul-le_self, mul_comm}
use Rattle.std.proofs.lemmas.Nat.{mul-le}
use Rattle.std.proofs.lemmas.Option.{slice_get_within}
use Rattle.std.proofs.lemmas.List.Elements.{All-nil, All-cons}
use Rattle.std.proofs.lemmas.Bool.{cases_Bool, and_parts, leb-true, ltb-true}
use Rattle.cargo_core.specs.Ranges.{IsApart, is_within}
use Rattle.wire_core.specs.declared.names.PoolRow.{PoolRow}
use Rattle.sdf_plan.specs.declared.plan.Plan.{Plan}
use Rattle.sdf_plan.specs.declared.plan.Region.{Region}
use Rattle.sdf_plan.specs.declared.plan.Net.{Net}
use Rattle.sdf_plan.specs.declared.plan.NetClient.{NetClient}
use Rattle.sdf_plan.specs.declared.plan.Blk.{Blk}
use Rattle.sdf_plan.specs.declared.plan.BlkClient.{BlkClient}
use Rattle.sdf_check.specs.ClassRules.{IsBufferSize}
use Rattle.sdf_check.specs.Valid.{Valid}
use Rattle.trace_text.specs.Limits.{frame_most}
use Rattle.sdf_check.proofs.ListLemmas.{get-right, get-either}
use Rattle.region_layout.specs.Bases.{given_end, floor_of, round_up, base_at, free_after, bases_from, bases_of}
use Rattle.region_layout.specs.Sizes.{IsSmallRegion}
use Rattle.sdf_plan.specs.ClassTable.Rows.{blk_buffer}
use Rattle.region_layout.specs.Rows.{queues_of, pool_in, net_client_pools, net_pools, blk_client_pools, blk_pools, pools_of, client_name, each_client}
use Rattle.region_layout.proofs.SameLemmas.{pools_same}
use Rattle.region_layout.proofs.ValidLemmas.{small_numbers, net_buffer, net_client_buffers}
use Rattle.layout_laws.specs.Sound.{IsSoundPool, queue_range, pool_range}
use Rattle.layout_laws.proofs.Lists.{option_cases, there_is, each-at, all-at, all-clients, all-class}
use Rattle.layout_laws.proofs.Pools.{pools_sound}
use Rattle.layout_laws.proofs.Rooms.{has_rooms}
use Rattle.layout_laws.proofs.Spreads.{rows_apart}
use Rattle.play_core.proofs.Lists.{some_is, map_get}
use Rattle.cast_core.specs.Sources.{pool_at, first_blk_pool}
use Rattle.cast_core.specs.Making.{HasPool, HasPools, HasBlkPools, HasNetPool}
use Rattle.cast_core.proofs.Listing.{each_count}

up_near : (number size : ℕ) → 1 ≤ size → round_up number size ≤ number + size
up_near number size some = let h = div-mul-le_self (number + (size - 1)) size in omega (arith, h, some)

base_near : (free : ℕ) (x : Region) → IsSmallRegion x → (base_at free x ≤ 2 ^ 40) ⊎ (base_at free x ≤ free + 2 ^ 21)
base_near free x small = elim (option_cases x.phys_addr) [
  | inl none ↦ rw none (let up = up_near free x.page_size small.page in let most = small.page_size in inr (omega (arith, up, most)))
  | inr given ↦ rw given.1 (let low = small.given given.0 given.1 in inl (omega (arith, low)))
]

free_near : (free : ℕ) (x : Region) → IsSmallRegion x → free_after free x ≤ free + 2 ^ 31
free_near free x small = elim (option_cases x.phys_addr) [
  | inl none ↦ rw none (let up = up_near free x.page_size small.page in let most = small.page_size in let size = small.size in omega (arith, up, most, size))
  | inr given ↦ rw given.1 (omega arith)
]

bases_low : (regions : List Region) (free most : ℕ) → ((k : ℕ) (x : Region) → slice_get regions k ≡ Some x → IsSmallRegion x) → free + 2 ^ 31 * length regions ≤ most → 2 ^ 40 ≤ most
    → (r base : ℕ) → slice_get (bases_from free regions) r ≡ Some base → base ≤ most
bases_low [] free most each room enough r base at = absurd cc
bases_low (x ∷ rest) free most each room enough zero base at =
    let is : base_at free x ≡ base = some_is at in
    elim (base_near free x (each 0 x refl)) [
      | inl h ↦ omega (arith, h, is, enough)
      | inr h ↦ omega (arith, h, is, room)
    ]
bases_low (x ∷ rest) free most each room enough (suc r) base at =
    bases_low rest (free_after free x) most (λ k. each (suc k)) (let near = free_near free x (each 0 x refl) in omega (arith, near, room)) enough r base at

floor_low : (regions : List Region) (low : ℕ) → low ≤ 2 ^ 40 → ((k : ℕ) (x : Region) → slice_get regions k ≡ Some x → IsSmallRegion x) → fold (λ n region. max n (given_end region)) low regions ≤ 2 ^ 40
floor_low [] low fine each = fine
floor_low (x ∷ rest) low fine each =
    let end : given_end x ≤ 2 ^ 40 = elim (option_cases x.phys_addr) [
      | inl none ↦ rw none (omega arith)
      | inr given ↦ rw given.1 (let h = (each 0 x refl).given given.0 given.1 in h)
    ] in
    floor_low rest (max low (given_end x)) (omega (arith, fine, end)) (λ k. each (suc k))

-- each region's base is at most 2^41
pub base_low : (plan : Plan) → Valid plan → (r base : ℕ) → slice_get (bases_of plan.memory_region) r ≡ Some base → base ≤ 2 ^ 41
unfolding bases_of
base_low plan valid r base at =
    let small = (small_numbers plan valid).regions in
    let few = small.few in
    let floor : floor_of plan.memory_region ≤ 2 ^ 40 = floor_low plan.memory_region 0x40000000 (omega arith) small.each in
    bases_low plan.memory_region (floor_of plan.memory_region) (2 ^ 41) small.each (omega (arith, few, floor)) (omega arith) r base at

abbrev HasSize : ℕ → PoolRow → Type 0
HasSize size row = row.size ≡ size

-- a network buffer takes the longest frame, and is one of 16,384 bytes at most
pub record TakesFrames (plan : Plan) (row : PoolRow) : Type 0 where
  pub fits : frame_most plan ≤ row.size
  pub some : 1 ≤ row.size
  pub few : row.size ≤ 16384

most_is : (plan : Plan) (net : Net) → plan.net ≡ Some net → frame_most plan ≡ net.max_frame
unfolding frame_most
most_is plan net is = ap (λ (o : Option Net). option_map_or (λ (x : Net). x.max_frame) o 0) is

takes_frames : (plan : Plan) (net : Net) (row : PoolRow) → plan.net ≡ Some net → IsBufferSize row.size × (net.max_frame ≤ row.size) → TakesFrames plan row
takes_frames plan net row is fine =
    let most = most_is plan net is in
    record { fits = omega (arith, most, fine.1); some = omega (arith, fine.0.1); few = omega (arith, fine.0.2) }

net_sized : (plan : Plan) (net : Net) → Valid plan → plan.net ≡ Some net → All (TakesFrames plan) (net_pools plan net)
unfolding net_pools net_client_pools pool_in
net_sized plan net valid is =
    let first = pool_in plan net.rx_region (codes "net.rx") net.rx_buffers net.rx_buffer_size in
    let rx : ℕ → NetClient → PoolRow = λ k client. pool_in plan client.rx_region (client_name (codes "net.") k (codes ".rx")) client.rx_buffers client.rx_buffer_size in
    let tx : ℕ → NetClient → PoolRow = λ k client. pool_in plan client.tx_region (client_name (codes "net.") k (codes ".tx")) client.tx_buffers client.tx_buffer_size in
    All-cons (TakesFrames plan) first (each_client (net_client_pools plan) 0 net.client) (takes_frames plan net first is (net_buffer plan net valid is))
    (all-clients (TakesFrames plan) (net_client_pools plan) 0 net.client (λ k (client : NetClient) there.
    let sizes = net_client_buffers plan net k client valid is there in
    All-cons (TakesFrames plan) (rx (0 + k) client) (tx (0 + k) client ∷ []) (takes_frames plan net (rx (0 + k) client) is sizes.0)
    (All-cons (TakesFrames plan) (tx (0 + k) client) [] (takes_frames plan net (tx (0 + k) client) is sizes.1) (All-nil (TakesFrames plan)))))

blk_sized : (plan : Plan) (blk : Blk) → All (HasSize 32768) (blk_pools plan blk)
unfolding blk_pools blk_client_pools pool_in
blk_sized plan blk =
    let first = pool_in plan blk.region (codes "blk") 1 blk_buffer in
    let one : ℕ → BlkClient → PoolRow = λ k client. pool_in plan client.region (client_name (codes "blk.") k []) client.buffers blk_buffer in
    All-cons (HasSize 32768) first (each_client (blk_client_pools plan) 0 blk.client) refl
    (all-clients (HasSize 32768) (blk_client_pools plan) 0 blk.client (λ k (client : BlkClient) there. All-cons (HasSize 32768) (one (0 + k) client) [] refl (All-nil (HasSize 32768))))

client_pool_count : (plan : Plan) (c : ℕ) (x : NetClient) → length (net_client_pools plan c x) ≡ 2
unfolding net_client_pools
client_pool_count plan c x = refl

blk_pool_count : (plan : Plan) (c : ℕ) (x : BlkClient) → length (blk_client_pools plan c x) ≡ 1
unfolding blk_client_pools
blk_pool_count plan c x = refl

-- how many pools the network has
net_pools_long : (plan : Plan) (o : Option Net) → length (option_map_or (net_pools plan) o []) ≡ option_map_or (λ (net : Net). 1 + 2 * length net.client) o 0
unfolding net_pools
net_pools_long plan None = refl
net_pools_long plan (Some net) =
    let each : length (each_client (net_client_pools plan) 0 net.client) ≡ 2 * length net.client = each_count (net_client_pools plan) 2 (λ k. 2 * k) (omega arith) (λ k. omega arith) (client_pool_count plan) 0 net.client in
    omega (arith, each)

module _ (plan : Plan) where
  abbrev net_part : List PoolRow
  net_part = option_map_or (net_pools plan) plan.net []

  abbrev blk_part : List PoolRow
  blk_part = option_map_or (blk_pools plan) plan.blk []

  front_long : length net_part ≡ first_blk_pool plan
  front_long = net_pools_long plan plan.net

  at_class : (n : ℕ) (row : PoolRow) → slice_get (pools_of plan) n ≡ Some row → slice_get (net_part ++ blk_part) n ≡ Some row
  at_class n row at = ap (λ rows. slice_get rows n) (sym (pools_same plan)) ∙ at

  -- the network's pools have buffers that take the longest frame
  pub net_size : (n : ℕ) (row : PoolRow) → Valid plan → n < first_blk_pool plan → slice_get (pools_of plan) n ≡ Some row → TakesFrames plan row
  net_size n row valid lt at = elim (get-either net_part blk_part n row (at_class n row at)) [
    | inl h ↦ all-at (TakesFrames plan) net_part (all-class (TakesFrames plan) (net_pools plan) plan.net (λ net is. net_sized plan net valid is)) n row h
    | inr h ↦ let past = h.0 in let long = front_long in absurd (omega (arith, past, long, lt))
  ]

  -- those of the block class have buffers of 32,768
  pub blk_size : (n : ℕ) (row : PoolRow) → first_blk_pool plan ≤ n → slice_get (pools_of plan) n ≡ Some row → row.size ≡ 32768
  blk_size n row past at = elim (get-either net_part blk_part n row (at_class n row at)) [
    | inl h ↦ let below = slice_get_within net_part n row h in let long = front_long in absurd (omega (arith, below, long, past))
    | inr h ↦ all-at (HasSize 32768) blk_part (all-class (HasSize 32768) (blk_pools plan) plan.blk (λ blk is. blk_sized plan blk)) (n - length net_part) row h.1
  ]

  -- the block class's pools stand there
  module _ (blk : Blk) (is : plan.blk ≡ Some blk) where
    blk_at : (i : ℕ) (row : PoolRow) → slice_get (blk_pools plan blk) i ≡ Some row → slice_get (pools_of plan) (first_blk_pool plan + i) ≡ Some row
    blk_at i row at =
        let here : slice_get blk_part i ≡ Some row = ap (λ (o : Option Blk). slice_get (option_map_or (blk_pools plan) o []) i) is ∙ at in
        ap (λ m. slice_get (pools_of plan) (m + i)) (sym front_long) ∙ (ap (λ rows. slice_get rows (length net_part + i)) (pools_same plan) ∙ get-right net_part blk_part i row here)

    own_there : (row : PoolRow) × (slice_get (pools_of plan) (first_blk_pool plan) ≡ Some row) × (row.buffers ≡ 1)
    unfolding blk_pools pool_in
    own_there =
        let row = pool_in plan blk.region (codes "blk") 1 blk_buffer in
        let zero_more : first_blk_pool plan ≡ first_blk_pool plan + 0 = omega arith in
        (row, ap (slice_get (pools_of plan)) zero_more ∙ blk_at 0 row refl, refl)

    client_there : (c : ℕ) → c < length blk.client → (row : PoolRow) × (slice_get (pools_of plan) (first_blk_pool plan + 1 + c) ≡ Some row)
    unfolding blk_pools blk_client_pools
    client_there c lt =
        let client = there_is blk.client c lt in
        let row = pool_in plan client.0.region (client_name (codes "blk.") (0 + c) []) client.0.buffers blk_buffer in
        let first = pool_in plan blk.region (codes "blk") 1 blk_buffer in
        let each = each-at (blk_client_pools plan) 1 (λ k. k) 0 blk.client c 0 client.0 row (blk_pool_count plan) refl (λ k. omega arith) client.1 refl in
        let all : slice_get (blk_pools plan blk) (1 + (c + 0)) ≡ Some row = get-right (first ∷ []) (each_client (blk_client_pools plan) 0 blk.client) (c + 0) row each in
        let e : first_blk_pool plan + 1 + c ≡ first_blk_pool plan + (1 + (c + 0)) = omega arith in
        (row, ap (slice_get (pools_of plan)) e ∙ blk_at (1 + (c + 0)) row all)

module _ (plan : Plan) (valid : Valid plan) where
  pub has_net_pool : (n : ℕ) (row : PoolRow) → n < first_blk_pool plan → slice_get (pools_of plan) n ≡ Some row → HasNetPool (pools_of plan) n
  has_net_pool n row below at =
      let sound = all-at (IsSoundPool plan) (pools_of plan) (pools_sound plan valid) n row at in
      let low = base_low plan valid row.region row.base sound.base in
      let few = sound.buffers.1 in
      let told : row.size ≡ (pool_at (pools_of plan) n).size = sym (ap (λ (o : Option PoolRow). option_map_or (λ (r : PoolRow). r.size) o 0) at) in
      let size = net_size plan n row valid below at in
      let some = size.some in
      let wide : row.buffers * row.size ≤ 512 * 16384 = mul-le row.buffers row.size 512 16384 few size.few in
      let ends : row.base + row.buffers * row.size ≤ 2 ^ 62 = omega (arith, low, wide) in
      record { row = row; there = at; some = sound.buffers.0; few = few; sized = told; large = omega (arith, some, told); ends = subst (λ z. row.base + row.buffers * z ≤ 2 ^ 62) told ends }

  pub has_blk_pool : (n : ℕ) (row : PoolRow) → first_blk_pool plan ≤ n → slice_get (pools_of plan) n ≡ Some row → HasPool 32768 (pools_of plan) n
  has_blk_pool n row past at =
      let sound = all-at (IsSoundPool plan) (pools_of plan) (pools_sound plan valid) n row at in
      let low = base_low plan valid row.region row.base sound.base in
      let few = sound.buffers.1 in
      record { row = row; there = at; some = sound.buffers.0; few = few; sized = blk_size plan n row past at; large = omega arith; ends = omega (arith, low, few) }

  -- no address is in two pools
  pub pools_apart : (j k : ℕ) (one other : PoolRow) → j < k → slice_get (pools_of plan) j ≡ Some one → slice_get (pools_of plan) k ≡ Some other
      → (address : ℕ) → one.base ≤ address → address < one.base + one.size * one.buffers → other.base ≤ address → address < other.base + other.size * other.buffers → ⊥
  unfolding pool_range
  pools_apart j k one other less first second address a b c d =
      let queues = map (queue_range plan) (queues_of plan) in
      let pools = map pool_range (pools_of plan) in
      let long = length queues in
      rows_apart plan valid (long + k) (
        long + j,
        (one.base, one.base + one.size * one.buffers),
        (other.base, other.base + other.size * other.buffers),
        omega (arith, less),
        get-right queues pools j (pool_range one) (map_get pool_range (pools_of plan) j one first),
        get-right queues pools k (pool_range other) (map_get pool_range (pools_of plan) k other second),
        (address, a, b, c, d),
      )

  -- an address in the range of a pool whose buffers have this size
  within_row : (size n : ℕ) (row : PoolRow) (address : ℕ) → slice_get (pools_of plan) n ≡ Some row → row.size ≡ size
      → is_within (record { base = (pool_at (pools_of plan) n).base; size = (pool_at (pools_of plan) n).buffers * size }) address ≡ true
      → (row.base ≤ address) × (address < row.base + row.size * row.buffers)
  within_row size n row address at sized within =
      let parts = and_parts _ _ within in
      let low = leb-true _ address parts.0 in
      let high = ltb-true address _ parts.1 in
      let base : (pool_at (pools_of plan) n).base ≡ row.base = ap (λ (o : Option PoolRow). option_map_or (λ (r : PoolRow). r.base) o 0) at in
      let many : (pool_at (pools_of plan) n).buffers ≡ row.buffers = ap (λ (o : Option PoolRow). option_map_or (λ (r : PoolRow). r.buffers) o 0) at in
      let product : (pool_at (pools_of plan) n).buffers * size ≡ row.size * row.buffers = ap₂ (λ x y. x * y) many (sym sized) ∙ mul_comm row.buffers row.size in
      (omega (arith, low, base), omega (arith, high, base, product))

  ranges_apart : (size other_size j k : ℕ) (one other : PoolRow) → j < k → slice_get (pools_of plan) j ≡ Some one → slice_get (pools_of plan) k ≡ Some other → one.size ≡ size → other.size ≡ other_size
      → IsApart (record { base = (pool_at (pools_of plan) k).base; size = (pool_at (pools_of plan) k).buffers * other_size }) (record { base = (pool_at (pools_of plan) j).base; size = (pool_at (pools_of plan) j).buffers * size })
  ranges_apart size other_size j k one other less first second sized other_sized address within = elim (cases_Bool (is_within (record { base = (pool_at (pools_of plan) j).base; size = (pool_at (pools_of plan) j).buffers * size }) address)) [
    | inl holds ↦
        let a = within_row size j one address first sized holds in
        let b = within_row other_size k other address second other_sized within in
        absurd (pools_apart j k one other less first second address a.0 a.1 b.0 b.1)
    | inr differs ↦ differs
  ]

  -- the size that a row tells
  told_size : (n : ℕ) (row : PoolRow) → slice_get (pools_of plan) n ≡ Some row → row.size ≡ (pool_at (pools_of plan) n).size
  told_size n row at = sym (ap (λ (o : Option PoolRow). option_map_or (λ (r : PoolRow). r.size) o 0) at)

  -- the pools of the network class
  pub has_pools : (net : Net) → plan.net ≡ Some net → HasPools (pools_of plan) (length net.client)
  has_pools net is =
      let rooms = has_rooms plan valid net is in
      let many : first_blk_pool plan ≡ 1 + 2 * length net.client = ap (λ (o : Option Net). option_map_or (λ (x : Net). 1 + 2 * length x.client) o 0) is in
      record {
        first = has_net_pool 0 rooms.free.1 (omega (arith, many)) rooms.free.3;
        rx = λ c lt. has_net_pool (1 + 2 * c) (rooms.rx_free c lt).1 (omega (arith, many, lt)) (rooms.rx_free c lt).3;
        tx = λ c lt. has_net_pool (2 + 2 * c) (rooms.tx_free c lt).1 (omega (arith, many, lt)) (rooms.tx_free c lt).3;
        apart = λ j k less lt.
            let below : j < length net.client = omega (arith, less, lt) in
            let one = rooms.tx_free j below in
            let other = rooms.tx_free k lt in
            ranges_apart (pool_at (pools_of plan) (2 + 2 * j)).size (pool_at (pools_of plan) (2 + 2 * k)).size (2 + 2 * j) (2 + 2 * k) one.1 other.1 (omega (arith, less)) one.3 other.3 (told_size (2 + 2 * j) one.1 one.3) (told_size (2 + 2 * k) other.1 other.3);
      }

  -- the pools of the block class
  pub has_blk_pools : (blk : Blk) → plan.blk ≡ Some blk → HasBlkPools plan (pools_of plan) (length blk.client)
  has_blk_pools blk is =
      let own = own_there plan blk is in
      record {
        own = has_blk_pool (first_blk_pool plan) own.0 (omega arith) own.1;
        single = ap (λ (o : Option PoolRow). option_map_or (λ (r : PoolRow). r.buffers) o 0) own.1 ∙ own.2;
        client = λ c lt. let row = client_there plan blk is c lt in has_blk_pool (first_blk_pool plan + 1 + c) row.0 (omega arith) row.1;
        apart = λ j k less lt.
            let one = client_there plan blk is j (omega (arith, less, lt)) in
            let other = client_there plan blk is k lt in
            ranges_apart 32768 32768 (first_blk_pool plan + 1 + j) (first_blk_pool plan + 1 + k) one.0 other.0 (omega (arith, less)) one.1 other.1 (blk_size plan (first_blk_pool plan + 1 + j) one.0 (omega arith) one.1) (blk_size plan (first_blk_pool plan + 1 + k) other.0 (omega arith) other.1);
      }
