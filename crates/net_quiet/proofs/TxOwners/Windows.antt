use Rattle.std.proofs.Common.{◌≡◌, ◌≢◌, ◌⊎◌, ◌==◌, ◌&&◌, ◌+◌, ◌-◌, ◌*◌, ◌/◌, ◌<◌, ◌≤◌, ℕ, zero, suc, Bool, true, false, cond, nat_le, nat_lt, Some, None, List, [], ◌∷◌, slice_get, refl, sym, ap, ap₂, ◌∙◌, arith, ltb-true, lt-ltb, eqb-true, inl, inr}
use Rattle.std.proofs.Math.Dec.{eqb}
use Rattle.std.proofs.lemmas.Bool.{leb-true, le-leb}
use Rattle.std.proofs.lemmas.Bool.Decides.{eqb_tells}
use Rattle.play_core.proofs.Lists.{some_is}
use Rattle.owner_law.specs.Things.{number_at, begins_at, buffer_at}
use Rattle.owner_law.proofs.Sums.{both}
use Rattle.owner_law.specs.Pools.Places.{PoolAt, by_address, by_offset}
use Rattle.net_law.specs.TxParts.Parts.{Shipper}
use Rattle.net_virt_tx.proofs.Counting.{ends_within}
use Rattle.net_quiet.specs.TxOwners.Shipping.{device_windows, is_at, ArePoolsApart}

-- a buffer begins in its pool's range
begins_within : (p : PoolAt) → 0 < p.size → (a : ℕ) → begins_at (by_address p) a ≡ true → is_at p a ≡ true
begins_within p some a h =
    let n = number_at (by_address p) a in
    let two = both (nat_lt n p.buffers) (p.base + n * p.size == a) h in
    let few : n < p.buffers = ltb-true n p.buffers two.0 in
    let here : p.base + n * p.size ≡ a = eqb-true (p.base + n * p.size) a two.1 in
    let low : nat_le p.base a ≡ true = le-leb p.base a (omega (arith, here)) in
    let high : nat_lt a (p.base + p.buffers * p.size) ≡ true = lt-ltb a (p.base + p.buffers * p.size) (let within = ends_within p.size n p.buffers few in omega (arith, here, some, within)) in
    rw (low, high) refl

not_begins : (p : PoolAt) → 0 < p.size → (a : ℕ) → is_at p a ≡ false → begins_at (by_address p) a ≡ false
not_begins p some a off = by (begins_at (by_address p) a) refl
  where
    by : (t : Bool) → begins_at (by_address p) a ≡ t → t ≡ false
    by true is = sym (begins_within p some a is) ∙ off
    by false is = refl

-- in no range no buffer begins
none_at : (cs : List Shipper) → ((k : ℕ) (c : Shipper) → slice_get cs k ≡ Some c → 0 < c.pool.size) → (a : ℕ) → ((k : ℕ) (c : Shipper) → slice_get cs k ≡ Some c → is_at c.pool a ≡ false) → buffer_at (device_windows cs) a ≡ None
none_at [] sized a off = refl
none_at (c ∷ cs) sized a off = rw (not_begins c.pool (sized 0 c refl) a (off 0 c refl)) (none_at cs (λ k d at. sized (suc k) d at) a (λ k d at. off (suc k) d at))

-- in a client's range its buffers alone begin
pick : (cs : List Shipper) → ArePoolsApart cs → (k : ℕ) (c : Shipper) (a : ℕ) → slice_get cs k ≡ Some c → is_at c.pool a ≡ true → buffer_at (device_windows cs) a ≡ buffer_at (by_address c.pool ∷ []) a
pick [] apart k c a at in_range = cc
pick (d ∷ cs) apart zero c a at in_range =
    let same : d ≡ c = some_is at in
    let rest : buffer_at (device_windows cs) a ≡ None = none_at cs (λ k e e_at. apart.sized (suc k) e e_at) a (λ k e e_at. apart.apart 0 (suc k) d e refl e_at (λ h. omega (arith, h)) a (ap (λ (x : Shipper). is_at x.pool a) same ∙ in_range)) in
    let here : buffer_at (device_windows (d ∷ cs)) a ≡ buffer_at (by_address d.pool ∷ []) a = ap (λ o. cond (begins_at (by_address d.pool) a) (Some (record { pool = d.pool.number; no = number_at (by_address d.pool) a })) o) rest in
    here ∙ ap (λ (x : Shipper). buffer_at (by_address x.pool ∷ []) a) same
pick (d ∷ cs) apart (suc k) c a at in_range =
    let off : is_at d.pool a ≡ false = apart.apart (suc k) 0 c d at refl (λ h. omega (arith, h)) a in_range in
    rw (not_begins d.pool (apart.sized 0 d refl) a off) (pick cs (record { sized = λ i x x_at. apart.sized (suc i) x x_at; apart = λ i j x y x_at y_at ne. apart.apart (suc i) (suc j) x y x_at y_at (λ h. ne (suc_is h)) }) k c a at in_range)
  where
    suc_is : {i j : ℕ} → suc i ≡ suc j → i ≡ j
    suc_is {i} {j} h = omega (arith, h)

-- by its offset a buffer is the one that it is by its device address
pub home : (p : PoolAt) (a : ℕ) → p.base ≤ a → buffer_at (by_address p ∷ []) a ≡ buffer_at (by_offset p ∷ []) (a - p.base)
home p a le = sym (ap₂ (λ (t : Bool) (n : ℕ). cond t (Some (record { pool = p.number; no = n })) (buffer_at [] a)) test number)
  where
    number : number_at (by_offset p) (a - p.base) ≡ number_at (by_address p) a
    number = ap (λ n. n / p.size) (none (a - p.base))
      where
        none : (n : ℕ) → n - 0 ≡ n
        none n = omega arith

    tests : (n : ℕ) → (0 + n * p.size == a - p.base) ≡ (p.base + n * p.size == a)
    tests n = by (eqb_tells (0 + n * p.size) (a - p.base)) (eqb_tells (p.base + n * p.size) a)
      where
        by : ((eqb (0 + n * p.size) (a - p.base) ≡ true) × (0 + n * p.size ≡ a - p.base)) ⊎ ((eqb (0 + n * p.size) (a - p.base) ≡ false) × (0 + n * p.size ≢ a - p.base)) → ((eqb (p.base + n * p.size) a ≡ true) × (p.base + n * p.size ≡ a)) ⊎ ((eqb (p.base + n * p.size) a ≡ false) × (p.base + n * p.size ≢ a)) → (0 + n * p.size == a - p.base) ≡ (p.base + n * p.size == a)
        by (inl h) (inl g) = h.0 ∙ sym g.0
        by (inr h) (inr g) = h.0 ∙ sym g.0
        by (inl h) (inr g) = absurd (g.1 (omega (arith, h.1, le)))
        by (inr h) (inl g) = absurd (h.1 (omega (arith, g.1, le)))

    test : begins_at (by_offset p) (a - p.base) ≡ begins_at (by_address p) a
    test = ap (λ n. nat_lt n p.buffers && (0 + n * p.size == a - p.base)) number ∙ ap (λ t. nat_lt (number_at (by_address p) a) p.buffers && t) (tests (number_at (by_address p) a))

pub pick_home : (cs : List Shipper) → ArePoolsApart cs → (k : ℕ) (c : Shipper) (a : ℕ) → slice_get cs k ≡ Some c → is_at c.pool a ≡ true → buffer_at (device_windows cs) a ≡ buffer_at (by_offset c.pool ∷ []) (a - c.pool.base)
pick_home cs apart k c a at in_range =
    let low = both (nat_le c.pool.base a) (nat_lt a (c.pool.base + c.pool.buffers * c.pool.size)) in_range in
    pick cs apart k c a at in_range ∙ home c.pool a (leb-true c.pool.base a low.0)
