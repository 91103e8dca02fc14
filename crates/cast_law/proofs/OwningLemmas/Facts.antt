-- At no queue an address names two buffers.
use Rattle.std.proofs.Common.{◌≡◌, ◌≢◌, ◌⊎◌, ◌&&◌, ◌+◌, ◌-◌, ◌*◌, ◌<◌, ◌≤◌, ℕ, zero, suc, Bool, true, false, nat_le, nat_lt, Option, None, Some, List, [], ◌∷◌, flat_map, length, map, slice_get, refl, sym, ap, ◌∙◌, subst, arith, eqb-true, ltb-true, inl, inr}
use Rattle.std.specs.Prelude.{slice_index_or}
use Rattle.std.proofs.Math.Dec.{eqb}
use Rattle.std.proofs.lemmas.Bool.{and_parts, cases_lt}
use Rattle.std.proofs.lemmas.Bool.Decides.{eqb_tells}
use Rattle.cargo_core.specs.Ranges.{is_within}
use Rattle.frame_core.specs.declared.mac.Mac.{Mac}
use Rattle.play_core.specs.Sheets.{Scene}
use Rattle.play_core.proofs.Lists.{map_from}
use Rattle.owner_law.specs.Things.{NoBuffers, Window, begins_at, naming_of, number_at}
use Rattle.owner_law.specs.Pools.Places.{PoolAt, by_address}
use Rattle.net_law.specs.Owners.Names.{ClientPools, client_names}
use Rattle.net_law.specs.Parts.Numbers.{layout_naming}
use Rattle.net_law.specs.TxParts.Parts.{Shipper}
use Rattle.net_law.specs.TxParts.Numbers.{NetPlace, shippers_from}
use Rattle.net_quiet.specs.TxOwners.Shipping.{ArePoolsApart, device_windows, is_at}
use Rattle.blk_law.specs.Sheets.Parts.{Sharer}
use Rattle.blk_law.specs.Sheets.Numbers.{BlkPlace, sharers_from}
use Rattle.blk_law.specs.Owners.Answering.{ArePoolsApart as AreSharersApart, block_range, disk_windows}
use Rattle.blk_law.proofs.OwnersLemmas.Windows.{has_room, within_at}
use Rattle.blk_quiet.specs.Pools.Naming.{blk_names, client_names as asker_names, disk_side}
use Rattle.cast_law.specs.Pools.Places.{behind, first_naming}
use Rattle.cast_law.proofs.PoolsLemmas.Naming.{before_is, from_is}
use Rattle.cast_law.proofs.OwningLemmas.Windows.{AreNamesApart, AreWindowsApart, one_apart}

module _ (pool : PoolAt) where
  flat_apart : (cs : List ClientPools) (n : ℕ) → AreNamesApart (slice_index_or (flat_map (client_names pool) cs) n NoBuffers)
  flat_apart [] n = tt
  flat_apart (c ∷ cs) zero = one_apart _
  flat_apart (c ∷ cs) (suc zero) = one_apart _
  flat_apart (c ∷ cs) (suc (suc zero)) = one_apart _
  flat_apart (c ∷ cs) (suc (suc (suc zero))) = one_apart _
  flat_apart (c ∷ cs) (suc (suc (suc (suc zero)))) = one_apart _
  flat_apart (c ∷ cs) (suc (suc (suc (suc (suc zero))))) = one_apart _
  flat_apart (c ∷ cs) (suc (suc (suc (suc (suc (suc n)))))) = flat_apart cs n

module _ (scene : Scene) (pool : PoolAt) (macs : List Mac) (pools : List ClientPools) where
  net_apart : AreWindowsApart (map (λ (c : ClientPools). by_address c.tx) pools) → (n : ℕ) → AreNamesApart (layout_naming scene pool macs pools n)
  net_apart dev zero = one_apart (by_address pool)
  net_apart dev (suc zero) = one_apart (by_address pool)
  net_apart dev (suc (suc zero)) = dev
  net_apart dev (suc (suc (suc zero))) = dev
  net_apart dev (suc (suc (suc (suc zero)))) = one_apart (by_address pool)
  net_apart dev (suc (suc (suc (suc (suc zero))))) = one_apart (by_address pool)
  net_apart dev (suc (suc (suc (suc (suc (suc zero)))))) = dev
  net_apart dev (suc (suc (suc (suc (suc (suc (suc zero))))))) = dev
  net_apart dev (suc (suc (suc (suc (suc (suc (suc (suc n)))))))) = flat_apart pool pools n

askers_apart : (first j : ℕ) (pools : List PoolAt) (n : ℕ) → AreNamesApart (slice_index_or (asker_names first j pools) n NoBuffers)
askers_apart first j [] n = tt
askers_apart first j (p ∷ pools) zero = one_apart _
askers_apart first j (p ∷ pools) (suc zero) = one_apart _
askers_apart first j (p ∷ pools) (suc (suc n)) = askers_apart first (j + 1) pools n

blk_apart : (place : BlkPlace) → AreWindowsApart (disk_side place.pool place.pools) → (n : ℕ) → AreNamesApart (naming_of (blk_names place) n)
blk_apart place disk zero = disk
blk_apart place disk (suc zero) = disk
blk_apart place disk (suc (suc zero)) = disk
blk_apart place disk (suc (suc (suc zero))) = disk
blk_apart place disk (suc (suc (suc (suc n)))) = askers_apart place.first 0 place.pools n

-- the address of a buffer is in its pool's range
in_pool : (p : PoolAt) (a : ℕ) → 1 ≤ p.size → begins_at (by_address p) a ≡ true → (nat_le p.base a && nat_lt a (p.base + p.buffers * p.size)) ≡ true
in_pool p a some begins =
    let two = and_parts _ _ begins in
    within_at p.base (number_at (by_address p) a) p.size p.buffers a (ltb-true (number_at (by_address p) a) p.buffers two.0) some (eqb-true (p.base + number_at (by_address p) a * p.size) a two.1)

two_ways : (t : Bool) → t ≡ true → t ≡ false → ⊥
two_ways t g h = cc

pub devices_apart : (clients : List Shipper) → ArePoolsApart clients → AreWindowsApart (device_windows clients)
devices_apart clients apart i j v w a i_at j_at x y =
    let c = map_from (λ (s : Shipper). by_address s.pool) clients i v i_at in
    let d = map_from (λ (s : Shipper). by_address s.pool) clients j w j_at in
    by (eqb_tells i j) c.0 d.0 c.1 d.1 (in_pool c.0.pool a (let some = apart.sized i c.0 c.1 in omega (arith, some)) (ap (λ (u : Window). begins_at u a) c.2 ∙ x)) (in_pool d.0.pool a (let some = apart.sized j d.0 d.1 in omega (arith, some)) (ap (λ (u : Window). begins_at u a) d.2 ∙ y))
  where
    by : ((eqb i j ≡ true) × (i ≡ j)) ⊎ ((eqb i j ≡ false) × (i ≢ j)) → (c d : Shipper) → slice_get clients i ≡ Some c → slice_get clients j ≡ Some d → is_at c.pool a ≡ true → is_at d.pool a ≡ true → i ≡ j
    by (inl e) c d c_at d_at one two = e.1
    by (inr e) c d c_at d_at one two = absurd (two_ways (is_at d.pool a) two (apart.apart i j c d c_at d_at e.1 a one))

pub devices_are : (first most k : ℕ) (qs : List ClientPools) → device_windows (shippers_from first most k qs) ≡ map (λ (c : ClientPools). by_address c.tx) qs
devices_are first most k [] = refl
devices_are first most k (q ∷ qs) = ap (λ l. by_address q.tx ∷ l) (devices_are first most (k + 1) qs)

pub disks_apart : (pool : PoolAt) (clients : List Sharer) → AreSharersApart pool clients → AreWindowsApart (disk_windows pool clients)
disks_apart pool clients apart zero zero v w a i_at j_at x y = refl
disks_apart pool clients apart zero (suc j) v w a i_at j_at x y =
    let d = map_from (λ (s : Sharer). by_address s.pool) clients j w j_at in
    let mine = in_pool pool a (has_room pool apart.own) (ap (λ (u : Window). begins_at u a) (Rattle.play_core.proofs.Lists.some_is i_at) ∙ x) in
    let other = in_pool d.0.pool a (has_room d.0.pool (apart.some j d.0 d.1)) (ap (λ (u : Window). begins_at u a) d.2 ∙ y) in
    absurd (two_ways (is_within (block_range pool) a) mine (apart.own_apart j d.0 d.1 a other))
disks_apart pool clients apart (suc i) zero v w a i_at j_at x y =
    let c = map_from (λ (s : Sharer). by_address s.pool) clients i v i_at in
    let mine = in_pool pool a (has_room pool apart.own) (ap (λ (u : Window). begins_at u a) (Rattle.play_core.proofs.Lists.some_is j_at) ∙ y) in
    let other = in_pool c.0.pool a (has_room c.0.pool (apart.some i c.0 c.1)) (ap (λ (u : Window). begins_at u a) c.2 ∙ x) in
    absurd (two_ways (is_within (block_range pool) a) mine (apart.own_apart i c.0 c.1 a other))
disks_apart pool clients apart (suc i) (suc j) v w a i_at j_at x y =
    let c = map_from (λ (s : Sharer). by_address s.pool) clients i v i_at in
    let d = map_from (λ (s : Sharer). by_address s.pool) clients j w j_at in
    let one = in_pool c.0.pool a (has_room c.0.pool (apart.some i c.0 c.1)) (ap (λ (u : Window). begins_at u a) c.2 ∙ x) in
    let two = in_pool d.0.pool a (has_room d.0.pool (apart.some j d.0 d.1)) (ap (λ (u : Window). begins_at u a) d.2 ∙ y) in
    by (eqb_tells i j) c.0 d.0 c.1 d.1 one two
  where
    by : ((eqb i j ≡ true) × (i ≡ j)) ⊎ ((eqb i j ≡ false) × (i ≢ j)) → (c d : Sharer) → slice_get clients i ≡ Some c → slice_get clients j ≡ Some d → is_within (block_range c.pool) a ≡ true → is_within (block_range d.pool) a ≡ true → suc i ≡ suc j
    by (inl e) c d c_at d_at one two = ap suc e.1
    by (inr e) c d c_at d_at one two = absurd (two_ways (is_within (block_range d.pool) a) two (apart.apart i j c d c_at d_at e.1 a one))

pub disks_are : (pool : PoolAt) (first k : ℕ) (entries : List ℕ) (pools : List PoolAt) → length pools ≡ length entries → disk_windows pool (sharers_from first k entries pools) ≡ disk_side pool pools
disks_are pool first k entries pools many = ap (λ l. by_address pool ∷ l) (each k entries pools many)
  where
    each : (j : ℕ) (es : List ℕ) (ps : List PoolAt) → length ps ≡ length es → map (λ (c : Sharer). by_address c.pool) (sharers_from first j es ps) ≡ map by_address ps
    each j [] [] e = refl
    each j [] (p ∷ ps) e = absurd (omega (arith, e))
    each j (x ∷ es) [] e = refl
    each j (x ∷ es) (p ∷ ps) e = ap (λ l. by_address p ∷ l) (each (j + 1) es ps (omega (arith, e)))

-- by the whole naming
module _ (scene : Scene) where
  pub all_apart : (n : Option NetPlace) (b : Option BlkPlace) → ((net : NetPlace) → n ≡ Some net → AreWindowsApart (map (λ (c : ClientPools). by_address c.tx) net.pools)) → ((blk : BlkPlace) → b ≡ Some blk → AreWindowsApart (disk_side blk.pool blk.pools)) → (q : ℕ) → AreNamesApart (behind (first_naming scene n) b q)
  all_apart n b dev disk q = second b disk
    where
      first : (o : Option NetPlace) → ((net : NetPlace) → o ≡ Some net → AreWindowsApart (map (λ (c : ClientPools). by_address c.tx) net.pools)) → AreNamesApart (first_naming scene o q)
      first None d = tt
      first (Some net) d = net_apart scene net.pool net.macs net.pools (d net refl) q

      second : (o : Option BlkPlace) → ((blk : BlkPlace) → o ≡ Some blk → AreWindowsApart (disk_side blk.pool blk.pools)) → AreNamesApart (behind (first_naming scene n) o q)
      second None d = first n dev
      second (Some blk) d = by (cases_lt q blk.first)
        where
          by : (q < blk.first) ⊎ (blk.first ≤ q) → AreNamesApart (behind (first_naming scene n) (Some blk) q)
          by (inl lt) = subst AreNamesApart (sym (before_is (first_naming scene n) blk q lt)) (first n dev)
          by (inr le) = subst AreNamesApart (sym (from_is (first_naming scene n) blk q le)) (blk_apart blk (d blk refl) (q - blk.first))
