use Rattle.std.proofs.Common.{◌≡◌, ◌+◌, ◌*◌, ◌++◌, ℕ, Bool, zero, suc, Some, List, [], ◌∷◌, length, map, flat_map, slice_get, slice_index_or, refl, sym, ap, ◌∙◌, subst, arith, inl, inr}
use Rattle.frame_core.specs.declared.mac.Mac.{Mac}
use Rattle.play_core.specs.Sheets.{Scene}
use Rattle.play_core.proofs.Lists.{some_is, map_from, there_is, there_below}
use Rattle.owner_law.specs.Things.{Names, NoBuffers, Leases, Returns}
use Rattle.class_expect.specs.NetExpect.Expecting.{Program}
use Rattle.net_law.specs.Owners.Names.{ClientPools, client_names}
use Rattle.owner_law.specs.Pools.Places.{PoolAt, by_address, by_offset}
use Rattle.net_law.specs.Owners.Lending.{Borrower, receivers_of}
use Rattle.net_law.specs.Parts.Parts.{Lessee}
use Rattle.net_law.specs.Parts.Rows.{lender_of, borrower_of}
use Rattle.net_law.specs.Parts.Naming.{NamesPart, NameWay}
use Rattle.net_law.specs.Parts.Numbers.{device_at, driver_at, client_first, lessees_from, receiver_at, copier_at, client_at, layout_naming}

-- each client has its six queues
client_name : (pool : PoolAt) (pools : List ClientPools) (k : ℕ) (p : ClientPools) (i j : ℕ) (names : Names) → slice_get pools k ≡ Some p → ((rest : List Names) → slice_index_or (client_names pool p ++ rest) i NoBuffers ≡ names) → j ≡ 6 * k + i → slice_index_or (flat_map (client_names pool) pools) j NoBuffers ≡ names
client_name pool [] k p i j names at is same = cc
client_name pool (q ∷ pools) zero p i j names at is same =
    let e : j ≡ i = omega (arith, same) in
    let here = is (flat_map (client_names pool) pools) in
    ap (λ n. slice_index_or (flat_map (client_names pool) (q ∷ pools)) n NoBuffers) e ∙ subst (λ (x : ClientPools). slice_index_or (client_names pool x ++ flat_map (client_names pool) pools) i NoBuffers ≡ names) (sym (some_is at)) here
client_name pool (q ∷ pools) (suc k) p i j names at is same =
    let e : j ≡ suc (suc (suc (suc (suc (suc (6 * k + i)))))) = omega (arith, same) in
    ap (λ n. slice_index_or (flat_map (client_names pool) (q ∷ pools)) n NoBuffers) e ∙ client_name pool pools k p i (6 * k + i) names at is refl

module _ (scene : Scene) (pool : PoolAt) (macs : List Mac) (pools : List ClientPools) where
  pub named_at : (k : ℕ) (p : ClientPools) (i j : ℕ) (names : Names) → slice_get pools k ≡ Some p → ((rest : List Names) → slice_index_or (client_names pool p ++ rest) i NoBuffers ≡ names) → j ≡ client_first 0 k + i → layout_naming scene pool macs pools j ≡ names
  named_at k p i j names at is same =
      let e : j ≡ suc (suc (suc (suc (suc (suc (suc (suc (6 * k + i)))))))) = omega (arith, same) in
      ap (layout_naming scene pool macs pools) e ∙ client_name pool pools k p i (6 * k + i) names at is refl

  pub device_named : (frames : List (List ℕ)) (drops : Bool) → NamesPart (layout_naming scene pool macs pools) scene (device_at 0 frames drops)
  device_named frames drops = ((by_address pool ∷ [], (refl, refl)), (map (λ (c : ClientPools). by_address c.tx) pools, (refl, refl)))

  pub driver_named : NamesPart (layout_naming scene pool macs pools) scene (driver_at 0)
  driver_named zero w at = subst (NameWay (layout_naming scene pool macs pools)) (some_is at) (by_address pool ∷ [], refl, inl refl)
  driver_named (suc zero) w at = subst (NameWay (layout_naming scene pool macs pools)) (some_is at) (by_address pool ∷ [], refl, inr (receivers_of (lender_of scene.frames 4 5 pool (lessees_from 0 0 macs)).clients, refl))
  driver_named (suc (suc zero)) w at = subst (NameWay (layout_naming scene pool macs pools)) (some_is at) (map (λ (c : ClientPools). by_address c.tx) pools, refl, inl refl)
  driver_named (suc (suc (suc zero))) w at = subst (NameWay (layout_naming scene pool macs pools)) (some_is at) (map (λ (c : ClientPools). by_address c.tx) pools, refl, inl refl)
  driver_named (suc (suc (suc (suc k)))) w at = cc

  pub copier_named : (k : ℕ) (p : ClientPools) (drops : Bool) → slice_get pools k ≡ Some p → NamesPart (layout_naming scene pool macs pools) scene (copier_at 0 k drops)
  copier_named k p drops at = (
    (by_offset pool ∷ [], named_at k p 0 _ _ at (λ rest. refl) (plus (client_first 0 k)), named_at k p 1 _ _ at (λ rest. refl) refl),
    (by_offset p.rx ∷ [], (named_at k p 3 _ _ at (λ rest. refl) refl, named_at k p 2 _ _ at (λ rest. refl) refl)),
  )
    where
      plus : (n : ℕ) → n ≡ n + 0
      plus n = omega arith

  pub client_named : (k : ℕ) (p : ClientPools) (program : Program) (mac : Mac) → slice_get pools k ≡ Some p → NamesPart (layout_naming scene pool macs pools) scene (client_at 0 k program mac p)
  client_named k p program mac at = (
    (named_at k p 2 _ _ at (λ rest. refl) refl, named_at k p 3 _ _ at (λ rest. refl) refl),
    (named_at k p 4 _ _ at (λ rest. refl) refl, named_at k p 5 _ _ at (λ rest. refl) refl),
  )

  -- a client of the virtualiser's has the queues of its number
  lessee_is : (from : ℕ) (ms : List Mac) (k : ℕ) (c : Lessee) → slice_get (lessees_from 0 from ms) k ≡ Some c → (mac : Mac) × (slice_get ms k ≡ Some mac) × (c.active ≡ client_first 0 (from + k)) × (c.free ≡ client_first 0 (from + k) + 1)
  lessee_is from [] k c at = cc
  lessee_is from (mac ∷ ms) zero c at =
      let e = some_is at in
      let plus : client_first 0 from ≡ client_first 0 (from + 0) = omega arith in
      (mac, refl, ap (λ (d : Lessee). d.active) (sym e) ∙ plus, ap (λ (d : Lessee). d.free) (sym e) ∙ ap (λ n. n + 1) plus)
  lessee_is from (mac ∷ ms) (suc k) c at =
      let x = lessee_is (from + 1) ms k c at in
      let shift : client_first 0 (from + 1 + k) ≡ client_first 0 (from + suc k) = omega arith in
      (x.0, x.1, x.2 ∙ shift, x.3 ∙ ap (λ n. n + 1) shift)

  pub receiver_named : length macs ≡ length pools → NamesPart (layout_naming scene pool macs pools) scene (receiver_at 0 pool macs)
  receiver_named many = record {
    frames = refl;
    free = refl;
    leases = λ k c at. (each k c at).0;
    returns = λ k c at. (each k c at).1;
  }
    where
      each : (k : ℕ) (c : Borrower) → slice_get (map (borrower_of scene.frames) (lessees_from 0 0 macs)) k ≡ Some c → (layout_naming scene pool macs pools c.active ≡ Leases (by_offset pool ∷ [])) × (layout_naming scene pool macs pools c.free ≡ Returns (by_offset pool ∷ []))
      each k c at =
          let f = map_from (borrower_of scene.frames) (lessees_from 0 0 macs) k c at in
          let x = lessee_is 0 macs k f.0 f.1 in
          let below = there_below macs k x.0 x.1 in
          let p = there_is pools k (omega (arith, below, many)) in
          let active : c.active ≡ client_first 0 k + 0 = ap (λ (d : Borrower). d.active) (sym f.2) ∙ (x.2 ∙ zeroes k) in
          let free : c.free ≡ client_first 0 k + 1 = ap (λ (d : Borrower). d.free) (sym f.2) ∙ (x.3 ∙ ones k) in
          (named_at k p.0 0 c.active _ p.1 (λ rest. refl) active, named_at k p.0 1 c.free _ p.1 (λ rest. refl) free)
        where
          zeroes : (n : ℕ) → client_first 0 (0 + n) ≡ client_first 0 n + 0
          zeroes n = omega arith

          ones : (n : ℕ) → client_first 0 (0 + n) + 1 ≡ client_first 0 n + 1
          ones n = omega arith
