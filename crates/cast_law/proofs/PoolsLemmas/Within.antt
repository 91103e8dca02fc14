-- All buffers that items name at a cast's queues are of its pools.
use Rattle.std.proofs.Common.{◌≡◌, ◌⊎◌, ◌-◌, ◌++◌, ◌<◌, ◌≤◌, ℕ, suc, Option, None, Some, All, get_or, List, [], ◌∷◌, ◌+◌, length, slice_get, refl, sym, ap, ◌∙◌, subst, arith, inl, inr}
use Rattle.std.proofs.lemmas.Bool.{cases_lt}
use Rattle.play_core.specs.Sheets.{Scene}
use Rattle.owner_law.specs.Things.{Window, Names, NoBuffers, Buffers, Frames, Leases, Returns, Answers}
use Rattle.owner_law.proofs.Carrying.{get_first}
use Rattle.owner_law.specs.Pools.Lines.{IsWithin, NamesWithin}
use Rattle.owner_law.specs.Pools.Places.{PoolAt, sizes_of, AreNumbered}
use Rattle.net_law.specs.TxParts.Numbers.{NetPlace}
use Rattle.net_quiet.proofs.PoolsLemmas.Sizing.{layout_within}
use Rattle.owner_law.proofs.PoolsLemmas.Sizing.{size_there}
use Rattle.blk_law.specs.Sheets.Numbers.{BlkPlace}
use Rattle.blk_quiet.proofs.PoolsLemmas.Sizing.{blk_within}
use Rattle.cast_law.specs.Pools.Places.{first_naming, behind, pools_first, pools_behind}
use Rattle.cast_law.proofs.PoolsLemmas.Naming.{before_is, from_is}
use Rattle.cast_law.proofs.PoolsLemmas.Deals.{IsAmong, size_from, get_behind, first_numbered_of}

-- windows on pools are on those of a longer list
module _ (ps qs : List PoolAt) (apart : AreNumbered (ps ++ qs)) where
  sized_more : (n : ℕ) → sizes_of ps n ≤ sizes_of (ps ++ qs) n
  sized_more n = by (size_from ps n)
    where
      by : (sizes_of ps n ≡ 0) ⊎ IsAmong ps n → sizes_of ps n ≤ sizes_of (ps ++ qs) n
      by (inl none) = omega (arith, none)
      by (inr x) =
          let few = ap (sizes_of ps) (sym x.3) ∙ size_there ps x.0 x.1 (first_numbered_of ps qs apart) x.2 in
          let more = ap (sizes_of (ps ++ qs)) (sym x.3) ∙ size_there (ps ++ qs) x.0 x.1 apart (get_first ps qs x.0 x.1 x.2) in
          omega (arith, few, more)

  windows_more : (ws : List Window) → All (IsWithin (sizes_of ps)) ws → All (IsWithin (sizes_of (ps ++ qs))) ws
  windows_more ws all k d lt = let here = all k d lt in omega (arith, here, sized_more (get_or ws k d).pool)

  names_more : (names : Names) → NamesWithin (sizes_of ps) names → NamesWithin (sizes_of (ps ++ qs)) names
  names_more NoBuffers h = tt
  names_more (Buffers ws) h = windows_more ws h
  names_more (Frames ws receivers) h = windows_more ws h
  names_more (Leases ws) h = windows_more ws h
  names_more (Returns ws) h = windows_more ws h
  names_more (Answers q ws) h = windows_more ws h

first_within : (scene : Scene) (n : Option NetPlace) → AreNumbered (pools_first n) → (q : ℕ) → NamesWithin (sizes_of (pools_first n)) (first_naming scene n q)
first_within scene None apart q = tt
first_within scene (Some net) apart q = layout_within net.pool net.pools apart scene net.macs q

pub cast_within : (scene : Scene) (n : Option NetPlace) (b : Option BlkPlace) → AreNumbered (pools_first n ++ pools_behind b) → (q : ℕ) → NamesWithin (sizes_of (pools_first n ++ pools_behind b)) (behind (first_naming scene n) b q)
cast_within scene n None apart q = names_more (pools_first n) [] apart (first_naming scene n q) (first_within scene n (first_numbered_of (pools_first n) [] apart) q)
cast_within scene n (Some blk) apart q = by (cases_lt q blk.first)
  where
    there : (i : ℕ) (p : PoolAt) → slice_get (blk.pool ∷ blk.pools) i ≡ Some p → p.buffers ≤ sizes_of (pools_first n ++ (blk.pool ∷ blk.pools)) p.number
    there i p at =
        let size = size_there (pools_first n ++ (blk.pool ∷ blk.pools)) (length (pools_first n) + i) p apart (get_behind (pools_first n) (blk.pool ∷ blk.pools) i p at) in
        omega (arith, size)

    by : (q < blk.first) ⊎ (blk.first ≤ q) → NamesWithin (sizes_of (pools_first n ++ (blk.pool ∷ blk.pools))) (behind (first_naming scene n) (Some blk) q)
    by (inl lt) = subst (NamesWithin (sizes_of (pools_first n ++ (blk.pool ∷ blk.pools)))) (sym (before_is (first_naming scene n) blk q lt)) (names_more (pools_first n) (blk.pool ∷ blk.pools) apart (first_naming scene n q) (first_within scene n (first_numbered_of (pools_first n) (blk.pool ∷ blk.pools) apart) q))
    by (inr le) = subst (NamesWithin (sizes_of (pools_first n ++ (blk.pool ∷ blk.pools)))) (sym (from_is (first_naming scene n) blk q le)) (blk_within (sizes_of (pools_first n ++ (blk.pool ∷ blk.pools))) blk (there 0 blk.pool refl) (λ k p at. there (suc k) p at) (q - blk.first))
