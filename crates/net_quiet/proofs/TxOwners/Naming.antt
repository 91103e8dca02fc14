use Rattle.std.proofs.Common.{◌≡◌, ◌+◌, ℕ, zero, suc, Some, List, [], ◌∷◌, map, slice_get, refl, sym, ap, ◌∙◌, arith}
use Rattle.frame_core.specs.declared.mac.Mac.{Mac}
use Rattle.play_core.specs.Sheets.{Scene}
use Rattle.play_core.proofs.Lists.{some_is}
use Rattle.owner_law.specs.Things.{Buffers}
use Rattle.net_law.specs.Owners.Names.{ClientPools}
use Rattle.owner_law.specs.Pools.Places.{PoolAt, by_address, by_offset}
use Rattle.net_law.specs.Parts.Numbers.{client_first, layout_naming}
use Rattle.net_law.proofs.PartsLemmas.Numbering.{named_at}
use Rattle.net_law.specs.TxParts.Numbers.{shippers_from, sender_at}
use Rattle.net_law.specs.TxParts.Parts.{Shipper}
use Rattle.net_quiet.specs.TxOwners.Shipping.{device_windows, NamesSend}

windows_are : (most k : ℕ) (pools : List ClientPools) → map (λ (c : ClientPools). by_address c.tx) pools ≡ device_windows (shippers_from 0 most k pools)
windows_are most k [] = refl
windows_are most k (c ∷ pools) = ap (λ ws. by_address c.tx ∷ ws) (windows_are most (k + 1) pools)

shipper_is : (most from : ℕ) (pools : List ClientPools) (k : ℕ) (c : Shipper) → slice_get (shippers_from 0 most from pools) k ≡ Some c → (p : ClientPools) × (slice_get pools k ≡ Some p) × (c.active ≡ client_first 0 (from + k) + 4) × (c.free ≡ client_first 0 (from + k) + 5) × (p.tx ≡ c.pool)
shipper_is most from [] k c at = cc
shipper_is most from (p ∷ pools) zero c at =
    let e = some_is at in
    let plus : client_first 0 from ≡ client_first 0 (from + 0) = omega arith in
    (p, refl, ap (λ (d : Shipper). d.active) (sym e) ∙ ap (λ n. n + 4) plus, ap (λ (d : Shipper). d.free) (sym e) ∙ ap (λ n. n + 5) plus, ap (λ (d : Shipper). d.pool) e)
shipper_is most from (p ∷ pools) (suc k) c at =
    let x = shipper_is most (from + 1) pools k c at in
    let shift : client_first 0 (from + 1 + k) ≡ client_first 0 (from + suc k) = omega arith in
    (x.0, x.1, x.2 ∙ ap (λ n. n + 4) shift, x.3 ∙ ap (λ n. n + 5) shift, x.4)

pub sender_named : (scene : Scene) (most : ℕ) (pool : PoolAt) (macs : List Mac) (pools : List ClientPools) → NamesSend (layout_naming scene pool macs pools) (sender_at 0 most pools)
sender_named scene most pool macs pools = record {
  active = ap Buffers (windows_are most 0 pools);
  free = ap Buffers (windows_are most 0 pools);
  sends = λ k c at.
      let x = shipper_is most 0 pools k c at in
      named_at scene pool macs pools k x.0 4 c.active (Buffers (by_offset c.pool ∷ [])) x.1 (λ rest. ap (λ p. Buffers (by_offset p ∷ [])) x.4) (x.2 ∙ first k 4);
  returns = λ k c at.
      let x = shipper_is most 0 pools k c at in
      named_at scene pool macs pools k x.0 5 c.free (Buffers (by_offset c.pool ∷ [])) x.1 (λ rest. ap (λ p. Buffers (by_offset p ∷ [])) x.4) (x.3 ∙ first k 5);
}
  where
    first : (k n : ℕ) → client_first 0 (0 + k) + n ≡ client_first 0 k + n
    first k n = omega arith
