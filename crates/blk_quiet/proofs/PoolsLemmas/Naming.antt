-- What items name at the queues of each actor of the class at its place.
use Rattle.std.proofs.Common.{◌≡◌, ◌+◌, ◌*◌, ℕ, zero, suc, Some, List, [], ◌∷◌, length, map, slice_get, refl, sym, ap, ap₂, ◌∙◌, subst, arith}
use Rattle.std.specs.Prelude.{slice_index_or}
use Rattle.cargo_core.specs.declared.item.Ask.{Ask}
use Rattle.play_core.proofs.Lists.{some_is}
use Rattle.owner_law.specs.Things.{Window, NoBuffers, Buffers, Answers, Naming}
use Rattle.owner_law.specs.Pools.Places.{PoolAt, by_address, by_offset}
use Rattle.net_law.proofs.PartsLemmas.Pairs.{twice}
use Rattle.blk_law.specs.Sheets.Parts.{Sharer}
use Rattle.blk_law.specs.Sheets.Numbers.{BlkPlace, disk_at, blk_driver_at, sharers_from, virt_at, blk_client_at}
use Rattle.blk_law.specs.Owners.Answering.{NamesAsked, NamesBlk, TakesBlocks}
use Rattle.blk_quiet.specs.Pools.Naming.{disk_side, client_names, IsNamedAt}

pub twice_is : (k : ℕ) → twice k ≡ 2 * k
twice_is zero = refl
twice_is (suc k) = let rest = twice_is k in omega (arith, rest)

-- a client's two queues
pub client_req : (first j : ℕ) (pools : List PoolAt) (k : ℕ) (p : PoolAt) → slice_get pools k ≡ Some p → slice_index_or (client_names first j pools) (twice k) NoBuffers ≡ Buffers (by_offset p ∷ [])
client_req first j [] k p at = cc
client_req first j (q ∷ pools) zero p at = ap (λ (x : PoolAt). Buffers (by_offset x ∷ [])) (some_is at)
client_req first j (q ∷ pools) (suc k) p at = client_req first (j + 1) pools k p at

pub client_resp : (first j : ℕ) (pools : List PoolAt) (k : ℕ) (p : PoolAt) → slice_get pools k ≡ Some p → slice_index_or (client_names first j pools) (suc (twice k)) NoBuffers ≡ Answers (first + 4 + 2 * (j + k)) (by_offset p ∷ [])
client_resp first j [] k p at = cc
client_resp first j (q ∷ pools) zero p at =
    let plus : first + 4 + 2 * j ≡ first + 4 + 2 * (j + 0) = omega arith in
    ap₂ (λ n (x : PoolAt). Answers n (by_offset x ∷ [])) plus (some_is at)
client_resp first j (q ∷ pools) (suc k) p at =
    let shift : first + 4 + 2 * (j + 1 + k) ≡ first + 4 + 2 * (j + suc k) = omega arith in
    client_resp first (j + 1) pools k p at ∙ ap (λ n. Answers n (by_offset p ∷ [])) shift

-- the clients as the virtualiser has them
pub sharer_from : (first j : ℕ) (entries : List ℕ) (pools : List PoolAt) (k : ℕ) (c : Sharer) → slice_get (sharers_from first j entries pools) k ≡ Some c → (p : PoolAt) × (slice_get pools k ≡ Some p) × (c.pool ≡ p) × (c.req ≡ first + 4 + 2 * (j + k)) × (c.resp ≡ first + 5 + 2 * (j + k))
sharer_from first j [] pools k c at = cc
sharer_from first j (e ∷ entries) [] k c at = cc
sharer_from first j (e ∷ entries) (p ∷ pools) zero c at =
    let same = some_is at in
    let plus : j ≡ j + 0 = omega arith in
    (p, refl, ap (λ (s : Sharer). s.pool) (sym same), ap (λ (s : Sharer). s.req) (sym same) ∙ ap (λ n. first + 4 + 2 * n) plus, ap (λ (s : Sharer). s.resp) (sym same) ∙ ap (λ n. first + 5 + 2 * n) plus)
sharer_from first j (e ∷ entries) (p ∷ pools) (suc k) c at =
    let x = sharer_from first (j + 1) entries pools k c at in
    let shift : j + 1 + k ≡ j + suc k = omega arith in
    (x.0, x.1, x.2, x.3 ∙ ap (λ n. first + 4 + 2 * n) shift, x.4 ∙ ap (λ n. first + 5 + 2 * n) shift)

windows_are : (first j : ℕ) (entries : List ℕ) (pools : List PoolAt) → length pools ≡ length entries → map by_address pools ≡ map (λ (c : Sharer). by_address c.pool) (sharers_from first j entries pools)
windows_are first j [] [] same = refl
windows_are first j [] (p ∷ pools) same = absurd (omega (arith, same))
windows_are first j (e ∷ entries) [] same = absurd (omega (arith, same))
windows_are first j (e ∷ entries) (p ∷ pools) same = ap (λ ws. by_address p ∷ ws) (windows_are first (j + 1) entries pools (omega (arith, same)))

module _ (naming : Naming) (place : BlkPlace) (is : IsNamedAt naming place) where
  abbrev ws : List Window
  ws = disk_side place.pool place.pools

  begins : naming place.first ≡ Buffers ws
  begins = let plus : place.first ≡ place.first + 0 = omega arith in ap naming plus ∙ is 0

  client_asked : (k : ℕ) (p : PoolAt) → slice_get place.pools k ≡ Some p → NamesAsked naming (by_offset p ∷ []) (place.first + 4 + 2 * k) (place.first + 5 + 2 * k)
  client_asked k p at =
      let t = twice_is k in
      let req : place.first + 4 + 2 * k ≡ place.first + suc (suc (suc (suc (twice k)))) = omega (arith, t) in
      let resp : place.first + 5 + 2 * k ≡ place.first + suc (suc (suc (suc (suc (twice k))))) = omega (arith, t) in
      let plus : place.first + 4 + 2 * (0 + k) ≡ place.first + 4 + 2 * k = omega arith in
      (ap naming req ∙ (is (suc (suc (suc (suc (twice k))))) ∙ client_req place.first 0 place.pools k p at), ap naming resp ∙ (is (suc (suc (suc (suc (suc (twice k)))))) ∙ (client_resp place.first 0 place.pools k p at ∙ ap (λ n. Answers n (by_offset p ∷ [])) plus)))

  pub disk_named : NamesBlk naming (disk_at place)
  disk_named = (ws, (begins, is 1))

  pub driver_named : NamesBlk naming (blk_driver_at place.first)
  driver_named = (
    ws,
    record {
      req = place.first + 2;
      disk_req = place.first;
      disk_resp = place.first + 1;
      resp = place.first + 3;
      ways_are = refl;
      asked = (is 2, is 3);
      passed_on = (begins, is 1);
    },
  )

  pub virt_named : length place.pools ≡ length place.entries → NamesBlk naming (virt_at place)
  virt_named many =
      let same = windows_are place.first 0 place.entries place.pools many in (
        subst (λ vs. NamesAsked naming (by_address place.pool ∷ vs) (place.first + 2) (place.first + 3)) same (is 2, is 3),
        λ k c at.
            let x = sharer_from place.first 0 place.entries place.pools k c at in
            let plus : 0 + k ≡ k = omega arith in
            let one : c.req ≡ place.first + 4 + 2 * k = x.3 ∙ ap (λ n. place.first + 4 + 2 * n) plus in
            let two : c.resp ≡ place.first + 5 + 2 * k = x.4 ∙ ap (λ n. place.first + 5 + 2 * n) plus in
            subst (λ (p : PoolAt). NamesAsked naming (by_offset p ∷ []) c.req c.resp) (sym x.2)
            (subst (λ n. NamesAsked naming (by_offset x.0 ∷ []) n c.resp) (sym one) (subst (λ n. NamesAsked naming (by_offset x.0 ∷ []) (place.first + 4 + 2 * k) n) (sym two) (client_asked k x.0 x.1))),
      )

  pub client_named : (k : ℕ) (asks : List Ask) (p : PoolAt) → slice_get place.pools k ≡ Some p → TakesBlocks p → NamesBlk naming (blk_client_at place.first k asks p)
  client_named k asks p at some = (some, client_asked k p at)
