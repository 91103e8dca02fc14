-- With which actor each pool of the block class is at the start: the virtualiser's with the
-- virtualiser, and each client's with the client.
use Rattle.std.proofs.Common.{◌≡◌, ◌≢◌, ◌⊎◌, ◌==◌, ◌+◌, ◌*◌, ◌<◌, ◌≤◌, ℕ, zero, suc, true, false, cond, Some, List, [], ◌∷◌, length, slice_get, refl, sym, ap, ◌∙◌, subst, arith, eq-eqb, inl, inr}
use Rattle.std.proofs.Math.Dec.{eqb}
use Rattle.std.proofs.lemmas.Bool.{cases_lt}
use Rattle.std.proofs.lemmas.Bool.Decides.{eqb_tells}
use Rattle.cargo_core.specs.declared.item.Ask.{Ask}
use Rattle.wire_core.specs.declared.names.QueueRow.{QueueRow}
use Rattle.play_core.specs.Sheets.{Scene, AreSeated}
use Rattle.play_core.specs.Wants.{intake}
use Rattle.play_core.proofs.Lists.{some_is, there_is, there_below}
use Rattle.owner_law.specs.Pools.Places.{PoolAt, sizes_of, AreNumbered, own_pool}
use Rattle.owner_law.specs.Pools.Spread.{share_of}
use Rattle.owner_law.proofs.PoolsLemmas.Sizing.{size_there}
use Rattle.owner_law.proofs.PoolsLemmas.Spreading.{its_none, its_one}
use Rattle.blk_law.specs.Sheets.Numbers.{BlkPlace, virt_at, blk_client_at}
use Rattle.blk_law.specs.Sheets.Parts.{BlkPart}
use Rattle.blk_quiet.specs.Pools.Naming.{blk_pools}
use Rattle.actor_set.specs.Parts.{HostilePart, Part, UartPart, DriverPart, RxPart, TxPart, ClientPart, NetworkPart, SendingPart, BlockPart}
use Rattle.actor_set.specs.Laws.Kinds.{AllCalm, sheet, scene_of}
use Rattle.wired_law.specs.Wiring.{HasBlk, IsOfBlock}
use Rattle.cast_law.proofs.PoolsLemmas.Blocks.{at_client}
use Rattle.cast_law.proofs.PoolsLemmas.Naming.{IsBlock, same_end}
use Rattle.cast_law.proofs.PoolsLemmas.Deals.{IsAmong, Deals}

-- of clients from a number on, the actor that has the pool of a number
module _ (who : ℕ → ℕ) (nobody : ℕ) where
  abbrev pub asker_in : List PoolAt → (k n : ℕ) → ℕ
  asker_in [] k n = nobody
  asker_in (p ∷ ps) k n = cond (p.number == n) (who k) (asker_in ps (k + 1) n)

  asker_there : (ps : List PoolAt) (k n j : ℕ) (p : PoolAt) → slice_get ps j ≡ Some p → p.number ≡ n → ((i : ℕ) (q : PoolAt) → slice_get ps i ≡ Some q → q.number ≡ n → i ≡ j) → asker_in ps k n ≡ who (k + j)
  asker_there [] k n j p at of alone = cc
  asker_there (q ∷ ps) k n zero p at of alone =
      let here : q.number ≡ n = ap (λ (x : PoolAt). x.number) (some_is at) ∙ of in
      let plus : k ≡ k + 0 = omega arith in
      ap (λ t. cond t (who k) (asker_in ps (k + 1) n)) (eq-eqb q.number n here) ∙ ap who plus
  asker_there (q ∷ ps) k n (suc j) p at of alone = by (eqb_tells q.number n) (asker_there ps (k + 1) n j p at of (λ i x x_at x_of. suc_is (alone (suc i) x x_at x_of)))
    where
      suc_is : {a b : ℕ} → suc a ≡ suc b → a ≡ b
      suc_is {a} {b} h = omega (arith, h)

      shift : k + 1 + j ≡ k + suc j
      shift = omega arith

      never : 0 ≡ suc j → ⊥
      never e = cc

      by : ((eqb q.number n ≡ true) × (q.number ≡ n)) ⊎ ((eqb q.number n ≡ false) × (q.number ≢ n)) → asker_in ps (k + 1) n ≡ who (k + 1 + j) → cond (q.number == n) (who k) (asker_in ps (k + 1) n) ≡ who (k + suc j)
      by (inl h) rest = absurd (never (alone 0 q refl h.1))
      by (inr h) rest = ap (λ t. cond t (who k) (asker_in ps (k + 1) n)) h.0 ∙ (rest ∙ ap who shift)

  asker_from : (ps : List PoolAt) (k n : ℕ) → (asker_in ps k n ≡ nobody) ⊎ ((j : ℕ) × (p : PoolAt) × (slice_get ps j ≡ Some p) × (p.number ≡ n) × (asker_in ps k n ≡ who (k + j)))
  asker_from [] k n = inl refl
  asker_from (q ∷ ps) k n = by (eqb_tells q.number n) (asker_from ps (k + 1) n)
    where
      here : k ≡ k + 0
      here = omega arith

      shift : (j : ℕ) → k + 1 + j ≡ k + suc j
      shift j = omega arith

      by : ((eqb q.number n ≡ true) × (q.number ≡ n)) ⊎ ((eqb q.number n ≡ false) × (q.number ≢ n)) → (asker_in ps (k + 1) n ≡ nobody) ⊎ ((j : ℕ) × (p : PoolAt) × (slice_get ps j ≡ Some p) × (p.number ≡ n) × (asker_in ps (k + 1) n ≡ who (k + 1 + j))) → (cond (q.number == n) (who k) (asker_in ps (k + 1) n) ≡ nobody) ⊎ ((j : ℕ) × (p : PoolAt) × (slice_get (q ∷ ps) j ≡ Some p) × (p.number ≡ n) × (cond (q.number == n) (who k) (asker_in ps (k + 1) n) ≡ who (k + j)))
      by (inl h) rest = inr (0, q, refl, h.1, ap (λ t. cond t (who k) (asker_in ps (k + 1) n)) h.0 ∙ ap who here)
      by (inr h) (inl none) = inl (ap (λ t. cond t (who k) (asker_in ps (k + 1) n)) h.0 ∙ none)
      by (inr h) (inr x) = inr (suc x.0, x.1, x.2, x.3, ap (λ t. cond t (who k) (asker_in ps (k + 1) n)) h.0 ∙ (x.4 ∙ ap who (shift x.0)))

module _ (rows : List QueueRow) (blk : BlkPlace) (cast : List Part) (calm : AllCalm cast) (has : HasBlk rows blk cast) (seated : AreSeated (sheet (scene_of cast)) rows cast) (apart : AreNumbered (blk_pools blk)) where
  abbrev scene : Scene
  scene = scene_of cast

  abbrev sizes : ℕ → ℕ
  sizes = sizes_of (blk_pools blk)

  -- no pool is that of two clients, nor the virtualiser's
  one_client : (i j : ℕ) (p q : PoolAt) → slice_get blk.pools i ≡ Some p → slice_get blk.pools j ≡ Some q → p.number ≡ q.number → i ≡ j
  one_client i j p q at there e = let same = apart (suc i) (suc j) p q at there e in omega (arith, same)

  not_own : (j : ℕ) (q : PoolAt) → slice_get blk.pools j ≡ Some q → blk.pool.number ≡ q.number → ⊥
  not_own j q at e = let same = apart 0 (suc j) blk.pool q refl at e in omega (arith, same)

  -- the client of a number
  abbrev IsClient : (k j : ℕ) → PoolAt → Type 0
  IsClient k j q = (asks : List Ask) × (slice_get cast k ≡ Some (BlockPart (blk_client_at blk.first j asks q)))

  abbrev who_by : (j : ℕ) → (j < length blk.pools) ⊎ (length blk.pools ≤ j) → ℕ
  who_by j (inl lt) = let q = there_is blk.pools j lt in (at_client rows blk cast calm has j q.0 q.1).2
  who_by j (inr le) = length cast

  abbrev who : ℕ → ℕ
  who j = who_by j (cases_lt j (length blk.pools))

  who_is : (j : ℕ) (q : PoolAt) → slice_get blk.pools j ≡ Some q → IsClient (who j) j q
  who_is j q at = by (cases_lt j (length blk.pools))
    where
      by : (d : (j < length blk.pools) ⊎ (length blk.pools ≤ j)) → IsClient (who_by j d) j q
      by (inl lt) =
          let p = there_is blk.pools j lt in
          let c = at_client rows blk cast calm has j p.0 p.1 in
          subst (λ x. IsClient c.2 j x) (some_is (sym p.1 ∙ at)) (c.0, c.3)
      by (inr le) = absurd (omega (arith, le, there_below blk.pools j q at))

  abbrev pub owner : ℕ → ℕ
  owner n = cond (blk.pool.number == n) has.virt.0 (asker_in who (length cast) blk.pools 0 n)

  owner_virt : owner blk.pool.number ≡ has.virt.0
  owner_virt = ap (λ t. cond t has.virt.0 (asker_in who (length cast) blk.pools 0 blk.pool.number)) (eq-eqb blk.pool.number blk.pool.number refl)

  owner_client : (j : ℕ) (q : PoolAt) → slice_get blk.pools j ≡ Some q → owner q.number ≡ who j
  owner_client j q at = by (eqb_tells blk.pool.number q.number)
    where
      plus : 0 + j ≡ j
      plus = omega arith

      by : ((eqb blk.pool.number q.number ≡ true) × (blk.pool.number ≡ q.number)) ⊎ ((eqb blk.pool.number q.number ≡ false) × (blk.pool.number ≢ q.number)) → cond (blk.pool.number == q.number) has.virt.0 (asker_in who (length cast) blk.pools 0 q.number) ≡ who j
      by (inl h) = absurd (not_own j q at h.1)
      by (inr h) = ap (λ t. cond t has.virt.0 (asker_in who (length cast) blk.pools 0 q.number)) h.0 ∙ (asker_there who (length cast) blk.pools 0 q.number j q at refl (λ i p p_at e. one_client i j p q p_at at e) ∙ ap who plus)

  -- which part the owner of a pool plays
  abbrev IsOwner : (n k : ℕ) → Type 0
  IsOwner n k = ((n ≡ blk.pool.number) × (slice_get cast k ≡ Some (BlockPart (virt_at blk)))) ⊎ ((j : ℕ) × (q : PoolAt) × (slice_get blk.pools j ≡ Some q) × (q.number ≡ n) × IsClient k j q)

  owner_is : (n k : ℕ) → k < length cast → owner n ≡ k → IsOwner n k
  owner_is n k lt is = by (eqb_tells blk.pool.number n) (asker_from who (length cast) blk.pools 0 n) is
    where
      plus : (j : ℕ) → 0 + j ≡ j
      plus j = omega arith

      by : ((eqb blk.pool.number n ≡ true) × (blk.pool.number ≡ n)) ⊎ ((eqb blk.pool.number n ≡ false) × (blk.pool.number ≢ n)) → (asker_in who (length cast) blk.pools 0 n ≡ length cast) ⊎ ((j : ℕ) × (q : PoolAt) × (slice_get blk.pools j ≡ Some q) × (q.number ≡ n) × (asker_in who (length cast) blk.pools 0 n ≡ who (0 + j))) → cond (blk.pool.number == n) has.virt.0 (asker_in who (length cast) blk.pools 0 n) ≡ k → IsOwner n k
      by (inl h) x e =
          let is_virt : has.virt.0 ≡ k = sym (ap (λ t. cond t has.virt.0 (asker_in who (length cast) blk.pools 0 n)) h.0) ∙ e in
          inl (sym h.1, subst (λ i. slice_get cast i ≡ Some (BlockPart (virt_at blk))) is_virt has.virt.1)
      by (inr h) (inl none) e = absurd (omega (arith, lt, none, sym (ap (λ t. cond t has.virt.0 (asker_in who (length cast) blk.pools 0 n)) h.0) ∙ e))
      by (inr h) (inr x) e =
          let is_who : who x.0 ≡ k = ap who (sym (plus x.0)) ∙ (sym x.4 ∙ (sym (ap (λ t. cond t has.virt.0 (asker_in who (length cast) blk.pools 0 n)) h.0) ∙ e)) in
          inr (x.0, x.1, x.2, x.3, subst (λ i. IsClient i x.0 x.1) is_who (who_is x.0 x.1 x.2))

  -- the hand of each part at the start is its share
  abbrev Shares : ℕ → Part → Type 0
  Shares k p = (pool : ℕ) → (sheet scene p).hand pool ≡ share_of sizes owner k pool

  -- a part with no pool of its own
  abbrev IsBare : Part → Type 0
  IsBare p = ((pool : ℕ) → (sheet scene p).hand pool ≡ []) × (p ≡ BlockPart (virt_at blk) → ⊥) × ((j : ℕ) (asks : List Ask) (q : PoolAt) → p ≡ BlockPart (blk_client_at blk.first j asks q) → ⊥)

  bare_shares : (k : ℕ) (p : Part) → slice_get cast k ≡ Some p → IsBare p → Shares k p
  bare_shares k p at bare pool = bare.0 pool ∙ its_none sizes owner k pool (λ is. by (owner_is pool k (there_below cast k p at) is))
    where
      by : IsOwner pool k → ⊥
      by (inl h) = bare.1 (some_is (sym at ∙ h.1))
      by (inr x) = bare.2 x.0 x.4.0 x.1 (some_is (sym at ∙ x.4.1))

  virt_shares : (k : ℕ) → slice_get cast k ≡ Some (BlockPart (virt_at blk)) → Shares k (BlockPart (virt_at blk))
  virt_shares k at =
      its_one sizes owner k blk.pool (size_there (blk_pools blk) 0 blk.pool apart refl)
      (owner_virt ∙ same_end scene rows cast seated has.virt.0 k (BlockPart (virt_at blk)) (BlockPart (virt_at blk)) has.virt.1 at 0 0 (intake (blk.first + 3)) refl refl)
      (λ n is. by n (owner_is n k (there_below cast k (BlockPart (virt_at blk)) at) is))
    where
      by : (n : ℕ) → IsOwner n k → n ≡ blk.pool.number
      by n (inl h) = h.0
      by n (inr x) = let e = some_is (sym at ∙ x.4.1) in absurd cc

  client_shares : (k j : ℕ) (asks : List Ask) (q : PoolAt) → slice_get blk.pools j ≡ Some q → slice_get cast k ≡ Some (BlockPart (blk_client_at blk.first j asks q)) → Shares k (BlockPart (blk_client_at blk.first j asks q))
  client_shares k j asks q there at =
      its_one sizes owner k (own_pool q) (size_there (blk_pools blk) (suc j) q apart there) (owner_client j q there ∙ mine)
      (λ n is. by n (owner_is n k (there_below cast k (BlockPart (blk_client_at blk.first j asks q)) at) is))
    where
      mine : who j ≡ k
      mine =
          let c = who_is j q there in
          same_end scene rows cast seated (who j) k (BlockPart (blk_client_at blk.first j c.0 q)) (BlockPart (blk_client_at blk.first j asks q)) c.1 at 0 0 (intake (blk.first + 5 + 2 * j)) refl refl

      by : (n : ℕ) → IsOwner n k → n ≡ q.number
      by n (inl h) = let e = some_is (sym at ∙ h.1) in absurd cc
      by n (inr x) =
          let e : BlockPart (blk_client_at blk.first j asks q) ≡ BlockPart (blk_client_at blk.first x.0 x.4.0 x.1) = some_is (sym at ∙ x.4.1) in
          let queue : blk.first + 5 + 2 * j ≡ blk.first + 5 + 2 * x.0 = cc in
          let same : x.0 ≡ j = omega (arith, queue) in
          let pools : x.1 ≡ q = some_is (sym x.2 ∙ (ap (slice_get blk.pools) same ∙ there)) in
          sym x.3 ∙ ap (λ (y : PoolAt). y.number) pools

  block_shares : (k : ℕ) (p : BlkPart) → slice_get cast k ≡ Some (BlockPart p) → IsOfBlock blk p → Shares k (BlockPart p)
  block_shares k p at (inl e) = bare_shares k (BlockPart p) at (subst (λ x. IsBare (BlockPart x)) (sym e) (λ pool. refl, λ g. absurd cc, λ j asks q g. absurd cc))
  block_shares k p at (inr (inl e)) = bare_shares k (BlockPart p) at (subst (λ x. IsBare (BlockPart x)) (sym e) (λ pool. refl, λ g. absurd cc, λ j asks q g. absurd cc))
  block_shares k p at (inr (inr (inl e))) = subst (λ x. Shares k (BlockPart x)) (sym e) (virt_shares k (at ∙ ap (λ x. Some (BlockPart x)) e))
  block_shares k p at (inr (inr (inr x))) = subst (λ y. Shares k (BlockPart y)) (sym x.5) (client_shares k x.0 x.2 x.3 x.4.has_pool (at ∙ ap (λ y. Some (BlockPart y)) x.5))

  at_place : (i : ℕ) (p : PoolAt) → slice_get (blk_pools blk) i ≡ Some p → owner p.number < length cast
  at_place zero p at =
      let same : blk.pool ≡ p = some_is at in
      let is = ap (λ (x : PoolAt). owner x.number) (sym same) ∙ owner_virt in
      let below = there_below cast has.virt.0 _ has.virt.1 in
      omega (arith, is, below)
  at_place (suc i) p at =
      let is = owner_client i p at in
      let below = there_below cast (who i) _ (who_is i p at).1 in
      omega (arith, is, below)

  -- no other number has an owner
  no_other : (n : ℕ) → IsAmong (blk_pools blk) n ⊎ (owner n ≡ length cast)
  no_other n = by (eqb_tells blk.pool.number n) (asker_from who (length cast) blk.pools 0 n)
    where
      by : ((eqb blk.pool.number n ≡ true) × (blk.pool.number ≡ n)) ⊎ ((eqb blk.pool.number n ≡ false) × (blk.pool.number ≢ n)) → (asker_in who (length cast) blk.pools 0 n ≡ length cast) ⊎ ((j : ℕ) × (q : PoolAt) × (slice_get blk.pools j ≡ Some q) × (q.number ≡ n) × (asker_in who (length cast) blk.pools 0 n ≡ who (0 + j))) → IsAmong (blk_pools blk) n ⊎ (owner n ≡ length cast)
      by (inl h) x = inl (0, blk.pool, refl, h.1)
      by (inr h) (inl none) = inr (ap (λ t. cond t has.virt.0 (asker_in who (length cast) blk.pools 0 n)) h.0 ∙ none)
      by (inr h) (inr x) = inl (suc x.0, x.1, x.2, x.3)

  part_shares : (k : ℕ) (p : Part) → slice_get cast k ≡ Some p → IsBlock p → Shares k p
  part_shares k (UartPart rx tx input) at is = absurd is
  part_shares k (DriverPart device_rx device_tx rx tx) at is = absurd is
  part_shares k (RxPart rx clients drops) at is = absurd is
  part_shares k (TxPart tx clients) at is = absurd is
  part_shares k (ClientPart rx tx script) at is = absurd is
  part_shares k (NetworkPart p) at is = absurd is
  part_shares k (SendingPart p) at is = absurd is
  part_shares k (BlockPart p) at is = block_shares k p at (has.only k p at)
  part_shares k (HostilePart p) at is = absurd is

  pub blk_deals : Deals scene cast IsBlock (blk_pools blk) owner
  blk_deals = record {
    here = at_place;
    others = no_other;
    mine = part_shares;
    aloof = λ k p at off n is. by k p at off n (owner_is n k (there_below cast k p at) is);
  }
    where
      by : (k : ℕ) (p : Part) → slice_get cast k ≡ Some p → (IsBlock p → ⊥) → (n : ℕ) → IsOwner n k → ⊥
      by k p at off n (inl h) = off (subst IsBlock (some_is (sym h.1 ∙ at)) tt)
      by k p at off n (inr x) = off (subst IsBlock (some_is (sym x.4.1 ∙ at)) tt)
