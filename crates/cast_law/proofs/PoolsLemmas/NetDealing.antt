-- With which actor each pool of the network is at the start: the device's receive pool with the
-- receiving virtualiser, and each client's two pools with the client.
use Rattle.std.proofs.Common.{◌≡◌, ◌≢◌, ◌⊎◌, ◌==◌, ◌||◌, ◌+◌, ◌<◌, ◌≤◌, ℕ, zero, suc, true, false, cond, Some, List, [], ◌∷◌, length, flat_map, slice_get, refl, sym, ap, ◌∙◌, subst, arith, eq-eqb, inl, inr}
use Rattle.std.proofs.Math.Dec.{eqb}
use Rattle.std.proofs.lemmas.Bool.{cases_lt}
use Rattle.std.proofs.lemmas.Bool.Decides.{eqb_tells}
use Rattle.frame_core.specs.declared.mac.Mac.{Mac}
use Rattle.class_expect.specs.NetExpect.Expecting.{Program}
use Rattle.wire_core.specs.declared.names.QueueRow.{QueueRow}
use Rattle.play_core.specs.Sheets.{Scene, AreSeated}
use Rattle.play_core.specs.Wants.{intake}
use Rattle.play_core.proofs.Lists.{some_is, there_is, there_below}
use Rattle.net_law.specs.Owners.Names.{ClientPools}
use Rattle.owner_law.specs.Pools.Places.{PoolAt, sizes_of, AreNumbered}
use Rattle.net_law.specs.Parts.Numbers.{client_first, receiver_at, client_at}
use Rattle.net_law.proofs.PartsLemmas.Pairs.{twice, pair_first, pair_second}
use Rattle.net_law.specs.TxParts.Numbers.{NetPlace, own_pools}
use Rattle.net_quiet.specs.Pools.Sizes.{net_pools}
use Rattle.owner_law.specs.Pools.Spread.{share_of}
use Rattle.owner_law.proofs.PoolsLemmas.Sizing.{size_there}
use Rattle.owner_law.proofs.PoolsLemmas.Spreading.{its_none, its_one, its_two}
use Rattle.actor_set.specs.Parts.{HostilePart, Part, UartPart, DriverPart, RxPart, TxPart, ClientPart, NetworkPart, SendingPart, BlockPart}
use Rattle.actor_set.specs.Laws.Kinds.{AllCalm, sheet, scene_of}
use Rattle.wired_law.specs.Wiring.{HasWhole, IsOfNetwork}
use Rattle.cast_law.proofs.PoolsLemmas.Table.{IsNetwork, at_receiver, at_client}
use Rattle.cast_law.proofs.PoolsLemmas.Naming.{same_end}
use Rattle.cast_law.proofs.PoolsLemmas.Deals.{IsAmong, Deals}

-- a number is one of two, or neither
abbrev Two : (a b n : ℕ) → Type 0
Two a b n = (((a == n) || (b == n)) ≡ true × ((n ≡ a) ⊎ (n ≡ b))) ⊎ (((a == n) || (b == n)) ≡ false × (((n ≡ a) ⊎ (n ≡ b)) → ⊥))

two_tells : (a b n : ℕ) → Two a b n
two_tells a b n = by (eqb_tells a n) (eqb_tells b n)
  where
    neither : (a ≢ n) → (b ≢ n) → ((n ≡ a) ⊎ (n ≡ b)) → ⊥
    neither x y (inl e) = x (sym e)
    neither x y (inr e) = y (sym e)

    by : ((eqb a n ≡ true) × (a ≡ n)) ⊎ ((eqb a n ≡ false) × (a ≢ n)) → ((eqb b n ≡ true) × (b ≡ n)) ⊎ ((eqb b n ≡ false) × (b ≢ n)) → (((a == n) || (b == n)) ≡ true × ((n ≡ a) ⊎ (n ≡ b))) ⊎ (((a == n) || (b == n)) ≡ false × (((n ≡ a) ⊎ (n ≡ b)) → ⊥))
    by (inl h) g = inl (ap (λ t. t || (b == n)) h.0, inl (sym h.1))
    by (inr h) (inl g) = inl (ap (λ t. t || (b == n)) h.0 ∙ g.0, inr (sym g.1))
    by (inr h) (inr g) = inr (ap (λ t. t || (b == n)) h.0 ∙ g.0, neither h.1 g.1)

-- the number is that of one of the client's pools
abbrev pub IsOfPools : ClientPools → ℕ → Type 0
IsOfPools q n = (n ≡ q.rx.number) ⊎ (n ≡ q.tx.number)

-- of clients from a number on, the actor that has the pool of a number
module _ (who : ℕ → ℕ) (nobody : ℕ) where
  abbrev pub owner_in : List ClientPools → (k n : ℕ) → ℕ
  owner_in [] k n = nobody
  owner_in (q ∷ qs) k n = cond ((q.rx.number == n) || (q.tx.number == n)) (who k) (owner_in qs (k + 1) n)

  owner_there : (qs : List ClientPools) (k n j : ℕ) (q : ClientPools) → slice_get qs j ≡ Some q → IsOfPools q n → ((i : ℕ) (p : ClientPools) → slice_get qs i ≡ Some p → IsOfPools p n → i ≡ j) → owner_in qs k n ≡ who (k + j)
  owner_there [] k n j q at of alone = cc
  owner_there (p ∷ qs) k n zero q at of alone = by (two_tells p.rx.number p.tx.number n)
    where
      here : k ≡ k + 0
      here = omega arith

      by : Two p.rx.number p.tx.number n → cond ((p.rx.number == n) || (p.tx.number == n)) (who k) (owner_in qs (k + 1) n) ≡ who (k + 0)
      by (inl h) = ap (λ t. cond t (who k) (owner_in qs (k + 1) n)) h.0 ∙ ap who here
      by (inr h) = absurd (h.1 (subst (λ x. IsOfPools x n) (sym (some_is at)) of))
  owner_there (p ∷ qs) k n (suc j) q at of alone = by (two_tells p.rx.number p.tx.number n) (owner_there qs (k + 1) n j q at of (λ i x x_at x_of. suc_is (alone (suc i) x x_at x_of)))
    where
      suc_is : {a b : ℕ} → suc a ≡ suc b → a ≡ b
      suc_is {a} {b} h = omega (arith, h)

      shift : k + 1 + j ≡ k + suc j
      shift = omega arith

      never : 0 ≡ suc j → ⊥
      never e = cc

      by : Two p.rx.number p.tx.number n → owner_in qs (k + 1) n ≡ who (k + 1 + j) → cond ((p.rx.number == n) || (p.tx.number == n)) (who k) (owner_in qs (k + 1) n) ≡ who (k + suc j)
      by (inl h) rest = absurd (never (alone 0 p refl h.1))
      by (inr h) rest = ap (λ t. cond t (who k) (owner_in qs (k + 1) n)) h.0 ∙ (rest ∙ ap who shift)

  owner_from : (qs : List ClientPools) (k n : ℕ) → (owner_in qs k n ≡ nobody) ⊎ ((j : ℕ) × (q : ClientPools) × (slice_get qs j ≡ Some q) × IsOfPools q n × (owner_in qs k n ≡ who (k + j)))
  owner_from [] k n = inl refl
  owner_from (p ∷ qs) k n = by (two_tells p.rx.number p.tx.number n) (owner_from qs (k + 1) n)
    where
      here : k ≡ k + 0
      here = omega arith

      shift : (j : ℕ) → k + 1 + j ≡ k + suc j
      shift j = omega arith

      by : Two p.rx.number p.tx.number n → (owner_in qs (k + 1) n ≡ nobody) ⊎ ((j : ℕ) × (q : ClientPools) × (slice_get qs j ≡ Some q) × IsOfPools q n × (owner_in qs (k + 1) n ≡ who (k + 1 + j))) → (cond ((p.rx.number == n) || (p.tx.number == n)) (who k) (owner_in qs (k + 1) n) ≡ nobody) ⊎ ((j : ℕ) × (q : ClientPools) × (slice_get (p ∷ qs) j ≡ Some q) × IsOfPools q n × (cond ((p.rx.number == n) || (p.tx.number == n)) (who k) (owner_in qs (k + 1) n) ≡ who (k + j)))
      by (inl h) rest = inr (0, p, refl, h.1, ap (λ t. cond t (who k) (owner_in qs (k + 1) n)) h.0 ∙ ap who here)
      by (inr h) (inl none) = inl (ap (λ t. cond t (who k) (owner_in qs (k + 1) n)) h.0 ∙ none)
      by (inr h) (inr x) = inr (suc x.0, x.1, x.2, x.3, ap (λ t. cond t (who k) (owner_in qs (k + 1) n)) h.0 ∙ (x.4 ∙ ap who (shift x.0)))

module _ (rows : List QueueRow) (net : NetPlace) (cast : List Part) (calm : AllCalm cast) (whole : HasWhole rows net cast) (first : net.first ≡ 0) (seated : AreSeated (sheet (scene_of cast)) rows cast) (apart : AreNumbered (net_pools net.pool net.pools)) where
  abbrev scene : Scene
  scene = scene_of cast

  abbrev sizes : ℕ → ℕ
  sizes = sizes_of (net_pools net.pool net.pools)

  abbrev all_pools : List PoolAt
  all_pools = net_pools net.pool net.pools

  -- the pools of clients, by their places among all
  rx_there : (j : ℕ) (q : ClientPools) → slice_get net.pools j ≡ Some q → slice_get all_pools (suc (twice j)) ≡ Some q.rx
  rx_there j q at = pair_first (λ (x : ClientPools). x.rx) (λ x. x.tx) net.pools j q at

  tx_there : (j : ℕ) (q : ClientPools) → slice_get net.pools j ≡ Some q → slice_get all_pools (suc (suc (twice j))) ≡ Some q.tx
  tx_there j q at = pair_second (λ (x : ClientPools). x.rx) (λ x. x.tx) net.pools j q at

  twice_is : (k : ℕ) → twice k ≡ k + k
  twice_is zero = refl
  twice_is (suc k) = let rest = twice_is k in omega (arith, rest)

  -- no pool is that of two clients, nor the device's
  one_client : (i j : ℕ) (p q : ClientPools) (n : ℕ) → slice_get net.pools i ≡ Some p → slice_get net.pools j ≡ Some q → IsOfPools p n → IsOfPools q n → i ≡ j
  one_client i j p q n at there (inl e) (inl g) = let same = apart (suc (twice i)) (suc (twice j)) p.rx q.rx (rx_there i p at) (rx_there j q there) (sym e ∙ g) in omega (arith, same, twice_is i, twice_is j)
  one_client i j p q n at there (inl e) (inr g) = let same = apart (suc (twice i)) (suc (suc (twice j))) p.rx q.tx (rx_there i p at) (tx_there j q there) (sym e ∙ g) in omega (arith, same, twice_is i, twice_is j)
  one_client i j p q n at there (inr e) (inl g) = let same = apart (suc (suc (twice i))) (suc (twice j)) p.tx q.rx (tx_there i p at) (rx_there j q there) (sym e ∙ g) in omega (arith, same, twice_is i, twice_is j)
  one_client i j p q n at there (inr e) (inr g) = let same = apart (suc (suc (twice i))) (suc (suc (twice j))) p.tx q.tx (tx_there i p at) (tx_there j q there) (sym e ∙ g) in omega (arith, same, twice_is i, twice_is j)

  not_device : (j : ℕ) (q : ClientPools) → slice_get net.pools j ≡ Some q → IsOfPools q net.pool.number → ⊥
  not_device j q at (inl e) = let same = apart 0 (suc (twice j)) net.pool q.rx refl (rx_there j q at) e in omega (arith, same)
  not_device j q at (inr e) = let same = apart 0 (suc (suc (twice j))) net.pool q.tx refl (tx_there j q at) e in omega (arith, same)

  two_pools : (j : ℕ) (q : ClientPools) → slice_get net.pools j ≡ Some q → q.rx.number ≡ q.tx.number → ⊥
  two_pools j q at e = let same = apart (suc (twice j)) (suc (suc (twice j))) q.rx q.tx (rx_there j q at) (tx_there j q at) e in omega (arith, same)

  -- the actors that have pools
  abbrev lender : ℕ
  lender = (at_receiver rows net cast calm whole first).0

  abbrev who_by : (j : ℕ) → (j < length net.pools) ⊎ (length net.pools ≤ j) → ℕ
  who_by j (inl lt) = let q = there_is net.pools j lt in (at_client rows net cast calm whole first j q.0 q.1).2.0
  who_by j (inr le) = length cast

  abbrev who : ℕ → ℕ
  who j = who_by j (cases_lt j (length net.pools))

  -- the client of a number
  abbrev IsClient : (k j : ℕ) → ClientPools → Type 0
  IsClient k j q = (program : Program) × (mac : Mac) × (slice_get cast k ≡ Some (NetworkPart (client_at 0 j program mac (own_pools q))))

  who_is : (j : ℕ) (q : ClientPools) → slice_get net.pools j ≡ Some q → IsClient (who j) j q
  who_is j q at = by (cases_lt j (length net.pools))
    where
      by : (d : (j < length net.pools) ⊎ (length net.pools ≤ j)) → IsClient (who_by j d) j q
      by (inl lt) =
          let p = there_is net.pools j lt in
          let c = at_client rows net cast calm whole first j p.0 p.1 in
          subst (λ x. IsClient c.2.0 j x) (some_is (sym p.1 ∙ at)) (c.0, c.1, c.2.1)
      by (inr le) = absurd (omega (arith, le, there_below net.pools j q at))

  abbrev pub owner : ℕ → ℕ
  owner n = cond (net.pool.number == n) lender (owner_in who (length cast) net.pools 0 n)

  owner_device : owner net.pool.number ≡ lender
  owner_device = ap (λ t. cond t lender (owner_in who (length cast) net.pools 0 net.pool.number)) (eq-eqb net.pool.number net.pool.number refl)

  owner_client : (j n : ℕ) (q : ClientPools) → slice_get net.pools j ≡ Some q → IsOfPools q n → owner n ≡ who j
  owner_client j n q at of = by (eqb_tells net.pool.number n)
    where
      plus : 0 + j ≡ j
      plus = omega arith

      by : ((eqb net.pool.number n ≡ true) × (net.pool.number ≡ n)) ⊎ ((eqb net.pool.number n ≡ false) × (net.pool.number ≢ n)) → cond (net.pool.number == n) lender (owner_in who (length cast) net.pools 0 n) ≡ who j
      by (inl h) = absurd (not_device j q at (subst (IsOfPools q) (sym h.1) of))
      by (inr h) = ap (λ t. cond t lender (owner_in who (length cast) net.pools 0 n)) h.0 ∙ (owner_there who (length cast) net.pools 0 n j q at of (λ i p p_at p_of. one_client i j p q n p_at at p_of of) ∙ ap who plus)

  -- which part the owner of a pool plays
  abbrev IsOwner : (n k : ℕ) → Type 0
  IsOwner n k = ((n ≡ net.pool.number) × (slice_get cast k ≡ Some (NetworkPart (receiver_at 0 net.pool net.macs)))) ⊎ ((j : ℕ) × (q : ClientPools) × (slice_get net.pools j ≡ Some q) × IsOfPools q n × IsClient k j q)

  owner_is : (n k : ℕ) → k < length cast → owner n ≡ k → IsOwner n k
  owner_is n k lt is = by (eqb_tells net.pool.number n) (owner_from who (length cast) net.pools 0 n) is
    where
      plus : (j : ℕ) → 0 + j ≡ j
      plus j = omega arith

      by : ((eqb net.pool.number n ≡ true) × (net.pool.number ≡ n)) ⊎ ((eqb net.pool.number n ≡ false) × (net.pool.number ≢ n)) → (owner_in who (length cast) net.pools 0 n ≡ length cast) ⊎ ((j : ℕ) × (q : ClientPools) × (slice_get net.pools j ≡ Some q) × IsOfPools q n × (owner_in who (length cast) net.pools 0 n ≡ who (0 + j))) → cond (net.pool.number == n) lender (owner_in who (length cast) net.pools 0 n) ≡ k → IsOwner n k
      by (inl h) x e =
          let is_lender : lender ≡ k = sym (ap (λ t. cond t lender (owner_in who (length cast) net.pools 0 n)) h.0) ∙ e in
          inl (sym h.1, subst (λ i. slice_get cast i ≡ Some (NetworkPart (receiver_at 0 net.pool net.macs))) is_lender (at_receiver rows net cast calm whole first).1)
      by (inr h) (inl none) e = absurd (omega (arith, lt, none, sym (ap (λ t. cond t lender (owner_in who (length cast) net.pools 0 n)) h.0) ∙ e))
      by (inr h) (inr x) e =
          let is_who : who x.0 ≡ k = ap who (sym (plus x.0)) ∙ (sym x.4 ∙ (sym (ap (λ t. cond t lender (owner_in who (length cast) net.pools 0 n)) h.0) ∙ e)) in
          inr (x.0, x.1, x.2, x.3, subst (λ i. IsClient i x.0 x.1) is_who (who_is x.0 x.1 x.2))

  -- the hand of each part at the start is its share
  abbrev Shares : ℕ → Part → Type 0
  Shares k p = (pool : ℕ) → (sheet scene p).hand pool ≡ share_of sizes owner k pool

  -- a part with no pool of its own
  abbrev IsBare : Part → Type 0
  IsBare p = ((pool : ℕ) → (sheet scene p).hand pool ≡ []) × (p ≡ NetworkPart (receiver_at 0 net.pool net.macs) → ⊥) × ((j : ℕ) (program : Program) (mac : Mac) (q : ClientPools) → p ≡ NetworkPart (client_at 0 j program mac (own_pools q)) → ⊥)

  bare_shares : (k : ℕ) (p : Part) → slice_get cast k ≡ Some p → IsBare p → Shares k p
  bare_shares k p at bare pool = bare.0 pool ∙ its_none sizes owner k pool (λ is. by (owner_is pool k (there_below cast k p at) is))
    where
      by : IsOwner pool k → ⊥
      by (inl h) = bare.1 (some_is (sym at ∙ h.1))
      by (inr x) = bare.2 x.0 x.4.0 x.4.1 x.1 (some_is (sym at ∙ x.4.2))

  lender_shares : (k : ℕ) → slice_get cast k ≡ Some (NetworkPart (receiver_at 0 net.pool net.macs)) → Shares k (NetworkPart (receiver_at 0 net.pool net.macs))
  lender_shares k at =
      its_one sizes owner k net.pool (size_there all_pools 0 net.pool apart refl)
      (owner_device ∙ same_end scene rows cast seated lender k (NetworkPart (receiver_at 0 net.pool net.macs)) (NetworkPart (receiver_at 0 net.pool net.macs)) (at_receiver rows net cast calm whole first).1 at 0 0 (intake 4) refl refl)
      (λ n is. by n (owner_is n k (there_below cast k (NetworkPart (receiver_at 0 net.pool net.macs)) at) is))
    where
      by : (n : ℕ) → IsOwner n k → n ≡ net.pool.number
      by n (inl h) = h.0
      by n (inr x) = let e = some_is (sym at ∙ x.4.2) in absurd cc

  client_shares : (k j : ℕ) (program : Program) (mac : Mac) (q : ClientPools) → slice_get net.pools j ≡ Some q → slice_get cast k ≡ Some (NetworkPart (client_at 0 j program mac (own_pools q))) → Shares k (NetworkPart (client_at 0 j program mac (own_pools q)))
  client_shares k j program mac q there at =
      its_two sizes owner k (own_pools q).rx (own_pools q).tx (size_there all_pools (suc (twice j)) q.rx apart (rx_there j q there)) (size_there all_pools (suc (suc (twice j))) q.tx apart (tx_there j q there))
      (two_pools j q there) (owner_client j q.rx.number q there (inl refl) ∙ mine) (owner_client j q.tx.number q there (inr refl) ∙ mine)
      (λ n is. by n (owner_is n k (there_below cast k (NetworkPart (client_at 0 j program mac (own_pools q))) at) is))
    where
      mine : who j ≡ k
      mine =
          let c = who_is j q there in
          same_end scene rows cast seated (who j) k (NetworkPart (client_at 0 j c.0 c.1 (own_pools q))) (NetworkPart (client_at 0 j program mac (own_pools q))) c.2 at 0 0 (intake (client_first 0 j + 2)) refl refl

      by : (n : ℕ) → IsOwner n k → (n ≡ q.rx.number) ⊎ (n ≡ q.tx.number)
      by n (inl h) = let e = some_is (sym at ∙ h.1) in absurd cc
      by n (inr x) =
          let e : NetworkPart (client_at 0 j program mac (own_pools q)) ≡ NetworkPart (client_at 0 x.0 x.4.0 x.4.1 (own_pools x.1)) = some_is (sym at ∙ x.4.2) in
          let queue : client_first 0 j + 2 ≡ client_first 0 x.0 + 2 = cc in
          let same : x.0 ≡ j = omega (arith, queue) in
          let pools : x.1 ≡ q = some_is (sym x.2 ∙ (ap (slice_get net.pools) same ∙ there)) in
          subst (λ y. IsOfPools y n) pools x.3

  network_shares : (k : ℕ) (p : Part) → slice_get cast k ≡ Some p → IsOfNetwork net scene.frames p → Shares k p
  network_shares k p at (inl e) = bare_shares k p at (subst IsBare (sym e) (λ pool. refl, λ g. absurd cc, λ j program mac q g. absurd cc))
  network_shares k p at (inr (inl e)) = bare_shares k p at (subst IsBare (sym e) (λ pool. refl, λ g. absurd cc, λ j program mac q g. absurd cc))
  network_shares k p at (inr (inr (inl e))) =
      let is : p ≡ NetworkPart (receiver_at 0 net.pool net.macs) = e ∙ ap (λ n. NetworkPart (receiver_at n net.pool net.macs)) first in
      subst (Shares k) (sym is) (lender_shares k (at ∙ ap Some is))
  network_shares k p at (inr (inr (inr (inl e)))) = bare_shares k p at (subst IsBare (sym e) (λ pool. refl, λ g. absurd cc, λ j program mac q g. absurd cc))
  network_shares k p at (inr (inr (inr (inr (inl x))))) = bare_shares k p at (subst IsBare (sym x.2) (λ pool. refl, λ g. absurd cc, λ j program mac q g. absurd cc))
  network_shares k p at (inr (inr (inr (inr (inr x))))) =
      let is : p ≡ NetworkPart (client_at 0 x.0 x.1 x.2 (own_pools x.3)) = x.5 ∙ ap (λ n. NetworkPart (client_at n x.0 x.1 x.2 (own_pools x.3))) first in
      subst (Shares k) (sym is) (client_shares k x.0 x.1 x.2 x.3 x.4.pools (at ∙ ap Some is))

  -- a pool of a client is one of the two of a client
  pool_from : (qs : List ClientPools) (i : ℕ) (p : PoolAt) → slice_get (flat_map (λ (q : ClientPools). q.rx ∷ q.tx ∷ []) qs) i ≡ Some p → (j : ℕ) × (q : ClientPools) × (slice_get qs j ≡ Some q) × IsOfPools q p.number
  pool_from [] i p at = cc
  pool_from (q ∷ qs) zero p at = (0, q, refl, inl (ap (λ (x : PoolAt). x.number) (sym (some_is at))))
  pool_from (q ∷ qs) (suc zero) p at = (0, q, refl, inr (ap (λ (x : PoolAt). x.number) (sym (some_is at))))
  pool_from (q ∷ qs) (suc (suc i)) p at = let x = pool_from qs i p at in (suc x.0, x.1, x.2, x.3)

  at_place : (i : ℕ) (p : PoolAt) → slice_get all_pools i ≡ Some p → owner p.number < length cast
  at_place zero p at =
      let same : net.pool ≡ p = some_is at in
      let is = ap (λ (x : PoolAt). owner x.number) (sym same) ∙ owner_device in
      omega (arith, is, there_below cast lender _ (at_receiver rows net cast calm whole first).1)
  at_place (suc i) p at =
      let x = pool_from net.pools i p at in
      let is = owner_client x.0 p.number x.1 x.2 x.3 in
      omega (arith, is, there_below cast (who x.0) _ (who_is x.0 x.1 x.2).2)

  -- no other number has an owner
  some_pool : (j : ℕ) (q : ClientPools) (n : ℕ) → slice_get net.pools j ≡ Some q → IsOfPools q n → IsAmong all_pools n
  some_pool j q n at (inl e) = (suc (twice j), q.rx, rx_there j q at, sym e)
  some_pool j q n at (inr e) = (suc (suc (twice j)), q.tx, tx_there j q at, sym e)

  no_other : (n : ℕ) → IsAmong all_pools n ⊎ (owner n ≡ length cast)
  no_other n = by (eqb_tells net.pool.number n) (owner_from who (length cast) net.pools 0 n)
    where
      by : ((eqb net.pool.number n ≡ true) × (net.pool.number ≡ n)) ⊎ ((eqb net.pool.number n ≡ false) × (net.pool.number ≢ n)) → (owner_in who (length cast) net.pools 0 n ≡ length cast) ⊎ ((j : ℕ) × (q : ClientPools) × (slice_get net.pools j ≡ Some q) × IsOfPools q n × (owner_in who (length cast) net.pools 0 n ≡ who (0 + j))) → IsAmong all_pools n ⊎ (owner n ≡ length cast)
      by (inl h) x = inl (0, net.pool, refl, h.1)
      by (inr h) (inl none) = inr (ap (λ t. cond t lender (owner_in who (length cast) net.pools 0 n)) h.0 ∙ none)
      by (inr h) (inr x) = inl (some_pool x.0 x.1 n x.2 x.3)

  part_shares : (k : ℕ) (p : Part) → slice_get cast k ≡ Some p → IsNetwork p → Shares k p
  part_shares k (UartPart rx tx input) at is = absurd is
  part_shares k (DriverPart device_rx device_tx rx tx) at is = absurd is
  part_shares k (RxPart rx clients drops) at is = absurd is
  part_shares k (TxPart tx clients) at is = absurd is
  part_shares k (ClientPart rx tx script) at is = absurd is
  part_shares k (NetworkPart p) at is = network_shares k (NetworkPart p) at (whole.only k p at)
  part_shares k (SendingPart p) at is = network_shares k (SendingPart p) at (whole.only_sender k p at)
  part_shares k (BlockPart p) at is = absurd is
  part_shares k (HostilePart p) at is = absurd is

  pub net_deals : Deals scene cast IsNetwork all_pools owner
  net_deals = record {
    here = at_place;
    others = no_other;
    mine = part_shares;
    aloof = λ k p at off n is. by k p at off n (owner_is n k (there_below cast k p at) is);
  }
    where
      by : (k : ℕ) (p : Part) → slice_get cast k ≡ Some p → (IsNetwork p → ⊥) → (n : ℕ) → IsOwner n k → ⊥
      by k p at off n (inl h) = off (subst IsNetwork (some_is (sym h.1 ∙ at)) tt)
      by k p at off n (inr x) = off (subst IsNetwork (some_is (sym x.4.2 ∙ at)) tt)
