-- Each buffer of a cast's pools is there once, and none has another length than its pool's.
use Rattle.std.proofs.Common.{◌≡◌, ◌≢◌, ◌⊎◌, ◌==◌, ◌&&◌, ◌+◌, ◌++◌, ◌<◌, ◌≤◌, ℕ, zero, suc, Bool, true, false, not, cond, if◌then◌else◌, Some, List, [], ◌∷◌, length, map, flat_map, slice_get, count_by, refl, sym, ap, ◌∙◌, subst, arith, eq-eqb, inl, inr}
use Rattle.std.specs.List.{sum_by}
use Rattle.std.proofs.Math.Dec.{eqb}
use Rattle.std.proofs.lemmas.Bool.{cases_lt}
use Rattle.std.proofs.lemmas.Bool.Decides.{eqb_tells}
use Rattle.std.proofs.lemmas.List.{length-map}
use Rattle.std.proofs.lemmas.List.Sums.{sum_by-cons, sum_by-append}
use Rattle.wire_core.specs.declared.names.PoolRow.{PoolRow}
use Rattle.wire_core.specs.declared.names.QueueRow.{QueueRow}
use Rattle.wire_core.specs.Marks.{sum_below}
use Rattle.play_core.specs.Sheets.{Scene, AreSeated}
use Rattle.play_core.proofs.Lists.{some_is, there_is}
use Rattle.owner_law.specs.Things.{Buffer}
use Rattle.owner_law.specs.Keeping.{Keeper, keeper_of, at_start}
use Rattle.owner_law.specs.Pools.Places.{PoolAt, numbers_from, pool_hand}
use Rattle.owner_law.proofs.Sums.{sum_flat, sum_none}
use Rattle.owner_law.proofs.PoolsLemmas.Sizing.{number_there, spread_dealt}
use Rattle.buffer_kit.specs.Conserving.{Count, the_page, of_other_length}
use Rattle.wired_law.proofs.PageLaw.ActorsLemmas.Pages.{same_sum, none_sum, first_sum}
use Rattle.wired_law.proofs.PageLaw.LawLemmas.Placing.{below_at}
use Rattle.net_law.specs.Parts.Parts.{NetDevice, NetDriver, NetReceiver, NetCopier, NetClient}
use Rattle.blk_law.specs.Sheets.Parts.{DiskDevice, BlkDriver, BlkVirt, BlkClient}
use Rattle.actor_set.specs.Parts.{PageAt, Part, UartPart, DriverPart, RxPart, TxPart, ClientPart, NetworkPart, SendingPart, BlockPart, HostilePart}
use Rattle.actor_set.specs.Laws.Kinds.{manner_of, AllCalm, sheet, scene_of}
use Rattle.actor_set.specs.Rogues.{page_weighs, pages_in, pages_weigh}
use Rattle.play_core.specs.Manners.{Calm}
use Rattle.cast_law.specs.Pools.Places.{PoolPlace, IsPlaced, HasPools, place_sizes}
use Rattle.cast_law.specs.Pools.Pooling.{keepers_at}
use Rattle.cast_law.specs.Pages.Paging.{part_pages, part_pools, part_weighs, pool_weighs, pools_weigh}
use Rattle.cast_law.proofs.PoolsLemmas.Dealing.{owner, are_spread, pool_owned}

abbrev pick : Bool → ℕ
pick b = if b then 1 else 0

module _ (pool number : ℕ) where
  abbrev the : Count
  the = the_page (record { 0 = pool }) number

  abbrev buffer : Buffer
  buffer = record { pool = pool; no = number }

  numbers : (from n : ℕ) → sum_below (λ no. pick ((from + no) == number)) n ≡ count_by (λ x. x == number) (numbers_from from n)
  numbers from zero = refl
  numbers from (suc n) =
      let first = first_sum (λ no. pick ((from + no) == number)) n in
      let begin : pick ((from + 0) == number) ≡ pick (from == number) = ap (λ x. pick (x == number)) (omega arith) in
      let shift = same_sum (λ no. pick ((from + suc no) == number)) (λ no. pick (((from + 1) + no) == number)) n (λ no lt. ap (λ x. pick (x == number)) (omega arith)) in
      omega (arith, first, begin, shift, numbers (from + 1) n, sum_by-cons (λ x. cond {A = ℕ} (x == number) 1 0) from (numbers_from (from + 1) n))

  -- the buffer of a number is counted as often as a pool's hand has it
  page_count : (p : PoolAt) → pool_weighs the p ≡ count_by (λ x. x == number) (pool_hand p pool)
  page_count p = by (p.number == pool)
    where
      by : (t : Bool) → sum_below (λ no. if t && (no == number) then 1 else 0) p.buffers ≡ count_by (λ x. x == number) (if t then numbers_from 0 p.buffers else [])
      by true =
          let same = same_sum (λ no. pick (no == number)) (λ no. pick ((0 + no) == number)) p.buffers (λ no lt. ap (λ x. pick (x == number)) (omega arith)) in
          omega (arith, same, numbers 0 p.buffers)
      by false = none_sum p.buffers

  one_count : (p : PoolAt) → sum_by (pool_weighs the) (p ∷ []) ≡ count_by (λ x. x == number) (pool_hand p pool)
  one_count p = omega (arith, sum_by-cons (pool_weighs the) p [], page_count p)

  -- so it is counted where a page is told of it
  told_count : (pages : List PageAt) → pages_weigh the pages ≡ count_by (λ x. x == number) (pages_in pages pool)
  told_count [] = refl
  told_count (p ∷ ps) = omega (arith, sum_by-cons (page_weighs the) p ps, by (p.pool == pool) (told_count ps))
    where
      by : (t : Bool) → pages_weigh the ps ≡ count_by (λ x. x == number) (pages_in ps pool) → pick (t && (p.number == number)) + pages_weigh the ps ≡ count_by (λ x. x == number) (cond t (p.number ∷ pages_in ps pool) (pages_in ps pool))
      by true rest = omega (arith, rest, sum_by-cons (λ x. cond {A = ℕ} (x == number) 1 0) p.number (pages_in ps pool))
      by false rest = omega (arith, rest)

  pub part_count : (scene : Scene) (p : Part) → part_weighs the p ≡ at_start (sheet scene p).hand buffer
  part_count scene (UartPart rx tx input) = refl
  part_count scene (DriverPart device_rx device_tx rx tx) = refl
  part_count scene (RxPart rx clients drops) = refl
  part_count scene (TxPart tx clients) = refl
  part_count scene (ClientPart rx tx script) = refl
  part_count scene (NetworkPart (NetDevice rx_free rx_active tx_active tx_free frames drops)) = refl
  part_count scene (NetworkPart (NetDriver ways)) = refl
  part_count scene (NetworkPart (NetReceiver active free p clients)) = omega (arith, one_count p)
  part_count scene (NetworkPart (NetCopier lease_active lease_free rx_active rx_free drops)) = refl
  part_count scene (NetworkPart (NetClient program mac rx_active rx_free tx_active tx_free rx tx)) =
      let both = sum_by-append (λ x. cond {A = ℕ} (x == number) 1 0) (pool_hand rx pool) (pool_hand tx pool) in
      omega (arith, both, sum_by-cons (pool_weighs the) rx (tx ∷ []), page_count rx, one_count tx)
  part_count scene (SendingPart p) = refl
  part_count scene (BlockPart (DiskDevice req resp image)) = refl
  part_count scene (BlockPart (BlkDriver ways)) = refl
  part_count scene (BlockPart (BlkVirt req resp sectors p clients)) = omega (arith, one_count p)
  part_count scene (BlockPart (BlkClient req resp asks p)) = omega (arith, one_count p)
  part_count scene (HostilePart p) = omega (arith, told_count p.pages)

  pub parts_count : (scene : Scene) (cast : List Part) → pools_weigh the cast ≡ sum_by (λ (k : Keeper). at_start k.hand buffer) (map (λ p. keeper_of (sheet scene p)) cast)
  parts_count scene [] = refl
  parts_count scene (p ∷ cast) =
      omega (
        arith,
        sum_by-cons (part_weighs the) p cast,
        sum_by-cons (λ (k : Keeper). at_start k.hand buffer) (keeper_of (sheet scene p)) (map (λ q. keeper_of (sheet scene q)) cast),
        part_count scene p,
        parts_count scene cast,
      )

-- a part that isn't hostile has its pools alone
no_pages : (p : Part) → manner_of p ≡ Calm → part_pages p ≡ []
no_pages (UartPart rx tx input) calm = refl
no_pages (DriverPart device_rx device_tx rx tx) calm = refl
no_pages (RxPart rx clients drops) calm = refl
no_pages (TxPart tx clients) calm = refl
no_pages (ClientPart rx tx script) calm = refl
no_pages (NetworkPart p) calm = refl
no_pages (SendingPart p) calm = refl
no_pages (BlockPart p) calm = refl
no_pages (HostilePart p) calm = absurd cc

calm_weigh : (f : Count) (cast : List Part) → AllCalm cast → pools_weigh f cast ≡ sum_by (λ p. sum_by (pool_weighs f) (part_pools p)) cast
calm_weigh f [] calm = refl
calm_weigh f (p ∷ cast) calm =
    omega (
      arith,
      sum_by-cons (part_weighs f) p cast,
      sum_by-cons (λ (q : Part). sum_by (pool_weighs f) (part_pools q)) p cast,
      ap (pages_weigh f) (no_pages p (calm 0 p refl)),
      calm_weigh f cast (λ k q at. calm (suc k) q at),
    )

at_least : {X : Type 0} (g : X → ℕ) (xs : List X) (k : ℕ) (x : X) → slice_get xs k ≡ Some x → g x ≤ sum_by g xs
at_least g [] k x at = cc
at_least g (y ∷ xs) zero x at = omega (arith, sum_by-cons g y xs, ap g (some_is at))
at_least g (y ∷ xs) (suc k) x at = omega (arith, sum_by-cons g y xs, at_least g xs k x at)

two_least : {X : Type 0} (g : X → ℕ) (xs : List X) (i j : ℕ) (x y : X) → slice_get xs i ≡ Some x → slice_get xs j ≡ Some y → (i ≡ j → ⊥) → g x + g y ≤ sum_by g xs
two_least g [] i j x y at at' ne = cc
two_least g (z ∷ xs) zero zero x y at at' ne = absurd (ne refl)
two_least g (z ∷ xs) zero (suc j) x y at at' ne = omega (arith, sum_by-cons g z xs, ap g (some_is at), at_least g xs j y at')
two_least g (z ∷ xs) (suc i) zero x y at at' ne = omega (arith, sum_by-cons g z xs, ap g (some_is at'), at_least g xs i x at)
two_least g (z ∷ xs) (suc i) (suc j) x y at at' ne = omega (arith, sum_by-cons g z xs, two_least g xs i j x y at at' (λ e. ne (ap (λ n. suc n) e)))

-- an element of one of the lists is one of all together
get_left : {Y : Type 0} (xs ys : List Y) (j : ℕ) (y : Y) → slice_get xs j ≡ Some y → slice_get (xs ++ ys) j ≡ Some y
get_left [] ys j y at = cc
get_left (x ∷ xs) ys zero y at = at
get_left (x ∷ xs) ys (suc j) y at = get_left xs ys j y at

get_right : {Y : Type 0} (xs ys : List Y) (n : ℕ) (y : Y) → slice_get ys n ≡ Some y → (m : ℕ) × (slice_get (xs ++ ys) m ≡ Some y)
get_right [] ys n y at = (n, at)
get_right (x ∷ xs) ys n y at = let r = get_right xs ys n y at in (suc r.0, r.1)

pub in_flat : {X Y : Type 0} (g : X → List Y) (xs : List X) (i : ℕ) (x : X) → slice_get xs i ≡ Some x → (j : ℕ) (y : Y) → slice_get (g x) j ≡ Some y → (n : ℕ) × (slice_get (flat_map g xs) n ≡ Some y)
in_flat g [] i x at j y at' = cc
in_flat g (z ∷ xs) zero x at j y at' = (j, get_left (g z) (flat_map g xs) j y (subst (λ w. slice_get (g w) j ≡ Some y) (sym (some_is at)) at'))
in_flat g (z ∷ xs) (suc i) x at j y at' = let r = in_flat g xs i x at j y at' in get_right (g z) (flat_map g xs) r.0 y r.1

module _ (rows : List QueueRow) (pools : List PoolRow) (place : PoolPlace) (cast : List Part) (calm : AllCalm cast) (seated : AreSeated (sheet (scene_of cast)) rows cast) (placed : IsPlaced rows place cast) (has : HasPools pools place) where
  abbrev owns : ℕ → ℕ
  owns = owner rows cast calm seated place.net place.blk placed.net placed.blk has.numbered

  -- at most once, whatever the number
  pub few : (pool number : ℕ) → pools_weigh (the_page (record { 0 = pool }) number) cast ≤ 1
  few pool number =
      let dealt = spread_dealt (place_sizes place) owns (keepers_at cast) (are_spread rows cast calm seated place.net place.blk placed.net placed.blk has.numbered) (record { pool = pool; no = number }) in
      omega (arith, parts_count pool number (scene_of cast) cast, dealt)

  pub pages_once : (pool number : ℕ) → number < place_sizes place pool → pools_weigh (the_page (record { 0 = pool }) number) cast ≡ 1
  pages_once pool number lt = by (pool_owned rows cast calm seated place.net place.blk placed.net placed.blk has.numbered pool)
    where
      by : (owns pool < length cast) ⊎ (place_sizes place pool ≡ 0) → pools_weigh (the_page (record { 0 = pool }) number) cast ≡ 1
      by (inl there) =
          let same : length (keepers_at cast) ≡ length cast = length-map cast (λ p. keeper_of (sheet (scene_of cast) p)) in
          let p = there_is (keepers_at cast) (owns pool) (omega (arith, there, same)) in
          let spread = are_spread rows cast calm seated place.net place.blk placed.net placed.blk has.numbered (owns pool) p.0 p.1 pool in
          let hand : p.0.hand pool ≡ numbers_from 0 (place_sizes place pool) = spread ∙ ap (λ t. cond t (numbers_from 0 (place_sizes place pool)) []) (eq-eqb (owns pool) (owns pool) refl) in
          let mine : at_start p.0.hand (record { pool = pool; no = number }) ≡ count_by (λ x. x == number) (numbers_from 0 (place_sizes place pool)) = ap (count_by (λ x. x == number)) hand in
          let some = number_there 0 (place_sizes place pool) number (omega arith) (omega (arith, lt)) in
          let all = at_least (λ (k : Keeper). at_start k.hand (record { pool = pool; no = number })) (keepers_at cast) (owns pool) p.0 p.1 in
          omega (arith, parts_count pool number (scene_of cast) cast, few pool number, mine, some, all)
      by (inr none) = absurd (omega (arith, none, lt))

  flat : (f : Count) → sum_by (pool_weighs f) (flat_map part_pools cast) ≡ pools_weigh f cast
  flat f = sum_flat (pool_weighs f) part_pools cast ∙ sym (calm_weigh f cast calm)

  -- a pool's first buffer is counted
  first_there : (number : ℕ) (p : PoolAt) → p.number ≡ number → 1 ≤ p.buffers → 1 ≤ pool_weighs (the_page (record { 0 = number }) 0) p
  first_there number p is some =
      let first = below_at (λ no. the_page (record { 0 = number }) 0 (record { 0 = p.number }) no p.size) p.buffers 0 some in
      let one : pick ((p.number == number) && (0 == 0)) ≡ 1 = ap (λ t. pick (t && (0 == 0))) (eq-eqb p.number number is) ∙ ap (λ t. pick t) (eq-eqb 0 0 refl) in
      omega (arith, first, one)

  -- two pools of one number that have buffers are one
  pub lengths_one : (i : ℕ) (p : PoolAt) → slice_get (flat_map part_pools cast) i ≡ Some p → 1 ≤ p.buffers → pools_weigh (of_other_length (record { 0 = p.number }) p.size) cast ≡ 0
  lengths_one i p at some = sym (flat (of_other_length (record { 0 = p.number }) p.size)) ∙ sum_none (pool_weighs (of_other_length (record { 0 = p.number }) p.size)) (flat_map part_pools cast) each
    where
      each : (j : ℕ) (q : PoolAt) → slice_get (flat_map part_pools cast) j ≡ Some q → pool_weighs (of_other_length (record { 0 = p.number }) p.size) q ≡ 0
      each j q at' = by (eqb_tells q.number p.number) (eqb_tells q.size p.size) (cases_lt 0 q.buffers)
        where
          none : ((q.number == p.number) && not (q.size == p.size)) ≡ false → pool_weighs (of_other_length (record { 0 = p.number }) p.size) q ≡ 0
          none off = ap (λ t. sum_below (λ no. pick t) q.buffers) off ∙ none_sum q.buffers

          and_false : (t : Bool) → (t && not true) ≡ false
          and_false true = refl
          and_false false = refl

          by : ((eqb q.number p.number ≡ true) × (q.number ≡ p.number)) ⊎ ((eqb q.number p.number ≡ false) × (q.number ≢ p.number)) → ((eqb q.size p.size ≡ true) × (q.size ≡ p.size)) ⊎ ((eqb q.size p.size ≡ false) × (q.size ≢ p.size)) → (0 < q.buffers) ⊎ (q.buffers ≤ 0) → pool_weighs (of_other_length (record { 0 = p.number }) p.size) q ≡ 0
          by (inr n) s b = none (ap (λ t. t && not (q.size == p.size)) n.0)
          by (inl n) (inl s) b = none (ap (λ t. (q.number == p.number) && not t) s.0 ∙ and_false (q.number == p.number))
          by (inl n) (inr s) (inl more) =
              let apart : i ≡ j → ⊥ = λ e. s.1 (ap (λ (x : PoolAt). x.size) (some_is (sym at' ∙ (ap (slice_get (flat_map part_pools cast)) (sym e) ∙ at)))) in
              let two = two_least (pool_weighs (the_page (record { 0 = p.number }) 0)) (flat_map part_pools cast) i j p q at at' apart in
              absurd (omega (arith, two, flat (the_page (record { 0 = p.number }) 0), few p.number 0, first_there p.number p refl some, first_there p.number q n.1 (omega (arith, more))))
          by (inl n) (inr s) (inr less) =
              let zero : q.buffers ≡ 0 = omega (arith, less) in
              ap (sum_below (λ no. of_other_length (record { 0 = p.number }) p.size (record { 0 = q.number }) no q.size)) zero
