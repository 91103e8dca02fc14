-- Nothing comes out of turn in the block class, where each client put requests in its own buffers.
use Rattle.std.proofs.Common.{◌≡◌, ◌+◌, ◌*◌, ◌/◌, ◌++◌, ◌&&◌, ◌≤◌, ℕ, zero, suc, Bool, true, false, not, Option, Some, List, [], ◌∷◌, All, length, map, take, drop, slice_get, refl, sym, ap, ap₂, ◌∙◌, subst, arith, le-leb}
use Rattle.std.specs.List.{filter}
use Rattle.cargo_core.specs.Lists.{IsPrefix}
use Rattle.wire_core.specs.declared.names.QueueId.{QueueId}
use Rattle.wire_core.specs.Deeds.{Cargo}
use Rattle.wire_core.specs.Lists.{Passed}
use Rattle.play_core.specs.Names.{Wild}
use Rattle.play_core.proofs.Lists.{some_is, map_get, map_from, prefix_trans, there_is, there_below}
use Rattle.play_core.proofs.Walks.{begins_few}
use Rattle.owner_law.proofs.PoolsLemmas.Merging.{kept_at, kept_is}
use Rattle.buffer_kit.specs.Virtualising.{from_queues, to_queues}
use Rattle.owner_law.specs.Pools.Places.{PoolAt}
use Rattle.net_law.proofs.PartsLemmas.Leasing.{prefix_get}
use Rattle.net_law.proofs.PartsLemmas.Items.{all_at}
use Rattle.blk_mbr.specs.declared.part.Part.{Part}
use Rattle.blk_mbr.specs.Partitions.{part_of}
use Rattle.class_expect.specs.BlkExpect.Replies.{partition_in}
use Rattle.device_model.specs.Disk.Disks as disk
use Rattle.device_model.specs.Disk.Serving.{answer_to, answers_to, done, is_stray}
use Rattle.blk_virt.specs.Desks.{holders}
use Rattle.blk_virt.specs.Openings.{IsLate, IsOutOfTurn, KnowsParts, first_read, has_sector, sector_of}
use Rattle.blk_virt.specs.Requests.{brings, for_disk, goes_on, is_at, is_bad, is_own, numbered, page_named}
use Rattle.blk_virt.specs.Serving.{IsServed, own_of, unnumbered}
use Rattle.blk_virt.specs.Virtualising.{BlkVirtRow}
use Rattle.blk_virt.specs.declared.client.Client.{Client}
use Rattle.blk_virt.specs.declared.requests.Holder.{Holder}
use Rattle.blk_virt.specs.declared.virtualiser.BlkVirt.{BlkVirt}
use Rattle.blk_law.specs.Sheets.Numbers.{BlkPlace, sharers_from}
use Rattle.blk_law.specs.Sheets.Playing.{sharers}
use Rattle.blk_quiet.specs.Cast.Casting.{AreRequests, CalmAsk, IsBlkCast, IsWhole, WildWhole, holder_of}
use Rattle.blk_quiet.proofs.CastLemmas.Numbers.{Shares, disk_queues, driver_queues, virt_queues, sharers_are}
use Rattle.blk_quiet.proofs.CastLemmas.Answers.{answers_at, answer_named, brings_named, sector_read, has_read}
use Rattle.blk_quiet.proofs.CastLemmas.Judging.{goes_fits, own_in_pool, stray_same, bad_same}

answers_long : (image : List ℕ) (xs : List Cargo) → length (answers_to image xs) ≡ length xs
answers_long image [] = refl
answers_long image (x ∷ xs) = ap suc (answers_long (done image x) xs)

pub get_next : (xs : List Cargo) (x : Cargo) (ys : List Cargo) → slice_get (xs ++ x ∷ ys) (length xs) ≡ Some x
get_next [] x ys = refl
get_next (z ∷ xs) x ys = get_next xs x ys

pub drop_get : (xs : List Cargo) (n : ℕ) → slice_get (drop 1 xs) n ≡ slice_get xs (suc n)
drop_get [] n = refl
drop_get (x ∷ xs) n = refl

-- a response with the buffer of its request is in turn
not_late : (sent back : List Cargo) (q y : Cargo) → slice_get sent (length back) ≡ Some q → page_named y.1 ≡ page_named q.1 → IsLate sent back y → ⊥
not_late [] back q y at same out = cc
not_late (x ∷ sent) [] q y at same out =
    let here : x ≡ q = some_is at in
    let yes : brings (page_named x.1) y.1 ≡ true = ap (λ (z : Cargo). brings (page_named z.1) y.1) here ∙ brings_named q.1 y.1 same in
    cc
not_late (x ∷ sent) (z ∷ back) q y at same out = not_late sent back q y at same out

not_out : (sent back : List Cargo) (q y : Cargo) → slice_get sent (length back) ≡ Some q → page_named y.1 ≡ page_named q.1 → (length back ≡ 0 → has_sector y.1 ≡ true) → IsOutOfTurn sent back y → ⊥
not_out [] back q y at same sector out = cc
not_out (x ∷ sent) [] q y at same sector out =
    let here : x ≡ q = some_is at in
    let yes : brings (page_named x.1) y.1 ≡ true = ap (λ (z : Cargo). brings (page_named z.1) y.1) here ∙ brings_named q.1 y.1 same in
    let both : (brings (page_named x.1) y.1 && has_sector y.1) ≡ true = ap₂ (λ a b. a && b) yes (sector refl) in
    cc
not_out (x ∷ sent) (z ∷ back) q y at same sector out = not_late sent back q y at same out

module _ (place : BlkPlace) (passed : Passed) (h : IsBlkCast place passed) where
  abbrev v : BlkVirt
  v = h.virt

  abbrev o : ℕ
  o = v.ends.output.queue.0

  abbrev i : ℕ
  i = v.ends.input.queue.0

  abbrev S : List Cargo
  S = passed.sent o

  abbrev T : List Cargo
  T = passed.taken i

  abbrev image : List ℕ
  image = place.image

  abbrev hs : List Holder
  hs = holders v.work.desk

  disked : (disk.req h.disk ≡ place.first) × (disk.resp h.disk ≡ place.first + 1)
  disked = disk_queues place h.disk h.disk_is

  driven : (h.driver.first.input.queue.0 ≡ place.first + 2) × (h.driver.first.output.queue.0 ≡ place.first) × (h.driver.rest.input.queue.0 ≡ place.first + 1) × (h.driver.rest.output.queue.0 ≡ place.first + 3)
  driven = driver_queues place.first h.driver h.driver_is

  pub virtualised : (o ≡ place.first + 2) × (i ≡ place.first + 3) × (v.work.opening.disk_sectors ≡ length place.image / 512) × (sharers hs (from_queues v.ends) (to_queues v.ends) ≡ sharers_from place.first 0 place.entries place.pools)
  virtualised = virt_queues place v h.virt_is

  -- the requests that come to the disk are those that the virtualiser put
  pub asked : IsPrefix (passed.taken (disk.req h.disk)) S
  asked =
      let a = passed.taken (disk.req h.disk) in
      let b = passed.sent h.driver.first.output.queue.0 in
      let c = passed.taken h.driver.first.input.queue.0 in
      let to_disk : disk.req h.disk ≡ h.driver.first.output.queue.0 = disked.0 ∙ sym driven.1 in
      let to_driver : h.driver.first.input.queue.0 ≡ o = driven.0 ∙ sym virtualised.0 in
      prefix_trans a b S (subst (λ n. IsPrefix a (passed.sent n)) to_disk (h.hands_over (disk.req h.disk)))
      (prefix_trans b c S h.driver_row.0 (subst (λ n. IsPrefix c (passed.sent n)) to_driver (h.hands_over h.driver.first.input.queue.0)))

  -- and what comes back are the disk's answers
  responses : IsPrefix T (passed.sent (disk.resp h.disk))
  responses =
      let b = passed.sent h.driver.rest.output.queue.0 in
      let c = passed.taken h.driver.rest.input.queue.0 in
      let d = passed.sent (disk.resp h.disk) in
      let from_driver : i ≡ h.driver.rest.output.queue.0 = virtualised.1 ∙ sym driven.3 in
      let from_disk : h.driver.rest.input.queue.0 ≡ disk.resp h.disk = driven.2 ∙ sym disked.1 in
      prefix_trans T b d (subst (λ n. IsPrefix T (passed.sent n)) from_driver (h.hands_over i))
      (prefix_trans b c d h.driver_row.1.0 (subst (λ n. IsPrefix c (passed.sent n)) from_disk (h.hands_over h.driver.rest.input.queue.0)))

  abbrev R : List Cargo
  R = h.disk_row.requests

  done_sent : IsPrefix R S
  done_sent = prefix_trans R (passed.taken (disk.req h.disk)) S (h.disk_row.stray, sym h.disk_row.taken) asked

  answered : IsPrefix T (answers_to image R)
  answered = prefix_trans T (passed.sent (disk.resp h.disk)) (answers_to image R) responses h.disk_row.answers

  -- each response answers the request of its place
  pub response_at : (k : ℕ) (y : Cargo) → slice_get T k ≡ Some y → (x : Cargo) × (now : List ℕ) × (slice_get S k ≡ Some x) × (answer_to now x ≡ y) × (k ≡ 0 → now ≡ image)
  response_at k y at =
      let r = answers_at image R k y (prefix_get T (answers_to image R) answered k y at) in
      (r.0, r.1, prefix_get R S done_sent k r.0 r.2, r.3, r.4)

  pub responses_few : length T ≤ length S
  responses_few =
      let a = begins_few T (answers_to image R) answered in
      let b = answers_long image R in
      let c = begins_few R S done_sent in
      omega (arith, a, b, c)

  pub block_there : 4096 ≤ length image
  block_there = let long = h.image_long in let some = h.some_blocks in omega (arith, long, some)

  -- the first request is the virtualiser's own
  pub first_is : (row : BlkVirtRow v passed) (x : Cargo) → slice_get S 0 ≡ Some x → x ≡ first_read v.work.opening.base row.start
  first_is row x at = sym (some_is (prefix_get S (first_read v.work.opening.base row.start ∷ drop 1 S) row.reads 0 x at))

  first_answer : (row : BlkVirtRow v passed) (y : Cargo) → slice_get T 0 ≡ Some y → y ≡ answer_to image (first_read v.work.opening.base row.start)
  first_answer row y at =
      let r = response_at 0 y at in
      sym r.3 ∙ ap₂ (λ (im : List ℕ) (x : Cargo). answer_to im x) (r.4 refl) (first_is row r.0 r.2)

  pub sector_is : (y : Cargo) → slice_get T 0 ≡ Some y → sector_of y.1 ≡ take 512 image
  sector_is y at = ap (λ (x : Cargo). sector_of x.1) (first_answer h.virt_row y at) ∙ sector_read image v.work.opening.base h.virt_row.start block_there h.virt_row.long

  pub virt_none : (back stray : List Cargo) → T ≡ back ++ stray → All (IsOutOfTurn S back) stray → stray ≡ []
  virt_none back [] whole out = refl
  virt_none back (y ∷ ys) whole out =
      let at : slice_get T (length back) ≡ Some y = ap (λ l. slice_get l (length back)) whole ∙ get_next back y ys in
      let r = response_at (length back) y at in
      let named : page_named y.1 ≡ page_named r.0.1 = ap (λ (z : Cargo). page_named z.1) (sym r.3) ∙ answer_named r.1 r.0 in
      let sector : length back ≡ 0 → has_sector y.1 ≡ true = λ none.
      let first : slice_get T 0 ≡ Some y = ap (slice_get T) (sym none) ∙ at in
      ap (λ (x : Cargo). has_sector x.1) (first_answer h.virt_row y first) ∙ has_read image v.work.opening.base h.virt_row.start block_there h.virt_row.long in
      let here : IsOutOfTurn S back y = all_at (IsOutOfTurn S back) (y ∷ ys) out 0 y refl in
      absurd (not_out S back r.0 y r.2 named sector here)

  pub virt_in_turn : (row : BlkVirtRow v passed) → row.stray ≡ []
  virt_in_turn row = virt_none row.back row.stray row.taken row.out_of_turn

  abbrev pub parts : ℕ → Option Part
  parts entry = partition_in image entry

  known : KnowsParts v.work.opening.disk_sectors h.virt_row.back parts
  known = by h.virt_row.back h.virt_row.taken
    where
      by : (l : List Cargo) → T ≡ l ++ h.virt_row.stray → KnowsParts v.work.opening.disk_sectors l parts
      by [] is = tt
      by (y ∷ ys) is = λ n. ap₂ (λ (s : List ℕ) (k : ℕ). part_of s k n) (sym (sector_is y (ap (λ l. slice_get l 0) is))) (sym virtualised.2)

  -- the client of a number, as the virtualiser has it
  pub shared : (length hs ≡ length place.entries) × ((k : ℕ) (g : Holder) (q r : QueueId) → slice_get hs k ≡ Some g → slice_get (from_queues v.ends) k ≡ Some q → slice_get (to_queues v.ends) k ≡ Some r → (entry : ℕ) × (pool : PoolAt) × (slice_get place.entries k ≡ Some entry) × (slice_get place.pools k ≡ Some pool) × Shares place.first (0 + k) g q r entry pool)
  shared = sharers_are place.first 0 hs place.entries place.pools (from_queues v.ends) (to_queues v.ends) h.from_each h.to_each h.pools_many virtualised.3

  pub shares_at : (k : ℕ) (g : Holder) (q r : QueueId) → slice_get hs k ≡ Some g → slice_get (from_queues v.ends) k ≡ Some q → slice_get (to_queues v.ends) k ≡ Some r → (entry : ℕ) × (pool : PoolAt) × (slice_get place.entries k ≡ Some entry) × (slice_get place.pools k ≡ Some pool) × Shares place.first k g q r entry pool
  shares_at k g q r at fat tat =
      let x = shared.1 k g q r at fat tat in
      let plus : 0 + k ≡ k = omega arith in
      (x.0, x.1, x.2, x.3, subst (λ n. Shares place.first n g q r x.0 x.1) plus x.4)

  pub served : (k : ℕ) (g : Holder) (q r : QueueId) → slice_get hs k ≡ Some g → slice_get (from_queues v.ends) k ≡ Some q → slice_get (to_queues v.ends) k ≡ Some r → IsServed g (parts g.partition) (passed.taken q.0) (drop 1 S) (drop 1 h.virt_row.back) (passed.sent r.0)
  served k g q r at fat tat =
      let c = map_from (λ (x : Client). x.holder) v.work.desk.clients.items k g at in
      subst (λ (x : Holder). IsServed x (parts x.partition) (passed.taken q.0) (drop 1 S) (drop 1 h.virt_row.back) (passed.sent r.0)) c.2 (h.virt_row.serves k c.0 q r parts c.1 fat tat known)

  -- what the virtualiser took from a client that put requests in its own buffers alone
  taken_is : (k : ℕ) (g : Holder) (q r : QueueId) → slice_get hs k ≡ Some g → slice_get (from_queues v.ends) k ≡ Some q → slice_get (to_queues v.ends) k ≡ Some r → ((pool : PoolAt) → slice_get place.pools k ≡ Some pool → AreRequests pool (passed.sent (place.first + 4 + 2 * k))) → (j : ℕ) (z : Cargo) → slice_get (passed.taken q.0) j ≡ Some z → (is_bad g z ≡ false) × IsWhole z.1
  taken_is k g q r at fat tat ask j z z_at =
      let s = shares_at k g q r at fat tat in
      let put = prefix_get (passed.taken q.0) (passed.sent q.0) (h.hands_over q.0) j z z_at in
      let is = ask s.1 s.3 j z (ap (λ n. slice_get (passed.sent n) j) (sym s.4.2) ∙ put) in
      (bad_same g (holder_of s.1) z (ap (λ (p : PoolAt). p.number) s.4.0) (ap (λ (p : PoolAt). p.buffers) s.4.0) ∙ is.good, is.whole)

  -- so it is where it has a queue each way
  pub good_from : (k : ℕ) (g : Holder) (q : QueueId) → slice_get hs k ≡ Some g → slice_get (from_queues v.ends) k ≡ Some q → ((pool : PoolAt) → slice_get place.pools k ≡ Some pool → AreRequests pool (passed.sent (place.first + 4 + 2 * k))) → (j : ℕ) (z : Cargo) → slice_get (passed.taken q.0) j ≡ Some z → is_bad g z ≡ false
  good_from k g q at fat ask j z z_at =
      let below = there_below hs k g at in
      let to_each = h.to_each in
      let r = there_is (to_queues v.ends) k (omega (arith, below, to_each)) in
      (taken_is k g q r.0 at fat r.1 ask j z z_at).0

  -- its queue
  queue_is : (k : ℕ) (g : Holder) (q : QueueId) → slice_get hs k ≡ Some g → slice_get (from_queues v.ends) k ≡ Some q → q.0 ≡ place.first + 4 + 2 * k
  queue_is k g q at fat =
      let below = there_below hs k g at in
      let to_each = h.to_each in
      let r = there_is (to_queues v.ends) k (omega (arith, below, to_each)) in
      (shares_at k g q r.0 at fat r.1).4.2

  module _ (wild : Wild) (ask : CalmAsk wild place passed) where
    pub good_is : (k : ℕ) (g : Holder) (q : QueueId) → slice_get hs k ≡ Some g → slice_get (from_queues v.ends) k ≡ Some q → wild q.0 ≡ false → (j : ℕ) (z : Cargo) → slice_get (passed.taken q.0) j ≡ Some z → is_bad g z ≡ false
    good_is k g q at fat calm = good_from k g q at fat (λ pool there. ask k pool there (ap wild (sym (queue_is k g q at fat)) ∙ calm))

  module _ (wild : Wild) (ask : CalmAsk wild place passed) (wholes : WildWhole wild place passed) where
    -- a buffer of its own that came from a client takes eight blocks
    own_whole : (k : ℕ) (g : Holder) (q r : QueueId) → slice_get hs k ≡ Some g → slice_get (from_queues v.ends) k ≡ Some q → slice_get (to_queues v.ends) k ≡ Some r → (b : Bool) → wild (place.first + 4 + 2 * k) ≡ b → (j : ℕ) (z : Cargo) → slice_get (passed.taken q.0) j ≡ Some z → is_own g z ≡ true → IsWhole z.1
    own_whole k g q r at fat tat true is_wild j z z_at own =
        let s = shares_at k g q r at fat tat in
        let put = prefix_get (passed.taken q.0) (passed.sent q.0) (h.hands_over q.0) j z z_at in
        let of = own_in_pool g s.1 z (ap (λ (p : PoolAt). p.number) s.4.0) (ap (λ (p : PoolAt). p.buffers) s.4.0) own in
        wholes k s.1 s.3 is_wild j z (ap (λ n. slice_get (passed.sent n) j) (sym s.4.2) ∙ put) of
    own_whole k g q r at fat tat false calm j z z_at own = (taken_is k g q r at fat tat (λ pool there. ask k pool there calm) j z z_at).1

    -- each request to the disk is in turn there
    request_good : (j : ℕ) (x : Cargo) → slice_get S j ≡ Some x → is_stray image x ≡ false
    request_good zero x at =
        ap (is_stray image) (first_is h.virt_row x at) ∙ ap not (le-leb ((0 + 1) * 4096) (length image) (let some = block_there in omega (arith, some)))
    request_good (suc n) x at =
        let later : slice_get (drop 1 S) n ≡ Some x = drop_get S n ∙ at in
        let w = h.virt_row.within n x later in
        let k = w.0 in
        let g = w.1 in
        let below = there_below hs k g w.2 in
        let from_each = h.from_each in
        let to_each = h.to_each in
        let q = there_is (from_queues v.ends) k (omega (arith, below, from_each)) in
        let r = there_is (to_queues v.ends) k (omega (arith, below, to_each)) in
        let serves = served k g q.0 r.0 w.2 q.1 r.1 in
        let own = kept_at (is_at g) (drop 1 S) n x later w.3 in
        let bare : slice_get (unnumbered (own_of g (drop 1 S))) own.0 ≡ Some (numbered 0 x) = map_get (numbered 0) (own_of g (drop 1 S)) own.0 x own.1 in
        let goes = prefix_get (unnumbered (own_of g (drop 1 S))) (map (for_disk g (parts g.partition)) (filter (goes_on g (parts g.partition)) (passed.taken q.0.0))) serves.sends own.0 (numbered 0 x) bare in
        let f = map_from (for_disk g (parts g.partition)) (filter (goes_on g (parts g.partition)) (passed.taken q.0.0)) own.0 (numbered 0 x) goes in
        let kept = kept_is (goes_on g (parts g.partition)) (passed.taken q.0.0) own.0 f.0 f.1 in
        let whole = own_whole k g q.0 r.0 w.2 q.1 r.1 (wild (place.first + 4 + 2 * k)) refl kept.1.0 f.0 kept.1.1 in
        let kind = h.requests (suc n) x (ap (λ m. slice_get (passed.sent m) (suc n)) (sym virtualised.0) ∙ at) in
        sym (stray_same image 0 x kind) ∙ (ap (is_stray image) (sym f.2) ∙ goes_fits image g g.partition f.0 kept.0 whole)

    pub disk_none : (requests stray : List Cargo) → passed.taken (disk.req h.disk) ≡ requests ++ stray → All (λ (x : Cargo). is_stray image x ≡ true) stray → stray ≡ []
    disk_none requests [] whole out = refl
    disk_none requests (x ∷ xs) whole out =
        let at : slice_get (passed.taken (disk.req h.disk)) (length requests) ≡ Some x = ap (λ l. slice_get l (length requests)) whole ∙ get_next requests x xs in
        let good = request_good (length requests) x (prefix_get (passed.taken (disk.req h.disk)) S asked (length requests) x at) in
        let bad : is_stray image x ≡ true = all_at (λ (y : Cargo). is_stray image y ≡ true) (x ∷ xs) out 0 x refl in
        absurd cc

    pub disk_in_turn : (row : disk.DiskRow image h.disk passed) → row.stray ≡ []
    disk_in_turn row = disk_none row.requests row.stray row.taken row.out_of_turn
