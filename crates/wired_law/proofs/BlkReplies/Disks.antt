-- What the disk answers behind the virtualiser's own read, and what of it is asked by whom.
use Rattle.std.proofs.Common.{◌≡◌, ◌/◌, ◌++◌, ℕ, zero, suc, true, false, Option, Some, None, List, [], ◌∷◌, All, length, map, take, drop, slice_get, refl, sym, ap, ◌∙◌, subst, arith}
use Rattle.std.specs.List.{filter}
use Rattle.cargo_core.specs.Lists.{IsPrefix}
use Rattle.wire_core.specs.Deeds.{Cargo}
use Rattle.wire_core.specs.Lists.{Passed}
use Rattle.play_core.proofs.Lists.{some_is, map_get, map_from, prefix_trans, there_is, there_below}
use Rattle.owner_law.proofs.PoolsLemmas.Merging.{kept_at, kept_is}
use Rattle.buffer_kit.specs.Virtualising.{from_queues, to_queues}
use Rattle.net_law.proofs.PartsLemmas.Leasing.{prefix_get}
use Rattle.blk_mbr.specs.declared.part.Part.{Part}
use Rattle.class_expect.specs.BlkExpect.Replies.{partition_in}
use Rattle.device_model.specs.Disk.Disks as disk
use Rattle.device_model.specs.Disk.Serving.{answer_to, answers_to, done}
use Rattle.blk_virt.specs.Desks.{holders}
use Rattle.blk_virt.specs.Openings.{first_read}
use Rattle.blk_virt.specs.Requests.{for_disk, goes_on, is_at, numbered}
use Rattle.blk_virt.specs.Serving.{own_of, unnumbered}
use Rattle.blk_virt.specs.declared.requests.Holder.{Holder}
use Rattle.blk_virt.specs.declared.virtualiser.BlkVirt.{BlkVirt}
use Rattle.blk_law.specs.Runs.{IsBeside, IsInside}
use Rattle.blk_law.proofs.Parts.{parts_apart}
use Rattle.blk_law.specs.Records.Served.{LeavesPart}
use Rattle.blk_law.specs.Sheets.Numbers.{BlkPlace}
use Rattle.blk_quiet.specs.Cast.Casting.{IsBlkCast}
use Rattle.blk_quiet.proofs.CastLemmas.Numbers.{disk_queues, driver_queues, virt_queues}
use Rattle.blk_quiet.proofs.CastLemmas.Turning.{served, shares_at}
use Rattle.wired_law.proofs.BlkReplies.Inside.{entry_few, goes_has, goes_inside}

-- each of a list has what each entry of it has
pub all_from : {X : Type 0} (P : X → Type 0) (xs : List X) → ((k : ℕ) (x : X) → slice_get xs k ≡ Some x → P x) → All P xs
all_from P (x ∷ xs) has zero d lt = has 0 x refl
all_from P (x ∷ xs) has (suc k) d lt = all_from P xs (λ j y at. has (suc j) y at) k d (omega (arith, lt))
all_from P [] has k d lt = absurd (omega (arith, lt))

answers_more : (image : List ℕ) (xs rest : List Cargo) → IsPrefix (answers_to image xs) (answers_to image (xs ++ rest))
answers_more image [] rest = (answers_to image rest, refl)
answers_more image (x ∷ xs) rest = let more = answers_more (done image x) xs rest in (more.0, ap (λ (l : List Cargo). answer_to image x ∷ l) more.1)

answers_begin : (image : List ℕ) (xs ys : List Cargo) → IsPrefix xs ys → IsPrefix (answers_to image xs) (answers_to image ys)
answers_begin image xs ys begins = subst (λ l. IsPrefix (answers_to image xs) (answers_to image l)) begins.1 (answers_more image xs begins.0)

drop_begins : (xs ys : List Cargo) → IsPrefix xs ys → IsPrefix (drop 1 xs) (drop 1 ys)
drop_begins [] ys begins = (drop 1 ys, refl)
drop_begins (x ∷ xs) ys begins = (begins.0, ap (λ (l : List Cargo). drop 1 l) begins.1)

-- behind an entry that leaves the image the answers are those on the image
drop_answers : (image : List ℕ) (xs : List Cargo) → ((x : Cargo) → slice_get xs 0 ≡ Some x → done image x ≡ image) → drop 1 (answers_to image xs) ≡ answers_to image (drop 1 xs)
drop_answers image [] leaves = refl
drop_answers image (x ∷ xs) leaves = ap (λ (i : List ℕ). answers_to i xs) (leaves x refl)

module _ (place : BlkPlace) (passed : Passed) (h : IsBlkCast place passed) where
  abbrev v : BlkVirt
  v = h.virt

  abbrev S : List Cargo
  S = passed.sent v.ends.output.queue.0

  abbrev T : List Cargo
  T = passed.taken v.ends.input.queue.0

  abbrev hs : List Holder
  hs = holders v.work.desk

  asked : IsPrefix (passed.taken (disk.req h.disk)) S
  asked =
      let d = disk_queues place h.disk h.disk_is in
      let w = driver_queues place.first h.driver h.driver_is in
      let o = virt_queues place v h.virt_is in
      let a = passed.taken (disk.req h.disk) in
      let b = passed.sent h.driver.first.output.queue.0 in
      let c = passed.taken h.driver.first.input.queue.0 in
      let to_disk : disk.req h.disk ≡ h.driver.first.output.queue.0 = d.0 ∙ sym w.1 in
      let to_driver : h.driver.first.input.queue.0 ≡ v.ends.output.queue.0 = w.0 ∙ sym o.0 in
      prefix_trans a b S (subst (λ n. IsPrefix a (passed.sent n)) to_disk (h.hands_over (disk.req h.disk)))
      (prefix_trans b c S h.driver_row.0 (subst (λ n. IsPrefix c (passed.sent n)) to_driver (h.hands_over h.driver.first.input.queue.0)))

  responses : IsPrefix T (passed.sent (disk.resp h.disk))
  responses =
      let d = disk_queues place h.disk h.disk_is in
      let w = driver_queues place.first h.driver h.driver_is in
      let o = virt_queues place v h.virt_is in
      let b = passed.sent h.driver.rest.output.queue.0 in
      let c = passed.taken h.driver.rest.input.queue.0 in
      let e = passed.sent (disk.resp h.disk) in
      let from_driver : v.ends.input.queue.0 ≡ h.driver.rest.output.queue.0 = o.1 ∙ sym w.3 in
      let from_disk : h.driver.rest.input.queue.0 ≡ disk.resp h.disk = w.2 ∙ sym d.1 in
      prefix_trans T b e (subst (λ n. IsPrefix T (passed.sent n)) from_driver (h.hands_over v.ends.input.queue.0))
      (prefix_trans b c e h.driver_row.1.0 (subst (λ n. IsPrefix c (passed.sent n)) from_disk (h.hands_over h.driver.rest.input.queue.0)))

  -- what came back answers what was put
  back_answers : IsPrefix h.virt_row.back (answers_to place.image S)
  back_answers =
      let R = h.disk_row.requests in
      let did : IsPrefix R S = prefix_trans R (passed.taken (disk.req h.disk)) S (h.disk_row.stray, sym h.disk_row.taken) asked in
      let came : IsPrefix h.virt_row.back T = (h.virt_row.stray, sym h.virt_row.taken) in
      prefix_trans h.virt_row.back T (answers_to place.image S) came
      (prefix_trans T (passed.sent (disk.resp h.disk)) (answers_to place.image S) responses
      (prefix_trans (passed.sent (disk.resp h.disk)) (answers_to place.image R) (answers_to place.image S) h.disk_row.answers (answers_begin place.image R S did)))

  -- the first request is a read, which leaves the image
  first_leaves : (x : Cargo) → slice_get S 0 ≡ Some x → done place.image x ≡ place.image
  first_leaves x at =
      let first = first_read v.work.opening.base h.virt_row.start in
      let is : first ≡ x = some_is (prefix_get S (first ∷ drop 1 S) h.virt_row.reads 0 x at) in
      ap (done place.image) (sym is)

  pub behind : IsPrefix (drop 1 h.virt_row.back) (answers_to place.image (drop 1 S))
  behind = subst (λ (l : List Cargo). IsPrefix (drop 1 h.virt_row.back) l) (drop_answers place.image S first_leaves) (drop_begins h.virt_row.back (answers_to place.image S) back_answers)

  -- an entry at the disk is a client's, and in the partition of that client's entry
  abbrev IsSomeClients : Cargo → Type 0
  IsSomeClients x = (j : ℕ) × (g : Holder) × (entry : ℕ) × (p : Part) × (slice_get hs j ≡ Some g) × (is_at g x ≡ true) × (slice_get place.entries j ≡ Some entry) × (partition_in place.image entry ≡ Some p) × IsInside p.first_block p.blocks x

  someones : (n : ℕ) (x : Cargo) → slice_get (drop 1 S) n ≡ Some x → IsSomeClients x
  someones n x later =
      let w = h.virt_row.within n x later in
      let k = w.0 in
      let g = w.1 in
      let below = there_below hs k g w.2 in
      let from_each = h.from_each in
      let to_each = h.to_each in
      let q = there_is (from_queues v.ends) k (omega (arith, below, from_each)) in
      let r = there_is (to_queues v.ends) k (omega (arith, below, to_each)) in
      let s = shares_at place passed h k g q.0 r.0 w.2 q.1 r.1 in
      let serves = served place passed h k g q.0 r.0 w.2 q.1 r.1 in
      let part = partition_in place.image g.partition in
      let came = passed.taken q.0.0 in
      let own = kept_at (is_at g) (drop 1 S) n x later w.3 in
      let bare : slice_get (unnumbered (own_of g (drop 1 S))) own.0 ≡ Some (numbered 0 x) = map_get (numbered 0) (own_of g (drop 1 S)) own.0 x own.1 in
      let goes = prefix_get (unnumbered (own_of g (drop 1 S))) (map (for_disk g part) (filter (goes_on g part) came)) serves.sends own.0 (numbered 0 x) bare in
      let f = map_from (for_disk g part) (filter (goes_on g part) came) own.0 (numbered 0 x) goes in
      let kept = kept_is (goes_on g part) came own.0 f.0 f.1 in
      let p = goes_has g part f.0 kept.0 in
      let inside = goes_inside g p.0 f.0 x (subst (λ o. goes_on g o f.0 ≡ true) p.1 kept.0) (subst (λ o. for_disk g o f.0 ≡ numbered 0 x) p.1 f.2) in
      (k, g, s.0, p.0, w.2, w.3, s.2, ap (partition_in place.image) (sym s.4.1) ∙ p.1, inside)

  -- where no two clients have the same entry, what isn't a client's leaves its partition as it is
  pub leaves : ((j k entry : ℕ) → slice_get place.entries j ≡ Some entry → slice_get place.entries k ≡ Some entry → j ≡ k) → (k entry : ℕ) (g : Holder) → slice_get hs k ≡ Some g → slice_get place.entries k ≡ Some entry → LeavesPart g (partition_in place.image entry) (drop 1 S)
  leaves apart k entry g at entry_at = by (partition_in place.image entry) refl
    where
      beside : (part : Part) → partition_in place.image entry ≡ Some part → (x : Cargo) → IsSomeClients x → is_at g x ≡ false → IsBeside part.first_block part.blocks x
      beside part e x s other =
          let differ : entry ≡ s.2 → ⊥ = λ same.
          let here : k ≡ s.0 = apart k s.0 entry entry_at (s.6 ∙ ap Some (sym same)) in
          let is : g ≡ s.1 = some_is (sym at ∙ (ap (slice_get hs) here ∙ s.4)) in
          let own : is_at g x ≡ true = ap (λ (c : Holder). is_at c x) is ∙ s.5 in
          cc in
          parts_apart (take 512 place.image) (length place.image / 512) entry s.2 part s.3 (entry_few place.image entry part e) (entry_few place.image s.2 s.3 s.7) differ e s.7 x s.8

      by : (o : Option Part) → partition_in place.image entry ≡ o → LeavesPart g o (drop 1 S)
      by None e = tt
      by (Some part) e = all_from (λ (x : Cargo). is_at g x ≡ false → IsBeside part.first_block part.blocks x) (drop 1 S) (λ n x x_at. beside part e x (someones n x x_at))
