-- The disk takes nothing out of turn, whatever the clients put, where their pages take eight blocks.
use Rattle.std.proofs.Common.{◌≡◌, ◌+◌, ◌*◌, ◌++◌, ◌≤◌, ℕ, zero, suc, true, false, not, Option, Some, List, [], ◌∷◌, All, length, map, drop, slice_get, refl, sym, ap, ◌∙◌, subst, arith, le-leb}
use Rattle.std.specs.List.{filter}
use Rattle.std.proofs.lemmas.Bool.{and_parts, eqb-true}
use Rattle.cargo_core.specs.declared.item.Body.TheVariants as Carried
use Rattle.wire_core.specs.Deeds.{Cargo}
use Rattle.wire_core.specs.Lists.{Passed}
use Rattle.play_core.proofs.Lists.{map_get, map_from, there_is, there_below}
use Rattle.owner_law.proofs.PoolsLemmas.Merging.{kept_at, kept_is}
use Rattle.buffer_kit.specs.Virtualising.{from_queues, to_queues}
use Rattle.net_law.proofs.PartsLemmas.Leasing.{prefix_get}
use Rattle.net_law.proofs.PartsLemmas.Items.{all_at}
use Rattle.class_expect.specs.BlkExpect.BlkKit.Pages.{has_room}
use Rattle.blk_mbr.specs.declared.part.Part.{Part}
use Rattle.class_expect.specs.BlkExpect.Replies.{partition_in}
use Rattle.device_model.specs.Disk.Disks as disk
use Rattle.device_model.specs.Disk.Serving.{is_stray}
use Rattle.blk_virt.specs.Desks.{holders}
use Rattle.blk_virt.specs.Requests.{for_disk, goes_on, is_at, is_own, numbered, request_of}
use Rattle.blk_virt.specs.Serving.{own_of, unnumbered}
use Rattle.blk_virt.specs.declared.requests.Holder.{Holder}
use Rattle.blk_virt.specs.declared.virtualiser.BlkVirt.{BlkVirt}
use Rattle.blk_law.specs.Sheets.Numbers.{BlkPlace}
use Rattle.blk_quiet.specs.Cast.Casting.{IsBlkCast}
use Rattle.blk_quiet.specs.Cast.Lengths.{IsLongFor}
use Rattle.blk_quiet.proofs.CastLemmas.Judging.{asked_fits, part_fits, stray_same}
use Rattle.blk_quiet.proofs.CastLemmas.Turning.{asked, block_there, drop_get, first_is, get_next, parts, served, virtualised}

-- a page of its client's own takes what a request moves
own_room : (h : Holder) (x : Cargo) (count : ℕ) → IsLongFor h x.1 → is_own h x ≡ true → count ≤ 8 → has_room count x.1 ≡ true
own_room h (item, Carried.Page page) count long own few =
    let whole = long (eqb-true page.pool.0 h.pool.0 (and_parts _ _ own).0) in
    le-leb (count * 4096) (length page.bytes) (omega (arith, whole, few))
own_room h (item, Carried.Lease lease) count long own few = absurd cc
own_room h (item, Carried.Empty) count long own few = absurd cc

-- so what goes on of it is in turn at the disk
goes_long : (image : List ℕ) (h : Holder) (entry : ℕ) (x : Cargo) → goes_on h (partition_in image entry) x ≡ true → IsLongFor h x.1 → is_stray image (for_disk h (partition_in image entry) x) ≡ false
goes_long image h entry x ok long = asked_fits image (request_of x.0).code (is_own h x) (partition_in image entry) (request_of x.0) h.base x.1 ok (λ p e. part_fits image entry p e) (λ own few. own_room h x (request_of x.0).count long own few)

module _ (place : BlkPlace) (passed : Passed) (h : IsBlkCast place passed) where
  abbrev v : BlkVirt
  v = h.virt

  abbrev image : List ℕ
  image = place.image

  abbrev hs : List Holder
  hs = holders v.work.desk

  abbrev S : List Cargo
  S = passed.sent v.ends.output.queue.0

  abbrev part_at : ℕ → Option Part
  part_at = parts place passed h

  -- a request to the disk behind the first is one of a client's that goes on
  record IsGoing (x : Cargo) : Type 0 where
    k : ℕ
    holder : Holder
    holds : slice_get hs k ≡ Some holder
    request : Cargo
    on : goes_on holder (part_at holder.partition) request ≡ true
    is : for_disk holder (part_at holder.partition) request ≡ numbered 0 x

  going : (n : ℕ) (x : Cargo) → slice_get (drop 1 S) n ≡ Some x → IsGoing x
  going n x later =
      let w = h.virt_row.within n x later in
      let k = w.0 in
      let g = w.1 in
      let below = there_below hs k g w.2 in
      let from_each = h.from_each in
      let to_each = h.to_each in
      let q = there_is (from_queues v.ends) k (omega (arith, below, from_each)) in
      let r = there_is (to_queues v.ends) k (omega (arith, below, to_each)) in
      let serves = served place passed h k g q.0 r.0 w.2 q.1 r.1 in
      let own = kept_at (is_at g) (drop 1 S) n x later w.3 in
      let bare : slice_get (unnumbered (own_of g (drop 1 S))) own.0 ≡ Some (numbered 0 x) = map_get (numbered 0) (own_of g (drop 1 S)) own.0 x own.1 in
      let sent = prefix_get (unnumbered (own_of g (drop 1 S))) (map (for_disk g (part_at g.partition)) (filter (goes_on g (part_at g.partition)) (passed.taken q.0.0))) serves.sends own.0 (numbered 0 x) bare in
      let f = map_from (for_disk g (part_at g.partition)) (filter (goes_on g (part_at g.partition)) (passed.taken q.0.0)) own.0 (numbered 0 x) sent in
      let kept = kept_is (goes_on g (part_at g.partition)) (passed.taken q.0.0) own.0 f.0 f.1 in
      record { k = k; holder = g; holds = w.2; request = f.0; on = kept.0; is = f.2 }

  -- it is in turn at the disk where a page of its client takes eight blocks
  going_fits : (n : ℕ) (x : Cargo) → slice_get S (suc n) ≡ Some x → (r : IsGoing x) → IsLongFor r.holder r.request.1 → is_stray image x ≡ false
  going_fits n x at r long =
      let kind = h.requests (suc n) x (ap (λ m. slice_get (passed.sent m) (suc n)) (sym (virtualised place passed h).0) ∙ at) in
      sym (stray_same image 0 x kind) ∙ (ap (is_stray image) (sym r.is) ∙ goes_long image r.holder r.holder.partition r.request r.on long)

  -- the virtualiser's own is
  first_fits : (x : Cargo) → slice_get S 0 ≡ Some x → is_stray image x ≡ false
  first_fits x at = ap (is_stray image) (first_is place passed h h.virt_row x at) ∙ ap not (le-leb ((0 + 1) * 4096) (length image) (let some = block_there place passed h in omega (arith, some)))

  -- so is each other whose page takes eight blocks where it is a client's
  long_fits : (j : ℕ) (x : Cargo) → slice_get S j ≡ Some x → ((k : ℕ) (g : Holder) → slice_get hs k ≡ Some g → IsLongFor g x.1) → is_stray image x ≡ false
  long_fits zero x at long = first_fits x at
  long_fits (suc n) x at long =
      let r = going n x (drop_get S n ∙ at) in
      let same : r.request.1 ≡ x.1 = ap (λ (c : Cargo). c.1) r.is in
      going_fits n x at r (subst (IsLongFor r.holder) (sym same) (long r.k r.holder r.holds))

  -- where what came last would be in turn, nothing strayed
  none_strays : (requests stray : List Cargo) → passed.taken (disk.req h.disk) ≡ requests ++ stray → All (λ (x : Cargo). is_stray image x ≡ true) stray → ((x : Cargo) → slice_get S (length requests) ≡ Some x → slice_get stray 0 ≡ Some x → is_stray image x ≡ false) → stray ≡ []
  none_strays requests [] whole out fits = refl
  none_strays requests (x ∷ xs) whole out fits =
      let at : slice_get (passed.taken (disk.req h.disk)) (length requests) ≡ Some x = ap (λ l. slice_get l (length requests)) whole ∙ get_next requests x xs in
      let good = fits x (prefix_get (passed.taken (disk.req h.disk)) S (asked place passed h) (length requests) x at) refl in
      let bad : is_stray image x ≡ true = all_at (λ (y : Cargo). is_stray image y ≡ true) (x ∷ xs) out 0 x refl in
      absurd cc

  pub long_none : (requests stray : List Cargo) → passed.taken (disk.req h.disk) ≡ requests ++ stray → All (λ (x : Cargo). is_stray image x ≡ true) stray → ((k : ℕ) (g : Holder) → slice_get hs k ≡ Some g → All (λ (x : Cargo). IsLongFor g x.1) stray) → stray ≡ []
  long_none requests stray whole out long = none_strays requests stray whole out (λ x at last. long_fits (length requests) x at (λ k g there. all_at (λ (y : Cargo). IsLongFor g y.1) stray (long k g there) 0 x last))

  pub long_in_turn : (row : disk.DiskRow image h.disk passed) → ((k : ℕ) (g : Holder) → slice_get hs k ≡ Some g → All (λ (x : Cargo). IsLongFor g x.1) row.stray) → row.stray ≡ []
  long_in_turn row = long_none row.requests row.stray row.taken row.out_of_turn
