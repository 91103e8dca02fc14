use Rattle.std.proofs.Common.{◌≡◌, ◌+◌, ◌*◌, ◌≤◌, ◌&&◌, ◌⊎◌, inl, inr, ℕ, min, nat_le, Bool, true, false, Option, Some, None, if◌then◌else◌, List, [], ◌∷◌, ◌++◌, length, take, drop, refl, ap, ◌∙◌, arith}
use Rattle.std.proofs.lemmas.Bool.{and_parts, leb-true}
use Rattle.std.proofs.lemmas.List.{length-append, length-drop, length-take, length-take-le, take_at}
use Rattle.std.proofs.Math.Nat.{min-le_left, min-eq_left, min-eq_right}
use Rattle.cargo_core.specs.declared.item.Ask.{Ask}
use Rattle.cargo_core.specs.declared.item.BlkReq.{BlkReq}
use Rattle.cargo_core.specs.declared.item.BlkStatus.{BlkStatus}
use Rattle.cargo_core.specs.declared.item.BlkStatus.TheVariants as Answered
use Rattle.cargo_core.specs.declared.item.Body.{Body}
use Rattle.cargo_core.specs.declared.item.Body.TheVariants as Carried
use Rattle.cargo_core.specs.declared.item.Code.{Code}
use Rattle.cargo_core.specs.declared.item.Code.TheVariants as Asked
use Rattle.cargo_core.specs.declared.item.Item.TheVariants as ItemOf
use Rattle.cargo_core.specs.declared.item.Reply.{Reply}
use Rattle.cargo_core.specs.Lists.{IsPrefix, replaced}
use Rattle.wire_core.specs.Deeds.{Cargo}
use Rattle.class_expect.specs.BlkExpect.BlkKit.Blocks.{blocks_at, moved_blocks, with_blocks}
use Rattle.class_expect.specs.BlkExpect.BlkKit.Pages.{carried_blocks, filled_body, has_room}
use Rattle.blk_mbr.specs.declared.part.Part.{Part}
use Rattle.class_expect.specs.BlkExpect.Judging.{can_move, status_of}
use Rattle.class_expect.specs.BlkExpect.Replies.{HasBytes, bytes_left, bytes_read, left_by, replies_from, reply_of, status_to}
use Rattle.buffer_kit.specs.Entries.{first_bytes}
use Rattle.client_programs.specs.Blk.Asking.{replies_to, reply_to, read_blocks}
use Rattle.device_model.specs.Disk.Serving.{body_back, stored}
use Rattle.blk_law.specs.Replying.{AreAsked, Carries, IsAskedBy, answer_as, client_answers, judged, left_as}

-- blocks that can be moved are in the partition
pub moves_within : (blocks block count : ℕ) (other : BlkStatus) → (other ≡ Answered.Ok → ⊥) → (if can_move true blocks block count then Answered.Ok else other) ≡ Answered.Ok → block + count ≤ blocks
moves_within blocks block count other ne h = by (can_move true blocks block count) refl h
  where
    by : (b : Bool) → can_move true blocks block count ≡ b → (if b then Answered.Ok else other) ≡ Answered.Ok → block + count ≤ blocks
    by true e t =
        let one = and_parts true (nat_le 1 count && (nat_le count 8 && nat_le (block + count) blocks)) e in
        let two = and_parts (nat_le 1 count) (nat_le count 8 && nat_le (block + count) blocks) one.1 in
        let three = and_parts (nat_le count 8) (nat_le (block + count) blocks) two.1 in
        leb-true (block + count) blocks three.1
    by false e t = absurd (ne t)

-- what is read and written is in the bytes of the partition
in_reach : (c : Code) (part : Option Part) (block count : ℕ) (bytes : List ℕ) → HasBytes part bytes → status_of true part c block count ≡ Answered.Ok → (c ≡ Asked.Read) ⊎ (c ≡ Asked.Write) → (block + count) * 4096 ≤ length bytes
in_reach c None block count bytes has ok which = absurd (invalid_none ok)
  where
    invalid_none : Answered.NoDevice ≡ Answered.Ok → ⊥
    invalid_none e = cc
in_reach Asked.Read (Some part) block count bytes has ok which = let h = moves_within part.blocks block count Answered.Invalid (λ e. cc) ok in omega (arith, h, has)
in_reach Asked.Write (Some part) block count bytes has ok which = let h = moves_within part.blocks block count Answered.Invalid (λ e. cc) ok in omega (arith, h, has)
in_reach Asked.Flush (Some part) block count bytes has ok which = absurd (neither which)
  where
    neither : (Asked.Flush ≡ Asked.Read) ⊎ (Asked.Flush ≡ Asked.Write) → ⊥
    neither (inl e) = cc
    neither (inr e) = cc
in_reach Asked.Barrier (Some part) block count bytes has ok which = absurd (neither which)
  where
    neither : (Asked.Barrier ≡ Asked.Read) ⊎ (Asked.Barrier ≡ Asked.Write) → ⊥
    neither (inl e) = cc
    neither (inr e) = cc

-- a page that is filled carries what it was filled with
carried_filled : (count : ℕ) (bytes : List ℕ) (body : Body) → length bytes ≡ count * 4096 → has_room count body ≡ true → carried_blocks count (filled_body bytes body) ≡ bytes
carried_filled count bytes Carried.Empty long room = cc
carried_filled count bytes (Carried.Lease lease) long room = cc
carried_filled count bytes (Carried.Page page) long room =
    let enough : nat_le (length bytes) (length page.bytes) ≡ true = ap (λ n. nat_le n (length page.bytes)) long ∙ room in
    by (nat_le (length bytes) (length page.bytes)) enough
  where
    by : (b : Bool) → b ≡ true → carried_blocks count (if b then Carried.Page (record { pool = page.pool; no = page.no; bytes = replaced page.bytes 0 bytes }) else Carried.Page page) ≡ bytes
    by true e = take_at bytes (drop (0 + length bytes) page.bytes) (count * 4096) long
    by false e = cc

-- as many bytes as before
same_length : (xs from : List ℕ) (at : ℕ) → at + length from ≤ length xs → length (replaced xs at from) ≡ length xs
same_length xs from at h =
    let whole = length-append (take at xs ++ from) (drop (at + length from) xs) in
    let front = length-append (take at xs) from in
    let taken = length-take-le at xs (omega (arith, h)) in
    let rest = length-drop (at + length from) xs in
    omega (arith, whole, front, taken, rest, h)

-- the first bytes of a body are the blocks that it carries
first_as_carried : (count : ℕ) (body : Body) → first_bytes (count * 4096) body ≡ carried_blocks count body
first_as_carried count Carried.Empty = refl
first_as_carried count (Carried.Lease lease) = refl
first_as_carried count (Carried.Page page) = refl

first_none : (body : Body) → first_bytes (0 * 4096) body ≡ []
first_none Carried.Empty = refl
first_none (Carried.Lease lease) = refl
first_none (Carried.Page page) = refl

pub blocks_long : (bytes : List ℕ) (block count : ℕ) → (block + count) * 4096 ≤ length bytes → length (blocks_at bytes block count) ≡ count * 4096
blocks_long bytes block count h = let long = length-drop (block * 4096) bytes in length-take-le (count * 4096) (drop (block * 4096) bytes) (omega (arith, long, h))

module _ (part : Option Part) (bytes : List ℕ) (id : ℕ) (a : Ask) (q : BlkReq) (body : Body) (has : HasBytes part bytes) (w : IsAskedBy id a q body) where
  judged_is : judged part (ItemOf.Req q) ≡ status_to part a
  judged_is = λ i. status_of true part (w.code i) (w.block i) (w.count i)

  -- of a request that is done
  shown : (c : Code) → Carries c a body → status_of true part c a.block a.count ≡ Answered.Ok → first_bytes (min (read_blocks c a.count) (moved_blocks c a.count) * 4096) (body_back c bytes q body) ≡ bytes_read c bytes a
  shown Asked.Read room ok = ap (λ n. first_bytes (n * 4096) (filled_body (blocks_at bytes q.block q.count) body)) (min-eq_left (omega arith)) ∙ (first_as_carried a.count (filled_body (blocks_at bytes q.block q.count) body) ∙ ((λ i. carried_blocks a.count (filled_body (blocks_at bytes (w.block i) (w.count i)) body)) ∙ carried_filled a.count (blocks_at bytes a.block a.count) body (blocks_long bytes a.block a.count (in_reach Asked.Read part a.block a.count bytes has ok (inl refl))) room))
  shown Asked.Write room ok = ap (λ n. first_bytes (n * 4096) body) (min-eq_left (omega arith)) ∙ first_none body
  shown Asked.Flush room ok = first_none body
  shown Asked.Barrier room ok = first_none body

  left : (c : Code) → Carries c a body → stored c bytes q body ≡ bytes_left c bytes a
  left Asked.Read fill = refl
  left Asked.Write fill = (λ i. with_blocks bytes (w.block i) (carried_blocks (w.count i) body)) ∙ ap (with_blocks bytes a.block) fill
  left Asked.Flush fill = refl
  left Asked.Barrier fill = refl

  -- no bytes come where nothing was done
  none_came : (n : ℕ) → first_bytes (min n 0 * 4096) body ≡ []
  none_came n = ap (λ k. first_bytes (k * 4096) body) (min-eq_right (omega arith)) ∙ first_none body

  reply_as : (s : BlkStatus) → status_to part a ≡ s → reply_to a (answer_as s bytes (ItemOf.Req q, body)) ≡ reply_of s bytes id a
  reply_as Answered.Invalid is = λ i. record { resp = record { status = Answered.Invalid; count = 0; id = w.has_id i }; bytes = none_came (read_blocks a.code a.count) i }
  reply_as Answered.NoDevice is = λ i. record { resp = record { status = Answered.NoDevice; count = 0; id = w.has_id i }; bytes = none_came (read_blocks a.code a.count) i }
  reply_as Answered.Ok is = λ i. record { resp = record { status = Answered.Ok; count = moved_blocks (w.code i) (w.count i); id = w.has_id i }; bytes = ((λ j. first_bytes (min (read_blocks a.code a.count) (moved_blocks (w.code j) (w.count j)) * 4096) (body_back (w.code j) bytes q body)) ∙ shown a.code w.carries is) i }

  left_is : (s : BlkStatus) → left_as s bytes (ItemOf.Req q, body) ≡ left_by s bytes a
  left_is Answered.Ok = ap (λ c. stored c bytes q body) w.code ∙ left a.code w.carries
  left_is Answered.Invalid = refl
  left_is Answered.NoDevice = refl

  pub one_reply : reply_to a (answer_as (judged part (ItemOf.Req q)) bytes (ItemOf.Req q, body)) ≡ reply_of (status_to part a) bytes id a
  one_reply = ap (λ s. reply_to a (answer_as s bytes (ItemOf.Req q, body))) judged_is ∙ reply_as (status_to part a) refl

  pub one_left : left_as (judged part (ItemOf.Req q)) bytes (ItemOf.Req q, body) ≡ left_by (status_to part a) bytes a
  one_left = ap (λ s. left_as s bytes (ItemOf.Req q, body)) judged_is ∙ left_is (status_to part a)

-- a request leaves as many bytes as there were
keeps_size : (c : Code) (part : Option Part) (bytes : List ℕ) (a : Ask) → HasBytes part bytes → status_of true part c a.block a.count ≡ Answered.Ok → HasBytes part (bytes_left c bytes a)
keeps_size Asked.Read part bytes a has ok = has
keeps_size Asked.Flush part bytes a has ok = has
keeps_size Asked.Barrier part bytes a has ok = has
keeps_size Asked.Write None bytes a has ok = tt
keeps_size Asked.Write (Some part) bytes a has ok =
    let reach = in_reach Asked.Write (Some part) a.block a.count bytes has ok (inr refl) in
    let long = length-take (a.count * 4096) a.fill in
    let least = min-le_left (a.count * 4096) (length a.fill) in
    same_length bytes (take (a.count * 4096) a.fill) (a.block * 4096) (omega (arith, reach, long, least)) ∙ has

keeps_as : (s : BlkStatus) (part : Option Part) (bytes : List ℕ) (a : Ask) → HasBytes part bytes → status_to part a ≡ s → HasBytes part (left_by s bytes a)
keeps_as Answered.Ok part bytes a has is = keeps_size a.code part bytes a has is
keeps_as Answered.Invalid part bytes a has is = has
keeps_as Answered.NoDevice part bytes a has is = has

-- what a client records is what it must get, as far as its requests go
pub recorded : (part : Option Part) (asks : List Ask) (ys : List Cargo) (id : ℕ) (bytes : List ℕ) → HasBytes part bytes → AreAsked id asks ys → IsPrefix (replies_to asks (client_answers part bytes ys)) (replies_from part bytes id asks)
recorded part [] [] id bytes has f = ([], refl)
recorded part (a ∷ asks) [] id bytes has f = (replies_from part bytes id (a ∷ asks), refl)
recorded part [] (y ∷ ys) id bytes has f = absurd f
recorded part (a ∷ asks) ((ItemOf.Req q, body) ∷ ys) id bytes has f =
    let more = recorded part asks ys (id + 1) (left_by (status_to part a) bytes a) (keeps_as (status_to part a) part bytes a has refl) f.1 in
    let same = ap (λ bs. replies_to asks (client_answers part bs ys)) (one_left part bytes id a q body has f.0) in
    (more.0, λ i. one_reply part bytes id a q body has f.0 i ∷ (ap (λ (rs : List Reply). rs ++ more.0) same ∙ more.1) i)
recorded part (a ∷ asks) ((ItemOf.Net d, body) ∷ ys) id bytes has f = absurd f.0
recorded part (a ∷ asks) ((ItemOf.Byte b, body) ∷ ys) id bytes has f = absurd f.0
recorded part (a ∷ asks) ((ItemOf.Resp r, body) ∷ ys) id bytes has f = absurd f.0
