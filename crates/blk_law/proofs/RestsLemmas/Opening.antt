-- What the virtualiser needs and owes, of the items that passed.
use Rattle.std.proofs.Common.{◌≡◌, ◌+◌, ◌++◌, ◌<◌, ◌&&◌, ◌||◌, ℕ, zero, suc, Bool, true, false, not, nat_lt, Option, Some, None, is_some, is_none, List, [], ◌∷◌, length, map, take, drop, slice_get, refl, sym, ap, ◌∙◌, subst, arith}
use Rattle.std.specs.List.{filter}
use Rattle.std.specs.Option.{option_to_list}
use Rattle.std.proofs.lemmas.Bool.{lt-ltb, le-ltb}
use Rattle.std.proofs.lemmas.List.{append-nil, length-map}
use Rattle.std.proofs.lemmas.List.Sums.{sum_by-cons}
use Rattle.cargo_core.specs.declared.item.Item.{Item}
use Rattle.wire_core.specs.declared.names.QueueId.{QueueId}
use Rattle.wire_core.specs.Deeds.{Cargo}
use Rattle.wire_core.specs.Lists.{Passed}
use Rattle.wire_core.specs.Queues.{items_of}
use Rattle.play_core.specs.Moved.{Moved}
use Rattle.play_core.specs.Sheets.{Scene}
use Rattle.play_core.specs.Totals.{total}
use Rattle.play_core.proofs.Lists.{map_get, map_from, some_is, there_is, there_below}
use Rattle.buffer_kit.specs.Virtualising.{from_queues, to_queues}
use Rattle.net_law.specs.Parts.Table.{is_short}
use Rattle.net_law.proofs.PartsLemmas.Items.{all_at}
use Rattle.blk_mbr.specs.declared.part.Part.{Part}
use Rattle.blk_mbr.specs.Partitions.{part_of}
use Rattle.class_expect.specs.BlkExpect.Replies.{partition_in}
use Rattle.blk_virt.specs.declared.client.Client.{Client}
use Rattle.blk_virt.specs.declared.opening.Block.{Block}
use Rattle.blk_virt.specs.declared.requests.Holder.{Holder}
use Rattle.blk_virt.specs.declared.virtualiser.BlkVirt.{BlkVirt}
use Rattle.blk_virt.specs.Requests.{is_bad, is_own, moves_blocks, request_of}
use Rattle.blk_virt.specs.Serving.{own_of, own_back, answers_to}
use Rattle.blk_virt.specs.Clients.{ClientStands, is_held, is_idle}
use Rattle.blk_virt.specs.Openings.{OpeningStands, KnowsParts, is_open}
use Rattle.blk_virt.specs.Desks.{DeskStands, holders, is_so, owes}
use Rattle.blk_virt.specs.Works.{is_owing, wants_at, gives_at}
use Rattle.blk_virt.specs.Virtualising.{BlkVirtStandsFor, queue_at}
use Rattle.blk_law.specs.Sheets.Parts.{Sharer}
use Rattle.blk_law.specs.Sheets.Rows.{goes_on_item, item_for_disk, items_back, answer_items, answers_due, all_requests}
use Rattle.blk_law.specs.Sheets.Playing.{VirtInTurn, holder_pool, sharers}
use Rattle.blk_law.proofs.RestsLemmas.Serving.{AreOwned, many_so, answers_so, own_so, idle_is, held_due, went_is}
use Rattle.blk_law.proofs.RestsLemmas.Summing.{own_sum, all_owned, leaving_sum, any_is, less_by}
use Rattle.play_core.specs.Rests.Showing.{HaveItems}
use Rattle.play_core.proofs.RestsLemmas.Settling.{took, put}

own_from : (moves own : Bool) → (moves && not own) ≡ false → moves ≡ true → own ≡ true
own_from true true e m = refl
own_from true false e m = cc
own_from false own e m = cc

pub queue_is : (qs : List QueueId) (k : ℕ) (q : QueueId) → slice_get qs k ≡ Some q → queue_at qs k ≡ q.0
queue_is [] k q at = cc
queue_is (r ∷ qs) zero q at = ap (λ (x : QueueId). x.0) (some_is at)
queue_is (r ∷ qs) (suc k) q at = queue_is qs k q at

pub items_drop : (xs : List Cargo) → items_of (drop 1 xs) ≡ drop 1 (items_of xs)
items_drop [] = refl
items_drop (x ∷ xs) = refl

-- a client as the table has it
pub record Shared (hs : List Holder) (from to : List QueueId) (k : ℕ) (r : Sharer) : Type 0 where
  pub holder : Holder
  pub comes : QueueId
  pub goes : QueueId
  pub there : slice_get hs k ≡ Some holder
  pub comes_at : slice_get from k ≡ Some comes
  pub goes_at : slice_get to k ≡ Some goes
  pub sharer_is : r ≡ record { req = comes.0; resp = goes.0; entry = holder.partition; pool = holder_pool holder }

pub shared : (hs : List Holder) (from to : List QueueId) (k : ℕ) (r : Sharer) → slice_get (sharers hs from to) k ≡ Some r → Shared hs from to k r
shared [] from to k r at = absurd cc
shared (h ∷ hs) [] to k r at = absurd cc
shared (h ∷ hs) (q ∷ from) [] k r at = absurd cc
shared (h ∷ hs) (q ∷ from) (p ∷ to) zero r at = record { holder = h; comes = q; goes = p; there = refl; comes_at = refl; goes_at = refl; sharer_is = sym (some_is at) }
shared (h ∷ hs) (q ∷ from) (p ∷ to) (suc k) r at =
    let rest = shared hs from to k r at in
    record { holder = rest.holder; comes = rest.comes; goes = rest.goes; there = rest.there; comes_at = rest.comes_at; goes_at = rest.goes_at; sharer_is = rest.sharer_is }

-- what came from all clients to be sent on is what went to the disk and what leaves
all_sum : (image : List ℕ) (sent : List Cargo) (m : Moved) (cs : List Client) (from to : List QueueId) → length from ≡ length cs → length to ≡ length cs
    → ((k : ℕ) (c : Client) (q : QueueId) → slice_get cs k ≡ Some c → slice_get from k ≡ Some q → length (own_of c.holder sent) + length (option_to_list c.leaving) ≡ length (filter (goes_on_item (partition_in image c.holder.partition)) (m.taken q.0)))
    → own_sum (map (λ (c : Client). c.holder) cs) sent + leaving_sum cs ≡ total (all_requests image (sharers (map (λ (c : Client). c.holder) cs) from to) m)
all_sum image sent m [] from to a b each = refl
all_sum image sent m (c ∷ cs) [] to a b each = absurd (omega (arith, a))
all_sum image sent m (c ∷ cs) (q ∷ from) [] a b each = absurd (omega (arith, b))
all_sum image sent m (c ∷ cs) (q ∷ from) (r ∷ to) a b each =
    let first = each 0 c q refl refl in
    let long = length-map (filter (goes_on_item (partition_in image c.holder.partition)) (m.taken q.0)) (item_for_disk c.holder.base (partition_in image c.holder.partition)) in
    let rest = all_sum image sent m cs from to (omega (arith, a)) (omega (arith, b)) (λ k d p at at'. each (suc k) d p at at') in
    let more = sum_by-cons (λ (d : Client). length (option_to_list d.leaving)) c cs in
    omega (arith, first, long, rest, more)

-- nothing came, so nothing is sent on
none_sum : (image : List ℕ) (m : Moved) (hs : List Holder) (from to : List QueueId) → ((k : ℕ) (q : QueueId) → k < length hs → slice_get from k ≡ Some q → m.taken q.0 ≡ []) → total (all_requests image (sharers hs from to) m) ≡ 0
none_sum image m [] from to none = refl
none_sum image m (h ∷ hs) [] to none = refl
none_sum image m (h ∷ hs) (q ∷ from) [] none = refl
none_sum image m (h ∷ hs) (q ∷ from) (r ∷ to) none =
    let first = ap (λ l. length (map (item_for_disk h.base (partition_in image h.partition)) (filter (goes_on_item (partition_in image h.partition)) l))) (none 0 q (omega arith) refl) in
    let rest = none_sum image m hs from to (λ k p lt at. none (suc k) p (omega (arith, lt)) at) in
    omega (arith, first, rest)

module _ (scene : Scene) (passed : Passed) (m : Moved) (h : HaveItems passed m) (v : BlkVirt) (turn : VirtInTurn scene.image v passed)
    (from_each : length (from_queues v.ends) ≡ length (holders v.work.desk)) (to_each : length (to_queues v.ends) ≡ length (holders v.work.desk)) (st : BlkVirtStandsFor v passed) where
  abbrev i : ℕ
  i = v.ends.input.queue.0

  abbrev o : ℕ
  o = v.ends.output.queue.0

  abbrev from : List QueueId
  from = from_queues v.ends

  abbrev to : List QueueId
  to = to_queues v.ends

  abbrev cs : List Client
  cs = v.work.desk.clients.items

  abbrev hs : List Holder
  hs = holders v.work.desk

  abbrev sent : List Cargo
  sent = passed.sent o

  abbrev image : List ℕ
  image = scene.image

  abbrev parts : ℕ → Option Part
  parts n = partition_in scene.image n

  many : length hs ≡ length cs
  many = length-map cs (λ (c : Client). c.holder)

  free : v.work.stray ≡ None
  free = turn.free

  pub free_is : is_none v.work.stray ≡ true
  free_is = ap is_none free

  back_is : passed.taken i ≡ st.back
  back_is = st.taken ∙ (ap (λ s. st.back ++ option_to_list s) free ∙ append-nil st.back)

  back_long : length st.back ≡ length (m.taken i)
  back_long = ap (λ l. length l) (sym back_is) ∙ took passed m h i

  knows : (l : List Cargo) → st.back ≡ l → KnowsParts v.work.opening.disk_sectors l parts
  knows [] e = tt
  knows (y ∷ l) e = λ n. ap (λ s. part_of (take 512 scene.image) s n) (sym turn.sectors) ∙ ap (λ s. part_of s v.work.opening.disk_sectors n) (sym (turn.sector y (ap (λ x. slice_get x 0) (back_is ∙ e))))

  desk : DeskStands v.work.desk parts (λ k. passed.taken (queue_at from k)) (drop 1 sent) (drop 1 st.back) (λ k. passed.sent (queue_at to k))
  desk = st.stands.serves parts (knows st.back refl)

  module _ (k : ℕ) (c : Client) (at : slice_get cs k ≡ Some c) (q r : QueueId) (comes : slice_get from k ≡ Some q) (goes : slice_get to k ≡ Some r) where
    abbrev part : Option Part
    part = parts c.holder.partition

    stands : ClientStands c part (passed.taken q.0) (own_of c.holder (drop 1 sent)) (own_back c.holder (drop 1 sent) (drop 1 st.back)) (passed.sent r.0)
    stands =
        let a = subst (λ n. ClientStands c part (passed.taken n) (own_of c.holder (drop 1 sent)) (own_back c.holder (drop 1 sent) (drop 1 st.back)) (passed.sent (queue_at to k))) (queue_is from k q comes) (desk.clients k c at) in
        subst (λ n. ClientStands c part (passed.taken q.0) (own_of c.holder (drop 1 sent)) (own_back c.holder (drop 1 sent) (drop 1 st.back)) (passed.sent n)) (queue_is to k r goes) a

    owned : AreOwned c.holder (passed.taken q.0)
    owned j x got moves = own_from (moves_blocks (request_of x.0).code) (is_own c.holder x) (all_at (λ (y : Cargo). is_bad c.holder y ≡ false) (passed.taken q.0) (turn.good k c.holder q (map_get (λ (d : Client). d.holder) cs k c at) comes) j x got) moves

    needs_is : is_idle c ≡ not (is_short (m.sent r.0) (m.taken q.0))
    needs_is =
        idle_is c part (passed.taken q.0) (own_of c.holder (drop 1 sent)) (own_back c.holder (drop 1 sent) (drop 1 st.back)) (passed.sent r.0) stands
        ∙ (ap (λ n. not (nat_lt n (length (passed.taken q.0)))) (put passed m h r.0) ∙ ap (λ n. not (nat_lt (length (m.sent r.0)) n)) (took passed m h q.0))

    abbrev due : List Item
    due = answer_items part (m.taken q.0) (items_back (holder_pool c.holder) (drop 1 (m.sent o)) (drop 1 (m.taken i)))

    -- so many answers are due to it
    due_is : length (answers_to c.holder part (passed.taken q.0) (own_back c.holder (drop 1 sent) (drop 1 st.back))) ≡ length due
    due_is =
        answers_so c.holder part (passed.taken q.0) (own_back c.holder (drop 1 sent) (drop 1 st.back)) (items_back (holder_pool c.holder) (items_of (drop 1 sent)) (items_of (drop 1 st.back))) (own_so c.holder (drop 1 sent) (drop 1 st.back)) owned
        ∙ (ap (λ l. length (answer_items part l (items_back (holder_pool c.holder) (items_of (drop 1 sent)) (items_of (drop 1 st.back))))) (h.taken q.0)
        ∙ (ap (λ l. length (answer_items part (m.taken q.0) (items_back (holder_pool c.holder) l (items_of (drop 1 st.back))))) (items_drop sent ∙ ap (drop 1) (h.sent o))
        ∙ ap (λ l. length (answer_items part (m.taken q.0) (items_back (holder_pool c.holder) (drop 1 (m.sent o)) l))) (items_drop st.back ∙ ap (drop 1) (ap items_of (sym back_is) ∙ h.taken i))))

    loads_is : is_held c ≡ is_short (m.sent r.0) due
    loads_is =
        held_due c part (passed.taken q.0) (own_of c.holder (drop 1 sent)) (own_back c.holder (drop 1 sent) (drop 1 st.back)) (passed.sent r.0) stands
        ∙ (ap (nat_lt (length (passed.sent r.0))) due_is ∙ ap (λ n. nat_lt n (length due)) (put passed m h r.0))

    went : length (own_of c.holder (drop 1 sent)) + length (option_to_list c.leaving) ≡ length (filter (goes_on_item part) (m.taken q.0))
    went =
        went_is c part (passed.taken q.0) (own_of c.holder (drop 1 sent)) (own_back c.holder (drop 1 sent) (drop 1 st.back)) (passed.sent r.0) stands
        ∙ (many_so c.holder part (passed.taken q.0) owned ∙ ap (λ l. length (filter (goes_on_item part) l)) (h.taken q.0))

  -- the partitions are known once a response came
  pub open_is : is_open v.work.opening ≡ nat_lt 0 (length (m.taken i))
  open_is = by v.work.opening.first v.work.opening.block refl st.stands.opens
    where
      by : (f : Option Cargo) (b : Option Block) → v.work.opening.block ≡ b → OpeningStands v.work.opening f b st.start sent st.back → is_some v.work.opening.block ≡ nat_lt 0 (length (m.taken i))
      by (Some x) None e p = let none = ap (λ l. length l) p.2 in ap is_some e ∙ sym (le-ltb 0 (length (m.taken i)) (omega (arith, none, back_long)))
      by None None e p = let none = ap (λ l. length l) p.1 in ap is_some e ∙ sym (le-ltb 0 (length (m.taken i)) (omega (arith, none, back_long)))
      by None (Some b) e p = let some = ap (λ l. length l) p.4 in ap is_some e ∙ sym (lt-ltb 0 (length (m.taken i)) (omega (arith, some, back_long)))
      by (Some x) (Some b) e p = absurd p

  all_is : length (drop 1 sent) + leaving_sum cs ≡ total (all_requests image (sharers hs from to) m)
  all_is =
      let each = all_sum image (drop 1 sent) m cs from to (from_each ∙ many) (to_each ∙ many) (λ k c q at comes. let r = there_is to k (let lt = there_below cs k c at in omega (arith, lt, to_each, many)) in went k c at q r.0 comes r.1) in
      let own = all_owned hs st.work.desk.apart (drop 1 sent) desk.within in
      omega (arith, each, own)

  pub owing_is : is_owing v.work ≡ nat_lt (length (m.sent o)) (1 + total (all_requests image (sharers hs from to) m))
  owing_is = ap (λ s. is_none s && (is_some v.work.opening.first || (is_some v.work.opening.block && owes v.work.desk))) free ∙ by v.work.opening.first v.work.opening.block refl refl st.stands.opens
    where
      by : (f : Option Cargo) (b : Option Block) → v.work.opening.first ≡ f → v.work.opening.block ≡ b → OpeningStands v.work.opening f b st.start sent st.back
          → (is_some v.work.opening.first || (is_some v.work.opening.block && owes v.work.desk)) ≡ nat_lt (length (m.sent o)) (1 + total (all_requests image (sharers hs from to) m))
      by (Some x) None ef eb p =
          let none = ap (λ l. length l) p.1 in
          ap (λ f. is_some f || (is_some v.work.opening.block && owes v.work.desk)) ef ∙ sym (lt-ltb (length (m.sent o)) (1 + total (all_requests image (sharers hs from to) m)) (omega (arith, none, put passed m h o)))
      by None None ef eb p =
          let one = ap (λ l. length l) p.0 in
          let none = none_sum image m hs from to (λ k q lt comes. sym (h.taken q.0) ∙ ap items_of (ap passed.taken (sym (queue_is from k q comes)) ∙ st.stands.quiet p.1 k lt)) in
          ap (λ f. is_some f || (is_some v.work.opening.block && owes v.work.desk)) ef
          ∙ (ap (λ b. is_some b && owes v.work.desk) eb ∙ sym (le-ltb (length (m.sent o)) (1 + total (all_requests image (sharers hs from to) m)) (omega (arith, one, none, put passed m h o))))
      by None (Some b) ef eb p =
          let first = ap (λ l. length l) p.3 in
          let later = ap (λ l. length (drop 1 l)) p.3 in
          ap (λ f. is_some f || (is_some v.work.opening.block && owes v.work.desk)) ef
          ∙ (ap (λ b. is_some b && owes v.work.desk) eb
          ∙ (any_is cs ∙ less_by (length (m.sent o)) (leaving_sum cs) (1 + total (all_requests image (sharers hs from to) m)) (omega (arith, first, later, all_is, put passed m h o))))
      by (Some x) (Some b) ef eb p = absurd p

  -- of a client as the table has it
  module _ (k : ℕ) (x : Sharer) (at : slice_get (sharers hs from to) k ≡ Some x) where
    own : Shared hs from to k x
    own = shared hs from to k x at

    client : (c : Client) × (slice_get cs k ≡ Some c) × (c.holder ≡ own.holder)
    client = map_from (λ (c : Client). c.holder) cs k own.holder own.there

    pub rent_needs : wants_at v.work k ≡ (nat_lt 0 (length (m.taken i)) && not (is_short (m.sent x.resp) (m.taken x.req)))
    rent_needs =
        ap (λ s. is_none s && (is_open v.work.opening && is_so is_idle (slice_get cs k))) free
        ∙ (ap (λ b. b && is_so is_idle (slice_get cs k)) open_is
        ∙ (ap (λ c. nat_lt 0 (length (m.taken i)) && is_so is_idle c) client.1
        ∙ (ap (λ b. nat_lt 0 (length (m.taken i)) && b) (needs_is k client.0 client.1 own.comes own.goes own.comes_at own.goes_at)
        ∙ ap (λ (y : Sharer). nat_lt 0 (length (m.taken i)) && not (is_short (m.sent y.resp) (m.taken y.req))) (sym own.sharer_is))))

    pub rent_loads : gives_at v.work k ≡ is_short (m.sent x.resp) (answers_due image o i m x)
    rent_loads =
        ap (λ s. is_none s && is_so is_held (slice_get cs k)) free
        ∙ (ap (is_so is_held) client.1
        ∙ (loads_is k client.0 client.1 own.comes own.goes own.comes_at own.goes_at
        ∙ (ap (λ (d : Holder). is_short (m.sent own.goes.0) (answer_items (parts d.partition) (m.taken own.comes.0) (items_back (holder_pool d) (drop 1 (m.sent o)) (drop 1 (m.taken i))))) client.2
        ∙ ap (λ (y : Sharer). is_short (m.sent y.resp) (answers_due image o i m y)) (sym own.sharer_is))))
