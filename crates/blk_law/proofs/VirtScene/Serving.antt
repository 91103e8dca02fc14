-- What the virtualiser needs and owes, of the items that passed and the names that are told, whoever
-- its clients are.
use Rattle.std.proofs.Common.{◌≡◌, ◌+◌, ◌++◌, ◌<◌, ◌&&◌, ◌||◌, ℕ, suc, Bool, true, false, not, nat_lt, Option, Some, None, is_some, is_none, List, [], ◌∷◌, length, map, take, drop, slice_get, refl, sym, ap, ap₂, ◌∙◌, subst, arith}
use Rattle.std.specs.List.{filter}
use Rattle.std.specs.Option.{option_to_list}
use Rattle.std.proofs.lemmas.Bool.{lt-ltb, le-ltb}
use Rattle.std.proofs.lemmas.List.{append-nil, length-map}
use Rattle.std.proofs.lemmas.List.Sums.{sum_by-cons}
use Rattle.cargo_core.specs.declared.item.Item.{Item}
use Rattle.wire_core.specs.declared.names.QueueId.{QueueId}
use Rattle.wire_core.specs.Deeds.{Cargo}
use Rattle.wire_core.specs.Lists.{Passed}
use Rattle.wire_core.specs.Queues.{items_of}
use Rattle.play_core.specs.Moved.{Moved}
use Rattle.play_core.specs.Names.{Names, Wild, by_sort}
use Rattle.play_core.specs.Rests.Showing.{HaveItems}
use Rattle.play_core.specs.Sheets.{Scene}
use Rattle.play_core.specs.Totals.{total}
use Rattle.play_core.proofs.Lists.{map_get, map_from}
use Rattle.play_core.proofs.RestsLemmas.Settling.{took, put}
use Rattle.buffer_kit.specs.Virtualising.{from_queues, to_queues}
use Rattle.net_law.specs.Parts.Table.{is_short}
use Rattle.net_law.proofs.PartsLemmas.Items.{all_at}
use Rattle.blk_mbr.specs.declared.part.Part.{Part}
use Rattle.blk_mbr.specs.Partitions.{part_of}
use Rattle.class_expect.specs.BlkExpect.Replies.{partition_in}
use Rattle.blk_virt.specs.declared.client.Client.{Client}
use Rattle.blk_virt.specs.declared.opening.Block.{Block}
use Rattle.blk_virt.specs.declared.requests.Holder.{Holder}
use Rattle.blk_virt.specs.declared.virtualiser.BlkVirt.{BlkVirt}
use Rattle.blk_virt.specs.Requests.{for_disk, goes_on, is_bad}
use Rattle.blk_virt.specs.Serving.{own_of, own_back, answers_to}
use Rattle.blk_virt.specs.Clients.{ClientStands, is_held, is_idle}
use Rattle.blk_virt.specs.Openings.{OpeningStands, KnowsParts, is_open}
use Rattle.blk_virt.specs.Desks.{DeskStands, holders, is_so, owes}
use Rattle.blk_virt.specs.Works.{is_owing, wants_at, gives_at}
use Rattle.blk_virt.specs.Virtualising.{BlkVirtStandsFor, queue_at}
use Rattle.blk_law.specs.Sheets.Parts.{Sharer}
use Rattle.blk_law.specs.Sheets.Rows.{items_back}
use Rattle.blk_law.specs.Sheets.Playing.{holder_pool, sharers}
use Rattle.blk_law.specs.VirtScene.Playing.{BothInTurn, TellsOf}
use Rattle.blk_law.specs.VirtScene.Rows.{Judged, all_answers, all_told, answers_told, by_item, by_name, going_on, judge, requests_told}
use Rattle.blk_law.proofs.RestsLemmas.Opening.{Shared, items_drop, queue_is, shared}
use Rattle.blk_law.proofs.RestsLemmas.Serving.{idle_is, held_due, went_is}
use Rattle.blk_law.proofs.RestsLemmas.Summing.{own_sum, all_owned, leaving_sum, any_is, less_by}
use Rattle.blk_law.proofs.SheetsLemmas.Virtual.{AreGood, back_items}
use Rattle.blk_law.proofs.VirtScene.Sorting.{judge_is, sharer_of}
use Rattle.blk_law.proofs.VirtScene.Telling.{answers_entries, by_entry, on_entries}

-- what came from all clients to be sent on is what went to the disk and what leaves
all_sum : (image : List ℕ) (wild : Wild) (names : Names) (sent : List Cargo) (m : Moved) (cs : List Client) (from to : List QueueId) → length from ≡ length cs → length to ≡ length cs
    → ((k : ℕ) (c : Client) (q r : QueueId) → slice_get cs k ≡ Some c → slice_get from k ≡ Some q → slice_get to k ≡ Some r → length (own_of c.holder sent) + length (option_to_list c.leaving) ≡ length (requests_told image wild names m (sharer_of c.holder q r)))
    → own_sum (map (λ (c : Client). c.holder) cs) sent + leaving_sum cs ≡ total (all_told image wild names (sharers (map (λ (c : Client). c.holder) cs) from to) m)
all_sum image wild names sent m [] from to a b each = refl
all_sum image wild names sent m (c ∷ cs) [] to a b each = absurd (omega (arith, a))
all_sum image wild names sent m (c ∷ cs) (q ∷ from) [] a b each = absurd (omega (arith, b))
all_sum image wild names sent m (c ∷ cs) (q ∷ from) (r ∷ to) a b each =
    let first = each 0 c q r refl refl refl in
    let rest = all_sum image wild names sent m cs from to (omega (arith, a)) (omega (arith, b)) (λ k d p o at at' at''. each (suc k) d p o at at' at'') in
    let more = sum_by-cons (λ (d : Client). length (option_to_list d.leaving)) c cs in
    omega (arith, first, rest, more)

-- nothing came, so nothing is sent on
judge_none : (image : List ℕ) (wild : Wild) (names : Names) (c : Sharer) → judge image wild names c [] ≡ []
judge_none image wild names c = by (wild c.req)
  where
    by : (w : Bool) → by_sort w (map (by_name c.pool (partition_in image c.entry)) []) (map (by_item (partition_in image c.entry)) []) ≡ []
    by true = refl
    by false = refl

none_sum : (image : List ℕ) (wild : Wild) (names : Names) (m : Moved) (hs : List Holder) (from to : List QueueId) → ((k : ℕ) (q : QueueId) → k < length hs → slice_get from k ≡ Some q → m.taken q.0 ≡ []) → total (all_told image wild names (sharers hs from to) m) ≡ 0
none_sum image wild names m [] from to none = refl
none_sum image wild names m (h ∷ hs) [] to none = refl
none_sum image wild names m (h ∷ hs) (q ∷ from) [] none = refl
none_sum image wild names m (h ∷ hs) (q ∷ from) (r ∷ to) none =
    let c = sharer_of h q r in
    let first = ap (λ js. length (going_on h.base (partition_in image h.partition) js)) (ap (judge image wild names c) (none 0 q (omega arith) refl) ∙ judge_none image wild names c) in
    let rest = none_sum image wild names m hs from to (λ k p lt at. none (suc k) p (omega (arith, lt)) at) in
    omega (arith, first, rest)

module _ (scene : Scene) (wild : Wild) (names : Names) (passed : Passed) (m : Moved) (h : HaveItems passed m) (v : BlkVirt) (turn : BothInTurn wild scene.image v passed) (tells : TellsOf wild names v passed)
    (from_each : length (from_queues v.ends) ≡ length (holders v.work.desk)) (to_each : length (to_queues v.ends) ≡ length (holders v.work.desk)) (st : BlkVirtStandsFor v passed) where
  abbrev i : ℕ
  i = v.ends.input.queue.0

  abbrev o : ℕ
  o = v.ends.output.queue.0

  abbrev from : List QueueId
  from = from_queues v.ends

  abbrev to : List QueueId
  to = to_queues v.ends

  abbrev cs : List Client
  cs = v.work.desk.clients.items

  abbrev hs : List Holder
  hs = holders v.work.desk

  abbrev sent : List Cargo
  sent = passed.sent o

  abbrev image : List ℕ
  image = scene.image

  abbrev parts : ℕ → Option Part
  parts n = partition_in scene.image n

  many : length hs ≡ length cs
  many = length-map cs (λ (c : Client). c.holder)

  free : v.work.stray ≡ None
  free = turn.free

  pub free_is : is_none v.work.stray ≡ true
  free_is = ap is_none free

  back_is : passed.taken i ≡ st.back
  back_is = st.taken ∙ (ap (λ s. st.back ++ option_to_list s) free ∙ append-nil st.back)

  back_long : length st.back ≡ length (m.taken i)
  back_long = ap (λ l. length l) (sym back_is) ∙ took passed m h i

  knows : (l : List Cargo) → st.back ≡ l → KnowsParts v.work.opening.disk_sectors l parts
  knows [] e = tt
  knows (y ∷ l) e = λ n. ap (λ s. part_of (take 512 scene.image) s n) (sym turn.sectors) ∙ ap (λ s. part_of s v.work.opening.disk_sectors n) (sym (turn.sector y (ap (λ x. slice_get x 0) (back_is ∙ e))))

  desk : DeskStands v.work.desk parts (λ k. passed.taken (queue_at from k)) (drop 1 sent) (drop 1 st.back) (λ k. passed.sent (queue_at to k))
  desk = st.stands.serves parts (knows st.back refl)

  module _ (k : ℕ) (c : Client) (at : slice_get cs k ≡ Some c) (q r : QueueId) (comes : slice_get from k ≡ Some q) (goes : slice_get to k ≡ Some r) where
    abbrev part : Option Part
    part = parts c.holder.partition

    stands : ClientStands c part (passed.taken q.0) (own_of c.holder (drop 1 sent)) (own_back c.holder (drop 1 sent) (drop 1 st.back)) (passed.sent r.0)
    stands =
        let a = subst (λ n. ClientStands c part (passed.taken n) (own_of c.holder (drop 1 sent)) (own_back c.holder (drop 1 sent) (drop 1 st.back)) (passed.sent (queue_at to k))) (queue_is from k q comes) (desk.clients k c at) in
        subst (λ n. ClientStands c part (passed.taken q.0) (own_of c.holder (drop 1 sent)) (own_back c.holder (drop 1 sent) (drop 1 st.back)) (passed.sent n)) (queue_is to k r goes) a

    abbrev d : Sharer
    d = sharer_of c.holder q r

    good : wild q.0 ≡ false → AreGood c.holder (passed.taken q.0)
    good w j x got = all_at (λ (y : Cargo). is_bad c.holder y ≡ false) (passed.taken q.0) (turn.good k c.holder q (map_get (λ (e : Client). e.holder) cs k c at) comes w) j x got

    judge_here : judge image wild names d (m.taken q.0) ≡ map (by_entry c.holder part) (passed.taken q.0)
    judge_here = ap (judge image wild names d) (sym (h.taken q.0)) ∙ judge_is image wild names c.holder q r (passed.taken q.0) (λ w. tells k q comes w) good

    needs_is : is_idle c ≡ not (is_short (m.sent r.0) (m.taken q.0))
    needs_is =
        idle_is c part (passed.taken q.0) (own_of c.holder (drop 1 sent)) (own_back c.holder (drop 1 sent) (drop 1 st.back)) (passed.sent r.0) stands
        ∙ (ap (λ n. not (nat_lt n (length (passed.taken q.0)))) (put passed m h r.0) ∙ ap (λ n. not (nat_lt (length (m.sent r.0)) n)) (took passed m h q.0))

    abbrev due : List Item
    due = answers_told image wild names o i m d

    -- so many answers are due to it
    due_is : length (answers_to c.holder part (passed.taken q.0) (own_back c.holder (drop 1 sent) (drop 1 st.back))) ≡ length due
    due_is =
        let of_sent : items_of (drop 1 sent) ≡ drop 1 (m.sent o) = items_drop sent ∙ ap (drop 1) (h.sent o) in
        let of_back : items_of (drop 1 st.back) ≡ drop 1 (m.taken i) = items_drop st.back ∙ ap (drop 1) (ap items_of (sym back_is) ∙ h.taken i) in
        let backs : items_of (own_back c.holder (drop 1 sent) (drop 1 st.back)) ≡ items_back (holder_pool c.holder) (drop 1 (m.sent o)) (drop 1 (m.taken i)) = back_items c.holder (drop 1 sent) (drop 1 st.back) ∙ ap₂ (λ (xs ys : List Item). items_back (holder_pool c.holder) xs ys) of_sent of_back in
        let said : items_of (answers_to c.holder part (passed.taken q.0) (own_back c.holder (drop 1 sent) (drop 1 st.back))) ≡ due =
        sym (answers_entries c.holder part (passed.taken q.0) (own_back c.holder (drop 1 sent) (drop 1 st.back)))
        ∙ ap₂ (λ (js : List Judged) (ys : List Item). all_answers js ys) (sym judge_here) backs in
        sym (length-map (answers_to c.holder part (passed.taken q.0) (own_back c.holder (drop 1 sent) (drop 1 st.back))) (λ (x : Cargo). x.0)) ∙ ap (λ (l : List Item). length l) said

    loads_is : is_held c ≡ is_short (m.sent r.0) due
    loads_is =
        held_due c part (passed.taken q.0) (own_of c.holder (drop 1 sent)) (own_back c.holder (drop 1 sent) (drop 1 st.back)) (passed.sent r.0) stands
        ∙ (ap (nat_lt (length (passed.sent r.0))) due_is ∙ ap (λ n. nat_lt n (length due)) (put passed m h r.0))

    went : length (own_of c.holder (drop 1 sent)) + length (option_to_list c.leaving) ≡ length (requests_told image wild names m d)
    went =
        let kept = filter (goes_on c.holder part) (passed.taken q.0) in
        let all = went_is c part (passed.taken q.0) (own_of c.holder (drop 1 sent)) (own_back c.holder (drop 1 sent) (drop 1 st.back)) (passed.sent r.0) stands in
        let one = length-map (map (for_disk c.holder part) kept) (λ (x : Cargo). x.0) in
        let two = length-map kept (for_disk c.holder part) in
        let said : requests_told image wild names m d ≡ items_of (map (for_disk c.holder part) kept) = ap (going_on c.holder.base part) judge_here ∙ on_entries c.holder part (passed.taken q.0) in
        let long = ap (λ (l : List Item). length l) said in
        omega (arith, all, one, two, long)

  -- the partitions are known once a response came
  pub open_is : is_open v.work.opening ≡ nat_lt 0 (length (m.taken i))
  open_is = by v.work.opening.first v.work.opening.block refl st.stands.opens
    where
      by : (f : Option Cargo) (b : Option Block) → v.work.opening.block ≡ b → OpeningStands v.work.opening f b st.start sent st.back → is_some v.work.opening.block ≡ nat_lt 0 (length (m.taken i))
      by (Some x) None e p = let none = ap (λ l. length l) p.2 in ap is_some e ∙ sym (le-ltb 0 (length (m.taken i)) (omega (arith, none, back_long)))
      by None None e p = let none = ap (λ l. length l) p.1 in ap is_some e ∙ sym (le-ltb 0 (length (m.taken i)) (omega (arith, none, back_long)))
      by None (Some b) e p = let some = ap (λ l. length l) p.4 in ap is_some e ∙ sym (lt-ltb 0 (length (m.taken i)) (omega (arith, some, back_long)))
      by (Some x) (Some b) e p = absurd p

  all_is : length (drop 1 sent) + leaving_sum cs ≡ total (all_told image wild names (sharers hs from to) m)
  all_is =
      let each = all_sum image wild names (drop 1 sent) m cs from to (from_each ∙ many) (to_each ∙ many) (λ k c q r at comes goes. went k c at q r comes goes) in
      let own = all_owned hs st.work.desk.apart (drop 1 sent) desk.within in
      omega (arith, each, own)

  pub owing_is : is_owing v.work ≡ nat_lt (length (m.sent o)) (1 + total (all_told image wild names (sharers hs from to) m))
  owing_is = ap (λ s. is_none s && (is_some v.work.opening.first || (is_some v.work.opening.block && owes v.work.desk))) free ∙ by v.work.opening.first v.work.opening.block refl refl st.stands.opens
    where
      by : (f : Option Cargo) (b : Option Block) → v.work.opening.first ≡ f → v.work.opening.block ≡ b → OpeningStands v.work.opening f b st.start sent st.back
          → (is_some v.work.opening.first || (is_some v.work.opening.block && owes v.work.desk)) ≡ nat_lt (length (m.sent o)) (1 + total (all_told image wild names (sharers hs from to) m))
      by (Some x) None ef eb p =
          let none = ap (λ l. length l) p.1 in
          ap (λ f. is_some f || (is_some v.work.opening.block && owes v.work.desk)) ef ∙ sym (lt-ltb (length (m.sent o)) (1 + total (all_told image wild names (sharers hs from to) m)) (omega (arith, none, put passed m h o)))
      by None None ef eb p =
          let one = ap (λ l. length l) p.0 in
          let none = none_sum image wild names m hs from to (λ k q lt comes. sym (h.taken q.0) ∙ ap items_of (ap passed.taken (sym (queue_is from k q comes)) ∙ st.stands.quiet p.1 k lt)) in
          ap (λ f. is_some f || (is_some v.work.opening.block && owes v.work.desk)) ef
          ∙ (ap (λ b. is_some b && owes v.work.desk) eb ∙ sym (le-ltb (length (m.sent o)) (1 + total (all_told image wild names (sharers hs from to) m)) (omega (arith, one, none, put passed m h o))))
      by None (Some b) ef eb p =
          let first = ap (λ l. length l) p.3 in
          let later = ap (λ l. length (drop 1 l)) p.3 in
          ap (λ f. is_some f || (is_some v.work.opening.block && owes v.work.desk)) ef
          ∙ (ap (λ b. is_some b && owes v.work.desk) eb
          ∙ (any_is cs ∙ less_by (length (m.sent o)) (leaving_sum cs) (1 + total (all_told image wild names (sharers hs from to) m)) (omega (arith, first, later, all_is, put passed m h o))))
      by (Some x) (Some b) ef eb p = absurd p

  -- of a client as the table has it
  module _ (k : ℕ) (x : Sharer) (at : slice_get (sharers hs from to) k ≡ Some x) where
    own : Shared hs from to k x
    own = shared hs from to k x at

    client : (c : Client) × (slice_get cs k ≡ Some c) × (c.holder ≡ own.holder)
    client = map_from (λ (c : Client). c.holder) cs k own.holder own.there

    pub rent_needs : wants_at v.work k ≡ (nat_lt 0 (length (m.taken i)) && not (is_short (m.sent x.resp) (m.taken x.req)))
    rent_needs =
        ap (λ s. is_none s && (is_open v.work.opening && is_so is_idle (slice_get cs k))) free
        ∙ (ap (λ b. b && is_so is_idle (slice_get cs k)) open_is
        ∙ (ap (λ c. nat_lt 0 (length (m.taken i)) && is_so is_idle c) client.1
        ∙ (ap (λ b. nat_lt 0 (length (m.taken i)) && b) (needs_is k client.0 client.1 own.comes own.goes own.comes_at own.goes_at)
        ∙ ap (λ (y : Sharer). nat_lt 0 (length (m.taken i)) && not (is_short (m.sent y.resp) (m.taken y.req))) (sym own.sharer_is))))

    pub rent_loads : gives_at v.work k ≡ is_short (m.sent x.resp) (answers_told image wild names o i m x)
    rent_loads =
        ap (λ s. is_none s && is_so is_held (slice_get cs k)) free
        ∙ (ap (is_so is_held) client.1
        ∙ (loads_is k client.0 client.1 own.comes own.goes own.comes_at own.goes_at
        ∙ ap (λ (y : Sharer). is_short (m.sent y.resp) (answers_told image wild names o i m y)) (ap (λ (g : Holder). sharer_of g own.comes own.goes) client.2 ∙ sym own.sharer_is)))
