-- What a client recorded, from the rows of the class at its queues.
use Rattle.std.proofs.Common.{◌≡◌, ◌≤◌, ◌+◌, ◌*◌, ◌++◌, ℕ, zero, suc, false, Some, List, [], ◌∷◌, length, drop, slice_get, refl, sym, ap, ◌∙◌, subst, arith}
use Rattle.cargo_core.specs.Items.{kind_of}
use Rattle.cargo_core.specs.Lists.{IsPrefix}
use Rattle.cargo_core.specs.Pages.{Paged}
use Rattle.cargo_core.specs.declared.item.Ask.{Ask}
use Rattle.cargo_core.specs.declared.item.Body.TheVariants as Carried
use Rattle.cargo_core.specs.declared.item.QueueKind.TheVariants as Kind
use Rattle.wire_core.specs.declared.names.QueueId.{QueueId}
use Rattle.wire_core.specs.Deeds.{Cargo}
use Rattle.wire_core.specs.Lists.{Passed}
use Rattle.play_core.proofs.Lists.{some_is, prefix_trans, there_is, there_below}
use Rattle.buffer_kit.specs.Virtualising.{from_queues, to_queues}
use Rattle.owner_law.specs.Pools.Places.{PoolAt}
use Rattle.net_law.proofs.PartsLemmas.Leasing.{prefix_get}
use Rattle.class_expect.specs.BlkExpect.Replies.{partition_in, replies_of}
use Rattle.client_programs.specs.Blk.Asking.{asked_from, pages_in, replies_to}
use Rattle.client_programs.specs.Blk.Clients.{req_queue, resp_queue}
use Rattle.client_programs.specs.declared.blk.BlkClient.{BlkClient}
use Rattle.blk_virt.specs.Desks.{holders}
use Rattle.blk_virt.specs.Requests.{is_bad}
use Rattle.blk_virt.specs.Serving.{IsServed}
use Rattle.blk_virt.specs.declared.requests.Holder.{Holder}
use Rattle.blk_law.specs.Replying.{AreSized, HaveRoom}
use Rattle.blk_law.proofs.RecordsLemmas.Whole.{records_now}
use Rattle.blk_law.specs.Sheets.Numbers.{BlkPlace, IsBlkClientOf}
use Rattle.blk_quiet.specs.Cast.Casting.{AreRequests, IsAskingClient, IsBlkCast, IsWhole}
use Rattle.blk_quiet.proofs.CastLemmas.Numbers.{client_queues, virt_queues}
use Rattle.blk_quiet.proofs.CastLemmas.Turning.{drop_get, good_from, served, shared, shares_at}
use Rattle.blk_quiet.proofs.CastLemmas.Clients.{back_own}
use Rattle.wired_law.proofs.BlkReplies.Inside.{partition_fits}
use Rattle.wired_law.proofs.BlkReplies.Disks.{all_from, behind, leaves}

-- a buffer takes eight blocks
abbrev IsRoom : Paged → Type 0
IsRoom p = 8 * 4096 ≤ length p.bytes

pages_room : (ys : List Cargo) → ((i : ℕ) (y : Cargo) → slice_get ys i ≡ Some y → IsWhole y.1) → (j : ℕ) (p : Paged) → slice_get (pages_in ys) j ≡ Some p → IsRoom p
pages_room [] each j p at = cc
pages_room ((item, Carried.Page q) ∷ ys) each zero p at = subst IsRoom (some_is at) (each 0 (item, Carried.Page q) refl)
pages_room ((item, Carried.Page q) ∷ ys) each (suc j) p at = pages_room ys (λ i y y_at. each (suc i) y y_at) j p at
pages_room ((item, Carried.Lease q) ∷ ys) each j p at = pages_room ys (λ i y y_at. each (suc i) y y_at) j p at
pages_room ((item, Carried.Empty) ∷ ys) each j p at = pages_room ys (λ i y y_at. each (suc i) y y_at) j p at

both_room : (ps qs : List Paged) → ((i : ℕ) (p : Paged) → slice_get ps i ≡ Some p → IsRoom p) → ((i : ℕ) (p : Paged) → slice_get qs i ≡ Some p → IsRoom p) → (i : ℕ) (p : Paged) → slice_get (ps ++ qs) i ≡ Some p → IsRoom p
both_room [] qs one two i p at = two i p at
both_room (x ∷ ps) qs one two zero p at = one 0 p at
both_room (x ∷ ps) qs one two (suc i) p at = both_room ps qs (λ j q q_at. one (suc j) q q_at) two i p at

module _ (place : BlkPlace) (passed : Passed) (h : IsBlkCast place passed) where
  abbrev S : List Cargo
  S = passed.sent h.virt.ends.output.queue.0

  abbrev B : List Cargo
  B = drop 1 h.virt_row.back

  -- all that the virtualiser put are requests
  kinds : (n : ℕ) (x : Cargo) → slice_get (drop 1 S) n ≡ Some x → kind_of x.0 ≡ Kind.Req
  kinds n x at =
      let o = virt_queues place h.virt h.virt_is in
      h.requests (suc n) x (ap (λ m. slice_get (passed.sent m) (suc n)) (sym o.0) ∙ (sym (drop_get S n) ∙ at))

  module _ (k entry : ℕ) (asks : List Ask) (pool : PoolAt) (of : IsBlkClientOf place k entry asks pool) where
    -- the virtualiser's client of the number: its queues, and how it is served
    record IsDeskClient (g : Holder) (q r : QueueId) : Type 0 where
      at : slice_get (holders h.virt.work.desk) k ≡ Some g
      from_at : slice_get (from_queues h.virt.ends) k ≡ Some q
      req_is : q.0 ≡ place.first + 4 + 2 * k
      resp_is : r.0 ≡ place.first + 5 + 2 * k
      serves : IsServed g (partition_in place.image entry) (passed.taken q.0) (drop 1 S) B (passed.sent r.0)

    desk_client : (g : Holder) × (q : QueueId) × (r : QueueId) × IsDeskClient g q r
    desk_client =
        let below = there_below place.entries k entry of.has_entry in
        let many = (shared place passed h).0 in
        let from_each = h.from_each in
        let to_each = h.to_each in
        let g = there_is (holders h.virt.work.desk) k (omega (arith, below, many)) in
        let q = there_is (from_queues h.virt.ends) k (omega (arith, below, many, from_each)) in
        let r = there_is (to_queues h.virt.ends) k (omega (arith, below, many, to_each)) in
        let s = shares_at place passed h k g.0 q.0 r.0 g.1 q.1 r.1 in
        let own : g.0.partition ≡ entry = s.4.1 ∙ some_is (sym s.2 ∙ of.has_entry) in (
          g.0,
          q.0,
          r.0,
          record {
            at = g.1;
            from_at = q.1;
            req_is = s.4.2;
            resp_is = s.4.3;
            serves = subst (λ n. IsServed g.0 (partition_in place.image n) (passed.taken q.0.0) (drop 1 S) B (passed.sent r.0.0)) own (served place passed h k g.0 q.0 r.0 g.1 q.1 r.1);
          },
        )

    module _ (ask : AreRequests pool (passed.sent (place.first + 4 + 2 * k))) (apart : (j n e : ℕ) → slice_get place.entries j ≡ Some e → slice_get place.entries n ≡ Some e → j ≡ n) (sized : AreSized asks) (c : BlkClient) (is : IsAskingClient place k asks pool c passed) where
      own : (req_queue c ≡ place.first + 4 + 2 * k) × (resp_queue c ≡ place.first + 5 + 2 * k) × (c.asking.script.items ≡ asks)
      own = client_queues place.first k asks pool c is.part

      took : IsPrefix is.row.came (passed.taken (resp_queue c))
      took = (is.row.stray, sym is.row.taken)

      -- each buffer that it had at the start, or that came, takes eight blocks
      room : HaveRoom (is.row.start ++ pages_in is.row.came)
      room =
          let whole : (i : ℕ) (y : Cargo) → slice_get is.row.came i ≡ Some y → IsWhole y.1 = λ i y y_at.
          (back_own place passed h k entry asks pool of ask i y (ap (λ n. slice_get (passed.taken n) i) (sym own.1) ∙ prefix_get is.row.came (passed.taken (resp_queue c)) took i y y_at)).1 in
          all_from IsRoom (is.row.start ++ pages_in is.row.came) (both_room is.row.start (pages_in is.row.came) (λ i p p_at. (let long = is.row.is_start.are_pool.sized i p p_at in omega (arith, long))) (pages_room is.row.came whole))

      recorded_by : (g : Holder) (q r : QueueId) → IsDeskClient g q r → IsPrefix (replies_to asks is.row.came) (replies_of place.image entry asks)
      recorded_by g q r d =
          let pages = is.row.start ++ pages_in is.row.came in
          let put : IsPrefix (passed.sent (req_queue c)) (asked_from 0 asks pages) = subst (λ l. IsPrefix (passed.sent (req_queue c)) (asked_from 0 l pages)) own.2 is.row.asks in
          let from : q.0 ≡ req_queue c = d.req_is ∙ sym own.0 in
          let taken : IsPrefix (passed.taken q.0) (passed.sent (req_queue c)) = subst (λ n. IsPrefix (passed.taken q.0) (passed.sent n)) from (h.hands_over q.0) in
          let to : resp_queue c ≡ r.0 = own.1 ∙ sym d.resp_is in
          let came : IsPrefix is.row.came (passed.sent r.0) = prefix_trans is.row.came (passed.taken (resp_queue c)) (passed.sent r.0) took (subst (λ n. IsPrefix (passed.taken (resp_queue c)) (passed.sent n)) to (h.hands_over (resp_queue c))) in
          let good = all_from (λ (x : Cargo). is_bad g x ≡ false) (passed.taken q.0) (good_from place passed h k g q d.at d.from_at (λ p there. subst (λ l. AreRequests l (passed.sent (place.first + 4 + 2 * k))) (some_is (sym of.has_pool ∙ there)) ask)) in
          let are = all_from (λ (x : Cargo). kind_of x.0 ≡ Kind.Req) (drop 1 S) kinds in
          records_now place.image entry asks g (partition_fits place.image entry) sized pages (passed.sent (req_queue c)) (passed.taken q.0) (drop 1 S) B (passed.sent r.0) is.row.came
          room put taken good are (leaves place passed h apart k entry g d.at of.has_entry) d.serves (behind place passed h) came

      -- what it recorded is a beginning of what it must get
      pub client_recorded : IsPrefix c.asking.kept.shown (replies_of place.image entry asks)
      client_recorded =
          let d = desk_client in
          let shown : c.asking.kept.shown ≡ replies_to asks is.row.came = is.row.replies ∙ ap (λ l. replies_to l is.row.came) own.2 in
          subst (λ l. IsPrefix l (replies_of place.image entry asks)) (sym shown) (recorded_by d.0 d.1 d.2 d.3)
