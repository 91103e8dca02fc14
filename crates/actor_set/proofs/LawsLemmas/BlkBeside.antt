-- Where nothing changes at the ends of the block class's actors, they fit them and stand for the
-- same lists.
use Rattle.std.proofs.Common.{ap, ◌≡◌, ◌++◌, ◌<◌, ℕ, zero, suc, Some, List, length, drop, slice_get, refl, sym, ap, ◌∙◌, subst, arith, inl, inr}
use Rattle.std.specs.Option.{option_to_list}
use Rattle.std.proofs.lemmas.List.{length-map}
use Rattle.cargo_core.specs.Pages.{Paged}
use Rattle.wire_core.specs.declared.names.QueueId.{QueueId}
use Rattle.wire_core.specs.Deeds.{Cargo}
use Rattle.wire_core.specs.Ends.{Role, Consumer, Producer, End}
use Rattle.wire_core.specs.Lists.{Passed}
use Rattle.turn_kit.specs.Table.{Agrees}
use Rattle.turn_kit.specs.declared.ends.Intake.{Intake}
use Rattle.turn_kit.specs.declared.ends.Outlet.{Outlet}
use Rattle.play_core.proofs.Lists.{map_get, map_from, some_is, there_is, there_below}
use Rattle.buffer_kit.specs.Conserving.{counted}
use Rattle.buffer_kit.specs.Virtualising.{VirtOwns, from_queues, to_queues, virt_came, virt_went}
use Rattle.buffer_kit.specs.declared.virt_ends.VirtEnds.{VirtEnds}
use Rattle.device_model.specs.declared.disk.DiskDevice.{DiskDevice}
use Rattle.device_model.specs.Disk.Disks.{FitsDisk, DiskStandsFor, DiskEnd, req, resp}
use Rattle.client_programs.specs.declared.blk.BlkClient.{BlkClient}
use Rattle.client_programs.specs.Blk.Clients.{FitsBlkClient, BlkClientStandsFor, BlkClientEnd, req_queue, resp_queue}
use Rattle.blk_virt.specs.declared.client.Client.{Client}
use Rattle.blk_virt.specs.declared.virtualiser.BlkVirt.{BlkVirt}
use Rattle.blk_virt.specs.declared.work.Work.{Work}
use Rattle.blk_virt.specs.Serving.{own_of, own_back}
use Rattle.blk_virt.specs.Openings.{IsOutOfTurn}
use Rattle.blk_virt.specs.Desks.{holders}
use Rattle.blk_virt.specs.Ends.{FitsEnds}
use Rattle.blk_virt.specs.Works.{WorkStands}
use Rattle.blk_virt.specs.Virtualising.{FitsBlkVirt, BlkVirtStandsFor, queue_at}
use Rattle.blk_virt.proofs.Answering.{same_lists}
use Rattle.blk_law.proofs.RestsLemmas.Opening.{queue_is}
use Rattle.actor_set.proofs.LawsLemmas.NetBeside.{bodies_same}

module _ (ends ends' : Role → ℕ → End) where
  pub fits_disk : (d : DiskDevice) → ((r : Role) (n : ℕ) → DiskEnd d r n → ends' r n ≡ ends r n) → FitsDisk ends d → FitsDisk ends' d
  fits_disk d same f = record {
    input = subst (λ e. Agrees e d.input.state) (sym (same Consumer (req d) refl)) f.input;
    output = subst (λ e. Agrees e d.output.state) (sym (same Producer (resp d) refl)) f.output;
    comes = ap (λ (e : End). e.kind) (same Consumer (req d) refl) ∙ f.comes;
    goes = ap (λ (e : End). e.kind) (same Producer (resp d) refl) ∙ f.goes;
    load = f.load;
  }

  pub fits_asker : (c : BlkClient) → ((r : Role) (n : ℕ) → BlkClientEnd c r n → ends' r n ≡ ends r n) → FitsBlkClient ends c → FitsBlkClient ends' c
  fits_asker c same f = record {
    responses = subst (λ e. Agrees e c.responses.state) (sym (same Consumer (resp_queue c) refl)) f.responses;
    requests = subst (λ e. Agrees e c.requests.state) (sym (same Producer (req_queue c) refl)) f.requests;
    comes = ap (λ (e : End). e.kind) (same Consumer (resp_queue c) refl) ∙ f.comes;
    goes = ap (λ (e : End). e.kind) (same Producer (req_queue c) refl) ∙ f.goes;
    asking = f.asking;
  }

  fits_ends : (v : VirtEnds) → ((r : Role) (n : ℕ) → VirtOwns v r n → ends' r n ≡ ends r n) → FitsEnds ends v → FitsEnds ends' v
  fits_ends v same f = record {
    input = subst (λ e. Agrees e v.input.state) (sym (same Consumer v.input.queue.0 (inl refl))) f.input;
    output = subst (λ e. Agrees e v.output.state) (sym (same Producer v.output.queue.0 (inl refl))) f.output;
    from_clients = record {
      agrees = λ k i at. subst (λ e. Agrees e i.state) (sym (same Consumer i.queue.0 (inr (k, i.queue, map_get (λ (x : Intake). x.queue) v.from_clients.ends.items k i at, refl)))) (f.from_clients.agrees k i at);
      apart = f.from_clients.apart;
    };
    to_clients = record {
      agrees = λ k i at. subst (λ e. Agrees e i.state) (sym (same Producer i.queue.0 (inr (k, i.queue, map_get (λ (x : Outlet). x.queue) v.to_clients.ends.items k i at, refl)))) (f.to_clients.agrees k i at);
      apart = f.to_clients.apart;
    };
    comes = ap (λ (e : End). e.kind) (same Consumer v.input.queue.0 (inl refl)) ∙ f.comes;
    goes = ap (λ (e : End). e.kind) (same Producer v.output.queue.0 (inl refl)) ∙ f.goes;
    come_from = λ k q at. ap (λ (e : End). e.kind) (same Consumer q.0 (inr (k, q, at, refl))) ∙ f.come_from k q at;
    go_to = λ k q at. ap (λ (e : End). e.kind) (same Producer q.0 (inr (k, q, at, refl))) ∙ f.go_to k q at;
    inputs_apart = f.inputs_apart;
    outputs_apart = f.outputs_apart;
    few_from = f.few_from;
    few_to = f.few_to;
  }

  pub fits_server : (v : BlkVirt) → ((r : Role) (n : ℕ) → VirtOwns v.ends r n → ends' r n ≡ ends r n) → FitsBlkVirt ends v → FitsBlkVirt ends' v
  fits_server v same f = record { ends_fit = fits_ends v.ends same f.ends_fit; work = f.work; from_each = f.from_each; to_each = f.to_each }

-- what clients were given and sent matters only at their places
work_lists : (w : Work) (start : Paged) (back : List Cargo) (came : ℕ → List Cargo) (sent : List Cargo) (gave came' gave' : ℕ → List Cargo) → ((k : ℕ) → k < length (holders w.desk) → came' k ≡ came k) → ((k : ℕ) → k < length (holders w.desk) → gave' k ≡ gave k) → WorkStands w start back came sent gave → WorkStands w start back came' sent gave'
work_lists w start back came sent gave came' gave' e f h = record {
  is_start = h.is_start;
  opens = h.opens;
  serves = λ parts knows. let d = h.serves parts knows in record {
    clients = λ k c at.
        let below = there_below w.desk.clients.items k c at in
        let many = length-map w.desk.clients.items (λ (x : Client). x.holder) in
        same_lists c (parts c.holder.partition) (came k) (own_of c.holder (drop 1 sent)) (own_back c.holder (drop 1 sent) (drop 1 back)) (gave k) (came' k) (own_of c.holder (drop 1 sent)) (own_back c.holder (drop 1 sent) (drop 1 back)) (gave' k) (e k (omega (arith, below, many))) refl refl (f k (omega (arith, below, many))) (d.clients k c at);
    answered = d.answered;
    unanswered = d.unanswered;
    sent_are = d.sent_are;
    as_many = d.as_many;
    are_of = d.are_of;
    within = d.within;
  };
  quiet = λ none k lt. e k lt ∙ h.quiet none k lt;
  numbered = h.numbered;
  number = h.number;
}

module _ (passed passed' : Passed) where
  pub stands_disk : (start : List ℕ) (d : DiskDevice) → ((n : ℕ) → DiskEnd d Consumer n → passed'.taken n ≡ passed.taken n) → ((n : ℕ) → DiskEnd d Producer n → passed'.sent n ≡ passed.sent n) → DiskStandsFor start d passed → DiskStandsFor start d passed'
  stands_disk start d ins outs f = record {
    requests = f.requests;
    taken = ins (req d) refl ∙ f.taken;
    answered = ap (λ l. l ++ option_to_list d.load) (outs (resp d) refl) ∙ f.answered;
    image = f.image;
    size = f.size;
    in_turn = f.in_turn;
    out_of_turn = f.out_of_turn;
  }

  pub stands_asker : (c : BlkClient) → ((n : ℕ) → BlkClientEnd c Consumer n → passed'.taken n ≡ passed.taken n) → ((n : ℕ) → BlkClientEnd c Producer n → passed'.sent n ≡ passed.sent n) → BlkClientStandsFor c passed → BlkClientStandsFor c passed'
  stands_asker c ins outs f =
      let i : passed'.taken (resp_queue c) ≡ passed.taken (resp_queue c) = ins (resp_queue c) refl in
      let o : passed'.sent (req_queue c) ≡ passed.sent (req_queue c) = outs (req_queue c) refl in
      record {
        start = f.start;
        is_start = f.is_start;
        came = f.came;
        taken = i ∙ f.taken;
        stands = rw o f.stands;
        few = f.few;
        no_request = rw o f.no_request;
        conserves = rw (i, o) f.conserves;
      }

  module _ (v : BlkVirt) (from_each : length (from_queues v.ends) ≡ length (holders v.work.desk)) (to_each : length (to_queues v.ends) ≡ length (holders v.work.desk))
      (ins : (n : ℕ) → VirtOwns v.ends Consumer n → passed'.taken n ≡ passed.taken n) (outs : (n : ℕ) → VirtOwns v.ends Producer n → passed'.sent n ≡ passed.sent n) where
    abbrev i : ℕ
    i = v.ends.input.queue.0

    abbrev o : ℕ
    o = v.ends.output.queue.0

    abbrev from : List QueueId
    from = from_queues v.ends

    abbrev to : List QueueId
    to = to_queues v.ends

    from_owned : (k : ℕ) → k < length (holders v.work.desk) → VirtOwns v.ends Consumer (queue_at from k)
    from_owned k lt = let q = there_is from k (omega (arith, lt, from_each)) in inr (k, q.0, q.1, queue_is from k q.0 q.1)

    to_owned : (k : ℕ) → k < length (holders v.work.desk) → VirtOwns v.ends Producer (queue_at to k)
    to_owned k lt = let q = there_is to k (omega (arith, lt, to_each)) in inr (k, q.0, q.1, queue_is to k q.0 q.1)

    all_came : (k n : ℕ) → slice_get (virt_came v.ends) k ≡ Some n → VirtOwns v.ends Consumer n
    all_came zero n at = inl (sym (some_is at))
    all_came (suc k) n at = let f = map_from (λ (q : QueueId). q.0) from k n at in inr (k, f.0, f.1, sym f.2)

    all_went : (k n : ℕ) → slice_get (virt_went v.ends) k ≡ Some n → VirtOwns v.ends Producer n
    all_went zero n at = inl (sym (some_is at))
    all_went (suc k) n at = let f = map_from (λ (q : QueueId). q.0) to k n at in inr (k, f.0, f.1, sym f.2)

    pub stands_server : BlkVirtStandsFor v passed → BlkVirtStandsFor v passed'
    stands_server f =
        let out : passed'.sent o ≡ passed.sent o = outs o (inl refl) in
        record {
          work = f.work;
          start = f.start;
          long = f.long;
          back = f.back;
          taken = ins i (inl refl) ∙ f.taken;
          stands = subst (λ l. WorkStands v.work f.start f.back (λ k. passed'.taken (queue_at from k)) l (λ k. passed'.sent (queue_at to k))) (sym out)
              (work_lists v.work f.start f.back (λ k. passed.taken (queue_at from k)) (passed.sent o) (λ k. passed.sent (queue_at to k)) (λ k. passed'.taken (queue_at from k)) (λ k. passed'.sent (queue_at to k)) (λ k lt. ins (queue_at from k) (from_owned k lt)) (λ k lt. outs (queue_at to k) (to_owned k lt)) f.stands);
          stray = λ y is. subst (λ l. IsOutOfTurn l f.back y) (sym out) (f.stray y is);
          conserves = λ c.
              let was = f.conserves c in
              let came = ap (counted c) (bodies_same passed.taken passed'.taken (virt_came v.ends) (λ k n at. ins n (all_came k n at))) in
              let went = ap (counted c) (bodies_same passed.sent passed'.sent (virt_went v.ends) (λ k n at. outs n (all_went k n at))) in
              omega (arith, was, came, went);
        }
