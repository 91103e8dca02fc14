-- Where nothing changes at the ends of a network actor, it fits them and stands for the same lists.
use Rattle.std.proofs.Common.{◌≡◌, ◌⊎◌, ◌==◌, ◌++◌, ◌<◌, ℕ, zero, suc, Bool, true, false, if◌then◌else◌, Option, Some, None, List, [], ◌∷◌, length, slice_get, refl, sym, ap, ◌∙◌, subst, arith, inl, inr}
use Rattle.std.specs.Option.{option_to_list}
use Rattle.std.proofs.Math.Dec.{eqb}
use Rattle.std.proofs.lemmas.Bool.Decides.{eqb_tells}
use Rattle.std.proofs.lemmas.List.{append-nil}
use Rattle.cargo_core.specs.Bodies.{buffers_of}
use Rattle.wire_core.specs.declared.names.QueueId.{QueueId}
use Rattle.wire_core.specs.Deeds.{Cargo}
use Rattle.wire_core.specs.Ends.{Role, Consumer, Producer, End}
use Rattle.wire_core.specs.Lists.{Lists, Passed, if_there}
use Rattle.turn_kit.specs.Table.{Agrees}
use Rattle.turn_kit.specs.Hands.{Balances, bodies_of, bodies_at}
use Rattle.turn_kit.specs.Pipes.{FitsPipe, PipeStandsFor}
use Rattle.turn_kit.specs.declared.pipe.Pipe.{Pipe}
use Rattle.turn_kit.specs.declared.ends.Intake.{Intake}
use Rattle.turn_kit.specs.declared.ends.Outlet.{Outlet}
use Rattle.pipe_driver.specs.Drivers.{EachPipe, PipesEnd, FitsPipes, PipesStandFor}
use Rattle.play_core.proofs.Lists.{map_get, map_from, some_is, there_is, there_below}
use Rattle.device_model.specs.Ethernet.Devices.{FitsDevice, HoldingDeviceStands, DeviceEnd, rx_free, rx_active, tx_active, tx_free}
use Rattle.device_model.specs.declared.ethernet.EthDevice.{EthDevice}
use Rattle.buffer_kit.specs.Virtualising.{FitsVirt, VirtOwns, from_queues, to_queues, virt_came, virt_went}
use Rattle.buffer_kit.specs.declared.virt_ends.VirtEnds.{VirtEnds}
use Rattle.net_virt_rx.specs.Receiving.{FitsRx, RxStandsFor, IsOutOfTurn, queue_at}
use Rattle.net_virt_rx.specs.Sharing.{IsFrameInTurn, IsLeaseInTurn, SharerStands}
use Rattle.net_virt_rx.specs.declared.NetVirtRx.{NetVirtRx}
use Rattle.net_virt_rx.proofs.Standing.{as_lists}
use Rattle.net_virt_rx.proofs.Steps.{queue_is}
use Rattle.net_copier.specs.Copying.{FitsCopier, CopierEnd}
use Rattle.net_copier.specs.declared.NetCopier.{NetCopier}
use Rattle.client_programs.specs.Net.Clients.{FitsClient, ClientStandsFor, ClientEnd}
use Rattle.client_programs.specs.Net.Clients as client
use Rattle.client_programs.specs.declared.net.NetClient.{NetClient}
use Rattle.client_programs.proofs.NetLemmas.Standing.{held_on}

module _ (ends ends' : Role → ℕ → End) where
  pub fits_pipe : (p : Pipe) → ends' Consumer p.input.queue.0 ≡ ends Consumer p.input.queue.0 → ends' Producer p.output.queue.0 ≡ ends Producer p.output.queue.0 → FitsPipe ends p → FitsPipe ends' p
  fits_pipe p i o f = record {
    input = subst (λ e. Agrees e p.input.state) (sym i) f.input;
    output = subst (λ e. Agrees e p.output.state) (sym o) f.output;
    kinds = ap (λ (e : End). e.kind) i ∙ (f.kinds ∙ sym (ap (λ (e : End). e.kind) o));
    load = rw o f.load;
  }

  each_fits : (ps : List Pipe) → ((n : ℕ) → PipesEnd ps Consumer n → ends' Consumer n ≡ ends Consumer n) → ((n : ℕ) → PipesEnd ps Producer n → ends' Producer n ≡ ends Producer n) → EachPipe (FitsPipe ends) ps → EachPipe (FitsPipe ends') ps
  each_fits [] ins outs f = tt
  each_fits (p ∷ ps) ins outs f = (fits_pipe p (ins p.input.queue.0 (inl refl)) (outs p.output.queue.0 (inl refl)) f.0, each_fits ps (λ n e. ins n (inr e)) (λ n e. outs n (inr e)) f.1)

  pub fits_pipes : (ps : List Pipe) → ((r : Role) (n : ℕ) → PipesEnd ps r n → ends' r n ≡ ends r n) → FitsPipes ends ps → FitsPipes ends' ps
  fits_pipes ps same f = record { each = each_fits ps (same Consumer) (same Producer) f.each; inputs = f.inputs; outputs = f.outputs }

  pub fits_device : (d : EthDevice) → ((r : Role) (n : ℕ) → DeviceEnd d r n → ends' r n ≡ ends r n) → FitsDevice ends d → FitsDevice ends' d
  fits_device d same f = record {
    free = subst (λ e. Agrees e d.free.state) (sym (same Consumer (rx_free d) (inl refl))) f.free;
    active = subst (λ e. Agrees e d.active.state) (sym (same Producer (rx_active d) (inl refl))) f.active;
    wire = fits_pipe d.wire.pipe (same Consumer (tx_active d) (inr refl)) (same Producer (tx_free d) (inr refl)) f.wire;
    comes = ap (λ (e : End). e.kind) (same Consumer (rx_free d) (inl refl)) ∙ f.comes;
    goes = ap (λ (e : End). e.kind) (same Producer (rx_active d) (inl refl)) ∙ f.goes;
    load = f.load;
    inputs_apart = f.inputs_apart;
    outputs_apart = f.outputs_apart;
    next = f.next;
    frames = f.frames;
  }

  pub fits_copier : (c : NetCopier) → ((r : Role) (n : ℕ) → CopierEnd c r n → ends' r n ≡ ends r n) → FitsCopier ends c → FitsCopier ends' c
  fits_copier c same f = record {
    lease_input = subst (λ e. Agrees e c.lease_input.state) (sym (same Consumer c.lease_input.queue.0 (inl refl))) f.lease_input;
    buffer_input = subst (λ e. Agrees e c.buffer_input.state) (sym (same Consumer c.buffer_input.queue.0 (inr refl))) f.buffer_input;
    buffer_output = subst (λ e. Agrees e c.buffer_output.state) (sym (same Producer c.buffer_output.queue.0 (inl refl))) f.buffer_output;
    lease_output = subst (λ e. Agrees e c.lease_output.state) (sym (same Producer c.lease_output.queue.0 (inr refl))) f.lease_output;
    leases_come = ap (λ (e : End). e.kind) (same Consumer c.lease_input.queue.0 (inl refl)) ∙ f.leases_come;
    buffers_come = ap (λ (e : End). e.kind) (same Consumer c.buffer_input.queue.0 (inr refl)) ∙ f.buffers_come;
    buffers_go = ap (λ (e : End). e.kind) (same Producer c.buffer_output.queue.0 (inl refl)) ∙ f.buffers_go;
    leases_go = ap (λ (e : End). e.kind) (same Producer c.lease_output.queue.0 (inr refl)) ∙ f.leases_go;
    inputs_apart = f.inputs_apart;
    outputs_apart = f.outputs_apart;
    lease = f.lease;
    buffer = f.buffer;
    work = f.work;
  }

  pub fits_client : (c : NetClient) → ((r : Role) (n : ℕ) → ClientEnd c r n → ends' r n ≡ ends r n) → FitsClient ends c → FitsClient ends' c
  fits_client c same f = record {
    frames = fits_pipe c.frames.pipe (same Consumer (client.rx_active c) (inl refl)) (same Producer (client.rx_free c) (inl refl)) f.frames;
    sent = subst (λ e. Agrees e c.sent.state) (sym (same Consumer (client.tx_free c) (inr refl))) f.sent;
    send = subst (λ e. Agrees e c.send.state) (sym (same Producer (client.tx_active c) (inr refl))) f.send;
    gives = ap (λ (e : End). e.kind) (same Producer (client.rx_free c) (inl refl)) ∙ f.gives;
    comes_back = ap (λ (e : End). e.kind) (same Consumer (client.tx_free c) (inr refl)) ∙ f.comes_back;
    sends = ap (λ (e : End). e.kind) (same Producer (client.tx_active c) (inr refl)) ∙ f.sends;
    inputs_apart = f.inputs_apart;
    outputs_apart = f.outputs_apart;
    stock = f.stock;
    outbox = f.outbox;
    script = f.script;
    record_ = f.record_;
    few = f.few;
  }

  pub fits_virt : (v : VirtEnds) → ((r : Role) (n : ℕ) → VirtOwns v r n → ends' r n ≡ ends r n) → FitsVirt ends v → FitsVirt ends' v
  fits_virt v same f = record {
    input = subst (λ e. Agrees e v.input.state) (sym (same Consumer v.input.queue.0 (inl refl))) f.input;
    output = subst (λ e. Agrees e v.output.state) (sym (same Producer v.output.queue.0 (inl refl))) f.output;
    from_clients = record {
      agrees = λ k i at. subst (λ e. Agrees e i.state) (sym (same Consumer i.queue.0 (inr (k, i.queue, map_get (λ (x : Intake). x.queue) v.from_clients.ends.items k i at, refl)))) (f.from_clients.agrees k i at);
      apart = f.from_clients.apart;
    };
    to_clients = record {
      agrees = λ k i at. subst (λ e. Agrees e i.state) (sym (same Producer i.queue.0 (inr (k, i.queue, map_get (λ (x : Outlet). x.queue) v.to_clients.ends.items k i at, refl)))) (f.to_clients.agrees k i at);
      apart = f.to_clients.apart;
    };
    comes = ap (λ (e : End). e.kind) (same Consumer v.input.queue.0 (inl refl)) ∙ f.comes;
    goes = ap (λ (e : End). e.kind) (same Producer v.output.queue.0 (inl refl)) ∙ f.goes;
    come_from = λ k q at. ap (λ (e : End). e.kind) (same Consumer q.0 (inr (k, q, at, refl))) ∙ f.come_from k q at;
    go_to = λ k q at. ap (λ (e : End). e.kind) (same Producer q.0 (inr (k, q, at, refl))) ∙ f.go_to k q at;
    inputs_apart = f.inputs_apart;
    outputs_apart = f.outputs_apart;
    few_from = f.few_from;
    few_to = f.few_to;
  }

  pub fits_receiver : (v : NetVirtRx) → ((r : Role) (n : ℕ) → VirtOwns v.ends r n → ends' r n ≡ ends r n) → FitsRx ends v → FitsRx ends' v
  fits_receiver v same f = record { ends_fit = fits_virt v.ends same f.ends_fit; work = f.work; from_each = f.from_each; to_each = f.to_each }

-- the same bodies passed at queues where the same entries did
pub bodies_same : (a b : Lists) (ns : List ℕ) → ((k n : ℕ) → slice_get ns k ≡ Some n → b n ≡ a n) → bodies_at b ns ≡ bodies_at a ns
bodies_same a b [] same = refl
bodies_same a b (n ∷ ns) same =
    let head : b n ≡ a n = same 0 n refl in
    ap (λ l. bodies_of l ++ bodies_at b ns) head ∙ ap (λ l. bodies_of (a n) ++ l) (bodies_same a b ns (λ k m at. same (suc k) m at))

-- lists as they were at one place, and as they are at all others
abbrev pub turned : ℕ → Lists → Lists → Lists
turned place was now n = if place == n then was n else now n

module _ (passed passed' : Passed) where
  pub stands_pipe : (p : Pipe) → passed'.taken p.input.queue.0 ≡ passed.taken p.input.queue.0 → passed'.sent p.output.queue.0 ≡ passed.sent p.output.queue.0 → PipeStandsFor p passed → PipeStandsFor p passed'
  stands_pipe p i o f = rw (i, o) f

  pub stands_pipes : (ps : List Pipe) → ((n : ℕ) → PipesEnd ps Consumer n → passed'.taken n ≡ passed.taken n) → ((n : ℕ) → PipesEnd ps Producer n → passed'.sent n ≡ passed.sent n) → PipesStandFor ps passed → PipesStandFor ps passed'
  stands_pipes [] ins outs f = tt
  stands_pipes (p ∷ ps) ins outs f = (stands_pipe p (ins p.input.queue.0 (inl refl)) (outs p.output.queue.0 (inl refl)) f.0, stands_pipes ps (λ n e. ins n (inr e)) (λ n e. outs n (inr e)) f.1)

  -- of a device that waits, by whichever calls
  pub stays_device : (d : EthDevice) → ((n : ℕ) → DeviceEnd d Consumer n → passed'.taken n ≡ passed.taken n) → ((n : ℕ) → DeviceEnd d Producer n → passed'.sent n ≡ passed.sent n) → HoldingDeviceStands d passed → HoldingDeviceStands d passed'
  stays_device d ins outs f = record {
    filled = rw (ins (rx_free d) (inl refl), outs (rx_active d) (inl refl)) f.filled;
    takes = rw (ins (rx_free d) (inl refl)) f.takes;
    next = f.next;
    sends = record {
      moved = stands_pipe d.wire.pipe (ins (tx_active d) (inr refl)) (outs (tx_free d) (inr refl)) f.sends.moved;
      recorded = rw (ins (tx_active d) (inr refl)) f.sends.recorded;
    };
  }

  pub stands_client : (c : NetClient) → ((n : ℕ) → ClientEnd c Consumer n → passed'.taken n ≡ passed.taken n) → ((n : ℕ) → ClientEnd c Producer n → passed'.sent n ≡ passed.sent n) → ClientStandsFor c passed → ClientStandsFor c passed'
  stands_client c ins outs f =
      let ra : passed'.taken (client.rx_active c) ≡ passed.taken (client.rx_active c) = ins (client.rx_active c) (inl refl) in
      let tf : passed'.taken (client.tx_free c) ≡ passed.taken (client.tx_free c) = ins (client.tx_free c) (inr refl) in
      let rf : passed'.sent (client.rx_free c) ≡ passed.sent (client.rx_free c) = outs (client.rx_free c) (inl refl) in
      let ta : passed'.sent (client.tx_active c) ≡ passed.sent (client.tx_active c) = outs (client.tx_active c) (inr refl) in
      held_on c (passed.taken (client.rx_active c)) (passed.sent (client.rx_free c)) (passed.taken (client.tx_free c)) (passed.sent (client.tx_active c)) _ _ _ _ ra rf tf ta f

  -- a receiving virtualiser: what it took in turn is now what was taken, but where its stray came
  module _ (v : NetVirtRx) (from_each : length (from_queues v.ends) ≡ length v.work.macs.items) (to_each : length (to_queues v.ends) ≡ length v.work.macs.items)
      (ins : (n : ℕ) → VirtOwns v.ends Consumer n → passed'.taken n ≡ passed.taken n) (outs : (n : ℕ) → VirtOwns v.ends Producer n → passed'.sent n ≡ passed.sent n) where
    abbrev i : ℕ
    i = v.ends.input.queue.0

    abbrev o : ℕ
    o = v.ends.output.queue.0

    abbrev from : List QueueId
    from = from_queues v.ends

    abbrev to : List QueueId
    to = to_queues v.ends

    from_owned : (k : ℕ) → k < length v.work.macs.items → VirtOwns v.ends Consumer (queue_at from k)
    from_owned k lt = let q = there_is from k (omega (arith, lt, from_each)) in inr (k, q.0, q.1, queue_is from k q.0 q.1)

    to_owned : (k : ℕ) → k < length v.work.macs.items → VirtOwns v.ends Producer (queue_at to k)
    to_owned k lt = let q = there_is to k (omega (arith, lt, to_each)) in inr (k, q.0, q.1, queue_is to k q.0 q.1)

    all_came : (k n : ℕ) → slice_get (virt_came v.ends) k ≡ Some n → VirtOwns v.ends Consumer n
    all_came zero n at = inl (sym (some_is at))
    all_came (suc k) n at = let f = map_from (λ (q : QueueId). q.0) from k n at in inr (k, f.0, f.1, sym f.2)

    all_went : (k n : ℕ) → slice_get (virt_went v.ends) k ≡ Some n → VirtOwns v.ends Producer n
    all_went zero n at = inl (sym (some_is at))
    all_went (suc k) n at = let f = map_from (λ (q : QueueId). q.0) to k n at in inr (k, f.0, f.1, sym f.2)

    -- what came out of turn came at one of its own queues
    stray_place : (f : RxStandsFor v passed) (c : Cargo) → v.work.stray ≡ Some c → VirtOwns v.ends Consumer f.place
    stray_place f c is = by (f.stray c is)
      where
        by : IsOutOfTurn i o from v.work f.turn passed.sent f.place c → VirtOwns v.ends Consumer f.place
        by (inl h) = inl h.0
        by (inr h) = subst (VirtOwns v.ends Consumer) (sym h.3) (from_owned h.0 (there_below v.work.macs.items h.0 h.1 h.2))

    -- with other lists of what was taken in turn, which are the same at its own queues
    module _ (f : RxStandsFor v passed) (turn : Lists) (same : (n : ℕ) → VirtOwns v.ends Consumer n → turn n ≡ f.turn n)
        (taken : (n : ℕ) → passed'.taken n ≡ turn n ++ if_there (f.place == n) (option_to_list v.work.stray)) where
      stray_so : (c : Cargo) → v.work.stray ≡ Some c → IsOutOfTurn i o from v.work turn passed'.sent f.place c
      stray_so c is = by (f.stray c is)
        where
          ti : turn i ≡ f.turn i
          ti = same i (inl refl)

          so : passed'.sent o ≡ passed.sent o
          so = outs o (inl refl)

          tp : turn f.place ≡ f.turn f.place
          tp = same f.place (stray_place f c is)

          by : IsOutOfTurn i o from v.work f.turn passed.sent f.place c → IsOutOfTurn i o from v.work turn passed'.sent f.place c
          by (inl h) = inl (h.0, λ x. h.1 (subst (λ l. IsFrameInTurn v.work.stock (f.turn i) l c) so (subst (λ l. IsFrameInTurn v.work.stock l (passed'.sent o) c) ti x)))
          by (inr h) = inr (h.0, h.1, h.2, h.3, λ x. h.4 (subst (λ l. IsLeaseInTurn v.work.stock h.1 (f.turn i) l c) tp (subst (λ l. IsLeaseInTurn v.work.stock h.1 l (turn f.place) c) ti x)))

      stands_so : SharerStands v.work f.start (turn i) (passed'.sent o) (λ k. passed'.sent (queue_at to k)) (λ k. turn (queue_at from k))
      stands_so =
          let a = as_lists v.work f.start (f.turn i) (passed.sent o) (λ k. passed.sent (queue_at to k)) (λ k. f.turn (queue_at from k)) (λ k. passed'.sent (queue_at to k)) (λ k. turn (queue_at from k)) (λ k lt. sym (outs (queue_at to k) (to_owned k lt))) (λ k lt. sym (same (queue_at from k) (from_owned k lt))) f.stands in
          let b = subst (λ l. SharerStands v.work f.start l (passed.sent o) (λ k. passed'.sent (queue_at to k)) (λ k. turn (queue_at from k))) (sym (same i (inl refl))) a in
          subst (λ l. SharerStands v.work f.start (turn i) l (λ k. passed'.sent (queue_at to k)) (λ k. turn (queue_at from k))) (sym (outs o (inl refl))) b

      balances_so : Balances (Rattle.buffer_kit.specs.Pools.page_bodies f.start) (bodies_at passed'.taken (virt_came v.ends)) (bodies_at passed'.sent (virt_went v.ends)) (Rattle.net_virt_rx.specs.Sharing.sharer_hand v.work) (Rattle.net_virt_rx.specs.Sharing.lent_bodies v.work.lent)
      balances_so pool =
          let was = f.balances pool in
          let came = ap (buffers_of pool) (bodies_same passed.taken passed'.taken (virt_came v.ends) (λ k n at. ins n (all_came k n at))) in
          let went = ap (buffers_of pool) (bodies_same passed.sent passed'.sent (virt_went v.ends) (λ k n at. outs n (all_went k n at))) in
          omega (arith, was, came, went)

      with_turn : RxStandsFor v passed'
      with_turn = record {
        work = f.work;
        start = f.start;
        is_start = f.is_start;
        turn = turn;
        place = f.place;
        taken = taken;
        stands = stands_so;
        stray = stray_so;
        balances = balances_so;
      }

    empty : (b : Bool) → if_there b [] ≡ []
    empty true = refl
    empty false = refl

    pub stands_receiver : RxStandsFor v passed → RxStandsFor v passed'
    stands_receiver f = by v.work.stray refl
      where
        by : (x : Option Cargo) → v.work.stray ≡ x → RxStandsFor v passed'
        by None is =
            let none : (l : List Cargo) (b : Bool) → l ++ if_there b (option_to_list v.work.stray) ≡ l = λ l b. ap (λ y. l ++ if_there b (option_to_list y)) is ∙ (ap (λ y. l ++ y) (empty b) ∙ append-nil l) in
            with_turn f passed'.taken (λ n own. ins n own ∙ (f.taken n ∙ none (f.turn n) (f.place == n))) (λ n. sym (none (passed'.taken n) (f.place == n)))
        by (Some c) is =
            with_turn f (turned f.place f.turn passed'.taken) (λ n own. same n own (eqb_tells f.place n)) (λ n. taken n (eqb_tells f.place n))
          where
            same : (n : ℕ) → VirtOwns v.ends Consumer n → ((eqb f.place n ≡ true) × (f.place ≡ n)) ⊎ ((eqb f.place n ≡ false) × (f.place ≡ n → ⊥)) → turned f.place f.turn passed'.taken n ≡ f.turn n
            same n own (inl h) = ap (λ b. if b then f.turn n else passed'.taken n) h.0
            same n own (inr h) = ap (λ b. if b then f.turn n else passed'.taken n) h.0 ∙ (ins n own ∙ (f.taken n ∙ (ap (λ b. f.turn n ++ if_there b (option_to_list v.work.stray)) h.0 ∙ append-nil (f.turn n))))

            taken : (n : ℕ) → ((eqb f.place n ≡ true) × (f.place ≡ n)) ⊎ ((eqb f.place n ≡ false) × (f.place ≡ n → ⊥)) → passed'.taken n ≡ turned f.place f.turn passed'.taken n ++ if_there (f.place == n) (option_to_list v.work.stray)
            taken n (inl h) = ins n (subst (VirtOwns v.ends Consumer) h.1 (stray_place f c is)) ∙ (f.taken n ∙ ap (λ b. (if b then f.turn n else passed'.taken n) ++ if_there (f.place == n) (option_to_list v.work.stray)) (sym h.0))
            taken n (inr h) = sym (ap (λ b. (if b then f.turn n else passed'.taken n) ++ if_there b (option_to_list v.work.stray)) h.0 ∙ append-nil (passed'.taken n))
