use Rattle.std.proofs.Common.{◌≡◌, ℕ, Bool, true, Option, Some, None, List, [], ◌∷◌, map, slice_get, refl, sym, ap, ◌∙◌, subst, inl, inr}
use Rattle.wire_core.specs.Ends.{Role, Consumer, Producer, End}
use Rattle.wire_core.specs.declared.names.QueueId.{QueueId}
use Rattle.turn_kit.specs.Table.{Agrees}
use Rattle.turn_kit.specs.ManyEnds.{FitsIntakes, FitsOutlets, intake_queues, outlet_queues}
use Rattle.turn_kit.specs.Pipes.{FitsPipe}
use Rattle.turn_kit.specs.declared.end_state.EndState.{EndState}
use Rattle.turn_kit.specs.declared.ends.Intake.{Intake}
use Rattle.turn_kit.specs.declared.ends.Outlet.{Outlet}
use Rattle.turn_kit.specs.declared.intakes.Intakes.{Intakes}
use Rattle.turn_kit.specs.declared.outlets.Outlets.{Outlets}
use Rattle.turn_kit.specs.declared.pipe.Pipe.{Pipe}
use Rattle.play_core.proofs.Lists.{map_get, map_from}
use Rattle.pipe_driver.specs.Drivers.{EachPipe, PipesEnd, FitsPipes, pipe_forgotten}
use Rattle.pipe_driver.specs.Lengths.{two_pipes}
use Rattle.eth_driver.specs.Four.{four_pipes}
use Rattle.device_model.specs.SerialTerminal.Terminals.{FitsTerminal, TerminalEnd, terminal_forgotten}
use Rattle.device_model.specs.declared.serial_terminal.Terminal.{Terminal}
use Rattle.serial_virt.specs.Receiving.{FitsRx, RxEnd, RxForgot}
use Rattle.serial_virt.specs.declared.rx.SerialVirtRx.{SerialVirtRx}
use Rattle.serial_virt.specs.Sending.{FitsTx, TxEnd, TxForgot}
use Rattle.serial_virt.specs.declared.tx.SerialVirtTx.{SerialVirtTx}
use Rattle.serial_virt.specs.Forgetting as plain
use Rattle.device_model.specs.Ethernet.Devices.{FitsDevice, DeviceEnd, device_forgotten, rx_free, rx_active, tx_active, tx_free}
use Rattle.device_model.specs.declared.ethernet.EthDevice.{EthDevice}
use Rattle.buffer_kit.specs.Virtualising.{FitsVirt, VirtOwns, VirtForgot, intake_forgotten, outlet_forgotten}
use Rattle.buffer_kit.specs.declared.virt_ends.VirtEnds.{VirtEnds}
use Rattle.net_copier.specs.Copying.{FitsCopier, CopierEnd, copier_forgotten}
use Rattle.net_copier.specs.declared.NetCopier.{NetCopier}
use Rattle.client_programs.specs.Net.Clients.{FitsClient, ClientEnd, client_forgotten}
use Rattle.client_programs.specs.Net.Clients as client
use Rattle.client_programs.specs.declared.net.NetClient.{NetClient}
use Rattle.device_model.specs.Disk.Disks.{FitsDisk, DiskEnd, disk_forgotten, req, resp}
use Rattle.device_model.specs.declared.disk.DiskDevice.{DiskDevice}
use Rattle.blk_virt.specs.Ends.{FitsEnds}
use Rattle.client_programs.specs.Blk.Clients.{FitsBlkClient, BlkClientEnd, blk_client_forgotten, req_queue, resp_queue}
use Rattle.client_programs.specs.declared.blk.BlkClient.{BlkClient}
use Rattle.actor_set.specs.Actors.{FitsActor, ActorEnd, Forgot}
use Rattle.actor_set.specs.declared.actor.Actor.{Actor}
use Rattle.actor_set.specs.declared.actor.Actor.TheVariants as Kinds
use Rattle.actor_set.specs.Adopting.Looks.{SameButLook}
use Rattle.actor_set.proofs.RogueLemmas.Ends.{rogue_anew}

no_yes : (o : Option Bool) → o ≡ None → o ≡ Some true → ⊥
no_yes None n y = cc
no_yes (Some b) n y = cc

-- where no look is kept, another look at the end makes no difference
agrees_anew : (e e' : End) (k : EndState) → SameButLook e e' → k.look ≡ None → Agrees e k → Agrees e' k
agrees_anew e e' k same none f = record {
  owned = same.owned ∙ f.owned;
  waiter = same.waiter ∙ f.waiter;
  ringer = same.ringer ∙ f.ringer;
  looked = λ yes. absurd (no_yes k.look none yes);
}

-- a forgotten list of ends keeps no look
intakes_forgot : (f : Intake → Intake) → ((i : Intake) → (f i).state.look ≡ None) → (xs ys : List Intake) → ys ≡ map f xs → (k : ℕ) (i : Intake) → slice_get ys k ≡ Some i → i.state.look ≡ None
intakes_forgot f none xs ys is k i at = let m = map_from f xs k i (subst (λ (l : List Intake). slice_get l k ≡ Some i) is at) in subst (λ (j : Intake). j.state.look ≡ None) m.2 (none m.0)

outlets_forgot : (f : Outlet → Outlet) → ((i : Outlet) → (f i).state.look ≡ None) → (xs ys : List Outlet) → ys ≡ map f xs → (k : ℕ) (i : Outlet) → slice_get ys k ≡ Some i → i.state.look ≡ None
outlets_forgot f none xs ys is k i at = let m = map_from f xs k i (subst (λ (l : List Outlet). slice_get l k ≡ Some i) is at) in subst (λ (j : Outlet). j.state.look ≡ None) m.2 (none m.0)

module _ (ends ends' : Role → ℕ → End) where
  abbrev Same : Role → ℕ → Type 0
  Same r n = SameButLook (ends r n) (ends' r n)

  input_anew : (i : Intake) → i.state.look ≡ None → Same Consumer i.queue.0 → Agrees (ends Consumer i.queue.0) i.state → Agrees (ends' Consumer i.queue.0) i.state
  input_anew i none same f = agrees_anew (ends Consumer i.queue.0) (ends' Consumer i.queue.0) i.state same none f

  output_anew : (i : Outlet) → i.state.look ≡ None → Same Producer i.queue.0 → Agrees (ends Producer i.queue.0) i.state → Agrees (ends' Producer i.queue.0) i.state
  output_anew i none same f = agrees_anew (ends Producer i.queue.0) (ends' Producer i.queue.0) i.state same none f

  terminal_anew : (x t : Terminal) → t ≡ terminal_forgotten x → ((r : Role) (n : ℕ) → TerminalEnd t r n → Same r n) → FitsTerminal ends t → FitsTerminal ends' t
  terminal_anew x t is same f = record {
    input = input_anew t.input (ap (λ (t : Terminal). t.input.state.look) is) (same Consumer t.input.queue.0 refl) f.input;
    output = output_anew t.output (ap (λ (t : Terminal). t.output.state.look) is) (same Producer t.output.queue.0 refl) f.output;
    hears = (same Consumer t.input.queue.0 refl).kind ∙ f.hears;
    says = (same Producer t.output.queue.0 refl).kind ∙ f.says;
    next = f.next;
  }

  intakes_anew : (xs : Intakes) → ((k : ℕ) (i : Intake) → slice_get xs.ends.items k ≡ Some i → i.state.look ≡ None) → ((k : ℕ) (q : QueueId) → slice_get (intake_queues xs) k ≡ Some q → Same Consumer q.0) → FitsIntakes ends xs → FitsIntakes ends' xs
  intakes_anew xs none same f = record {
    agrees = λ k i at. input_anew i (none k i at) (same k i.queue (map_get (λ (x : Intake). x.queue) xs.ends.items k i at)) (f.agrees k i at);
    apart = f.apart;
  }

  outlets_anew : (xs : Outlets) → ((k : ℕ) (i : Outlet) → slice_get xs.ends.items k ≡ Some i → i.state.look ≡ None) → ((k : ℕ) (q : QueueId) → slice_get (outlet_queues xs) k ≡ Some q → Same Producer q.0) → FitsOutlets ends xs → FitsOutlets ends' xs
  outlets_anew xs none same f = record {
    agrees = λ k i at. output_anew i (none k i at) (same k i.queue (map_get (λ (x : Outlet). x.queue) xs.ends.items k i at)) (f.agrees k i at);
    apart = f.apart;
  }

  rx_anew : (x v : SerialVirtRx) → RxForgot x v → ((r : Role) (n : ℕ) → RxEnd v r n → Same r n) → FitsRx ends v → FitsRx ends' v
  rx_anew x v is same f = record {
    input = input_anew v.input (ap (λ (i : Intake). i.state.look) is.input) (same Consumer v.input.queue.0 refl) f.input;
    outputs = outlets_anew v.outputs (outlets_forgot plain.outlet_forgotten (λ i. refl) x.outputs.ends.items v.outputs.ends.items is.outputs) (λ k q at. same Producer q.0 (k, q, at, refl)) f.outputs;
    hears = (same Consumer v.input.queue.0 refl).kind ∙ f.hears;
    says = λ k q at. (same Producer q.0 (k, q, at, refl)).kind ∙ f.says k q at;
    load = f.load;
    policies = f.policies;
  }

  tx_anew : (x v : SerialVirtTx) → TxForgot x v → ((r : Role) (n : ℕ) → TxEnd v r n → Same r n) → FitsTx ends v → FitsTx ends' v
  tx_anew x v is same f = record {
    inputs = intakes_anew v.inputs (intakes_forgot plain.intake_forgotten (λ i. refl) x.inputs.ends.items v.inputs.ends.items is.inputs) (λ k q at. same Consumer q.0 (k, q, at, refl)) f.inputs;
    output = output_anew v.output (ap (λ (i : Outlet). i.state.look) is.output) (same Producer v.output.queue.0 refl) f.output;
    hears = λ k q at. (same Consumer q.0 (k, q, at, refl)).kind ∙ f.hears k q at;
    says = (same Producer v.output.queue.0 refl).kind ∙ f.says;
    load = f.load;
  }

  -- of a pipe that forgot
  pipe_anew : (p : Pipe) → p.input.state.look ≡ None → p.output.state.look ≡ None → Same Consumer p.input.queue.0 → Same Producer p.output.queue.0 → FitsPipe ends p → FitsPipe ends' p
  pipe_anew p no_in no_out in_same out_same f = record {
    input = input_anew p.input no_in in_same f.input;
    output = output_anew p.output no_out out_same f.output;
    kinds = in_same.kind ∙ (f.kinds ∙ sym out_same.kind);
    load = rw out_same.kind f.load;
  }

  each_anew : (xs ps : List Pipe) → ps ≡ map pipe_forgotten xs → ((n : ℕ) → PipesEnd ps Consumer n → Same Consumer n) → ((n : ℕ) → PipesEnd ps Producer n → Same Producer n) → EachPipe (FitsPipe ends) ps → EachPipe (FitsPipe ends') ps
  each_anew [] [] is ins outs f = tt
  each_anew [] (p ∷ ps) is ins outs f = cc
  each_anew (x ∷ xs) [] is ins outs f = cc
  each_anew (x ∷ xs) (p ∷ ps) is ins outs f =
      let head : p ≡ pipe_forgotten x = cc in
      let rest : ps ≡ map pipe_forgotten xs = cc in
      (pipe_anew p (ap (λ (q : Pipe). q.input.state.look) head) (ap (λ (q : Pipe). q.output.state.look) head) (ins p.input.queue.0 (inl refl)) (outs p.output.queue.0 (inl refl)) f.0, each_anew xs ps rest (λ n e. ins n (inr e)) (λ n e. outs n (inr e)) f.1)

  pipes_anew : (xs ps : List Pipe) → ps ≡ map pipe_forgotten xs → ((r : Role) (n : ℕ) → PipesEnd ps r n → Same r n) → FitsPipes ends ps → FitsPipes ends' ps
  pipes_anew xs ps is same f = record { each = each_anew xs ps is (same Consumer) (same Producer) f.each; inputs = f.inputs; outputs = f.outputs }

  device_anew : (x d : EthDevice) → d ≡ device_forgotten x → ((r : Role) (n : ℕ) → DeviceEnd d r n → Same r n) → FitsDevice ends d → FitsDevice ends' d
  device_anew x d is same f = record {
    free = input_anew d.free (ap (λ (d : EthDevice). d.free.state.look) is) (same Consumer (rx_free d) (inl refl)) f.free;
    active = output_anew d.active (ap (λ (d : EthDevice). d.active.state.look) is) (same Producer (rx_active d) (inl refl)) f.active;
    wire = pipe_anew d.wire.pipe (ap (λ (d : EthDevice). d.wire.pipe.input.state.look) is) (ap (λ (d : EthDevice). d.wire.pipe.output.state.look) is) (same Consumer (tx_active d) (inr refl)) (same Producer (tx_free d) (inr refl)) f.wire;
    comes = (same Consumer (rx_free d) (inl refl)).kind ∙ f.comes;
    goes = (same Producer (rx_active d) (inl refl)).kind ∙ f.goes;
    load = f.load;
    inputs_apart = f.inputs_apart;
    outputs_apart = f.outputs_apart;
    next = f.next;
    frames = f.frames;
  }

  copier_anew : (x c : NetCopier) → c ≡ copier_forgotten x → ((r : Role) (n : ℕ) → CopierEnd c r n → Same r n) → FitsCopier ends c → FitsCopier ends' c
  copier_anew x c is same f = record {
    lease_input = input_anew c.lease_input (ap (λ (c : NetCopier). c.lease_input.state.look) is) (same Consumer c.lease_input.queue.0 (inl refl)) f.lease_input;
    buffer_input = input_anew c.buffer_input (ap (λ (c : NetCopier). c.buffer_input.state.look) is) (same Consumer c.buffer_input.queue.0 (inr refl)) f.buffer_input;
    buffer_output = output_anew c.buffer_output (ap (λ (c : NetCopier). c.buffer_output.state.look) is) (same Producer c.buffer_output.queue.0 (inl refl)) f.buffer_output;
    lease_output = output_anew c.lease_output (ap (λ (c : NetCopier). c.lease_output.state.look) is) (same Producer c.lease_output.queue.0 (inr refl)) f.lease_output;
    leases_come = (same Consumer c.lease_input.queue.0 (inl refl)).kind ∙ f.leases_come;
    buffers_come = (same Consumer c.buffer_input.queue.0 (inr refl)).kind ∙ f.buffers_come;
    buffers_go = (same Producer c.buffer_output.queue.0 (inl refl)).kind ∙ f.buffers_go;
    leases_go = (same Producer c.lease_output.queue.0 (inr refl)).kind ∙ f.leases_go;
    inputs_apart = f.inputs_apart;
    outputs_apart = f.outputs_apart;
    lease = f.lease;
    buffer = f.buffer;
    work = f.work;
  }

  client_anew : (x c : NetClient) → c ≡ client_forgotten x → ((r : Role) (n : ℕ) → ClientEnd c r n → Same r n) → FitsClient ends c → FitsClient ends' c
  client_anew x c is same f = record {
    frames = pipe_anew c.frames.pipe (ap (λ (c : NetClient). c.frames.pipe.input.state.look) is) (ap (λ (c : NetClient). c.frames.pipe.output.state.look) is) (same Consumer (client.rx_active c) (inl refl)) (same Producer (client.rx_free c) (inl refl)) f.frames;
    sent = input_anew c.sent (ap (λ (c : NetClient). c.sent.state.look) is) (same Consumer (client.tx_free c) (inr refl)) f.sent;
    send = output_anew c.send (ap (λ (c : NetClient). c.send.state.look) is) (same Producer (client.tx_active c) (inr refl)) f.send;
    gives = (same Producer (client.rx_free c) (inl refl)).kind ∙ f.gives;
    comes_back = (same Consumer (client.tx_free c) (inr refl)).kind ∙ f.comes_back;
    sends = (same Producer (client.tx_active c) (inr refl)).kind ∙ f.sends;
    inputs_apart = f.inputs_apart;
    outputs_apart = f.outputs_apart;
    stock = f.stock;
    outbox = f.outbox;
    script = f.script;
    record_ = f.record_;
    few = f.few;
  }

  virt_anew : (x v : VirtEnds) → VirtForgot x v → ((r : Role) (n : ℕ) → VirtOwns v r n → Same r n) → FitsVirt ends v → FitsVirt ends' v
  virt_anew x v is same f = record {
    input = input_anew v.input (ap (λ (i : Intake). i.state.look) is.input) (same Consumer v.input.queue.0 (inl refl)) f.input;
    output = output_anew v.output (ap (λ (i : Outlet). i.state.look) is.output) (same Producer v.output.queue.0 (inl refl)) f.output;
    from_clients = intakes_anew v.from_clients (intakes_forgot intake_forgotten (λ i. refl) x.from_clients.ends.items v.from_clients.ends.items is.from_clients) (λ k q at. same Consumer q.0 (inr (k, q, at, refl))) f.from_clients;
    to_clients = outlets_anew v.to_clients (outlets_forgot outlet_forgotten (λ i. refl) x.to_clients.ends.items v.to_clients.ends.items is.to_clients) (λ k q at. same Producer q.0 (inr (k, q, at, refl))) f.to_clients;
    comes = (same Consumer v.input.queue.0 (inl refl)).kind ∙ f.comes;
    goes = (same Producer v.output.queue.0 (inl refl)).kind ∙ f.goes;
    come_from = λ k q at. (same Consumer q.0 (inr (k, q, at, refl))).kind ∙ f.come_from k q at;
    go_to = λ k q at. (same Producer q.0 (inr (k, q, at, refl))).kind ∙ f.go_to k q at;
    inputs_apart = f.inputs_apart;
    outputs_apart = f.outputs_apart;
    few_from = f.few_from;
    few_to = f.few_to;
  }

  -- the block virtualiser's ends carry requests and responses
  served_anew : (x v : VirtEnds) → VirtForgot x v → ((r : Role) (n : ℕ) → VirtOwns v r n → Same r n) → FitsEnds ends v → FitsEnds ends' v
  served_anew x v is same f = record {
    input = input_anew v.input (ap (λ (i : Intake). i.state.look) is.input) (same Consumer v.input.queue.0 (inl refl)) f.input;
    output = output_anew v.output (ap (λ (i : Outlet). i.state.look) is.output) (same Producer v.output.queue.0 (inl refl)) f.output;
    from_clients = intakes_anew v.from_clients (intakes_forgot intake_forgotten (λ i. refl) x.from_clients.ends.items v.from_clients.ends.items is.from_clients) (λ k q at. same Consumer q.0 (inr (k, q, at, refl))) f.from_clients;
    to_clients = outlets_anew v.to_clients (outlets_forgot outlet_forgotten (λ i. refl) x.to_clients.ends.items v.to_clients.ends.items is.to_clients) (λ k q at. same Producer q.0 (inr (k, q, at, refl))) f.to_clients;
    comes = (same Consumer v.input.queue.0 (inl refl)).kind ∙ f.comes;
    goes = (same Producer v.output.queue.0 (inl refl)).kind ∙ f.goes;
    come_from = λ k q at. (same Consumer q.0 (inr (k, q, at, refl))).kind ∙ f.come_from k q at;
    go_to = λ k q at. (same Producer q.0 (inr (k, q, at, refl))).kind ∙ f.go_to k q at;
    inputs_apart = f.inputs_apart;
    outputs_apart = f.outputs_apart;
    few_from = f.few_from;
    few_to = f.few_to;
  }

  disk_anew : (x d : DiskDevice) → d ≡ disk_forgotten x → ((r : Role) (n : ℕ) → DiskEnd d r n → Same r n) → FitsDisk ends d → FitsDisk ends' d
  disk_anew x d is same f = record {
    input = input_anew d.input (ap (λ (d : DiskDevice). d.input.state.look) is) (same Consumer (req d) refl) f.input;
    output = output_anew d.output (ap (λ (d : DiskDevice). d.output.state.look) is) (same Producer (resp d) refl) f.output;
    comes = (same Consumer (req d) refl).kind ∙ f.comes;
    goes = (same Producer (resp d) refl).kind ∙ f.goes;
    load = f.load;
  }

  asker_anew : (x c : BlkClient) → c ≡ blk_client_forgotten x → ((r : Role) (n : ℕ) → BlkClientEnd c r n → Same r n) → FitsBlkClient ends c → FitsBlkClient ends' c
  asker_anew x c is same f = record {
    responses = input_anew c.responses (ap (λ (c : BlkClient). c.responses.state.look) is) (same Consumer (resp_queue c) refl) f.responses;
    requests = output_anew c.requests (ap (λ (c : BlkClient). c.requests.state.look) is) (same Producer (req_queue c) refl) f.requests;
    comes = (same Consumer (resp_queue c) refl).kind ∙ f.comes;
    goes = (same Producer (req_queue c) refl).kind ∙ f.goes;
    asking = f.asking;
  }

  pub fits_anew : (x y : Actor) → Forgot x y → ((r : Role) (n : ℕ) → ActorEnd y r n → Same r n) → FitsActor ends y → FitsActor ends' y
  fits_anew (Kinds.UartDevice x) (Kinds.UartDevice y) is same f = terminal_anew x.terminal y.terminal is same f
  fits_anew (Kinds.UartDriver x) (Kinds.UartDriver y) is same f = pipes_anew (two_pipes x.driver.pipes) (two_pipes y.driver.pipes) is.0 same f
  fits_anew (Kinds.SerialVirtRx x) (Kinds.SerialVirtRx y) is same f = rx_anew x y is same f
  fits_anew (Kinds.SerialVirtTx x) (Kinds.SerialVirtTx y) is same f = tx_anew x y is same f
  fits_anew (Kinds.SerialClient x) (Kinds.SerialClient y) is same f = terminal_anew x.terminal y.terminal is same f
  fits_anew (Kinds.EthDevice x) (Kinds.EthDevice y) is same f = (device_anew x y is same f.0, f.1)
  fits_anew (Kinds.EthDriver x) (Kinds.EthDriver y) is same f = pipes_anew (four_pipes x.driver.pipes) (four_pipes y.driver.pipes) is.0 same f
  fits_anew (Kinds.NetVirtRx x) (Kinds.NetVirtRx y) is same f = record { ends_fit = virt_anew x.ends y.ends is.ends same f.ends_fit; work = f.work; from_each = f.from_each; to_each = f.to_each }
  fits_anew (Kinds.NetCopier x) (Kinds.NetCopier y) is same f = copier_anew x y is same f
  fits_anew (Kinds.NetClient x) (Kinds.NetClient y) is same f = (client_anew x y is same f.0, f.1)
  fits_anew (Kinds.NetVirtTx x) (Kinds.NetVirtTx y) is same f = record { ends_fit = virt_anew x.ends y.ends is.ends same f.ends_fit; work = f.work; from_each = f.from_each; to_each = f.to_each }
  fits_anew (Kinds.DiskDevice x) (Kinds.DiskDevice y) is same f = disk_anew x.device y.device is.0 same f
  fits_anew (Kinds.BlkDriver x) (Kinds.BlkDriver y) is same f = pipes_anew (two_pipes x.driver.pipes) (two_pipes y.driver.pipes) is.0 same f
  fits_anew (Kinds.BlkVirt x) (Kinds.BlkVirt y) is same f = (record { ends_fit = served_anew x.ends y.ends is.ends same f.0.ends_fit; work = f.0.work; from_each = f.0.from_each; to_each = f.0.to_each }, f.1, f.2)
  fits_anew (Kinds.BlkClient x) (Kinds.BlkClient y) is same f = asker_anew x y is same f
  fits_anew (Kinds.Rogue x) (Kinds.Rogue y) is same f = rogue_anew ends ends' x y is same f
  fits_anew x y is same f = absurd is
