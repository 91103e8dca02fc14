-- The ends of a virtualiser go on to agree where one of them moved.
use Rattle.std.proofs.Common.{◌≡◌, ℕ, Some, slice_get, sym, ap, ◌∙◌, subst}
use Rattle.wire_core.specs.declared.names.QueueId.{QueueId}
use Rattle.wire_core.specs.declared.names.Event.{Event}
use Rattle.wire_core.specs.Ends.{Role, Consumer, Producer, End, Moves, role_of}
use Rattle.turn_kit.specs.Table.{Agrees}
use Rattle.turn_kit.specs.ManyEnds.{FitsIntakes, FitsOutlets, intake_queues, outlet_queues}
use Rattle.turn_kit.specs.declared.ends.Intake.{Intake}
use Rattle.turn_kit.specs.declared.ends.Outlet.{Outlet}
use Rattle.turn_kit.specs.declared.intakes.Intakes.{Intakes}
use Rattle.turn_kit.specs.declared.outlets.Outlets.{Outlets}
use Rattle.turn_kit.specs.declared.end_state.EndState.{EndState}
use Rattle.turn_kit.proofs.Offers.{get_map}
use Rattle.buffer_kit.specs.declared.virt_ends.VirtEnds.{VirtEnds}
use Rattle.buffer_kit.specs.Virtualising.{EndKinds, FitsKinds, from_queues, to_queues}

module _ (ends ends' : Role → ℕ → End) (e : Event) (moves : Moves ends e ends') where
  still : (r : Role) (n : ℕ) (s : EndState) → (r ≡ role_of e.op → n ≡ e.queue.0 → ⊥) → Agrees (ends r n) s → Agrees (ends' r n) s
  still r n s away h = subst (λ x. Agrees x s) (sym (moves.others r n away)) h

  intakes_still : (xs : Intakes) → ((k : ℕ) (q : QueueId) → slice_get (intake_queues xs) k ≡ Some q → Consumer ≡ role_of e.op → q.0 ≡ e.queue.0 → ⊥) → FitsIntakes ends xs → FitsIntakes ends' xs
  intakes_still xs away h = record {
    agrees = λ k i at. still Consumer i.queue.0 i.state (away k i.queue (get_map (λ (x : Intake). x.queue) xs.ends.items k i at)) (h.agrees k i at);
    apart = h.apart;
  }

  outlets_still : (xs : Outlets) → ((k : ℕ) (q : QueueId) → slice_get (outlet_queues xs) k ≡ Some q → Producer ≡ role_of e.op → q.0 ≡ e.queue.0 → ⊥) → FitsOutlets ends xs → FitsOutlets ends' xs
  outlets_still xs away h = record {
    agrees = λ k i at. still Producer i.queue.0 i.state (away k i.queue (get_map (λ (x : Outlet). x.queue) xs.ends.items k i at)) (h.agrees k i at);
    apart = h.apart;
  }

  not_producer : role_of e.op ≡ Consumer → Producer ≡ role_of e.op → ⊥
  not_producer c p = let no : Producer ≡ Consumer = p ∙ c in cc

  not_consumer : role_of e.op ≡ Producer → Consumer ≡ role_of e.op → ⊥
  not_consumer p c = let no : Consumer ≡ Producer = c ∙ p in cc

  module _ (kinds : EndKinds) (v : VirtEnds) (h : FitsKinds kinds ends v) where
    -- the end from the driver moved
    pub input_moved : (i : Intake) → i.queue ≡ v.input.queue → role_of e.op ≡ Consumer → e.queue ≡ v.input.queue → Agrees (ends' Consumer v.input.queue.0) i.state → FitsKinds kinds ends' (record v { input = i })
    input_moved i same role on agrees = record {
      input = rw same agrees;
      output = still Producer v.output.queue.0 v.output.state (λ r n. not_producer role r) h.output;
      from_clients = intakes_still v.from_clients (λ k q at r n. h.inputs_apart k q at (ap (λ (x : QueueId). x.0) (sym on) ∙ sym n)) h.from_clients;
      to_clients = outlets_still v.to_clients (λ k q at r n. not_producer role r) h.to_clients;
      comes = rw same (moves.kinds Consumer v.input.queue.0 ∙ h.comes);
      goes = moves.kinds Producer v.output.queue.0 ∙ h.goes;
      come_from = λ k q at. moves.kinds Consumer q.0 ∙ h.come_from k q at;
      go_to = λ k q at. moves.kinds Producer q.0 ∙ h.go_to k q at;
      inputs_apart = rw same h.inputs_apart;
      outputs_apart = h.outputs_apart;
      few_from = h.few_from;
      few_to = h.few_to;
    }

    -- the end to the driver moved
    pub output_moved : (o : Outlet) → o.queue ≡ v.output.queue → role_of e.op ≡ Producer → e.queue ≡ v.output.queue → Agrees (ends' Producer v.output.queue.0) o.state → FitsKinds kinds ends' (record v { output = o })
    output_moved o same role on agrees = record {
      input = still Consumer v.input.queue.0 v.input.state (λ r n. not_consumer role r) h.input;
      output = rw same agrees;
      from_clients = intakes_still v.from_clients (λ k q at r n. not_consumer role r) h.from_clients;
      to_clients = outlets_still v.to_clients (λ k q at r n. h.outputs_apart k q at (ap (λ (x : QueueId). x.0) (sym on) ∙ sym n)) h.to_clients;
      comes = moves.kinds Consumer v.input.queue.0 ∙ h.comes;
      goes = rw same (moves.kinds Producer v.output.queue.0 ∙ h.goes);
      come_from = λ k q at. moves.kinds Consumer q.0 ∙ h.come_from k q at;
      go_to = λ k q at. moves.kinds Producer q.0 ∙ h.go_to k q at;
      inputs_apart = h.inputs_apart;
      outputs_apart = rw same h.outputs_apart;
      few_from = h.few_from;
      few_to = h.few_to;
    }

    -- an end from a client moved
    pub from_moved : (xs : Intakes) (k : ℕ) → intake_queues xs ≡ from_queues v → role_of e.op ≡ Consumer → slice_get (from_queues v) k ≡ Some e.queue → FitsIntakes ends' xs → FitsKinds kinds ends' (record v { from_clients = xs })
    from_moved xs k same role on fits = record {
      input = still Consumer v.input.queue.0 v.input.state (λ r n. h.inputs_apart k e.queue on n) h.input;
      output = still Producer v.output.queue.0 v.output.state (λ r n. not_producer role r) h.output;
      from_clients = fits;
      to_clients = outlets_still v.to_clients (λ j q at r n. not_producer role r) h.to_clients;
      comes = moves.kinds Consumer v.input.queue.0 ∙ h.comes;
      goes = moves.kinds Producer v.output.queue.0 ∙ h.goes;
      come_from = λ j q at. moves.kinds Consumer q.0 ∙ h.come_from j q (ap (λ qs. slice_get qs j) (sym same) ∙ at);
      go_to = λ j q at. moves.kinds Producer q.0 ∙ h.go_to j q at;
      inputs_apart = λ j q at. h.inputs_apart j q (ap (λ qs. slice_get qs j) (sym same) ∙ at);
      outputs_apart = h.outputs_apart;
      few_from = rw same h.few_from;
      few_to = h.few_to;
    }

    -- an end to a client moved
    pub to_moved : (xs : Outlets) (k : ℕ) → outlet_queues xs ≡ to_queues v → role_of e.op ≡ Producer → slice_get (to_queues v) k ≡ Some e.queue → FitsOutlets ends' xs → FitsKinds kinds ends' (record v { to_clients = xs })
    to_moved xs k same role on fits = record {
      input = still Consumer v.input.queue.0 v.input.state (λ r n. not_consumer role r) h.input;
      output = still Producer v.output.queue.0 v.output.state (λ r n. h.outputs_apart k e.queue on n) h.output;
      from_clients = intakes_still v.from_clients (λ j q at r n. not_consumer role r) h.from_clients;
      to_clients = fits;
      comes = moves.kinds Consumer v.input.queue.0 ∙ h.comes;
      goes = moves.kinds Producer v.output.queue.0 ∙ h.goes;
      come_from = λ j q at. moves.kinds Consumer q.0 ∙ h.come_from j q at;
      go_to = λ j q at. moves.kinds Producer q.0 ∙ h.go_to j q (ap (λ qs. slice_get qs j) (sym same) ∙ at);
      inputs_apart = h.inputs_apart;
      outputs_apart = λ j q at. h.outputs_apart j q (ap (λ qs. slice_get qs j) (sym same) ∙ at);
      few_from = h.few_from;
      few_to = rw same h.few_to;
    }
