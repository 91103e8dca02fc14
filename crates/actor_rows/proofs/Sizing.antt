-- Actors of the network in their start state fit four queues of which two were filled by hand.
use Rattle.std.proofs.Common.{◌≡◌, ◌⊎◌, ◌<◌, ◌≤◌, ◌+◌, ◌*◌, ◌^◌, ℕ, Option, Some, None, Result, Ok, Err, IfOk, OnErr, List, [], ◌∷◌, All, length, length-set, length-append, map, reverse, slice_get, refl, sym, ap, ◌∙◌, subst, inl, inr, arith}
use Rattle.std.specs.Option.{ForSome, option_to_list}
use Rattle.std.proofs.lemmas.List.{length-map, length-reverse}
use Rattle.cargo_core.specs.declared.item.QueueKind.TheVariants as Kind
use Rattle.cargo_core.specs.declared.memory.Memory.{Memory}
use Rattle.cargo_core.specs.Items.{kind_of}
use Rattle.cargo_core.specs.Pages.{Paged}
use Rattle.wire_core.specs.declared.names.Event.{Event}
use Rattle.wire_core.specs.declared.names.QueueId.{QueueId}
use Rattle.wire_core.specs.declared.names.Side.TheVariants.{Forward, Backward}
use Rattle.wire_core.specs.Deeds.{Cargo}
use Rattle.wire_core.specs.Ends.{Role, Consumer, Producer}
use Rattle.wire_core.specs.Lists.{Passed, Stepped, nothing_passed}
use Rattle.wire_core.specs.Queues.{Queue, Happens, end_at}
use Rattle.wire_core.proofs.Moving.{moves}
use Rattle.turn_kit.specs.Table.{Agrees, start_state}
use Rattle.turn_kit.specs.ManyEnds.{AreApart}
use Rattle.turn_kit.specs.Pipes.{FitsPipe, IsNewPipe}
use Rattle.turn_kit.specs.declared.ends.Intake.{Intake}
use Rattle.turn_kit.specs.declared.ends.Outlet.{Outlet}
use Rattle.turn_kit.specs.declared.pipe.Pipe.{Pipe}
use Rattle.buffer_kit.specs.Pools.{ArePool, given_entry}
use Rattle.buffer_kit.specs.Stocks.{stock_list}
use Rattle.buffer_kit.specs.Virtualising.{from_queues, to_queues, new_intake, new_outlet}
use Rattle.buffer_kit.specs.declared.stock.Stock.{Stock}
use Rattle.device_model.specs.Ethernet.Devices.{IsNewDevice}
use Rattle.device_model.specs.declared.ethernet.EthDevice.{EthDevice}
use Rattle.net_copier.specs.Copying.{CopierStandsFor, IsNewCopier}
use Rattle.net_copier.specs.declared.NetCopier.{NetCopier}
use Rattle.net_virt_rx.specs.Receiving.{IsNewRx, RxStandsFor}
use Rattle.net_virt_rx.specs.declared.NetVirtRx.{NetVirtRx}
use Rattle.client_programs.specs.Net.Clients.{IsNewClient}
use Rattle.client_programs.specs.declared.net.NetClient.{NetClient}
use Rattle.client_programs.specs.declared.net.program.NetProgram.{NetProgram}
use Rattle.frame_core.specs.declared.mac.Mac.{Mac}
use Rattle.base_rows.specs.Hands.{OnlyAt, AreQueues}
use Rattle.actor_rows.specs.Standings.{queue}
use Rattle.actor_rows.specs.Sizes.{IsInput, IsOutput, AreFed, DeviceStands, LenderStands, CopierStands, ClientStands, pool, AreFedEight, FourStand, IsNewFour}
use Rattle.eth_driver.specs.declared.EthDriver.{EthDriver}
use Rattle.actor_rows.proofs.NetTx.Fitting.{one_at, one_apart, intake_one, outlet_one}

below : (n : ℕ) → (n ≡ 0) ⊎ (n ≡ 2) → n < 4
below n (inl e) = omega (arith, e)
below n (inr e) = omega (arith, e)

below_too : (n : ℕ) → (n ≡ 1) ⊎ (n ≡ 3) → n < 4
below_too n (inl e) = omega (arith, e)
below_too n (inr e) = omega (arith, e)

-- queues in their start state
pub new_fed : (w : List Queue) → AreQueues Kind.Net 4 w → AreFed w
new_fed w b = record {
  long = b.long;
  inputs = λ n at. b.start Consumer n (below n at);
  outputs = λ n at. b.start Producer n (below_too n at);
  hands = λ n at. ap (λ e. e.kind) (b.start Producer n (below n at));
}

pub others : (q n : ℕ) → IsInput q → IsOutput n → n ≡ q → ⊥
others q n (inl a) (inl b) e = omega (arith, a, b, e)
others q n (inl a) (inr b) e = omega (arith, a, b, e)
others q n (inr a) (inl b) e = omega (arith, a, b, e)
others q n (inr a) (inr b) e = omega (arith, a, b, e)

-- what the hand puts leaves the actor's ends
pub after_feed : (w u : List Queue) (q : ℕ) → IsInput q → AreFed w → OnlyAt Producer q w u → AreFed u
after_feed w u q at fed only = record {
  long = only.long ∙ fed.long;
  inputs = λ n input. only.rest Consumer n (λ r same. absurd cc) ∙ fed.inputs n input;
  outputs = λ n output. only.rest Producer n (λ r same. others q n at output same) ∙ fed.outputs n output;
  hands = λ n input. only.kinds Producer n ∙ fed.hands n input;
}

pub in_there : (w : List Queue) (q : ℕ) → IsInput q → length w ≡ 4 → q < length w
in_there w q at long = let few = below q at in omega (arith, few, long)

pub feed_there : (w : List Queue) (q : ℕ) → IsInput q → AreFed w → q < length w
feed_there w q at fed = in_there w q at fed.long

-- a call leaves as many queues
pub after_call : {A : Type 0} {n : ℕ} (S : A → Passed → Type 0) (w u : List Queue) (a b : A) (e : Event) → Stepped S (λ old d new. Happens old d new) w u a b e → length w ≡ n → length u ≡ n
after_call S w u a b e st long = ap length st.happened.after_is ∙ (length-set w e.queue.0 _ ∙ long)

-- and so does one for which memory was wanting
pub after_try : {A : Type 0} (S : A → Passed → Type 0) (w u : List Queue) (a b : A) (r : Result Event Memory) → IfOk r (λ e. Stepped S (λ old d new. Happens old d new) w u a b e) → OnErr r (u ≡ w) → length w ≡ 4 → length u ≡ 4
after_try S w u a b (Ok e) st same long = after_call S w u a b e st long
after_try S w u a b (Err m) st same long = ap length same ∙ long

-- a call leaves the kinds of the queues
pub kinds_call : {A : Type 0} (S : A → Passed → Type 0) (w u : List Queue) (a b : A) (e : Event) → Stepped S (λ old d new. Happens old d new) w u a b e → (r : Role) (n : ℕ) → (end_at u r n).kind ≡ (end_at w r n).kind
kinds_call S w u a b e st = (moves w _ u st.happened).kinds

pub kinds_try : {A : Type 0} (S : A → Passed → Type 0) (w u : List Queue) (a b : A) (r : Result Event Memory) → IfOk r (λ e. Stepped S (λ old d new. Happens old d new) w u a b e) → OnErr r (u ≡ w) → (s : Role) (n : ℕ) → (end_at u s n).kind ≡ (end_at w s n).kind
kinds_try S w u a b (Ok e) st same = kinds_call S w u a b e st
kinds_try S w u a b (Err m) st same = λ s n. ap (λ x. (end_at x s n).kind) same

no_load : (o : Option Cargo) → o ≡ None → (c : Cargo) → o ≡ Some c → ⊥
no_load o none c some = let e : None ≡ Some c = sym none ∙ some in cc

for_none : (o : Option Cargo) (P : Cargo → Type 0) → o ≡ None → ForSome o P
for_none o P none c some = absurd (no_load o none c some)

module _ (w : List Queue) (fed : AreFed w) where
  in_state : (n : ℕ) → IsInput n → Agrees (end_at w Consumer n) (start_state Forward)
  in_state n at = rw (fed.inputs n at) (record { owned = refl; waiter = refl; ringer = refl; looked = λ h. absurd cc })

  out_state : (n : ℕ) → IsOutput n → Agrees (end_at w Producer n) (start_state Backward)
  out_state n at = rw (fed.outputs n at) (record { owned = refl; waiter = refl; ringer = refl; looked = λ h. absurd cc })

  in_kind : (n : ℕ) → IsInput n → (end_at w Consumer n).kind ≡ Kind.Net
  in_kind n at = ap (λ e. e.kind) (fed.inputs n at)

  out_kind : (n : ℕ) → IsOutput n → (end_at w Producer n).kind ≡ Kind.Net
  out_kind n at = ap (λ e. e.kind) (fed.outputs n at)

  -- an end in its start state at one of the queues
  intake_fits : (i : Intake) (n : ℕ) → IsInput n → i ≡ new_intake (queue n) → Agrees (end_at w Consumer i.queue.0) i.state
  intake_fits i n at new = subst (λ (x : Intake). Agrees (end_at w Consumer x.queue.0) x.state) (sym new) (in_state n at)

  outlet_fits : (o : Outlet) (n : ℕ) → IsOutput n → o ≡ new_outlet (queue n) → Agrees (end_at w Producer o.queue.0) o.state
  outlet_fits o n at new = subst (λ (x : Outlet). Agrees (end_at w Producer x.queue.0) x.state) (sym new) (out_state n at)

  intake_kind : (i : Intake) (n : ℕ) → IsInput n → i ≡ new_intake (queue n) → (end_at w Consumer i.queue.0).kind ≡ Kind.Net
  intake_kind i n at new = subst (λ (x : Intake). (end_at w Consumer x.queue.0).kind ≡ Kind.Net) (sym new) (in_kind n at)

  outlet_kind : (o : Outlet) (n : ℕ) → IsOutput n → o ≡ new_outlet (queue n) → (end_at w Producer o.queue.0).kind ≡ Kind.Net
  outlet_kind o n at new = subst (λ (x : Outlet). (end_at w Producer x.queue.0).kind ≡ Kind.Net) (sym new) (out_kind n at)

  pipe_fits : (p : Pipe) (n m : ℕ) → IsInput n → IsOutput m → IsNewPipe (queue n) (queue m) p → FitsPipe (end_at w) p
  pipe_fits p n m input output new = record {
    input = rw (new.input, new.input_state) (in_state n input);
    output = rw (new.output, new.output_state) (out_state m output);
    kinds = rw (new.input, new.output) (in_kind n input ∙ sym (out_kind m output));
    load = for_none p.load (λ c. kind_of c.0 ≡ (end_at w Producer p.output.queue.0).kind) new.load;
  }

  pub new_device : (frames : List (List ℕ)) (d : EthDevice) → All (λ frame. length frame < 2 ^ 16) frames → IsNewDevice (queue 0) (queue 1) (queue 2) (queue 3) frames d.drops d → DeviceStands w d
  new_device frames d short new = record {
    fits = record {
      free = intake_fits d.free 0 (inl refl) new.free;
      active = outlet_fits d.active 1 (inl refl) new.active;
      wire = pipe_fits d.wire.pipe 2 3 (inr refl) (inr refl) new.wire;
      comes = intake_kind d.free 0 (inl refl) new.free;
      goes = outlet_kind d.active 1 (inl refl) new.active;
      load = for_none d.load (λ c. kind_of c.0 ≡ Kind.Net) new.load;
      inputs_apart = λ same.
          let a = ap (λ (x : Intake). x.queue.0) new.free in
          let b = ap (λ (x : QueueId). x.0) new.wire.input in
          omega (arith, a, b, same);
      outputs_apart = λ same.
          let a = ap (λ (x : Outlet). x.queue.0) new.active in
          let b = ap (λ (x : QueueId). x.0) new.wire.output in
          omega (arith, a, b, same);
      next = rw new.next (omega arith);
      frames = subst (λ fs. All (λ frame. length frame < 2 ^ 16) fs) (sym new.frames_are) short;
    };
    long = fed.long;
    hands = fed.hands;
    free = ap (λ (x : Intake). x.queue.0) new.free;
    active = ap (λ (x : Outlet). x.queue.0) new.active;
    input = ap (λ (x : QueueId). x.0) new.wire.input;
    output = ap (λ (x : QueueId). x.0) new.wire.output;
  }

  pub new_copier : (c : NetCopier) → IsNewCopier (queue 0) (queue 1) (queue 3) (queue 2) c.drops c → CopierStandsFor c nothing_passed → CopierStands w c
  new_copier c new stands = record {
    fits = record {
      lease_input = intake_fits c.lease_input 0 (inl refl) new.lease_input;
      buffer_input = intake_fits c.buffer_input 2 (inr refl) new.buffer_input;
      buffer_output = outlet_fits c.buffer_output 3 (inr refl) new.buffer_output;
      lease_output = outlet_fits c.lease_output 1 (inl refl) new.lease_output;
      leases_come = intake_kind c.lease_input 0 (inl refl) new.lease_input;
      buffers_come = intake_kind c.buffer_input 2 (inr refl) new.buffer_input;
      buffers_go = outlet_kind c.buffer_output 3 (inr refl) new.buffer_output;
      leases_go = outlet_kind c.lease_output 1 (inl refl) new.lease_output;
      inputs_apart = λ same.
          let a = ap (λ (x : Intake). x.queue.0) new.lease_input in
          let b = ap (λ (x : Intake). x.queue.0) new.buffer_input in
          omega (arith, a, b, same);
      outputs_apart = λ same.
          let a = ap (λ (x : Outlet). x.queue.0) new.buffer_output in
          let b = ap (λ (x : Outlet). x.queue.0) new.lease_output in
          omega (arith, a, b, same);
      lease = for_none c.lease (λ x. kind_of x.0 ≡ Kind.Net) new.lease;
      buffer = for_none c.buffer (λ x. kind_of x.0 ≡ Kind.Net) new.buffer;
      work = stands.work;
    };
    long = fed.long;
    hands = fed.hands;
    leases = ap (λ (x : Intake). x.queue.0) new.lease_input;
    leases_back = ap (λ (x : Outlet). x.queue.0) new.lease_output;
    buffers = ap (λ (x : Intake). x.queue.0) new.buffer_input;
    filled = ap (λ (x : Outlet). x.queue.0) new.buffer_output;
  }

  -- no more of a stock is left than there were pages
  rest_few : (s : Stock) (pages : List Paged) → stock_list s ≡ map (given_entry 0 s.size) pages → length s.rest.items ≤ length pages
  rest_few s pages list =
      let all = ap (λ l. length l) list in
      let parts = length-append (option_to_list s.next) (map (given_entry s.base s.size) (reverse s.rest.items)) in
      let rest = length-map (reverse s.rest.items) (given_entry s.base s.size) in
      let turned = length-reverse s.rest.items in
      let pages_ = length-map pages (given_entry 0 s.size) in
      omega (arith, all, parts, rest, turned, pages_)

  pub new_client : (program : NetProgram) (mac : Mac) (pages spare : List Paged) (script : List (List ℕ)) (c : NetClient) → length pages ≡ 1 → length spare ≡ 1 → All (λ frame. length frame < 2 ^ 16) script
      → IsNewClient program mac (queue 0) (queue 1) (queue 3) (queue 2) pages spare script c → ClientStands w c
  new_client program mac pages spare script c one other short new = record {
    fits = record {
      frames = pipe_fits c.frames.pipe 0 1 (inl refl) (inl refl) new.frames;
      sent = intake_fits c.sent 2 (inr refl) new.sent;
      send = outlet_fits c.send 3 (inr refl) new.send;
      gives = rw new.frames.output (out_kind 1 (inl refl));
      comes_back = intake_kind c.sent 2 (inr refl) new.sent;
      sends = outlet_kind c.send 3 (inr refl) new.send;
      inputs_apart = λ same.
          let a = ap (λ (x : QueueId). x.0) new.frames.input in
          let b = ap (λ (x : Intake). x.queue.0) new.sent in
          omega (arith, a, b, same);
      outputs_apart = λ same.
          let a = ap (λ (x : QueueId). x.0) new.frames.output in
          let b = ap (λ (x : Outlet). x.queue.0) new.send in
          omega (arith, a, b, same);
      stock = new.ready;
      outbox = record {
        stock = new.outbox.ready;
        load = for_none c.outbox.load (λ x. kind_of x.0 ≡ Kind.Net) new.outbox.load;
        next = let next = new.outbox.next in omega (arith, next);
      };
      script = subst (λ fs. All (λ frame. length frame < 2 ^ 16) fs) (sym (ap (λ p. p.script) new.program_is)) short;
      record_ = subst (λ fs. All (λ frame. length frame < 2 ^ 16) fs) (sym new.got) (λ k d lt. absurd (omega (arith, lt)));
      few = let a = rest_few c.stock pages new.stock in let b = rest_few c.outbox.stock spare new.outbox.stock in omega (arith, a, b, one, other);
    };
    long = fed.long;
  }

  pub new_lender : (base : ℕ) (mac : Mac) (pages : List Paged) (v : NetVirtRx) → IsNewRx (queue 0) (queue 1) base (record { mac = mac; active = queue 3; free = queue 2 } ∷ []) pages v → RxStandsFor v nothing_passed → LenderStands w v
  new_lender base mac pages v new stands =
      let froms : from_queues v.ends ≡ queue 2 ∷ [] = ap (map (λ (i : Intake). i.queue)) new.ends.from_is in
      let tos : to_queues v.ends ≡ queue 3 ∷ [] = ap (map (λ (o : Outlet). o.queue)) new.ends.to_is in
      let from_at = λ (k : ℕ) (q : QueueId) (at : slice_get (from_queues v.ends) k ≡ Some q). (one_at (queue 2) q k (ap (λ l. slice_get l k) (sym froms) ∙ at)).1 in
      let to_at = λ (k : ℕ) (q : QueueId) (at : slice_get (to_queues v.ends) k ≡ Some q). (one_at (queue 3) q k (ap (λ l. slice_get l k) (sym tos) ∙ at)).1 in
      let macs = ap (λ l. length l) new.work.macs_are in
      record {
        fits = record {
          ends_fit = record {
            input = intake_fits v.ends.input 0 (inl refl) new.ends.input_is;
            output = outlet_fits v.ends.output 1 (inl refl) new.ends.output_is;
            from_clients = record {
              agrees = λ k i at. intake_fits i 2 (inr refl) (intake_one (queue 2) i k (ap (λ l. slice_get l k) (sym new.ends.from_is) ∙ at));
              apart = subst AreApart (sym froms) (one_apart (queue 2));
            };
            to_clients = record {
              agrees = λ k o at. outlet_fits o 3 (inr refl) (outlet_one (queue 3) o k (ap (λ l. slice_get l k) (sym new.ends.to_is) ∙ at));
              apart = subst AreApart (sym tos) (one_apart (queue 3));
            };
            comes = intake_kind v.ends.input 0 (inl refl) new.ends.input_is;
            goes = outlet_kind v.ends.output 1 (inl refl) new.ends.output_is;
            come_from = λ k q at. subst (λ (x : QueueId). (end_at w Consumer x.0).kind ≡ Kind.Net) (sym (from_at k q at)) (in_kind 2 (inr refl));
            go_to = λ k q at. subst (λ (x : QueueId). (end_at w Producer x.0).kind ≡ Kind.Net) (sym (to_at k q at)) (out_kind 3 (inr refl));
            inputs_apart = λ k q at same.
                let c = ap (λ (x : QueueId). x.0) (from_at k q at) in
                let i = ap (λ (x : Intake). x.queue.0) new.ends.input_is in
                omega (arith, c, i, same);
            outputs_apart = λ k q at same.
                let c = ap (λ (x : QueueId). x.0) (to_at k q at) in
                let o = ap (λ (x : Outlet). x.queue.0) new.ends.output_is in
                omega (arith, c, o, same);
            few_from = let l = ap length froms in omega (arith, l);
            few_to = let l = ap length tos in omega (arith, l);
          };
          work = stands.work;
          from_each = ap length froms ∙ sym macs;
          to_each = ap length tos ∙ sym macs;
        };
        long = fed.long;
      }

-- a pool of one buffer is one where that begins at another address
pub moved_pool : (base : ℕ) (pages : List Paged) → base ≤ 2 ^ 32 → length pages ≡ 1 → ArePool 0 pool 16384 pages → ArePool base pool 16384 pages
moved_pool base pages low one p = record {
  same_pool = p.same_pool;
  numbered = p.numbered;
  sized = p.sized;
  some = p.some;
  few = p.few;
  ends = omega (arith, low, one);
}

-- eight queues in their start state
pub new_eight : (w : List Queue) → AreQueues Kind.Net 8 w → AreFedEight w
new_eight w b = record {
  long = b.long;
  inputs = λ k lt. b.start Consumer (2 * k) (omega (arith, lt));
  outputs = λ k lt. b.start Producer (2 * k + 1) (omega (arith, lt));
  hands = λ k lt. ap (λ e. e.kind) (b.start Producer (2 * k) (omega (arith, lt)));
}

-- what the hand puts leaves the driver's ends
pub after_pipe : (w u : List Queue) (k : ℕ) → k < 4 → AreFedEight w → OnlyAt Producer (2 * k) w u → AreFedEight u
after_pipe w u k lt fed only = record {
  long = only.long ∙ fed.long;
  inputs = λ n few. only.rest Consumer (2 * n) (λ r same. absurd cc) ∙ fed.inputs n few;
  outputs = λ n few. only.rest Producer (2 * n + 1) (λ r same. omega (arith, same)) ∙ fed.outputs n few;
  hands = λ n few. only.kinds Producer (2 * n) ∙ fed.hands n few;
}

pub pipe_there : (w : List Queue) (k : ℕ) → k < 4 → AreFedEight w → 2 * k < length w
pipe_there w k lt fed = let long = fed.long in omega (arith, lt, long)

module _ (w : List Queue) (fed : AreFedEight w) where
  pipe_at : (p : Pipe) (k : ℕ) → k < 4 → IsNewPipe (queue (2 * k)) (queue (2 * k + 1)) p → FitsPipe (end_at w) p
  pipe_at p k lt new = record {
    input = rw (new.input, new.input_state, fed.inputs k lt) (record { owned = refl; waiter = refl; ringer = refl; looked = λ h. absurd cc });
    output = rw (new.output, new.output_state, fed.outputs k lt) (record { owned = refl; waiter = refl; ringer = refl; looked = λ h. absurd cc });
    kinds = rw (new.input, new.output) (ap (λ e. e.kind) (fed.inputs k lt) ∙ sym (ap (λ e. e.kind) (fed.outputs k lt)));
    load = for_none p.load (λ c. kind_of c.0 ≡ (end_at w Producer p.output.queue.0).kind) new.load;
  }

  pub new_four : (d : EthDriver) → IsNewFour d → FourStand w d
  new_four d new =
      let a : d.driver.pipes.first.input.queue.0 ≡ 0 = ap (λ (q : QueueId). q.0) new.first.input in
      let b : d.driver.pipes.rest.first.input.queue.0 ≡ 2 = ap (λ (q : QueueId). q.0) new.second.input in
      let c : d.driver.pipes.rest.rest.first.input.queue.0 ≡ 4 = ap (λ (q : QueueId). q.0) new.third.input in
      let e : d.driver.pipes.rest.rest.rest.input.queue.0 ≡ 6 = ap (λ (q : QueueId). q.0) new.fourth.input in
      let a' : d.driver.pipes.first.output.queue.0 ≡ 1 = ap (λ (q : QueueId). q.0) new.first.output in
      let b' : d.driver.pipes.rest.first.output.queue.0 ≡ 3 = ap (λ (q : QueueId). q.0) new.second.output in
      let c' : d.driver.pipes.rest.rest.first.output.queue.0 ≡ 5 = ap (λ (q : QueueId). q.0) new.third.output in
      let e' : d.driver.pipes.rest.rest.rest.output.queue.0 ≡ 7 = ap (λ (q : QueueId). q.0) new.fourth.output in
      record {
        fits = record {
          each = (
            pipe_at d.driver.pipes.first 0 (omega arith) new.first,
            (
              pipe_at d.driver.pipes.rest.first 1 (omega arith) new.second,
              (pipe_at d.driver.pipes.rest.rest.first 2 (omega arith) new.third, (pipe_at d.driver.pipes.rest.rest.rest 3 (omega arith) new.fourth, tt)),
            ),
          );
          inputs = (
            ((λ h. omega (arith, h, a, b)), ((λ h. omega (arith, h, a, c)), ((λ h. omega (arith, h, a, e)), tt))),
            (((λ h. omega (arith, h, b, c)), ((λ h. omega (arith, h, b, e)), tt)), (((λ h. omega (arith, h, c, e)), tt), (tt, tt))),
          );
          outputs = (
            ((λ h. omega (arith, h, a', b')), ((λ h. omega (arith, h, a', c')), ((λ h. omega (arith, h, a', e')), tt))),
            (((λ h. omega (arith, h, b', c')), ((λ h. omega (arith, h, b', e')), tt)), (((λ h. omega (arith, h, c', e')), tt), (tt, tt))),
          );
        };
        long = fed.long;
      }
