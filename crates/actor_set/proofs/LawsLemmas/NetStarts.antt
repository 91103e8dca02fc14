-- The network's actors in their start state: they fit the ends that rows give them, stand for
-- nothing, and have the start hand of their sheets.
use Rattle.std.proofs.Common.{◌≡◌, ◌≢◌, ◌⊎◌, ◌==◌, ◌+◌, ◌<◌, ◌≤◌, ◌^◌, ◌-◌, ℕ, zero, suc, true, false, cond, if◌then◌else◌, Option, Some, None, is_some, List, [], ◌∷◌, All, length, map, reverse, slice_get, length-append, refl, sym, ap, ◌∙◌, subst, arith, eq-eqb, inl, inr}
use Rattle.std.specs.Option.{option_to_list, ForSome}
use Rattle.std.proofs.Math.Dec.{eqb}
use Rattle.std.proofs.lemmas.Bool.{ne_eqb}
use Rattle.std.proofs.lemmas.Bool.Decides.{eqb_tells}
use Rattle.std.proofs.lemmas.List.{length-map, length-reverse}
use Rattle.cargo_core.specs.Items.{kind_of}
use Rattle.cargo_core.specs.Bodies.{buffers_of}
use Rattle.cargo_core.specs.Pages.{Paged}
use Rattle.cargo_core.specs.declared.item.PoolId.{PoolId}
use Rattle.cargo_core.specs.declared.item.Body.TheVariants as Carried
use Rattle.cargo_core.specs.declared.item.QueueKind.TheVariants as Kind
use Rattle.wire_core.specs.declared.names.Side.TheVariants.{Forward, Backward}
use Rattle.wire_core.specs.Deeds.{Cargo}
use Rattle.wire_core.specs.Ends.{Role, Consumer, Producer, End}
use Rattle.wire_core.specs.Lists.{nothing_passed}
use Rattle.turn_kit.specs.Table.{Agrees, start_state}
use Rattle.turn_kit.specs.Hands.{bodies_of}
use Rattle.turn_kit.specs.Pipes.{FitsPipe, PipeStandsFor, IsNewPipe}
use Rattle.turn_kit.specs.declared.end_state.EndState.{EndState}
use Rattle.turn_kit.specs.declared.ends.Intake.{Intake}
use Rattle.turn_kit.specs.declared.ends.Outlet.{Outlet}
use Rattle.turn_kit.specs.declared.pipe.Pipe.{Pipe}
use Rattle.turn_kit.proofs.Holding.{buffers-append, buffers-cons}
use Rattle.pipe_driver.specs.Drivers.{EachPipe, AreDistinct, PipesEnd, FitsPipes, PipesStandFor, inputs_of, outputs_of}
use Rattle.play_core.specs.Sheets.{Scene}
use Rattle.play_core.proofs.Lists.{map_get, map_from}
use Rattle.device_model.specs.Ethernet.Devices.{FitsDevice, DeviceStandsFor, DeviceEnd, rx_free, rx_active, tx_active, tx_free}
use Rattle.device_model.specs.declared.ethernet.EthDevice.{EthDevice}
use Rattle.buffer_kit.specs.Pools.{given_entry, page_bodies}
use Rattle.buffer_kit.specs.Stocks.{stock_list, stock_hand}
use Rattle.buffer_kit.specs.declared.stock.Stock.{Stock}
use Rattle.wire_core.specs.declared.names.QueueId.{QueueId}
use Rattle.buffer_kit.specs.Virtualising.{FitsVirt, IsNewVirt, VirtOwns, from_queues, to_queues, new_intake, new_outlet}
use Rattle.buffer_kit.specs.declared.virt_ends.VirtEnds.{VirtEnds}
use Rattle.buffer_kit.proofs.Counts.{stock_count, given_count}
use Rattle.buffer_kit.proofs.Filling.{no_entries}
use Rattle.net_virt_rx.specs.declared.LeaseEnds.{LeaseEnds}
use Rattle.net_virt_rx.specs.Receiving.{FitsRx}
use Rattle.net_virt_rx.specs.Sharing.{sharer_hand}
use Rattle.net_virt_rx.specs.declared.NetVirtRx.{NetVirtRx}
use Rattle.net_copier.specs.Copying.{FitsCopier, CopierStandsFor, CopierEnd, IfThere, IsAt, IsWork, IsNewCopier}
use Rattle.net_copier.specs.declared.NetCopier.{NetCopier}
use Rattle.client_programs.specs.Net.Clients.{FitsClient, ClientStandsFor, ClientEnd, client_hand}
use Rattle.client_programs.specs.Net.Clients as client
use Rattle.client_programs.specs.declared.net.NetClient.{NetClient}
use Rattle.client_programs.proofs.NetLemmas.Holding.{hand_count, outbox_count}
use Rattle.client_programs.proofs.NetLemmas.Sending.{outbox_starts}
use Rattle.client_programs.proofs.NetLemmas.Standing.{new_holds}
use Rattle.owner_law.specs.Pools.Places.{numbers_from, pool_hand}
use Rattle.net_law.specs.Parts.Table.{net_sheet}
use Rattle.net_law.specs.Parts.Playing.{receiver_part, client_part, stock_pool}
use Rattle.actor_set.specs.Actors.{IsWholeReceiver}
use Rattle.actor_set.specs.StartStates.{IsNewReceiving, IsNewLender, IsNewClientOf, HasApartQueues}

no_load : (o : Option Cargo) → o ≡ None → (c : Cargo) → o ≡ Some c → ⊥
no_load o none c some = let e : None ≡ Some c = sym none ∙ some in cc

-- nothing is in hand, so whatever is said of it holds
pub for_none : (o : Option Cargo) (P : Cargo → Type 0) → o ≡ None → ForSome o P
for_none o P none c some = absurd (no_load o none c some)

-- rows that give an actor queues of the network, where each end is in its start state
module _ (ends : Role → ℕ → End) where
  -- what its seats give an actor
  pub record Seated (E : Role → ℕ → Type 0) : Type 0 where
    pub inputs : (n : ℕ) (state : EndState) → E Consumer n → state ≡ start_state Forward → Agrees (ends Consumer n) state
    pub outputs : (n : ℕ) (state : EndState) → E Producer n → state ≡ start_state Backward → Agrees (ends Producer n) state
    pub carries : (r : Role) (n : ℕ) → E r n → (ends r n).kind ≡ Kind.Net

  new_pipe_fits : (E : Role → ℕ → Type 0) → Seated E → (p : Pipe) → IsNewPipe p.input.queue p.output.queue p → E Consumer p.input.queue.0 → E Producer p.output.queue.0 → FitsPipe ends p
  new_pipe_fits E s p new i o = record {
    input = s.inputs p.input.queue.0 p.input.state i new.input_state;
    output = s.outputs p.output.queue.0 p.output.state o new.output_state;
    kinds = s.carries Consumer p.input.queue.0 i ∙ sym (s.carries Producer p.output.queue.0 o);
    load = for_none p.load (λ c. kind_of c.0 ≡ (ends Producer p.output.queue.0).kind) new.load;
  }

  new_each : (E : Role → ℕ → Type 0) → Seated E → (ps : List Pipe) → EachPipe (λ p. IsNewPipe p.input.queue p.output.queue p) ps → ((n : ℕ) → PipesEnd ps Consumer n → E Consumer n) → ((n : ℕ) → PipesEnd ps Producer n → E Producer n) → EachPipe (FitsPipe ends) ps
  new_each E s [] new ins outs = tt
  new_each E s (p ∷ ps) new ins outs = (new_pipe_fits E s p new.0 (ins p.input.queue.0 (inl refl)) (outs p.output.queue.0 (inl refl)), new_each E s ps new.1 (λ n h. ins n (inr h)) (λ n h. outs n (inr h)))

  pub new_pipes_fit : (ps : List Pipe) → EachPipe (λ p. IsNewPipe p.input.queue p.output.queue p) ps → AreDistinct (inputs_of ps) → AreDistinct (outputs_of ps) → Seated (PipesEnd ps) → FitsPipes ends ps
  new_pipes_fit ps new i o s = record { each = new_each (PipesEnd ps) s ps new (λ n h. h) (λ n h. h); inputs = i; outputs = o }

  pub new_device_fits : (d : EthDevice) → IsNewReceiving d → (rx_free d ≡ tx_active d → ⊥) → (rx_active d ≡ tx_free d → ⊥) → Seated (DeviceEnd d) → FitsDevice ends d
  new_device_fits d new i o s = record {
    free = s.inputs (rx_free d) d.free.state (inl refl) (ap (λ (x : Intake). x.state) new.new.free);
    active = s.outputs (rx_active d) d.active.state (inl refl) (ap (λ (x : Outlet). x.state) new.new.active);
    wire = new_pipe_fits (DeviceEnd d) s d.wire.pipe new.new.wire (inr refl) (inr refl);
    comes = s.carries Consumer (rx_free d) (inl refl);
    goes = s.carries Producer (rx_active d) (inl refl);
    load = for_none d.load (λ c. kind_of c.0 ≡ Kind.Net) new.new.load;
    inputs_apart = i;
    outputs_apart = o;
    next = rw new.new.next (omega arith);
    frames = new.short;
  }

  pub new_copier_fits : (c : NetCopier) → IsNewCopier c.lease_input.queue c.lease_output.queue c.buffer_output.queue c.buffer_input.queue c.drops c → (c.lease_input.queue.0 ≡ c.buffer_input.queue.0 → ⊥) → (c.buffer_output.queue.0 ≡ c.lease_output.queue.0 → ⊥) → IsWork c → Seated (CopierEnd c) → FitsCopier ends c
  new_copier_fits c new i o work s = record {
    lease_input = s.inputs c.lease_input.queue.0 c.lease_input.state (inl refl) (ap (λ (x : Intake). x.state) new.lease_input);
    buffer_input = s.inputs c.buffer_input.queue.0 c.buffer_input.state (inr refl) (ap (λ (x : Intake). x.state) new.buffer_input);
    buffer_output = s.outputs c.buffer_output.queue.0 c.buffer_output.state (inl refl) (ap (λ (x : Outlet). x.state) new.buffer_output);
    lease_output = s.outputs c.lease_output.queue.0 c.lease_output.state (inr refl) (ap (λ (x : Outlet). x.state) new.lease_output);
    leases_come = s.carries Consumer c.lease_input.queue.0 (inl refl);
    buffers_come = s.carries Consumer c.buffer_input.queue.0 (inr refl);
    buffers_go = s.carries Producer c.buffer_output.queue.0 (inl refl);
    leases_go = s.carries Producer c.lease_output.queue.0 (inr refl);
    inputs_apart = i;
    outputs_apart = o;
    lease = for_none c.lease (λ x. kind_of x.0 ≡ Kind.Net) new.lease;
    buffer = for_none c.buffer (λ x. kind_of x.0 ≡ Kind.Net) new.buffer;
    work = work;
  }

  pub new_client_fits : (c : NetClient) → (new : IsNewClientOf c) → (length c.stock.rest.items + length c.outbox.stock.rest.items < 2 ^ 32 - 4) → (client.rx_active c ≡ client.tx_free c → ⊥) → (client.rx_free c ≡ client.tx_active c → ⊥) → Seated (ClientEnd c) → FitsClient ends c
  new_client_fits c new few i o s = record {
    frames = new_pipe_fits (ClientEnd c) s c.frames.pipe new.new.frames (inl refl) (inl refl);
    sent = s.inputs (client.tx_free c) c.sent.state (inr refl) (ap (λ (x : Intake). x.state) new.new.sent);
    send = s.outputs (client.tx_active c) c.send.state (inr refl) (ap (λ (x : Outlet). x.state) new.new.send);
    gives = s.carries Producer (client.rx_free c) (inl refl);
    comes_back = s.carries Consumer (client.tx_free c) (inr refl);
    sends = s.carries Producer (client.tx_active c) (inr refl);
    inputs_apart = i;
    outputs_apart = o;
    stock = new.new.ready;
    outbox = record {
      stock = new.new.outbox.ready;
      load = for_none c.outbox.load (λ x. kind_of x.0 ≡ Kind.Net) new.new.outbox.load;
      next = let next = new.new.outbox.next in omega (arith, next);
    };
    script = new.short;
    record_ = subst (λ fs. All (λ frame. length frame < 2 ^ 16) fs) (sym new.new.got) (λ k d lt. absurd (omega (arith, lt)));
    few = few;
  }

  -- a virtualiser's ends, where it has few clients
  pub new_virt_fits : (v : VirtEnds) (input output : QueueId) (from to : List QueueId) → IsNewVirt input output from to v → HasApartQueues v → length (from_queues v) < 2 ^ 32 → length (to_queues v) < 2 ^ 32 → Seated (VirtOwns v) → FitsVirt ends v
  new_virt_fits v input output from to e apart few_from few_to s = record {
    input = s.inputs v.input.queue.0 v.input.state (inl refl) (ap (λ (x : Intake). x.state) e.input_is);
    output = s.outputs v.output.queue.0 v.output.state (inl refl) (ap (λ (x : Outlet). x.state) e.output_is);
    from_clients = record {
      agrees = λ k i at. s.inputs i.queue.0 i.state (inr (k, i.queue, map_get (λ (x : Intake). x.queue) v.from_clients.ends.items k i at, refl)) (let f = map_from new_intake from k i (ap (λ l. slice_get l k) (sym e.from_is) ∙ at) in ap (λ (x : Intake). x.state) (sym f.2));
      apart = apart.from;
    };
    to_clients = record {
      agrees = λ k i at. s.outputs i.queue.0 i.state (inr (k, i.queue, map_get (λ (x : Outlet). x.queue) v.to_clients.ends.items k i at, refl)) (let f = map_from new_outlet to k i (ap (λ l. slice_get l k) (sym e.to_is) ∙ at) in ap (λ (x : Outlet). x.state) (sym f.2));
      apart = apart.to;
    };
    comes = s.carries Consumer v.input.queue.0 (inl refl);
    goes = s.carries Producer v.output.queue.0 (inl refl);
    come_from = λ k q at. s.carries Consumer q.0 (inr (k, q, at, refl));
    go_to = λ k q at. s.carries Producer q.0 (inr (k, q, at, refl));
    inputs_apart = apart.input;
    outputs_apart = apart.output;
    few_from = few_from;
    few_to = few_to;
  }

  pub new_receiver_fits : (v : NetVirtRx) → (new : IsNewLender v) → IsWholeReceiver v → HasApartQueues v.ends → Seated (VirtOwns v.ends) → FitsRx ends v
  new_receiver_fits v new whole apart s = record {
    ends_fit = new_virt_fits v.ends v.ends.input.queue v.ends.output.queue (map (λ (c : LeaseEnds). c.free) new.clients) (map (λ (c : LeaseEnds). c.active) new.clients) new.new.ends apart (omega (arith, whole.from_each, whole.work.few)) (omega (arith, whole.to_each, whole.work.few)) s;
    work = whole.work;
    from_each = whole.from_each;
    to_each = whole.to_each;
  }

-- a new receiving virtualiser has one queue each way for each client
pub new_receiver_whole : (v : NetVirtRx) → IsNewLender v → IsWholeReceiver v
new_receiver_whole v new =
    let macs : length v.work.macs.items ≡ length new.clients = ap (λ l. length l) new.new.work.macs_are ∙ length-map new.clients (λ (c : LeaseEnds). c.mac) in
    let from = length-map v.ends.from_clients.ends.items (λ (x : Intake). x.queue) in
    let from_is = ap (λ l. length l) new.new.ends.from_is ∙ (length-map (map (λ (c : LeaseEnds). c.free) new.clients) new_intake ∙ length-map new.clients (λ (c : LeaseEnds). c.free)) in
    let to = length-map v.ends.to_clients.ends.items (λ (x : Outlet). x.queue) in
    let to_is = ap (λ l. length l) new.new.ends.to_is ∙ (length-map (map (λ (c : LeaseEnds). c.active) new.clients) new_outlet ∙ length-map new.clients (λ (c : LeaseEnds). c.active)) in
    record { work = new.stands.work; from_each = omega (arith, macs, from, from_is); to_each = omega (arith, macs, to, to_is) }

-- a new client's buffers can be counted
pub new_client_few : (c : NetClient) → IsNewClientOf c → length c.stock.rest.items + length c.outbox.stock.rest.items < 2 ^ 32 - 4
new_client_few c new = omega (arith, rest_few c.stock new.pages new.new.stock, rest_few c.outbox.stock new.spare new.new.outbox.stock, new.few)
  where
    rest_few : (s : Stock) (pages : List Paged) → stock_list s ≡ map (given_entry 0 s.size) pages → length s.rest.items ≤ length pages
    rest_few s pages list =
        let all = ap (λ l. length l) list in
        let parts = length-append (option_to_list s.next) (map (given_entry s.base s.size) (reverse s.rest.items)) in
        let rest = length-map (reverse s.rest.items) (given_entry s.base s.size) in
        let turned = length-reverse s.rest.items in
        let pages_ = length-map pages (given_entry 0 s.size) in
        omega (arith, all, parts, rest, turned, pages_)

-- it stands for nothing

new_pipe_stands : (p : Pipe) → IsNewPipe p.input.queue p.output.queue p → PipeStandsFor p nothing_passed
new_pipe_stands p new = ap option_to_list (sym new.load)

pub new_pipes_stand : (ps : List Pipe) → EachPipe (λ p. IsNewPipe p.input.queue p.output.queue p) ps → PipesStandFor ps nothing_passed
new_pipes_stand [] new = tt
new_pipes_stand (p ∷ ps) new = (new_pipe_stands p new.0, new_pipes_stand ps new.1)

pub new_device_stands : (d : EthDevice) → IsNewReceiving d → DeviceStandsFor d nothing_passed
new_device_stands d new = record {
  filled = ap option_to_list new.new.load ∙ sym (no_entries d.frames);
  takes = sym new.new.next;
  next = rw new.new.next (omega arith);
  sends = record { moved = new_pipe_stands d.wire.pipe new.new.wire; recorded = new.new.sent };
  tells = λ drops. record { used = sym new.new.next; each = refl };
}

pub new_copier_work : (c : NetCopier) → IsNewCopier c.lease_input.queue c.lease_output.queue c.buffer_output.queue c.buffer_input.queue c.drops c → IsWork c
new_copier_work c new = record {
  lease = subst (λ x. IfThere x (IsAt c.stage)) (sym new.lease) tt;
  buffered = λ some. let no : false ≡ true = sym (ap is_some new.buffer) ∙ some in cc;
}

pub new_copier_stands : (c : NetCopier) → IsNewCopier c.lease_input.queue c.lease_output.queue c.buffer_output.queue c.buffer_input.queue c.drops c → CopierStandsFor c nothing_passed
new_copier_stands c new = record {
  leases = sym (ap option_to_list new.lease);
  copies = ap option_to_list new.buffer;
  takes = sym (ap (λ o. length (option_to_list o)) new.buffer);
  puts = rw new.lease refl;
  in_turn = λ k x lt. absurd (omega (arith, lt));
  work = new_copier_work c new;
  tells = λ drops. record { came = rw new.lease refl; waits = rw new.lease refl; each = refl };
}

pub new_client_stands : (c : NetClient) → IsNewClientOf c → ClientStandsFor c nothing_passed
new_client_stands c new = new_holds c new.pages new.new.frames.load new.new.got new.new.is_start new.new.stock new.new.base (outbox_starts c.outbox new.spare (client.client_frames c) new.new.outbox)

-- its hand is the start hand of its sheet

numbers_long : (first count : ℕ) → length (numbers_from first count) ≡ count
numbers_long first zero = refl
numbers_long first (suc count) = ap suc (numbers_long (first + 1) count)

-- of a pool's pages, all are counted or none
pages_all : (pool of_pool : PoolId) (pages : List Paged) → pool.0 ≡ of_pool.0 → ((k : ℕ) (p : Paged) → slice_get pages k ≡ Some p → p.pool ≡ pool) → buffers_of of_pool (page_bodies pages) ≡ length pages
pages_all pool of_pool [] same all = refl
pages_all pool of_pool (p ∷ pages) same all =
    let here : (p.pool.0 == of_pool.0) ≡ true = eq-eqb p.pool.0 of_pool.0 (ap (λ (x : PoolId). x.0) (all 0 p refl) ∙ same) in
    let one : cond {A = ℕ} (p.pool.0 == of_pool.0) 1 0 ≡ 1 = ap (λ b. cond {A = ℕ} b 1 0) here in
    let rest = pages_all pool of_pool pages same (λ k q at. all (suc k) q at) in
    let parts = buffers-cons of_pool (Carried.Page p) (page_bodies pages) in
    omega (arith, one, rest, parts)

pages_none : (pool of_pool : PoolId) (pages : List Paged) → (pool.0 ≡ of_pool.0 → ⊥) → ((k : ℕ) (p : Paged) → slice_get pages k ≡ Some p → p.pool ≡ pool) → buffers_of of_pool (page_bodies pages) ≡ 0
pages_none pool of_pool [] off all = refl
pages_none pool of_pool (p ∷ pages) off all =
    let here : (p.pool.0 == of_pool.0) ≡ false = ne_eqb p.pool.0 of_pool.0 (λ e. off (ap (λ (x : PoolId). x.0) (sym (all 0 p refl)) ∙ e)) in
    let none : cond {A = ℕ} (p.pool.0 == of_pool.0) 1 0 ≡ 0 = ap (λ b. cond {A = ℕ} b 1 0) here in
    let rest = pages_none pool of_pool pages off (λ k q at. all (suc k) q at) in
    let parts = buffers-cons of_pool (Carried.Page p) (page_bodies pages) in
    omega (arith, none, rest, parts)

pub pages_are : (number base buffers size : ℕ) (pool of_pool : PoolId) (pages : List Paged) → number ≡ pool.0 → length pages ≡ buffers → ((k : ℕ) (p : Paged) → slice_get pages k ≡ Some p → p.pool ≡ pool) → buffers_of of_pool (page_bodies pages) ≡ length (pool_hand (record { number = number; base = base; buffers = buffers; size = size }) of_pool.0)
pages_are number base buffers size pool of_pool pages is many all = by (eqb_tells number of_pool.0)
  where
    by : ((eqb number of_pool.0 ≡ true) × (number ≡ of_pool.0)) ⊎ ((eqb number of_pool.0 ≡ false) × (number ≢ of_pool.0)) → buffers_of of_pool (page_bodies pages) ≡ length (pool_hand (record { number = number; base = base; buffers = buffers; size = size }) of_pool.0)
    by (inl h) = pages_all pool of_pool pages (sym is ∙ h.1) all ∙ (many ∙ sym (ap (λ b. length (if b then numbers_from 0 buffers else [])) h.0 ∙ numbers_long 0 buffers))
    by (inr h) = pages_none pool of_pool pages (λ e. h.1 (is ∙ e)) all ∙ sym (ap (λ b. length (if b then numbers_from 0 buffers else [])) h.0)

pub new_receiver_hand : (scene : Scene) (v : NetVirtRx) → IsNewLender v → (pool : PoolId) → buffers_of pool (sharer_hand v.work) ≡ length ((net_sheet scene (receiver_part v)).hand pool.0)
new_receiver_hand scene v new pool =
    let w = new.new.work in
    let parts = buffers-append pool (stock_hand v.work.stock) (bodies_of (option_to_list v.work.stray)) in
    let none = ap (λ o. buffers_of pool (bodies_of (option_to_list o))) w.none_stray in
    let stock = stock_count pool v.work.stock in
    let list = ap (λ l. buffers_of pool (bodies_of l)) w.stock in
    let given = given_count pool new.base v.work.stock.size new.pages in
    let pages = pages_are v.work.stock.pool.0 v.work.stock.base v.work.stock.buffers v.work.stock.size v.work.stock.pool pool new.pages refl w.is_start.many w.is_start.are_pool.same_pool in
    omega (arith, parts, none, stock, list, given, pages)

pub new_client_hand : (scene : Scene) (c : NetClient) → IsNewClientOf c → (pool : PoolId) → buffers_of pool (client_hand c) ≡ length ((net_sheet scene (client_part c)).hand pool.0)
new_client_hand scene c new pool =
    let parts = hand_count pool c in
    let none = ap (λ o. buffers_of pool (bodies_of (option_to_list o))) new.new.frames.load in
    let stock = stock_count pool c.stock in
    let list = ap (λ l. buffers_of pool (bodies_of l)) new.new.stock in
    let given = given_count pool 0 c.stock.size new.pages in
    let own = pages_are c.stock.pool.0 c.stock.base c.stock.buffers c.stock.size c.stock.pool pool new.pages refl new.new.is_start.many new.new.is_start.are_pool.same_pool in
    let o = c.outbox in
    let out = outbox_count pool o in
    let out_none = ap (λ l. buffers_of pool (bodies_of (option_to_list l))) new.new.outbox.load in
    let out_stock = stock_count pool o.stock in
    let out_list = ap (λ l. buffers_of pool (bodies_of l)) new.new.outbox.stock in
    let out_given = given_count pool 0 o.stock.size new.spare in
    let out_own = pages_are o.stock.pool.0 o.stock.base o.stock.buffers o.stock.size o.stock.pool pool new.spare refl new.new.outbox.is_start.many new.new.outbox.is_start.are_pool.same_pool in
    let all = length-append (pool_hand (stock_pool c.stock) pool.0) (pool_hand (stock_pool o.stock) pool.0) in
    omega (arith, parts, none, stock, list, given, own, out, out_none, out_stock, out_list, out_given, out_own, all)
