-- The block class's actors in their start state: they fit the ends that rows give them, stand for
-- nothing, and have the start hand of their sheets.
use Rattle.std.proofs.Common.{◌≡◌, ℕ, zero, suc, if◌then◌else◌, Some, List, [], ◌∷◌, length, map, slice_get, refl, sym, ap, ◌∙◌, arith, eq-eqb, inl, inr}
use Rattle.std.specs.Option.{option_to_list}
use Rattle.std.proofs.lemmas.Bool.{ne_eqb}
use Rattle.std.proofs.lemmas.List.{length-map}
use Rattle.cargo_core.specs.declared.item.PoolId.{PoolId}
use Rattle.cargo_core.specs.declared.item.QueueKind.{QueueKind}
use Rattle.cargo_core.specs.declared.item.QueueKind.TheVariants as Kind
use Rattle.cargo_core.specs.Bodies.{buffers_of}
use Rattle.cargo_core.specs.Items.{kind_of}
use Rattle.cargo_core.specs.Pages.{Paged}
use Rattle.wire_core.specs.declared.names.Side.TheVariants.{Forward, Backward}
use Rattle.wire_core.specs.Ends.{Role, Consumer, Producer, End}
use Rattle.wire_core.specs.Lists.{nothing_passed}
use Rattle.turn_kit.specs.Table.{Agrees, start_state}
use Rattle.turn_kit.specs.Hands.{bodies_of, bodies_at}
use Rattle.turn_kit.specs.Pipes.{FitsPipe, IsNewPipe}
use Rattle.turn_kit.specs.declared.end_state.EndState.{EndState}
use Rattle.turn_kit.specs.declared.ends.Intake.{Intake}
use Rattle.turn_kit.specs.declared.ends.Outlet.{Outlet}
use Rattle.turn_kit.specs.declared.pipe.Pipe.{Pipe}
use Rattle.pipe_driver.specs.Drivers.{FitsPipes, PipesEnd}
use Rattle.pipe_driver.specs.Lengths.{two_pipes}
use Rattle.play_core.specs.Sheets.{Scene}
use Rattle.play_core.proofs.Lists.{map_get, map_from}
use Rattle.buffer_kit.specs.Virtualising.{VirtOwns, virt_came, virt_went, new_intake, new_outlet}
use Rattle.device_model.specs.declared.disk.DiskDevice.{DiskDevice}
use Rattle.device_model.specs.Disk.Disks.{FitsDisk, DiskStandsFor, DiskEnd, IsNewDisk, req, resp}
use Rattle.blk_driver.specs.declared.BlkDriver.{BlkDriver}
use Rattle.client_programs.specs.declared.blk.BlkClient.{BlkClient}
use Rattle.client_programs.specs.Blk.Clients.{FitsBlkClient, BlkClientEnd, req_queue, resp_queue, blk_client_hand}
use Rattle.blk_virt.specs.declared.client.Client.{Client}
use Rattle.blk_virt.specs.declared.virtualiser.BlkEnds.{BlkEnds}
use Rattle.blk_virt.specs.declared.virtualiser.BlkVirt.{BlkVirt}
use Rattle.client_programs.proofs.BlkLemmas.Standing.{balance_of as asker_balance}
use Rattle.blk_virt.specs.Works.{work_cargo}
use Rattle.blk_virt.specs.Virtualising.{FitsBlkVirt, new_client}
use Rattle.blk_virt.proofs.Rows.{balance_of as server_balance}
use Rattle.blk_law.specs.Sheets.Table.{blk_sheet}
use Rattle.blk_law.specs.Sheets.Playing.{virt_part, blk_client_part}
use Rattle.actor_set.specs.Actors.{IsWholeServer}
use Rattle.actor_set.specs.StartStates.{IsNewServer, IsNewAsker, HasApartQueues, driver_kind, server_kind, kind_by, kind_of_two}
use Rattle.actor_set.proofs.LawsLemmas.NetStarts.{for_none, pages_are}

kind_here : (number n : ℕ) (here other : QueueKind) → n ≡ number → kind_of_two number here other n ≡ here
kind_here number n here other e = ap (λ b. if b then here else other) (eq-eqb n number e)

kind_there : (number n : ℕ) (here other : QueueKind) → (n ≡ number → ⊥) → kind_of_two number here other n ≡ other
kind_there number n here other e = ap (λ b. if b then here else other) (ne_eqb n number e)

-- rows that give an actor queues of these kinds, where each end is in its start state
module _ (ends : Role → ℕ → End) where
  pub record Carried (kind : Role → ℕ → QueueKind) (E : Role → ℕ → Type 0) : Type 0 where
    pub inputs : (n : ℕ) (state : EndState) → E Consumer n → state ≡ start_state Forward → Agrees (ends Consumer n) state
    pub outputs : (n : ℕ) (state : EndState) → E Producer n → state ≡ start_state Backward → Agrees (ends Producer n) state
    pub carries : (r : Role) (n : ℕ) → E r n → (ends r n).kind ≡ kind r n

  pub new_disk_fits : (image : List ℕ) (d : DiskDevice) → IsNewDisk d.input.queue d.output.queue image d → Carried (λ r n. kind_by Kind.Req Kind.Resp r) (DiskEnd d) → FitsDisk ends d
  new_disk_fits image d new s = record {
    input = s.inputs (req d) d.input.state refl (ap (λ (x : Intake). x.state) new.input);
    output = s.outputs (resp d) d.output.state refl (ap (λ (x : Outlet). x.state) new.output);
    comes = s.carries Consumer (req d) refl;
    goes = s.carries Producer (resp d) refl;
    load = for_none d.load (λ c. kind_of c.0 ≡ Kind.Resp) new.load;
  }

  new_pipe_fits : (kind : Role → ℕ → QueueKind) (E : Role → ℕ → Type 0) → Carried kind E → (p : Pipe) → IsNewPipe p.input.queue p.output.queue p → E Consumer p.input.queue.0 → E Producer p.output.queue.0 → kind Consumer p.input.queue.0 ≡ kind Producer p.output.queue.0 → FitsPipe ends p
  new_pipe_fits kind E s p new i o same = record {
    input = s.inputs p.input.queue.0 p.input.state i new.input_state;
    output = s.outputs p.output.queue.0 p.output.state o new.output_state;
    kinds = s.carries Consumer p.input.queue.0 i ∙ (same ∙ sym (s.carries Producer p.output.queue.0 o));
    load = for_none p.load (λ c. kind_of c.0 ≡ (ends Producer p.output.queue.0).kind) new.load;
  }

  pub new_blk_driver_fits : (d : BlkDriver) → IsNewPipe d.driver.pipes.first.input.queue d.driver.pipes.first.output.queue d.driver.pipes.first → IsNewPipe d.driver.pipes.rest.input.queue d.driver.pipes.rest.output.queue d.driver.pipes.rest
      → (d.driver.pipes.first.input.queue.0 ≡ d.driver.pipes.rest.input.queue.0 → ⊥) → (d.driver.pipes.first.output.queue.0 ≡ d.driver.pipes.rest.output.queue.0 → ⊥) → Carried (driver_kind d) (PipesEnd (two_pipes d.driver.pipes)) → FitsPipes ends (two_pipes d.driver.pipes)
  new_blk_driver_fits d first rest i o s =
      let fi : ℕ = d.driver.pipes.first.input.queue.0 in
      let fo : ℕ = d.driver.pipes.first.output.queue.0 in
      let ri : ℕ = d.driver.pipes.rest.input.queue.0 in
      let ro : ℕ = d.driver.pipes.rest.output.queue.0 in
      record {
        each = (
          new_pipe_fits (driver_kind d) (PipesEnd (two_pipes d.driver.pipes)) s d.driver.pipes.first first (inl refl) (inl refl) (kind_here fi fi Kind.Req Kind.Resp refl ∙ sym (kind_here fo fo Kind.Req Kind.Resp refl)),
          (new_pipe_fits (driver_kind d) (PipesEnd (two_pipes d.driver.pipes)) s d.driver.pipes.rest rest (inr (inl refl)) (inr (inl refl)) (kind_there fi ri Kind.Req Kind.Resp (λ e. i (sym e)) ∙ sym (kind_there fo ro Kind.Req Kind.Resp (λ e. o (sym e)))), tt),
        );
        inputs = ((i, tt), (tt, tt));
        outputs = ((o, tt), (tt, tt));
      }

  pub new_asker_fits : (c : BlkClient) → IsNewAsker c → Carried (λ r n. kind_by Kind.Resp Kind.Req r) (BlkClientEnd c) → FitsBlkClient ends c
  new_asker_fits c new s = record {
    responses = s.inputs (resp_queue c) c.responses.state refl (ap (λ (x : Intake). x.state) new.new.responses);
    requests = s.outputs (req_queue c) c.requests.state refl (ap (λ (x : Outlet). x.state) new.new.requests);
    comes = s.carries Consumer (resp_queue c) refl;
    goes = s.carries Producer (req_queue c) refl;
    asking = new.asking;
  }

  pub new_server_fits : (v : BlkVirt) → (new : IsNewServer v) → IsWholeServer v → HasApartQueues v.ends → Carried (server_kind v) (VirtOwns v.ends) → FitsBlkVirt ends v
  new_server_fits v new whole apart s =
      let e = new.new.ends in
      let many = length-map v.work.desk.clients.items (λ (c : Client). c.holder) in
      let i : ℕ = v.ends.input.queue.0 in
      let o : ℕ = v.ends.output.queue.0 in
      record {
        ends_fit = record {
          input = s.inputs i v.ends.input.state (inl refl) (ap (λ (x : Intake). x.state) e.input_is);
          output = s.outputs o v.ends.output.state (inl refl) (ap (λ (x : Outlet). x.state) e.output_is);
          from_clients = record {
            agrees = λ k x at. s.inputs x.queue.0 x.state (inr (k, x.queue, map_get (λ (y : Intake). y.queue) v.ends.from_clients.ends.items k x at, refl)) (let f = map_from new_intake (map (λ (c : BlkEnds). c.req) new.clients) k x (ap (λ l. slice_get l k) (sym e.from_is) ∙ at) in ap (λ (y : Intake). y.state) (sym f.2));
            apart = apart.from;
          };
          to_clients = record {
            agrees = λ k x at. s.outputs x.queue.0 x.state (inr (k, x.queue, map_get (λ (y : Outlet). y.queue) v.ends.to_clients.ends.items k x at, refl)) (let f = map_from new_outlet (map (λ (c : BlkEnds). c.resp) new.clients) k x (ap (λ l. slice_get l k) (sym e.to_is) ∙ at) in ap (λ (y : Outlet). y.state) (sym f.2));
            apart = apart.to;
          };
          comes = s.carries Consumer i (inl refl) ∙ kind_here i i Kind.Resp Kind.Req refl;
          goes = s.carries Producer o (inl refl) ∙ kind_here o o Kind.Req Kind.Resp refl;
          come_from = λ k q at. s.carries Consumer q.0 (inr (k, q, at, refl)) ∙ kind_there i q.0 Kind.Resp Kind.Req (λ e. apart.input k q at (sym e));
          go_to = λ k q at. s.carries Producer q.0 (inr (k, q, at, refl)) ∙ kind_there o q.0 Kind.Req Kind.Resp (λ e. apart.output k q at (sym e));
          inputs_apart = apart.input;
          outputs_apart = apart.output;
          few_from = omega (arith, whole.from_each, whole.few, many);
          few_to = omega (arith, whole.to_each, whole.few, many);
        };
        work = new.work;
        from_each = whole.from_each;
        to_each = whole.to_each;
      }

-- a new block virtualiser has one queue each way for each client
pub new_server_whole : (v : BlkVirt) → IsNewServer v → IsWholeServer v
new_server_whole v new =
    let many = length-map v.work.desk.clients.items (λ (c : Client). c.holder) in
    let clients = ap (λ l. length l) new.new.clients_are ∙ length-map new.clients new_client in
    let from = length-map v.ends.from_clients.ends.items (λ (x : Intake). x.queue) in
    let from_is = ap (λ l. length l) new.new.ends.from_is ∙ (length-map (map (λ (c : BlkEnds). c.req) new.clients) new_intake ∙ length-map new.clients (λ (c : BlkEnds). c.req)) in
    let to = length-map v.ends.to_clients.ends.items (λ (x : Outlet). x.queue) in
    let to_is = ap (λ l. length l) new.new.ends.to_is ∙ (length-map (map (λ (c : BlkEnds). c.resp) new.clients) new_outlet ∙ length-map new.clients (λ (c : BlkEnds). c.resp)) in
    record { few = new.few; first = new.first; from_each = omega (arith, many, clients, from, from_is); to_each = omega (arith, many, clients, to, to_is) }

pub new_disk_stands : (image : List ℕ) (d : DiskDevice) → IsNewDisk d.input.queue d.output.queue image d → DiskStandsFor image d nothing_passed
new_disk_stands image d new = record {
  requests = [];
  taken = sym (ap option_to_list new.stray);
  answered = ap option_to_list new.load;
  image = new.image;
  size = ap (λ l. length l) new.image;
  in_turn = λ k x lt. absurd (omega (arith, lt));
  out_of_turn = for_none d.stray _ new.stray;
}

-- nothing passed, so no buffer did
nothing_at : (pool : PoolId) (ns : List ℕ) → buffers_of pool (bodies_at (λ n. []) ns) ≡ 0
nothing_at pool [] = refl
nothing_at pool (n ∷ ns) = nothing_at pool ns

pub new_server_hand : (scene : Scene) (v : BlkVirt) → IsNewServer v → (pool : PoolId) → buffers_of pool (bodies_of (work_cargo v.work)) ≡ length ((blk_sheet scene (virt_part v)).hand pool.0)
new_server_hand scene v new pool =
    let st = server_balance v nothing_passed new.stands in
    let all = st.balances pool in
    let came = nothing_at pool (virt_came v.ends) in
    let went = nothing_at pool (virt_went v.ends) in
    let own : v.work.opening.own.pool ≡ st.start.pool = ap (λ n. n.pool) st.own in
    let one = pages_are v.work.opening.own.pool.0 v.work.opening.base 1 32768 st.start.pool pool (st.start ∷ []) (ap (λ (p : PoolId). p.0) own) refl (λ k p at. ap (λ (q : Paged). q.pool) (sym (only k p at))) in
    omega (arith, all, came, went, one)
  where
    only : {q : Paged} (k : ℕ) (p : Paged) → slice_get (q ∷ []) k ≡ Some p → q ≡ p
    only zero p at = Rattle.play_core.proofs.Lists.some_is at
    only (suc k) p at = cc

pub new_asker_hand : (scene : Scene) (c : BlkClient) → IsNewAsker c → (pool : PoolId) → buffers_of pool (blk_client_hand c) ≡ length ((blk_sheet scene (blk_client_part c)).hand pool.0)
new_asker_hand scene c new pool =
    let st = asker_balance c nothing_passed new.stands in
    let all = st.balances pool in
    let own = pages_are c.asking.pool.0 0 c.asking.buffers 32768 c.asking.pool pool st.start refl st.is_start.many st.is_start.are_pool.same_pool in
    omega (arith, all, own)
