use Rattle.std.proofs.Common.{is_some, ◌≡◌, ◌==◌, ◌<◌, ℕ, Bool, true, false, if◌then◌else◌, Some, None, List, [], ◌∷◌, length, map, slice_get, refl, sym, ap, ◌∙◌, subst, arith, zero, suc, inl, inr}
use Rattle.std.specs.Option.{option_to_list}
use Rattle.std.proofs.lemmas.List.{length-map}
use Rattle.std.proofs.lemmas.Bool.{lt-ltb}
use Rattle.cargo_core.specs.Lists.{Merge, merge_none}
use Rattle.cargo_core.specs.declared.item.QueueKind.{QueueKind}
use Rattle.cargo_core.specs.declared.item.QueueKind.TheVariants as Kind
use Rattle.wire_core.specs.declared.names.QueueId.{QueueId}
use Rattle.wire_core.specs.declared.names.QueueRow.{QueueRow}
use Rattle.wire_core.specs.declared.names.Side.TheVariants.{Forward, Backward}
use Rattle.wire_core.specs.declared.names.Waiter.TheVariants as Wait
use Rattle.wire_core.specs.declared.names.Ringer.TheVariants as Rung
use Rattle.wire_core.specs.Deeds.{Cargo}
use Rattle.wire_core.specs.Ends.{Role, Consumer, Producer, End}
use Rattle.wire_core.specs.Lists.{nothing_passed}
use Rattle.wire_core.specs.Queues.{starts, start_queue, start_bells, queue_at, end_at, end_of}
use Rattle.turn_kit.specs.Table.{Agrees, start_state}
use Rattle.turn_kit.specs.declared.end_state.EndState.{EndState}
use Rattle.turn_kit.specs.declared.ends.Intake.{Intake}
use Rattle.turn_kit.specs.declared.ends.Outlet.{Outlet}
use Rattle.turn_kit.specs.ManyEnds.{intake_queues, outlet_queues}
use Rattle.turn_kit.specs.Pipes.{FitsPipe, PipeStandsFor, IsNewPipe}
use Rattle.turn_kit.specs.declared.pipe.Pipe.{Pipe}
use Rattle.device_model.specs.SerialTerminal.Terminals.{FitsTerminal, TerminalStandsFor, IsNewTerminal}
use Rattle.device_model.specs.declared.serial_terminal.Terminal.{Terminal}
use Rattle.serial_virt.specs.Receiving.{FitsRx, new_outlet, owed_to}
use Rattle.serial_virt.specs.declared.rx.SerialVirtRx.{SerialVirtRx}
use Rattle.serial_virt.specs.Sending.{FitsTx, IsNewTx, new_intake}
use Rattle.serial_virt.specs.declared.tx.SerialVirtTx.{SerialVirtTx}
use Rattle.cargo_core.specs.declared.item.PoolId.{PoolId}
use Rattle.cargo_core.specs.Bodies.{buffers_of}
use Rattle.play_core.specs.Sheets.{Scene}
use Rattle.actor_set.specs.Actors.{FitsActor, ActorStandsFor, ActorEnd, IsWhole, actor_hand, part_anew, part_of}
use Rattle.actor_set.specs.Laws.Kinds.{sheet}
use Rattle.actor_set.specs.declared.actor.Actor.{Actor}
use Rattle.actor_set.specs.declared.actor.Actor.TheVariants as Kinds
use Rattle.actor_set.specs.StartStates.{IsNew, IsNewSharer, HasApartEnds, HasSeat, kind_at}
use Rattle.eth_driver.specs.Four.{four_pipes}
use Rattle.actor_set.proofs.LawsLemmas.NetStarts.{Seated, new_pipes_fit, new_device_fits, new_copier_fits, new_client_fits, new_receiver_fits, new_receiver_whole, new_client_few, new_copier_work, new_pipes_stand, new_device_stands, new_copier_stands, new_client_stands, new_receiver_hand, new_client_hand}
use Rattle.actor_set.proofs.LawsLemmas.TxStarts.{new_sender_fits, new_sender_whole, new_sender_hand}
use Rattle.client_programs.specs.Rogue.Clients.{FitsEnd}
use Rattle.client_programs.proofs.RogueLemmas.Following.{starts_stand}
use Rattle.actor_set.proofs.RogueLemmas.Ends.{new_rogue_anew, new_rogue_fits, new_rogue_hand}
use Rattle.actor_set.proofs.LawsLemmas.BlkStarts.{Carried, new_disk_fits, new_blk_driver_fits, new_server_fits, new_asker_fits, new_server_whole, new_disk_stands, new_server_hand, new_asker_hand}
use Rattle.play_core.proofs.Lists.{there_below, some_is, map_get, map_from}

abbrev start_end : QueueKind → Role → End
start_end kind Consumer = record { owned = true; kind = kind; waiter = Wait.Busy; ringer = Rung.Free; looked = false }
start_end kind Producer = record { owned = true; kind = kind; waiter = Wait.Off; ringer = Rung.Free; looked = false }

queue_starts : (rows : List QueueRow) (n : ℕ) (row : QueueRow) → slice_get rows n ≡ Some row → queue_at (starts rows) n ≡ start_queue row
queue_starts [] n row h = cc
queue_starts (a ∷ rows) zero row h = ap start_queue (some_is h)
queue_starts (a ∷ rows) (suc n) row h = queue_starts rows n row h

end_is : (kind : QueueKind) (r : Role) → end_of true kind start_bells r ≡ start_end kind r
end_is kind Consumer = refl
end_is kind Producer = refl

module _ (rows : List QueueRow) (k : ℕ) where
  abbrev ends : Role → ℕ → End
  ends = end_at (starts rows)

  seat_end : (kind : QueueKind) (r : Role) (n : ℕ) → HasSeat rows kind k r n → ends r n ≡ start_end kind r
  seat_end kind r n s =
      let lt : n < length (starts rows) = subst (λ m. n < m) (sym (length-map rows start_queue)) (there_below rows n s.row s.there) in
      ap (λ b. end_of b (queue_at (starts rows) n).kind (queue_at (starts rows) n).bells r) (lt-ltb n (length (starts rows)) lt)
      ∙ (ap (λ q. end_of true q.kind q.bells r) (queue_starts rows n s.row s.there)
      ∙ (ap (λ x. end_of true x start_bells r) s.carries ∙ end_is kind r))

  agrees_in : (kind : QueueKind) (n : ℕ) (state : EndState) → HasSeat rows kind k Consumer n → state ≡ start_state Forward → Agrees (ends Consumer n) state
  agrees_in kind n state s e = subst (λ x. Agrees x state) (sym (seat_end kind Consumer n s)) (subst (Agrees (start_end kind Consumer)) (sym e) (record { owned = refl; waiter = refl; ringer = refl; looked = λ h. cc }))

  agrees_out : (kind : QueueKind) (n : ℕ) (state : EndState) → HasSeat rows kind k Producer n → state ≡ start_state Backward → Agrees (ends Producer n) state
  agrees_out kind n state s e = subst (λ x. Agrees x state) (sym (seat_end kind Producer n s)) (subst (Agrees (start_end kind Producer)) (sym e) (record { owned = refl; waiter = refl; ringer = refl; looked = λ h. cc }))

  carried : (kind : QueueKind) (r : Role) (n : ℕ) → HasSeat rows kind k r n → (ends r n).kind ≡ kind
  carried kind r n s = ap (λ x. x.kind) (seat_end kind r n s) ∙ by r
    where
      by : (r : Role) → (start_end kind r).kind ≡ kind
      by Consumer = refl
      by Producer = refl

  consumer_agrees : (n : ℕ) (state : EndState) → HasSeat rows Kind.Byte k Consumer n → state ≡ start_state Forward → Agrees (ends Consumer n) state
  consumer_agrees = agrees_in Kind.Byte

  producer_agrees : (n : ℕ) (state : EndState) → HasSeat rows Kind.Byte k Producer n → state ≡ start_state Backward → Agrees (ends Producer n) state
  producer_agrees = agrees_out Kind.Byte

  consumer_kind : (n : ℕ) → HasSeat rows Kind.Byte k Consumer n → (ends Consumer n).kind ≡ Kind.Byte
  consumer_kind = carried Kind.Byte Consumer

  producer_kind : (n : ℕ) → HasSeat rows Kind.Byte k Producer n → (ends Producer n).kind ≡ Kind.Byte
  producer_kind = carried Kind.Byte Producer

  -- the seats of an actor of the network
  net_seats : (E : Role → ℕ → Type 0) → ((r : Role) (n : ℕ) → E r n → HasSeat rows Kind.Net k r n) → Seated ends E
  net_seats E seats = record {
    inputs = λ n state own e. agrees_in Kind.Net n state (seats Consumer n own) e;
    outputs = λ n state own e. agrees_out Kind.Net n state (seats Producer n own) e;
    carries = λ r n own. carried Kind.Net r n (seats r n own);
  }

  -- the seats of an actor, each of its own kind
  carried_seats : (kind : Role → ℕ → QueueKind) (E : Role → ℕ → Type 0) → ((r : Role) (n : ℕ) → E r n → HasSeat rows (kind r n) k r n) → Carried ends kind E
  carried_seats kind E seats = record {
    inputs = λ n state own e. agrees_in (kind Consumer n) n state (seats Consumer n own) e;
    outputs = λ n state own e. agrees_out (kind Producer n) n state (seats Producer n own) e;
    carries = λ r n own. carried (kind r n) r n (seats r n own);
  }

  terminal_fits : (t : Terminal) → IsNewTerminal t.input.queue t.output.queue t.script t → HasSeat rows Kind.Byte k Consumer t.input.queue.0 → HasSeat rows Kind.Byte k Producer t.output.queue.0 → FitsTerminal ends t
  terminal_fits t new i o = record {
    input = consumer_agrees t.input.queue.0 t.input.state i new.input_state;
    output = producer_agrees t.output.queue.0 t.output.state o new.output_state;
    hears = consumer_kind t.input.queue.0 i;
    says = producer_kind t.output.queue.0 o;
    next = rw new.next (omega arith);
  }

  pipe_fits : (p : Pipe) → IsNewPipe p.input.queue p.output.queue p → HasSeat rows Kind.Byte k Consumer p.input.queue.0 → HasSeat rows Kind.Byte k Producer p.output.queue.0 → FitsPipe ends p
  pipe_fits p new i o = record {
    input = consumer_agrees p.input.queue.0 p.input.state i new.input_state;
    output = producer_agrees p.output.queue.0 p.output.state o new.output_state;
    kinds = consumer_kind p.input.queue.0 i ∙ sym (producer_kind p.output.queue.0 o);
    load = λ c h. let no : None ≡ Some c = sym new.load ∙ h in cc;
  }

  rx_fits : (v : SerialVirtRx) → IsNewSharer v → HasApartEnds (Kinds.SerialVirtRx v) → ((r : Role) (n : ℕ) → ActorEnd (Kinds.SerialVirtRx v) r n → HasSeat rows Kind.Byte k r n) → FitsRx ends v
  rx_fits v new apart seats = record {
    input = consumer_agrees v.input.queue.0 v.input.state (seats Consumer v.input.queue.0 refl) new.new.input_state;
    outputs = record {
      agrees = λ j i at. producer_agrees i.queue.0 i.state (seats Producer i.queue.0 (j, i.queue, map_get (λ (o : Outlet). o.queue) v.outputs.ends.items j i at, refl)) (let m = map_from new_outlet (outlet_queues v.outputs) j i (sym (ap (λ os. slice_get os j) new.new.outputs) ∙ at) in ap (λ (o : Outlet). o.state) (sym m.2));
      apart = apart;
    };
    hears = consumer_kind v.input.queue.0 (seats Consumer v.input.queue.0 refl);
    says = λ j q at. producer_kind q.0 (seats Producer q.0 (j, q, at, refl));
    load = λ c h. let no : None ≡ Some c = sym new.new.load ∙ h in cc;
    policies = new.policies;
  }

  tx_fits : (v : SerialVirtTx) → IsNewTx v.output.queue (intake_queues v.inputs) v → HasApartEnds (Kinds.SerialVirtTx v) → ((r : Role) (n : ℕ) → ActorEnd (Kinds.SerialVirtTx v) r n → HasSeat rows Kind.Byte k r n) → FitsTx ends v
  tx_fits v new apart seats = record {
    inputs = record {
      agrees = λ j i at. consumer_agrees i.queue.0 i.state (seats Consumer i.queue.0 (j, i.queue, map_get (λ (o : Intake). o.queue) v.inputs.ends.items j i at, refl)) (let m = map_from new_intake (intake_queues v.inputs) j i (sym (ap (λ os. slice_get os j) new.inputs) ∙ at) in ap (λ (o : Intake). o.state) (sym m.2));
      apart = apart;
    };
    output = producer_agrees v.output.queue.0 v.output.state (seats Producer v.output.queue.0 refl) new.output_state;
    hears = λ j q at. consumer_kind q.0 (seats Consumer q.0 (j, q, at, refl));
    says = producer_kind v.output.queue.0 (seats Producer v.output.queue.0 refl);
    load = λ c h. let no : None ≡ Some c = sym new.load ∙ h in cc;
  }

  -- an actor in its start state fits its ends
  pub new_fits : (x : Actor) → IsNew x → HasApartEnds x → ((r : Role) (n : ℕ) → ActorEnd x r n → HasSeat rows (kind_at x r n) k r n) → FitsActor ends x
  new_fits (Kinds.UartDevice x) new apart seats = terminal_fits x.terminal new (seats Consumer x.terminal.input.queue.0 refl) (seats Producer x.terminal.output.queue.0 refl)
  new_fits (Kinds.SerialClient x) new apart seats = terminal_fits x.terminal new (seats Consumer x.terminal.input.queue.0 refl) (seats Producer x.terminal.output.queue.0 refl)
  new_fits (Kinds.UartDriver x) new apart seats = record {
    each = (
      pipe_fits x.driver.pipes.first new.0 (seats Consumer x.driver.pipes.first.input.queue.0 (inl refl)) (seats Producer x.driver.pipes.first.output.queue.0 (inl refl)),
      (pipe_fits x.driver.pipes.rest new.1 (seats Consumer x.driver.pipes.rest.input.queue.0 (inr (inl refl))) (seats Producer x.driver.pipes.rest.output.queue.0 (inr (inl refl))), tt),
    );
    inputs = ((apart.0, tt), (tt, tt));
    outputs = ((apart.1, tt), (tt, tt));
  }
  new_fits (Kinds.SerialVirtRx x) new apart seats = rx_fits x new apart seats
  new_fits (Kinds.SerialVirtTx x) new apart seats = tx_fits x new apart seats
  new_fits (Kinds.EthDevice x) new apart seats = (new_device_fits ends x new apart.0 apart.1 (net_seats (ActorEnd (Kinds.EthDevice x)) seats), new.new.drop)
  new_fits (Kinds.EthDriver x) new apart seats = new_pipes_fit ends (four_pipes x.driver.pipes) new apart.0 apart.1 (net_seats (ActorEnd (Kinds.EthDriver x)) seats)
  new_fits (Kinds.NetVirtRx x) new apart seats = new_receiver_fits ends x new (new_receiver_whole x new) apart (net_seats (ActorEnd (Kinds.NetVirtRx x)) seats)
  new_fits (Kinds.NetCopier x) new apart seats = new_copier_fits ends x new apart.0 apart.1 (new_copier_work x new) (net_seats (ActorEnd (Kinds.NetCopier x)) seats)
  new_fits (Kinds.NetClient x) new apart seats = (new_client_fits ends x new (new_client_few x new) apart.0 apart.1 (net_seats (ActorEnd (Kinds.NetClient x)) seats), record { base = new.new.base; spare_base = new.new.outbox.base })
  new_fits (Kinds.NetVirtTx x) new apart seats = new_sender_fits ends x new (new_sender_whole x new) apart (net_seats (ActorEnd (Kinds.NetVirtTx x)) seats)
  new_fits (Kinds.DiskDevice x) new apart seats = new_disk_fits ends x.start.value x.device new (carried_seats (kind_at (Kinds.DiskDevice x)) (ActorEnd (Kinds.DiskDevice x)) seats)
  new_fits (Kinds.BlkDriver x) new apart seats = new_blk_driver_fits ends x new.0 new.1 apart.0 apart.1 (carried_seats (kind_at (Kinds.BlkDriver x)) (ActorEnd (Kinds.BlkDriver x)) seats)
  new_fits (Kinds.BlkVirt x) new apart seats = (new_server_fits ends x new (new_server_whole x new) apart (carried_seats (kind_at (Kinds.BlkVirt x)) (ActorEnd (Kinds.BlkVirt x)) seats), new.few, new.first)
  new_fits (Kinds.BlkClient x) new apart seats = new_asker_fits ends x new (carried_seats (kind_at (Kinds.BlkClient x)) (ActorEnd (Kinds.BlkClient x)) seats)
  new_fits (Kinds.Rogue x) new apart seats = new_rogue_fits ends x new (λ n own. let s = seat_end (kind_at (Kinds.Rogue x) Consumer n) Consumer n (seats Consumer n own) in subst FitsEnd (sym s) (record { owned = refl; waiter = refl; ringer = refl })) (λ n own. let s = seat_end (kind_at (Kinds.Rogue x) Producer n) Producer n (seats Producer n own) in (subst FitsEnd (sym s) (record { owned = refl; waiter = refl; ringer = refl }), ap (λ (e : End). e.kind) s))

terminal_stands : (t : Terminal) → IsNewTerminal t.input.queue t.output.queue t.script t → TerminalStandsFor t nothing_passed
terminal_stands t new = record { sent_is = rw new.next refl; record_is = new.recorded }

pipe_stands : (p : Pipe) → IsNewPipe p.input.queue p.output.queue p → PipeStandsFor p nothing_passed
pipe_stands p new = ap option_to_list (sym new.load)

nothing_owed : (b : Bool) (c : List Cargo) → c ≡ [] → (if b then c else []) ≡ []
nothing_owed true c h = h
nothing_owed false c h = refl

none_taken : (qs : List QueueId) (k : ℕ) (l : List Cargo) → slice_get (map (λ (q : QueueId). []) qs) k ≡ Some l → l ≡ []
none_taken [] k l h = cc
none_taken (q ∷ qs) zero l h = sym (some_is h)
none_taken (q ∷ qs) (suc k) l h = none_taken qs k l h

-- it stands for nothing
pub new_stands : (x : Actor) → IsNew x → ActorStandsFor x nothing_passed
new_stands (Kinds.UartDevice x) new = terminal_stands x.terminal new
new_stands (Kinds.SerialClient x) new = terminal_stands x.terminal new
new_stands (Kinds.UartDriver x) new = (pipe_stands x.driver.pipes.first new.0, (pipe_stands x.driver.pipes.rest new.1, tt))
new_stands (Kinds.SerialVirtRx x) new = record {
  switched = new.new.switched;
  to = λ some. let no : true ≡ false = sym some ∙ ap is_some new.new.load in cc;
  told = λ k drops. refl;
  clients = λ k q at.
      let none : owed_to x.load x.to k ≡ [] = nothing_owed (x.to == k) (option_to_list x.load) (ap option_to_list new.new.load) in
      record { given = none; tells = λ drops. record { came = refl; waits = sym (ap length none); each = refl } };
}
new_stands (Kinds.SerialVirtTx x) new = subst (λ o. Merge (map (λ (q : QueueId). []) (intake_queues x.inputs)) (option_to_list o)) (sym new.load) (merge_none (map (λ (q : QueueId). []) (intake_queues x.inputs)) (none_taken (intake_queues x.inputs)))
new_stands (Kinds.EthDevice x) new = new_device_stands x new
new_stands (Kinds.EthDriver x) new = new_pipes_stand (four_pipes x.driver.pipes) new
new_stands (Kinds.NetVirtRx x) new = new.stands
new_stands (Kinds.NetCopier x) new = new_copier_stands x new
new_stands (Kinds.NetClient x) new = new_client_stands x new
new_stands (Kinds.NetVirtTx x) new = new.stands
new_stands (Kinds.DiskDevice x) new = new_disk_stands x.start.value x.device new
new_stands (Kinds.BlkDriver x) new = (pipe_stands x.driver.pipes.first new.0, (pipe_stands x.driver.pipes.rest new.1, tt))
new_stands (Kinds.BlkVirt x) new = new.stands
new_stands (Kinds.BlkClient x) new = new.stands
new_stands (Kinds.Rogue x) new = starts_stand x new.keeps

-- what it keeps fits together
pub new_whole : (x : Actor) → IsNew x → IsWhole x
new_whole (Kinds.UartDevice x) new = tt
new_whole (Kinds.SerialClient x) new = tt
new_whole (Kinds.UartDriver x) new = tt
new_whole (Kinds.SerialVirtRx x) new = tt
new_whole (Kinds.SerialVirtTx x) new = tt
new_whole (Kinds.EthDevice x) new = new.new.drop
new_whole (Kinds.EthDriver x) new = tt
new_whole (Kinds.NetVirtRx x) new = new_receiver_whole x new
new_whole (Kinds.NetCopier x) new = tt
new_whole (Kinds.NetClient x) new = new_client_few x new
new_whole (Kinds.NetVirtTx x) new = new_sender_whole x new
new_whole (Kinds.DiskDevice x) new = tt
new_whole (Kinds.BlkDriver x) new = tt
new_whole (Kinds.BlkVirt x) new = new_server_whole x new
new_whole (Kinds.BlkClient x) new = new.asking
new_whole (Kinds.Rogue x) new = new.is

-- and what fits its ends does
pub fits_whole : (ends : Role → ℕ → End) (x : Actor) → FitsActor ends x → IsWhole x
fits_whole ends (Kinds.UartDevice x) f = tt
fits_whole ends (Kinds.SerialClient x) f = tt
fits_whole ends (Kinds.UartDriver x) f = tt
fits_whole ends (Kinds.SerialVirtRx x) f = tt
fits_whole ends (Kinds.SerialVirtTx x) f = tt
fits_whole ends (Kinds.EthDevice x) f = f.1
fits_whole ends (Kinds.EthDriver x) f = tt
fits_whole ends (Kinds.NetVirtRx x) f = record { work = f.work; from_each = f.from_each; to_each = f.to_each }
fits_whole ends (Kinds.NetCopier x) f = tt
fits_whole ends (Kinds.NetClient x) f = f.0.few
fits_whole ends (Kinds.NetVirtTx x) f = record { work = f.work; from_each = f.from_each; to_each = f.to_each }
fits_whole ends (Kinds.DiskDevice x) f = tt
fits_whole ends (Kinds.BlkDriver x) f = tt
fits_whole ends (Kinds.BlkVirt x) f = record { few = f.1; first = f.2; from_each = f.0.from_each; to_each = f.0.to_each }
fits_whole ends (Kinds.BlkClient x) f = f.asking
fits_whole ends (Kinds.Rogue x) f = f.is

-- its hand is the start hand of its sheet
pub new_hand : (scene : Scene) (x : Actor) → IsNew x → (pool : PoolId) → buffers_of pool (actor_hand x) ≡ length ((sheet scene (part_of x)).hand pool.0)
new_hand scene (Kinds.UartDevice x) new pool = refl
new_hand scene (Kinds.SerialClient x) new pool = refl
new_hand scene (Kinds.UartDriver x) new pool = rw (new.0.load, new.1.load) refl
new_hand scene (Kinds.SerialVirtRx x) new pool = rw new.new.load refl
new_hand scene (Kinds.SerialVirtTx x) new pool = rw new.load refl
new_hand scene (Kinds.EthDevice x) new pool = rw (new.new.load, new.new.wire.load) refl
new_hand scene (Kinds.EthDriver x) new pool = rw (new.0.load, new.1.0.load, new.1.1.0.load, new.1.1.1.0.load) refl
new_hand scene (Kinds.NetVirtRx x) new pool = new_receiver_hand scene x new pool
new_hand scene (Kinds.NetCopier x) new pool = rw (new.lease, new.buffer) refl
new_hand scene (Kinds.NetClient x) new pool = new_client_hand scene x new pool
new_hand scene (Kinds.NetVirtTx x) new pool = new_sender_hand x new pool
new_hand scene (Kinds.DiskDevice x) new pool = rw (new.load, new.stray) refl
new_hand scene (Kinds.BlkDriver x) new pool = rw (new.0.load, new.1.load) refl
new_hand scene (Kinds.BlkVirt x) new pool = new_server_hand scene x new pool
new_hand scene (Kinds.BlkClient x) new pool = new_asker_hand scene x new pool
new_hand scene (Kinds.Rogue x) new pool = new_rogue_hand x new pool

-- and nothing to forget
pub new_anew : (x : Actor) → IsNew x → part_anew x ≡ part_of x
new_anew (Kinds.UartDevice x) new = refl
new_anew (Kinds.UartDriver x) new = refl
new_anew (Kinds.SerialVirtRx x) new = refl
new_anew (Kinds.SerialVirtTx x) new = refl
new_anew (Kinds.SerialClient x) new = refl
new_anew (Kinds.EthDevice x) new = refl
new_anew (Kinds.EthDriver x) new = refl
new_anew (Kinds.NetVirtRx x) new = refl
new_anew (Kinds.NetCopier x) new = refl
new_anew (Kinds.NetClient x) new = refl
new_anew (Kinds.NetVirtTx x) new = refl
new_anew (Kinds.DiskDevice x) new = refl
new_anew (Kinds.BlkDriver x) new = refl
new_anew (Kinds.BlkVirt x) new = refl
new_anew (Kinds.BlkClient x) new = refl
new_anew (Kinds.Rogue x) new = new_rogue_anew x new
