-- The clients of a switch's ports in their start state: of what they are made, and that they fit
-- the ends that the rows give them.
use Rattle.std.proofs.Common.{◌≡◌, ◌+◌, ◌*◌, ◌<◌, ◌≤◌, ◌^◌, ◌⊎◌, inl, inr, ℕ, zero, suc, Bool, true, Option, Some, None, List, All, length, length-append, map, reverse, slice_get, refl, sym, ap, ap₂, ◌∙◌, subst, arith, lt-ltb}
use Rattle.std.specs.Option.{option_to_list, ForSome}
use Rattle.std.proofs.lemmas.List.{length-map, length-reverse}
use Rattle.cargo_core.specs.Items.{kind_of}
use Rattle.cargo_core.specs.Pages.{Paged}
use Rattle.cargo_core.specs.declared.item.PoolId.{PoolId}
use Rattle.cargo_core.specs.declared.item.QueueKind.TheVariants as Kind
use Rattle.wire_core.specs.declared.names.QueueId.{QueueId}
use Rattle.wire_core.specs.declared.names.QueueRow.{QueueRow}
use Rattle.wire_core.specs.declared.names.Side.TheVariants.{Forward, Backward}
use Rattle.wire_core.specs.Deeds.{Cargo}
use Rattle.wire_core.specs.Ends.{Role, Consumer, Producer, End, waiting_role}
use Rattle.wire_core.specs.Queues.{Queue, starts, start_queue, no_queue, queue_at, end_at, end_of}
use Rattle.wire_core.specs.Journal.{owner_of}
use Rattle.turn_kit.specs.Table.{Agrees, start_state}
use Rattle.turn_kit.specs.Turns.{Post, IsRound}
use Rattle.turn_kit.specs.declared.end_state.EndState.{EndState}
use Rattle.turn_kit.specs.declared.ends.Intake.{Intake}
use Rattle.turn_kit.specs.declared.ends.Outlet.{Outlet}
use Rattle.play_core.specs.Sheets.{IsSeat}
use Rattle.play_core.proofs.Lists.{some_is, there_is, there_below, map_get}
use Rattle.std.proofs.lemmas.Option.{get_or_from_slice_get}
use Rattle.buffer_kit.specs.Pools.{given_entry}
use Rattle.buffer_kit.specs.Stocks.{stock_list, IsStart}
use Rattle.buffer_kit.specs.declared.stock.Stock.{Stock}
use Rattle.client_programs.specs.declared.net.NetClient.{NetClient}
use Rattle.client_programs.specs.declared.net.program.ClientProgram.{ClientProgram}
use Rattle.client_programs.specs.Net.Clients.{FitsClient, client_round, rx_active, rx_free, tx_active, tx_free}
use Rattle.line_text.specs.declared.ports_text.ports.Ports.{Ports}
use Rattle.owner_law.specs.Pools.Places.{PoolAt}
use Rattle.small_system.specs.Meanings.{Own}
use Rattle.switched_law.specs.declared.switch_class.member.Member.TheVariants as Members
use Rattle.switched_law.specs.SwitchClass.Queues.{AreQueues}
use Rattle.switched_law.specs.SwitchClass.Members.{Runs, pool_of, made_of, member_means}
use Rattle.switched_law.specs.SwitchClass.Casting.{CanBeMade, pool_at, rx_pool, tx_pool, program_of, client_made}
use Rattle.switched_law.specs.SwitchClass.Starting.{IsWhole, IsClientOf}
use Rattle.switched_law.specs.SwitchClass.MemberLaws.{own_frames, own_gives, own_sent, own_send}
use Rattle.switched_law.proofs.SwitchClass.Lanes.{Lane, TxActive, TxFree, RxActive, RxFree, offset, role_at, other, client_owns, switch_owns, roles, same_lane, LaneRow, lane_row, row_lane}

-- an end of a queue in its start state
module _ (rows : List QueueRow) (n : ℕ) (row : QueueRow) (at : slice_get rows n ≡ Some row) where
  end_start : (r : Role) → end_at (starts rows) r n ≡ end_of true row.kind (start_queue row).bells r
  end_start r =
      let there : slice_get (starts rows) n ≡ Some (start_queue row) = map_get start_queue rows n row at in
      ap (λ (b : Bool). end_of b (queue_at (starts rows) n).kind (queue_at (starts rows) n).bells r) (lt-ltb n (length (starts rows)) (there_below (starts rows) n (start_queue row) there))
      ∙ ap (λ (q : Queue). end_of true q.kind q.bells r) (get_or_from_slice_get (starts rows) n (start_queue row) no_queue there)

  pub takes_start : (state : EndState) → state ≡ start_state Forward → Agrees (end_at (starts rows) Consumer n) state
  takes_start state is = subst (λ e. Agrees e state) (sym (end_start Consumer)) (subst (Agrees (end_of true row.kind (start_queue row).bells Consumer)) (sym is) (record { owned = refl; waiter = refl; ringer = refl; looked = λ h. cc }))

  pub puts_start : (state : EndState) → state ≡ start_state Backward → Agrees (end_at (starts rows) Producer n) state
  puts_start state is = subst (λ e. Agrees e state) (sym (end_start Producer)) (subst (Agrees (end_of true row.kind (start_queue row).bells Producer)) (sym is) (record { owned = refl; waiter = refl; ringer = refl; looked = λ h. cc }))

  pub kind_start : (r : Role) → row.kind ≡ Kind.Net → (end_at (starts rows) r n).kind ≡ Kind.Net
  kind_start Consumer is = ap (λ (e : End). e.kind) (end_start Consumer) ∙ is
  kind_start Producer is = ap (λ (e : End). e.kind) (end_start Producer) ∙ is

-- the pool of a stock of all buffers of one
module _ (s : Stock) (pool : ℕ) (pages : List Paged) (whole : IsWhole pool pages) (start : IsStart s pages) where
  one : (p : Paged) × (slice_get pages 0 ≡ Some p)
  one = let n : length pages ≡ 4 = whole.many in there_is pages 0 (omega (arith, n))

  pub pool_is : s.base ≡ 0 → pool_of s ≡ pool_at pool
  pool_is base =
      let number : s.pool.0 ≡ pool = ap (λ (p : PoolId). p.0) (sym (start.are_pool.same_pool 0 one.0 one.1) ∙ whole.are_pool.same_pool 0 one.0 one.1) in
      let size : s.size ≡ 2048 = sym (start.are_pool.sized 0 one.0 one.1) ∙ whole.are_pool.sized 0 one.0 one.1 in
      let many : s.buffers ≡ 4 = sym start.many ∙ whole.many in
      ap₂ (λ n b. record { number = n; base = b; buffers = s.buffers; size = s.size }) number base ∙ ap₂ (λ n z. record { number = pool; base = 0; buffers = n; size = z }) many size

-- no more are left than there were
rest_few : (s : Stock) (pages : List Paged) → stock_list s ≡ map (given_entry 0 s.size) pages → length s.rest.items ≤ length pages
rest_few s pages list =
    let all = ap (λ l. length l) list in
    let parts = length-append (option_to_list s.next) (map (given_entry s.base s.size) (reverse s.rest.items)) in
    let rest = length-map (reverse s.rest.items) (given_entry s.base s.size) in
    let turned = length-reverse s.rest.items in
    let pages_ = length-map pages (given_entry 0 s.size) in
    omega (arith, all, parts, rest, turned, pages_)

for_none : (o : Option Cargo) → o ≡ None → ForSome o (λ c. kind_of c.0 ≡ Kind.Net)
for_none o none c some = let e : None ≡ Some c = sym none ∙ some in cc

-- the number of a client's queue
abbrev pub queue_in : NetClient → Lane → ℕ
queue_in c TxActive = tx_active c
queue_in c TxFree = tx_free c
queue_in c RxActive = rx_active c
queue_in c RxFree = rx_free c

-- and the place of its end
abbrev place_in : Lane → ℕ
place_in RxActive = 0
place_in RxFree = 1
place_in TxFree = 2
place_in TxActive = 3

-- an end is that of a lane
pub record ClientPost (c : NetClient) (place : ℕ) (p : Post) : Type 0 where
  pub lane : Lane
  pub place_is : place ≡ place_in lane
  pub queue : p.queue ≡ queue_in c lane
  pub role : waiting_role p.side ≡ role_at lane

client_post : (c : NetClient) (place : ℕ) (p : Post) → slice_get (client_round c).posts place ≡ Some p → ClientPost c place p
client_post c zero p at = let e = some_is at in record { lane = RxActive; place_is = refl; queue = ap (λ (o : Post). o.queue) (sym e); role = ap (λ (o : Post). waiting_role o.side) (sym e) }
client_post c (suc zero) p at = let e = some_is at in record { lane = RxFree; place_is = refl; queue = ap (λ (o : Post). o.queue) (sym e); role = ap (λ (o : Post). waiting_role o.side) (sym e) }
client_post c (suc (suc zero)) p at = let e = some_is at in record { lane = TxFree; place_is = refl; queue = ap (λ (o : Post). o.queue) (sym e); role = ap (λ (o : Post). waiting_role o.side) (sym e) }
client_post c (suc (suc (suc zero))) p at = let e = some_is at in record { lane = TxActive; place_is = refl; queue = ap (λ (o : Post). o.queue) (sym e); role = ap (λ (o : Post). waiting_role o.side) (sym e) }
client_post c (suc (suc (suc (suc k)))) p at = cc

own_lane : (c : NetClient) (l : Lane) (r : Role) (n : ℕ) → r ≡ role_at l → n ≡ queue_in c l → Own member_means (Members.Client c) r n
own_lane c TxActive r n e q = own_send c r n e q
own_lane c TxFree r n e q = own_sent c r n e q
own_lane c RxActive r n e q = own_frames c r n e q
own_lane c RxFree r n e q = own_gives c r n e q

-- a client of which the queues are those of its port
module _ (c : NetClient) (port : ℕ) (queues : (l : Lane) → queue_in c l ≡ 4 * port + offset l) where
  pub client_is_round : IsRound (client_round c)
  client_is_round = record {
    some = omega arith;
    needs = refl;
    apart = λ k j p q a b e.
        let x = client_post c k p a in
        let y = client_post c j q b in
        let same = same_lane port port x.lane y.lane (sym (queues x.lane) ∙ (sym x.queue ∙ (e ∙ (y.queue ∙ queues y.lane)))) in
        x.place_is ∙ (ap place_in same.1 ∙ sym y.place_is);
  }

  module _ (ports : ℕ) (rows : List QueueRow) (q : AreQueues ports rows) (below : port < ports) where
    pub client_given : (r : Role) (n : ℕ) → Own member_means (Members.Client c) r n → IsSeat rows port (record { queue = n; role = r })
    client_given r n o =
        let x = client_post c o.place o.post o.there in
        let g = lane_row ports rows q x.lane port below in
        let number : 4 * port + offset x.lane ≡ n = sym (queues x.lane) ∙ (sym x.queue ∙ o.queue) in
        let role : role_at x.lane ≡ r = sym x.role ∙ o.role in
        subst (λ s. IsSeat rows port (record { queue = n; role = s })) role (subst (λ m. IsSeat rows port (record { queue = m; role = role_at x.lane })) number (g.row, g.at, client_owns x.lane port ports g.row g.is))

    pub client_all : (r : Role) (n : ℕ) → IsSeat rows port (record { queue = n; role = r }) → Own member_means (Members.Client c) r n
    client_all r n s = by (row_lane ports rows q n s.0 s.1)
      where
        by : LaneRow ports n s.0 → Own member_means (Members.Client c) r n
        by x = have (roles x.in_lane.lane r)
          where
            have : (r ≡ role_at x.in_lane.lane) ⊎ (r ≡ other (role_at x.in_lane.lane)) → Own member_means (Members.Client c) r n
            have (inl its) =
                let owns : owner_of s.0 (role_at x.in_lane.lane) ≡ x.in_lane.port = client_owns x.in_lane.lane x.in_lane.port ports s.0 x.is in
                let port_is : x.in_lane.port ≡ port = sym owns ∙ (ap (owner_of s.0) (sym its) ∙ s.2) in
                own_lane c x.in_lane.lane r n its (x.in_lane.is ∙ (ap (λ k. 4 * k + offset x.in_lane.lane) port_is ∙ sym (queues x.in_lane.lane)))
            have (inr others) =
                let owns : owner_of s.0 (other (role_at x.in_lane.lane)) ≡ ports = switch_owns x.in_lane.lane x.in_lane.port ports s.0 x.is in
                let no : ports ≡ port = sym owns ∙ (ap (owner_of s.0) (sym others) ∙ s.2) in
                absurd (omega (arith, no, below))

module _ (ports : Ports) (can : CanBeMade ports) (port : ℕ) (c : NetClient) (of : IsClientOf ports port c) where
  pub client_queues : (l : Lane) → queue_in c l ≡ 4 * port + offset l
  client_queues TxActive = ap (λ (o : Outlet). o.queue.0) of.new.send
  client_queues TxFree = ap (λ (o : Intake). o.queue.0) of.new.sent
  client_queues RxActive = ap (λ (q : QueueId). q.0) of.new.frames.input
  client_queues RxFree = ap (λ (q : QueueId). q.0) of.new.frames.output

  pub client_is_made : made_of (Members.Client c) ≡ client_made port of.mac of.frames
  client_is_made =
      let zero_more : 4 * port + 0 ≡ 4 * port = omega arith in
      let rx : pool_of c.stock ≡ rx_pool port = pool_is c.stock (2 * port) of.pages of.rx of.new.is_start of.new.base in
      let tx : pool_of c.outbox.stock ≡ tx_pool port = pool_is c.outbox.stock (2 * port + 1) of.spare of.tx of.new.outbox.is_start of.new.outbox.base in
      ap₂ (λ a b. Runs a b (tx_active c) (tx_free c) c.program (pool_of c.stock) (pool_of c.outbox.stock)) (client_queues RxActive) (client_queues RxFree)
      ∙ (ap₂ (λ a b. Runs (4 * port + 2) (4 * port + 3) a b c.program (pool_of c.stock) (pool_of c.outbox.stock)) (client_queues TxActive ∙ zero_more) (client_queues TxFree)
      ∙ (ap (λ (p : ClientProgram). Runs (4 * port + 2) (4 * port + 3) (4 * port) (4 * port + 1) p (pool_of c.stock) (pool_of c.outbox.stock)) of.new.program_is
      ∙ ap₂ (λ (p q : PoolAt). Runs (4 * port + 2) (4 * port + 3) (4 * port) (4 * port + 1) (program_of of.mac of.frames) p q) rx tx))

  module _ (count : ℕ) (rows : List QueueRow) (q : AreQueues count rows) (below : port < count) where
    takes : (l : Lane) (state : EndState) → state ≡ start_state Forward → Agrees (end_at (starts rows) Consumer (queue_in c l)) state
    takes l state is = let g = lane_row count rows q l port below in subst (λ n. Agrees (end_at (starts rows) Consumer n) state) (sym (client_queues l)) (takes_start rows (4 * port + offset l) g.row g.at state is)

    puts : (l : Lane) (state : EndState) → state ≡ start_state Backward → Agrees (end_at (starts rows) Producer (queue_in c l)) state
    puts l state is = let g = lane_row count rows q l port below in subst (λ n. Agrees (end_at (starts rows) Producer n) state) (sym (client_queues l)) (puts_start rows (4 * port + offset l) g.row g.at state is)

    kind : (l : Lane) (r : Role) → (end_at (starts rows) r (queue_in c l)).kind ≡ Kind.Net
    kind l r = let g = lane_row count rows q l port below in subst (λ n. (end_at (starts rows) r n).kind ≡ Kind.Net) (sym (client_queues l)) (kind_start rows (4 * port + offset l) g.row g.at r g.is.kind)

    apart : (l m : Lane) → queue_in c l ≡ queue_in c m → l ≡ m
    apart l m e = (same_lane port port l m (sym (client_queues l) ∙ (e ∙ client_queues m))).1

    pub client_fits : FitsClient (end_at (starts rows)) c
    client_fits = record {
      frames = record {
        input = takes RxActive c.frames.pipe.input.state of.new.frames.input_state;
        output = puts RxFree c.frames.pipe.output.state of.new.frames.output_state;
        kinds = kind RxActive Consumer ∙ sym (kind RxFree Producer);
        load = λ x some. let e : None ≡ Some x = sym of.new.frames.load ∙ some in cc;
      };
      sent = takes TxFree c.sent.state (ap (λ (x : Intake). x.state) of.new.sent);
      send = puts TxActive c.send.state (ap (λ (x : Outlet). x.state) of.new.send);
      gives = kind RxFree Producer;
      comes_back = kind TxFree Consumer;
      sends = kind TxActive Producer;
      inputs_apart = λ e. let no : RxActive ≡ TxFree = apart RxActive TxFree e in cc;
      outputs_apart = λ e. let no : RxFree ≡ TxActive = apart RxFree TxActive e in cc;
      stock = of.new.ready;
      outbox = record {
        stock = of.new.outbox.ready;
        load = for_none c.outbox.load of.new.outbox.load;
        next = let next = of.new.outbox.next in omega (arith, next);
      };
      script = subst (λ (p : ClientProgram). All (λ frame. length frame < 2 ^ 16) p.script) (sym of.new.program_is) (can.short port of.frames of.sends);
      record_ = subst (λ fs. All (λ frame. length frame < 2 ^ 16) fs) (sym of.new.got) (λ k d lt. absurd (omega (arith, lt)));
      few =
          let a = rest_few c.stock of.pages of.new.stock in
          let b = rest_few c.outbox.stock of.spare of.new.outbox.stock in
          let x : length of.pages ≡ 4 = of.rx.many in
          let y : length of.spare ≡ 4 = of.tx.many in
          omega (arith, a, b, x, y);
    }
