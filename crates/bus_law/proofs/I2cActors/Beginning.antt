-- The actors of a bus in their start state may begin, at the queues of a bus.
use Rattle.std.proofs.Common.{◌≡◌, ◌+◌, ◌*◌, ◌<◌, ◌⊎◌, inl, inr, ℕ, zero, suc, true, Option, Some, None, List, [], ◌∷◌, length, length-append, slice_get, refl, sym, ap, ◌∙◌, subst, arith}
use Rattle.std.specs.Option.{ForSome}
use Rattle.std.proofs.lemmas.Bool.{lt-ltb}
use Rattle.std.proofs.lemmas.List.{length-map}
use Rattle.std.proofs.lemmas.Option.{get_or_from_slice_get, slice_get-get_or}
use Rattle.cargo_core.specs.declared.item.QueueKind.TheVariants as Kind
use Rattle.cargo_core.specs.Items.{kind_of}
use Rattle.wire_core.specs.declared.names.QueueId.{QueueId}
use Rattle.wire_core.specs.declared.names.QueueRow.{QueueRow}
use Rattle.wire_core.specs.declared.names.Side.TheVariants.{Forward, Backward}
use Rattle.wire_core.specs.Deeds.{Cargo}
use Rattle.wire_core.specs.Ends.{Role, Consumer, Producer, End, waiting_role}
use Rattle.wire_core.specs.Lists.{nothing_passed}
use Rattle.wire_core.specs.Queues.{Queue, starts, end_at, end_of, queue_at, no_queue, start_queue, start_bells}
use Rattle.turn_kit.specs.declared.end_state.EndState.{EndState}
use Rattle.turn_kit.specs.declared.ends.Intake.{Intake}
use Rattle.turn_kit.specs.declared.ends.Outlet.{Outlet}
use Rattle.turn_kit.specs.declared.pipe.Pipe.{Pipe}
use Rattle.turn_kit.specs.Table.{Agrees, start_state}
use Rattle.turn_kit.specs.Turns.{Post, IsRound}
use Rattle.turn_kit.specs.Posts.{intake_post, outlet_post}
use Rattle.turn_kit.specs.Pipes.{FitsPipe, IsNewPipe}
use Rattle.turn_kit.specs.ManyEnds.{AreApart, intake_posts, outlet_posts, needs_from}
use Rattle.buffer_kit.specs.Virtualising.{from_queues, to_queues, new_intake, new_outlet, virt_posts}
use Rattle.buffer_kit.proofs.TwoLists.{get_front, get_behind, needs_length}
use Rattle.pipe_driver.specs.Drivers.{FitsPipes}
use Rattle.play_core.specs.Sheets.{IsSeat}
use Rattle.play_core.proofs.Lists.{some_is, map_get, map_from, there_below}
use Rattle.small_system.specs.Meanings.{Own}
use Rattle.small_system.specs.Standing.{Begins}
use Rattle.i2c_text.specs.declared.bus.Bus.{Bus}
use Rattle.i2c_text.specs.declared.bus.BusAsk.{BusAsk}
use Rattle.i2c_virt.specs.declared.i2c_client.client.BusClient.{BusClient}
use Rattle.i2c_virt.specs.I2cClient.Clients.{FitsClient, client_round}
use Rattle.i2c_virt.specs.declared.virtualiser.I2cVirt.{I2cVirt}
use Rattle.i2c_virt.specs.declared.driver.BusDriver.{BusDriver}
use Rattle.i2c_virt.specs.declared.bus_device.BusDevice.{BusDevice}
use Rattle.i2c_virt.specs.Works.{wants_at, gives_at}
use Rattle.i2c_virt.specs.Virtualising.{FitsI2cVirt, i2c_virt_round}
use Rattle.i2c_virt.specs.Drivers.{pipes_of, driver_round}
use Rattle.i2c_virt.specs.BusDevices.{FitsBus, bus_round}
use Rattle.bus_law.specs.declared.i2c_actors.member.Member.{Member}
use Rattle.bus_law.specs.declared.i2c_actors.member.Member.TheVariants as Members
use Rattle.bus_law.specs.I2cActors.Members.{member_round, MemberStandsFor, FitsMember, member_means}
use Rattle.bus_law.specs.I2cActors.Queues.{AreQueues}
use Rattle.bus_law.specs.I2cActors.Casting.{AreEverySecond}
use Rattle.bus_law.specs.I2cActors.Starting.{IsFresh, IsNewVirt, IsNewDriver, IsNewDevice, AreNew}
use Rattle.bus_law.proofs.I2cActors.Places.{get_split, Which, Request, Reply, ToDriver, FromDriver, ToBus, FromBus, which, holder, held_below, goes, row_held, seat, row_capacity}
use Rattle.bus_law.proofs.I2cActors.Making.{Who, Asker, Hub, Copier, Device, who, there_at, members_many, req_at, resp_at, out_at, in_at, froms, tos, desks_many, first_in, first_out, rest_in, rest_out, bus_in, bus_out}

-- nothing is in hand, so whatever is said of it holds
for_none : (o : Option Cargo) (P : Cargo → Type 0) → o ≡ None → ForSome o P
for_none o P none c some = let no : None ≡ Some c = sym none ∙ some in cc

-- one queue of each client, by its place
second_at : (first clients : ℕ) (qs : List QueueId) → AreEverySecond first clients qs → (i : ℕ) (q : QueueId) → slice_get qs i ≡ Some q → (i < clients) × (q.0 ≡ 2 * i + first)
second_at first clients qs are i q at =
    let lt : i < length qs = there_below qs i q at in
    let m : length qs ≡ clients = are.many in
    let below : i < clients = omega (arith, lt, m) in
    (below, ap (λ (x : QueueId). x.0) (some_is (sym at ∙ are.each i below)))

-- no two of them are one
seconds_apart : (first clients : ℕ) (qs : List QueueId) → AreEverySecond first clients qs → AreApart qs
seconds_apart first clients qs are k j q r at there same =
    let a = (second_at first clients qs are k q at).1 in
    let b = (second_at first clients qs are j r there).1 in
    omega (arith, a, b, same)

-- two queues that are not one
two_apart : (x y : Post) → (x.queue ≡ y.queue → ⊥) → (k j : ℕ) (p q : Post) → slice_get (x ∷ y ∷ []) k ≡ Some p → slice_get (x ∷ y ∷ []) j ≡ Some q → p.queue ≡ q.queue → k ≡ j
two_apart x y d zero zero p q a b e = refl
two_apart x y d (suc zero) (suc zero) p q a b e = refl
two_apart x y d zero (suc zero) p q a b e = absurd (d (ap (λ (z : Post). z.queue) (some_is a) ∙ (e ∙ sym (ap (λ (z : Post). z.queue) (some_is b)))))
two_apart x y d (suc zero) zero p q a b e = absurd (d (ap (λ (z : Post). z.queue) (some_is b) ∙ (sym e ∙ sym (ap (λ (z : Post). z.queue) (some_is a)))))
two_apart x y d (suc (suc k)) j p q a b e = cc
two_apart x y d zero (suc (suc j)) p q a b e = cc
two_apart x y d (suc zero) (suc (suc j)) p q a b e = cc

-- a post of the driver, by its place
data DriverPost (clients i : ℕ) (p : Post) : Type 0 where
  Asked : i ≡ 0 → p.queue ≡ 2 * clients → waiting_role p.side ≡ Consumer → DriverPost clients i p
  Passed : i ≡ 1 → p.queue ≡ 2 * clients + 2 → waiting_role p.side ≡ Producer → DriverPost clients i p
  Answered : i ≡ 2 → p.queue ≡ 2 * clients + 3 → waiting_role p.side ≡ Consumer → DriverPost clients i p
  Returned : i ≡ 3 → p.queue ≡ 2 * clients + 1 → waiting_role p.side ≡ Producer → DriverPost clients i p

driver_apart : (clients : ℕ) (k j : ℕ) (p q : Post) → DriverPost clients k p → DriverPost clients j q → p.queue ≡ q.queue → k ≡ j
driver_apart clients k j p q (Asked i e r) (Asked j' f s) same = omega (arith, i, j')
driver_apart clients k j p q (Asked i e r) (Passed j' f s) same = absurd (omega (arith, e, f, same))
driver_apart clients k j p q (Asked i e r) (Answered j' f s) same = absurd (omega (arith, e, f, same))
driver_apart clients k j p q (Asked i e r) (Returned j' f s) same = absurd (omega (arith, e, f, same))
driver_apart clients k j p q (Passed i e r) (Asked j' f s) same = absurd (omega (arith, e, f, same))
driver_apart clients k j p q (Passed i e r) (Passed j' f s) same = omega (arith, i, j')
driver_apart clients k j p q (Passed i e r) (Answered j' f s) same = absurd (omega (arith, e, f, same))
driver_apart clients k j p q (Passed i e r) (Returned j' f s) same = absurd (omega (arith, e, f, same))
driver_apart clients k j p q (Answered i e r) (Asked j' f s) same = absurd (omega (arith, e, f, same))
driver_apart clients k j p q (Answered i e r) (Passed j' f s) same = absurd (omega (arith, e, f, same))
driver_apart clients k j p q (Answered i e r) (Answered j' f s) same = omega (arith, i, j')
driver_apart clients k j p q (Answered i e r) (Returned j' f s) same = absurd (omega (arith, e, f, same))
driver_apart clients k j p q (Returned i e r) (Asked j' f s) same = absurd (omega (arith, e, f, same))
driver_apart clients k j p q (Returned i e r) (Passed j' f s) same = absurd (omega (arith, e, f, same))
driver_apart clients k j p q (Returned i e r) (Answered j' f s) same = absurd (omega (arith, e, f, same))
driver_apart clients k j p q (Returned i e r) (Returned j' f s) same = omega (arith, i, j')

-- a post of the virtualiser, by its place
data VirtPost (clients i : ℕ) (p : Post) : Type 0 where
  Input : i ≡ 0 → p.queue ≡ 2 * clients + 1 → waiting_role p.side ≡ Consumer → VirtPost clients i p
  Output : i ≡ 1 → p.queue ≡ 2 * clients → waiting_role p.side ≡ Producer → VirtPost clients i p
  From : (c : ℕ) → c < clients → i ≡ c + 2 → p.queue ≡ 2 * c → waiting_role p.side ≡ Consumer → VirtPost clients i p
  To : (c : ℕ) → c < clients → i ≡ clients + c + 2 → p.queue ≡ 2 * c + 1 → waiting_role p.side ≡ Producer → VirtPost clients i p

virt_apart : (clients : ℕ) (k j : ℕ) (p q : Post) → VirtPost clients k p → VirtPost clients j q → p.queue ≡ q.queue → k ≡ j
virt_apart clients k j p q (Input i e r) (Input j' f s) same = omega (arith, i, j')
virt_apart clients k j p q (Input i e r) (Output j' f s) same = absurd (omega (arith, e, f, same))
virt_apart clients k j p q (Input i e r) (From d m j' f s) same = absurd (omega (arith, e, f, same, m))
virt_apart clients k j p q (Input i e r) (To d m j' f s) same = absurd (omega (arith, e, f, same, m))
virt_apart clients k j p q (Output i e r) (Input j' f s) same = absurd (omega (arith, e, f, same))
virt_apart clients k j p q (Output i e r) (Output j' f s) same = omega (arith, i, j')
virt_apart clients k j p q (Output i e r) (From d m j' f s) same = absurd (omega (arith, e, f, same, m))
virt_apart clients k j p q (Output i e r) (To d m j' f s) same = absurd (omega (arith, e, f, same, m))
virt_apart clients k j p q (From c l i e r) (Input j' f s) same = absurd (omega (arith, e, f, same, l))
virt_apart clients k j p q (From c l i e r) (Output j' f s) same = absurd (omega (arith, e, f, same, l))
virt_apart clients k j p q (From c l i e r) (From d m j' f s) same = omega (arith, e, f, same, i, j')
virt_apart clients k j p q (From c l i e r) (To d m j' f s) same = absurd (omega (arith, e, f, same))
virt_apart clients k j p q (To c l i e r) (Input j' f s) same = absurd (omega (arith, e, f, same, l))
virt_apart clients k j p q (To c l i e r) (Output j' f s) same = absurd (omega (arith, e, f, same, l))
virt_apart clients k j p q (To c l i e r) (From d m j' f s) same = absurd (omega (arith, e, f, same))
virt_apart clients k j p q (To c l i e r) (To d m j' f s) same = omega (arith, e, f, same, i, j')

-- the posts of a driver
module _ (clients : ℕ) (d : BusDriver) (n : IsNewDriver clients d) where
  driver_post : (i : ℕ) (p : Post) → slice_get (driver_round d).posts i ≡ Some p → DriverPost clients i p
  driver_post zero p at = Asked refl (ap (λ (z : Post). z.queue) (sym (some_is at)) ∙ first_in clients d n) (ap (λ (z : Post). waiting_role z.side) (sym (some_is at)))
  driver_post (suc zero) p at = Passed refl (ap (λ (z : Post). z.queue) (sym (some_is at)) ∙ first_out clients d n) (ap (λ (z : Post). waiting_role z.side) (sym (some_is at)))
  driver_post (suc (suc zero)) p at = Answered refl (ap (λ (z : Post). z.queue) (sym (some_is at)) ∙ rest_in clients d n) (ap (λ (z : Post). waiting_role z.side) (sym (some_is at)))
  driver_post (suc (suc (suc zero))) p at = Returned refl (ap (λ (z : Post). z.queue) (sym (some_is at)) ∙ rest_out clients d n) (ap (λ (z : Post). waiting_role z.side) (sym (some_is at)))
  driver_post (suc (suc (suc (suc i)))) p at = cc

  new_driver_round : IsRound (driver_round d)
  new_driver_round = record {
    some = omega arith;
    needs = refl;
    apart = λ k j p q a b same. driver_apart clients k j p q (driver_post k p a) (driver_post j q b) same;
  }

-- the posts of a virtualiser
module _ (clients : ℕ) (v : I2cVirt) (n : IsNewVirt clients v) where
  froms_many : length (intake_posts v.ends.from_clients) ≡ clients
  froms_many = length-map v.ends.from_clients.ends.items intake_post ∙ (ap length n.new.ends.from_is ∙ (length-map n.reqs new_intake ∙ n.reqs_are.many))

  tos_many : length (outlet_posts v.ends.to_clients) ≡ clients
  tos_many = length-map v.ends.to_clients.ends.items outlet_post ∙ (ap length n.new.ends.to_is ∙ (length-map n.resps new_outlet ∙ n.resps_are.many))

  from_item : (i : ℕ) (x : Intake) → slice_get v.ends.from_clients.ends.items i ≡ Some x → (i < clients) × (x.queue.0 ≡ 2 * i) × (x.state ≡ start_state Forward)
  from_item i x at =
      let q = map_from new_intake n.reqs i x (ap (λ l. slice_get l i) (sym n.new.ends.from_is) ∙ at) in
      let s = second_at 0 clients n.reqs n.reqs_are i q.0 q.1 in
      let e : q.0.0 ≡ 2 * i + 0 = s.1 in
      (s.0, ap (λ (y : Intake). y.queue.0) (sym q.2) ∙ omega (arith, e), ap (λ (y : Intake). y.state) (sym q.2))

  to_item : (i : ℕ) (x : Outlet) → slice_get v.ends.to_clients.ends.items i ≡ Some x → (i < clients) × (x.queue.0 ≡ 2 * i + 1) × (x.state ≡ start_state Backward)
  to_item i x at =
      let q = map_from new_outlet n.resps i x (ap (λ l. slice_get l i) (sym n.new.ends.to_is) ∙ at) in
      let s = second_at 1 clients n.resps n.resps_are i q.0 q.1 in
      (s.0, ap (λ (y : Outlet). y.queue.0) (sym q.2) ∙ s.1, ap (λ (y : Outlet). y.state) (sym q.2))

  virt_post : (i : ℕ) (p : Post) → slice_get (virt_posts v.ends) i ≡ Some p → VirtPost clients i p
  virt_post zero p at = Input refl (ap (λ (z : Post). z.queue) (sym (some_is at)) ∙ in_at clients v n) (ap (λ (z : Post). waiting_role z.side) (sym (some_is at)))
  virt_post (suc zero) p at = Output refl (ap (λ (z : Post). z.queue) (sym (some_is at)) ∙ out_at clients v n) (ap (λ (z : Post). waiting_role z.side) (sym (some_is at)))
  virt_post (suc (suc i)) p at = by (get_split (intake_posts v.ends.from_clients) (outlet_posts v.ends.to_clients) i p at)
    where
      by : (slice_get (intake_posts v.ends.from_clients) i ≡ Some p) ⊎ ((j : ℕ) × (slice_get (outlet_posts v.ends.to_clients) j ≡ Some p) × (i ≡ length (intake_posts v.ends.from_clients) + j)) → VirtPost clients (suc (suc i)) p
      by (inl h) =
          let x = map_from intake_post v.ends.from_clients.ends.items i p h in
          let s = from_item i x.0 x.1 in
          From i s.0 (omega arith) (ap (λ (z : Post). z.queue) (sym x.2) ∙ s.1) (ap (λ (z : Post). waiting_role z.side) (sym x.2))
      by (inr h) =
          let x = map_from outlet_post v.ends.to_clients.ends.items h.0 p h.1 in
          let s = to_item h.0 x.0 x.1 in
          let e : i ≡ length (intake_posts v.ends.from_clients) + h.0 = h.2 in
          let m : length (intake_posts v.ends.from_clients) ≡ clients = froms_many in
          To h.0 s.0 (omega (arith, e, m)) (ap (λ (z : Post). z.queue) (sym x.2) ∙ s.1) (ap (λ (z : Post). waiting_role z.side) (sym x.2))

  new_virt_round : IsRound (i2c_virt_round v)
  new_virt_round = record {
    some = omega arith;
    needs =
        let posts = length-append (intake_posts v.ends.from_clients) (outlet_posts v.ends.to_clients) in
        let one = needs_length (wants_at v.work) 0 (from_queues v.ends) in
        let two = needs_length (gives_at v.work) 0 (to_queues v.ends) in
        let all = length-append (needs_from (wants_at v.work) 0 (from_queues v.ends)) (needs_from (gives_at v.work) 0 (to_queues v.ends)) in
        let f : length (from_queues v.ends) ≡ clients = ap length (froms clients v n) ∙ n.reqs_are.many in
        let t : length (to_queues v.ends) ≡ clients = ap length (tos clients v n) ∙ n.resps_are.many in
        let a : length (intake_posts v.ends.from_clients) ≡ clients = froms_many in
        let b : length (outlet_posts v.ends.to_clients) ≡ clients = tos_many in
        omega (arith, posts, one, two, all, f, t, a, b);
    apart = λ k j p q a b same. virt_apart clients k j p q (virt_post k p a) (virt_post j q b) same;
  }

  -- its ends at a client
  from_there : (c : ℕ) → c < clients → Own member_means (Members.Virt v) Consumer (2 * c)
  from_there c lt =
      let e : slice_get v.ends.from_clients.ends.items c ≡ Some (new_intake (record { 0 = 2 * c + 0 })) = ap (λ l. slice_get l c) n.new.ends.from_is ∙ map_get new_intake n.reqs c _ (n.reqs_are.each c lt) in
      record {
        place = suc (suc c);
        post = intake_post (new_intake (record { 0 = 2 * c + 0 }));
        there = get_front (intake_posts v.ends.from_clients) (outlet_posts v.ends.to_clients) c _ (map_get intake_post v.ends.from_clients.ends.items c _ e);
        queue = omega arith;
        role = refl;
      }

  to_there : (c : ℕ) → c < clients → Own member_means (Members.Virt v) Producer (2 * c + 1)
  to_there c lt =
      let e : slice_get v.ends.to_clients.ends.items c ≡ Some (new_outlet (record { 0 = 2 * c + 1 })) = ap (λ l. slice_get l c) n.new.ends.to_is ∙ map_get new_outlet n.resps c _ (n.resps_are.each c lt) in
      record {
        place = suc (suc (length (intake_posts v.ends.from_clients) + c));
        post = outlet_post (new_outlet (record { 0 = 2 * c + 1 }));
        there = get_behind (intake_posts v.ends.from_clients) (outlet_posts v.ends.to_clients) c ∙ map_get outlet_post v.ends.to_clients.ends.items c _ e;
        queue = refl;
        role = refl;
      }

-- an end of an actor, by its place
own_at : (x : Member) (place : ℕ) (post : Post) → slice_get (member_round x).posts place ≡ Some post → (r : Role) (n : ℕ) → post.queue ≡ n → waiting_role post.side ≡ r → Own member_means x r n
own_at x place post at r n queue role = record { place = place; post = post; there = at; queue = queue; role = role }

module _ (bus : Bus) (members : List Member) (n : AreNew bus members) (rows : List QueueRow) (are : AreQueues bus.clients rows) where
  abbrev N : ℕ
  N = bus.clients

  abbrev ends : Role → ℕ → End
  ends = end_at (starts rows)

  -- the ends at the start

  end_starts : (q : ℕ) (w : Which N q) (r : Role) → ends r q ≡ end_of true Kind.Net start_bells r
  end_starts q w r =
      let g = goes N rows are q w in
      let at = map_get start_queue rows q g.row g.at in
      let there = get_or_from_slice_get (starts rows) q (start_queue g.row) no_queue at in
      ap (λ b. end_of b (queue_at (starts rows) q).kind (queue_at (starts rows) q).bells r) (lt-ltb q (length (starts rows)) (there_below (starts rows) q (start_queue g.row) at))
      ∙ (ap (λ (x : Queue). end_of true x.kind x.bells r) there ∙ ap (λ k. end_of true k start_bells r) g.is.kind)

  takes : (q : ℕ) → Which N q → (n : ℕ) (s : EndState) → n ≡ q → s ≡ start_state Forward → Agrees (ends Consumer n) s
  takes q w n s e is = subst (λ m. Agrees (ends Consumer m) s) (sym e) (subst (λ x. Agrees x s) (sym (end_starts q w Consumer)) (subst (Agrees (end_of true Kind.Net start_bells Consumer)) (sym is) (record { owned = refl; waiter = refl; ringer = refl; looked = λ h. cc })))

  puts : (q : ℕ) → Which N q → (n : ℕ) (s : EndState) → n ≡ q → s ≡ start_state Backward → Agrees (ends Producer n) s
  puts q w n s e is = subst (λ m. Agrees (ends Producer m) s) (sym e) (subst (λ x. Agrees x s) (sym (end_starts q w Producer)) (subst (Agrees (end_of true Kind.Net start_bells Producer)) (sym is) (record { owned = refl; waiter = refl; ringer = refl; looked = λ h. cc })))

  comes : (q : ℕ) → Which N q → (n : ℕ) → n ≡ q → (ends Consumer n).kind ≡ Kind.Net
  comes q w n e = ap (λ m. (ends Consumer m).kind) e ∙ ap (λ (x : End). x.kind) (end_starts q w Consumer)

  goes_out : (q : ℕ) → Which N q → (n : ℕ) → n ≡ q → (ends Producer n).kind ≡ Kind.Net
  goes_out q w n e = ap (λ m. (ends Producer m).kind) e ∙ ap (λ (x : End). x.kind) (end_starts q w Producer)

  -- each actor fits them

  client_fits : (k : ℕ) (script : List BusAsk) (c : BusClient) → k < N → IsFresh k script c → FitsClient ends c
  client_fits k script c lt f =
      let req = Request k lt refl in
      let resp = Reply k lt refl in
      record {
        responses = takes (2 * k + 1) resp c.responses.queue.0 c.responses.state (resp_at k script c f) (ap (λ (i : Intake). i.state) f.new.responses);
        requests = puts (2 * k) req c.requests.queue.0 c.requests.state (req_at k script c f) (ap (λ (o : Outlet). o.state) f.new.requests);
        comes = comes (2 * k + 1) resp c.responses.queue.0 (resp_at k script c f);
        goes = goes_out (2 * k) req c.requests.queue.0 (req_at k script c f);
        asking = f.asking;
      }

  abbrev v : I2cVirt
  v = n.virt

  abbrev vn : IsNewVirt N v
  vn = n.new_virt

  -- a client's queue at the virtualiser
  from_queue : (k : ℕ) (q : QueueId) → slice_get (from_queues v.ends) k ≡ Some q → (k < N) × (q.0 ≡ 2 * k)
  from_queue k q at = let s = second_at 0 N vn.reqs vn.reqs_are k q (ap (λ l. slice_get l k) (sym (froms N v vn)) ∙ at) in let e : q.0 ≡ 2 * k + 0 = s.1 in (s.0, omega (arith, e))

  to_queue : (k : ℕ) (q : QueueId) → slice_get (to_queues v.ends) k ≡ Some q → (k < N) × (q.0 ≡ 2 * k + 1)
  to_queue k q at = second_at 1 N vn.resps vn.resps_are k q (ap (λ l. slice_get l k) (sym (tos N v vn)) ∙ at)

  virt_fits : FitsI2cVirt ends v
  virt_fits =
      let few = vn.work.few in
      let many : length v.work.desks.items ≡ N = desks_many N v vn in
      let f : length (from_queues v.ends) ≡ N = ap length (froms N v vn) ∙ vn.reqs_are.many in
      let t : length (to_queues v.ends) ≡ N = ap length (tos N v vn) ∙ vn.resps_are.many in
      record {
        ends_fit = record {
          input = takes (2 * N + 1) (FromDriver refl) v.ends.input.queue.0 v.ends.input.state (in_at N v vn) (ap (λ (i : Intake). i.state) vn.new.ends.input_is);
          output = puts (2 * N) (ToDriver refl) v.ends.output.queue.0 v.ends.output.state (out_at N v vn) (ap (λ (o : Outlet). o.state) vn.new.ends.output_is);
          from_clients = record {
            agrees = λ k i at. let s = from_item N v vn k i at in takes (2 * k) (Request k s.0 refl) i.queue.0 i.state s.1 s.2;
            apart = subst AreApart (sym (froms N v vn)) (seconds_apart 0 N vn.reqs vn.reqs_are);
          };
          to_clients = record {
            agrees = λ k i at. let s = to_item N v vn k i at in puts (2 * k + 1) (Reply k s.0 refl) i.queue.0 i.state s.1 s.2;
            apart = subst AreApart (sym (tos N v vn)) (seconds_apart 1 N vn.resps vn.resps_are);
          };
          comes = comes (2 * N + 1) (FromDriver refl) v.ends.input.queue.0 (in_at N v vn);
          goes = goes_out (2 * N) (ToDriver refl) v.ends.output.queue.0 (out_at N v vn);
          come_from = λ k q at. let s = from_queue k q at in comes (2 * k) (Request k s.0 refl) q.0 s.1;
          go_to = λ k q at. let s = to_queue k q at in goes_out (2 * k + 1) (Reply k s.0 refl) q.0 s.1;
          inputs_apart = λ k q at e. let s = from_queue k q at in let i = in_at N v vn in let l = s.0 in let o = s.1 in absurd (omega (arith, i, l, o, e));
          outputs_apart = λ k q at e. let s = to_queue k q at in let i = out_at N v vn in let l = s.0 in let o = s.1 in absurd (omega (arith, i, l, o, e));
          few_from = omega (arith, few, many, f);
          few_to = omega (arith, few, many, t);
        };
        work = vn.work;
        from_each = f ∙ sym many;
        to_each = t ∙ sym many;
        knows = vn.new.knows;
      }

  abbrev d : BusDriver
  d = n.driver

  abbrev dn : IsNewDriver N d
  dn = n.new_driver

  pipe_fits : (p : Pipe) (from to : QueueId) → IsNewPipe from to p → Which N from.0 → Which N to.0 → FitsPipe ends p
  pipe_fits p from to new i o = record {
    input = takes from.0 i p.input.queue.0 p.input.state (ap (λ (q : QueueId). q.0) new.input) new.input_state;
    output = puts to.0 o p.output.queue.0 p.output.state (ap (λ (q : QueueId). q.0) new.output) new.output_state;
    kinds = comes from.0 i p.input.queue.0 (ap (λ (q : QueueId). q.0) new.input) ∙ sym (goes_out to.0 o p.output.queue.0 (ap (λ (q : QueueId). q.0) new.output));
    load = for_none p.load (λ c. kind_of c.0 ≡ (ends Producer p.output.queue.0).kind) new.load;
  }

  driver_fits : FitsPipes ends (pipes_of d)
  driver_fits = record {
    each = (pipe_fits d.driver.pipes.first _ _ dn.requests (ToDriver refl) (ToBus refl), (pipe_fits d.driver.pipes.rest _ _ dn.answers (FromBus refl) (FromDriver refl), tt));
    inputs = ((λ e. let a = first_in N d dn in let b = rest_in N d dn in absurd (omega (arith, a, b, e)), tt), (tt, tt));
    outputs = ((λ e. let a = first_out N d dn in let b = rest_out N d dn in absurd (omega (arith, a, b, e)), tt), (tt, tt));
  }

  abbrev b : BusDevice
  b = n.device

  abbrev bn : IsNewDevice N bus.devices b
  bn = n.new_device

  device_fits : FitsBus ends b
  device_fits = record {
    input = takes (2 * N + 2) (ToBus refl) b.input.queue.0 b.input.state (bus_in N bus.devices b bn) (ap (λ (i : Intake). i.state) bn.new.input);
    output = puts (2 * N + 3) (FromBus refl) b.output.queue.0 b.output.state (bus_out N bus.devices b bn) (ap (λ (o : Outlet). o.state) bn.new.output);
    comes = comes (2 * N + 2) (ToBus refl) b.input.queue.0 (bus_in N bus.devices b bn);
    goes = goes_out (2 * N + 3) (FromBus refl) b.output.queue.0 (bus_out N bus.devices b bn);
    load = for_none b.load (λ c. kind_of c.0 ≡ Kind.Net) bn.new.load;
    whole = bn.whole;
  }

  abbrev Is : ℕ → Member → Type 0
  Is k x = Who N bus.asks v d b k x

  fits : (k : ℕ) (x : Member) → Is k x → FitsMember ends x
  fits k x (Asker script c lt has is f) = subst (FitsMember ends) is (client_fits k script c lt f)
  fits k x (Hub e is) = subst (FitsMember ends) is virt_fits
  fits k x (Copier e is) = subst (FitsMember ends) is driver_fits
  fits k x (Device e is) = subst (FitsMember ends) is device_fits

  stands : (k : ℕ) (x : Member) → Is k x → MemberStandsFor x nothing_passed
  stands k x (Asker script c lt has is f) = subst (λ y. MemberStandsFor y nothing_passed) is f.stands
  stands k x (Hub e is) = subst (λ y. MemberStandsFor y nothing_passed) is vn.stands
  stands k x (Copier e is) = subst (λ y. MemberStandsFor y nothing_passed) is dn.stands
  stands k x (Device e is) = subst (λ y. MemberStandsFor y nothing_passed) is bn.stands

  client_rounds : (k : ℕ) (script : List BusAsk) (c : BusClient) → IsFresh k script c → IsRound (client_round c)
  client_rounds k script c f = record { some = omega arith; needs = refl; apart = two_apart (intake_post c.responses) (outlet_post c.requests) (λ e. let a = resp_at k script c f in let o = req_at k script c f in absurd (omega (arith, a, o, e))) }

  device_rounds : IsRound (bus_round b)
  device_rounds = record { some = omega arith; needs = refl; apart = two_apart (intake_post b.input) (outlet_post b.output) (λ e. let i = bus_in N bus.devices b bn in let o = bus_out N bus.devices b bn in absurd (omega (arith, i, o, e))) }

  rounds : (k : ℕ) (x : Member) → Is k x → IsRound (member_round x)
  rounds k x (Asker script c lt has is f) = subst (λ y. IsRound (member_round y)) is (client_rounds k script c f)
  rounds k x (Hub e is) = subst (λ y. IsRound (member_round y)) is (new_virt_round N v vn)
  rounds k x (Copier e is) = subst (λ y. IsRound (member_round y)) is (new_driver_round N d dn)
  rounds k x (Device e is) = subst (λ y. IsRound (member_round y)) is device_rounds

  -- the seats of the rows

  abbrev SeatAt : ℕ → Role → ℕ → Type 0
  SeatAt k r q = IsSeat rows k (record { queue = q; role = r })

  -- the end of a post, where its queue and its role are known
  post_seat : (k : ℕ) (p : Post) (q : ℕ) (w : Which N q) (s : Role) → p.queue ≡ q → waiting_role p.side ≡ s → holder N q w s ≡ k → (r : Role) (m : ℕ) → p.queue ≡ m → waiting_role p.side ≡ r → SeatAt k r m
  post_seat k p q w s queue side held r m pm pr =
      let same_m : q ≡ m = sym queue ∙ pm in
      let same_r : s ≡ r = sym side ∙ pr in
      subst (λ x. SeatAt k x m) same_r (subst (SeatAt k s) same_m (seat N rows are q w s k held))

  client_given : (k : ℕ) (script : List BusAsk) (c : BusClient) → k < N → IsFresh k script c → (r : Role) (m i : ℕ) (p : Post) → slice_get (client_round c).posts i ≡ Some p → p.queue ≡ m → waiting_role p.side ≡ r → SeatAt k r m
  client_given k script c lt f r m zero p at pm pr = post_seat k p (2 * k + 1) (Reply k lt refl) Consumer (ap (λ (z : Post). z.queue) (sym (some_is at)) ∙ resp_at k script c f) (ap (λ (z : Post). waiting_role z.side) (sym (some_is at))) refl r m pm pr
  client_given k script c lt f r m (suc zero) p at pm pr = post_seat k p (2 * k) (Request k lt refl) Producer (ap (λ (z : Post). z.queue) (sym (some_is at)) ∙ req_at k script c f) (ap (λ (z : Post). waiting_role z.side) (sym (some_is at))) refl r m pm pr
  client_given k script c lt f r m (suc (suc i)) p at pm pr = cc

  virt_given : (r : Role) (m i : ℕ) (p : Post) → VirtPost N i p → p.queue ≡ m → waiting_role p.side ≡ r → SeatAt N r m
  virt_given r m i p (Input at e s) pm pr = post_seat N p (2 * N + 1) (FromDriver refl) Consumer e s refl r m pm pr
  virt_given r m i p (Output at e s) pm pr = post_seat N p (2 * N) (ToDriver refl) Producer e s refl r m pm pr
  virt_given r m i p (From c lt at e s) pm pr = post_seat N p (2 * c) (Request c lt refl) Consumer e s refl r m pm pr
  virt_given r m i p (To c lt at e s) pm pr = post_seat N p (2 * c + 1) (Reply c lt refl) Producer e s refl r m pm pr

  driver_given : (r : Role) (m i : ℕ) (p : Post) → DriverPost N i p → p.queue ≡ m → waiting_role p.side ≡ r → SeatAt (N + 1) r m
  driver_given r m i p (Asked at e s) pm pr = post_seat (N + 1) p (2 * N) (ToDriver refl) Consumer e s refl r m pm pr
  driver_given r m i p (Passed at e s) pm pr = post_seat (N + 1) p (2 * N + 2) (ToBus refl) Producer e s refl r m pm pr
  driver_given r m i p (Answered at e s) pm pr = post_seat (N + 1) p (2 * N + 3) (FromBus refl) Consumer e s refl r m pm pr
  driver_given r m i p (Returned at e s) pm pr = post_seat (N + 1) p (2 * N + 1) (FromDriver refl) Producer e s refl r m pm pr

  device_given : (r : Role) (m i : ℕ) (p : Post) → slice_get (bus_round b).posts i ≡ Some p → p.queue ≡ m → waiting_role p.side ≡ r → SeatAt (N + 2) r m
  device_given r m zero p at pm pr = post_seat (N + 2) p (2 * N + 2) (ToBus refl) Consumer (ap (λ (z : Post). z.queue) (sym (some_is at)) ∙ bus_in N bus.devices b bn) (ap (λ (z : Post). waiting_role z.side) (sym (some_is at))) refl r m pm pr
  device_given r m (suc zero) p at pm pr = post_seat (N + 2) p (2 * N + 3) (FromBus refl) Producer (ap (λ (z : Post). z.queue) (sym (some_is at)) ∙ bus_out N bus.devices b bn) (ap (λ (z : Post). waiting_role z.side) (sym (some_is at))) refl r m pm pr
  device_given r m (suc (suc i)) p at pm pr = cc

  given : (k : ℕ) (x : Member) → Is k x → (r : Role) (m : ℕ) → Own member_means x r m → SeatAt k r m
  given k x (Asker script c lt has is f) r m o = by (subst (λ y. Own member_means y r m) (sym is) o)
    where
      by : Own member_means (Members.Client c) r m → SeatAt k r m
      by o = client_given k script c lt f r m o.place o.post o.there o.queue o.role
  given k x (Hub e is) r m o = subst (λ j. SeatAt j r m) (sym e) (by (subst (λ y. Own member_means y r m) (sym is) o))
    where
      by : Own member_means (Members.Virt v) r m → SeatAt N r m
      by o = virt_given r m o.place o.post (virt_post N v vn o.place o.post o.there) o.queue o.role
  given k x (Copier e is) r m o = subst (λ j. SeatAt j r m) (sym e) (by (subst (λ y. Own member_means y r m) (sym is) o))
    where
      by : Own member_means (Members.Driver d) r m → SeatAt (N + 1) r m
      by o = driver_given r m o.place o.post (driver_post N d dn o.place o.post o.there) o.queue o.role
  given k x (Device e is) r m o = subst (λ j. SeatAt j r m) (sym e) (by (subst (λ y. Own member_means y r m) (sym is) o))
    where
      by : Own member_means (Members.Bus b) r m → SeatAt (N + 2) r m
      by o = device_given r m o.place o.post o.there o.queue o.role

  -- an end of the actor at a place
  record OwnAt (k : ℕ) (r : Role) (q : ℕ) : Type 0 where
    pub actor : Member
    pub there : slice_get members k ≡ Some actor
    pub own : Own member_means actor r q

  client_own : (c : ℕ) → c < N → (r : Role) (q : ℕ) → ((script : List BusAsk) (y : BusClient) → IsFresh c script y → Own member_means (Members.Client y) r q) → OwnAt c r q
  client_own c lt r q own = let x = there_at bus members n c (omega (arith, lt)) in by x.0 x.1 (who bus members n c x.0 x.1)
    where
      by : (x : Member) → slice_get members c ≡ Some x → Is c x → OwnAt c r q
      by x there (Asker script y l has is f) = record { actor = x; there = there; own = subst (λ z. Own member_means z r q) is (own script y f) }
      by x there (Hub e is) = absurd (omega (arith, lt, e))
      by x there (Copier e is) = absurd (omega (arith, lt, e))
      by x there (Device e is) = absurd (omega (arith, lt, e))

  virt_own : (r : Role) (q : ℕ) → Own member_means (Members.Virt v) r q → OwnAt N r q
  virt_own r q own = let x = there_at bus members n N (omega arith) in by x.0 x.1 (who bus members n N x.0 x.1)
    where
      by : (x : Member) → slice_get members N ≡ Some x → Is N x → OwnAt N r q
      by x there (Asker script y l has is f) = absurd (omega (arith, l))
      by x there (Hub e is) = record { actor = x; there = there; own = subst (λ z. Own member_means z r q) is own }
      by x there (Copier e is) = absurd (omega (arith, e))
      by x there (Device e is) = absurd (omega (arith, e))

  driver_own : (r : Role) (q : ℕ) → Own member_means (Members.Driver d) r q → OwnAt (N + 1) r q
  driver_own r q own = let x = there_at bus members n (N + 1) (omega arith) in by x.0 x.1 (who bus members n (N + 1) x.0 x.1)
    where
      by : (x : Member) → slice_get members (N + 1) ≡ Some x → Is (N + 1) x → OwnAt (N + 1) r q
      by x there (Asker script y l has is f) = absurd (omega (arith, l))
      by x there (Hub e is) = absurd (omega (arith, e))
      by x there (Copier e is) = record { actor = x; there = there; own = subst (λ z. Own member_means z r q) is own }
      by x there (Device e is) = absurd (omega (arith, e))

  device_own : (r : Role) (q : ℕ) → Own member_means (Members.Bus b) r q → OwnAt (N + 2) r q
  device_own r q own = let x = there_at bus members n (N + 2) (omega arith) in by x.0 x.1 (who bus members n (N + 2) x.0 x.1)
    where
      by : (x : Member) → slice_get members (N + 2) ≡ Some x → Is (N + 2) x → OwnAt (N + 2) r q
      by x there (Asker script y l has is f) = absurd (omega (arith, l))
      by x there (Hub e is) = absurd (omega (arith, e))
      by x there (Copier e is) = absurd (omega (arith, e))
      by x there (Device e is) = record { actor = x; there = there; own = subst (λ z. Own member_means z r q) is own }

  -- whose end it is
  held_end : (q : ℕ) (w : Which N q) (r : Role) → OwnAt (holder N q w r) r q
  held_end q (Request c lt e) Consumer = virt_own Consumer q (subst (Own member_means (Members.Virt v) Consumer) (sym e) (from_there N v vn c lt))
  held_end q (Request c lt e) Producer = client_own c lt Producer q (λ script y f. own_at (Members.Client y) 1 (outlet_post y.requests) refl Producer q (req_at c script y f ∙ sym e) refl)
  held_end q (Reply c lt e) Consumer = client_own c lt Consumer q (λ script y f. own_at (Members.Client y) 0 (intake_post y.responses) refl Consumer q (resp_at c script y f ∙ sym e) refl)
  held_end q (Reply c lt e) Producer = virt_own Producer q (subst (Own member_means (Members.Virt v) Producer) (sym e) (to_there N v vn c lt))
  held_end q (ToDriver e) Consumer = driver_own Consumer q (own_at (Members.Driver d) 0 (intake_post d.driver.pipes.first.input) refl Consumer q (first_in N d dn ∙ sym e) refl)
  held_end q (ToDriver e) Producer = virt_own Producer q (own_at (Members.Virt v) 1 (outlet_post v.ends.output) refl Producer q (out_at N v vn ∙ sym e) refl)
  held_end q (FromDriver e) Consumer = virt_own Consumer q (own_at (Members.Virt v) 0 (intake_post v.ends.input) refl Consumer q (in_at N v vn ∙ sym e) refl)
  held_end q (FromDriver e) Producer = driver_own Producer q (own_at (Members.Driver d) 3 (outlet_post d.driver.pipes.rest.output) refl Producer q (rest_out N d dn ∙ sym e) refl)
  held_end q (ToBus e) Consumer = device_own Consumer q (own_at (Members.Bus b) 0 (intake_post b.input) refl Consumer q (bus_in N bus.devices b bn ∙ sym e) refl)
  held_end q (ToBus e) Producer = driver_own Producer q (own_at (Members.Driver d) 1 (outlet_post d.driver.pipes.first.output) refl Producer q (first_out N d dn ∙ sym e) refl)
  held_end q (FromBus e) Consumer = driver_own Consumer q (own_at (Members.Driver d) 2 (intake_post d.driver.pipes.rest.input) refl Consumer q (rest_in N d dn ∙ sym e) refl)
  held_end q (FromBus e) Producer = device_own Producer q (own_at (Members.Bus b) 1 (outlet_post b.output) refl Producer q (bus_out N bus.devices b bn ∙ sym e) refl)

  -- the queue of a row that is there
  which_at : (q : ℕ) (row : QueueRow) → slice_get rows q ≡ Some row → Which N q
  which_at q row at = let lt : q < length rows = there_below rows q row at in let m : length rows ≡ 2 * N + 4 = are.many in which N q (omega (arith, lt, m))

  all : (k : ℕ) (x : Member) → slice_get members k ≡ Some x → (r : Role) (q : ℕ) → SeatAt k r q → Own member_means x r q
  all k x at r q s =
      let w = which_at q s.0 s.1 in
      let o = held_end q w r in
      let e : holder N q w r ≡ k = sym (row_held N rows are q s.0 s.1 w r) ∙ s.2 in
      let same : o.actor ≡ x = some_is (sym o.there ∙ (ap (slice_get members) e ∙ at)) in
      subst (λ y. Own member_means y r q) same o.own

  pub members_begin : N < 1024 → Begins member_means rows members
  members_begin few = record {
    sized = record {
      few = let m : length rows ≡ 2 * N + 4 = are.many in omega (arith, m, few);
      capacities = λ k e lt. let at = slice_get-get_or rows k e lt in row_capacity N rows are k _ at (which_at k _ at);
    };
    peopled = λ q row at r. let w = which_at q row at in let m : length members ≡ N + 3 = members_many bus members n in let h = row_held N rows are q row at w r in let l = held_below N q w r in omega (arith, m, h, l);
    few = let m : length members ≡ N + 3 = members_many bus members n in omega (arith, m, few);
    seated = record { given = λ k x at. given k x (who bus members n k x at); all = all };
    fits = λ k x at. fits k x (who bus members n k x at);
    rounds = λ k x at. rounds k x (who bus members n k x at);
    stands = λ k x at. stands k x (who bus members n k x at);
  }
