use Rattle.std.proofs.Common.{◌≡◌, ◌+◌, ◌*◌, ◌<◌, ◌++◌, ℕ, false, Some, List, [], ◌∷◌, length, slice_get, refl, sym, ap, ◌∙◌, subst, arith}
use Rattle.std.specs.Option.{option_to_list, ForSome}
use Rattle.std.proofs.lemmas.Option.{get_or_from_slice_get}
use Rattle.cargo_core.specs.declared.item.PoolId.{PoolId}
use Rattle.wire_core.specs.declared.names.QueueId.{QueueId}
use Rattle.wire_core.specs.declared.names.QueueRow.{QueueRow}
use Rattle.wire_core.specs.Deeds.{Cargo}
use Rattle.wire_core.specs.Lists.{Passed}
use Rattle.wire_core.specs.Queues.{queue_at, end_at}
use Rattle.buffer_kit.specs.Virtualising.{from_queues, to_queues}
use Rattle.pipe_driver.specs.Drivers.{FitsPipes, inputs_of, outputs_of}
use Rattle.play_core.proofs.Lists.{there_is, there_below}
use Rattle.small_system.specs.Tales.{Moment, Turn, start_of, IsTale, after_tale, journal_of, passed_by}
use Rattle.small_system.specs.Standing.{Begins, Holds}
use Rattle.i2c_text.specs.declared.bus.Bus.{Bus}
use Rattle.i2c_text.specs.declared.bus.BusAsk.{BusAsk}
use Rattle.i2c_virt.specs.I2cKit.Devices.{new_devices}
use Rattle.i2c_virt.specs.I2cKit.Entries.{is_bus_request}
use Rattle.i2c_virt.specs.I2cKit.Serving.{answers_to}
use Rattle.i2c_virt.specs.declared.i2c_client.client.BusClient.{BusClient}
use Rattle.i2c_virt.specs.I2cClient.Clients.{FitsClient, ClientStands}
use Rattle.i2c_virt.specs.declared.virtualiser.I2cVirt.{I2cVirt}
use Rattle.i2c_virt.specs.declared.driver.BusDriver.{BusDriver}
use Rattle.i2c_virt.specs.declared.bus_device.BusDevice.{BusDevice}
use Rattle.i2c_virt.specs.Virtualising.{FitsI2cVirt, VirtStands}
use Rattle.i2c_virt.specs.Drivers.{pipes_of}
use Rattle.i2c_virt.specs.BusDevices.{FitsBus, BusStandsFor}
use Rattle.bus_law.specs.declared.i2c_actors.member.Member.{Member}
use Rattle.bus_law.specs.declared.i2c_actors.member.Member.TheVariants as Members
use Rattle.bus_law.specs.I2cActors.Members.{Made, Asks, Serves, Copies, Answers, made_of, member_means, MemberStandsFor, FitsMember}
use Rattle.bus_law.specs.I2cActors.Casting.{AreEverySecond, StandsAt}
use Rattle.bus_law.specs.Takes.{script_of}
use Rattle.bus_law.specs.Plays.{IsBusTale}

-- The actors of a bus at a moment: which stands where, and what it stands for.

pub client_of : (y : Member) (q r : ℕ) (pool : PoolId) (script : List BusAsk) → made_of y ≡ Asks q r pool script → (x : BusClient) × (y ≡ Members.Client x) × (x.requests.queue.0 ≡ q) × (x.responses.queue.0 ≡ r) × (x.asking.pool ≡ pool) × (x.asking.script ≡ script)
client_of (Members.Client x) q r pool script h = (x, refl, cc, cc, cc, cc)
client_of (Members.Virt v) q r pool script h = cc
client_of (Members.Driver d) q r pool script h = cc
client_of (Members.Bus b) q r pool script h = cc

pub virt_of : (y : Member) (q r : ℕ) (from to : List QueueId) (n : ℕ) → made_of y ≡ Serves q r from to n → (v : I2cVirt) × (y ≡ Members.Virt v) × (v.ends.output.queue.0 ≡ q) × (v.ends.input.queue.0 ≡ r) × (from_queues v.ends ≡ from) × (to_queues v.ends ≡ to) × (length v.work.desks.items ≡ n)
virt_of (Members.Client x) q r from to n h = cc
virt_of (Members.Virt v) q r from to n h = (v, refl, cc, cc, cc, cc, cc)
virt_of (Members.Driver d) q r from to n h = cc
virt_of (Members.Bus b) q r from to n h = cc

pub driver_of : (y : Member) (from to : List ℕ) → made_of y ≡ Copies from to → (d : BusDriver) × (y ≡ Members.Driver d) × (inputs_of (pipes_of d) ≡ from) × (outputs_of (pipes_of d) ≡ to)
driver_of (Members.Client x) from to h = cc
driver_of (Members.Virt v) from to h = cc
driver_of (Members.Driver d) from to h = (d, refl, cc, cc)
driver_of (Members.Bus b) from to h = cc

pub bus_of : (y : Member) (q r : ℕ) (addresses : List ℕ) → made_of y ≡ Answers q r addresses → (b : BusDevice) × (y ≡ Members.Bus b) × (b.input.queue.0 ≡ q) × (b.output.queue.0 ≡ r) × (b.addresses ≡ addresses)
bus_of (Members.Client x) q r addresses h = cc
bus_of (Members.Virt v) q r addresses h = cc
bus_of (Members.Driver d) q r addresses h = cc
bus_of (Members.Bus b) q r addresses h = (b, refl, cc, cc, cc)

-- client c
pub record ClientAt (mo : Moment Member) (passed : Passed) (c : ℕ) (script : List BusAsk) : Type 0 where
  pub client : BusClient
  pub there : slice_get mo.actors c ≡ Some (Members.Client client)
  pub req : client.requests.queue.0 ≡ 2 * c
  pub resp : client.responses.queue.0 ≡ 2 * c + 1
  pub pool : client.asking.pool ≡ record { 0 = c }
  pub script_is : client.asking.script ≡ script
  pub fits : FitsClient (end_at mo.world) client
  pub stands : ClientStands (2 * c + 1) (2 * c) client.asking client.stray passed

-- the virtualiser
pub record VirtAt (mo : Moment Member) (passed : Passed) (n : ℕ) (reqs resps : List QueueId) : Type 0 where
  pub virt : I2cVirt
  pub there : slice_get mo.actors n ≡ Some (Members.Virt virt)
  pub output : virt.ends.output.queue.0 ≡ 2 * n
  pub input : virt.ends.input.queue.0 ≡ 2 * n + 1
  pub from : from_queues virt.ends ≡ reqs
  pub to : to_queues virt.ends ≡ resps
  pub many : length virt.work.desks.items ≡ n
  pub fits : FitsI2cVirt (end_at mo.world) virt
  pub stands : VirtStands (2 * n + 1) (2 * n) reqs resps virt.work passed

-- the driver
pub record DriverAt (mo : Moment Member) (passed : Passed) (n : ℕ) : Type 0 where
  pub driver : BusDriver
  pub there : slice_get mo.actors (n + 1) ≡ Some (Members.Driver driver)
  pub takes : driver.driver.pipes.first.input.queue.0 ≡ 2 * n
  pub hands_on : driver.driver.pipes.first.output.queue.0 ≡ 2 * n + 2
  pub takes_back : driver.driver.pipes.rest.input.queue.0 ≡ 2 * n + 3
  pub hands_back : driver.driver.pipes.rest.output.queue.0 ≡ 2 * n + 1
  pub fits : FitsPipes (end_at mo.world) (pipes_of driver)
  pub there_is : passed.taken (2 * n) ≡ passed.sent (2 * n + 2) ++ option_to_list driver.driver.pipes.first.load
  pub back_is : passed.taken (2 * n + 3) ≡ passed.sent (2 * n + 1) ++ option_to_list driver.driver.pipes.rest.load

-- the bus itself
pub record BusAt (mo : Moment Member) (passed : Passed) (n : ℕ) (devices : List ℕ) : Type 0 where
  pub bus : BusDevice
  pub there : slice_get mo.actors (n + 2) ≡ Some (Members.Bus bus)
  pub input : bus.input.queue.0 ≡ 2 * n + 2
  pub output : bus.output.queue.0 ≡ 2 * n + 3
  pub fits : FitsBus (end_at mo.world) bus
  pub requests : List Cargo
  pub taken : passed.taken (2 * n + 2) ≡ requests ++ option_to_list bus.stray
  pub answered : passed.sent (2 * n + 3) ++ option_to_list bus.load ≡ answers_to (new_devices devices) requests
  pub out_of_turn : ForSome bus.stray (λ x. is_bus_request x ≡ false)

-- all of them, where what was taken from a queue are the first of what was put there
pub record Stage (bus : Bus) (mo : Moment Member) (passed : Passed) : Type 0 where
  pub reqs : List QueueId
  pub resps : List QueueId
  pub reqs_are : AreEverySecond 0 bus.clients reqs
  pub resps_are : AreEverySecond 1 bus.clients resps
  pub each : length bus.asks ≡ bus.clients
  pub clients : (c : ℕ) → c < bus.clients → ClientAt mo passed c (script_of bus c)
  pub virt : VirtAt mo passed bus.clients reqs resps
  pub driver : DriverAt mo passed bus.clients
  pub bus_itself : BusAt mo passed bus.clients bus.devices
  pub flows : (q : ℕ) → passed.sent q ≡ passed.taken q ++ (queue_at mo.world q).entries

-- the clauses of the law on tales that this stands on
pub record Laws : Type 0 where
  pub last : (rows : List QueueRow) (start : List Member) (turns : List (Turn Member)) → Begins member_means rows start → IsTale member_means (start_of rows start) turns → Holds member_means rows (after_tale (start_of rows start) turns) (passed_by turns) (journal_of turns)
  pub count : (moment : Moment Member) (turns : List (Turn Member)) → IsTale member_means moment turns → length (after_tale moment turns).actors ≡ length moment.actors
  pub parts : (moment : Moment Member) (turns : List (Turn Member)) → IsTale member_means moment turns → (k : ℕ) (x y : Member) → slice_get moment.actors k ≡ Some x → slice_get (after_tale moment turns).actors k ≡ Some y → made_of y ≡ made_of x

module _ (laws : Laws) (bus : Bus) (rows : List QueueRow) (start : List Member) (turns : List (Turn Member)) (play : IsBusTale bus rows start turns) where
  abbrev n : ℕ
  n = bus.clients

  abbrev mo : Moment Member
  mo = after_tale (start_of rows start) turns

  abbrev passed : Passed
  passed = passed_by turns

  pub holds_now : Holds member_means rows mo passed (journal_of turns)
  holds_now = laws.last rows start turns play.begins play.tale

  pub now_many : length mo.actors ≡ length start
  now_many = laws.count (start_of rows start) turns play.tale

  -- who stands at a place now
  record Now (k : ℕ) (made : Made) : Type 0 where
    pub actor : Member
    pub there : slice_get mo.actors k ≡ Some actor
    pub made_is : made_of actor ≡ made

  now_at : (k : ℕ) (made : Made) → StandsAt start k made → Now k made
  now_at k made s =
      let lt = there_below start k s.actor s.there in
      let many = now_many in
      let y = there_is mo.actors k (omega (arith, lt, many)) in
      record {
        actor = y.0;
        there = y.1;
        made_is = laws.parts (start_of rows start) turns play.tale k s.actor y.0 s.there y.1 ∙ s.made_is;
      }

  client_now : (c : ℕ) (script : List BusAsk) → Now c (Asks (2 * c) (2 * c + 1) (record { 0 = c }) script) → ClientAt mo passed c script
  client_now c script s =
      let x = client_of s.actor (2 * c) (2 * c + 1) (record { 0 = c }) script s.made_is in
      let stands : MemberStandsFor (Members.Client x.0) passed = subst (λ y. MemberStandsFor y passed) x.1 (holds_now.stands c s.actor s.there) in
      record {
        client = x.0;
        there = s.there ∙ ap (λ (y : Member). Some y) x.1;
        req = x.2;
        resp = x.3;
        pool = x.4;
        script_is = x.5;
        fits = subst (λ y. FitsMember (end_at mo.world) y) x.1 (holds_now.fits c s.actor s.there);
        stands = subst (λ q. ClientStands q (2 * c) x.0.asking x.0.stray passed) x.3 (subst (λ q. ClientStands x.0.responses.queue.0 q x.0.asking x.0.stray passed) x.2 stands);
      }

  virt_now : (reqs resps : List QueueId) → Now n (Serves (2 * n) (2 * n + 1) reqs resps n) → VirtAt mo passed n reqs resps
  virt_now reqs resps s =
      let v = virt_of s.actor (2 * n) (2 * n + 1) reqs resps n s.made_is in
      let stands : MemberStandsFor (Members.Virt v.0) passed = subst (λ y. MemberStandsFor y passed) v.1 (holds_now.stands n s.actor s.there) in
      record {
        virt = v.0;
        there = s.there ∙ ap (λ (y : Member). Some y) v.1;
        output = v.2;
        input = v.3;
        from = v.4;
        to = v.5;
        many = v.6;
        fits = subst (λ y. FitsMember (end_at mo.world) y) v.1 (holds_now.fits n s.actor s.there);
        stands =
            subst (λ q. VirtStands q (2 * n) reqs resps v.0.work passed) v.3
            (subst (λ q. VirtStands v.0.ends.input.queue.0 q reqs resps v.0.work passed) v.2
            (subst (λ l. VirtStands v.0.ends.input.queue.0 v.0.ends.output.queue.0 l resps v.0.work passed) v.4
            (subst (λ l. VirtStands v.0.ends.input.queue.0 v.0.ends.output.queue.0 (from_queues v.0.ends) l v.0.work passed) v.5 stands)));
      }

  heads : {a b c d : ℕ} → a ∷ b ∷ [] ≡ c ∷ d ∷ [] → (a ≡ c) × (b ≡ d)
  heads h = (cc, cc)

  driver_now : Now (n + 1) (Copies ((2 * n) ∷ (2 * n + 3) ∷ []) ((2 * n + 2) ∷ (2 * n + 1) ∷ [])) → DriverAt mo passed n
  driver_now s =
      let d = driver_of s.actor ((2 * n) ∷ (2 * n + 3) ∷ []) ((2 * n + 2) ∷ (2 * n + 1) ∷ []) s.made_is in
      let stands : MemberStandsFor (Members.Driver d.0) passed = subst (λ y. MemberStandsFor y passed) d.1 (holds_now.stands (n + 1) s.actor s.there) in
      let i = heads d.2 in
      let o = heads d.3 in
      let first : List Cargo = option_to_list d.0.driver.pipes.first.load in
      let rest : List Cargo = option_to_list d.0.driver.pipes.rest.load in
      record {
        driver = d.0;
        there = s.there ∙ ap (λ (y : Member). Some y) d.1;
        takes = i.0;
        hands_on = o.0;
        takes_back = i.1;
        hands_back = o.1;
        fits = subst (λ y. FitsMember (end_at mo.world) y) d.1 (holds_now.fits (n + 1) s.actor s.there);
        there_is = ap passed.taken (sym i.0) ∙ (stands.0 ∙ ap (λ q. passed.sent q ++ first) o.0);
        back_is = ap passed.taken (sym i.1) ∙ (stands.1.0 ∙ ap (λ q. passed.sent q ++ rest) o.1);
      }

  bus_now : Now (n + 2) (Answers (2 * n + 2) (2 * n + 3) bus.devices) → BusAt mo passed n bus.devices
  bus_now s =
      let b = bus_of s.actor (2 * n + 2) (2 * n + 3) bus.devices s.made_is in
      let stands : BusStandsFor b.0 passed = subst (λ y. MemberStandsFor y passed) b.1 (holds_now.stands (n + 2) s.actor s.there) in
      record {
        bus = b.0;
        there = s.there ∙ ap (λ (y : Member). Some y) b.1;
        input = b.2;
        output = b.3;
        fits = subst (λ y. FitsMember (end_at mo.world) y) b.1 (holds_now.fits (n + 2) s.actor s.there);
        requests = stands.requests;
        taken = ap passed.taken (sym b.2) ∙ stands.taken;
        answered = ap (λ q. passed.sent q ++ option_to_list b.0.load) (sym b.3) ∙ (stands.answered ∙ ap (λ a. answers_to (new_devices a) stands.requests) b.4);
        out_of_turn = stands.out_of_turn;
      }

  pub stage_now : Stage bus mo passed
  stage_now = record {
    reqs = play.made.reqs;
    resps = play.made.resps;
    reqs_are = play.made.reqs_are;
    resps_are = play.made.resps_are;
    each = play.made.each;
    clients = λ c lt.
        let many = play.made.each in
        let asks = there_is bus.asks c (omega (arith, lt, many)) in
        subst (ClientAt mo passed c) (sym (get_or_from_slice_get bus.asks c asks.0 [] asks.1)) (client_now c asks.0 (now_at c _ (play.made.clients c asks.0 asks.1)));
    virt = virt_now play.made.reqs play.made.resps (now_at n _ play.made.virt);
    driver = driver_now (now_at (n + 1) _ play.made.driver);
    bus_itself = bus_now (now_at (n + 2) _ play.made.bus_itself);
    flows = holds_now.stands_there;
  }
