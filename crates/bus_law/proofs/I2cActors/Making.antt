-- What the actors of a bus are made of in their start state, and which stands where.
use Rattle.std.proofs.Common.{◌≡◌, ◌+◌, ◌*◌, ◌<◌, ◌⊎◌, inl, inr, ℕ, zero, suc, Some, List, [], ◌∷◌, length, length-append, map, slice_get, refl, sym, ap, ◌∙◌, subst, arith}
use Rattle.std.proofs.lemmas.List.{length-replicate}
use Rattle.wire_core.specs.declared.names.QueueId.{QueueId}
use Rattle.turn_kit.specs.declared.ends.Intake.{Intake}
use Rattle.turn_kit.specs.declared.ends.Outlet.{Outlet}
use Rattle.buffer_kit.specs.Virtualising.{from_queues, to_queues, new_intake, new_outlet}
use Rattle.play_core.proofs.Lists.{some_is, there_is, there_below}
use Rattle.i2c_text.specs.declared.bus.Bus.{Bus}
use Rattle.i2c_text.specs.declared.bus.BusAsk.{BusAsk}
use Rattle.i2c_virt.specs.declared.i2c_client.client.BusClient.{BusClient}
use Rattle.i2c_virt.specs.declared.desk.Desk.{Desk}
use Rattle.i2c_virt.specs.declared.virtualiser.I2cVirt.{I2cVirt}
use Rattle.i2c_virt.specs.declared.driver.BusDriver.{BusDriver}
use Rattle.i2c_virt.specs.declared.bus_device.BusDevice.{BusDevice}
use Rattle.i2c_virt.specs.Desks.{new_desk}
use Rattle.bus_law.specs.declared.i2c_actors.member.Member.{Member}
use Rattle.bus_law.specs.declared.i2c_actors.member.Member.TheVariants as Members
use Rattle.bus_law.specs.I2cActors.Members.{Asks, Serves, Copies, Answers, made_of}
use Rattle.bus_law.specs.I2cActors.Casting.{StandsAt, AreMade}
use Rattle.bus_law.specs.I2cActors.Starting.{IsFresh, IsNewVirt, IsNewDriver, IsNewDevice, AreNew}
use Rattle.bus_law.proofs.I2cActors.Places.{get_split}

-- the queues of ends that were made of them
pub from_these : (qs : List QueueId) → map (λ (i : Intake). i.queue) (map new_intake qs) ≡ qs
from_these [] = refl
from_these (q ∷ qs) = ap (λ l. q ∷ l) (from_these qs)

pub to_these : (qs : List QueueId) → map (λ (o : Outlet). o.queue) (map new_outlet qs) ≡ qs
to_these [] = refl
to_these (q ∷ qs) = ap (λ l. q ∷ l) (to_these qs)

module _ (place : ℕ) (asks : List BusAsk) (c : BusClient) (f : IsFresh place asks c) where
  pub req_at : c.requests.queue.0 ≡ 2 * place
  req_at = ap (λ (o : Outlet). o.queue.0) f.new.requests

  pub resp_at : c.responses.queue.0 ≡ 2 * place + 1
  resp_at = ap (λ (i : Intake). i.queue.0) f.new.responses

  pub client_made : made_of (Members.Client c) ≡ Asks (2 * place) (2 * place + 1) (record { 0 = place }) asks
  client_made = rw (req_at, resp_at, f.new.asking.pool_is, f.new.asking.script_is) refl

module _ (clients : ℕ) (v : I2cVirt) (n : IsNewVirt clients v) where
  pub out_at : v.ends.output.queue.0 ≡ 2 * clients
  out_at = ap (λ (o : Outlet). o.queue.0) n.new.ends.output_is

  pub in_at : v.ends.input.queue.0 ≡ 2 * clients + 1
  in_at = ap (λ (i : Intake). i.queue.0) n.new.ends.input_is

  pub froms : from_queues v.ends ≡ n.reqs
  froms = ap (map (λ (i : Intake). i.queue)) n.new.ends.from_is ∙ from_these n.reqs

  pub tos : to_queues v.ends ≡ n.resps
  tos = ap (map (λ (o : Outlet). o.queue)) n.new.ends.to_is ∙ to_these n.resps

  pub desks_many : length v.work.desks.items ≡ clients
  desks_many = ap length n.new.desks ∙ (length-replicate {A = Desk} (length n.reqs) new_desk ∙ n.reqs_are.many)

  pub virt_made : made_of (Members.Virt v) ≡ Serves (2 * clients) (2 * clients + 1) n.reqs n.resps clients
  virt_made = rw (out_at, in_at, froms, tos, desks_many) refl

module _ (clients : ℕ) (d : BusDriver) (n : IsNewDriver clients d) where
  pub first_in : d.driver.pipes.first.input.queue.0 ≡ 2 * clients
  first_in = ap (λ (q : QueueId). q.0) n.requests.input

  pub first_out : d.driver.pipes.first.output.queue.0 ≡ 2 * clients + 2
  first_out = ap (λ (q : QueueId). q.0) n.requests.output

  pub rest_in : d.driver.pipes.rest.input.queue.0 ≡ 2 * clients + 3
  rest_in = ap (λ (q : QueueId). q.0) n.answers.input

  pub rest_out : d.driver.pipes.rest.output.queue.0 ≡ 2 * clients + 1
  rest_out = ap (λ (q : QueueId). q.0) n.answers.output

  pub driver_made : made_of (Members.Driver d) ≡ Copies ((2 * clients) ∷ (2 * clients + 3) ∷ []) ((2 * clients + 2) ∷ (2 * clients + 1) ∷ [])
  driver_made = rw (first_in, first_out, rest_in, rest_out) refl

module _ (clients : ℕ) (addresses : List ℕ) (b : BusDevice) (n : IsNewDevice clients addresses b) where
  pub bus_in : b.input.queue.0 ≡ 2 * clients + 2
  bus_in = ap (λ (i : Intake). i.queue.0) n.new.input

  pub bus_out : b.output.queue.0 ≡ 2 * clients + 3
  bus_out = ap (λ (o : Outlet). o.queue.0) n.new.output

  pub device_made : made_of (Members.Bus b) ≡ Answers (2 * clients + 2) (2 * clients + 3) addresses
  device_made = rw (bus_in, bus_out, n.new.addresses_are) refl

-- an actor of a bus by its place: one of the clients, the virtualiser, the driver or the bus
pub data Who (clients : ℕ) (asks : List (List BusAsk)) (v : I2cVirt) (d : BusDriver) (b : BusDevice) (k : ℕ) (x : Member) : Type 0 where
  Asker : (script : List BusAsk) → (c : BusClient) → k < clients → slice_get asks k ≡ Some script → Members.Client c ≡ x → IsFresh k script c → Who clients asks v d b k x
  Hub : k ≡ clients → Members.Virt v ≡ x → Who clients asks v d b k x
  Copier : k ≡ clients + 1 → Members.Driver d ≡ x → Who clients asks v d b k x
  Device : k ≡ clients + 2 → Members.Bus b ≡ x → Who clients asks v d b k x

module _ (bus : Bus) (members : List Member) (n : AreNew bus members) where
  abbrev last : List Member
  last = Members.Virt n.virt ∷ Members.Driver n.driver ∷ Members.Bus n.device ∷ []

  clients_many : length n.clients ≡ bus.clients
  clients_many = n.fresh.many ∙ n.each

  pub members_many : length members ≡ bus.clients + 3
  members_many = let e = ap length n.members_are ∙ length-append n.clients last in let c : length n.clients ≡ bus.clients = clients_many in omega (arith, e, c)

  pub who : (k : ℕ) (x : Member) → slice_get members k ≡ Some x → Who bus.clients bus.asks n.virt n.driver n.device k x
  who k x at = by (get_split n.clients last k x (ap (λ l. slice_get l k) (sym n.members_are) ∙ at))
    where
      behind : (j : ℕ) → slice_get last j ≡ Some x → k ≡ length n.clients + j → Who bus.clients bus.asks n.virt n.driver n.device k x
      behind zero there e = let c : length n.clients ≡ bus.clients = clients_many in Hub (omega (arith, e, c)) (some_is there)
      behind (suc zero) there e = let c : length n.clients ≡ bus.clients = clients_many in Copier (omega (arith, e, c)) (some_is there)
      behind (suc (suc zero)) there e = let c : length n.clients ≡ bus.clients = clients_many in Device (omega (arith, e, c)) (some_is there)
      behind (suc (suc (suc j))) there e = cc

      by : (slice_get n.clients k ≡ Some x) ⊎ ((j : ℕ) × (slice_get last j ≡ Some x) × (k ≡ length n.clients + j)) → Who bus.clients bus.asks n.virt n.driver n.device k x
      by (inl h) =
          let f = n.fresh.each k x h in
          let lt : k < length n.clients = there_below n.clients k x h in
          let c : length n.clients ≡ bus.clients = clients_many in
          Asker f.0 f.2.client (omega (arith, lt, c)) f.1 (sym f.2.is) f.2.fresh
      by (inr h) = behind h.0 h.1 h.2

  -- and the other way
  pub there_at : (k : ℕ) → k < bus.clients + 3 → (x : Member) × (slice_get members k ≡ Some x)
  there_at k lt = let m : length members ≡ bus.clients + 3 = members_many in there_is members k (omega (arith, lt, m))

  client_stands : (c : ℕ) (asks : List BusAsk) → slice_get bus.asks c ≡ Some asks → StandsAt members c (Asks (2 * c) (2 * c + 1) (record { 0 = c }) asks)
  client_stands c asks at =
      let lt : c < length bus.asks = there_below bus.asks c asks at in
      let m : length bus.asks ≡ bus.clients = n.each in
      let x = there_at c (omega (arith, lt, m)) in
      by x.0 x.1 (omega (arith, lt, m)) (who c x.0 x.1)
    where
      by : (x : Member) → slice_get members c ≡ Some x → c < bus.clients → Who bus.clients bus.asks n.virt n.driver n.device c x → StandsAt members c (Asks (2 * c) (2 * c + 1) (record { 0 = c }) asks)
      by x there lt (Asker script client l has is f) = record { actor = x; there = there; made_is = subst (λ y. made_of y ≡ Asks (2 * c) (2 * c + 1) (record { 0 = c }) asks) is (subst (λ s. made_of (Members.Client client) ≡ Asks (2 * c) (2 * c + 1) (record { 0 = c }) s) (some_is (sym has ∙ at)) (client_made c script client f)) }
      by x there lt (Hub e is) = absurd (omega (arith, lt, e))
      by x there lt (Copier e is) = absurd (omega (arith, lt, e))
      by x there lt (Device e is) = absurd (omega (arith, lt, e))

  virt_stands : StandsAt members bus.clients (Serves (2 * bus.clients) (2 * bus.clients + 1) n.new_virt.reqs n.new_virt.resps bus.clients)
  virt_stands = let x = there_at bus.clients (omega arith) in by x.0 x.1 (who bus.clients x.0 x.1)
    where
      by : (x : Member) → slice_get members bus.clients ≡ Some x → Who bus.clients bus.asks n.virt n.driver n.device bus.clients x → StandsAt members bus.clients (Serves (2 * bus.clients) (2 * bus.clients + 1) n.new_virt.reqs n.new_virt.resps bus.clients)
      by x there (Asker script client l has is f) = absurd (omega (arith, l))
      by x there (Hub e is) = record { actor = x; there = there; made_is = ap made_of (sym is) ∙ virt_made bus.clients n.virt n.new_virt }
      by x there (Copier e is) = absurd (omega (arith, e))
      by x there (Device e is) = absurd (omega (arith, e))

  driver_stands : StandsAt members (bus.clients + 1) (Copies ((2 * bus.clients) ∷ (2 * bus.clients + 3) ∷ []) ((2 * bus.clients + 2) ∷ (2 * bus.clients + 1) ∷ []))
  driver_stands = let x = there_at (bus.clients + 1) (omega arith) in by x.0 x.1 (who (bus.clients + 1) x.0 x.1)
    where
      by : (x : Member) → slice_get members (bus.clients + 1) ≡ Some x → Who bus.clients bus.asks n.virt n.driver n.device (bus.clients + 1) x → StandsAt members (bus.clients + 1) (Copies ((2 * bus.clients) ∷ (2 * bus.clients + 3) ∷ []) ((2 * bus.clients + 2) ∷ (2 * bus.clients + 1) ∷ []))
      by x there (Asker script client l has is f) = absurd (omega (arith, l))
      by x there (Hub e is) = absurd (omega (arith, e))
      by x there (Copier e is) = record { actor = x; there = there; made_is = ap made_of (sym is) ∙ driver_made bus.clients n.driver n.new_driver }
      by x there (Device e is) = absurd (omega (arith, e))

  device_stands : StandsAt members (bus.clients + 2) (Answers (2 * bus.clients + 2) (2 * bus.clients + 3) bus.devices)
  device_stands = let x = there_at (bus.clients + 2) (omega arith) in by x.0 x.1 (who (bus.clients + 2) x.0 x.1)
    where
      by : (x : Member) → slice_get members (bus.clients + 2) ≡ Some x → Who bus.clients bus.asks n.virt n.driver n.device (bus.clients + 2) x → StandsAt members (bus.clients + 2) (Answers (2 * bus.clients + 2) (2 * bus.clients + 3) bus.devices)
      by x there (Asker script client l has is f) = absurd (omega (arith, l))
      by x there (Hub e is) = absurd (omega (arith, e))
      by x there (Copier e is) = absurd (omega (arith, e))
      by x there (Device e is) = record { actor = x; there = there; made_is = ap made_of (sym is) ∙ device_made bus.clients bus.devices n.device n.new_device }

  pub are_made : AreMade bus members
  are_made = record {
    many = members_many;
    each = n.each;
    clients = client_stands;
    reqs = n.new_virt.reqs;
    resps = n.new_virt.resps;
    reqs_are = n.new_virt.reqs_are;
    resps_are = n.new_virt.resps_are;
    virt = virt_stands;
    driver = driver_stands;
    bus_itself = device_stands;
  }
