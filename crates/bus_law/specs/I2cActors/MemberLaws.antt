-- The laws of these meanings: each actor looks at its own ends alone.
use Rattle.std.proofs.Common.{◌≡◌, ◌+◌, ◌++◌, ◌<◌, ◌≤◌, ℕ, zero, suc, false, Option, Some, None}
use Rattle.std.proofs.Common.{List, [], ◌∷◌, length, map, refl, sym, ap, ◌∙◌, subst, slice_get}
use Rattle.std.proofs.Common.{slice_index_or}
use Rattle.std.specs.List.{AllByRecursion}
use Rattle.std.specs.Option.{ForSome, option_map, option_to_list}
use Rattle.std.proofs.lemmas.List.{append-nil}
use Rattle.wire_core.specs.declared.names.QueueId.{QueueId}
use Rattle.wire_core.specs.Ends.{Role, Consumer, Producer, End, role_of, waiting_role}
use Rattle.wire_core.specs.Deeds.{Deed, Cargo}
use Rattle.wire_core.specs.Lists.{Passed, with_deed}
use Rattle.wire_core.proofs.Beside.{take_beside, put_beside}
use Rattle.turn_kit.specs.Table.{Agrees}
use Rattle.turn_kit.specs.Turns.{Post}
use Rattle.turn_kit.specs.Posts.{intake_post, outlet_post}
use Rattle.turn_kit.specs.Pipes.{FitsPipe, PipeStandsFor}
use Rattle.turn_kit.specs.declared.pipe.Pipe.{Pipe}
use Rattle.turn_kit.specs.declared.ends.Intake.{Intake}
use Rattle.turn_kit.specs.declared.ends.Outlet.{Outlet}
use Rattle.turn_kit.specs.ManyEnds.{intake_posts, outlet_posts}
use Rattle.buffer_kit.specs.Clients.{queue_at}
use Rattle.buffer_kit.specs.Virtualising.{from_queues, to_queues}
use Rattle.buffer_kit.proofs.ManyClients.{queue_there, some_eq}
use Rattle.buffer_kit.proofs.TwoLists.{get_front, get_behind}
use Rattle.small_system.specs.Meanings.{Own, Lawful}
use Rattle.i2c_virt.specs.declared.i2c_kit.page.TheConstants.{BUFFERS}
use Rattle.i2c_virt.specs.declared.i2c_client.client.BusClient.{BusClient}
use Rattle.i2c_virt.specs.I2cClient.Asking.{AskingStands, due_after}
use Rattle.i2c_virt.specs.I2cClient.Clients.{ClientStandsFor}
use Rattle.i2c_virt.specs.declared.virtualiser.I2cVirt.{I2cVirt}
use Rattle.i2c_virt.specs.Virtualising.{FitsI2cVirt, I2cVirtStandsFor}
use Rattle.i2c_virt.proofs.Ordering.{order_still, off_takes_none}
use Rattle.i2c_virt.proofs.Stepping.{still_at}
use Rattle.i2c_virt.specs.declared.driver.BusDriver.{BusDriver}
use Rattle.i2c_virt.specs.declared.bus_device.BusDevice.{BusDevice}
use Rattle.bus_law.specs.declared.i2c_actors.member.Member.{Member}
use Rattle.bus_law.specs.declared.i2c_actors.member.Member.TheVariants as Members
use Rattle.i2c_virt.specs.Drivers.{DriverStandsFor}
use Rattle.i2c_virt.specs.BusDevices.{BusStandsFor}
use Rattle.bus_law.specs.I2cActors.Members.{FitsMember, MemberStandsFor, member_round, member_means}

-- an end of an actor by its place
own_at : (x : Member) (place : ℕ) (post : Post) → slice_get (member_round x).posts place ≡ Some post
    → (r : Role) (n : ℕ) → r ≡ waiting_role post.side → n ≡ post.queue → Own member_means x r n
own_at x place post at r n e q = record {
  place = place;
  post = post;
  there = at;
  queue = sym q;
  role = sym e;
}

still : (xs more : List Cargo) → more ≡ [] → xs ++ more ≡ xs
still xs more none = ap (λ c. xs ++ c) none ∙ append-nil xs

-- a pipe looks at its two ends
pipe_fits : (a b : Role → ℕ → End) (p : Pipe)
    → b Consumer p.input.queue.0 ≡ a Consumer p.input.queue.0
    → b Producer p.output.queue.0 ≡ a Producer p.output.queue.0 → FitsPipe a p → FitsPipe b p
pipe_fits a b p i o f = record {
  input = subst (λ e. Agrees e p.input.state) (sym i) f.input;
  output = subst (λ e. Agrees e p.output.state) (sym o) f.output;
  kinds = ap (λ (e : End). e.kind) i ∙ (f.kinds ∙ ap (λ (e : End). e.kind) (sym o));
  load = λ x at. f.load x at ∙ ap (λ (e : End). e.kind) (sym o);
}

pipe_stands : (p : Pipe) (passed : Passed) (d : Deed)
    → (role_of d.event.op ≡ Consumer → d.event.queue.0 ≡ p.input.queue.0 → ⊥)
    → (role_of d.event.op ≡ Producer → d.event.queue.0 ≡ p.output.queue.0 → ⊥)
    → PipeStandsFor p passed → PipeStandsFor p (with_deed passed d)
pipe_stands p passed d off_in off_out st =
    still (passed.taken p.input.queue.0) _ (take_beside d p.input.queue.0 off_in)
    ∙ (st ∙ ap (λ xs. xs ++ option_to_list p.load) (sym (still (passed.sent p.output.queue.0) _
    (put_beside d p.output.queue.0 off_out))))

-- an entry of a list that was mapped
map_at : {X Y : Type 0} (f : X → Y) (xs : List X) (k : ℕ)
    → slice_get (map f xs) k ≡ option_map f (slice_get xs k)
map_at f [] k = refl
map_at f (y ∷ xs) zero = refl
map_at f (y ∷ xs) (suc k) = map_at f xs k

get_map : {X Y : Type 0} (f : X → Y) (xs : List X) (k : ℕ) (x : X) → slice_get xs k ≡ Some x
    → slice_get (map f xs) k ≡ Some (f x)
get_map f xs k x at = map_at f xs k ∙ ap (option_map f) at

-- nothing is there
abbrev Nothing : {X : Type 0} → Option X → Type 0
Nothing None = Unit {0}
Nothing (Some x) = ⊥

-- what it was
unmapped : {X Y : Type 0} (f : X → Y) (o : Option X) (y : Y) → option_map f o ≡ Some y
    → (x : X) × (o ≡ Some x) × (f x ≡ y)
unmapped f None y h = absurd (subst Nothing h tt)
unmapped f (Some x) y h = (x, refl, some_eq h)

get_unmap : {X Y : Type 0} (f : X → Y) (xs : List X) (k : ℕ) (y : Y)
    → slice_get (map f xs) k ≡ Some y → (x : X) × (slice_get xs k ≡ Some x) × (f x ≡ y)
get_unmap f xs k y at = unmapped f (slice_get xs k) y (sym (map_at f xs k) ∙ at)

-- the ends of the virtualiser at client k
own_from : (v : I2cVirt) (k : ℕ) (i : Intake) → slice_get v.ends.from_clients.ends.items k ≡ Some i
    → (r : Role) (n : ℕ) → r ≡ Consumer → n ≡ i.queue.0 → Own member_means (Members.Virt v) r n
own_from v k i at r n role is =
    own_at (Members.Virt v) (suc (suc k)) (intake_post i)
    (get_front (intake_posts v.ends.from_clients) (outlet_posts v.ends.to_clients) k (intake_post i)
    (get_map intake_post v.ends.from_clients.ends.items k i at)) r n role is

own_to : (v : I2cVirt) (k : ℕ) (o : Outlet) → slice_get v.ends.to_clients.ends.items k ≡ Some o
    → (r : Role) (n : ℕ) → r ≡ Producer → n ≡ o.queue.0 → Own member_means (Members.Virt v) r n
own_to v k o at r n role is =
    own_at (Members.Virt v) (suc (suc (length (intake_posts v.ends.from_clients) + k)))
    (outlet_post o)
    (get_behind (intake_posts v.ends.from_clients) (outlet_posts v.ends.to_clients) k
    ∙ get_map outlet_post v.ends.to_clients.ends.items k o at) r n role is

-- the same by the queue
own_from_queue : (v : I2cVirt) (k : ℕ) (q : QueueId) → slice_get (from_queues v.ends) k ≡ Some q
    → (r : Role) (n : ℕ) → r ≡ Consumer → n ≡ q.0 → Own member_means (Members.Virt v) r n
own_from_queue v k q at r n role is =
    let i = get_unmap (λ (i : Intake). i.queue) v.ends.from_clients.ends.items k q at in
    own_from v k i.0 i.1 r n role (is ∙ ap (λ (x : QueueId). x.0) (sym i.2))

own_to_queue : (v : I2cVirt) (k : ℕ) (q : QueueId) → slice_get (to_queues v.ends) k ≡ Some q
    → (r : Role) (n : ℕ) → r ≡ Producer → n ≡ q.0 → Own member_means (Members.Virt v) r n
own_to_queue v k q at r n role is =
    let o = get_unmap (λ (o : Outlet). o.queue) v.ends.to_clients.ends.items k q at in
    own_to v k o.0 o.1 r n role (is ∙ ap (λ (x : QueueId). x.0) (sym o.2))

-- the virtualiser looks at its own ends
virt_fits : (a b : Role → ℕ → End) (v : I2cVirt)
    → ((r : Role) (n : ℕ) → Own member_means (Members.Virt v) r n → b r n ≡ a r n)
    → FitsI2cVirt a v → FitsI2cVirt b v
virt_fits a b v same f =
    let own = own_at (Members.Virt v) in
    let i = same Consumer v.ends.input.queue.0
    (own 0 (intake_post v.ends.input) refl Consumer v.ends.input.queue.0 refl refl) in
    let o = same Producer v.ends.output.queue.0
    (own 1 (outlet_post v.ends.output) refl Producer v.ends.output.queue.0 refl refl) in
    let e = f.ends_fit in
    record {
      ends_fit = record {
        input = subst (λ x. Agrees x v.ends.input.state) (sym i) e.input;
        output = subst (λ x. Agrees x v.ends.output.state) (sym o) e.output;
        from_clients = record {
          agrees = λ k c at. subst (λ x. Agrees x c.state)
              (sym (same Consumer c.queue.0 (own_from v k c at Consumer c.queue.0 refl refl)))
              (e.from_clients.agrees k c at);
          apart = e.from_clients.apart;
        };
        to_clients = record {
          agrees = λ k c at. subst (λ x. Agrees x c.state)
              (sym (same Producer c.queue.0 (own_to v k c at Producer c.queue.0 refl refl)))
              (e.to_clients.agrees k c at);
          apart = e.to_clients.apart;
        };
        comes = ap (λ (x : End). x.kind) i ∙ e.comes;
        goes = ap (λ (x : End). x.kind) o ∙ e.goes;
        come_from = λ k q at. ap (λ (x : End). x.kind)
            (same Consumer q.0 (own_from_queue v k q at Consumer q.0 refl refl))
            ∙ e.come_from k q at;
        go_to = λ k q at. ap (λ (x : End). x.kind)
            (same Producer q.0 (own_to_queue v k q at Producer q.0 refl refl)) ∙ e.go_to k q at;
        inputs_apart = e.inputs_apart;
        outputs_apart = e.outputs_apart;
        few_from = e.few_from;
        few_to = e.few_to;
      };
      work = f.work;
      from_each = f.from_each;
      to_each = f.to_each;
      knows = f.knows;
    }

virt_beside : (ends : Role → ℕ → End) (v : I2cVirt) (passed : Passed) (d : Deed)
    → FitsI2cVirt ends v
    → (Own member_means (Members.Virt v) (role_of d.event.op) d.event.queue.0 → ⊥)
    → I2cVirtStandsFor v passed → I2cVirtStandsFor v (with_deed passed d)
virt_beside ends v passed d fits off st =
    let own = own_at (Members.Virt v) in
    let fs = from_queues v.ends in
    let ts = to_queues v.ends in
    still_at v.ends.input.queue.0 v.ends.output.queue.0 fs ts v.work v.work passed _ _ _ st
    (take_beside d v.ends.input.queue.0
    (λ r n. off (own 0 (intake_post v.ends.input) refl _ _ r n)))
    (λ k lt. take_beside d (queue_at fs k)
    (λ r n. off (own_from_queue v k (slice_index_or fs k (record { 0 = 0 }))
    (queue_there fs k (subst (λ m. k < m) (sym fits.from_each) lt)) _ _ r n)))
    (put_beside d v.ends.output.queue.0
    (λ r n. off (own 1 (outlet_post v.ends.output) refl _ _ r n)))
    (λ k lt. put_beside d (queue_at ts k)
    (λ r n. off (own_to_queue v k (slice_index_or ts k (record { 0 = 0 }))
    (queue_there ts k (subst (λ m. k < m) (sym fits.to_each) lt)) _ _ r n)))
    (order_still fs passed.calls d.event (off_takes_none fs d.event.op d.event.queue.0
    (λ r k q at same. off (own_from_queue v k q at _ _ r (sym same)))))

client_beside : (c : BusClient) (passed : Passed) (d : Deed)
    → (Own member_means (Members.Client c) (role_of d.event.op) d.event.queue.0 → ⊥)
    → ClientStandsFor c passed → ClientStandsFor c (with_deed passed d)
client_beside c passed d off st =
    let own = own_at (Members.Client c) in
    let took = still (passed.taken c.responses.queue.0) _ (take_beside d c.responses.queue.0
    (λ r n. off (own 0 (intake_post c.responses) refl _ _ r n))) in
    let put = still (passed.sent c.requests.queue.0) _ (put_beside d c.requests.queue.0
    (λ r n. off (own 1 (outlet_post c.requests) refl _ _ r n))) in
    record {
      came = st.came;
      taken = took ∙ st.taken;
      stands = subst (λ xs. AskingStands c.asking st.came xs) (sym put) st.stands;
      in_hand = subst (λ xs. length xs ≤ length st.came + BUFFERS) (sym put) st.in_hand;
      out_of_turn = subst (λ xs. ForSome c.stray (λ y. due_after c.asking.pool (length xs)
          (length st.came) y ≡ false)) (sym put) st.out_of_turn;
    }

fits_beside : (a b : Role → ℕ → End) (x : Member)
    → ((r : Role) (n : ℕ) → Own member_means x r n → b r n ≡ a r n) → FitsMember a x
    → FitsMember b x
fits_beside a b (Members.Client c) same f =
    let own = own_at (Members.Client c) in
    let i = same Consumer c.responses.queue.0
    (own 0 (intake_post c.responses) refl Consumer c.responses.queue.0 refl refl) in
    let o = same Producer c.requests.queue.0
    (own 1 (outlet_post c.requests) refl Producer c.requests.queue.0 refl refl) in
    record {
      responses = subst (λ e. Agrees e c.responses.state) (sym i) f.responses;
      requests = subst (λ e. Agrees e c.requests.state) (sym o) f.requests;
      comes = ap (λ (e : End). e.kind) i ∙ f.comes;
      goes = ap (λ (e : End). e.kind) o ∙ f.goes;
      asking = f.asking;
    }
fits_beside a b (Members.Virt v) same f = virt_fits a b v same f
fits_beside a b (Members.Driver d) same f =
    let x = Members.Driver d in
    let p = d.driver.pipes.first in
    let q = d.driver.pipes.rest in
    let own = own_at x in
    record {
      each = (
        pipe_fits a b p
            (same _ _ (own 0 (intake_post p.input) refl Consumer p.input.queue.0 refl refl))
            (same _ _ (own 1 (outlet_post p.output) refl Producer p.output.queue.0 refl refl))
            f.each.0,
        (
          pipe_fits a b q
              (same _ _ (own 2 (intake_post q.input) refl Consumer q.input.queue.0 refl refl))
              (same _ _ (own 3 (outlet_post q.output) refl Producer q.output.queue.0 refl refl))
              f.each.1.0,
          tt,
        ),
      );
      inputs = f.inputs;
      outputs = f.outputs;
    }
fits_beside a b (Members.Bus v) same f =
    let own = own_at (Members.Bus v) in
    let i = same Consumer v.input.queue.0
    (own 0 (intake_post v.input) refl Consumer v.input.queue.0 refl refl) in
    let o = same Producer v.output.queue.0
    (own 1 (outlet_post v.output) refl Producer v.output.queue.0 refl refl) in
    record {
      input = subst (λ e. Agrees e v.input.state) (sym i) f.input;
      output = subst (λ e. Agrees e v.output.state) (sym o) f.output;
      comes = ap (λ (e : End). e.kind) i ∙ f.comes;
      goes = ap (λ (e : End). e.kind) o ∙ f.goes;
      load = f.load;
      whole = f.whole;
    }

driver_beside : (v : BusDriver) (passed : Passed) (d : Deed)
    → (Own member_means (Members.Driver v) (role_of d.event.op) d.event.queue.0 → ⊥)
    → DriverStandsFor v passed → DriverStandsFor v (with_deed passed d)
driver_beside v passed d off st =
    let p = v.driver.pipes.first in
    let q = v.driver.pipes.rest in
    let own = own_at (Members.Driver v) in (
      pipe_stands p passed d (λ r n. off (own 0 (intake_post p.input) refl _ _ r n))
          (λ r n. off (own 1 (outlet_post p.output) refl _ _ r n)) st.0,
      (
        pipe_stands q passed d (λ r n. off (own 2 (intake_post q.input) refl _ _ r n))
            (λ r n. off (own 3 (outlet_post q.output) refl _ _ r n)) st.1.0,
        tt,
      ),
    )

bus_beside : (v : BusDevice) (passed : Passed) (d : Deed)
    → (Own member_means (Members.Bus v) (role_of d.event.op) d.event.queue.0 → ⊥)
    → BusStandsFor v passed → BusStandsFor v (with_deed passed d)
bus_beside v passed d off st =
    let own = own_at (Members.Bus v) in
    record {
      requests = st.requests;
      taken = still (passed.taken v.input.queue.0) _ (take_beside d v.input.queue.0
          (λ r n. off (own 0 (intake_post v.input) refl _ _ r n))) ∙ st.taken;
      answered = ap (λ xs. xs ++ option_to_list v.load) (still (passed.sent v.output.queue.0) _
          (put_beside d v.output.queue.0
          (λ r n. off (own 1 (outlet_post v.output) refl _ _ r n)))) ∙ st.answered;
      devices = st.devices;
      in_turn = st.in_turn;
      out_of_turn = st.out_of_turn;
    }

stands_beside : (ends : Role → ℕ → End) (p : Passed) (d : Deed) (x : Member) → FitsMember ends x
    → (Own member_means x (role_of d.event.op) d.event.queue.0 → ⊥) → MemberStandsFor x p
    → MemberStandsFor x (with_deed p d)
stands_beside ends p d (Members.Client c) f off st = client_beside c p d off st
stands_beside ends p d (Members.Virt v) f off st = virt_beside ends v p d f off st
stands_beside ends p d (Members.Driver v) f off st = driver_beside v p d off st
stands_beside ends p d (Members.Bus v) f off st = bus_beside v p d off st

-- no end of the virtualiser drops
all_wait : (is : List Intake) (os : List Outlet)
    → AllByRecursion (λ (p : Post). p.drops ≡ false) (map intake_post is ++ map outlet_post os)
all_wait [] [] = tt
all_wait [] (o ∷ os) = (refl, all_wait [] os)
all_wait (i ∷ is) os = (refl, all_wait is os)

waits : (x : Member) → AllByRecursion (λ (p : Post). p.drops ≡ false) (member_round x).posts
waits (Members.Client c) = (refl, (refl, tt))
waits (Members.Virt v) = (
  refl,
  (
    refl,
    all_wait v.ends.from_clients.ends.items v.ends.to_clients.ends.items,
  ),
)
waits (Members.Driver d) = (refl, (refl, (refl, (refl, tt))))
waits (Members.Bus b) = (refl, (refl, tt))

-- the laws of the meanings of all kinds
pub member_lawful : Lawful member_means
member_lawful = record {
  fits_beside = fits_beside;
  stands_beside = stands_beside;
  waits = waits;
}
