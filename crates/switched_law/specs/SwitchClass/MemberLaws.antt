-- The laws of these meanings: each actor looks at its own ends alone.
use Rattle.std.proofs.Common.{◌≡◌, ◌==◌, ◌&&◌, ◌++◌, ◌+◌, ℕ, zero, suc, inl, inr, true, false, Some, List, [], ◌∷◌, length, map, slice_get, refl, sym, ap, ◌∙◌, subst, ne_eqb, arith}
use Rattle.std.specs.List.{AllByRecursion}
use Rattle.std.proofs.lemmas.Bool.{cases_Bool}
use Rattle.std.proofs.lemmas.List.{append-nil, length-map}
use Rattle.wire_core.specs.declared.names.QueueId.{QueueId}
use Rattle.wire_core.specs.declared.names.Op.{Op}
use Rattle.wire_core.specs.declared.names.Op.TheVariants as Do
use Rattle.wire_core.specs.Ends.{Role, Consumer, Producer, End, role_of}
use Rattle.wire_core.specs.Deeds.{Deed, Cargo}
use Rattle.wire_core.specs.Lists.{Passed, with_deed}
use Rattle.wire_core.proofs.Beside.{take_beside, put_beside}
use Rattle.turn_kit.specs.Table.{Agrees}
use Rattle.turn_kit.specs.Turns.{Post}
use Rattle.turn_kit.specs.Posts.{intake_post, outlet_post}
use Rattle.turn_kit.specs.ManyEnds.{FitsIntakes, FitsOutlets, intake_posts, outlet_posts}
use Rattle.turn_kit.specs.declared.ends.Intake.{Intake}
use Rattle.turn_kit.specs.declared.ends.Outlet.{Outlet}
use Rattle.turn_kit.specs.declared.intakes.Intakes.{Intakes}
use Rattle.turn_kit.specs.declared.outlets.Outlets.{Outlets}
use Rattle.turn_kit.proofs.Offers.{get_map}
use Rattle.buffer_kit.specs.Clients.{queue_at}
use Rattle.buffer_kit.proofs.ManyClients.{queue_there, none_if, some_eq}
use Rattle.buffer_kit.proofs.TwoLists.{get_front, get_behind}
use Rattle.client_programs.specs.declared.net.NetClient.{NetClient}
use Rattle.client_programs.specs.Net.Clients.{FitsClient, ClientStandsFor, ClientHolds, rx_active, rx_free, tx_active, tx_free}
use Rattle.net_switch.specs.declared.switch.NetSwitch.{NetSwitch}
use Rattle.net_switch.specs.Ends.{is_take, come_queues, back_queues, room_queues, copy_queues}
use Rattle.net_switch.specs.Switching.{FitsSwitch, SwitchStandsFor}
use Rattle.net_switch.proofs.Takes.{takes}
use Rattle.net_switch.proofs.Steps.{goes_on_off, desk_stays, same_desk}
use Rattle.small_system.specs.Meanings.{Own, Lawful}
use Rattle.switched_law.specs.declared.switch_class.member.Member.{Member}
use Rattle.switched_law.specs.declared.switch_class.member.Member.TheVariants as Members
use Rattle.switched_law.specs.SwitchClass.Members.{FitsMember, MemberStandsFor, member_round, member_means}

-- the four ends of a client
pub own_frames : (c : NetClient) (r : Role) (n : ℕ) → r ≡ Consumer → n ≡ rx_active c → Own member_means (Members.Client c) r n
own_frames c r n e q = record { place = 0; post = intake_post c.frames.pipe.input; there = refl; queue = sym q; role = sym e }

pub own_gives : (c : NetClient) (r : Role) (n : ℕ) → r ≡ Producer → n ≡ rx_free c → Own member_means (Members.Client c) r n
own_gives c r n e q = record { place = 1; post = outlet_post c.frames.pipe.output; there = refl; queue = sym q; role = sym e }

pub own_sent : (c : NetClient) (r : Role) (n : ℕ) → r ≡ Consumer → n ≡ tx_free c → Own member_means (Members.Client c) r n
own_sent c r n e q = record { place = 2; post = intake_post c.sent; there = refl; queue = sym q; role = sym e }

pub own_send : (c : NetClient) (r : Role) (n : ℕ) → r ≡ Producer → n ≡ tx_active c → Own member_means (Members.Client c) r n
own_send c r n e q = record { place = 3; post = outlet_post c.send; there = refl; queue = sym q; role = sym e }

-- the four sorts of ends of a switch
posts_of_intakes : (xs : Intakes) → length (intake_posts xs) ≡ length xs.ends.items
posts_of_intakes xs = length-map xs.ends.items intake_post

pub own_come : (v : NetSwitch) (k : ℕ) (i : Intake) (r : Role) (n : ℕ) → slice_get v.ends.come.ends.items k ≡ Some i → r ≡ Consumer → n ≡ i.queue.0 → Own member_means (Members.Switch v) r n
own_come v k i r n at e q = record {
  place = k;
  post = intake_post i;
  there = get_front (intake_posts v.ends.come) (outlet_posts v.ends.back ++ (intake_posts v.ends.room ++ outlet_posts v.ends.copy)) k (intake_post i) (get_map intake_post v.ends.come.ends.items k i at);
  queue = sym q;
  role = sym e;
}

pub own_back : (v : NetSwitch) (k : ℕ) (o : Outlet) (r : Role) (n : ℕ) → slice_get v.ends.back.ends.items k ≡ Some o → r ≡ Producer → n ≡ o.queue.0 → Own member_means (Members.Switch v) r n
own_back v k o r n at e q = record {
  place = length (intake_posts v.ends.come) + k;
  post = outlet_post o;
  there = get_behind (intake_posts v.ends.come) (outlet_posts v.ends.back ++ (intake_posts v.ends.room ++ outlet_posts v.ends.copy)) k
      ∙ get_front (outlet_posts v.ends.back) (intake_posts v.ends.room ++ outlet_posts v.ends.copy) k (outlet_post o) (get_map outlet_post v.ends.back.ends.items k o at);
  queue = sym q;
  role = sym e;
}

pub own_room : (v : NetSwitch) (k : ℕ) (i : Intake) (r : Role) (n : ℕ) → slice_get v.ends.room.ends.items k ≡ Some i → r ≡ Consumer → n ≡ i.queue.0 → Own member_means (Members.Switch v) r n
own_room v k i r n at e q = record {
  place = length (intake_posts v.ends.come) + (length (outlet_posts v.ends.back) + k);
  post = intake_post i;
  there = get_behind (intake_posts v.ends.come) (outlet_posts v.ends.back ++ (intake_posts v.ends.room ++ outlet_posts v.ends.copy)) (length (outlet_posts v.ends.back) + k)
      ∙ (get_behind (outlet_posts v.ends.back) (intake_posts v.ends.room ++ outlet_posts v.ends.copy) k
      ∙ get_front (intake_posts v.ends.room) (outlet_posts v.ends.copy) k (intake_post i) (get_map intake_post v.ends.room.ends.items k i at));
  queue = sym q;
  role = sym e;
}

pub own_copy : (v : NetSwitch) (k : ℕ) (o : Outlet) (r : Role) (n : ℕ) → slice_get v.ends.copy.ends.items k ≡ Some o → r ≡ Producer → n ≡ o.queue.0 → Own member_means (Members.Switch v) r n
own_copy v k o r n at e q = record {
  place = length (intake_posts v.ends.come) + (length (outlet_posts v.ends.back) + (length (intake_posts v.ends.room) + k));
  post = outlet_post o;
  there = get_behind (intake_posts v.ends.come) (outlet_posts v.ends.back ++ (intake_posts v.ends.room ++ outlet_posts v.ends.copy)) (length (outlet_posts v.ends.back) + (length (intake_posts v.ends.room) + k))
      ∙ (get_behind (outlet_posts v.ends.back) (intake_posts v.ends.room ++ outlet_posts v.ends.copy) (length (intake_posts v.ends.room) + k)
      ∙ (get_behind (intake_posts v.ends.room) (outlet_posts v.ends.copy) k ∙ get_map outlet_post v.ends.copy.ends.items k o at));
  queue = sym q;
  role = sym e;
}

-- the end of a queue of a list
intake_at : (xs : List Intake) (k : ℕ) (q : QueueId) → slice_get (map (λ (i : Intake). i.queue) xs) k ≡ Some q → (i : Intake) × (slice_get xs k ≡ Some i) × (i.queue ≡ q)
intake_at [] k q at = cc
intake_at (x ∷ xs) zero q at = (x, refl, some_eq at)
intake_at (x ∷ xs) (suc k) q at = intake_at xs k q at

outlet_at : (xs : List Outlet) (k : ℕ) (q : QueueId) → slice_get (map (λ (i : Outlet). i.queue) xs) k ≡ Some q → (i : Outlet) × (slice_get xs k ≡ Some i) × (i.queue ≡ q)
outlet_at [] k q at = cc
outlet_at (x ∷ xs) zero q at = (x, refl, some_eq at)
outlet_at (x ∷ xs) (suc k) q at = outlet_at xs k q at

module _ (a b : Role → ℕ → End) where
  client_beside : (c : NetClient) → ((r : Role) (n : ℕ) → Own member_means (Members.Client c) r n → b r n ≡ a r n) → FitsClient a c → FitsClient b c
  client_beside c same f =
      let one = same Consumer (rx_active c) (own_frames c Consumer (rx_active c) refl refl) in
      let two = same Producer (rx_free c) (own_gives c Producer (rx_free c) refl refl) in
      let three = same Consumer (tx_free c) (own_sent c Consumer (tx_free c) refl refl) in
      let four = same Producer (tx_active c) (own_send c Producer (tx_active c) refl refl) in
      record {
        frames = record {
          input = subst (λ e. Agrees e c.frames.pipe.input.state) (sym one) f.frames.input;
          output = subst (λ e. Agrees e c.frames.pipe.output.state) (sym two) f.frames.output;
          kinds = ap (λ (e : End). e.kind) one ∙ (f.frames.kinds ∙ ap (λ (e : End). e.kind) (sym two));
          load = λ x e. f.frames.load x e ∙ ap (λ (e : End). e.kind) (sym two);
        };
        sent = subst (λ e. Agrees e c.sent.state) (sym three) f.sent;
        send = subst (λ e. Agrees e c.send.state) (sym four) f.send;
        gives = ap (λ (e : End). e.kind) two ∙ f.gives;
        comes_back = ap (λ (e : End). e.kind) three ∙ f.comes_back;
        sends = ap (λ (e : End). e.kind) four ∙ f.sends;
        inputs_apart = f.inputs_apart;
        outputs_apart = f.outputs_apart;
        stock = f.stock;
        outbox = f.outbox;
        script = f.script;
        record_ = f.record_;
        few = f.few;
      }

  intakes_beside : (xs : Intakes) → ((k : ℕ) (i : Intake) → slice_get xs.ends.items k ≡ Some i → b Consumer i.queue.0 ≡ a Consumer i.queue.0) → FitsIntakes a xs → FitsIntakes b xs
  intakes_beside xs same f = record {
    agrees = λ k i at. subst (λ e. Agrees e i.state) (sym (same k i at)) (f.agrees k i at);
    apart = f.apart;
  }

  outlets_beside : (xs : Outlets) → ((k : ℕ) (i : Outlet) → slice_get xs.ends.items k ≡ Some i → b Producer i.queue.0 ≡ a Producer i.queue.0) → FitsOutlets a xs → FitsOutlets b xs
  outlets_beside xs same f = record {
    agrees = λ k i at. subst (λ e. Agrees e i.state) (sym (same k i at)) (f.agrees k i at);
    apart = f.apart;
  }

  switch_beside : (v : NetSwitch) → ((r : Role) (n : ℕ) → Own member_means (Members.Switch v) r n → b r n ≡ a r n) → FitsSwitch a v → FitsSwitch b v
  switch_beside v same f =
      let come : (k : ℕ) (i : Intake) → slice_get v.ends.come.ends.items k ≡ Some i → b Consumer i.queue.0 ≡ a Consumer i.queue.0 = λ k i at. same Consumer i.queue.0 (own_come v k i Consumer i.queue.0 at refl refl) in
      let back : (k : ℕ) (i : Outlet) → slice_get v.ends.back.ends.items k ≡ Some i → b Producer i.queue.0 ≡ a Producer i.queue.0 = λ k i at. same Producer i.queue.0 (own_back v k i Producer i.queue.0 at refl refl) in
      let room : (k : ℕ) (i : Intake) → slice_get v.ends.room.ends.items k ≡ Some i → b Consumer i.queue.0 ≡ a Consumer i.queue.0 = λ k i at. same Consumer i.queue.0 (own_room v k i Consumer i.queue.0 at refl refl) in
      let copy : (k : ℕ) (i : Outlet) → slice_get v.ends.copy.ends.items k ≡ Some i → b Producer i.queue.0 ≡ a Producer i.queue.0 = λ k i at. same Producer i.queue.0 (own_copy v k i Producer i.queue.0 at refl refl) in
      record {
        ends_fit = record {
          come = intakes_beside v.ends.come come f.ends_fit.come;
          back = outlets_beside v.ends.back back f.ends_fit.back;
          room = intakes_beside v.ends.room room f.ends_fit.room;
          copy = outlets_beside v.ends.copy copy f.ends_fit.copy;
          come_net = λ k q at. (let i = intake_at v.ends.come.ends.items k q at in ap (λ (e : End). e.kind) (subst (λ (p : QueueId). b Consumer p.0 ≡ a Consumer p.0) i.2 (come k i.0 i.1)) ∙ f.ends_fit.come_net k q at);
          back_net = λ k q at. (let i = outlet_at v.ends.back.ends.items k q at in ap (λ (e : End). e.kind) (subst (λ (p : QueueId). b Producer p.0 ≡ a Producer p.0) i.2 (back k i.0 i.1)) ∙ f.ends_fit.back_net k q at);
          room_net = λ k q at. (let i = intake_at v.ends.room.ends.items k q at in ap (λ (e : End). e.kind) (subst (λ (p : QueueId). b Consumer p.0 ≡ a Consumer p.0) i.2 (room k i.0 i.1)) ∙ f.ends_fit.room_net k q at);
          copy_net = λ k q at. (let i = outlet_at v.ends.copy.ends.items k q at in ap (λ (e : End). e.kind) (subst (λ (p : QueueId). b Producer p.0 ≡ a Producer p.0) i.2 (copy k i.0 i.1)) ∙ f.ends_fit.copy_net k q at);
          inputs_apart = f.ends_fit.inputs_apart;
          outputs_apart = f.ends_fit.outputs_apart;
          back_many = f.ends_fit.back_many;
          room_many = f.ends_fit.room_many;
          copy_many = f.ends_fit.copy_many;
          some = f.ends_fit.some;
          few = f.ends_fit.few;
        };
        desk = f.desk;
        ports = f.ports;
      }

pub fits_beside : (a b : Role → ℕ → End) (x : Member) → ((r : Role) (n : ℕ) → Own member_means x r n → b r n ≡ a r n) → FitsMember a x → FitsMember b x
fits_beside a b (Members.Client c) same f = client_beside a b c same f
fits_beside a b (Members.Switch v) same f = switch_beside a b v same f

still : (xs more : List Cargo) → more ≡ [] → xs ++ more ≡ xs
still xs more none = ap (λ c. xs ++ c) none ∙ append-nil xs

client_stands : (c : NetClient) (p : Passed) (d : Deed) → (Own member_means (Members.Client c) (role_of d.event.op) d.event.queue.0 → ⊥) → ClientStandsFor c p → ClientStandsFor c (with_deed p d)
client_stands c p d off st =
    let one = still (p.taken (rx_active c)) _ (take_beside d (rx_active c) (λ r n. off (own_frames c (role_of d.event.op) d.event.queue.0 r n))) in
    let two = still (p.sent (rx_free c)) _ (put_beside d (rx_free c) (λ r n. off (own_gives c (role_of d.event.op) d.event.queue.0 r n))) in
    let three = still (p.taken (tx_free c)) _ (take_beside d (tx_free c) (λ r n. off (own_sent c (role_of d.event.op) d.event.queue.0 r n))) in
    let four = still (p.sent (tx_active c)) _ (put_beside d (tx_active c) (λ r n. off (own_send c (role_of d.event.op) d.event.queue.0 r n))) in
    subst (λ l. ClientHolds c l ((with_deed p d).sent (rx_free c)) ((with_deed p d).taken (tx_free c)) ((with_deed p d).sent (tx_active c))) (sym one)
    (subst (λ l. ClientHolds c (p.taken (rx_active c)) l ((with_deed p d).taken (tx_free c)) ((with_deed p d).sent (tx_active c))) (sym two)
    (subst (λ l. ClientHolds c (p.taken (rx_active c)) (p.sent (rx_free c)) l ((with_deed p d).sent (tx_active c))) (sym three)
    (subst (λ l. ClientHolds c (p.taken (rx_active c)) (p.sent (rx_free c)) (p.taken (tx_free c)) l) (sym four) st)))

-- a take is a consumer's call
take_role : (o : Op) → is_take o ≡ true → role_of o ≡ Consumer
take_role Do.Take h = refl
take_role Do.Put h = cc
take_role Do.See h = cc
take_role Do.Room h = cc
take_role (Do.Ask s) h = cc
take_role (Do.Waive s) h = cc
take_role (Do.Wake s) h = cc
take_role (Do.Wanted s) h = cc
take_role (Do.Settle s) h = cc
take_role (Do.Ring s) h = cc
take_role (Do.Store w x) h = cc

switch_stands : (ends : Role → ℕ → End) (v : NetSwitch) (p : Passed) (d : Deed) → FitsSwitch ends v → (Own member_means (Members.Switch v) (role_of d.event.op) d.event.queue.0 → ⊥) → SwitchStandsFor v p → SwitchStandsFor v (with_deed p d)
switch_stands ends v p d f off st =
    goes_on_off v v (record { come = refl; back = refl; room = refl; copy = refl }) f.ports p d
    (λ k q at. takes_off k q at) 0 [] [] [] (desk_stays v.desk v.desk 0 (same_desk v.desk) f.desk) st
    (λ k less.
    let there = queue_there (room_queues v.ends) k (let r = f.ends_fit.room_many in omega (arith, r, less)) in
    let i = intake_at v.ends.room.ends.items k _ there in
    take_beside d (queue_at (room_queues v.ends) k) (λ r n. off (own_room v k i.0 (role_of d.event.op) d.event.queue.0 i.1 r (n ∙ sym (ap (λ (q : QueueId). q.0) i.2)))) ∙ sym (none_if (0 == k)))
    (λ k less.
    let there = queue_there (copy_queues v.ends) k (let r = f.ends_fit.copy_many in omega (arith, r, less)) in
    let i = outlet_at v.ends.copy.ends.items k _ there in
    put_beside d (queue_at (copy_queues v.ends) k) (λ r n. off (own_copy v k i.0 (role_of d.event.op) d.event.queue.0 i.1 r (n ∙ sym (ap (λ (q : QueueId). q.0) i.2)))) ∙ sym (none_if (0 == k)))
    (λ k less.
    let there = queue_there (back_queues v.ends) k (let r = f.ends_fit.back_many in omega (arith, r, less)) in
    let i = outlet_at v.ends.back.ends.items k _ there in
    put_beside d (queue_at (back_queues v.ends) k) (λ r n. off (own_back v k i.0 (role_of d.event.op) d.event.queue.0 i.1 r (n ∙ sym (ap (λ (q : QueueId). q.0) i.2)))) ∙ sym (none_if (0 == k)))
  where
    takes_off : (k : ℕ) (q : QueueId) → slice_get (come_queues v.ends) k ≡ Some q → takes q.0 d.event ≡ false
    takes_off k q at = elim (cases_Bool (is_take d.event.op)) [
      | inl is ↦
          let i = intake_at v.ends.come.ends.items k q at in
          ap (λ b. b && d.event.queue.0 == q.0) is ∙ ne_eqb d.event.queue.0 q.0 (λ n. off (own_come v k i.0 (role_of d.event.op) d.event.queue.0 i.1 (take_role d.event.op is) (n ∙ sym (ap (λ (p : QueueId). p.0) i.2))))
      | inr isnt ↦ ap (λ b. b && d.event.queue.0 == q.0) isnt
    ]

pub stands_beside : (ends : Role → ℕ → End) (p : Passed) (d : Deed) (x : Member) → FitsMember ends x → (Own member_means x (role_of d.event.op) d.event.queue.0 → ⊥) → MemberStandsFor x p → MemberStandsFor x (with_deed p d)
stands_beside ends p d (Members.Client c) f off st = client_stands c p d off st
stands_beside ends p d (Members.Switch v) f off st = switch_stands ends v p d f off st

-- at each end it waits
both : (P : Post → Type 0) (xs ys : List Post) → AllByRecursion P xs → AllByRecursion P ys → AllByRecursion P (xs ++ ys)
both P [] ys h g = g
both P (x ∷ xs) ys h g = (h.0, both P xs ys h.1 g)

intakes_wait : (xs : List Intake) → AllByRecursion (λ (p : Post). p.drops ≡ false) (map intake_post xs)
intakes_wait [] = tt
intakes_wait (x ∷ xs) = (refl, intakes_wait xs)

outlets_wait : (xs : List Outlet) → AllByRecursion (λ (p : Post). p.drops ≡ false) (map outlet_post xs)
outlets_wait [] = tt
outlets_wait (x ∷ xs) = (refl, outlets_wait xs)

pub waits : (x : Member) → AllByRecursion (λ (p : Post). p.drops ≡ false) (member_round x).posts
waits (Members.Client c) = (refl, (refl, (refl, (refl, tt))))
waits (Members.Switch v) =
    both (λ (p : Post). p.drops ≡ false) (intake_posts v.ends.come) (outlet_posts v.ends.back ++ (intake_posts v.ends.room ++ outlet_posts v.ends.copy)) (intakes_wait v.ends.come.ends.items)
    (both (λ (p : Post). p.drops ≡ false) (outlet_posts v.ends.back) (intake_posts v.ends.room ++ outlet_posts v.ends.copy) (outlets_wait v.ends.back.ends.items)
    (both (λ (p : Post). p.drops ≡ false) (intake_posts v.ends.room) (outlet_posts v.ends.copy) (intakes_wait v.ends.room.ends.items) (outlets_wait v.ends.copy.ends.items)))

-- the laws of the meanings of both kinds
pub member_lawful : Lawful member_means
member_lawful = record {
  fits_beside = fits_beside;
  stands_beside = stands_beside;
  waits = waits;
}
