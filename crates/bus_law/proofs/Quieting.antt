use Rattle.std.proofs.Common.{◌≡◌, ◌⊎◌, inl, inr, ◌&&◌, ◌||◌, ◌+◌, ◌*◌, ◌<◌, ◌++◌, ℕ, zero, suc, Bool, true, false, cond, is_some, is_none, Option, Some, None, List, [], ◌∷◌, length, length-append, slice_get, refl, sym, ap, ◌∙◌, subst, arith, append-nil}
use Rattle.std.specs.Option.{option_to_list}
use Rattle.std.specs.List.{list_any}
use Rattle.std.proofs.lemmas.List.{length-map}
use Rattle.cargo_core.specs.Lists.{IsPrefix}
use Rattle.cargo_core.specs.declared.item.Item.{Item}
use Rattle.wire_core.specs.declared.names.Entry.{Entry}
use Rattle.wire_core.specs.declared.names.QueueRow.{QueueRow}
use Rattle.wire_core.specs.Deeds.{Cargo}
use Rattle.wire_core.specs.Ends.{Consumer, Producer}
use Rattle.wire_core.specs.Lists.{Passed}
use Rattle.wire_core.specs.Queues.{items_of}
use Rattle.wire_core.specs.Journal.{History, Hostiles, nobody, is_calm, track, start_history}
use Rattle.buffer_kit.specs.Clients.{is_so}
use Rattle.play_core.specs.Wants.{Needful}
use Rattle.play_core.specs.Resting.{QueueRests}
use Rattle.play_core.specs.Still.{IsStill, Needs, Owes, HasWant}
use Rattle.small_system.specs.Tales.{Moment}
use Rattle.small_system.specs.Standing.{Holds}
use Rattle.i2c_text.specs.declared.bus.Bus.{Bus}
use Rattle.i2c_text.specs.declared.bus.BusAsk.{BusAsk}
use Rattle.i2c_virt.specs.declared.i2c_kit.alone.Request.{Request}
use Rattle.i2c_virt.specs.declared.i2c_kit.device.Device.{Device}
use Rattle.i2c_virt.specs.I2cKit.Devices.{new_devices}
use Rattle.i2c_virt.specs.I2cKit.Replies.{alone_from, replies_alone, reached_after, is_claimed}
use Rattle.i2c_virt.specs.I2cKit.Devices.{address_of}
use Rattle.i2c_virt.specs.I2cKit.Serving.{answer_to, answers_to, done}
use Rattle.i2c_virt.specs.I2cClient.Asking.{IsAsking, made, and_one}
use Rattle.i2c_virt.proofs.I2cClient.Lists.{answered_many}
use Rattle.i2c_virt.specs.declared.desk.Desk.{Desk}
use Rattle.i2c_virt.specs.declared.work.Stray.{Stray}
use Rattle.i2c_virt.specs.declared.work.Work.{Work}
use Rattle.i2c_virt.specs.Desks.{Judged, DeskStands, IsUnderWay, forwarded, own_entry, is_open}
use Rattle.i2c_virt.specs.Works.{of_client, is_of, judged_of, entries_of, is_owing, wants_at, gives_at}
use Rattle.i2c_virt.specs.Virtualising.{strays_of, strays_back}
use Rattle.bus_law.proofs.I2cLaw.Answering.{AreTransfers}
use Rattle.bus_law.proofs.I2cLaw.Meeting.{transfers}
use Rattle.bus_law.specs.declared.i2c_actors.member.Member.{Member}
use Rattle.bus_law.specs.declared.i2c_actors.member.Member.TheVariants as Members
use Rattle.bus_law.specs.I2cActors.Members.{member_means}
use Rattle.bus_law.specs.I2cActors.Queues.{AreQueues, GoesAt}
use Rattle.bus_law.specs.Takes.{script_of}
use Rattle.bus_law.proofs.Staging.{ClientAt, Stage}
use Rattle.bus_law.proofs.Serving.{flow, served, back_first, answered_by, taken_from, desk_at, desk_stands, log_now, back_now}
use Rattle.bus_law.proofs.Hopping.{answers_many}
use Rattle.bus_law.proofs.InTurn.{no_bus_stray, no_virt_stray, no_client_stray, answer_of_client}
use Rattle.bus_law.proofs.Wanting.{wanted, has_intake, has_outlet, takes_from, gives_to}

-- Where nobody is runnable each client has all its replies.

-- a reply for each request
alone_many : (granted : List ℕ) (before : List BusAsk) (ds : List Device) (asks : List BusAsk) → length (alone_from granted before ds asks) ≡ length asks
alone_many granted before ds [] = refl
alone_many granted before ds (a ∷ asks) = ap suc (alone_many granted (before ++ a ∷ []) (reached_after (is_claimed granted before (address_of a)) ds a) asks)

pub alone_length : (granted addresses : List ℕ) (asks : List BusAsk) → length (replies_alone granted addresses asks) ≡ length asks
unfolding replies_alone
alone_length granted addresses asks = alone_many granted [] (new_devices addresses) asks

no_more : {T : Type 0} (xs : List T) → length xs ≡ 0 → xs ≡ []
no_more [] h = refl
no_more (x ∷ xs) h = absurd (omega (arith, h))

-- a beginning that is as long is all
pub all_of : {T : Type 0} (xs ys : List T) → IsPrefix xs ys → length xs ≡ length ys → xs ≡ ys
all_of xs ys pre many =
    let e = length-append xs pre.0 in
    let f = ap length pre.1 in
    let none : pre.0 ≡ [] = no_more pre.0 (omega (arith, e, f, many)) in
    sym (append-nil xs) ∙ (ap (λ l. xs ++ l) (sym none) ∙ pre.1)

not_some : (o : Option Cargo) → is_some o ≡ false → o ≡ None
not_some None h = refl
not_some (Some x) h = cc

none_any : (f : Desk → Bool) (xs : List Desk) → list_any f xs ≡ false → (k : ℕ) (d : Desk) → slice_get xs k ≡ Some d → f d ≡ false
none_any f [] h k d at = cc
none_any f (x ∷ xs) h zero d at = ap f (is at) ∙ (first (f x) (list_any f xs) h)
  where
    is : Some x ≡ Some d → d ≡ x
    is e = cc

    first : (a b : Bool) → (a || b) ≡ false → a ≡ false
    first true b e = cc
    first false b e = refl
none_any f (x ∷ xs) h (suc k) d at = none_any f xs (second (f x) (list_any f xs) h) k d at
  where
    second : (a b : Bool) → (a || b) ≡ false → b ≡ false
    second true b e = cc
    second false b e = e

pub forwarded_join : (a b : List Judged) → length (forwarded (a ++ b)) ≡ length (forwarded a) + length (forwarded b)
forwarded_join [] b = omega arith
forwarded_join ((p, Some s) ∷ a) b = forwarded_join a b
forwarded_join ((p, None) ∷ a) b = let e = forwarded_join a b in omega (arith, e)

-- the answers to transfers have as many of each client
share_many : (c : ℕ) (ds : List Device) (xs : List Cargo) (ts : List Request) → AreTransfers xs ts → length (of_client c (answers_to ds xs)) ≡ length (of_client c xs)
share_many c ds [] ts are = refl
share_many c ds (x ∷ xs) [] are = absurd are
share_many c ds (x ∷ xs) (r ∷ ts) are = by (is_of c x) refl (answer_of_client c ds x r are.0) (share_many c (done ds x) xs ts are.1)
  where
    by : (v : Bool) → is_of c x ≡ v → is_of c (answer_to ds x) ≡ is_of c x → length (of_client c (answers_to (done ds x) xs)) ≡ length (of_client c xs) → length (of_client c (answers_to ds (x ∷ xs))) ≡ length (of_client c (x ∷ xs))
    by true e same rest =
        ap (λ (b : Bool). length (cond b (answer_to ds x ∷ of_client c (answers_to (done ds x) xs)) (of_client c (answers_to (done ds x) xs)))) (same ∙ e)
        ∙ (ap suc rest ∙ sym (ap (λ (b : Bool). length (cond b (x ∷ of_client c xs) (of_client c xs))) e))
    by false e same rest =
        ap (λ (b : Bool). length (cond b (answer_to ds x ∷ of_client c (answers_to (done ds x) xs)) (of_client c (answers_to (done ds x) xs)))) (same ∙ e)
        ∙ (rest ∙ sym (ap (λ (b : Bool). length (cond b (x ∷ of_client c xs) (of_client c xs))) e))

-- nothing is under way where nothing is to come back
idle_way : (k : ℕ) (o : Option ℕ) (js : List Judged) → IsUnderWay k o js → length (forwarded js) ≡ 0 → (o ≡ None) × (js ≡ [])
idle_way k None js way none = (refl, way)
idle_way k (Some n) js way none = let e = ap (λ l. length (forwarded l)) way.1 in absurd (omega (arith, e, none))

-- the clause on queues where all is still
abbrev pub RestLaw : Type 0
RestLaw = (hostile : Hostiles) (history : History) (rows : List QueueRow) (actors : Needful) (journal : List Entry) → IsStill hostile history rows actors journal → (n : ℕ) (row : QueueRow) (needed owed : Bool) → slice_get rows n ≡ Some row → is_calm hostile row ≡ true → Needs hostile actors n needed → Owes hostile actors n owed → QueueRests row (track history n journal) needed owed

module _ (rests : RestLaw) (bus : Bus) (mo : Moment Member) (passed : Passed) (st : Stage bus mo passed) (rows : List QueueRow) (journal : List Entry) (queues : AreQueues bus.clients rows) (holds : Holds member_means rows mo passed journal) (still : IsStill nobody (start_history rows) rows (wanted mo.actors) journal) where
  abbrev n : ℕ
  n = bus.clients

  abbrev S : ℕ → List Cargo
  S q = passed.sent q

  abbrev T : ℕ → List Cargo
  T q = passed.taken q

  abbrev w : Work
  w = st.virt.virt.work

  abbrev B : List Cargo
  B = back_now bus mo passed st

  -- at a queue whose consumer needs an entry, all that was put was taken, and nothing is owed
  rest_at : (q p c capacity : ℕ) → GoesAt rows q p c capacity → 0 < capacity → (owed : Bool) → HasWant nobody (wanted mo.actors) (record { queue = q; role = Consumer; need = true }) → HasWant nobody (wanted mo.actors) (record { queue = q; role = Producer; need = owed }) → (S q ≡ T q) × (owed ≡ false)
  rest_at q p c capacity g some owed needs owes =
      let r = rests nobody (start_history rows) rows (wanted mo.actors) journal still q g.row true owed g.at refl needs owes in
      let items : items_of (S q) ≡ items_of (T q) = holds.shows_sent q ∙ (r.drained refl ∙ sym (holds.shows_taken q)) in
      let many : length (S q) ≡ length (T q) = sym (length-map (S q) (λ (x : Cargo). x.0)) ∙ (ap (λ (l : List Item). length l) items ∙ length-map (T q) (λ (x : Cargo). x.0)) in
      (sym (all_of (T q) (S q) (flow bus mo passed st q) (sym many)), r.handed (subst (λ k. 0 < k) (sym g.is.capacity_is) some) refl)

  no_stray : w.stray ≡ None
  no_stray = no_virt_stray bus mo passed st

  -- what comes back to the virtualiser
  back_rest : (S (2 * n + 1) ≡ T (2 * n + 1)) × (is_some st.driver.driver.driver.pipes.rest.load ≡ false)
  back_rest = rest_at (2 * n + 1) (n + 1) n 16 queues.from_driver (omega arith) (is_some st.driver.driver.driver.pipes.rest.load)
      (has_intake mo.actors n (Members.Virt st.virt.virt) st.virt.there 0 st.virt.virt.ends.input (is_none w.stray) refl refl (2 * n + 1) st.virt.input true (ap is_none no_stray))
      (has_outlet mo.actors (n + 1) (Members.Driver st.driver.driver) st.driver.there 3 st.driver.driver.driver.pipes.rest.output (is_some st.driver.driver.driver.pipes.rest.load) refl refl (2 * n + 1) st.driver.hands_back _ refl)

  no_rest : st.driver.driver.driver.pipes.rest.load ≡ None
  no_rest = not_some st.driver.driver.driver.pipes.rest.load back_rest.1

  answers_rest : (S (2 * n + 3) ≡ T (2 * n + 3)) × (is_some st.bus_itself.bus.load ≡ false)
  answers_rest = rest_at (2 * n + 3) (n + 2) (n + 1) 16 queues.from_bus (omega arith) (is_some st.bus_itself.bus.load)
      (has_intake mo.actors (n + 1) (Members.Driver st.driver.driver) st.driver.there 2 st.driver.driver.driver.pipes.rest.input (is_none st.driver.driver.driver.pipes.rest.load) refl refl (2 * n + 3) st.driver.takes_back true (ap is_none no_rest))
      (has_outlet mo.actors (n + 2) (Members.Bus st.bus_itself.bus) st.bus_itself.there 1 st.bus_itself.bus.output (is_some st.bus_itself.bus.load) refl refl (2 * n + 3) st.bus_itself.output _ refl)

  no_load : st.bus_itself.bus.load ≡ None
  no_load = not_some st.bus_itself.bus.load answers_rest.1

  bus_rest : (S (2 * n + 2) ≡ T (2 * n + 2)) × (is_some st.driver.driver.driver.pipes.first.load ≡ false)
  bus_rest = rest_at (2 * n + 2) (n + 1) (n + 2) 16 queues.to_bus (omega arith) (is_some st.driver.driver.driver.pipes.first.load)
      (has_intake mo.actors (n + 2) (Members.Bus st.bus_itself.bus) st.bus_itself.there 0 st.bus_itself.bus.input (is_none st.bus_itself.bus.load && is_none st.bus_itself.bus.stray) refl refl (2 * n + 2) st.bus_itself.input true
      (ap (λ (o : Option Cargo). is_none o && is_none st.bus_itself.bus.stray) no_load ∙ ap is_none (no_bus_stray bus mo passed st)))
      (has_outlet mo.actors (n + 1) (Members.Driver st.driver.driver) st.driver.there 1 st.driver.driver.driver.pipes.first.output (is_some st.driver.driver.driver.pipes.first.load) refl refl (2 * n + 2) st.driver.hands_on _ refl)

  no_first : st.driver.driver.driver.pipes.first.load ≡ None
  no_first = not_some st.driver.driver.driver.pipes.first.load bus_rest.1

  driver_rest : (S (2 * n) ≡ T (2 * n)) × (is_owing w ≡ false)
  driver_rest = rest_at (2 * n) n (n + 1) 16 queues.to_driver (omega arith) (is_owing w)
      (has_intake mo.actors (n + 1) (Members.Driver st.driver.driver) st.driver.there 0 st.driver.driver.driver.pipes.first.input (is_none st.driver.driver.driver.pipes.first.load) refl refl (2 * n) st.driver.takes true (ap is_none no_first))
      (has_outlet mo.actors n (Members.Virt st.virt.virt) st.virt.there 1 st.virt.virt.ends.output (is_owing w) refl refl (2 * n) st.virt.output _ refl)

  -- all that went to the driver came back
  all_back : length B ≡ length (S (2 * n))
  all_back =
      let a = ap length driver_rest.0 in
      let b = ap length st.driver.there_is in
      let b' = length-append (S (2 * n + 2)) (option_to_list st.driver.driver.driver.pipes.first.load) in
      let b'' = ap (λ (o : Option Cargo). length (option_to_list o)) no_first in
      let c = ap length bus_rest.0 in
      let d = ap length st.bus_itself.taken in
      let d' = length-append st.bus_itself.requests (option_to_list st.bus_itself.bus.stray) in
      let d'' = ap (λ (o : Option Cargo). length (option_to_list o)) (no_bus_stray bus mo passed st) in
      let e = ap length st.bus_itself.answered in
      let e' = length-append (S (2 * n + 3)) (option_to_list st.bus_itself.bus.load) in
      let e'' = ap (λ (o : Option Cargo). length (option_to_list o)) no_load in
      let f = answers_many (new_devices bus.devices) st.bus_itself.requests in
      let g = ap length answers_rest.0 in
      let h = ap length st.driver.back_is in
      let h' = length-append (S (2 * n + 1)) (option_to_list st.driver.driver.driver.pipes.rest.load) in
      let h'' = ap (λ (o : Option Cargo). length (option_to_list o)) no_rest in
      let i = ap length back_rest.0 in
      let j = ap length st.virt.stands.responses in
      let j' = length-append B (strays_back w.stray) in
      let j'' = ap (λ (o : Option Stray). length (strays_back o)) no_stray in
      omega (arith, a, b, b', b'', c, d, d', d'', e, e', e'', f, g, h, h', h'', i, j, j', j'')

  back_is : B ≡ answers_to (new_devices bus.devices) (S (2 * n))
  back_is = all_of B (answers_to (new_devices bus.devices) (S (2 * n))) (back_first bus mo passed st) (all_back ∙ sym (answers_many (new_devices bus.devices) (S (2 * n))))

  none_leaves : list_any (λ (d : Desk). is_some d.leaving) w.desks.items ≡ false
  none_leaves = ap (λ (o : Option Stray). is_none o && list_any (λ (d : Desk). is_some d.leaving) w.desks.items) (sym no_stray) ∙ driver_rest.1

  module _ (c : ℕ) (lt : c < n) where
    abbrev cl : ClientAt mo passed c (script_of bus c)
    cl = st.clients c lt

    abbrev js : List Judged
    js = judged_of c (log_now bus mo passed st)

    abbrev d : Desk
    d = (desk_at bus mo passed st c lt).0

    abbrev at_desk : slice_get w.desks.items c ≡ Some d
    at_desk = (desk_at bus mo passed st c lt).1

    abbrev s : DeskStands c d js (of_client c (S (2 * n))) (of_client c B) (S (2 * c + 1))
    s = desk_stands bus mo passed st c lt d at_desk

    share_back : length (of_client c B) ≡ length (of_client c (S (2 * n)))
    share_back =
        let t = transfers n bus.devices (log_now bus mo passed st) (S (2 * n)) B (served bus mo passed st) in
        ap (λ l. length (of_client c l)) back_is ∙ share_many c (new_devices bus.devices) (S (2 * n)) t.list t.are

    none_leaving : d.leaving ≡ None
    none_leaving = not_some d.leaving (none_any (λ (d : Desk). is_some d.leaving) w.desks.items none_leaves c d at_desk)

    way : (d.current ≡ None) × (s.under_way ≡ [])
    way =
        let a = ap length s.went in
        let a' = length-append (of_client c (S (2 * n))) (option_to_list d.leaving) in
        let a'' = ap (λ (o : Option Cargo). length (option_to_list o)) none_leaving in
        let b = ap (λ l. length (forwarded l)) s.parts in
        let b' = forwarded_join s.before s.under_way in
        let e = s.came_back in
        let f = share_back in
        idle_way c d.current s.under_way s.current (omega (arith, a, a', a'', b, b', e, f))

    no_mine : cl.client.stray ≡ None
    no_mine = no_client_stray bus mo passed st c lt

    gives_is : gives_at w c ≡ is_some d.held
    gives_is = ap (λ (o : Option Stray). is_none o && is_so (λ (d : Desk). is_some d.held) (slice_get w.desks.items c)) no_stray ∙ ap (is_so (λ (d : Desk). is_some d.held)) at_desk

    reply_rest : (S (2 * c + 1) ≡ T (2 * c + 1)) × (is_some d.held ≡ false)
    reply_rest = rest_at (2 * c + 1) n c 2 (queues.of_clients.replies c lt) (omega arith) (is_some d.held)
        (has_intake mo.actors c (Members.Client cl.client) cl.there 0 cl.client.responses (is_none cl.client.stray) refl refl (2 * c + 1) cl.resp true (ap is_none no_mine))
        (gives_to mo.actors st.virt.virt n st.virt.there c (record { 0 = 2 * c + 1 }) (ap (λ l. slice_get l c) st.virt.to ∙ st.resps_are.each c lt) (is_some d.held) gives_is)

    no_held : d.held ≡ None
    no_held = not_some d.held reply_rest.1

    wants_is : wants_at w c ≡ true
    wants_is =
        ap (λ (o : Option Stray). is_none o && is_so is_open (slice_get w.desks.items c)) no_stray
        ∙ (ap (is_so is_open) at_desk ∙ (ap (λ (o : Option ℕ). is_none o && is_none d.held) way.0 ∙ ap is_none no_held))

    request_rest : (S (2 * c) ≡ T (2 * c)) × ((is_some cl.client.asking.load && is_none cl.client.stray) ≡ false)
    request_rest =
        let z : 2 * c + 0 ≡ 2 * c = omega arith in
        rest_at (2 * c) c n 2 (queues.of_clients.requests c lt) (omega arith) (is_some cl.client.asking.load && is_none cl.client.stray)
        (subst (λ q. HasWant nobody (wanted mo.actors) (record { queue = q; role = Consumer; need = true })) z (takes_from mo.actors st.virt.virt n st.virt.there c (record { 0 = 2 * c + 0 }) (ap (λ l. slice_get l c) st.virt.from ∙ st.reqs_are.each c lt) true wants_is))
        (has_outlet mo.actors c (Members.Client cl.client) cl.there 1 cl.client.requests (is_some cl.client.asking.load && is_none cl.client.stray) refl refl (2 * c) cl.req _ refl)

    no_request : cl.client.asking.load ≡ None
    no_request = by cl.client.asking.load cl.client.stray no_mine request_rest.1
      where
        by : (o r : Option Cargo) → r ≡ None → (is_some o && is_none r) ≡ false → o ≡ None
        by None r none h = refl
        by (Some x) None none h = cc
        by (Some x) (Some y) none h = cc

    pub all_replied : length cl.client.asking.replies.shown ≡ length (script_of bus c)
    all_replied = by (fits.ready no_request)
      where
        fits : IsAsking cl.client.asking
        fits = cl.fits.asking

        -- as many replies as requests
        even : length cl.client.asking.replies.shown ≡ cl.client.asking.sent
        even =
            let a = answered_many (record { 0 = c }) 0 (script_of bus c) cl.stands.came cl.client.asking.replies.shown (answered_by bus mo passed st c lt) in
            let b = ap length cl.stands.taken in
            let b' = length-append cl.stands.came (option_to_list cl.client.stray) in
            let b'' = ap (λ (o : Option Cargo). length (option_to_list o)) no_mine in
            let e = ap length reply_rest.0 in
            let f = s.as_many in
            let f' = ap (λ (o : Option Cargo). length (option_to_list o)) no_held in
            let g = ap length s.parts in
            let g' = length-append s.before s.under_way in
            let g'' = ap length way.1 in
            let h = length-map js (λ (j : Judged). own_entry j.0) in
            let i = ap length (taken_from bus mo passed st c lt) in
            let i' = length-append (entries_of c (log_now bus mo passed st)) (strays_of c w.stray) in
            let i'' = ap (λ (o : Option Stray). length (strays_of c o)) no_stray in
            let k = ap length request_rest.0 in
            let m = cl.stands.stands.sent_many in
            omega (arith, a, b, b', b'', e, f, f', g, g', g'', h, i, i', i'', k, m)

        by : (cl.client.asking.sent ≡ length cl.client.asking.script) ⊎ (cl.client.asking.hand.shown ≡ []) → length cl.client.asking.replies.shown ≡ length (script_of bus c)
        by (inl all) = even ∙ (all ∙ ap length cl.script_is)
        by (inr none) =
            let hold = fits.is_made.hold in
            let m : made cl.client.asking ≡ cl.client.asking.sent = ap (and_one cl.client.asking.sent) no_request in
            let e = even in
            let z = ap length none in
            absurd (omega (arith, hold, m, e, z))
