use Rattle.std.proofs.Common.{◌≡◌, ◌⊎◌, inl, inr, ◌==◌, ◌&&◌, ◌||◌, not, ◌+◌, ◌*◌, ◌<◌, ◌≤◌, ◌++◌, ℕ, zero, suc, nat_le, nat_lt, Bool, true, false, cond, is_some, is_none, Option, Some, None, List, [], ◌∷◌, length, length-append, map, slice_get, refl, sym, ap, ◌∙◌, subst, arith, append-nil}
use Rattle.std.specs.Option.{option_to_list}
use Rattle.std.specs.List.{filter, list_any}
use Rattle.std.proofs.lemmas.Bool.{cases_lt, cases_eq, lt-ltb, le-ltb, le-leb, lt-leb, eq-eqb, ne_eqb, and_right}
use Rattle.std.proofs.lemmas.List.{length-map}
use Rattle.cargo_core.specs.declared.item.Item.{Item}
use Rattle.wire_core.specs.declared.names.Event.{Event}
use Rattle.wire_core.specs.declared.names.QueueId.{QueueId}
use Rattle.wire_core.specs.Deeds.{Cargo}
use Rattle.wire_core.specs.Ends.{waiting_role}
use Rattle.wire_core.specs.Lists.{Passed}
use Rattle.wire_core.specs.Queues.{items_of}
use Rattle.turn_kit.specs.Posts.{intake_post, outlet_post}
use Rattle.turn_kit.specs.Turns.{Post}
use Rattle.turn_kit.specs.ManyEnds.{needs_from, intake_posts, outlet_posts}
use Rattle.turn_kit.specs.declared.ends.Intake.{Intake}
use Rattle.turn_kit.specs.declared.ends.Outlet.{Outlet}
use Rattle.buffer_kit.specs.Clients.{is_so}
use Rattle.buffer_kit.specs.Virtualising.{from_queues, to_queues}
use Rattle.play_core.specs.Moved.{Moved}
use Rattle.play_core.specs.Wants.{Want, intake_want, outlet_want}
use Rattle.play_core.specs.Rests.Showing.{HaveItems}
use Rattle.play_core.proofs.Lists.{some_is, map_get, there_is, there_below}
use Rattle.small_system.specs.Tales.{Moment}
use Rattle.i2c_text.specs.declared.bus.Bus.{Bus}
use Rattle.i2c_text.specs.declared.report.BusStatus.{BusStatus}
use Rattle.i2c_virt.specs.declared.i2c_kit.alone.Request.{Request}
use Rattle.i2c_virt.specs.declared.i2c_kit.device.Device.{Device}
use Rattle.i2c_virt.specs.declared.i2c_kit.page.TheConstants.{BUFFERS}
use Rattle.i2c_virt.specs.I2cKit.Devices.{new_devices}
use Rattle.i2c_virt.specs.I2cKit.Serving.{answer_to, answers_to, done}
use Rattle.i2c_virt.specs.I2cClient.Asking.{IsAsking, made, and_one}
use Rattle.i2c_virt.specs.I2cClient.Clients.{is_asking}
use Rattle.i2c_virt.proofs.I2cClient.Lists.{answered_many}
use Rattle.i2c_virt.specs.declared.desk.Desk.{Desk}
use Rattle.i2c_virt.specs.declared.work.Stray.{Stray}
use Rattle.i2c_virt.specs.declared.work.Work.{Work}
use Rattle.i2c_virt.specs.declared.virtualiser.I2cVirt.{I2cVirt}
use Rattle.i2c_virt.specs.Desks.{Judged, IsDesk, DeskStands, IsUnderWay, forwarded, own_entry, is_open}
use Rattle.i2c_virt.specs.Owners.{verdict}
use Rattle.i2c_virt.specs.Works.{Took, requests_in, judged_from, judged_of, entries_of, is_of, of_client, is_owing, wants_at, gives_at}
use Rattle.i2c_virt.specs.Virtualising.{strays_of, strays_back}
use Rattle.bus_law.specs.I2cLaw.Judging.{sent_on, transfers_of}
use Rattle.bus_law.specs.declared.i2c_actors.member.Member.{Member}
use Rattle.bus_law.specs.declared.i2c_actors.member.Member.TheVariants as Members
use Rattle.bus_law.specs.Takes.{script_of, requests_by}
use Rattle.bus_law.specs.Wants.{owes_request, client_wants, is_item_of, items_many, transfers_many, is_leaving, are_back, are_answered, is_held, is_so_of_any, of_each, virt_wants, holds_one, hands_on, driver_wants}
use Rattle.bus_law.proofs.Lists.{prefix_at}
use Rattle.bus_law.proofs.Staging.{ClientAt, Stage}
use Rattle.bus_law.proofs.Serving.{answered_by, came_first, taken_from, desk_stands, requests_are, log_now, back_now}
use Rattle.bus_law.proofs.Hopping.{answers_many}
use Rattle.bus_law.proofs.InTurn.{Placed, placed_sent, answer_in, no_bus_stray, no_virt_stray, no_client_stray}
use Rattle.bus_law.proofs.Wanting.{wants_by, member_wants}
use Rattle.bus_law.proofs.Quieting.{forwarded_join}

-- What the actors want of their ends is what the items that went, the calls and the asks say.

want_in : (q q' : ℕ) (b b' : Bool) → q ≡ q' → b ≡ b' → intake_want q b ≡ intake_want q' b'
want_in q q' b b' e f = ap (λ x. intake_want x b) e ∙ ap (λ x. intake_want q' x) f

want_out : (q q' : ℕ) (b b' : Bool) → q ≡ q' → b ≡ b' → outlet_want q b ≡ outlet_want q' b'
want_out q q' b b' e f = ap (λ x. outlet_want x b) e ∙ ap (λ x. outlet_want q' x) f

front : (x y : Want) (xs ys : List Want) → x ≡ y → xs ≡ ys → x ∷ xs ≡ y ∷ ys
front x y xs ys e f = ap (λ z. z ∷ xs) e ∙ ap (λ zs. y ∷ zs) f

-- who holds an entry put one less than it took
load_is : (o : Option Cargo) (a b : ℕ) → a + length (option_to_list o) ≡ b → is_some o ≡ nat_lt a b
load_is None a b e = sym (le-ltb a b (omega (arith, e)))
load_is (Some x) a b e = sym (lt-ltb a b (omega (arith, e)))

none_is : (o : Option Cargo) → is_none o ≡ not (is_some o)
none_is None = refl
none_is (Some x) = refl

-- transfers that were taken of a client are what is to go to the driver
transfers_are_many : (c : ℕ) (before : List Request) (log : List Took) → length (transfers_of c before (requests_in log)) ≡ length (forwarded (judged_from c before log))
transfers_are_many c before [] = refl
transfers_are_many c before (t ∷ log) = by (t.request.client == c) (verdict before t.request) (transfers_are_many c (before ++ t.request ∷ []) log)
  where
    by : (b : Bool) (v : Option BusStatus) → length (transfers_of c (before ++ t.request ∷ []) (requests_in log)) ≡ length (forwarded (judged_from c (before ++ t.request ∷ []) log)) → length (cond b (sent_on v t.request.ask) [] ++ transfers_of c (before ++ t.request ∷ []) (requests_in log)) ≡ length (forwarded (cond b ((t.page, v) ∷ []) [] ++ judged_from c (before ++ t.request ∷ []) log))
    by true None rest = ap suc rest
    by true (Some s) rest = rest
    by false v rest = rest

two_places : (a x c : ℕ) → x < 2 → ((2 * 64 * a + 64 * x == 2 * 64 * c + 64 * 0) && true || (2 * 64 * a + 64 * x == 2 * 64 * c + 64 * 1) && true) ≡ (a == c)
two_places a x c few = by (cases_eq a c)
  where
    same : a ≡ c → (x < 1) ⊎ (1 ≤ x) → ((2 * 64 * a + 64 * x == 2 * 64 * c + 64 * 0) && true || (2 * 64 * a + 64 * x == 2 * 64 * c + 64 * 1) && true) ≡ true
    same e (inl less) = ap (λ (b : Bool). b && true || (2 * 64 * a + 64 * x == 2 * 64 * c + 64 * 1) && true) (eq-eqb (2 * 64 * a + 64 * x) (2 * 64 * c + 64 * 0) (omega (arith, e, less)))
    same e (inr more) =
        ap (λ (b : Bool). b && true || (2 * 64 * a + 64 * x == 2 * 64 * c + 64 * 1) && true) (ne_eqb (2 * 64 * a + 64 * x) (2 * 64 * c + 64 * 0) (λ h. absurd (omega (arith, e, more, h))))
        ∙ ap (λ (b : Bool). b && true) (eq-eqb (2 * 64 * a + 64 * x) (2 * 64 * c + 64 * 1) (omega (arith, e, few, more)))

    by : (a ≡ c) ⊎ (a ≡ c → ⊥) → ((2 * 64 * a + 64 * x == 2 * 64 * c + 64 * 0) && true || (2 * 64 * a + 64 * x == 2 * 64 * c + 64 * 1) && true) ≡ (a == c)
    by (inl e) = same e (cases_lt x 1) ∙ sym (eq-eqb a c e)
    by (inr d) =
        ap (λ (b : Bool). b && true || (2 * 64 * a + 64 * x == 2 * 64 * c + 64 * 1) && true) (ne_eqb (2 * 64 * a + 64 * x) (2 * 64 * c + 64 * 0) (λ h. d (omega (arith, few, h))))
        ∙ (ap (λ (b : Bool). b && true) (ne_eqb (2 * 64 * a + 64 * x) (2 * 64 * c + 64 * 1) (λ h. d (omega (arith, few, h)))) ∙ sym (ne_eqb a c d))

item_is : (c : ℕ) (x : Cargo) → Placed x → is_item_of c x.0 ≡ is_of c x
item_is c x p = subst (λ (y : Cargo). is_item_of c y.0 ≡ is_of c y) (sym p.is) (two_places p.page.pool.0 p.page.no c p.few)

items_are_many : (c : ℕ) (xs : List Cargo) → ((i : ℕ) (x : Cargo) → slice_get xs i ≡ Some x → Placed x) → items_many c (items_of xs) ≡ length (of_client c xs)
items_are_many c [] placed = refl
items_are_many c (x ∷ xs) placed = by (is_of c x) (item_is c x (placed 0 x refl)) (items_are_many c xs (λ i y at. placed (suc i) y at))
  where
    by : (b : Bool) → is_item_of c x.0 ≡ b → items_many c (items_of xs) ≡ length (of_client c xs) → length (filter (is_item_of c) (items_of (x ∷ xs))) ≡ length (cond b (x ∷ of_client c xs) (of_client c xs))
    by true e rest = ap (λ (b : Bool). length (cond b (x.0 ∷ filter (is_item_of c) (items_of xs)) (filter (is_item_of c) (items_of xs)))) e ∙ ap suc rest
    by false e rest = ap (λ (b : Bool). length (cond b (x.0 ∷ filter (is_item_of c) (items_of xs)) (filter (is_item_of c) (items_of xs)))) e ∙ rest

answers_placed : (ds : List Device) (xs : List Cargo) → ((i : ℕ) (x : Cargo) → slice_get xs i ≡ Some x → Placed x) → (i : ℕ) (y : Cargo) → slice_get (answers_to ds xs) i ≡ Some y → Placed y
answers_placed ds [] placed i y at = cc
answers_placed ds (x ∷ xs) placed zero y at =
    let p = placed 0 x refl in
    let a = answer_in ds p.page in
    record { page = a.page; is = sym (some_is at) ∙ (ap (answer_to ds) p.is ∙ a.is); few = subst (λ m. m < 2) (sym a.number) p.few }
answers_placed ds (x ∷ xs) placed (suc i) y at = answers_placed (done ds x) xs (λ j z there. placed (suc j) z there) i y at

-- how a desk is, by how many came and went
record DeskIs (d : Desk) (taken gave went came : ℕ) : Type 0 where
  pub open_is : is_open d ≡ nat_le taken gave
  pub held_is : is_some d.held ≡ (not (nat_le taken gave) && nat_le went came)

desk_is : (k : ℕ) (d : Desk) (js : List Judged) (sent back gave : List Cargo) → IsDesk k d → DeskStands k d js sent back gave → DeskIs d (length js) (length gave) (length (forwarded js)) (length back)
desk_is k d js sent back gave fit s = by d.current refl
  where
    many : length js ≡ length s.before + length s.under_way
    many = ap length s.parts ∙ length-append s.before s.under_way

    forward : length (forwarded js) ≡ length (forwarded s.before) + length (forwarded s.under_way)
    forward = ap (λ l. length (forwarded l)) s.parts ∙ forwarded_join s.before s.under_way

    idle : d.current ≡ None → (h : Option Cargo) → d.held ≡ h → DeskIs d (length js) (length gave) (length (forwarded js)) (length back)
    idle none None empty =
        let way = subst (λ o. IsUnderWay k o s.under_way) none s.current in
        let u = ap length way in
        let h = ap (λ (o : Option Cargo). length (option_to_list o)) empty in
        let m = many in
        let a = s.as_many in
        let done : nat_le (length js) (length gave) ≡ true = le-leb (length js) (length gave) (omega (arith, u, h, m, a)) in
        record {
          open_is = ap (λ (o : Option ℕ). is_none o && is_none d.held) none ∙ (ap is_none empty ∙ sym done);
          held_is = ap is_some empty ∙ sym (ap (λ (b : Bool). not b && nat_le (length (forwarded js)) (length back)) done);
        }
    idle none (Some x) full =
        let way = subst (λ o. IsUnderWay k o s.under_way) none s.current in
        let u = ap length way in
        let g = ap (λ l. length (forwarded l)) way in
        let h = ap (λ (o : Option Cargo). length (option_to_list o)) full in
        let m = many in
        let f = forward in
        let a = s.as_many in
        let c = s.came_back in
        let due : nat_le (length js) (length gave) ≡ false = lt-leb (length js) (length gave) (omega (arith, u, h, m, a)) in
        let came : nat_le (length (forwarded js)) (length back) ≡ true = le-leb (length (forwarded js)) (length back) (omega (arith, g, f, c)) in
        record {
          open_is = ap (λ (o : Option ℕ). is_none o && is_none d.held) none ∙ (ap is_none full ∙ sym due);
          held_is = ap is_some full ∙ sym (ap (λ (b : Bool). not b && nat_le (length (forwarded js)) (length back)) due ∙ came);
        }

    by : (o : Option ℕ) → d.current ≡ o → DeskIs d (length js) (length gave) (length (forwarded js)) (length back)
    by None none = idle none d.held refl
    by (Some number) is =
        let way = subst (λ o. IsUnderWay k o s.under_way) is s.current in
        let u = ap length way.1 in
        let g = ap (λ l. length (forwarded l)) way.1 in
        let empty = fit.alone (ap is_some is) in
        let h = ap (λ (o : Option Cargo). length (option_to_list o)) empty in
        let m = many in
        let f = forward in
        let a = s.as_many in
        let c = s.came_back in
        let due : nat_le (length js) (length gave) ≡ false = lt-leb (length js) (length gave) (omega (arith, u, h, m, a)) in
        let away : nat_le (length (forwarded js)) (length back) ≡ false = lt-leb (length (forwarded js)) (length back) (omega (arith, g, f, c)) in
        record {
          open_is = ap (λ (o : Option ℕ). is_none o && is_none d.held) is ∙ sym due;
          held_is = ap is_some empty ∙ sym (and_right (not (nat_le (length js) (length gave))) (nat_le (length (forwarded js)) (length back)) away);
        }

-- lists of ends
abbrev want : Post → Bool → Want
want p b = record { queue = p.queue; role = waiting_role p.side; need = b }

wants_join : (ps qs : List Post) (ns ms : List Bool) → length ns ≡ length ps → wants_by (ps ++ qs) (ns ++ ms) ≡ wants_by ps ns ++ wants_by qs ms
wants_join [] qs [] ms many = refl
wants_join [] qs (b ∷ ns) ms many = absurd (omega (arith, many))
wants_join (p ∷ ps) qs [] ms many = absurd (omega (arith, many))
wants_join (p ∷ ps) qs (b ∷ ns) ms many = ap (λ l. want p b ∷ l) (wants_join ps qs ns ms (omega (arith, many)))

from_like : (f g : ℕ → Bool) (at : ℕ → ℕ) (k : ℕ) (xs : List Intake) → ((i : ℕ) (e : Intake) → slice_get xs i ≡ Some e → (e.queue.0 ≡ at (k + i)) × (f (k + i) ≡ g (k + i))) → wants_by (map intake_post xs) (needs_from f k (map (λ (e : Intake). e.queue) xs)) ≡ of_each (λ c. intake_want (at c) (g c)) k (length xs)
from_like f g at k [] same = refl
from_like f g at k (x ∷ xs) same =
    let z : k + 0 ≡ k = omega arith in
    let here = subst (λ m. (x.queue.0 ≡ at m) × (f m ≡ g m)) z (same 0 x refl) in
    front (intake_want x.queue.0 (f k)) (intake_want (at k) (g k)) _ _ (want_in x.queue.0 (at k) (f k) (g k) here.0 here.1)
    (from_like f g at (k + 1) xs (λ i e there. let s : k + suc i ≡ (k + 1) + i = omega arith in subst (λ m. (e.queue.0 ≡ at m) × (f m ≡ g m)) s (same (suc i) e there)))

to_like : (f g : ℕ → Bool) (at : ℕ → ℕ) (k : ℕ) (xs : List Outlet) → ((i : ℕ) (e : Outlet) → slice_get xs i ≡ Some e → (e.queue.0 ≡ at (k + i)) × (f (k + i) ≡ g (k + i))) → wants_by (map outlet_post xs) (needs_from f k (map (λ (e : Outlet). e.queue) xs)) ≡ of_each (λ c. outlet_want (at c) (g c)) k (length xs)
to_like f g at k [] same = refl
to_like f g at k (x ∷ xs) same =
    let z : k + 0 ≡ k = omega arith in
    let here = subst (λ m. (x.queue.0 ≡ at m) × (f m ≡ g m)) z (same 0 x refl) in
    front (outlet_want x.queue.0 (f k)) (outlet_want (at k) (g k)) _ _ (want_out x.queue.0 (at k) (f k) (g k) here.0 here.1)
    (to_like f g at (k + 1) xs (λ i e there. let s : k + suc i ≡ (k + 1) + i = omega arith in subst (λ m. (e.queue.0 ≡ at m) × (f m ≡ g m)) s (same (suc i) e there)))

any_like : (f : Desk → Bool) (g : ℕ → Bool) (k : ℕ) (ds : List Desk) → ((i : ℕ) (d : Desk) → slice_get ds i ≡ Some d → f d ≡ g (k + i)) → list_any f ds ≡ is_so_of_any g k (length ds)
any_like f g k [] same = refl
any_like f g k (d ∷ ds) same =
    let z : k + 0 ≡ k = omega arith in
    let here : f d ≡ g k = subst (λ m. f d ≡ g m) z (same 0 d refl) in
    let rest = any_like f g (k + 1) ds (λ i e there. let s : k + suc i ≡ (k + 1) + i = omega arith in subst (λ m. f e ≡ g m) s (same (suc i) e there)) in
    ap (λ b. b || list_any f ds) here ∙ ap (λ b. g k || b) rest

module _ (bus : Bus) (mo : Moment Member) (passed : Passed) (st : Stage bus mo passed) (m : Moved) (have : HaveItems passed m) where
  abbrev n : ℕ
  n = bus.clients

  abbrev S : ℕ → List Cargo
  S q = passed.sent q

  abbrev T : ℕ → List Cargo
  T q = passed.taken q

  abbrev w : Work
  w = st.virt.virt.work

  abbrev B : List Cargo
  B = back_now bus mo passed st

  put_many : (q : ℕ) → length (m.sent q) ≡ length (S q)
  put_many q = ap (λ (l : List Item). length l) (sym (have.sent q)) ∙ length-map (S q) (λ (c : Cargo). c.0)

  took_many : (q : ℕ) → length (m.taken q) ≡ length (T q)
  took_many q = ap (λ (l : List Item). length l) (sym (have.taken q)) ∙ length-map (T q) (λ (c : Cargo). c.0)

  -- a client
  module _ (c : ℕ) (lt : c < n) where
    abbrev cl : ClientAt mo passed c (script_of bus c)
    cl = st.clients c lt

    no_mine : cl.client.stray ≡ None
    no_mine = no_client_stray bus mo passed st c lt

    fits : IsAsking cl.client.asking
    fits = cl.fits.asking

    came_many : length cl.client.asking.replies.shown ≡ length (m.taken (2 * c + 1))
    came_many =
        let a = answered_many (record { 0 = c }) 0 (script_of bus c) cl.stands.came cl.client.asking.replies.shown (answered_by bus mo passed st c lt) in
        let b = ap length cl.stands.taken in
        let b' = length-append cl.stands.came (option_to_list cl.client.stray) in
        let b'' = ap (λ (o : Option Cargo). length (option_to_list o)) no_mine in
        let e = took_many (2 * c + 1) in
        omega (arith, a, b, b', b'', e)

    sent_many : cl.client.asking.sent ≡ length (m.sent (2 * c))
    sent_many = cl.stands.stands.sent_many ∙ sym (put_many (2 * c))

    owes_is : is_asking cl.client ≡ owes_request bus m c
    owes_is = ap (λ (o : Option Cargo). is_some cl.client.asking.load && is_none o) no_mine ∙ by cl.client.asking.load refl
      where
        by : (o : Option Cargo) → cl.client.asking.load ≡ o → (is_some cl.client.asking.load && true) ≡ owes_request bus m c
        by None none = ap (λ (o : Option Cargo). is_some o && true) none ∙ sym (ready (fits.ready none))
          where
            ready : (cl.client.asking.sent ≡ length cl.client.asking.script) ⊎ (cl.client.asking.hand.shown ≡ []) → owes_request bus m c ≡ false
            ready (inl all) =
                let s = sent_many in
                let l = ap length cl.script_is in
                ap (λ b. b && nat_lt (length (m.sent (2 * c))) (length (m.taken (2 * c + 1)) + BUFFERS)) (le-ltb (length (m.sent (2 * c))) (length (script_of bus c)) (omega (arith, all, s, l)))
            ready (inr empty) =
                let hold = fits.is_made.hold in
                let r : made cl.client.asking ≡ cl.client.asking.sent = ap (and_one cl.client.asking.sent) none in
                let z = ap length empty in
                let s = sent_many in
                let a = came_many in
                and_right (nat_lt (length (m.sent (2 * c))) (length (script_of bus c))) (nat_lt (length (m.sent (2 * c))) (length (m.taken (2 * c + 1)) + BUFFERS)) (le-ltb (length (m.sent (2 * c))) (length (m.taken (2 * c + 1)) + BUFFERS) (omega (arith, hold, r, z, s, a)))
        by (Some x) some =
            let hold = fits.is_made.hold in
            let within = fits.is_made.within in
            let r : made cl.client.asking ≡ cl.client.asking.sent + 1 = ap (and_one cl.client.asking.sent) some in
            let s = sent_many in
            let a = came_many in
            let l = ap length cl.script_is in
            ap (λ (o : Option Cargo). is_some o && true) some
            ∙ sym (ap (λ b. b && nat_lt (length (m.sent (2 * c))) (length (m.taken (2 * c + 1)) + BUFFERS)) (lt-ltb (length (m.sent (2 * c))) (length (script_of bus c)) (omega (arith, within, r, s, l)))
            ∙ lt-ltb (length (m.sent (2 * c))) (length (m.taken (2 * c + 1)) + BUFFERS) (omega (arith, hold, r, s, a)))

    pub client_wants_are : member_wants (Members.Client cl.client) ≡ client_wants bus m c
    client_wants_are =
        front (intake_want cl.client.responses.queue.0 (is_none cl.client.stray)) (intake_want (2 * c + 1) true) _ _ (want_in cl.client.responses.queue.0 (2 * c + 1) (is_none cl.client.stray) true cl.resp (ap is_none no_mine))
        (front (outlet_want cl.client.requests.queue.0 (is_asking cl.client)) (outlet_want (2 * c) (owes_request bus m c)) [] [] (want_out cl.client.requests.queue.0 (2 * c) (is_asking cl.client) (owes_request bus m c) cl.req owes_is) refl)

  -- who hands on what it takes
  hands_are : (i o i' o' : ℕ) (load : Option Cargo) (need : Bool) → i ≡ i' → o ≡ o' → length (S o') + length (option_to_list load) ≡ length (T i') → need ≡ is_none load → intake_want i need ∷ outlet_want o (is_some load) ∷ [] ≡ hands_on m i' o'
  hands_are i o i' o' load need ei eo many needs =
      let p = put_many o' in
      let t = took_many i' in
      let held : is_some load ≡ holds_one m i' o' = load_is load (length (m.sent o')) (length (m.taken i')) (omega (arith, many, p, t)) in
      front (intake_want i need) (intake_want i' (not (holds_one m i' o'))) _ _ (want_in i i' need (not (holds_one m i' o')) ei (needs ∙ (none_is load ∙ ap not held)))
      (front (outlet_want o (is_some load)) (outlet_want o' (holds_one m i' o')) [] [] (want_out o o' (is_some load) (holds_one m i' o') eo held) refl)

  pub bus_wants_are : member_wants (Members.Bus st.bus_itself.bus) ≡ hands_on m (2 * n + 2) (2 * n + 3)
  bus_wants_are =
      let b = st.bus_itself in
      let a = ap length b.answered in
      let a' = length-append (S (2 * n + 3)) (option_to_list b.bus.load) in
      let a'' = answers_many (new_devices bus.devices) b.requests in
      let t = ap length b.taken in
      let t' = length-append b.requests (option_to_list b.bus.stray) in
      let t'' = ap (λ (o : Option Cargo). length (option_to_list o)) (no_bus_stray bus mo passed st) in
      hands_are b.bus.input.queue.0 b.bus.output.queue.0 (2 * n + 2) (2 * n + 3) b.bus.load (is_none b.bus.load && is_none b.bus.stray) b.input b.output (omega (arith, a, a', a'', t, t', t''))
      (serves b.bus.load b.bus.stray (no_bus_stray bus mo passed st))
    where
      serves : (o r : Option Cargo) → r ≡ None → (is_none o && is_none r) ≡ is_none o
      serves None None h = refl
      serves None (Some y) h = cc
      serves (Some x) r h = refl

  pub driver_wants_are : member_wants (Members.Driver st.driver.driver) ≡ driver_wants n m
  driver_wants_are =
      let d = st.driver in
      let p = d.driver.driver.pipes.first in
      let q = d.driver.driver.pipes.rest in
      let a = ap length d.there_is in
      let a' = length-append (S (2 * n + 2)) (option_to_list p.load) in
      let b = ap length d.back_is in
      let b' = length-append (S (2 * n + 1)) (option_to_list q.load) in
      let one = hands_are p.input.queue.0 p.output.queue.0 (2 * n) (2 * n + 2) p.load (is_none p.load) d.takes d.hands_on (omega (arith, a, a')) refl in
      let other = hands_are q.input.queue.0 q.output.queue.0 (2 * n + 3) (2 * n + 1) q.load (is_none q.load) d.takes_back d.hands_back (omega (arith, b, b')) refl in
      ap (λ l. l ++ (intake_want q.input.queue.0 (is_none q.load) ∷ outlet_want q.output.queue.0 (is_some q.load) ∷ [])) one
      ∙ ap (λ l. hands_on m (2 * n) (2 * n + 2) ++ l) other

  placed_back : (i : ℕ) (x : Cargo) → slice_get (T (2 * n + 1)) i ≡ Some x → Placed x
  placed_back i x at = answers_placed (new_devices bus.devices) (S (2 * n)) (placed_sent bus mo passed st) i x (prefix_at (T (2 * n + 1)) (answers_to (new_devices bus.devices) (S (2 * n))) (came_first bus mo passed st) i x at)

  sent_items : (c : ℕ) → items_many c (m.sent (2 * n)) ≡ length (of_client c (S (2 * n)))
  sent_items c = ap (items_many c) (sym (have.sent (2 * n))) ∙ items_are_many c (S (2 * n)) (placed_sent bus mo passed st)

  all_came : T (2 * n + 1) ≡ B
  all_came = st.virt.stands.responses ∙ (ap (λ (o : Option Stray). B ++ strays_back o) (no_virt_stray bus mo passed st) ∙ append-nil B)

  back_items : (c : ℕ) → items_many c (m.taken (2 * n + 1)) ≡ length (of_client c B)
  back_items c = ap (items_many c) (sym (have.taken (2 * n + 1))) ∙ (items_are_many c (T (2 * n + 1)) placed_back ∙ ap (λ l. length (of_client c l)) all_came)

  module _ (calls : List Event) (calls_are : passed.calls ≡ calls) where
    transfers_is : (c : ℕ) → transfers_many bus calls c ≡ length (forwarded (judged_of c (log_now bus mo passed st)))
    transfers_is c = ap (λ l. length (transfers_of c [] l)) (ap (requests_by bus) (sym calls_are) ∙ requests_are bus mo passed st) ∙ transfers_are_many c [] (log_now bus mo passed st)

    -- a client's desk
    module _ (c : ℕ) (d : Desk) (at : slice_get w.desks.items c ≡ Some d) (lt : c < n) where
      abbrev js : List Judged
      js = judged_of c (log_now bus mo passed st)

      abbrev s : DeskStands c d js (of_client c (S (2 * n))) (of_client c B) (S (2 * c + 1))
      s = desk_stands bus mo passed st c lt d at

      is : DeskIs d (length js) (length (S (2 * c + 1))) (length (forwarded js)) (length (of_client c B))
      is = desk_is c d js (of_client c (S (2 * n))) (of_client c B) (S (2 * c + 1)) (st.virt.fits.work.desks c d at) s

      leaves_is : is_some d.leaving ≡ is_leaving bus m calls c
      leaves_is =
          let e = ap length s.went in
          let f = length-append (of_client c (S (2 * n))) (option_to_list d.leaving) in
          let a = sent_items c in
          let b = transfers_is c in
          load_is d.leaving (items_many c (m.sent (2 * n))) (transfers_many bus calls c) (omega (arith, e, f, a, b))

      judged_is : length js ≡ length (m.taken (2 * c))
      judged_is =
          let h = length-map js (λ (j : Judged). own_entry j.0) in
          let i = ap length (taken_from bus mo passed st c lt) in
          let i' = length-append (entries_of c (log_now bus mo passed st)) (strays_of c w.stray) in
          let i'' = ap (λ (o : Option Stray). length (strays_of c o)) (no_virt_stray bus mo passed st) in
          let t = took_many (2 * c) in
          omega (arith, h, i, i', i'', t)

      answered_is : nat_le (length js) (length (S (2 * c + 1))) ≡ are_answered m c
      answered_is = ap (λ k. nat_le k (length (S (2 * c + 1)))) judged_is ∙ ap (λ k. nat_le (length (m.taken (2 * c))) k) (sym (put_many (2 * c + 1)))

      back_is : nat_le (length (forwarded js)) (length (of_client c B)) ≡ are_back bus m calls c
      back_is = ap (λ k. nat_le k (length (of_client c B))) (sym (transfers_is c)) ∙ ap (λ k. nat_le (transfers_many bus calls c) k) (sym (back_items c))

      asks_is : wants_at w c ≡ are_answered m c
      asks_is =
          ap (λ (o : Option Stray). is_none o && is_so is_open (slice_get w.desks.items c)) (no_virt_stray bus mo passed st)
          ∙ (ap (is_so is_open) at ∙ (is.open_is ∙ answered_is))

      gives_is : gives_at w c ≡ is_held bus m calls c
      gives_is =
          ap (λ (o : Option Stray). is_none o && is_so (λ (d : Desk). is_some d.held) (slice_get w.desks.items c)) (no_virt_stray bus mo passed st)
          ∙ (ap (is_so (λ (d : Desk). is_some d.held)) at ∙ (is.held_is ∙ (ap (λ b. not b && nat_le (length (forwarded js)) (length (of_client c B))) answered_is ∙ ap (λ b. not (are_answered m c) && b) back_is)))

    abbrev v : I2cVirt
    v = st.virt.virt

    owing_is : is_owing w ≡ is_so_of_any (is_leaving bus m calls) 0 n
    owing_is =
        ap (λ (o : Option Stray). is_none o && list_any (λ (d : Desk). is_some d.leaving) w.desks.items) (no_virt_stray bus mo passed st)
        ∙ (any_like (λ (d : Desk). is_some d.leaving) (is_leaving bus m calls) 0 w.desks.items (λ i d at.
        let below = there_below w.desks.items i d at in
        let many = st.virt.many in
        let z : i ≡ 0 + i = omega arith in
        subst (λ k. is_some d.leaving ≡ is_leaving bus m calls k) z (leaves_is i d at (omega (arith, below, many)))) ∙ ap (is_so_of_any (is_leaving bus m calls) 0) st.virt.many)

    desk_there : (i : ℕ) → i < n → (d : Desk) × (slice_get w.desks.items i ≡ Some d)
    desk_there i lt = let many = st.virt.many in there_is w.desks.items i (omega (arith, lt, many))

    froms : wants_by (intake_posts v.ends.from_clients) (needs_from (wants_at w) 0 (from_queues v.ends)) ≡ of_each (λ c. intake_want (2 * c) (are_answered m c)) 0 n
    froms =
        from_like (wants_at w) (are_answered m) (λ c. 2 * c) 0 v.ends.from_clients.ends.items (λ i e at.
        let below = there_below v.ends.from_clients.ends.items i e at in
        let many = from_many in
        let lt : i < n = omega (arith, below, many) in
        let queue : Some e.queue ≡ Some (let q : QueueId = record { 0 = 2 * i + 0 } in q) = sym (map_get (λ (x : Intake). x.queue) v.ends.from_clients.ends.items i e at) ∙ (ap (λ l. slice_get l i) st.virt.from ∙ st.reqs_are.each i lt) in
        let number : e.queue.0 ≡ 2 * i + 0 = ap (λ (q : QueueId). q.0) (some_is queue) in
        let d = desk_there i lt in
        let z : i ≡ 0 + i = omega arith in
        let y : 2 * i + 0 ≡ 2 * i = omega arith in
        subst (λ k. (e.queue.0 ≡ 2 * k) × (wants_at w k ≡ are_answered m k)) z (number ∙ y, asks_is i d.0 d.1 lt)) ∙ ap (of_each (λ c. intake_want (2 * c) (are_answered m c)) 0) from_many
      where
        from_many : length v.ends.from_clients.ends.items ≡ n
        from_many = sym (length-map v.ends.from_clients.ends.items (λ (x : Intake). x.queue)) ∙ (ap (λ (l : List QueueId). length l) st.virt.from ∙ st.reqs_are.many)

    tos : wants_by (outlet_posts v.ends.to_clients) (needs_from (gives_at w) 0 (to_queues v.ends)) ≡ of_each (λ c. outlet_want (2 * c + 1) (is_held bus m calls c)) 0 n
    tos =
        to_like (gives_at w) (is_held bus m calls) (λ c. 2 * c + 1) 0 v.ends.to_clients.ends.items (λ i e at.
        let below = there_below v.ends.to_clients.ends.items i e at in
        let many = to_many in
        let lt : i < n = omega (arith, below, many) in
        let queue : Some e.queue ≡ Some (let q : QueueId = record { 0 = 2 * i + 1 } in q) = sym (map_get (λ (x : Outlet). x.queue) v.ends.to_clients.ends.items i e at) ∙ (ap (λ l. slice_get l i) st.virt.to ∙ st.resps_are.each i lt) in
        let number : e.queue.0 ≡ 2 * i + 1 = ap (λ (q : QueueId). q.0) (some_is queue) in
        let d = desk_there i lt in
        let z : i ≡ 0 + i = omega arith in
        subst (λ k. (e.queue.0 ≡ 2 * k + 1) × (gives_at w k ≡ is_held bus m calls k)) z (number, gives_is i d.0 d.1 lt)) ∙ ap (of_each (λ c. outlet_want (2 * c + 1) (is_held bus m calls c)) 0) to_many
      where
        to_many : length v.ends.to_clients.ends.items ≡ n
        to_many = sym (length-map v.ends.to_clients.ends.items (λ (x : Outlet). x.queue)) ∙ (ap (λ (l : List QueueId). length l) st.virt.to ∙ st.resps_are.many)

    pub virt_wants_are : member_wants (Members.Virt v) ≡ virt_wants bus m calls
    virt_wants_are =
        front (intake_want v.ends.input.queue.0 (is_none w.stray)) (intake_want (2 * n + 1) true) _ _ (want_in v.ends.input.queue.0 (2 * n + 1) (is_none w.stray) true st.virt.input (ap is_none (no_virt_stray bus mo passed st)))
        (front (outlet_want v.ends.output.queue.0 (is_owing w)) (outlet_want (2 * n) (is_so_of_any (is_leaving bus m calls) 0 n)) _ _ (want_out v.ends.output.queue.0 (2 * n) (is_owing w) (is_so_of_any (is_leaving bus m calls) 0 n) st.virt.output owing_is)
        (wants_join (intake_posts v.ends.from_clients) (outlet_posts v.ends.to_clients) (needs_from (wants_at w) 0 (from_queues v.ends)) (needs_from (gives_at w) 0 (to_queues v.ends)) from_needs
        ∙ (ap (λ l. l ++ wants_by (outlet_posts v.ends.to_clients) (needs_from (gives_at w) 0 (to_queues v.ends))) froms ∙ ap (λ l. of_each (λ c. intake_want (2 * c) (are_answered m c)) 0 n ++ l) tos)))
      where
        needs_long : (f : ℕ → Bool) (place : ℕ) (qs : List QueueId) → length (needs_from f place qs) ≡ length qs
        needs_long f place [] = refl
        needs_long f place (q ∷ qs) = ap suc (needs_long f (place + 1) qs)

        from_needs : length (needs_from (wants_at w) 0 (from_queues v.ends)) ≡ length (intake_posts v.ends.from_clients)
        from_needs =
            let a = needs_long (wants_at w) 0 (from_queues v.ends) in
            let b = length-map v.ends.from_clients.ends.items (λ (x : Intake). x.queue) in
            let c = length-map v.ends.from_clients.ends.items intake_post in
            omega (arith, a, b, c)
