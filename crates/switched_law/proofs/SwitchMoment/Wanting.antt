-- What the switch and the clients want, by what went through the queues and by the calls.
use Rattle.std.proofs.Common.{◌≡◌, ◌==◌, ◌&&◌, ◌+◌, ◌*◌, ◌<◌, ◌++◌, ℕ, true, false, not, nat_lt, is_some, is_none, slice_index_or, Option, Some, None, List, length, map, drop, slice_get, refl, sym, ap, ap₂, ◌∙◌, subst, arith}
use Rattle.std.specs.Option.{option_to_list}
use Rattle.std.specs.List.{list_any}
use Rattle.std.proofs.lemmas.Bool.{lt-ltb, le-ltb, ltb-true}
use Rattle.std.proofs.lemmas.List.{length-map}
use Rattle.frame_core.specs.declared.mac.Mac.{Mac}
use Rattle.line_text.specs.Lists.{per_client}
use Rattle.line_text.specs.declared.ports_text.ports.Ports.{Ports}
use Rattle.wire_core.specs.Deeds.{Cargo}
use Rattle.wire_core.specs.Ends.{Role, End}
use Rattle.wire_core.specs.Lists.{Passed}
use Rattle.wire_core.specs.Queues.{Queue, end_at}
use Rattle.turn_kit.specs.ManyEnds.{intake_posts, outlet_posts, needs_from}
use Rattle.play_core.specs.Moved.{Moved}
use Rattle.play_core.specs.Wants.{intake_want, outlet_want}
use Rattle.play_core.specs.Rests.Meeting.{Meet}
use Rattle.play_core.specs.Rests.Showing.{HaveItems}
use Rattle.play_core.proofs.Lists.{there_is}
use Rattle.play_core.proofs.RestsLemmas.Settling.{took, put}
use Rattle.buffer_kit.specs.Clients.{is_so}
use Rattle.class_expect.specs.NetExpect.Expecting.{Program, Source}
use Rattle.net_law.specs.Parts.Parts.{NetPart, NetClient as ClientPart}
use Rattle.net_law.specs.Parts.Playing.{client_part, stock_pool}
use Rattle.net_law.specs.Parts.Table.{net_sheet}
use Rattle.net_law.proofs.RestsLemmas.Clients.{client_meets}
use Rattle.owner_law.specs.Pools.Places.{PoolAt}
use Rattle.client_programs.specs.declared.net.NetClient.{NetClient}
use Rattle.client_programs.specs.declared.net.program.ClientProgram.{ClientProgram}
use Rattle.client_programs.specs.Net.Programs.{program_of, is_echo}
use Rattle.client_programs.specs.Net.Clients.{FitsClient, ClientStandsFor, client_round, rx_active, rx_free, tx_active, tx_free}
use Rattle.net_switch.specs.declared.switch_desk.slot.Slot.{Slot}
use Rattle.net_switch.specs.SwitchDesk.Frames.{sent_to}
use Rattle.net_switch.specs.SwitchDesk.Desks as desk
use Rattle.net_switch.specs.SwitchDesk.Desks.{held_at, copy_at, owes, first_owing, is_taking, is_returning, is_wanting, is_loaded, is_copied, is_owing, has_copy, is_free}
use Rattle.net_switch.specs.declared.switch.NetSwitch.{NetSwitch}
use Rattle.net_switch.specs.Ends.{come_queues, back_queues, room_queues, copy_queues}
use Rattle.net_switch.specs.Switching.{switch_round}
use Rattle.switched_law.specs.SwitchMoment.Scene.{pool_at, IsClientOf, IsSwitched}
use Rattle.switched_law.specs.SwitchMoment.Takes.{FromPort, told, frames_taken, reaching}
use Rattle.switched_law.specs.SwitchMoment.Wants.{no_scene, client_at, client_wants, is_held, is_ready, owed_to, is_owed, owes_of, switch_wants}
use Rattle.switched_law.proofs.SwitchMoment.Ports.{log as log_of, stands}
use Rattle.switched_law.proofs.SwitchMoment.Records.{log_told}
use Rattle.switched_law.proofs.SwitchMoment.Telling.{reaching_told, index_within, some_true}
use Rattle.switched_law.proofs.SwitchMoment.Meeting.{meet_append, intakes_meet, outlets_meet}
use Rattle.switched_law.proofs.SwitchMoment.Owed.{bool_same, some_found, some_marked, marked_some, drop_told, owed_some, any_owes, owes_any}
use Rattle.switched_law.proofs.SwitchMoment.Facts.{macs_many, held_many, copy_many, slot, held_is, copy_is}

-- one part is another
same_part : (p q : Program) (m n : Mac) (a b c d e f g i : ℕ) (j k s t : PoolAt) → p ≡ q → m ≡ n → a ≡ b → c ≡ d → e ≡ f → g ≡ i → j ≡ k → s ≡ t → ClientPart p m a c e g j s ≡ ClientPart q n b d f i k t
same_part p q m n a b c d e f g i j k s t h1 h2 h3 h4 h5 h6 h7 h8 = cc

part_is : (ports : Ports) (port : ℕ) (c : NetClient) → (is : IsClientOf ports port c) → client_part c ≡ client_at port is.mac is.frames
part_is ports port c is =
    same_part (program_of c.program) (Source is.frames) c.program.mac is.mac (rx_active c) (4 * port + 2) (rx_free c) (4 * port + 3) (tx_active c) (4 * port) (tx_free c) (4 * port + 1)
    (stock_pool c.stock) (pool_at (2 * port)) (stock_pool c.outbox.stock) (pool_at (2 * port + 1))
    (ap (λ (p : ClientProgram). program_of p) is.program) (ap (λ (p : ClientProgram). p.mac) is.program) is.rx_active_is is.rx_free_is is.tx_active_is is.tx_free_is is.rx_pool is.tx_pool

-- a client wants what it does by its part
pub client_met : (ports : Ports) (w : List Queue) (passed : Passed) (m : Moved) → HaveItems passed m → (port : ℕ) (c : NetClient) → IsClientOf ports port c → FitsClient (end_at w) c → ClientStandsFor c passed
    → Meet (end_at w) (client_round c).posts (client_round c).needs (client_wants port (slice_get ports.macs port) (slice_get ports.sends port) m)
client_met ports w passed m items port c is fits stands =
    let silent : is_echo c.program.kind ≡ false = ap (λ (p : ClientProgram). is_echo p.kind) is.program in
    let met = client_meets no_scene w passed m items c (λ echo. absurd (let bad = sym silent ∙ echo in cc)) fits stands in
    subst (λ ws. Meet (end_at w) (client_round c).posts (client_round c).needs ws)
    (ap (λ (p : NetPart). (net_sheet no_scene p).wants m) (part_is ports port c is)
    ∙ sym (ap (λ o. client_wants port o (slice_get ports.sends port) m) is.address ∙ ap (λ o. client_wants port (Some is.mac) o m) is.sends)) met

-- where something is held, by how many came and went
held_lt : (o : Option Cargo) (gone came : ℕ) → gone + length (option_to_list o) ≡ came → is_some o ≡ nat_lt gone came
held_lt None gone came e = sym (le-ltb gone came (omega (arith, e)))
held_lt (Some x) gone came e = sym (lt-ltb gone came (omega (arith, e)))

none_not : {X : Type 0} (o : Option X) → is_none o ≡ not (is_some o)
none_not None = refl
none_not (Some x) = refl

module _ (ports : Ports) (ends : Role → ℕ → End) (v : NetSwitch) (passed : Passed) (h : IsSwitched ports ends v passed) (m : Moved) (items : HaveItems passed m) where
  abbrev n : ℕ
  n = length ports.macs

  abbrev all : List FromPort
  all = frames_taken ports.sends passed.calls

  module _ (port : ℕ) (less : port < n) where
    abbrev s : Slot
    s = (slot ports ends v passed h port less).0

    at : slice_get v.desk.slots.items port ≡ Some s
    at = (slot ports ends v passed h port less).1

    -- a frame is held
    held : is_some s.frame ≡ is_held m port
    held =
        let sum = held_many ports ends v passed h port less in
        let same = ap (λ (o : Option Cargo). length (option_to_list o)) (held_is ports ends v passed h port less) in
        let a = put passed m items (4 * port + 1) in
        let b = took passed m items (4 * port) in
        held_lt s.frame (length (m.sent (4 * port + 1))) (length (m.taken (4 * port))) (omega (arith, sum, same, a, b))

    -- a copy is in hand
    ready : has_copy s ≡ is_ready m port
    ready =
        let sum = copy_many ports ends v passed h port less in
        let same = ap (λ (o : Option Cargo). length (option_to_list o)) (copy_is ports ends v passed h port less) in
        let a = put passed m items (4 * port + 2) in
        let b = took passed m items (4 * port + 3) in
        held_lt s.copy (length (m.sent (4 * port + 2))) (length (m.taken (4 * port + 3))) (omega (arith, sum, same, a, b))

    -- what is owed to it
    pub owed_is : owed_to ports m all port ≡ map told (desk.owed_to v.desk port)
    owed_is =
        let mac = there_is ports.macs port less in
        let gone = put passed m items (4 * port + 2) in
        ap (λ l. drop (length (m.sent (4 * port + 2))) (reaching ports.macs port l)) (sym (log_told ports ends v passed h))
        ∙ (ap (drop (length (m.sent (4 * port + 2)))) (reaching_told ports.macs port mac.0 mac.1 (log_of ports ends v passed h))
        ∙ (drop_told (length (m.sent (4 * port + 2))) (sent_to ports.macs port (log_of ports ends v passed h))
        ∙ ap (map told) (ap (λ k. drop k (sent_to ports.macs port (log_of ports ends v passed h))) (sym gone)
        ∙ (ap (λ macs. drop (length (passed.sent (4 * port + 2))) (sent_to macs port (log_of ports ends v passed h))) (sym h.switch.macs_are)
        ∙ (stands ports ends v passed h port less).owed))))

    taking : is_taking v.desk port ≡ not (is_held m port)
    taking = ap (is_so is_free) at ∙ (none_not s.frame ∙ ap not held)

    loaded : is_loaded v.desk port ≡ is_ready m port
    loaded = ap (is_so has_copy) at ∙ ready

    wanting : is_wanting v.desk port ≡ (not (is_ready m port) && is_owed ports m all port)
    wanting =
        ap (λ o. is_so (λ (t : Slot). not (has_copy t)) o && is_some (first_owing v.desk port)) at
        ∙ (ap (λ b. not b && is_some (first_owing v.desk port)) ready
        ∙ ap (λ b. not (is_ready m port) && b) (owed_some v.desk h.stands.fits port ∙ sym (ap (nat_lt 0) (ap (λ l. length l) owed_is ∙ length-map (desk.owed_to v.desk port) told))))

  -- a port owes some other a copy of its frame
  module _ (port : ℕ) (less : port < n) where
    abbrev slot_of : Slot
    slot_of = (slot ports ends v passed h port less).0

    slot_at : slice_get v.desk.slots.items port ≡ Some slot_of
    slot_at = (slot ports ends v passed h port less).1

    owing : is_owing slot_of ≡ owes_of ports m all port
    owing = bool_same (is_owing slot_of) (owes_of ports m all port) there back
      where
        there : is_owing slot_of ≡ true → owes_of ports m all port ≡ true
        there is =
            let k = some_marked slot_of.owed (ltb-true 0 _ is) in
            let fit = h.stands.fits.kept.each port slot_of slot_at in
            let low = index_within slot_of.owed k.0 k.1 in
            let long = fit.long in
            let many = macs_many ports ends v passed h in
            let below : k.0 < n = omega (arith, low, long, many) in
            let got = some_of slot_of.frame (fit.owing k.0 k.1) in
            let here : held_at v.desk port ≡ Some got.0 = held_is ports ends v passed h port less ∙ got.1 in
            let once = h.stands.fits.kept.order.once port (omega (arith, less, many)) in
            let any = owes_any v.desk h.stands.fits k.0 port got.0 v.desk.order (ap (is_so (λ (t : Slot). slice_index_or t.owed k.0 false)) slot_at ∙ k.1) here (omega (arith, once)) in
            some_true n (λ r. list_any (λ (x : FromPort). x.0 == port) (owed_to ports m all r)) k.0 below (ap (list_any (λ (x : FromPort). x.0 == port)) (owed_is k.0 below) ∙ any)
          where
            some_of : (o : Option Cargo) → is_some o ≡ true → (x : Cargo) × (o ≡ Some x)
            some_of None e = cc
            some_of (Some x) e = (x, refl)

        back : owes_of ports m all port ≡ true → is_owing slot_of ≡ true
        back is =
            let r = some_found n (λ r. list_any (λ (x : FromPort). x.0 == port) (owed_to ports m all r)) is in
            let any = sym (ap (list_any (λ (x : FromPort). x.0 == port)) (owed_is r.0 r.1)) ∙ r.2 in
            let owes_there = any_owes v.desk h.stands.fits r.0 port v.desk.order any in
            let mark : slice_index_or slot_of.owed r.0 false ≡ true = sym (ap (is_so (λ (t : Slot). slice_index_or t.owed r.0 false)) slot_at) ∙ owes_there in
            lt-ltb 0 _ (marked_some slot_of.owed r.0 mark)

    returning : is_returning v.desk port ≡ (is_held m port && not (owes_of ports m all port))
    returning = ap (is_so is_copied) slot_at ∙ ap₂ (λ a b. a && not b) (held port less) owing

  pub switch_met : Meet ends (switch_round v).posts (switch_round v).needs (switch_wants ports m all)
  switch_met =
      meet_append ends (intake_posts v.ends.come) (outlet_posts v.ends.back ++ (intake_posts v.ends.room ++ outlet_posts v.ends.copy))
      (needs_from (is_taking v.desk) 0 (come_queues v.ends)) (needs_from (is_returning v.desk) 0 (back_queues v.ends) ++ (needs_from (is_wanting v.desk) 0 (room_queues v.ends) ++ needs_from (is_loaded v.desk) 0 (copy_queues v.ends)))
      (per_client n (λ port. intake_want (4 * port) (not (is_held m port)))) _
      (intakes_meet ends v.ends.come n (λ port. 4 * port) (is_taking v.desk) (λ port. not (is_held m port)) h.fits.ends_fit.come h.switch.come taking)
      (meet_append ends (outlet_posts v.ends.back) (intake_posts v.ends.room ++ outlet_posts v.ends.copy)
      (needs_from (is_returning v.desk) 0 (back_queues v.ends)) (needs_from (is_wanting v.desk) 0 (room_queues v.ends) ++ needs_from (is_loaded v.desk) 0 (copy_queues v.ends))
      (per_client n (λ port. outlet_want (4 * port + 1) (is_held m port && not (owes_of ports m all port)))) _
      (outlets_meet ends v.ends.back n (λ port. 4 * port + 1) (is_returning v.desk) (λ port. is_held m port && not (owes_of ports m all port)) h.fits.ends_fit.back h.switch.back returning)
      (meet_append ends (intake_posts v.ends.room) (outlet_posts v.ends.copy)
      (needs_from (is_wanting v.desk) 0 (room_queues v.ends)) (needs_from (is_loaded v.desk) 0 (copy_queues v.ends))
      (per_client n (λ port. intake_want (4 * port + 3) (not (is_ready m port) && is_owed ports m all port))) (per_client n (λ port. outlet_want (4 * port + 2) (is_ready m port)))
      (intakes_meet ends v.ends.room n (λ port. 4 * port + 3) (is_wanting v.desk) (λ port. not (is_ready m port) && is_owed ports m all port) h.fits.ends_fit.room h.switch.room wanting)
      (outlets_meet ends v.ends.copy n (λ port. 4 * port + 2) (is_loaded v.desk) (λ port. is_ready m port) h.fits.ends_fit.copy h.switch.copy loaded)))
