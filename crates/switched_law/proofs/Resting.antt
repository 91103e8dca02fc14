-- Where nobody is runnable, the queues of each port rest.
use Rattle.std.proofs.Common.{◌≡◌, ◌+◌, ◌*◌, ◌<◌, ◌++◌, ℕ, zero, suc, Bool, true, Some, List, [], ◌∷◌, length, map, slice_get, refl, sym, ap, ◌∙◌, arith}
use Rattle.std.proofs.lemmas.List.{length-map}
use Rattle.line_text.specs.declared.ports_text.ports.Ports.{Ports}
use Rattle.wire_core.specs.declared.names.QueueId.{QueueId}
use Rattle.wire_core.specs.declared.names.QueueRow.{QueueRow}
use Rattle.wire_core.specs.declared.names.Entry.{Entry}
use Rattle.wire_core.specs.Deeds.{Cargo}
use Rattle.wire_core.specs.Lists.{Passed}
use Rattle.wire_core.specs.Journal.{History, Hostiles, start_history, track, nobody, is_calm}
use Rattle.play_core.specs.Resting.{QueueRests}
use Rattle.play_core.specs.Still.{IsStill, Needs, Owes}
use Rattle.play_core.specs.Wants.{Want, Needful, intake_want, outlet_want}
use Rattle.play_core.proofs.Lists.{map_get}
use Rattle.buffer_kit.proofs.TwoLists.{get_front, get_behind}
use Rattle.client_programs.specs.declared.net.NetClient.{NetClient}
use Rattle.client_programs.specs.Net.Clients.{client_frames, needs_frame, is_giving}
use Rattle.client_programs.specs.Net.Sending.{needs_buffer, is_sending}
use Rattle.net_switch.specs.SwitchDesk.Desks.{is_taking, is_returning, is_wanting, is_loaded}
use Rattle.net_switch.specs.declared.switch.NetSwitch.{NetSwitch}
use Rattle.net_switch.specs.Ends.{come_queues, back_queues, room_queues, copy_queues}
use Rattle.small_system.specs.Tales.{Moment, Turn, start_of, after_tale, journal_of, passed_by}
use Rattle.switched_law.specs.declared.switch_class.member.Member.{Member}
use Rattle.switched_law.specs.declared.switch_class.member.Member.TheVariants as Members
use Rattle.switched_law.specs.SwitchClass.Queues.{GoesAt}
use Rattle.switched_law.specs.SwitchMoment.Scene.{AreAt, IsClientOf}
use Rattle.switched_law.specs.SwitchMoment.Quiet.{RestsAt, PortRests, AllRest}
use Rattle.switched_law.specs.Playing.{IsPlayed}
use Rattle.switched_law.specs.Wants.{queue_wants, member_wants}
use Rattle.switched_law.proofs.Standing.{Laws, holds, client_at, switch_at, switched_at}

-- the want of a place
want_at : (want : ℕ → Bool → Want) (need : ℕ → Bool) (s : ℕ) (qs : List QueueId) (k : ℕ) (q : QueueId) → slice_get qs k ≡ Some q → slice_get (queue_wants want need s qs) k ≡ Some (want q.0 (need (s + k)))
want_at want need s [] k q at = cc
want_at want need s (p ∷ qs) zero q at =
    let same : p ≡ q = cc in
    let z : s ≡ s + 0 = omega arith in
    ap (λ (r : QueueId). Some (want r.0 (need s))) same ∙ ap (λ i. Some (want q.0 (need i))) z
want_at want need s (p ∷ qs) (suc k) q at = let next : (s + 1) + k ≡ s + suc k = omega arith in want_at want need (s + 1) qs k q at ∙ ap (λ i. Some (want q.0 (need i))) next

wants_long : (want : ℕ → Bool → Want) (need : ℕ → Bool) (s : ℕ) (qs : List QueueId) → length (queue_wants want need s qs) ≡ length qs
wants_long want need s [] = refl
wants_long want need s (q ∷ qs) = ap suc (wants_long want need (s + 1) qs)

want_of : (want : ℕ → Bool → Want) (need : ℕ → Bool) (n : ℕ) (at : ℕ → ℕ) (qs : List QueueId) → AreAt n at qs → (port : ℕ) → port < n → slice_get (queue_wants want need 0 qs) port ≡ Some (want (at port) (need port))
want_of want need n at qs are port less = let z : 0 + port ≡ port = omega arith in want_at want need 0 qs port (record { 0 = at port }) (are.each port less) ∙ ap (λ i. Some (want (at port) (need i))) z

module _ (laws : Laws) (ports : Ports) (rows : List QueueRow) (start : List Member) (turns : List (Turn Member)) (p : IsPlayed ports rows start turns)
    (rests : (hostile : Hostiles) (history : History) (rows : List QueueRow) (actors : Needful) (journal : List Entry) → IsStill hostile history rows actors journal → (n : ℕ) (row : QueueRow) (needed owed : Bool) → slice_get rows n ≡ Some row → is_calm hostile row ≡ true → Needs hostile actors n needed → Owes hostile actors n owed → QueueRests row (track history n journal) needed owed)
    (still : IsStill nobody (start_history rows) rows (map member_wants (after_tale (start_of rows start) turns).actors) (journal_of turns)) where
  abbrev mo : Moment Member
  mo = after_tale (start_of rows start) turns

  abbrev passed : Passed
  passed = passed_by turns

  abbrev actors : Needful
  actors = map member_wants mo.actors

  abbrev v : NetSwitch
  v = (switch_at laws ports rows start turns p).0

  abbrev n : ℕ
  n = length ports.macs

  -- what the switch needs and owes
  switch_acts : slice_get actors n ≡ Some (member_wants (Members.Switch v))
  switch_acts = map_get member_wants mo.actors n (Members.Switch v) (switch_at laws ports rows start turns p).1

  abbrev come_wants : List Want
  come_wants = queue_wants intake_want (is_taking v.desk) 0 (come_queues v.ends)

  abbrev back_wants : List Want
  back_wants = queue_wants outlet_want (is_returning v.desk) 0 (back_queues v.ends)

  abbrev room_wants : List Want
  room_wants = queue_wants intake_want (is_wanting v.desk) 0 (room_queues v.ends)

  abbrev copy_wants : List Want
  copy_wants = queue_wants outlet_want (is_loaded v.desk) 0 (copy_queues v.ends)

  -- one queue
  rests_at : (q a b : ℕ) (needed owed : Bool) → GoesAt rows q a b → Needs nobody actors q needed → Owes nobody actors q owed → RestsAt passed q needed owed
  rests_at q a b needed owed goes needs owes =
      let r = rests nobody (start_history rows) rows actors (journal_of turns) still q goes.row needed owed goes.at refl needs owes in
      let h = holds laws ports rows start turns p in
      let sent = ap (λ l. length l) (sym (h.shows_sent q)) ∙ length-map (passed.sent q) (λ (c : Cargo). c.0) in
      let taken = ap (λ l. length l) (sym (h.shows_taken q)) ∙ length-map (passed.taken q) (λ (c : Cargo). c.0) in
      record {
        drained = λ need. (let e = ap (λ l. length l) (r.drained need) in omega (arith, e, sent, taken));
        filled = λ owe. (let e = r.filled owe in let room = goes.is.capacity_is in omega (arith, e, sent, taken, room));
      }

  module _ (port : ℕ) (less : port < n) where
    abbrev c : NetClient
    c = (client_at laws ports rows start turns p port less).0

    is : IsClientOf ports port c
    is = (client_at laws ports rows start turns p port less).2

    client_acts : slice_get actors port ≡ Some (member_wants (Members.Client c))
    client_acts = map_get member_wants mo.actors port (Members.Client c) (client_at laws ports rows start turns p port less).1

    come_needs : Needs nobody actors (4 * port) (is_taking v.desk port)
    come_needs = record {
      ends = member_wants (Members.Switch v);
      acts = record { actor = n; calm = refl; there = switch_acts };
      place = port;
      is = get_front come_wants (back_wants ++ (room_wants ++ copy_wants)) port (intake_want (4 * port) (is_taking v.desk port)) (want_of intake_want (is_taking v.desk) n (λ k. 4 * k) (come_queues v.ends) (switch_at laws ports rows start turns p).2.come port less);
    }

    back_owes : Owes nobody actors (4 * port + 1) (is_returning v.desk port)
    back_owes = record {
      ends = member_wants (Members.Switch v);
      acts = record { actor = n; calm = refl; there = switch_acts };
      place = length come_wants + port;
      is = get_behind come_wants (back_wants ++ (room_wants ++ copy_wants)) port
          ∙ get_front back_wants (room_wants ++ copy_wants) port (outlet_want (4 * port + 1) (is_returning v.desk port)) (want_of outlet_want (is_returning v.desk) n (λ k. 4 * k + 1) (back_queues v.ends) (switch_at laws ports rows start turns p).2.back port less);
    }

    room_needs : Needs nobody actors (4 * port + 3) (is_wanting v.desk port)
    room_needs = record {
      ends = member_wants (Members.Switch v);
      acts = record { actor = n; calm = refl; there = switch_acts };
      place = length come_wants + (length back_wants + port);
      is = get_behind come_wants (back_wants ++ (room_wants ++ copy_wants)) (length back_wants + port)
          ∙ (get_behind back_wants (room_wants ++ copy_wants) port
          ∙ get_front room_wants copy_wants port (intake_want (4 * port + 3) (is_wanting v.desk port)) (want_of intake_want (is_wanting v.desk) n (λ k. 4 * k + 3) (room_queues v.ends) (switch_at laws ports rows start turns p).2.room port less));
    }

    copy_owes : Owes nobody actors (4 * port + 2) (is_loaded v.desk port)
    copy_owes = record {
      ends = member_wants (Members.Switch v);
      acts = record { actor = n; calm = refl; there = switch_acts };
      place = length come_wants + (length back_wants + (length room_wants + port));
      is = get_behind come_wants (back_wants ++ (room_wants ++ copy_wants)) (length back_wants + (length room_wants + port))
          ∙ (get_behind back_wants (room_wants ++ copy_wants) (length room_wants + port)
          ∙ (get_behind room_wants copy_wants port
          ∙ want_of outlet_want (is_loaded v.desk) n (λ k. 4 * k + 2) (copy_queues v.ends) (switch_at laws ports rows start turns p).2.copy port less));
    }

    copy_needs : Needs nobody actors (4 * port + 2) (needs_frame c)
    copy_needs = record {
      ends = member_wants (Members.Client c);
      acts = record { actor = port; calm = refl; there = client_acts };
      place = 0;
      is = ap (λ q. Some (intake_want q (needs_frame c))) is.rx_active_is;
    }

    room_owes : Owes nobody actors (4 * port + 3) (is_giving c)
    room_owes = record {
      ends = member_wants (Members.Client c);
      acts = record { actor = port; calm = refl; there = client_acts };
      place = 1;
      is = ap (λ q. Some (outlet_want q (is_giving c))) is.rx_free_is;
    }

    back_needs : Needs nobody actors (4 * port + 1) (needs_buffer c.outbox (length (client_frames c)))
    back_needs = record {
      ends = member_wants (Members.Client c);
      acts = record { actor = port; calm = refl; there = client_acts };
      place = 2;
      is = ap (λ q. Some (intake_want q (needs_buffer c.outbox (length (client_frames c))))) is.tx_free_is;
    }

    come_owes : Owes nobody actors (4 * port) (is_sending c.outbox (length (client_frames c)))
    come_owes = record {
      ends = member_wants (Members.Client c);
      acts = record { actor = port; calm = refl; there = client_acts };
      place = 3;
      is = ap (λ q. Some (outlet_want q (is_sending c.outbox (length (client_frames c))))) is.tx_active_is;
    }

    port_rests : PortRests v port c passed
    port_rests = record {
      come = rests_at (4 * port) port n (is_taking v.desk port) (is_sending c.outbox (length (client_frames c))) (p.queues.of_ports.tx_active port less) come_needs come_owes;
      back = rests_at (4 * port + 1) n port (needs_buffer c.outbox (length (client_frames c))) (is_returning v.desk port) (p.queues.of_ports.tx_free port less) back_needs back_owes;
      copy = rests_at (4 * port + 2) n port (needs_frame c) (is_loaded v.desk port) (p.queues.of_ports.rx_active port less) copy_needs copy_owes;
      room = rests_at (4 * port + 3) port n (is_wanting v.desk port) (is_giving c) (p.queues.of_ports.rx_free port less) room_needs room_owes;
    }

  pub all_rest : AllRest ports _ v passed (switched_at laws ports rows start turns p)
  all_rest port less = port_rests port less
