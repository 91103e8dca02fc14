-- Where nobody is runnable, the switch took all frames, and each port got all of its own.
use Rattle.std.proofs.Common.{◌≡◌, ◌&&◌, ◌||◌, ◌+◌, ◌*◌, ◌<◌, ◌≤◌, ◌++◌, ℕ, zero, suc, Bool, true, false, not, nat_lt, cond, flat_map, slice_index_or, is_some, is_none, Option, Some, None, List, [], ◌∷◌, length, map, drop, slice_get, length-append, refl, sym, ap, ◌∙◌, subst, arith, inl, inr}
use Rattle.std.specs.Option.{option_to_list, option_map}
use Rattle.std.proofs.lemmas.Bool.{cases_lt, and_parts, lt-ltb}
use Rattle.std.proofs.lemmas.List.{length-map}
use Rattle.cargo_core.specs.Lists.{Merge}
use Rattle.line_text.specs.declared.ports_text.ports.Ports.{Ports}
use Rattle.frame_core.specs.declared.mac.Mac.{Mac}
use Rattle.wire_core.specs.Bells.{bit}
use Rattle.wire_core.specs.Deeds.{Cargo}
use Rattle.wire_core.specs.Ends.{Role, End}
use Rattle.wire_core.specs.Lists.{Passed}
use Rattle.play_core.proofs.Lists.{some_is, there_below}
use Rattle.play_core.proofs.Walks.{begins_few}
use Rattle.play_core.proofs.OneQueue.{whole_prefix}
use Rattle.buffer_kit.specs.Entries.{frame_of}
use Rattle.buffer_kit.specs.Stocks.{stock_list}
use Rattle.buffer_kit.proofs.Filling.{filled_length}
use Rattle.buffer_kit.specs.Clients.{is_so}
use Rattle.buffer_kit.proofs.ManyClients.{so_there}
use Rattle.net_virt_rx.specs.Sharing.{how_many}
use Rattle.client_programs.specs.declared.net.NetClient.{NetClient}
use Rattle.client_programs.specs.declared.net.outbox.Outbox.{Outbox}
use Rattle.client_programs.specs.declared.net.program.ClientProgram.{ClientProgram}
use Rattle.client_programs.specs.Net.Programs.{is_echo}
use Rattle.client_programs.specs.Net.Clients.{ClientStandsFor, client_owes, client_frames, is_giving, needs_frame}
use Rattle.client_programs.specs.Net.Sending.{is_sending, needs_buffer, is_through}
use Rattle.net_switch.specs.declared.switch_desk.desk.Desk.{Desk}
use Rattle.net_switch.specs.declared.switch_desk.slot.Slot.{Slot}
use Rattle.net_switch.specs.SwitchDesk.Frames.{Sent, sent_to, frames_to}
use Rattle.net_switch.specs.SwitchDesk.Desks.{IsDesk, held_at, copy_at, owes, owed_by, owed_to, first_owing, is_taking, is_returning, is_wanting, is_loaded, is_free, is_owing, is_copied, has_copy}
use Rattle.switched_law.specs.SwitchLaw.Ports.{AreAll, all_to}
use Rattle.net_switch.specs.declared.switch.NetSwitch.{NetSwitch}
use Rattle.net_switch.proofs.SwitchDesk.Owing.{there_found}
use Rattle.switched_law.specs.SwitchMoment.Scene.{IsClientOf, IsSwitched}
use Rattle.switched_law.specs.SwitchMoment.Takes.{frames_taken, reaching, frames_in, sent_by}
use Rattle.switched_law.specs.SwitchMoment.Quiet.{AllRest}
use Rattle.net_law.proofs.RestsLemmas.Plain.{none_left}
use Rattle.switched_law.proofs.SwitchMoment.Telling.{index_within}
use Rattle.switched_law.proofs.SwitchMoment.Facts as facts
use Rattle.switched_law.proofs.SwitchMoment.Records.{takes_first, comes_first, below, sent_is, recorded, there, frames_there, are_first}
use Rattle.switched_law.proofs.SwitchMoment.Ports.{log, came, flow, holds, stands, own, own_many, spare, spare_many, out}

-- whether things are so
or_parts : (a b : Bool) → (a || b) ≡ false → (a ≡ false) × (b ≡ false)
or_parts true b h = cc
or_parts false b h = (refl, h)

none_some : {X : Type 0} (o : Option X) → is_some o ≡ false → o ≡ None
none_some None h = refl
none_some (Some x) h = cc

none_long : {X : Type 0} (o : Option X) → is_some o ≡ false → length (option_to_list o) ≡ 0
none_long None h = refl
none_long (Some x) h = cc

some_long : {X : Type 0} (o : Option X) → is_some o ≡ true → length (option_to_list o) ≡ 1
some_long None h = cc
some_long (Some x) h = refl

is_not : (b : Bool) → (b ≡ true → ⊥) → b ≡ false
is_not true h = absurd (h refl)
is_not false h = refl

-- no mark is set
none_many : (bs : List Bool) → ((k : ℕ) → slice_index_or bs k false ≡ false) → how_many bs ≡ 0
none_many [] none = refl
none_many (b ∷ bs) none = let here : bit b ≡ 0 = ap bit (none 0) in let rest = none_many bs (λ k. none (suc k)) in omega (arith, here, rest)

-- nothing comes of what gives nothing
flat_none : {X Y : Type 0} (f : X → List Y) (xs : List X) → ((x : X) → f x ≡ []) → flat_map f xs ≡ []
flat_none f [] none = refl
flat_none f (x ∷ xs) none = ap (λ l. l ++ flat_map f xs) (none x) ∙ flat_none f xs none

drop_none : {X : Type 0} (k : ℕ) (xs : List X) → drop k xs ≡ [] → length xs ≤ k
drop_none k [] h = omega arith
drop_none zero (x ∷ xs) h = cc
drop_none (suc k) (x ∷ xs) h = let rest = drop_none k xs h in omega (arith, rest)

module _ (ports : Ports) (ends : Role → ℕ → End) (v : NetSwitch) (passed : Passed) (h : IsSwitched ports ends v passed) (rests : AllRest ports ends v passed h) where
  abbrev n : ℕ
  n = length ports.macs

  abbrev taken : List Sent
  taken = log ports ends v passed h

  abbrev d : Desk
  d = v.desk

  desk_is : IsDesk d
  desk_is = h.stands.fits

  macs_many : length d.macs.items ≡ n
  macs_many = facts.macs_many ports ends v passed h

  -- how many passed at the four queues of a port
  module _ (port : ℕ) (less : port < n) where
    abbrev c : NetClient
    c = (h.clients port less).client

    abbrev o : Outbox
    o = c.outbox

    abbrev frames : List (List ℕ)
    frames = (h.clients port less).is.frames

    abbrev s0 : ℕ
    s0 = length (passed.sent (4 * port))

    abbrev s1 : ℕ
    s1 = length (passed.sent (4 * port + 1))

    abbrev s2 : ℕ
    s2 = length (passed.sent (4 * port + 2))

    abbrev s3 : ℕ
    s3 = length (passed.sent (4 * port + 3))

    abbrev t0 : ℕ
    t0 = length (passed.taken (4 * port))

    abbrev t1 : ℕ
    t1 = length (passed.taken (4 * port + 1))

    abbrev t2 : ℕ
    t2 = length (passed.taken (4 * port + 2))

    abbrev t3 : ℕ
    t3 = length (passed.taken (4 * port + 3))

    flow0 : t0 ≤ s0
    flow0 = begins_few (passed.taken (4 * port)) (passed.sent (4 * port)) (flow ports ends v passed h 0 port)

    flow2 : t2 ≤ s2
    flow2 = begins_few (passed.taken (4 * port + 2)) (passed.sent (4 * port + 2)) (flow ports ends v passed h 2 port)

    flow3 : t3 ≤ s3
    flow3 = begins_few (passed.taken (4 * port + 3)) (passed.sent (4 * port + 3)) (flow ports ends v passed h 3 port)

    -- what the client has yet to give
    given_many : s3 + (length (stock_list c.stock) + length (option_to_list c.frames.pipe.load)) ≡ 4 + t2
    given_many =
        let st = holds ports ends v passed h port less in
        let all = ap (λ l. length l) st.given in
        let left = length-append (passed.sent (4 * port + 3)) (client_owes c) in
        let owes = length-append (stock_list c.stock) (option_to_list c.frames.pipe.load) in
        let right = length-append (own ports ends v passed h port less) (passed.taken (4 * port + 2)) in
        let many = own_many ports ends v passed h port less in
        omega (arith, all, left, owes, right, many)

    -- and to send
    had_many : 4 + t1 ≡ o.next + length (stock_list o.stock)
    had_many =
        let st = (holds ports ends v passed h port less).sends in
        let all = ap (λ l. length l) st.had in
        let left = length-append (spare ports ends v passed h port less) (passed.taken (4 * port + 1)) in
        let right = length-append st.used (stock_list o.stock) in
        let many = spare_many ports ends v passed h port less in
        let next = st.many in
        omega (arith, all, left, right, many, next)

    sent_many : s0 + length (option_to_list o.load) ≡ o.next
    sent_many =
        let st = (holds ports ends v passed h port less).sends in
        let all = ap (λ l. length l) st.filled in
        let few = st.few in
        let next = st.many in
        let long = filled_length (client_frames c) st.used (omega (arith, few, next)) in
        let left = length-append (passed.sent (4 * port)) (option_to_list o.load) in
        omega (arith, all, long, left, next)

    next_few : o.next ≤ length frames
    next_few =
        let few = (holds ports ends v passed h port less).sends.few in
        let e = ap (λ l. length l) (out ports ends v passed h port less) in
        omega (arith, few, e)

    -- what the switch holds
    held_many : s1 + length (option_to_list (held_at d port)) ≡ t0
    held_many = facts.held_many ports ends v passed h port less

    copy_many : t3 ≡ s2 + length (option_to_list (copy_at d port))
    copy_many = facts.copy_many ports ends v passed h port less

    abbrev slot : (s : Slot) × (slice_get d.slots.items port ≡ Some s)
    slot = facts.slot ports ends v passed h port less

    held_is : held_at d port ≡ slot.0.frame
    held_is = facts.held_is ports ends v passed h port less

    copy_is : copy_at d port ≡ slot.0.copy
    copy_is = facts.copy_is ports ends v passed h port less

    -- the client is no echo
    no_echo : needs_frame c ≡ is_none c.frames.pipe.load
    no_echo = ap (λ (p : ClientProgram). is_none c.frames.pipe.load && not (is_echo p.kind && not (is_through o (length (client_frames c))))) (h.clients port less).is.program ∙ and_true (is_none c.frames.pipe.load)
      where
        and_true : (b : Bool) → (b && true) ≡ b
        and_true true = refl
        and_true false = refl

    -- no buffer is to go back: its queue could hold all of the pool
    not_returning : is_returning d port ≡ false
    not_returning = is_not (is_returning d port) (λ is.
        let copied : is_copied slot.0 ≡ true = sym (ap (is_so is_copied) slot.1) ∙ is in
        let one = some_long slot.0.frame (and_parts (is_some slot.0.frame) (not (is_owing slot.0)) copied).0 in
        let same = ap (λ x. length (option_to_list x)) held_is in
        let full = (rests port less).back.filled is in
        let a = held_many in
        let b = flow0 in
        let e = sent_many in
        let f = had_many in
        omega (arith, one, same, full, a, b, e, f))

    -- no copy is in hand
    not_loaded : is_loaded d port ≡ false
    not_loaded = is_not (is_loaded d port) (λ is.
        let copy : has_copy slot.0 ≡ true = sym (ap (is_so has_copy) slot.1) ∙ is in
        let one = some_long slot.0.copy copy in
        let same = ap (λ x. length (option_to_list x)) copy_is in
        let full = (rests port less).copy.filled is in
        let a = copy_many in
        let b = flow3 in
        let e = given_many in
        omega (arith, one, same, full, a, b, e))

    no_copy : has_copy slot.0 ≡ false
    no_copy = sym (ap (is_so has_copy) slot.1) ∙ not_loaded

    -- so all buffers that came were put
    all_copied : t3 ≡ s2
    all_copied = let none = none_long slot.0.copy no_copy in let same = ap (λ x. length (option_to_list x)) copy_is in let a = copy_many in omega (arith, none, same, a)

    -- the client holds no frame
    no_load : c.frames.pipe.load ≡ None
    no_load = none_some c.frames.pipe.load (is_not (is_some c.frames.pipe.load) (λ is.
        let giving : is_giving c ≡ true = ap (λ b. is_some c.stock.next || b) is ∙ or_right (is_some c.stock.next) in
        let one = some_long c.frames.pipe.load is in
        let full = (rests port less).room.filled giving in
        let a = given_many in
        let b = flow2 in
        let e = all_copied in
        omega (arith, one, full, a, b, e)))
      where
        or_right : (b : Bool) → (b || true) ≡ true
        or_right true = refl
        or_right false = refl

    -- so it took all that was put to it
    pub all_come : s2 ≡ t2
    all_come = (rests port less).copy.drained (no_echo ∙ ap is_none no_load)

    -- nothing is owed to the port
    not_wanting : is_wanting d port ≡ false
    not_wanting = is_not (is_wanting d port) (λ is.
        let empty = (rests port less).room.drained is in
        let resting : is_giving c ≡ false = is_not (is_giving c) (λ giving. let full = (rests port less).room.filled giving in omega (arith, full, empty)) in
        let parts = or_parts (is_some c.stock.next) (is_some c.frames.pipe.load) resting in
        let none = none_left c.stock (h.clients port less).fits.stock (none_some c.stock.next parts.0) in
        let load = none_long c.frames.pipe.load parts.1 in
        let a = given_many in
        let b = all_come in
        let e = all_copied in
        omega (arith, empty, none, load, a, b, e))

    none_first : is_some (first_owing d port) ≡ false
    none_first = ap (λ b. not b && is_some (first_owing d port)) (sym no_copy) ∙ (sym (ap (λ x. is_so (λ (s : Slot). not (has_copy s)) x && is_some (first_owing d port)) slot.1) ∙ not_wanting)

  -- no port owes another anything
  none_owed : (sender port : ℕ) → port < n → owes d sender port ≡ false
  none_owed sender port less = is_not (owes d sender port) (λ is.
      let s = so_there (λ (t : Slot). slice_index_or t.owed port false) (slice_get d.slots.items sender) is in
      let low = there_below d.slots.items sender s.0 s.1 in
      let many = desk_is.kept.many in
      let once = desk_is.kept.order.once sender (omega (arith, low, many)) in
      let some = there_found (λ x. owes d x port) sender d.order is (omega (arith, once)) in
      let bad = sym some ∙ none_first port less in cc)

  module _ (port : ℕ) (less : port < n) where
    -- nothing is held of the port
    nothing_owed : (k : ℕ) → slice_index_or (slot port less).0.owed k false ≡ false
    nothing_owed k = is_not (slice_index_or (slot port less).0.owed k false) (λ is.
        let low = index_within (slot port less).0.owed k is in
        let long = (desk_is.kept.each port (slot port less).0 (slot port less).1).long in
        let e = macs_many in
        let none = sym (ap (is_so (λ (s : Slot). slice_index_or s.owed k false)) (slot port less).1) ∙ none_owed port k (omega (arith, low, long, e)) in
        let bad = sym is ∙ none in cc)

    not_held : is_some (slot port less).0.frame ≡ false
    not_held = is_not (is_some (slot port less).0.frame) (λ is.
        let none = none_many (slot port less).0.owed nothing_owed in
        let owing : is_owing (slot port less).0 ≡ false = ap (nat_lt 0) none in
        let copied : is_copied (slot port less).0 ≡ true = ap (λ b. b && not (is_owing (slot port less).0)) is ∙ ap not owing in
        let bad = sym (ap (is_so is_copied) (slot port less).1 ∙ copied) ∙ not_returning port less in cc)

    free : is_taking d port ≡ true
    free = ap (is_so is_free) (slot port less).1 ∙ ap is_none (none_some (slot port less).0.frame not_held)

    -- so all that was put is taken
    all_took : s0 port less ≡ t0 port less
    all_took = (rests port less).come.drained free

    all_back : s1 port less ≡ t0 port less
    all_back =
        let none = none_long (slot port less).0.frame not_held in
        let same = ap (λ x. length (option_to_list x)) (held_is port less) in
        let a = held_many port less in
        omega (arith, none, same, a)

    not_sending : is_sending (o port less) (length (client_frames (c port less))) ≡ false
    not_sending = is_not (is_sending (o port less) (length (client_frames (c port less)))) (λ is. let full = (rests port less).come.filled is in let e = all_took in omega (arith, full, e))

    -- the client sent all of its frames
    all_sent_there : length (frames port less) ≤ (o port less).next
    all_sent_there =
        let parts = or_parts (is_some (o port less).load) (is_some (o port less).stock.next && nat_lt (o port less).next (length (client_frames (c port less)))) not_sending in
        let load = none_long (o port less).load parts.0 in
        let long = ap (λ l. length l) (out ports ends v passed h port less) in
        elim (cases_lt (o port less).next (length (client_frames (c port less)))) [
          | inl more ↦
              let lt = lt-ltb (o port less).next (length (client_frames (c port less))) more in
              let ready : is_some (o port less).stock.next ≡ false = sym (ap (λ b. is_some (o port less).stock.next && b) lt ∙ and_true (is_some (o port less).stock.next)) ∙ parts.1 in
              let none = none_some (o port less).stock.next ready in
              let needs : needs_buffer (o port less) (length (client_frames (c port less))) ≡ true =
              ap (λ x. is_none x && (is_none (o port less).stock.next && nat_lt (o port less).next (length (client_frames (c port less))))) (none_some (o port less).load parts.0)
              ∙ (ap (λ x. is_none x && nat_lt (o port less).next (length (client_frames (c port less)))) none ∙ lt) in
              let empty = (rests port less).back.drained needs in
              let left = none_left (o port less).stock (h.clients port less).fits.outbox.stock none in
              let a = had_many port less in
              let b = sent_many port less in
              let e = all_took in
              let f = all_back in
              absurd (omega (arith, load, empty, left, a, b, e, f))
          | inr past ↦ omega (arith, past, long)
        ]
      where
        and_true : (b : Bool) → (b && true) ≡ b
        and_true true = refl
        and_true false = refl

    -- so the switch took each of them
    pub took_all : map frame_of (passed.taken (4 * port)) ≡ frames port less
    took_all =
        whole_prefix (map frame_of (passed.taken (4 * port))) (frames port less) (takes_first ports ends v passed h port less)
        (let long = length-map (passed.taken (4 * port)) frame_of in
        let all = all_sent_there in
        let parts = or_parts (is_some (o port less).load) (is_some (o port less).stock.next && nat_lt (o port less).next (length (client_frames (c port less)))) not_sending in
        let load = none_long (o port less).load parts.0 in
        let a = sent_many port less in
        let b = all_took in
        omega (arith, long, all, load, a, b))

    -- and all copies were put
    none_left_over : owed_to d port ≡ []
    none_left_over = flat_none (owed_by d port) d.order (λ sender. ap (λ b. cond b (option_to_list (option_map (λ (x : Cargo). (sender, x)) (held_at d sender))) []) (none_owed sender port less))

    pub got_all : map frame_of (passed.taken (4 * port + 2)) ≡ frames_to ports.macs port taken
    got_all =
        whole_prefix (map frame_of (passed.taken (4 * port + 2))) (frames_to ports.macs port taken) (comes_first ports ends v passed h port less)
        (let all = drop_none (s2 port less) (sent_to v.desk.macs.items port taken) ((stands ports ends v passed h port less).owed ∙ none_left_over) in
        let come = all_come port less in
        let long = length-map (passed.taken (4 * port + 2)) frame_of in
        let wide = length-map (sent_to ports.macs port taken) (λ (x : Sent). frame_of x.1) in
        let same = ap (λ macs. length (sent_to macs port taken)) h.switch.macs_are in
        omega (arith, all, come, long, wide, same))

  -- in the words of the ports
  pub took_whole : (port : ℕ) (fs : List (List ℕ)) → slice_get ports.sends port ≡ Some fs → sent_by port (frames_taken ports.sends passed.calls) ≡ fs
  took_whole port fs at =
      let less = below ports ends v passed h port fs at in
      sent_is ports ends v passed h port less ∙ (took_all port less ∙ some_is (sym (h.clients port less).is.sends ∙ at))

  pub record_whole : (port : ℕ) (c : NetClient) → IsClientOf ports port c → ClientStandsFor c passed → c.frames.tape.shown ≡ frames_to ports.macs port taken
  record_whole port c is st = recorded ports ends v passed h port c is st ∙ got_all port (there ports ends v passed h port c is)

  pub record_all : (port : ℕ) (c : NetClient) → IsClientOf ports port c → ClientStandsFor c passed → c.frames.tape.shown ≡ frames_in (reaching ports.macs port (frames_taken ports.sends passed.calls))
  record_all port c is st = record_whole port c is st ∙ frames_there ports ends v passed h port is.mac is.address

  are_all : AreAll ports.sends taken
  are_all = record {
    first = are_first ports ends v passed h;
    all = λ port fs at. (let less = below ports ends v passed h port fs at in
        ap (map (λ (x : Cargo). frame_of x)) (came ports ends v passed h port less) ∙ (took_all port less ∙ some_is (sym (h.clients port less).is.sends ∙ at)));
  }

  module _ (whole : (macs : List Mac) (receiver : ℕ) (mac : Mac) (sends : List (List (List ℕ))) (sent : List Sent) → length macs ≡ length sends → slice_get macs receiver ≡ Some mac → AreAll sends sent → Merge (all_to 0 receiver mac sends) (frames_to macs receiver sent)) where
    pub record_merged : (port : ℕ) (mac : Mac) → slice_get ports.macs port ≡ Some mac → (c : NetClient) → IsClientOf ports port c → ClientStandsFor c passed → Merge (all_to 0 port mac ports.sends) c.frames.tape.shown
    record_merged port mac at c is st =
        subst (Merge (all_to 0 port mac ports.sends)) (sym (record_whole port c is st)) (whole ports.macs port mac ports.sends taken (sym h.playable.as_many) at are_all)
