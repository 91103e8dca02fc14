-- What the actors of a switch's system did with the buffers, whatever they stand for.
use Rattle.std.proofs.Common.{◌≡◌, ◌+◌, ◌*◌, ◌<◌, ◌++◌, ℕ, List, [], ◌∷◌, length, sym, ap, ◌∙◌, subst, arith, option_to_list}
use Rattle.std.proofs.lemmas.Option.{get_or_from_slice_get}
use Rattle.cargo_core.specs.declared.item.Body.{Body}
use Rattle.frame_core.specs.declared.mac.Mac.{Mac}
use Rattle.wire_core.specs.declared.names.QueueId.{QueueId}
use Rattle.wire_core.specs.Ends.{Role, Consumer, Producer}
use Rattle.wire_core.specs.Lists.{Passed}
use Rattle.wire_core.specs.Queues.{items_of}
use Rattle.play_core.specs.Moved.{Moved, went}
use Rattle.play_core.specs.Sheets.{Scene}
use Rattle.play_core.specs.Rests.Showing.{HaveItems}
use Rattle.buffer_kit.specs.Clients.{queue_at}
use Rattle.owner_law.specs.Things.{Buffers}
use Rattle.owner_law.specs.Keeping.{Keeper, keeper_of, Keeps, all_taken, all_put}
use Rattle.owner_law.specs.Pools.Places.{PoolAt, by_address}
use Rattle.owner_law.specs.Pools.Handing.{HandsOn}
use Rattle.owner_law.specs.Pools.Lines.{HoldsIts}
use Rattle.client_programs.specs.declared.net.NetClient.{NetClient}
use Rattle.client_programs.specs.Net.Clients.{ClientStandsFor, client_hand, rx_active, rx_free, tx_active, tx_free}
use Rattle.client_programs.specs.Net.Programs.{program_of as kind_of_program}
use Rattle.client_programs.proofs.NetLemmas.Standing.{row_of}
use Rattle.client_programs.proofs.NetLemmas.Holding.{balance_of}
use Rattle.net_law.specs.Owners.Ends.{passed_at, ClientNames, stock_window}
use Rattle.net_law.specs.Parts.Parts.{NetPart, NetClient as ClientPart}
use Rattle.net_law.specs.Parts.Naming.{NamesPart}
use Rattle.net_law.specs.Parts.Playing.{client_part}
use Rattle.net_law.specs.Parts.Table.{net_sheet}
use Rattle.net_law.proofs.OwnersLemmas.Clients.{client_keeps}
use Rattle.net_quiet.specs.Pools.Holders.{no_lent}
use Rattle.net_quiet.proofs.PoolsLemmas.Clients.{client_on, client_holds}
use Rattle.net_switch.specs.SwitchDesk.Desks.{held_at, copy_at}
use Rattle.net_switch.specs.SwitchDesk.Frames.{frames_to}
use Rattle.net_switch.specs.declared.switch.NetSwitch.{NetSwitch}
use Rattle.net_switch.specs.Ends.{come_queues, back_queues, room_queues, copy_queues}
use Rattle.net_switch.specs.Switching.{SwitchStandsFor, all_sent}
use Rattle.line_text.proofs.Rows.{length_per_client}
use Rattle.switched_law.specs.declared.switch_class.member.Member.{Member}
use Rattle.switched_law.specs.declared.switch_class.member.Member.TheVariants as Members
use Rattle.switched_law.specs.SwitchClass.Members.{Made, Runs, Switches, pool_of, made_of, MemberStandsFor}
use Rattle.switched_law.specs.SwitchClass.Casting.{rx_pool, tx_pool, client_made, queues_at, switch_made}
use Rattle.switched_law.proofs.SwitchClass.Lanes.{TxFree, RxActive, RxFree, value_at}
use Rattle.switched_law.specs.SwitchOwners.Owning.{switch_naming, client_keeper, switch_keeper}
use Rattle.switched_law.proofs.SwitchOwners.Naming.{name_at, name_tx}
use Rattle.switched_law.proofs.SwitchOwners.Ways.{PortWay, hand_from, ways_keep, ways_hand_on, ways_hold}

-- by what it is made of: a client's part, keeper and windows
abbrev scene : Scene
scene = record { frames = []; image = [] }

abbrev part_by : Made → NetPart
part_by (Runs a f s b program rx tx) = ClientPart (kind_of_program program) program.mac a f s b rx tx
part_by (Switches come back room copy macs) = ClientPart Rattle.class_expect.specs.NetExpect.Expecting.Sink (record { 0 = [] }) 0 0 0 0 (rx_pool 0) (rx_pool 0)

abbrev keeper_by : Made → Keeper
keeper_by made = keeper_of (net_sheet scene (part_by made))

-- a client of a port
module _ (n port : ℕ) (lt : port < n) (mac : Mac) (frames : List (List ℕ)) (c : NetClient) (made : made_of (Members.Client c) ≡ client_made port mac frames) where
  rx_active_is : rx_active c ≡ 4 * port + 2
  rx_active_is = cc

  rx_free_is : rx_free c ≡ 4 * port + 3
  rx_free_is = cc

  tx_active_is : tx_active c ≡ 4 * port
  tx_active_is = cc

  tx_free_is : tx_free c ≡ 4 * port + 1
  tx_free_is = cc

  rx_is : pool_of c.stock ≡ rx_pool port
  rx_is = cc

  tx_is : pool_of c.outbox.stock ≡ tx_pool port
  tx_is = cc

  keeper_is : keeper_of (net_sheet scene (client_part c)) ≡ client_keeper port
  keeper_is = ap keeper_by made

  rx_window : stock_window c.stock ∷ [] ≡ by_address (rx_pool port) ∷ []
  rx_window = ap (λ p. by_address p ∷ []) rx_is

  tx_window : stock_window c.outbox.stock ∷ [] ≡ by_address (tx_pool port) ∷ []
  tx_window = ap (λ p. by_address p ∷ []) tx_is

  names : ClientNames (switch_naming n) c
  names = record {
    active = ap (switch_naming n) rx_active_is ∙ (name_at n port RxActive lt ∙ ap Buffers (sym rx_window));
    free = ap (switch_naming n) rx_free_is ∙ (name_at n port RxFree lt ∙ ap Buffers (sym rx_window));
    sends = ap (switch_naming n) tx_active_is ∙ (name_tx n port lt ∙ ap Buffers (sym tx_window));
    sent = ap (switch_naming n) tx_free_is ∙ (name_at n port TxFree lt ∙ ap Buffers (sym tx_window));
  }

  part_names : NamesPart (switch_naming n) scene (client_part c)
  part_names = subst (NamesPart (switch_naming n) scene) (sym (ap part_by made)) ((name_at n port RxActive lt, name_at n port RxFree lt), (name_tx n port lt, name_at n port TxFree lt))

  module _ (passed : Passed) (m : Moved) (stands : ClientStandsFor c passed) where
    items_at : HaveItems passed m → (r : Role) (q : ℕ) → went m r q ≡ items_of (passed_at passed r q)
    items_at items Consumer q = sym (items.taken q)
    items_at items Producer q = sym (items.sent q)

    pub client_puts_own : HaveItems passed m → Keeps (client_keeper port).hand (all_taken (switch_naming n) m (client_keeper port).ends) (all_put (switch_naming n) m (client_keeper port).ends)
    client_puts_own items = subst (λ (k : Keeper). Keeps k.hand (all_taken (switch_naming n) m k.ends) (all_put (switch_naming n) m k.ends)) keeper_is
        (client_keeps (switch_naming n) c passed m names (λ i s at. items_at items s.role s.queue) (row_of c passed stands))

    pub client_hands_on : HandsOn (switch_naming n) m passed (client_keeper port).ends
    client_hands_on = subst (λ (k : Keeper). HandsOn (switch_naming n) m passed k.ends) keeper_is
        (client_on (switch_naming n) scene passed m c part_names (record { base = ap (λ (p : PoolAt). p.base) rx_is; spare_base = ap (λ (p : PoolAt). p.base) tx_is }) (row_of c passed stands))

    pub client_holds_its : (sizes : ℕ → ℕ) → HoldsIts (switch_naming n) sizes m passed (record { keeper = client_keeper port; hand = client_hand c; lent = no_lent })
    client_holds_its sizes = subst (λ (k : Keeper). HoldsIts (switch_naming n) sizes m passed (record { keeper = k; hand = client_hand c; lent = no_lent })) keeper_is
        (client_holds (switch_naming n) scene passed m c part_names sizes (balance_of c passed stands))

-- what a switch has in hand
abbrev pub switch_hand : ℕ → NetSwitch → List Body
switch_hand n v = hand_from (λ k. option_to_list (held_at v.desk k)) (λ k. option_to_list (copy_at v.desk k)) 0 n

module _ (macs : List Mac) (v : NetSwitch) (made : made_of (Members.Switch v) ≡ switch_made macs) where
  abbrev n : ℕ
  n = length macs

  come_are : come_queues v.ends ≡ queues_at n 0
  come_are = cc

  back_are : back_queues v.ends ≡ queues_at n 1
  back_are = cc

  room_are : room_queues v.ends ≡ queues_at n 3
  room_are = cc

  copy_are : copy_queues v.ends ≡ queues_at n 2
  copy_are = cc

  macs_are : v.desk.macs.items ≡ macs
  macs_are = cc

  queue_is : (qs : List QueueId) (place k : ℕ) → qs ≡ queues_at n place → k < n → queue_at qs k ≡ 4 * k + place
  queue_is qs place k are lt = ap (λ l. queue_at l k) are ∙ ap (λ (q : QueueId). q.0) (get_or_from_slice_get (queues_at n place) k (record { 0 = 4 * k + place }) (record { 0 = 0 }) (value_at n (λ j. record { 0 = 4 * j + place }) k lt))

  module _ (passed : Passed) (stands : SwitchStandsFor v passed) where
    port_way : (k : ℕ) → k < n → PortWay passed k (option_to_list (held_at v.desk k)) (option_to_list (copy_at v.desk k))
    port_way k lt =
        let come_n : length (come_queues v.ends) ≡ n = ap (λ l. length l) come_are ∙ length_per_client n (λ j. record { 0 = 4 * j + 0 }) in
        let macs_n : length v.desk.macs.items ≡ n = ap (λ l. length l) macs_are in
        let port = stands.desk.ports k (omega (arith, lt, macs_n)) in
        let zero_more : 4 * k + 0 ≡ 4 * k = omega arith in
        let come = queue_is (come_queues v.ends) 0 k come_are lt ∙ zero_more in
        let back = queue_is (back_queues v.ends) 1 k back_are lt in
        let room = queue_is (room_queues v.ends) 3 k room_are lt in
        let copy = queue_is (copy_queues v.ends) 2 k copy_are lt in
        let rest = option_to_list (copy_at v.desk k) in
        let fs = frames_to v.desk.macs.items k (all_sent v passed) in
        record {
          frames = fs;
          held_is = ap (λ q. passed.sent q ++ option_to_list (held_at v.desk k)) (sym back) ∙ (port.backs ∙ (stands.came k (omega (arith, lt, come_n)) ∙ ap passed.taken come));
          copy_is = ap (λ q. passed.sent q ++ rest) (sym copy) ∙ (port.copies ∙ ap (λ q. Rattle.buffer_kit.specs.Entries.all_filled fs (passed.taken q)) room);
          many = ap (λ q. length (passed.taken q)) (sym room) ∙ (port.takes ∙ ap (λ q. length (passed.sent q ++ rest)) copy);
        }

    pub switch_puts_own : (m : Moved) → HaveItems passed m → Keeps (switch_keeper n).hand (all_taken (switch_naming n) m (switch_keeper n).ends) (all_put (switch_naming n) m (switch_keeper n).ends)
    switch_puts_own m items = ways_keep n passed m (λ k. option_to_list (held_at v.desk k)) (λ k. option_to_list (copy_at v.desk k)) port_way items

    pub switch_hands_on : (m : Moved) → HandsOn (switch_naming n) m passed (switch_keeper n).ends
    switch_hands_on m = ways_hand_on n passed m (λ k. option_to_list (held_at v.desk k)) (λ k. option_to_list (copy_at v.desk k)) port_way

    pub switch_holds_its : (m : Moved) (sizes : ℕ → ℕ) → HoldsIts (switch_naming n) sizes m passed (record { keeper = switch_keeper n; hand = switch_hand n v; lent = no_lent })
    switch_holds_its m sizes = ways_hold n passed m (λ k. option_to_list (held_at v.desk k)) (λ k. option_to_list (copy_at v.desk k)) port_way sizes

-- what an actor has in hand
abbrev pub hand_of : ℕ → Member → List Body
hand_of n (Members.Client c) = client_hand c
hand_of n (Members.Switch v) = switch_hand n v

-- the same of any actor that is made of this
module _ (n port : ℕ) (lt : port < n) (mac : Mac) (frames : List (List ℕ)) (passed : Passed) (m : Moved) where
  pub client_like_keeps : (y : Member) → made_of y ≡ client_made port mac frames → MemberStandsFor y passed → HaveItems passed m → Keeps (client_keeper port).hand (all_taken (switch_naming n) m (client_keeper port).ends) (all_put (switch_naming n) m (client_keeper port).ends)
  client_like_keeps (Members.Client c) made stands items = client_puts_own n port lt mac frames c made passed m stands items
  client_like_keeps (Members.Switch v) made stands items = cc

  pub client_like_hands : (y : Member) → made_of y ≡ client_made port mac frames → MemberStandsFor y passed → HandsOn (switch_naming n) m passed (client_keeper port).ends
  client_like_hands (Members.Client c) made stands = client_hands_on n port lt mac frames c made passed m stands
  client_like_hands (Members.Switch v) made stands = cc

  pub client_like_holds : (sizes : ℕ → ℕ) (y : Member) → made_of y ≡ client_made port mac frames → MemberStandsFor y passed → HoldsIts (switch_naming n) sizes m passed (record { keeper = client_keeper port; hand = hand_of n y; lent = no_lent })
  client_like_holds sizes (Members.Client c) made stands = client_holds_its n port lt mac frames c made passed m stands sizes
  client_like_holds sizes (Members.Switch v) made stands = cc

module _ (macs : List Mac) (passed : Passed) (m : Moved) where
  pub switch_like_keeps : (y : Member) → made_of y ≡ switch_made macs → MemberStandsFor y passed → HaveItems passed m → Keeps (switch_keeper (length macs)).hand (all_taken (switch_naming (length macs)) m (switch_keeper (length macs)).ends) (all_put (switch_naming (length macs)) m (switch_keeper (length macs)).ends)
  switch_like_keeps (Members.Client c) made stands items = cc
  switch_like_keeps (Members.Switch v) made stands items = switch_puts_own macs v made passed stands m items

  pub switch_like_hands : (y : Member) → made_of y ≡ switch_made macs → MemberStandsFor y passed → HandsOn (switch_naming (length macs)) m passed (switch_keeper (length macs)).ends
  switch_like_hands (Members.Client c) made stands = cc
  switch_like_hands (Members.Switch v) made stands = switch_hands_on macs v made passed stands m

  pub switch_like_holds : (sizes : ℕ → ℕ) (y : Member) → made_of y ≡ switch_made macs → MemberStandsFor y passed → HoldsIts (switch_naming (length macs)) sizes m passed (record { keeper = switch_keeper (length macs); hand = hand_of (length macs) y; lent = no_lent })
  switch_like_holds sizes (Members.Client c) made stands = cc
  switch_like_holds sizes (Members.Switch v) made stands = switch_holds_its macs v made passed stands m sizes
