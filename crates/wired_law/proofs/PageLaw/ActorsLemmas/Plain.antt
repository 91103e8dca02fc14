-- Copier, client, driver and device: what each stands for conserves buffers one by one.
use Rattle.std.proofs.Common.{◌≡◌, ◌+◌, ◌≤◌, Bool, true, false, List, ℕ, [], ◌∷◌, ◌++◌, length, map, refl, ap, ◌∙◌, arith}
use Rattle.std.specs.Option.{option_to_list}
use Rattle.std.proofs.lemmas.List.{length-append, length-map}
use Rattle.wire_core.specs.Deeds.{Cargo}
use Rattle.wire_core.specs.Lists.{Passed}
use Rattle.turn_kit.specs.Hands.{bodies_of, bodies_at}
use Rattle.turn_kit.specs.declared.pipe.Pipe.{Pipe}
use Rattle.buffer_kit.specs.Pools.{given_entry, page_bodies}
use Rattle.buffer_kit.specs.Stocks.{stock_list, stock_hand}
use Rattle.net_copier.specs.declared.NetCopier.{NetCopier}
use Rattle.net_copier.specs.Copying.{CopierStandsFor, CopierRow, copier_hand, leased_bytes, leases_dropped}
use Rattle.net_copier.proofs.Dropping.{none_dropped_held as none_lease_dropped}
use Rattle.net_copier.proofs.Holding.{row_of}
use Rattle.wire_core.specs.Fates.{without, marked}
use Rattle.wire_core.proofs.Fating.{without_none, without_length}
use Rattle.device_model.proofs.EthernetLemmas.Dropping.{none_dropped_held as none_frame_dropped}
use Rattle.client_programs.specs.declared.net.NetClient.{NetClient}
use Rattle.client_programs.specs.declared.net.outbox.Outbox.{Outbox}
use Rattle.client_programs.specs.Net.Sending.{OutboxStandsFor, outbox_hand}
use Rattle.client_programs.specs.Net.Clients.{ClientStandsFor, client_hand, client_owes, client_frames, rx_active, rx_free, tx_active, tx_free}
use Rattle.pipe_driver.specs.Drivers.{PipesStandFor, inputs_of, outputs_of, pipes_hand}
use Rattle.device_model.specs.declared.ethernet.EthDevice.{EthDevice}
use Rattle.device_model.specs.Ethernet.Devices as Dev
use Rattle.buffer_kit.specs.Conserving.{Count, counted, Conserves, weighed}
use Rattle.buffer_kit.proofs.Conserving.{weighed-append, counted-append, counted-at}
use Rattle.wired_law.proofs.PageLaw.ActorsLemmas.Filling.{given_count, stock_count, all_filled_same}

module _ (c : NetCopier) (passed : Passed) (h : CopierStandsFor c passed) where
  abbrev leases : List Cargo
  leases = passed.taken c.lease_input.queue.0

  abbrev buffers : List Cargo
  buffers = passed.taken c.buffer_input.queue.0

  abbrev gone : List Bool
  gone = leases_dropped c passed.calls

  row : CopierRow c passed
  row = row_of c passed h

  taken_few : length buffers ≤ length (without gone leases)
  taken_few = by c.drops refl
    where
      by : (b : Bool) → c.drops ≡ b → length buffers ≤ length (without gone leases)
      by true on =
          let takes = row.takes_for in
          let settled = row.settled on in
          let all = ap length row.taken ∙ length-append row.leases row.stray in
          let left = without_length gone leases (omega (arith, settled, all)) in
          omega (arith, takes, all, left)
      by false off =
          let takes = row.takes_for in
          let all = ap length row.taken ∙ length-append row.leases row.stray in
          let same = ap length (without_none gone leases (none_lease_dropped c off passed.calls)) in
          omega (arith, takes, all, same)

  pub copier_conserves : Conserves [] (bodies_at passed.taken (c.lease_input.queue.0 ∷ c.buffer_input.queue.0 ∷ [])) (bodies_at passed.sent (c.buffer_output.queue.0 ∷ c.lease_output.queue.0 ∷ [])) (copier_hand c) []
  copier_conserves f =
      let came = counted-at f passed.taken c.lease_input.queue.0 (c.buffer_input.queue.0 ∷ []) in
      let came' = counted-at f passed.taken c.buffer_input.queue.0 [] in
      let went = counted-at f passed.sent c.buffer_output.queue.0 (c.lease_output.queue.0 ∷ []) in
      let went' = counted-at f passed.sent c.lease_output.queue.0 [] in
      let back = ap (weighed f) h.leases ∙ weighed-append f (passed.sent c.lease_output.queue.0) (option_to_list c.lease) in
      let long = length-map (without gone leases) leased_bytes in
      let few = taken_few in
      let copies = ap (weighed f) h.copies ∙ all_filled_same f (map leased_bytes (without gone leases)) buffers (omega (arith, long, few)) in
      let parts = weighed-append f (passed.sent c.buffer_output.queue.0) (option_to_list c.buffer) in
      let hand = weighed-append f (option_to_list c.lease) (option_to_list c.buffer) in
      omega (arith, came, came', went, went', back, copies, parts, hand)

outbox_balance : (f : Count) (o : Outbox) (fs : List (List ℕ)) (back put : List Cargo) (h : OutboxStandsFor o fs back put) → counted f (page_bodies h.start) + weighed f back ≡ weighed f put + counted f (outbox_hand o)
outbox_balance f o fs back put h =
    let few : length h.used ≤ length fs = omega (arith, h.many, h.few) in
    let had = ap (weighed f) h.had in
    let came = weighed-append f (map (given_entry o.stock.base o.stock.size) h.start) back in
    let start = given_count f o.stock.base o.stock.size h.start in
    let parts = weighed-append f h.used (stock_list o.stock) in
    let filled = ap (weighed f) h.filled ∙ all_filled_same f fs h.used few in
    let went = weighed-append f put (option_to_list o.load) in
    let hand = counted-append f (bodies_of (option_to_list o.load)) (stock_hand o.stock) in
    omega (arith, had, came, start, parts, filled, went, stock_count f o.stock, hand)

pub client_conserves : (c : NetClient) (passed : Passed) (h : ClientStandsFor c passed) → Conserves (page_bodies h.start ++ page_bodies h.sends.start) (bodies_at passed.taken (rx_active c ∷ tx_free c ∷ [])) (bodies_at passed.sent (rx_free c ∷ tx_active c ∷ [])) (client_hand c) []
client_conserves c passed h f =
    let came = counted-at f passed.taken (rx_active c) (tx_free c ∷ []) in
    let came' = counted-at f passed.taken (tx_free c) [] in
    let went = counted-at f passed.sent (rx_free c) (tx_active c ∷ []) in
    let went' = counted-at f passed.sent (tx_active c) [] in
    let all = ap (weighed f) h.given in
    let put = weighed-append f (passed.sent (rx_free c)) (client_owes c) in
    let got = weighed-append f (map (given_entry c.stock.base c.stock.size) h.start) (passed.taken (rx_active c)) in
    let start = given_count f c.stock.base c.stock.size h.start in
    let had = counted-append f (page_bodies h.start) (page_bodies h.sends.start) in
    let sends = outbox_balance f c.outbox (client_frames c) (passed.taken (tx_free c)) (passed.sent (tx_active c)) h.sends in
    let hand = counted-append f (bodies_of (client_owes c)) (outbox_hand c.outbox) in
    omega (arith, came, came', went, went', all, put, got, start, had, sends, hand)

pub driver_conserves : (ps : List Pipe) (passed : Passed) → PipesStandFor ps passed → Conserves [] (bodies_at passed.taken (inputs_of ps)) (bodies_at passed.sent (outputs_of ps)) (pipes_hand ps) []
driver_conserves [] passed h f = refl
driver_conserves (p ∷ ps) passed h f =
    let rest = driver_conserves ps passed h.1 f in
    let came = counted-at f passed.taken p.input.queue.0 (inputs_of ps) in
    let went = counted-at f passed.sent p.output.queue.0 (outputs_of ps) in
    let hand = counted-append f (bodies_of (option_to_list p.load)) (pipes_hand ps) in
    let here = ap (weighed f) h.0 ∙ weighed-append f (passed.sent p.output.queue.0) (option_to_list p.load) in
    omega (arith, rest, came, went, hand, here)

pub device_conserves : (d : EthDevice) (passed : Passed) → Dev.DeviceStandsFor d passed → Conserves [] (bodies_at passed.taken (Dev.rx_free d ∷ Dev.tx_active d ∷ [])) (bodies_at passed.sent (Dev.rx_active d ∷ Dev.tx_free d ∷ [])) (bodies_of (option_to_list d.load ++ option_to_list d.wire.pipe.load)) []
device_conserves d passed h f =
    let came = counted-at f passed.taken (Dev.rx_free d) (Dev.tx_active d ∷ []) in
    let came' = counted-at f passed.taken (Dev.tx_active d) [] in
    let went = counted-at f passed.sent (Dev.rx_active d) (Dev.tx_free d ∷ []) in
    let went' = counted-at f passed.sent (Dev.tx_free d) [] in
    let filled = ap (weighed f) h.filled ∙ all_filled_same f (without (Dev.frames_dropped d passed.calls) d.frames) (passed.taken (Dev.rx_free d)) (few d.drops refl) in
    let parts = weighed-append f (passed.sent (Dev.rx_active d)) (option_to_list d.load) in
    let moved = ap (weighed f) h.sends.moved ∙ weighed-append f (passed.sent (Dev.tx_free d)) (option_to_list d.wire.pipe.load) in
    let hand = weighed-append f (option_to_list d.load) (option_to_list d.wire.pipe.load) in
    omega (arith, came, came', went, went', filled, parts, moved, hand)
  where
    few : (b : Bool) → d.drops ≡ b → length (passed.taken (Dev.rx_free d)) ≤ length (without (Dev.frames_dropped d passed.calls) d.frames)
    few true on =
        let takes = h.takes in
        let next = h.next in
        let all = (h.tells on).used in
        let left = without_length (Dev.frames_dropped d passed.calls) d.frames (omega (arith, all, next)) in
        omega (arith, takes, all, left)
    few false off =
        let takes = h.takes in
        let next = h.next in
        let same = ap length (without_none (Dev.frames_dropped d passed.calls) d.frames (none_frame_dropped d off passed.calls)) in
        omega (arith, takes, next, same)
