use Rattle.std.proofs.Common.{◌≡◌, ◌⊎◌, inl, inr, ◌+◌, ◌≤◌, ℕ, Bool, true, false, cond, List, [], ◌∷◌, length, take, drop, sym, ap, ◌∙◌, refl, arith}
use Rattle.std.specs.Option.{option_to_list}
use Rattle.std.proofs.lemmas.List.{length-take-le, take-append-drop}
use Rattle.cargo_core.specs.Bodies.{buffers_of}
use Rattle.wire_core.specs.Deeds.{Cargo}
use Rattle.wire_core.specs.Lists.{Passed}
use Rattle.wire_core.specs.Fates.{without, marked}
use Rattle.wire_core.proofs.Fating.{without_left, without_length, without_more, without_none}
use Rattle.turn_kit.specs.Hands.{bodies_of}
use Rattle.turn_kit.proofs.Holding.{at_one, at_more, cargo-append}
use Rattle.buffer_kit.specs.Entries.{all_filled}
use Rattle.buffer_kit.proofs.Counts.{all_filled_in}
use Rattle.buffer_kit.proofs.Filling.{filled_still}
use Rattle.device_model.specs.declared.ethernet.EthDevice.{EthDevice}
use Rattle.device_model.specs.Ethernet.Devices.{DeviceStandsFor, DeviceBalances, DeviceRow, HoldingDeviceStands, HoldingDeviceRow, accepted, frames_dropped, rx_free, rx_active, tx_active, tx_free}
use Rattle.device_model.proofs.EthernetLemmas.Dropping.{none_dropped_held, held_stands, holds}

module _ (d : EthDevice) (passed : Passed) (h : DeviceStandsFor d passed) where
  abbrev ds : List Bool
  ds = frames_dropped d passed.calls

  abbrev trf : List Cargo
  trf = passed.taken (rx_free d)

  few_used : d.drops ≡ true → length ds ≤ length d.frames
  few_used on = let u = (h.tells on).used in let n = h.next in omega (arith, u, n)

  fits_all : (length ds ≤ length d.frames) ⊎ (marked ds ≡ 0)
  fits_all = by d.drops refl
    where
      by : (b : Bool) → d.drops ≡ b → (length ds ≤ length d.frames) ⊎ (marked ds ≡ 0)
      by true on = inl (few_used on)
      by false off = inr (none_dropped_held d off passed.calls)

  left : length (without ds d.frames) + marked ds ≡ length d.frames
  left = without_left ds d.frames fits_all

  few_taken : length trf ≤ length (without ds d.frames)
  few_taken = let t = h.takes in let n = h.next in let l = left in omega (arith, t, n, l)

  pub balance_of : DeviceBalances d passed
  balance_of pool =
      let came = at_more pool passed.taken (rx_free d) (tx_active d ∷ []) in
      let came' = at_one pool passed.taken (tx_active d) in
      let went = at_more pool passed.sent (rx_active d) (tx_free d ∷ []) in
      let went' = at_one pool passed.sent (tx_free d) in
      let filled = ap (λ cs. buffers_of pool (bodies_of cs)) h.filled ∙ all_filled_in pool (without ds d.frames) trf few_taken in
      let parts = cargo-append pool (passed.sent (rx_active d)) (option_to_list d.load) in
      let moved = ap (λ cs. buffers_of pool (bodies_of cs)) h.sends.moved ∙ cargo-append pool (passed.sent (tx_free d)) (option_to_list d.wire.pipe.load) in
      let hand = cargo-append pool (option_to_list d.load) (option_to_list d.wire.pipe.load) in
      omega (arith, came, came', went, went', filled, parts, moved, hand)

  -- of the frames that are used up, those that it didn't drop are as many as it took buffers
  abbrev fits : List (List ℕ)
  fits = without ds (take (length ds) d.frames)

  fits_long : d.drops ≡ true → length fits ≡ length trf
  fits_long on =
      let n = length-take-le (length ds) d.frames (few_used on) in
      let l = without_length ds (take (length ds) d.frames) (omega (arith, n)) in
      let t = h.takes in
      let u = (h.tells on).used in
      omega (arith, n, l, t, u)

  fits_fill : d.drops ≡ true → all_filled (without ds d.frames) trf ≡ all_filled fits trf
  fits_fill on =
      let n = length-take-le (length ds) d.frames (few_used on) in
      let l = fits_long on in
      ap (λ xs. all_filled (without ds xs) trf) (sym (take-append-drop (length ds) d.frames)) ∙ (ap (λ xs. all_filled xs trf) (without_more ds (take (length ds) d.frames) (drop (length ds) d.frames) (omega (arith, n))) ∙ filled_still fits (drop (length ds) d.frames) trf (omega (arith, l)))

  accepted_is : (b : Bool) → d.drops ≡ b → accepted d passed.calls ≡ cond b fits d.frames
  accepted_is b is = ap (λ x. cond x fits d.frames) is

  row_by : (b : Bool) → d.drops ≡ b → (all_filled (without ds d.frames) trf ≡ all_filled (accepted d passed.calls) trf) × (length trf ≤ length (accepted d passed.calls))
  row_by true on = let l = fits_long on in let a = accepted_is true on in (fits_fill on ∙ sym (ap (λ xs. all_filled xs trf) a), rw a (omega (arith, l)))
  row_by false on =
      let none = none_dropped_held d on passed.calls in
      let t = h.takes in
      let n = h.next in
      let a = accepted_is false on in
      (ap (λ xs. all_filled xs trf) (without_none ds d.frames none ∙ sym a), rw a (omega (arith, t, n)))

  pub row_of : DeviceRow d passed
  row_of =
      let r = row_by d.drops refl in
      record {
        filled = (option_to_list d.load, h.filled ∙ r.0);
        takes = r.1;
        used = let t = h.takes in let n = h.next in omega (arith, t, n);
        each = λ on. (h.tells on).each;
        returns = (option_to_list d.wire.pipe.load, sym h.sends.moved);
        wire = h.sends.recorded;
      }

-- a device that never drops
abbrev waiting : EthDevice → EthDevice
waiting d = record d { drops = false }

waiting_stands : (d : EthDevice) (passed : Passed) → HoldingDeviceStands d passed → DeviceStandsFor (waiting d) passed
waiting_stands d passed h = held_stands (waiting d) passed refl (record { filled = h.filled; takes = h.takes; next = h.next; sends = h.sends })

pub held_row : (d : EthDevice) (passed : Passed) → HoldingDeviceStands d passed → HoldingDeviceRow d passed
held_row d passed h =
    let row = holds (waiting d) passed refl (row_of (waiting d) passed (waiting_stands d passed h)) in
    record { filled = row.filled; takes = row.takes; returns = row.returns; wire = row.wire }

pub held_balance : (d : EthDevice) (passed : Passed) → HoldingDeviceStands d passed → DeviceBalances d passed
held_balance d passed h = balance_of (waiting d) passed (waiting_stands d passed h)
