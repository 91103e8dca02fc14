use Rattle.std.proofs.Common.{◌≡◌, ◌+◌, ◌≤◌, ℕ, List, [], sum_by, refl, ap, ◌∙◌, arith}
use Rattle.wire_core.specs.Lists.{Passed}
use Rattle.play_core.specs.Moved.{Moved}
use Rattle.owner_law.specs.Things.{times, names_in, Buffer, is_same, Window, Naming, Thing, things_sent, things_taken, as_buffer, as_lease, lends, gives_back, brings_leases}
use Rattle.owner_law.specs.Keeping.{Keeps, all_taken, all_put, things_in, things_out}
use Rattle.owner_law.proofs.Sums.{sum_flat}
use Rattle.owner_law.proofs.Named.{carried, buffers_are, buffers_none, keeps_plain}
use Rattle.device_model.specs.Ethernet.Devices.{rx_free, rx_active, tx_active, tx_free, DeviceRow, accepted}
use Rattle.device_model.specs.declared.ethernet.EthDevice.{EthDevice}
use Rattle.net_law.specs.Owners.Ends.{AreItemsOf, device_ends, DeviceNames}
use Rattle.net_law.proofs.OwnersLemmas.Few.{few, filled_few}

-- a device
module _ (naming : Naming) (rx tx : List Window) (d : EthDevice) (passed : Passed) (m : Moved) (names : DeviceNames naming rx tx d) (items : AreItemsOf (device_ends d) passed m) (row : DeviceRow d passed) where
  device_came : (f : Thing → ℕ) → sum_by f (all_taken naming m (device_ends d)) ≡ carried naming m (rx_free d) (m.taken (rx_free d)) f + carried naming m (tx_active d) (m.taken (tx_active d)) f
  device_came f =
      let parts : sum_by f (all_taken naming m (device_ends d)) ≡ 0 + carried naming m (rx_free d) (m.taken (rx_free d)) f + 0 + carried naming m (tx_active d) (m.taken (tx_active d)) f + 0 = sum_flat f (things_in naming m) (device_ends d) in
      omega (arith, parts)

  device_went : (f : Thing → ℕ) → sum_by f (all_put naming m (device_ends d)) ≡ carried naming m (rx_active d) (m.sent (rx_active d)) f + carried naming m (tx_free d) (m.sent (tx_free d)) f
  device_went f =
      let parts : sum_by f (all_put naming m (device_ends d)) ≡ 0 + 0 + carried naming m (rx_active d) (m.sent (rx_active d)) f + 0 + carried naming m (tx_free d) (m.sent (tx_free d)) f = sum_flat f (things_out naming m) (device_ends d) in
      omega (arith, parts)

  device_buffers : (b : Buffer) → sum_by (as_buffer b) (all_put naming m (device_ends d)) ≤ 0 + sum_by (as_buffer b) (all_taken naming m (device_ends d))
  device_buffers b =
      let a = buffers_are naming m (rx_free d) (m.taken (rx_free d)) rx (as_buffer b) b names.free refl (λ c. refl) ∙ ap (λ xs. times b (names_in rx xs)) (items 0 _ refl) in
      let e = buffers_are naming m (rx_active d) (m.sent (rx_active d)) rx (as_buffer b) b names.active refl (λ c. refl) ∙ ap (λ xs. times b (names_in rx xs)) (items 1 _ refl) in
      let g = buffers_are naming m (tx_active d) (m.taken (tx_active d)) tx (as_buffer b) b names.wire refl (λ c. refl) ∙ ap (λ xs. times b (names_in tx xs)) (items 2 _ refl) in
      let h = buffers_are naming m (tx_free d) (m.sent (tx_free d)) tx (as_buffer b) b names.sent refl (λ c. refl) ∙ ap (λ xs. times b (names_in tx xs)) (items 3 _ refl) in
      omega (arith, device_came (as_buffer b), device_went (as_buffer b), a, e, g, h, filled_few b rx (accepted d passed.calls) (passed.sent (rx_active d)) (passed.taken (rx_free d)) row.filled, few b tx (passed.sent (tx_free d)) (passed.taken (tx_active d)) row.returns)

  device_none_came : (f : Thing → ℕ) → f Rattle.owner_law.specs.Things.Nothing ≡ 0 → ((c : Buffer) → f (Rattle.owner_law.specs.Things.Whole c) ≡ 0) → sum_by f (all_taken naming m (device_ends d)) ≡ 0
  device_none_came f none whole = omega (arith, device_came f, buffers_none naming m (rx_free d) (m.taken (rx_free d)) rx f names.free none whole, buffers_none naming m (tx_active d) (m.taken (tx_active d)) tx f names.wire none whole)

  device_none_went : (f : Thing → ℕ) → f Rattle.owner_law.specs.Things.Nothing ≡ 0 → ((c : Buffer) → f (Rattle.owner_law.specs.Things.Whole c) ≡ 0) → sum_by f (all_put naming m (device_ends d)) ≡ 0
  device_none_went f none whole = omega (arith, device_went f, buffers_none naming m (rx_active d) (m.sent (rx_active d)) rx f names.active none whole, buffers_none naming m (tx_free d) (m.sent (tx_free d)) tx f names.sent none whole)

  pub device_keeps : Keeps (λ pool. []) (all_taken naming m (device_ends d)) (all_put naming m (device_ends d))
  device_keeps = keeps_plain (λ pool. []) (all_taken naming m (device_ends d)) (all_put naming m (device_ends d)) (λ b. device_none_came (lends b) refl (λ c. refl)) device_buffers (λ b. omega (arith, device_none_went (as_lease b) refl (λ c. refl)))
