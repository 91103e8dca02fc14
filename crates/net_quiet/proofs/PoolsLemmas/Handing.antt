use Rattle.std.proofs.Common.{◌≡◌, ℕ, suc, Some, List, [], ◌∷◌, ◌++◌, map, flat_map, slice_get, refl, sym, ap, ◌∙◌, append_assoc, inl, inr}
use Rattle.cargo_core.specs.Lists.{IsPrefix}
use Rattle.wire_core.specs.Lists.{Passed}
use Rattle.play_core.specs.Moved.{Moved, Seat}
use Rattle.play_core.specs.Sheets.{Scene}
use Rattle.play_core.specs.Wants.{intake, outlet}
use Rattle.owner_law.specs.Things.{Naming}
use Rattle.turn_kit.specs.declared.pipe.Pipe.{Pipe}
use Rattle.pipe_driver.specs.Drivers.{PipesRow}
use Rattle.device_model.specs.Ethernet.Devices.{rx_free, rx_active, tx_active, tx_free, DeviceRow, accepted}
use Rattle.device_model.specs.declared.ethernet.EthDevice.{EthDevice}
use Rattle.wire_core.specs.Fates.{without}
use Rattle.net_copier.specs.Copying.{CopierRow, leased_bytes, leases_dropped}
use Rattle.net_copier.specs.declared.NetCopier.{NetCopier}
use Rattle.net_law.specs.Parts.Naming.{NamesPart, NameWay}
use Rattle.net_law.specs.Parts.Parts.{Way}
use Rattle.net_law.specs.Parts.Playing.{device_part, driver_part, copier_part, way_of}
use Rattle.net_law.specs.Parts.Table.{net_sheet, way_ends}
use Rattle.owner_law.specs.Pools.Handing.{HandsOn}
use Rattle.net_quiet.proofs.PoolsLemmas.Carrying.{takes_here, takes_rest, puts_none, puts_in, puts_out, passed_on, filled_on, leased_on}

module _ (naming : Naming) (scene : Scene) (passed : Passed) (m : Moved) where
  pub device_on : (d : EthDevice) → NamesPart naming scene (device_part d) → DeviceRow d passed → HandsOn naming m passed (net_sheet scene (device_part d)).ends
  device_on d names row takes =
      let first : List Seat = outlet (rx_active d) ∷ intake (tx_active d) ∷ outlet (tx_free d) ∷ [] in
      let second : List Seat = intake (tx_active d) ∷ outlet (tx_free d) ∷ [] in
      let free = takes_here naming m passed (rx_free d) first takes in
      let more = takes_rest naming m passed (outlet (rx_active d)) second (takes_rest naming m passed (intake (rx_free d)) first takes) in
      let wire = takes_here naming m passed (tx_active d) (outlet (tx_free d) ∷ []) more in
      puts_in naming m passed (rx_free d) first (puts_out naming m passed (rx_active d) second (filled_on naming m names.0.0 (accepted d passed.calls) (rx_free d) (rx_active d) (inl names.0.1.0) (inl names.0.1.1) (passed.taken (rx_free d)) (passed.sent (rx_active d)) row.filled free)
      (puts_in naming m passed (tx_active d) (outlet (tx_free d) ∷ []) (puts_out naming m passed (tx_free d) [] (passed_on naming m names.1.0 (tx_active d) (tx_free d) (inl names.1.1.0) (inl names.1.1.1) (passed.taken (tx_active d)) (passed.sent (tx_free d)) row.returns wire) (puts_none naming m passed))))

  -- each way of a driver
  ways_on : (ps : List Pipe) → ((k : ℕ) (w : Way) → slice_get (map way_of ps) k ≡ Some w → NameWay naming w) → PipesRow ps passed → HandsOn naming m passed (flat_map way_ends (map way_of ps))
  ways_on [] names row takes = puts_none naming m passed
  ways_on (p ∷ ps) names row takes =
      let rest : List Seat = flat_map way_ends (map way_of ps) in
      let way = names 0 (way_of p) refl in
      let i : ℕ = p.input.queue.0 in
      let o : ℕ = p.output.queue.0 in
      let here = takes_here naming m passed i (outlet o ∷ rest) takes in
      let more = takes_rest naming m passed (outlet o) rest (takes_rest naming m passed (intake i) (outlet o ∷ rest) takes) in
      puts_in naming m passed i (outlet o ∷ rest) (puts_out naming m passed o rest (passed_on naming m way.0 i o (inl way.1) way.2 (passed.taken i) (passed.sent o) row.0 here) (ways_on ps (λ k w at. names (suc k) w at) row.1 more))

  pub driver_on : (ps : List Pipe) → NamesPart naming scene (driver_part ps) → PipesRow ps passed → HandsOn naming m passed (net_sheet scene (driver_part ps)).ends
  driver_on ps names row = ways_on ps names row

  pub copier_on : (c : NetCopier) → NamesPart naming scene (copier_part c) → CopierRow c passed → HandsOn naming m passed (net_sheet scene (copier_part c)).ends
  copier_on c names row takes =
      let li : ℕ = c.lease_input.queue.0 in
      let bi : ℕ = c.buffer_input.queue.0 in
      let bo : ℕ = c.buffer_output.queue.0 in
      let lo : ℕ = c.lease_output.queue.0 in
      let first : List Seat = intake bi ∷ outlet bo ∷ outlet lo ∷ [] in
      let second : List Seat = outlet bo ∷ outlet lo ∷ [] in
      let leases = takes_here naming m passed li first takes in
      let buffers = takes_here naming m passed bi second (takes_rest naming m passed (intake li) first takes) in
      let back : IsPrefix (passed.sent lo) (passed.taken li) = (row.gives_back.0 ++ row.stray, sym (append_assoc (passed.sent lo) row.gives_back.0 row.stray) ∙ (ap (λ xs. xs ++ row.stray) row.gives_back.1 ∙ sym row.taken)) in
      puts_in naming m passed li first (puts_in naming m passed bi second (puts_out naming m passed bo (outlet lo ∷ []) (filled_on naming m names.1.0 (map leased_bytes (without (leases_dropped c passed.calls) row.leases)) bi bo (inl names.1.1.0) (inl names.1.1.1) (passed.taken bi) (passed.sent bo) row.copies buffers)
      (puts_out naming m passed lo [] (leased_on naming m li lo (names.0.0, inl names.0.1) (names.0.0, inr names.0.2) (passed.taken li) (passed.sent lo) back leases) (puts_none naming m passed))))
