use Rattle.std.proofs.Common.{◌≡◌, ℕ, zero, suc, false, Some, List, [], ◌∷◌, ◌++◌, map, flat_map, slice_get, refl, sym, ap, ◌∙◌, subst, arith}
use Rattle.cargo_core.specs.Bodies.{buffers_of}
use Rattle.wire_core.specs.Ends.{Consumer, Producer}
use Rattle.wire_core.specs.Lists.{Passed}
use Rattle.play_core.specs.Moved.{Moved, Seat}
use Rattle.play_core.specs.Sheets.{Scene}
use Rattle.play_core.specs.Wants.{intake, outlet}
use Rattle.play_core.proofs.Lists.{some_is}
use Rattle.owner_law.specs.Things.{Window, Buffers, Leases, Naming}
use Rattle.owner_law.specs.Keeping.{is_lending}
use Rattle.turn_kit.specs.Hands.{bodies_of, bodies_at}
use Rattle.turn_kit.specs.declared.pipe.Pipe.{Pipe}
use Rattle.pipe_driver.specs.Drivers.{PipesBalance, inputs_of, outputs_of, pipes_hand}
use Rattle.device_model.specs.Ethernet.Devices.{rx_free, rx_active, tx_active, tx_free, DeviceBalances, device_hand}
use Rattle.device_model.specs.declared.ethernet.EthDevice.{EthDevice}
use Rattle.net_copier.specs.Copying.{CopierBalances, copier_hand}
use Rattle.net_copier.specs.declared.NetCopier.{NetCopier}
use Rattle.net_law.specs.Parts.Naming.{NamesPart, NameWay}
use Rattle.net_law.specs.Parts.Parts.{Way}
use Rattle.net_law.specs.Parts.Playing.{device_part, driver_part, copier_part, way_of}
use Rattle.net_law.specs.Parts.Table.{net_sheet, way_ends}
use Rattle.owner_law.specs.Pools.Lines.{HoldsIts, came, went}
use Rattle.owner_law.proofs.PoolsLemmas.Lining.{LendsNone, lent_away}
use Rattle.net_quiet.specs.Pools.Holders.{holder_of, no_lent}

-- ends one by one, at which nothing is lent
module _ (naming : Naming) where
  pub lends_none : LendsNone naming []
  lends_none i s at consumer = cc

  pub lends_in : (n : ℕ) (rest : List Seat) → is_lending (naming n) ≡ false → LendsNone naming rest → LendsNone naming (intake n ∷ rest)
  lends_in n rest here more zero s at consumer = subst (λ (x : Seat). is_lending (naming x.queue) ≡ false) (some_is at) here
  lends_in n rest here more (suc i) s at consumer = more i s at consumer

  pub lends_out : (n : ℕ) (rest : List Seat) → LendsNone naming rest → LendsNone naming (outlet n ∷ rest)
  lends_out n rest more zero s at consumer = let same : Producer ≡ Consumer = ap (λ (x : Seat). x.role) (some_is at) ∙ consumer in cc
  lends_out n rest more (suc i) s at consumer = more i s at consumer

  pub buffers_stay : (n : ℕ) (ws : List Window) → naming n ≡ Buffers ws → is_lending (naming n) ≡ false
  buffers_stay n ws is = ap is_lending is

  leases_stay : (n : ℕ) (ws : List Window) → naming n ≡ Leases ws → is_lending (naming n) ≡ false
  leases_stay n ws is = ap is_lending is

module _ (naming : Naming) (sizes : ℕ → ℕ) (scene : Scene) (passed : Passed) (m : Moved) where
  pub device_holds : (d : EthDevice) → NamesPart naming scene (device_part d) → DeviceBalances d passed → HoldsIts naming sizes m passed (holder_of (net_sheet scene (device_part d)) (device_hand d) no_lent)
  device_holds d names balance =
      let third : List Seat = outlet (tx_free d) ∷ [] in
      let second : List Seat = intake (tx_active d) ∷ third in
      let first : List Seat = outlet (rx_active d) ∷ second in
      let lends : LendsNone naming (net_sheet scene (device_part d)).ends =
      lends_in naming (rx_free d) first (buffers_stay naming (rx_free d) names.0.0 names.0.1.0) (lends_out naming (rx_active d) second (lends_in naming (tx_active d) third (buffers_stay naming (tx_active d) names.1.0 names.1.1.0) (lends_out naming (tx_free d) [] (lends_none naming)))) in
      record {
        balances = λ pool. balance pool;
        lends = λ pool. sym (lent_away naming m (net_sheet scene (device_part d)).ends lends pool (sizes pool));
      }

  ways_lend : (ps : List Pipe) → ((k : ℕ) (w : Way) → slice_get (map way_of ps) k ≡ Some w → NameWay naming w) → LendsNone naming (flat_map way_ends (map way_of ps))
  ways_lend [] names = lends_none naming
  ways_lend (p ∷ ps) names =
      let way = names 0 (way_of p) refl in
      let rest : List Seat = flat_map way_ends (map way_of ps) in
      lends_in naming p.input.queue.0 (outlet p.output.queue.0 ∷ rest) (buffers_stay naming p.input.queue.0 way.0 way.1) (lends_out naming p.output.queue.0 rest (ways_lend ps (λ k w at. names (suc k) w at)))

  ways_came : (ps : List Pipe) → came passed (flat_map way_ends (map way_of ps)) ≡ bodies_at passed.taken (inputs_of ps)
  ways_came [] = refl
  ways_came (p ∷ ps) = ap (λ xs. bodies_of (passed.taken p.input.queue.0) ++ xs) (ways_came ps)

  ways_went : (ps : List Pipe) → went passed (flat_map way_ends (map way_of ps)) ≡ bodies_at passed.sent (outputs_of ps)
  ways_went [] = refl
  ways_went (p ∷ ps) = ap (λ xs. bodies_of (passed.sent p.output.queue.0) ++ xs) (ways_went ps)

  pub driver_holds : (ps : List Pipe) → NamesPart naming scene (driver_part ps) → PipesBalance ps passed → HoldsIts naming sizes m passed (holder_of (net_sheet scene (driver_part ps)) (pipes_hand ps) no_lent)
  driver_holds ps names balance = record {
    balances = λ pool. omega (arith, balance pool, ap (buffers_of pool) (ways_came ps), ap (buffers_of pool) (ways_went ps));
    lends = λ pool. sym (lent_away naming m (net_sheet scene (driver_part ps)).ends (ways_lend ps names) pool (sizes pool));
  }

  pub copier_holds : (c : NetCopier) → NamesPart naming scene (copier_part c) → CopierBalances c passed → HoldsIts naming sizes m passed (holder_of (net_sheet scene (copier_part c)) (copier_hand c) no_lent)
  copier_holds c names balance =
      let third : List Seat = outlet c.lease_output.queue.0 ∷ [] in
      let second : List Seat = outlet c.buffer_output.queue.0 ∷ third in
      let first : List Seat = intake c.buffer_input.queue.0 ∷ second in
      let lends : LendsNone naming (net_sheet scene (copier_part c)).ends =
      lends_in naming c.lease_input.queue.0 first (leases_stay naming c.lease_input.queue.0 names.0.0 names.0.1) (lends_in naming c.buffer_input.queue.0 second (buffers_stay naming c.buffer_input.queue.0 names.1.0 names.1.1.0) (lends_out naming c.buffer_output.queue.0 third (lends_out naming c.lease_output.queue.0 [] (lends_none naming)))) in
      record {
        balances = λ pool. balance pool;
        lends = λ pool. sym (lent_away naming m (net_sheet scene (copier_part c)).ends lends pool (sizes pool));
      }
