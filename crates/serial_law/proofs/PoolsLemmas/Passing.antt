use Rattle.std.proofs.Common.{◌≡◌, ◌==◌, ℕ, zero, suc, Some, List, [], ◌∷◌, ◌++◌, cond, map, slice_get, refl, sym, ap, ◌∙◌, subst}
use Rattle.wire_core.specs.declared.names.QueueId.{QueueId}
use Rattle.wire_core.specs.Deeds.{Cargo}
use Rattle.wire_core.specs.Ends.{Consumer, Producer}
use Rattle.wire_core.specs.Lists.{Passed}
use Rattle.play_core.specs.Moved.{Moved, Seat}
use Rattle.play_core.specs.Wants.{intake, outlet}
use Rattle.play_core.proofs.Lists.{some_is, map_get, map_from}
use Rattle.owner_law.specs.Things.{Buffer, Naming}
use Rattle.owner_law.specs.Pages.{as_page}
use Rattle.class_expect.specs.SerialSwitch.Carried.{byte_cargo, bytes_carried}
use Rattle.class_expect.specs.SerialSwitch.Switching.{input_of}
use Rattle.turn_kit.specs.ManyEnds.{intake_queues, outlet_queues}
use Rattle.turn_kit.specs.declared.pipe.Pipe.{Pipe}
use Rattle.pipe_driver.specs.Drivers.{PipesRow}
use Rattle.device_model.specs.SerialTerminal.Terminals.{TerminalRow}
use Rattle.device_model.specs.declared.serial_terminal.Terminal.{Terminal}
use Rattle.wire_core.specs.Fates.{without}
use Rattle.serial_virt.specs.Shares.{byte_fate}
use Rattle.serial_virt.specs.Receiving.{RxRow, clients_of, taker_of}
use Rattle.serial_virt.specs.Sending.{TxRow, taken_from}
use Rattle.serial_virt.specs.declared.rx.SerialVirtRx.{SerialVirtRx}
use Rattle.serial_virt.specs.declared.tx.SerialVirtTx.{SerialVirtTx}
use Rattle.owner_law.specs.Pools.Handing.{TakesPages, PutsPages, HandsOn, NameNothing}
use Rattle.owner_law.proofs.PoolsLemmas.Merging.{Each, each_first, each_merged}
use Rattle.owner_law.proofs.PoolsLemmas.Plain.{HasNone, none_carries, carries_none}
use Rattle.serial_law.specs.Pools.SerialEnds.{terminal_ends, piped_ends, rx_ends, tx_ends}

-- none of these entries has a page
abbrev HaveNone : List Cargo → Type 0
HaveNone cs = Each HasNone cs

bytes_none : (bytes : List ℕ) → HaveNone (map byte_cargo bytes)
bytes_none bytes k c at b =
    let x = map_from byte_cargo bytes k c at in
    ap (λ (d : Cargo). as_page b d.1) (sym x.2)

module _ (naming : Naming) (passed : Passed) (m : Moved) where
  -- ends one by one
  puts_none : PutsPages naming m passed []
  puts_none i x at producer = cc

  puts_in : (n : ℕ) (rest : List Seat) → PutsPages naming m passed rest → PutsPages naming m passed (intake n ∷ rest)
  puts_in n rest puts zero x at producer = let same : Consumer ≡ Producer = ap (λ (s : Seat). s.role) (some_is at) ∙ producer in cc
  puts_in n rest puts (suc i) x at producer = puts i x at producer

  puts_out : (n : ℕ) (rest : List Seat) → naming n ≡ Rattle.owner_law.specs.Things.NoBuffers → HaveNone (passed.sent n) → PutsPages naming m passed rest → PutsPages naming m passed (outlet n ∷ rest)
  puts_out n rest is none puts zero x at producer = subst (λ (s : Seat). Rattle.owner_law.specs.Pools.Handing.AllCarry naming m s.queue (passed.sent s.queue)) (some_is at) (λ k c c_at. none_carries naming m n is k c (none k c c_at))
  puts_out n rest is none puts (suc i) x at producer = puts i x at producer

  took_none : (ends : List Seat) → NameNothing naming ends → TakesPages naming m passed ends → (i n : ℕ) → slice_get ends i ≡ Some (intake n) → HaveNone (passed.taken n)
  took_none ends names takes i n at k c c_at = carries_none naming m n (names i (intake n) at) k c (takes i (intake n) at refl k c c_at)

  pub terminal_on : (t : Terminal) → NameNothing naming (terminal_ends t) → TerminalRow t passed → HandsOn naming m passed (terminal_ends t)
  terminal_on t names row takes = puts_in t.input.queue.0 (outlet t.output.queue.0 ∷ []) (puts_out t.output.queue.0 [] (names 1 (outlet t.output.queue.0) refl) (each_first HasNone (passed.sent t.output.queue.0) (map byte_cargo t.script) row.says (bytes_none t.script)) puts_none)

  pub driver_on : (ps : List Pipe) → NameNothing naming (piped_ends ps) → PipesRow ps passed → HandsOn naming m passed (piped_ends ps)
  driver_on [] names row takes = puts_none
  driver_on (p ∷ ps) names row takes =
      let i : ℕ = p.input.queue.0 in
      let o : ℕ = p.output.queue.0 in
      puts_in i (outlet o ∷ piped_ends ps) (puts_out o (piped_ends ps) (names 1 (outlet o) refl) (each_first HasNone (passed.sent o) (passed.taken i) row.0 (took_none (piped_ends (p ∷ ps)) names takes 0 i refl))
      (driver_on ps (λ j s at. names (suc (suc j)) s at) row.1 (λ j s at consumer. takes (suc (suc j)) s at consumer)))

  -- all outputs of a virtualiser
  outs_on : (qs : List ℕ) → NameNothing naming (map outlet qs) → ((k q : ℕ) → slice_get qs k ≡ Some q → HaveNone (passed.sent q)) → PutsPages naming m passed (map outlet qs)
  outs_on [] names each = puts_none
  outs_on (q ∷ qs) names each = puts_out q (map outlet qs) (names 0 (outlet q) refl) (each 0 q refl) (outs_on qs (λ j s at. names (suc j) s at) (λ k r at. each (suc k) r at))

  ins_on : (qs : List ℕ) → PutsPages naming m passed (map intake qs)
  ins_on [] = puts_none
  ins_on (q ∷ qs) = puts_in q (map intake qs) (ins_on qs)

  pub receiver_on : (v : SerialVirtRx) → NameNothing naming (rx_ends v) → RxRow v passed → HandsOn naming m passed (rx_ends v)
  receiver_on v names row takes = puts_in v.input.queue.0 (map outlet qs) (outs_on qs (λ j s at. names (suc j) s at) each)
    where
      qs : List ℕ
      qs = map (λ (q : QueueId). q.0) (outlet_queues v.outputs)

      each : (k q : ℕ) → slice_get (map (λ (r : QueueId). r.0) (outlet_queues v.outputs)) k ≡ Some q → HaveNone (passed.sent q)
      each k q at =
          let x = map_from (λ (r : QueueId). r.0) (outlet_queues v.outputs) k q at in
          let whole = row.given k x.0 x.1 in
          let bytes = without (byte_fate v.input.queue.0 (taker_of v k x.0) passed.calls).dropped (input_of (clients_of v) k (bytes_carried (passed.taken v.input.queue.0))) in
          subst (λ n. HaveNone (passed.sent n)) x.2 (each_first HasNone (passed.sent x.0.0) (map byte_cargo bytes) (cond (row.owner == k) row.owed [], whole) (bytes_none bytes))

  pub sender_on : (v : SerialVirtTx) → NameNothing naming (tx_ends v) → TxRow v passed → HandsOn naming m passed (tx_ends v)
  sender_on v names row takes = puts_out v.output.queue.0 (map intake qs) (names 0 (outlet v.output.queue.0) refl) sent_none (ins_on qs)
    where
      qs : List ℕ
      qs = map (λ (q : QueueId). q.0) (intake_queues v.inputs)

      each : (k : ℕ) (l : List Cargo) → slice_get (taken_from (intake_queues v.inputs) passed.taken) k ≡ Some l → HaveNone l
      each k l at =
          let x = map_from (λ (q : QueueId). passed.taken q.0) (intake_queues v.inputs) k l at in
          let seat : slice_get (tx_ends v) (suc k) ≡ Some (intake x.0.0) = map_get intake (map (λ (q : QueueId). q.0) (intake_queues v.inputs)) k x.0.0 (map_get (λ (q : QueueId). q.0) (intake_queues v.inputs) k x.0 x.1) in
          subst HaveNone x.2 (took_none (tx_ends v) names takes (suc k) x.0.0 seat)

      sent_none : HaveNone (passed.sent v.output.queue.0)
      sent_none = each_first HasNone (passed.sent v.output.queue.0) (passed.sent v.output.queue.0 ++ row.owed) (row.owed, refl) (each_merged HasNone (taken_from (intake_queues v.inputs) passed.taken) (passed.sent v.output.queue.0 ++ row.owed) row.merged each)
