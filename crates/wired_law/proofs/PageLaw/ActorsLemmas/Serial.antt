-- The serial actors conserve buffers one by one: what they make are bytes, which are none.
use Rattle.std.proofs.Common.{◌≡◌, ◌+◌, ◌<◌, ℕ, zero, suc, Option, Some, None, is_some, List, [], ◌∷◌, ◌++◌, map, take, slice_get, slice_index_or, option_to_list, if◌then◌else◌, refl, sym, ap, ◌∙◌, arith, eq-eqb}
use Rattle.std.proofs.lemmas.Option.{slice_get-get_or}
use Rattle.wire_core.specs.declared.names.QueueId.{QueueId}
use Rattle.wire_core.specs.Deeds.{Cargo}
use Rattle.wire_core.specs.Fates.{without}
use Rattle.wire_core.specs.Lists.{Lists, Passed}
use Rattle.turn_kit.specs.ManyEnds.{intake_queues, outlet_queues}
use Rattle.turn_kit.specs.Hands.{bodies_at}
use Rattle.buffer_kit.specs.Conserving.{Count, counted, weighed, Conserves}
use Rattle.buffer_kit.proofs.Conserving.{weighed-append, weighed-merge, all_weighed, counted-at}
use Rattle.class_expect.specs.SerialSwitch.Carried.{byte_cargo, bytes_carried}
use Rattle.class_expect.specs.SerialSwitch.Switching.{input_of}
use Rattle.serial_virt.specs.declared.rx.SerialVirtRx.{SerialVirtRx}
use Rattle.serial_virt.specs.declared.tx.SerialVirtTx.{SerialVirtTx}
use Rattle.serial_virt.specs.Receiving.{RxStandsFor, owed_to, clients_of, taker_of, rx_hand}
use Rattle.serial_virt.specs.Shares.{byte_fate}
use Rattle.serial_virt.specs.Sending.{TxStandsFor, taken_from, tx_hand}
use Rattle.device_model.specs.declared.serial_terminal.Terminal.{Terminal}
use Rattle.device_model.specs.SerialTerminal.Terminals.{TerminalStandsFor, terminal_hand}

-- bytes are no buffers
bytes_none : (f : Count) (bytes : List ℕ) → weighed f (map byte_cargo bytes) ≡ 0
bytes_none f [] = refl
bytes_none f (b ∷ bytes) = omega (arith, bytes_none f bytes)

pub terminal_conserves : (t : Terminal) (passed : Passed) → TerminalStandsFor t passed → Conserves [] (bodies_at passed.taken (t.input.queue.0 ∷ [])) (bodies_at passed.sent (t.output.queue.0 ∷ [])) (terminal_hand t) (bodies_at passed.taken (t.input.queue.0 ∷ []))
terminal_conserves t passed h f =
    let put = counted-at f passed.sent t.output.queue.0 [] in
    let none = ap (weighed f) h.sent_is ∙ bytes_none f (take t.next t.script) in
    omega (arith, put, none)

-- where no queue has any, all have none
none_at : (f : Count) (lists : Lists) (qs : List QueueId) → ((k : ℕ) (q : QueueId) → slice_get qs k ≡ Some q → weighed f (lists q.0) ≡ 0) → counted f (bodies_at lists (map (λ q. q.0) qs)) ≡ 0
none_at f lists [] h = refl
none_at f lists (q ∷ qs) h =
    let more = counted-at f lists q.0 (map (λ q. q.0) qs) in
    let here = h zero q refl in
    let rest = none_at f lists qs (λ k r at. h (suc k) r at) in
    omega (arith, more, here, rest)

module _ (v : SerialVirtRx) (passed : Passed) (h : RxStandsFor v passed) (f : Count) where
  given_none : (k : ℕ) (q : QueueId) → slice_get (outlet_queues v.outputs) k ≡ Some q → weighed f (passed.sent q.0) + weighed f (owed_to v.load v.to k) ≡ 0
  given_none k q at = sym (weighed-append f (passed.sent q.0) (owed_to v.load v.to k)) ∙ (ap (weighed f) (h.clients k q at).given ∙ bytes_none f (without (byte_fate v.input.queue.0 (taker_of v k q) passed.calls).dropped (input_of (clients_of v) k (bytes_carried (passed.taken v.input.queue.0)))))

  none_of : (load : Option Cargo) → load ≡ v.load → weighed f (option_to_list load) ≡ 0
  none_of None is = refl
  none_of (Some c) is =
      let there : v.to < clients_of v = h.to (ap is_some (sym is)) in
      let none = given_none v.to (slice_index_or (outlet_queues v.outputs) v.to (record { 0 = 0 })) (slice_get-get_or (outlet_queues v.outputs) v.to (record { 0 = 0 }) there) in
      let mine : owed_to v.load v.to v.to ≡ option_to_list v.load = ap (λ b. if b then option_to_list v.load else []) (eq-eqb v.to v.to refl) in
      let owed : weighed f (owed_to v.load v.to v.to) ≡ weighed f (option_to_list (Some c)) = ap (weighed f) (mine ∙ ap option_to_list (sym is)) in
      omega (arith, none, owed)

pub receiver_conserves : (v : SerialVirtRx) (passed : Passed) → RxStandsFor v passed → Conserves [] (bodies_at passed.taken (v.input.queue.0 ∷ [])) (bodies_at passed.sent (map (λ q. q.0) (outlet_queues v.outputs))) (rx_hand v) (bodies_at passed.taken (v.input.queue.0 ∷ []))
receiver_conserves v passed h f =
    let went = none_at f passed.sent (outlet_queues v.outputs) (λ k q at. let none = given_none v passed h f k q at in omega (arith, none)) in
    let hand = none_of v passed h f v.load refl in
    omega (arith, went, hand)

queues_weighed : (f : Count) (lists : Lists) (qs : List QueueId) → counted f (bodies_at lists (map (λ q. q.0) qs)) ≡ all_weighed f (taken_from qs lists)
queues_weighed f lists [] = refl
queues_weighed f lists (q ∷ qs) = omega (arith, counted-at f lists q.0 (map (λ q. q.0) qs), queues_weighed f lists qs)

pub sender_conserves : (v : SerialVirtTx) (passed : Passed) → TxStandsFor v passed → Conserves [] (bodies_at passed.taken (map (λ q. q.0) (intake_queues v.inputs))) (bodies_at passed.sent (v.output.queue.0 ∷ [])) (tx_hand v) []
sender_conserves v passed h f =
    let came = queues_weighed f passed.taken (intake_queues v.inputs) in
    let all = weighed-merge f (taken_from (intake_queues v.inputs) passed.taken) (passed.sent v.output.queue.0 ++ option_to_list v.load) h in
    let parts = weighed-append f (passed.sent v.output.queue.0) (option_to_list v.load) in
    let went = counted-at f passed.sent v.output.queue.0 [] in
    omega (arith, came, all, parts, went)
