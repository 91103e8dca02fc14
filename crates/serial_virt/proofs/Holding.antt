use Rattle.std.proofs.Common.{◌≡◌, ◌+◌, ◌<◌, ℕ, zero, suc, true, Option, Some, None, is_some, List, [], ◌∷◌, ◌++◌, map, slice_get, slice_set, slice_index_or, option_to_list, if◌then◌else◌, refl, sym, ap, ◌∙◌, arith, eq-eqb}
use Rattle.std.proofs.lemmas.Option.{slice_get-get_or}
use Rattle.cargo_core.specs.declared.item.PoolId.{PoolId}
use Rattle.cargo_core.specs.Lists.{Merge, merge_none, merge_next}
use Rattle.cargo_core.specs.Bodies.{buffers_of, buffers_in}
use Rattle.wire_core.specs.declared.names.QueueId.{QueueId}
use Rattle.wire_core.specs.Deeds.{Cargo}
use Rattle.wire_core.specs.Lists.{Lists, Passed}
use Rattle.turn_kit.specs.ManyEnds.{intake_queues, outlet_queues}
use Rattle.turn_kit.specs.Hands.{bodies_of, bodies_at}
use Rattle.turn_kit.proofs.Holding.{cargo-append, cargo-cons, at_one, at_more}
use Rattle.class_expect.specs.SerialSwitch.Carried.{byte_cargo, bytes_carried}
use Rattle.class_expect.specs.SerialSwitch.Switching.{input_of}
use Rattle.class_expect.proofs.SerialSwitch.Carrying.{bytes_hold_none}
use Rattle.serial_virt.specs.declared.rx.SerialVirtRx.{SerialVirtRx}
use Rattle.serial_virt.specs.declared.tx.SerialVirtTx.{SerialVirtTx}
use Rattle.wire_core.specs.Fates.{without}
use Rattle.serial_virt.specs.Shares.{byte_fate}
use Rattle.serial_virt.specs.Receiving.{RxStandsFor, HoldingRxStands, RxBalances, owed_to, clients_of, taker_of}
use Rattle.serial_virt.specs.Sending.{TxStandsFor, TxBalances, taken_from}

some_eq : {X : Type 0} {a b : X} → Some a ≡ Some b → a ≡ b
some_eq h = cc

module _ (pool : PoolId) where
  -- how many buffers entries carry
  carried : List Cargo → ℕ
  carried cs = buffers_of pool (bodies_of cs)

  -- where no queue has any, all have none
  none_at : (lists : Lists) (qs : List QueueId) → ((k : ℕ) (q : QueueId) → slice_get qs k ≡ Some q → buffers_of pool (bodies_of (lists q.0)) ≡ 0) → buffers_of pool (bodies_at lists (map (λ q. q.0) qs)) ≡ 0
  none_at lists [] h = refl
  none_at lists (q ∷ qs) h =
      let more = at_more pool lists q.0 (map (λ q. q.0) qs) in
      let here = h zero q refl in
      let rest = none_at lists qs (λ k r at. h (suc k) r at) in
      omega (arith, more, here, rest)

  -- all lists together
  all_carried : List (List Cargo) → ℕ
  all_carried [] = 0
  all_carried (l ∷ ls) = buffers_of pool (bodies_of l) + all_carried ls

  queues_carried : (lists : Lists) (qs : List QueueId) → buffers_of pool (bodies_at lists (map (λ q. q.0) qs)) ≡ all_carried (taken_from qs lists)
  unfolding all_carried
  queues_carried lists [] = refl
  queues_carried lists (q ∷ qs) = at_more pool lists q.0 (map (λ q. q.0) qs) ∙ ap (λ n. buffers_of pool (bodies_of (lists q.0)) + n) (queues_carried lists qs)

  empty_carried : (ls : List (List Cargo)) → ((k : ℕ) (l : List Cargo) → slice_get ls k ≡ Some l → l ≡ []) → all_carried ls ≡ 0
  unfolding all_carried
  empty_carried [] h = refl
  empty_carried (l ∷ ls) h =
      let here : buffers_of pool (bodies_of l) ≡ 0 = ap (λ cs. buffers_of pool (bodies_of cs)) (h zero l refl) in
      let rest = empty_carried ls (λ k m at. h (suc k) m at) in
      omega (arith, here, rest)

  one_less : (ls : List (List Cargo)) (k : ℕ) (c : Cargo) (m : List Cargo) → slice_get ls k ≡ Some (c ∷ m) → all_carried ls ≡ buffers_in pool c.1 + all_carried (slice_set ls k m)
  unfolding all_carried
  one_less [] k c m at = cc
  one_less (l ∷ ls) zero c m at =
      let is : buffers_of pool (bodies_of l) ≡ buffers_in pool c.1 + buffers_of pool (bodies_of m) = ap (λ cs. buffers_of pool (bodies_of cs)) (some_eq at) ∙ cargo-cons pool c m in
      omega (arith, is)
  one_less (l ∷ ls) (suc k) c m at = let h = one_less ls k c m at in omega (arith, h)

  -- a merge carries what the lists do
  merge_carried : (ls : List (List Cargo)) (all : List Cargo) → Merge ls all → all_carried ls ≡ buffers_of pool (bodies_of all)
  merge_carried _ _ (merge_none ls empty) = empty_carried ls empty
  merge_carried _ _ (merge_next ls k c m all at rest) =
      let less = one_less ls k c m at in
      let more = cargo-cons pool c all in
      let h = merge_carried (slice_set ls k m) all rest in
      omega (arith, less, more, h)

pub tx_balance : (v : SerialVirtTx) (passed : Passed) → TxStandsFor v passed → TxBalances v passed
tx_balance v passed h pool =
    let came = queues_carried pool passed.taken (intake_queues v.inputs) in
    let all = merge_carried pool (taken_from (intake_queues v.inputs) passed.taken) (passed.sent v.output.queue.0 ++ option_to_list v.load) h in
    let parts = cargo-append pool (passed.sent v.output.queue.0) (option_to_list v.load) in
    let went = at_one pool passed.sent v.output.queue.0 in
    omega (arith, came, all, parts, went)

-- a client was given bytes, and is owed a byte
module _ (v : SerialVirtRx) (passed : Passed) (to : is_some v.load ≡ true → v.to < clients_of v) (bytes : (k : ℕ) (q : QueueId) → slice_get (outlet_queues v.outputs) k ≡ Some q → (bs : List ℕ) × (passed.sent q.0 ++ owed_to v.load v.to k ≡ map byte_cargo bs)) (pool : PoolId) where
  given_none : (k : ℕ) (q : QueueId) → slice_get (outlet_queues v.outputs) k ≡ Some q → buffers_of pool (bodies_of (passed.sent q.0)) + buffers_of pool (bodies_of (owed_to v.load v.to k)) ≡ 0
  given_none k q at = let bs = bytes k q at in sym (cargo-append pool (passed.sent q.0) (owed_to v.load v.to k)) ∙ (ap (λ cs. buffers_of pool (bodies_of cs)) bs.1 ∙ bytes_hold_none pool bs.0)

  none_of : (load : Option Cargo) → load ≡ v.load → buffers_of pool (bodies_of (option_to_list load)) ≡ 0
  none_of None is = refl
  none_of (Some c) is =
      let there : v.to < clients_of v = to (ap is_some (sym is)) in
      let none = given_none v.to (slice_index_or (outlet_queues v.outputs) v.to (record { 0 = 0 })) (slice_get-get_or (outlet_queues v.outputs) v.to (record { 0 = 0 }) there) in
      let mine : owed_to v.load v.to v.to ≡ option_to_list v.load = ap (λ b. if b then option_to_list v.load else []) (eq-eqb v.to v.to refl) in
      let owed : buffers_of pool (bodies_of (owed_to v.load v.to v.to)) ≡ buffers_of pool (bodies_of (option_to_list (Some c))) = ap (λ cs. buffers_of pool (bodies_of cs)) (mine ∙ ap option_to_list (sym is)) in
      omega (arith, none, owed)

balance_by : (v : SerialVirtRx) (passed : Passed) → (is_some v.load ≡ true → v.to < clients_of v) → ((k : ℕ) (q : QueueId) → slice_get (outlet_queues v.outputs) k ≡ Some q → (bs : List ℕ) × (passed.sent q.0 ++ owed_to v.load v.to k ≡ map byte_cargo bs)) → RxBalances v passed
balance_by v passed to bytes pool =
    let went = none_at pool passed.sent (outlet_queues v.outputs) (λ k q at. let none = given_none v passed to bytes pool k q at in omega (arith, none)) in
    let hand = none_of v passed to bytes pool v.load refl in
    omega (arith, went, hand)

pub rx_balance : (v : SerialVirtRx) (passed : Passed) → RxStandsFor v passed → RxBalances v passed
rx_balance v passed h = balance_by v passed h.to (λ k q at. (without (byte_fate v.input.queue.0 (taker_of v k q) passed.calls).dropped (input_of (clients_of v) k (bytes_carried (passed.taken v.input.queue.0))), (h.clients k q at).given))

-- the same of one that never drops
pub held_balance : (v : SerialVirtRx) (passed : Passed) → HoldingRxStands v passed → RxBalances v passed
held_balance v passed h = balance_by v passed h.to (λ k q at. (input_of (clients_of v) k (bytes_carried (passed.taken v.input.queue.0)), h.given k q at))
