use Rattle.std.proofs.Common.{◌≡◌, ◌≤◌, ◌+◌, ◌*◌, ◌++◌, ℕ, suc, Bool, Some, List, [], ◌∷◌, length, length-append, map, slice_get, refl, ap, subst, arith}
use Rattle.std.proofs.lemmas.List.{length-map}
use Rattle.wire_core.specs.Fates.{without}
use Rattle.wire_core.proofs.Fating.{without_length}
use Rattle.wire_core.specs.Ends.{Producer}
use Rattle.serial_virt.specs.Shares.{policy_at}
use Rattle.cargo_core.specs.Lists.{IsPrefix}
use Rattle.cargo_core.specs.declared.item.Item.{Item}
use Rattle.cargo_core.specs.declared.item.Item.TheVariants as ItemOf
use Rattle.class_expect.specs.SerialSwitch.Carried.{byte_of}
use Rattle.wire_core.specs.declared.names.QueueRow.{QueueRow}
use Rattle.wire_core.specs.declared.names.Entry.{Entry}
use Rattle.wire_core.specs.Journal.{History, Hostiles, QueuesFlow}
use Rattle.wire_core.specs.Marks.{sum_below}
use Rattle.class_expect.specs.SerialSwitch.Switching.{input_of}
use Rattle.play_core.specs.Moved.{Moved, moved, gone_at}
use Rattle.play_core.specs.Totals.{total}
use Rattle.play_core.specs.Still.{Holds}
use Rattle.play_core.proofs.Lists.{there_is, there_below}
use Rattle.play_core.proofs.Merges.{merge_total}
use Rattle.serial_law.specs.Bytes.{bytes_in, byte_items}
use Rattle.serial_law.specs.Table.{Marks, SharesOut, SharesSome, MergesAll}
use Rattle.serial_law.specs.Serial.{SerialClass, IsSerial}
use Rattle.serial_law.proofs.Arrivals.{RowAt}
use Rattle.serial_law.specs.Hops.Hops.{put_to, gone_from, serial_put, serial_gone, serial_bytes}
use Rattle.serial_law.proofs.HopsLemmas.Parts.{parts_few}

-- a beginning isn't longer
shorter : {T : Type 0} (xs ys : List T) → IsPrefix xs ys → length xs ≤ length ys
shorter xs ys h =
    let e = ap length h.1 in
    let l = length-append xs h.0 in
    omega (arith, e, l)

few_items : (bs : List ℕ) → length (byte_items bs) ≡ length bs
few_items bs = length-map bs _

few_bytes_of : (x : Item) → length (byte_of x) ≤ 1
few_bytes_of (ItemOf.Byte b) = omega arith
few_bytes_of (ItemOf.Net d) = omega arith
few_bytes_of (ItemOf.Req r) = omega arith
few_bytes_of (ItemOf.Resp r) = omega arith

few_bytes_in : (xs : List Item) → length (bytes_in xs) ≤ length xs
few_bytes_in [] = omega arith
few_bytes_in (x ∷ xs) =
    let a = few_bytes_in xs in
    let b = few_bytes_of x in
    let l = length-append (byte_of x) (bytes_in xs) in
    omega (arith, a, b, l)

-- no more was put to queues, and dropped for them, than a number for each
put_below : (m : Moved) (drops : List Bool) (f : ℕ → ℕ) (n : ℕ) (qs : List ℕ) → ((k i q : ℕ) → i ≡ n + k → slice_get qs k ≡ Some q → length (m.sent q) + gone_at (policy_at drops i) m Producer q ≤ f i)
    → put_to qs m + gone_from drops n qs m + sum_below f n ≤ sum_below f (n + length qs)
put_below m drops f n [] h = let e : sum_below f n ≡ sum_below f (n + 0) = ap (sum_below f) (omega arith) in omega (arith, e)
put_below m drops f n (q ∷ qs) h =
    let one = h 0 n q (omega arith) refl in
    let plus : n + 1 ≡ suc n = omega arith in
    let same : gone_from drops (n + 1) qs m ≡ gone_from drops (suc n) qs m = ap (λ i. gone_from drops i qs m) plus in
    let rest = put_below m drops f (suc n) qs (λ k i p e at. h (suc k) i p (omega (arith, e)) at) in
    let size : sum_below f (suc n + length qs) ≡ sum_below f (n + suc (length qs)) = ap (sum_below f) (omega arith) in
    omega (arith, one, rest, size, same)

-- nor than the lists hold, one for each queue
put_total : {T : Type 0} (m : Moved) (qs : List ℕ) (lists : List (List T)) → length qs ≡ length lists → ((k q : ℕ) (l : List T) → slice_get qs k ≡ Some q → slice_get lists k ≡ Some l → length (m.sent q) ≤ length l) → put_to qs m ≤ total lists
put_total m [] [] e h = omega arith
put_total m [] (l ∷ ls) e h = omega arith
put_total m (q ∷ qs) [] e h = absurd (omega (arith, e))
put_total m (q ∷ qs) (l ∷ ls) e h =
    let one = h 0 q l refl refl in
    let rest = put_total m qs ls (omega (arith, e)) (λ k p x a b. h (suc k) p x a b) in
    omega (arith, one, rest)

-- what was taken from queues is no more than what was put to them
taken_total : (m : Moved) (qs : List ℕ) → ((k q : ℕ) → slice_get qs k ≡ Some q → length (m.taken q) ≤ length (m.sent q)) → total (map (λ q. m.taken q) qs) ≤ put_to qs m
taken_total m [] h = omega arith
taken_total m (q ∷ qs) h =
    let one = h 0 q refl in
    let rest = taken_total m qs (λ k p at. h (suc k) p at) in
    omega (arith, one, rest)

module _ (hostile : Hostiles) (history : History) (rows : List QueueRow) (j : List Entry) (c : SerialClass) (flows : QueuesFlow history rows j) (w : IsSerial (RowAt (moved history j)) hostile rows c) where
  abbrev m : Moved
  m = moved history j

  abbrev put : ℕ → ℕ
  put n = length (m.sent n)

  abbrev got : ℕ → ℕ
  got n = length (m.taken n)

  flow : (n : ℕ) → Holds hostile rows n 1 → got n ≤ put n
  flow n there = shorter (m.taken n) (m.sent n) (flows n there.row there.there).begins

  -- the device puts no more than comes in, and the driver hands it on
  device_puts : put c.device_rx ≤ length c.input
  device_puts =
      let a = shorter (m.sent c.device_rx) (byte_items c.input) w.device in
      let b = few_items c.input in
      omega (arith, a, b)

  driver_puts : put c.rx ≤ put c.device_rx
  driver_puts =
      let a = shorter (m.sent c.rx) (m.taken c.device_rx) w.driver.0 in
      let b = flow c.device_rx w.holds_device_rx in
      omega (arith, a, b)

  abbrev part : ℕ → List ℕ
  part k = input_of (length c.client_rx) k (bytes_in (m.taken c.rx))

  abbrev share : ℕ → ℕ
  share k = length (part k)

  -- each client is given, and of its bytes are dropped, no more than its part
  client_given : (k q : ℕ) → slice_get c.client_rx k ≡ Some q → put q + gone_at (policy_at c.drops k) m Producer q ≤ share k
  client_given k q at =
      let shares : SharesSome c.drops c.rx c.client_rx m = w.receiver in
      few_given shares.marks shares.out
    where
      few_given : (marks : Marks) → SharesOut marks c.drops c.rx c.client_rx m → put q + gone_at (policy_at c.drops k) m Producer q ≤ share k
      few_given marks out =
          let a = shorter (m.sent q) (byte_items (without (marks k) (part k))) (_, out.given k q at) in
          let b = few_items (without (marks k) (part k)) in
          let d = without_length (marks k) (part k) (out.settled k q at) in
          let g = out.as_many k q at in
          omega (arith, a, b, d, g)

  receiver_puts : put_to c.client_rx m + serial_gone c m ≤ put c.rx
  receiver_puts =
      let each = λ (k i q : ℕ) (e : i ≡ 0 + k) (at : slice_get c.client_rx k ≡ Some q). subst (λ x. put q + gone_at (policy_at c.drops x) m Producer q ≤ share x) (let same : k ≡ i = omega (arith, e) in same) (client_given k q at) in
      let a = put_below m c.drops share 0 c.client_rx each in
      let size : sum_below share (0 + length c.client_rx) ≡ sum_below share (length c.client_rx) = ap (sum_below share) (omega arith) in
      let b = parts_few (length c.client_rx) (bytes_in (m.taken c.rx)) in
      let d = few_bytes_in (m.taken c.rx) in
      let e = flow c.rx w.holds_rx in
      omega (arith, a, size, b, d, e)

  -- each client says no more than its script
  client_says : (k p : ℕ) (script : List ℕ) → slice_get c.client_tx k ≡ Some p → slice_get c.scripts k ≡ Some script → put p ≤ length script
  client_says k p script a b =
      let lt = there_below c.scripts k script b in
      let q = there_is c.client_rx k (omega (arith, w.rx_count, lt)) in
      let s = shorter (m.sent p) (byte_items script) (w.client k q.0 p script q.1 a b) in
      let f = few_items script in
      omega (arith, s, f)

  clients_put : put_to c.client_tx m ≤ total c.scripts
  clients_put = put_total m c.client_tx c.scripts w.tx_count client_says

  sender_puts : put c.tx ≤ put_to c.client_tx m
  sender_puts =
      let merges : MergesAll c.tx c.client_tx m = w.sender in
      let a = merge_total (map (λ q. m.taken q) c.client_tx) (m.sent c.tx ++ merges.owed) merges.merged in
      let b = length-append (m.sent c.tx) merges.owed in
      let d = taken_total m c.client_tx (λ k q at. flow q (w.holds_client_tx k q at)) in
      omega (arith, a, b, d)

  line_put : put c.device_tx ≤ put c.tx
  line_put =
      let a = shorter (m.sent c.device_tx) (m.taken c.tx) w.driver.1 in
      let b = flow c.tx w.holds_tx in
      omega (arith, a, b)

  pub serial_moves : serial_put c m + serial_gone c m ≤ 3 * serial_bytes c
  serial_moves =
      omega (arith, device_puts, driver_puts, receiver_puts, clients_put, sender_puts, line_put)
