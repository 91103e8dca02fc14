use Rattle.std.proofs.Common.{◌≡◌, ◌≤◌, ◌==◌, ◌++◌, ℕ, zero, suc, Bool, true, false, cond, if◌then◌else◌, Some, List, [], ◌∷◌, length, map, slice_get, slice_index_or, refl, sym, ap, ◌∙◌, subst, arith}
use Rattle.std.proofs.lemmas.List.{length-map, map-append}
use Rattle.cargo_core.specs.declared.item.Item.{Item}
use Rattle.wire_core.specs.declared.names.QueueId.{QueueId}
use Rattle.wire_core.specs.Deeds.{Cargo}
use Rattle.wire_core.specs.Ends.{Producer}
use Rattle.wire_core.specs.Fates.{without, marked, noes_at}
use Rattle.wire_core.specs.Lists.{Passed}
use Rattle.wire_core.specs.Queues.{items_of}
use Rattle.class_expect.specs.SerialSwitch.Carried.{byte_of, byte_cargo, bytes_carried}
use Rattle.class_expect.specs.SerialSwitch.Switching.{input_of}
use Rattle.serial_virt.specs.Shares.{Taker, byte_fate}
use Rattle.serial_virt.specs.Receiving.{RxRow, clients_of, policy_of, taker_of}
use Rattle.serial_virt.specs.declared.rx.SerialVirtRx.{SerialVirtRx}
use Rattle.serial_virt.proofs.Taking.{all_stay}
use Rattle.turn_kit.specs.ManyEnds.{outlet_queues}
use Rattle.play_core.specs.Moved.{Moved}
use Rattle.play_core.proofs.Lists.{some_is, map_from}
use Rattle.serial_law.specs.Bytes.{bytes_in, byte_items}
use Rattle.serial_law.specs.Table.{Marks, SharesOut}
use Rattle.serial_law.specs.Dropped.{taker, told_marks, client_queues, TellsReceiver}

index_at : (xs : List ℕ) (k q : ℕ) → slice_get xs k ≡ Some q → slice_index_or xs k 0 ≡ q
index_at [] k q at = cc
index_at (x ∷ xs) zero q at = some_is at
index_at (x ∷ xs) (suc k) q at = index_at xs k q at

-- the bytes that entries carry are those of their items
carried_in : (cs : List Cargo) → bytes_carried cs ≡ bytes_in (items_of cs)
carried_in [] = refl
carried_in (c ∷ cs) = ap (λ bs. byte_of c.0 ++ bs) (carried_in cs)

items_of_bytes : (bs : List ℕ) → items_of (map byte_cargo bs) ≡ byte_items bs
items_of_bytes [] = refl
items_of_bytes (b ∷ bs) = ap (λ xs. (byte_cargo b).0 ∷ xs) (items_of_bytes bs)

items_if : (b : Bool) (cs : List Cargo) → (if b then items_of cs else []) ≡ items_of (if b then cs else [])
items_if true cs = refl
items_if false cs = refl

abbrev taker_by : Bool → (k n p : ℕ) → Taker
taker_by drops k n p = record { clients = n; client = k; drops = drops; queue = p }

module _ (v : SerialVirtRx) (passed : Passed) (m : Moved) (t : TellsReceiver v passed m) (row : RxRow v passed) where
  abbrev rx : ℕ
  rx = v.input.queue.0

  abbrev marks : Marks
  marks = told_marks rx (client_queues v) v.drops.items passed.calls

  abbrev part : ℕ → List ℕ
  part k = input_of (length (client_queues v)) k (bytes_in (m.taken rx))

  abbrev gone : ℕ → QueueId → List Bool
  gone k x = (byte_fate rx (taker_of v k x) passed.calls).dropped

  part_is : (k : ℕ) → input_of (clients_of v) k (bytes_carried (passed.taken rx)) ≡ part k
  part_is k =
      let many : length (client_queues v) ≡ clients_of v = length-map (outlet_queues v.outputs) (λ (q : QueueId). q.0) in
      let heard : bytes_carried (passed.taken rx) ≡ bytes_in (m.taken rx) = carried_in (passed.taken rx) ∙ ap bytes_in t.taken in
      ap (λ n. input_of n k (bytes_carried (passed.taken rx))) (sym many) ∙ ap (λ bs. input_of (length (client_queues v)) k bs) heard

  taker_is : (k q : ℕ) (x : QueueId) → slice_get (client_queues v) k ≡ Some q → x.0 ≡ q → taker (client_queues v) v.drops.items k ≡ taker_of v k x
  taker_is k q x at is =
      let many : length (client_queues v) ≡ clients_of v = length-map (outlet_queues v.outputs) (λ (q : QueueId). q.0) in
      let queue : slice_index_or (client_queues v) k 0 ≡ x.0 = index_at (client_queues v) k q at ∙ sym is in
      ap (λ n. taker_by (policy_of v k) k n (slice_index_or (client_queues v) k 0)) many ∙ ap (λ p. taker_by (policy_of v k) k (clients_of v) p) queue

  marks_are : (k q : ℕ) (x : QueueId) → slice_get (client_queues v) k ≡ Some q → x.0 ≡ q → marks k ≡ cond (policy_of v k) (gone k x) []
  marks_are k q x at is = ap (λ (t : Taker). cond (policy_of v k) (byte_fate rx t passed.calls).dropped []) (taker_is k q x at is)

  -- of a client by its place, as of the queue that it has there
  module _ (k q : ℕ) (at : slice_get (client_queues v) k ≡ Some q) (x : QueueId) (there : slice_get (outlet_queues v.outputs) k ≡ Some x) (is : x.0 ≡ q) where
    left_by : (b : Bool) → policy_of v k ≡ b → (xs : List ℕ) → without (cond b (gone k x) []) xs ≡ without (gone k x) xs
    left_by true e xs = refl
    left_by false e xs = sym (all_stay rx (taker_of v k x) e passed.calls xs)

    left : (xs : List ℕ) → without (marks k) xs ≡ without (gone k x) xs
    left xs = ap (λ bs. without bs xs) (marks_are k q x at is) ∙ left_by (policy_of v k) refl xs

    given_here : m.sent q ++ (if row.owner == k then items_of row.owed else []) ≡ byte_items (without (marks k) (part k))
    given_here =
        let sent : m.sent q ≡ items_of (passed.sent x.0) = sym (t.sent k q at) ∙ ap (λ n. items_of (passed.sent n)) (sym is) in
        ap (λ (s : List Item). s ++ (if row.owner == k then items_of row.owed else [])) sent
        ∙ (ap (λ s. items_of (passed.sent x.0) ++ s) (items_if (row.owner == k) row.owed)
        ∙ (sym (map-append (λ (c : Cargo). c.0) (passed.sent x.0) (if row.owner == k then row.owed else []))
        ∙ (ap items_of (row.given k x there)
        ∙ (items_of_bytes (without (gone k x) (input_of (clients_of v) k (bytes_carried (passed.taken rx))))
        ∙ (ap (λ xs. byte_items (without (gone k x) xs)) (part_is k) ∙ ap byte_items (sym (left (part k))))))))

    settled_by : (b : Bool) → policy_of v k ≡ b → length (cond b (gone k x) []) ≤ length (part k)
    settled_by true e = subst (λ xs. length (gone k x) ≤ length xs) (part_is k) (row.settled k x there e)
    settled_by false e = omega arith

    settled_here : length (marks k) ≤ length (part k)
    settled_here = subst (λ bs. length bs ≤ length (part k)) (sym (marks_are k q x at is)) (settled_by (policy_of v k) refl)

    many_by : (b : Bool) → policy_of v k ≡ b → marked (cond b (gone k x) []) ≡ cond b (m.noes Producer q) 0
    many_by true e = sym (row.each k x there e) ∙ (ap (λ n. noes_at Producer n passed.calls) is ∙ t.noes k q at)
    many_by false e = refl

    many_here : marked (marks k) ≡ cond (policy_of v k) (m.noes Producer q) 0
    many_here = ap marked (marks_are k q x at is) ∙ many_by (policy_of v k) refl

  queue_at : (k q : ℕ) → slice_get (client_queues v) k ≡ Some q → (x : QueueId) × (slice_get (outlet_queues v.outputs) k ≡ Some x) × (x.0 ≡ q)
  queue_at k q at = map_from (λ (q : QueueId). q.0) (outlet_queues v.outputs) k q at

  pub told_shares : SharesOut marks v.drops.items rx (client_queues v) m
  told_shares = record {
    owner = row.owner;
    owed = items_of row.owed;
    few = let n = length-map row.owed (λ (c : Cargo). c.0) in let few = row.few in omega (arith, n, few);
    given = λ k q at. let x = queue_at k q at in given_here k q at x.0 x.1 x.2;
    settled = λ k q at. let x = queue_at k q at in settled_here k q at x.0 x.1 x.2;
    as_many = λ k q at. let x = queue_at k q at in many_here k q at x.0 x.1 x.2;
  }
