-- The wire is a merge of beginnings of what the clients send.
use Rattle.std.proofs.Common.{◌≡◌, ◌==◌, ◌+◌, ℕ, zero, suc, Some, List, [], ◌∷◌, length, map, slice_get, refl, sym, ap, ◌∙◌, subst, arith}
use Rattle.std.specs.List.{filter}
use Rattle.std.proofs.lemmas.List.{length-map}
use Rattle.cargo_core.specs.declared.item.Item.{Item}
use Rattle.cargo_core.specs.declared.item.Item.TheVariants as ItemOf
use Rattle.cargo_core.specs.Lists.{IsPrefix, PrefixMerge}
use Rattle.wire_core.specs.declared.names.QueueId.{QueueId}
use Rattle.wire_core.specs.Deeds.{Cargo}
use Rattle.wire_core.specs.Lists.{Lists, Passed, if_there}
use Rattle.turn_kit.specs.declared.pipe.Pipe.{Pipe}
use Rattle.pipe_driver.specs.declared.pipes.Pipes.{Pipes}
use Rattle.device_model.specs.Ethernet.Devices.{tx_active}
use Rattle.device_model.specs.declared.ethernet.EthDevice.{EthDevice}
use Rattle.buffer_kit.specs.Entries.{addr_of, first_bytes, frame_of, len_of}
use Rattle.buffer_kit.specs.Virtualising.{from_queues}
use Rattle.net_virt_tx.specs.declared.NetVirtTx.{NetVirtTx}
use Rattle.net_virt_tx.specs.declared.descriptors.Sender.{Sender}
use Rattle.net_virt_tx.specs.Descriptors.{to_device, with_addr}
use Rattle.net_virt_tx.specs.Serving.{is_good_of}
use Rattle.net_virt_tx.specs.Traffics.{senders}
use Rattle.net_virt_tx.specs.Sending.{all_good}
use Rattle.play_core.proofs.Lists.{map_from, prefix_trans, some_is}
use Rattle.play_core.proofs.Merges.{merge_map, prefix_merge, prefix_merge_wider}
use Rattle.net_law.proofs.Beginnings.{begins_map, begins_filter}
use Rattle.net_law.specs.Wire.Sending.{IsSending, AllBegin, frames_from}

-- a beginning of a merge of beginnings, and what its elements are mapped to
begins_merge : {T : Type 0} (lists : List (List T)) (all xs : List T) → PrefixMerge lists all → IsPrefix xs all → PrefixMerge lists xs
begins_merge lists all xs h b = prefix_merge_wider h.parts lists xs h.as_many h.begins (prefix_merge h.parts all h.merged xs b)

maps_merge : {T U : Type 0} (f : T → U) (lists : List (List T)) (all : List T) → PrefixMerge lists all → PrefixMerge (map (map f) lists) (map f all)
maps_merge f lists all h =
    let a = length-map h.parts (map f) in
    let b = length-map lists (map f) in
    let c = h.as_many in
    record {
      parts = map (map f) h.parts;
      as_many = omega (arith, a, b, c);
      begins = λ k part whole at at'.
          let m = map_from (map f) h.parts k part at in
          let n = map_from (map f) lists k whole at' in
          subst (λ x. IsPrefix x whole) m.2 (subst (λ y. IsPrefix (map f m.0) y) n.2 (begins_map f m.0 n.0 (h.begins k m.0 n.0 m.1 n.1)));
      merged = merge_map f h.parts all h.merged;
    }

-- an entry's frame doesn't depend on its address
pub len_same : (n : ℕ) (item : Item) → len_of (with_addr n item) ≡ len_of item
len_same n (ItemOf.Net d) = refl
len_same n (ItemOf.Byte b) = refl
len_same n (ItemOf.Req r) = refl
len_same n (ItemOf.Resp r) = refl

frames_same : (base : ℕ) (xs : List Cargo) → map frame_of (map (to_device base) xs) ≡ map frame_of xs
frames_same base [] = refl
frames_same base (x ∷ xs) = ap (λ n. first_bytes n x.1 ∷ map frame_of (map (to_device base) xs)) (len_same (base + addr_of x.0) x.0) ∙ ap (λ fs. frame_of x ∷ fs) (frames_same base xs)

-- which client's a list is
good_at : (ss : List Sender) (qs : List QueueId) (lists : Lists) (k : ℕ) (l : List Cargo) → slice_get (all_good ss qs lists) k ≡ Some l → (s : Sender) × (q : QueueId) × (slice_get ss k ≡ Some s) × (slice_get qs k ≡ Some q) × (l ≡ map (to_device s.base) (filter (is_good_of s) (lists q.0)))
good_at [] qs lists k l at = absurd cc
good_at (s ∷ ss) [] lists k l at = absurd cc
good_at (s ∷ ss) (q ∷ qs) lists zero l at = (s, q, refl, refl, sym (some_is at))
good_at (s ∷ ss) (q ∷ qs) lists (suc k) l at = good_at ss qs lists k l at

good_long : (ss : List Sender) (qs : List QueueId) (lists : Lists) → length qs ≡ length ss → length (all_good ss qs lists) ≡ length ss
good_long [] qs lists long = refl
good_long (s ∷ ss) [] lists long = absurd (omega (arith, long))
good_long (s ∷ ss) (q ∷ qs) lists long = let r = good_long ss qs lists (omega (arith, long)) in omega (arith, r)

module _ (d : EthDevice) (p : Pipes (Pipes (Pipes Pipe))) (v : NetVirtTx) (passed : Passed) (h : IsSending d p v passed) where
  abbrev went : List Cargo
  went = passed.sent v.ends.output.queue.0

  abbrev good : Lists → List (List Cargo)
  good lists = all_good (senders v.work) (from_queues v.ends) lists

  -- the device took a beginning of what the virtualiser put
  pub reached : IsPrefix (passed.taken (tx_active d)) went
  reached =
      let o = p.rest.rest.first.output.queue.0 in
      let i = p.rest.rest.first.input.queue.0 in
      let taken = passed.taken (tx_active d) in
      prefix_trans taken (passed.sent o) went (subst (λ n. IsPrefix taken (passed.sent n)) h.to_device (h.hands_over (tx_active d)))
      (prefix_trans (passed.sent o) (passed.taken i) went h.driver.1.1.0 (subst (λ n. IsPrefix (passed.taken i) (passed.sent n)) h.to_driver (h.hands_over i)))

  -- what came in turn is a beginning of what came
  in_turn : (k : ℕ) (l w : List Cargo) → slice_get (good h.virtualiser.turn) k ≡ Some l → slice_get (good passed.taken) k ≡ Some w → IsPrefix l w
  in_turn k l w at at' =
      let row = h.virtualiser in
      let a = good_at (senders v.work) (from_queues v.ends) row.turn k l at in
      let b = good_at (senders v.work) (from_queues v.ends) passed.taken k w at' in
      let s : b.0 ≡ a.0 = some_is (sym b.2 ∙ a.2) in
      let q : b.1 ≡ a.1 = some_is (sym b.3 ∙ a.3) in
      let turn = row.turn a.1.0 in
      let taken = passed.taken a.1.0 in
      let begins : IsPrefix turn taken = (if_there (row.place == a.1.0) row.stray, sym (row.taken a.1.0)) in
      let part = begins_map (to_device a.0.base) (filter (is_good_of a.0) turn) (filter (is_good_of a.0) taken) (begins_filter (is_good_of a.0) turn taken begins) in
      let whole : map (to_device a.0.base) (filter (is_good_of a.0) taken) ≡ w = ap (λ (x : Sender). map (to_device x.base) (filter (is_good_of x) taken)) (sym s) ∙ (ap (λ (r : QueueId). map (to_device b.0.base) (filter (is_good_of b.0) (passed.taken r.0))) (sym q) ∙ sym b.4) in
      subst (λ x. IsPrefix x w) (sym a.4) (subst (λ y. IsPrefix (map (to_device a.0.base) (filter (is_good_of a.0) turn)) y) whole part)

  pub wire_good : PrefixMerge (frames_from v passed) d.wire.tape.shown
  wire_good =
      let row = h.virtualiser in
      let a = good_long (senders v.work) (from_queues v.ends) row.turn row.from_each in
      let b = good_long (senders v.work) (from_queues v.ends) passed.taken row.from_each in
      let came = prefix_merge_wider (good row.turn) (good passed.taken) went (omega (arith, a, b)) in_turn row.merges in
      subst (λ w. PrefixMerge (frames_from v passed) w) (sym h.device.wire)
      (maps_merge frame_of (good passed.taken) (passed.taken (tx_active d)) (begins_merge (good passed.taken) went (passed.taken (tx_active d)) came reached))

  pub wire_sends : (sends : List (List (List ℕ))) → AllBegin v passed sends → PrefixMerge sends d.wire.tape.shown
  wire_sends sends all =
      let a = good_long (senders v.work) (from_queues v.ends) passed.taken h.virtualiser.from_each in
      let b = length-map (good passed.taken) (map frame_of) in
      let m = all.as_many in
      prefix_merge_wider (frames_from v passed) sends d.wire.tape.shown (omega (arith, a, b, m)) (λ k l w at at'.
      let f = map_from (map frame_of) (good passed.taken) k l at in
      let g = good_at (senders v.work) (from_queues v.ends) passed.taken k f.0 f.1 in
      let begun = all.each k g.0 g.1 w g.2 g.3 at' in
      let taken = passed.taken g.1.0 in
      let same : map frame_of (filter (is_good_of g.0) taken) ≡ l = sym (frames_same g.0.base (filter (is_good_of g.0) taken)) ∙ (ap (map frame_of) (sym g.4) ∙ f.2) in
      subst (λ x. IsPrefix x w) same begun) wire_good
