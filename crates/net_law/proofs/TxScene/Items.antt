-- The virtualiser's row, of items and names, whoever its clients are.
use Rattle.std.proofs.Common.{◌<◌, ◌≡◌, ◌==◌, ◌++◌, ℕ, zero, suc, Bool, true, false, Some, List, [], ◌∷◌, All, length, map, slice_get, refl, sym, ap, ap₂, ◌∙◌, subst, arith}
use Rattle.std.specs.List.{filter}
use Rattle.std.proofs.lemmas.List.{append-nil}
use Rattle.std.proofs.lemmas.List.Elements.{filter_passes}
use Rattle.cargo_core.specs.Lists.{IsPrefix, PrefixMerge}
use Rattle.cargo_core.specs.declared.item.Item.{Item}
use Rattle.wire_core.specs.declared.names.QueueId.{QueueId}
use Rattle.wire_core.specs.Deeds.{Cargo}
use Rattle.wire_core.specs.Lists.{Lists, Passed, if_there}
use Rattle.wire_core.specs.Queues.{items_of}
use Rattle.play_core.specs.Moved.{Moved}
use Rattle.play_core.specs.Names.{Names, Wild, names_of}
use Rattle.play_core.specs.Wants.{intake, outlet}
use Rattle.play_core.proofs.Lists.{map_from}
use Rattle.buffer_kit.specs.Virtualising.{from_queues, to_queues}
use Rattle.net_virt_tx.specs.declared.NetVirtTx.{NetVirtTx}
use Rattle.net_virt_tx.specs.declared.descriptors.Sender.{Sender}
use Rattle.net_virt_tx.specs.Descriptors.{to_device}
use Rattle.net_virt_tx.specs.Serving.{bad_ones, is_good_of, own_of}
use Rattle.net_virt_tx.specs.Traffics.{senders}
use Rattle.net_virt_tx.specs.Sending.{TxRow, all_good}
use Rattle.net_law.specs.Owners.Ends.{AreItemsOf}
use Rattle.net_law.specs.TxParts.Parts.{Shipper}
use Rattle.net_law.specs.TxParts.Rows.{IsOffset, at_device, at_home}
use Rattle.net_law.specs.TxParts.Playing.{send_part, sender_pool, shippers}
use Rattle.net_law.specs.TxScene.Rows.{all_goods, bads, goods, owed_back}
use Rattle.net_law.specs.TxScene.Table.{both_sheet}
use Rattle.net_law.specs.TxScene.Playing.{CalmGood, TellsOf}
use Rattle.net_law.proofs.PartsLemmas.Items.{all_at}
use Rattle.net_law.proofs.PartsLemmas.Pairs.{twice, pair_first, pair_second}
use Rattle.net_law.proofs.TxParts.Growing.{maps_merge}
use Rattle.net_law.proofs.TxParts.Items.{device_items, good_offset, home_items}
use Rattle.net_law.proofs.TxScene.Sorting.{bads_are, goods_are}
use Rattle.net_law.proofs.TxScene.Telling.{ship_of, ship_there, ships}

sends_are : (wild : Wild) (names : Names) (ss : List Sender) (from to : List QueueId) (lists : Lists) (m : Moved) → length from ≡ length ss → length to ≡ length ss
    → ((k : ℕ) (s : Sender) (q r : QueueId) → slice_get ss k ≡ Some s → slice_get from k ≡ Some q → slice_get to k ≡ Some r → items_of (map (to_device s.base) (filter (is_good_of s) (lists q.0))) ≡ at_device (sender_pool s) (goods wild names m (ship_of s q r)))
    → map (map (λ (c : Cargo). c.0)) (all_good ss from lists) ≡ all_goods wild names (shippers ss from to) m
sends_are wild names [] from to lists m one two h = refl
sends_are wild names (s ∷ ss) [] to lists m one two h = absurd (omega (arith, one))
sends_are wild names (s ∷ ss) (q ∷ from) [] lists m one two h = absurd (omega (arith, two))
sends_are wild names (s ∷ ss) (q ∷ from) (r ∷ to) lists m one two h =
    ap₂ (λ (l : List Item) (ls : List (List Item)). l ∷ ls) (h zero s q r refl refl refl) (sends_are wild names ss from to lists m (omega (arith, one)) (omega (arith, two)) (λ k t u v at at' at''. h (suc k) t u v at at' at''))

module _ (wild : Wild) (names : Names) (v : NetVirtTx) (passed : Passed) (m : Moved) (items : AreItemsOf (both_sheet wild names (send_part v)).ends passed m) (tells : TellsOf wild names (send_part v).clients passed) (calm : CalmGood wild v passed) (row : TxRow v passed) (none : row.stray ≡ []) where
  abbrev ss : List Sender
  ss = senders v.work

  abbrev f : List QueueId
  f = from_queues v.ends

  abbrev t : List QueueId
  t = to_queues v.ends

  abbrev i : ℕ
  i = v.ends.input.queue.0

  turn_is : (n : ℕ) → row.turn n ≡ passed.taken n
  turn_is n = sym (row.taken n ∙ (ap (λ l. row.turn n ++ if_there (row.place == n) l) none ∙ (ap (λ l. row.turn n ++ l) (none_if (row.place == n)) ∙ append-nil (row.turn n))))
    where
      none_if : (b : Bool) → if_there b [] ≡ []
      none_if true = refl
      none_if false = refl

  came_back : m.taken i ≡ items_of (passed.taken i)
  came_back = items 0 _ refl

  gave : m.sent v.ends.output.queue.0 ≡ items_of (passed.sent v.ends.output.queue.0)
  gave = items 1 _ refl

  module _ (k : ℕ) (s : Sender) (q r : QueueId) (at : slice_get ss k ≡ Some s) (at' : slice_get f k ≡ Some q) (at'' : slice_get t k ≡ Some r) where
    abbrev c : Shipper
    c = ship_of s q r

    there : slice_get (shippers ss f t) k ≡ Some c
    there = ship_there ss f t k s q r at at' at''

    came : m.taken q.0 ≡ items_of (row.turn q.0)
    came = items (suc (suc (twice k))) _ (pair_first (λ (d : Shipper). intake d.active) (λ d. outlet d.free) (shippers ss f t) k c there) ∙ ap items_of (sym (turn_is q.0))

    went : m.sent r.0 ≡ items_of (passed.sent r.0)
    went = items (suc (suc (suc (twice k)))) _ (pair_second (λ (d : Shipper). intake d.active) (λ d. outlet d.free) (shippers ss f t) k c there)

    goods_here : goods wild names m c ≡ items_of (filter (is_good_of s) (row.turn q.0))
    goods_here = goods_are wild names m s q r (row.turn q.0) came (λ w. subst (λ l. IsPrefix (names_of l) (names q.0)) (sym (turn_is q.0)) (tells k c there w)) (λ w. subst (All (λ (x : Cargo). is_good_of s x ≡ true)) (sym (turn_is q.0)) (calm k s q at at' w))

    bads_here : bads wild names m c ≡ items_of (bad_ones s (row.turn q.0))
    bads_here = bads_are wild names m s q r (row.turn q.0) came (λ w. subst (λ l. IsPrefix (names_of l) (names q.0)) (sym (turn_is q.0)) (tells k c there w)) (λ w. subst (All (λ (x : Cargo). is_good_of s x ≡ true)) (sym (turn_is q.0)) (calm k s q at at' w))

    sends_here : items_of (map (to_device s.base) (filter (is_good_of s) (row.turn q.0))) ≡ at_device (sender_pool s) (goods wild names m c)
    sends_here = device_items s (filter (is_good_of s) (row.turn q.0)) ∙ ap (at_device (sender_pool s)) (sym goods_here)

    offsets : (j : ℕ) (item : Item) → slice_get (goods wild names m c) j ≡ Some item → IsOffset (sender_pool s) item
    offsets j item is =
        let x = map_from (λ (y : Cargo). y.0) (filter (is_good_of s) (row.turn q.0)) j item (ap (λ l. slice_get l j) (sym goods_here) ∙ is) in
        subst (IsOffset (sender_pool s)) x.2 (good_offset s x.0 (all_at (λ (y : Cargo). is_good_of s y ≡ true) (filter (is_good_of s) (row.turn q.0)) (filter_passes (is_good_of s) (row.turn q.0)) j x.0 x.1))

    homes : items_of (own_of s (row.turn i)) ≡ at_home (sender_pool s) (m.taken i)
    homes = home_items s (row.turn i) ∙ (ap (λ l. at_home (sender_pool s) (items_of l)) (turn_is i) ∙ ap (at_home (sender_pool s)) (sym came_back))

    returns_here : PrefixMerge (owed_back wild names (send_part v) m c) (m.sent r.0)
    returns_here =
        let merged = maps_merge (λ (x : Cargo). x.0) (bad_ones s (row.turn q.0) ∷ own_of s (row.turn i) ∷ []) (passed.sent r.0) (row.serves k s q r at at' at'').gives_back in
        let lists : items_of (bad_ones s (row.turn q.0)) ∷ items_of (own_of s (row.turn i)) ∷ [] ≡ owed_back wild names (send_part v) m c = ap₂ (λ (xs ys : List Item). xs ∷ ys ∷ []) (sym bads_here) homes in
        subst (λ xs. PrefixMerge (owed_back wild names (send_part v) m c) xs) (sym went) (subst (λ ls. PrefixMerge ls (items_of (passed.sent r.0))) lists merged)

  pub both_row : (both_sheet wild names (send_part v)).row m
  both_row = record {
    sized = λ k c at.
        let h = ships ss f t k c at in
        subst (λ (d : Shipper). 0 < d.pool.size) (sym h.is) (row.sized k h.sender h.there);
    came = λ k c at j item is.
        let h = ships ss f t k c at in
        subst (λ (d : Shipper). slice_get (goods wild names m d) j ≡ Some item → IsOffset d.pool item) (sym h.is) (offsets k h.sender h.active h.free h.there h.comes h.goes j item) is;
    merges = subst (λ xs. PrefixMerge (all_goods wild names (shippers ss f t) m) xs) (sym gave) (subst (λ ls. PrefixMerge ls (items_of (passed.sent v.ends.output.queue.0))) (sends_are wild names ss f t row.turn m row.from_each row.to_each sends_here) (maps_merge (λ (c : Cargo). c.0) (all_good ss f row.turn) (passed.sent v.ends.output.queue.0) row.merges));
    returns = λ k c at.
        let h = ships ss f t k c at in
        subst (λ (d : Shipper). PrefixMerge (owed_back wild names (send_part v) m d) (m.sent d.free)) (sym h.is) (returns_here k h.sender h.active h.free h.there h.comes h.goes);
  }
