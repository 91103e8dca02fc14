-- Which entries are good is told by items and names; and the clients as the table has them.
use Rattle.std.proofs.Common.{◌≡◌, ℕ, zero, suc, Bool, true, false, not, cond, Some, List, [], ◌∷◌, map, slice_get, refl, sym, ap, ◌∙◌}
use Rattle.std.specs.List.{filter}
use Rattle.cargo_core.specs.declared.item.Body.TheVariants as Carried
use Rattle.wire_core.specs.declared.names.QueueId.{QueueId}
use Rattle.wire_core.specs.Deeds.{Cargo}
use Rattle.wire_core.specs.Queues.{items_of}
use Rattle.play_core.specs.Names.{items_in, told}
use Rattle.play_core.proofs.Lists.{some_is}
use Rattle.net_virt_tx.specs.declared.descriptors.Sender.{Sender}
use Rattle.net_virt_tx.specs.Serving.{bad_ones, is_good_of}
use Rattle.net_law.specs.TxParts.Parts.{Shipper}
use Rattle.net_law.specs.TxParts.Playing.{sender_pool, shippers}
use Rattle.net_law.specs.TxScene.Rows.{bad_in, good_in, is_good_at}

-- a client with these queues, as the table has it
abbrev pub ship_of : Sender → QueueId → QueueId → Shipper
ship_of s q r = record { active = q.0; free = r.0; pool = sender_pool s; most = s.most }

module _ (s : Sender) (q r : QueueId) where
  good_same : (c : Cargo) → is_good_at (ship_of s q r) (told c) ≡ is_good_of s c
  good_same (item, Carried.Page page) = refl
  good_same (item, Carried.Lease lease) = refl
  good_same (item, Carried.Empty) = refl

  pub goods_told : (cs : List Cargo) → items_in (good_in (ship_of s q r) (map told cs)) ≡ items_of (filter (is_good_of s) cs)
  goods_told [] = refl
  goods_told (c ∷ cs) = ap (λ b. items_in (cond b (told c ∷ good_in (ship_of s q r) (map told cs)) (good_in (ship_of s q r) (map told cs)))) (good_same c) ∙ by (is_good_of s c) (goods_told cs)
    where
      by : (t : Bool) → items_in (good_in (ship_of s q r) (map told cs)) ≡ items_of (filter (is_good_of s) cs) → items_in (cond t (told c ∷ good_in (ship_of s q r) (map told cs)) (good_in (ship_of s q r) (map told cs))) ≡ items_of (cond t (c ∷ filter (is_good_of s) cs) (filter (is_good_of s) cs))
      by true rest = ap (λ xs. c.0 ∷ xs) rest
      by false rest = rest

  pub bads_told : (cs : List Cargo) → items_in (bad_in (ship_of s q r) (map told cs)) ≡ items_of (bad_ones s cs)
  bads_told [] = refl
  bads_told (c ∷ cs) = ap (λ b. items_in (cond (not b) (told c ∷ bad_in (ship_of s q r) (map told cs)) (bad_in (ship_of s q r) (map told cs)))) (good_same c) ∙ by (is_good_of s c) (bads_told cs)
    where
      by : (t : Bool) → items_in (bad_in (ship_of s q r) (map told cs)) ≡ items_of (bad_ones s cs) → items_in (cond (not t) (told c ∷ bad_in (ship_of s q r) (map told cs)) (bad_in (ship_of s q r) (map told cs))) ≡ items_of (cond (not t) (c ∷ bad_ones s cs) (bad_ones s cs))
      by true rest = rest
      by false rest = ap (λ xs. c.0 ∷ xs) rest

-- a client of the table is one of the virtualiser's
pub record Ships (ss : List Sender) (from to : List QueueId) (k : ℕ) (c : Shipper) : Type 0 where
  pub sender : Sender
  pub active : QueueId
  pub free : QueueId
  pub there : slice_get ss k ≡ Some sender
  pub comes : slice_get from k ≡ Some active
  pub goes : slice_get to k ≡ Some free
  pub is : c ≡ ship_of sender active free

pub ships : (ss : List Sender) (from to : List QueueId) (k : ℕ) (c : Shipper) → slice_get (shippers ss from to) k ≡ Some c → Ships ss from to k c
ships [] from to k c at = absurd cc
ships (s ∷ ss) [] to k c at = absurd cc
ships (s ∷ ss) (q ∷ from) [] k c at = absurd cc
ships (s ∷ ss) (q ∷ from) (r ∷ to) zero c at = record { sender = s; active = q; free = r; there = refl; comes = refl; goes = refl; is = sym (some_is at) }
ships (s ∷ ss) (q ∷ from) (r ∷ to) (suc k) c at =
    let h = ships ss from to k c at in
    record { sender = h.sender; active = h.active; free = h.free; there = h.there; comes = h.comes; goes = h.goes; is = h.is }

pub ship_there : (xs : List Sender) (from to : List QueueId) (j : ℕ) (s : Sender) (q r : QueueId) → slice_get xs j ≡ Some s → slice_get from j ≡ Some q → slice_get to j ≡ Some r → slice_get (shippers xs from to) j ≡ Some (ship_of s q r)
ship_there [] from to j s q r at at' at'' = absurd cc
ship_there (x ∷ xs) [] to j s q r at at' at'' = absurd cc
ship_there (x ∷ xs) (y ∷ from) [] j s q r at at' at'' = absurd cc
ship_there (x ∷ xs) (y ∷ from) (z ∷ to) zero s q r at at' at'' = rw (← some_is at, ← some_is at', ← some_is at'') refl
ship_there (x ∷ xs) (y ∷ from) (z ∷ to) (suc j) s q r at at' at'' = ship_there xs from to j s q r at at' at''
