-- Buffers of the network keep their length on their way, so that each frame has room.
use Rattle.std.proofs.Common.{◌≡◌, ◌⊎◌, ◌+◌, ◌-◌, ◌<◌, ◌≤◌, ◌++◌, ℕ, zero, suc, Bool, true, false, nat_le, cond, inl, inr, Some, List, [], ◌∷◌, length, map, slice_get, refl, sym, ap, ◌∙◌, subst, arith}
use Rattle.std.proofs.lemmas.Bool.{cases_lt, leb-true}
use Rattle.std.proofs.lemmas.List.{length-map}
use Rattle.cargo_core.specs.Items.{kind_of}
use Rattle.cargo_core.specs.Lists.{IsPrefix, replaced}
use Rattle.cargo_core.specs.Pages.{Paged}
use Rattle.cargo_core.specs.declared.item.Item.{Item}
use Rattle.cargo_core.specs.declared.item.Item.TheVariants as ItemOf
use Rattle.cargo_core.specs.declared.item.Body.TheVariants as Carried
use Rattle.cargo_core.specs.declared.item.QueueKind.TheVariants as Kind
use Rattle.wire_core.specs.Deeds.{Cargo}
use Rattle.wire_core.specs.Lists.{Passed}
use Rattle.play_core.proofs.Lists.{some_is, map_from, prefix_trans, there_is}
use Rattle.buffer_kit.specs.Entries.{with_len, filled, all_filled}
use Rattle.buffer_kit.specs.Pools.{given_entry}
use Rattle.buffer_kit.proofs.TwoLists.{get_front, get_behind}
use Rattle.client_programs.specs.Net.Clients as client
use Rattle.client_programs.specs.declared.net.NetClient.{NetClient}
use Rattle.wire_core.specs.Fates.{without}
use Rattle.net_copier.specs.Copying.{CopierRow, leased_bytes, leases_dropped}
use Rattle.net_copier.specs.declared.NetCopier.{NetCopier}
use Rattle.net_law.specs.Receiving.{HandsOver, HasRoom, IsRoomy, AreRoomy}
use Rattle.net_law.proofs.PartsLemmas.Leasing.{prefix_get}
use Rattle.net_law.proofs.PartsLemmas.Turning.{filled_at, replaced_long}

-- an entry of the network with a page as long as a buffer
abbrev pub IsLong : (size : ℕ) → Cargo → Type 0
IsLong size c = (kind_of c.0 ≡ Kind.Net) × HasRoom size c.1

abbrev pub AreLong : (size : ℕ) → List Cargo → Type 0
AreLong size cs = (k : ℕ) (c : Cargo) → slice_get cs k ≡ Some c → IsLong size c

abbrev pub AreShort : (size : ℕ) → List (List ℕ) → Type 0
AreShort size fs = (k : ℕ) (f : List ℕ) → slice_get fs k ≡ Some f → length f ≤ size

fits : (size : ℕ) (f : List ℕ) (c : Cargo) → length f ≤ size → IsLong size c → IsRoomy f c
fits size f (item, Carried.Page page) le l = let room : size ≤ length page.bytes = l.1 in (l.0, omega (arith, le, room))
fits size f (item, Carried.Empty) le l = absurd l.1
fits size f (item, Carried.Lease lease) le l = absurd l.1

pub roomy : (size : ℕ) (fs : List (List ℕ)) (cs : List Cargo) → AreShort size fs → AreLong size cs → AreRoomy fs cs
roomy size [] cs short long = tt
roomy size (f ∷ fs) [] short long = tt
roomy size (f ∷ fs) (c ∷ cs) short long = (fits size f c (short 0 f refl) (long 0 c refl), roomy size fs cs (λ k g at. short (suc k) g at) (λ k d at. long (suc k) d at))

kind_kept : (n : ℕ) (item : Item) → kind_of (with_len n item) ≡ kind_of item
kind_kept n (ItemOf.Net d) = refl
kind_kept n (ItemOf.Byte b) = refl
kind_kept n (ItemOf.Req r) = refl
kind_kept n (ItemOf.Resp r) = refl

filled_long : (size : ℕ) (bytes : List ℕ) (c : Cargo) → IsLong size c → IsLong size (filled bytes c)
filled_long size bytes (item, Carried.Page page) l = (kind_kept (length bytes) item ∙ l.0, by (nat_le (length bytes) (length page.bytes)) refl)
  where
    by : (t : Bool) → nat_le (length bytes) (length page.bytes) ≡ t → HasRoom size (cond t (Carried.Page (record { pool = page.pool; no = page.no; bytes = replaced page.bytes 0 bytes })) (Carried.Page page))
    by true e = let same = replaced_long bytes page.bytes (leb-true (length bytes) (length page.bytes) e) in let room : size ≤ length page.bytes = l.1 in omega (arith, same, room)
    by false e = l.1
filled_long size bytes (item, Carried.Empty) l = absurd l.1
filled_long size bytes (item, Carried.Lease lease) l = absurd l.1

-- a client and its copier: the client gives its own buffers and then those that the copier filled,
-- which are buffers that it gave before
module _ (c : NetClient) (k : NetCopier) (passed : Passed) (hands : HandsOver passed) (some : 1 ≤ c.stock.buffers) (row : client.ClientRow c passed) (copies : CopierRow k passed)
    (to : k.buffer_output.queue.0 ≡ client.rx_active c) (from : k.buffer_input.queue.0 ≡ client.rx_free c) where
  abbrev gave : List Cargo
  gave = passed.sent (client.rx_free c)

  abbrev came : List Cargo
  came = passed.taken (client.rx_active c)

  abbrev own : List Cargo
  own = map (given_entry c.stock.base c.stock.size) row.start

  abbrev bytes : List (List ℕ)
  bytes = map leased_bytes (without (leases_dropped k passed.calls) copies.leases)

  abbrev back : List Cargo
  back = passed.taken k.buffer_input.queue.0

  came_filled : IsPrefix came (all_filled bytes back)
  came_filled = prefix_trans came (passed.sent k.buffer_output.queue.0) (all_filled bytes back) (subst (λ n. IsPrefix came (passed.sent n)) (sym to) (hands (client.rx_active c))) copies.copies

  back_gave : IsPrefix back gave
  back_gave = subst (λ n. IsPrefix back (passed.sent n)) from (hands k.buffer_input.queue.0)

  own_long : length own ≡ c.stock.buffers
  own_long = length-map row.start (given_entry c.stock.base c.stock.size) ∙ row.is_start.many

  own_is : (j : ℕ) (x : Cargo) → slice_get own j ≡ Some x → IsLong c.stock.size x
  own_is j x at =
      let f = map_from (given_entry c.stock.base c.stock.size) row.start j x at in
      let page : Paged = f.0 in
      let long : c.stock.size ≤ length page.bytes = (let e = row.is_start.are_pool.sized j page f.1 in omega (arith, e)) in
      subst (IsLong c.stock.size) f.2 (refl, long)

  long_below : (n j : ℕ) → j < n → (x : Cargo) → slice_get gave j ≡ Some x → IsLong c.stock.size x
  long_below zero j lt x at = absurd (omega (arith, lt))
  long_below (suc n) j lt x at = by (cases_lt j (length own)) (long_below n)
    where
      whole : slice_get (own ++ came) j ≡ Some x
      whole = prefix_get gave (own ++ came) row.given j x at

      by : (j < length own) ⊎ (length own ≤ j) → ((i : ℕ) → i < n → (y : Cargo) → slice_get gave i ≡ Some y → IsLong c.stock.size y) → IsLong c.stock.size x
      by (inl within) below =
          let y = there_is own j within in
          let same : y.0 ≡ x = some_is (sym (get_front own came j y.0 y.1) ∙ whole) in
          subst (IsLong c.stock.size) same (own_is j y.0 y.1)
      by (inr past) below =
          let i = j - length own in
          let parts : j ≡ length own + i = omega (arith, past) in
          let behind : slice_get came i ≡ Some x = sym (get_behind own came i) ∙ (ap (slice_get (own ++ came)) (sym parts) ∙ whole) in
          let f = filled_at bytes back i x (prefix_get came (all_filled bytes back) came_filled i x behind) in
          let before : i < n = omega (arith, parts, lt, own_long, some) in
          subst (IsLong c.stock.size) f.3 (filled_long c.stock.size f.0 f.1 (below i before f.1 (prefix_get back gave back_gave i f.1 f.2)))

  pub back_long : AreLong c.stock.size back
  back_long j x at = long_below (suc j) j (omega arith) x (prefix_get back gave back_gave j x at)
