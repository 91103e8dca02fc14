use Rattle.std.proofs.Common.{◌≡◌, ◌==◌, ◌&&◌, ◌+◌, ◌*◌, ◌<◌, ℕ, suc, Some, List, [], ◌∷◌, flat_map, slice_get, refl, sym, ap, ◌∙◌, subst, inl}
use Rattle.cargo_core.specs.Items.{kind_of}
use Rattle.cargo_core.specs.declared.item.QueueKind.TheVariants as Kind
use Rattle.cargo_core.specs.declared.item.Item.{Item}
use Rattle.cargo_core.specs.declared.item.Item.TheVariants as ItemOf
use Rattle.cargo_core.specs.declared.item.Body.{Body}
use Rattle.cargo_core.specs.declared.item.Body.TheVariants as Carried
use Rattle.frame_core.specs.declared.mac.Mac.{Mac}
use Rattle.wire_core.specs.Bells.{bit}
use Rattle.wire_core.specs.Deeds.{Cargo}
use Rattle.wire_core.specs.Lists.{Passed}
use Rattle.play_core.specs.Moved.{Moved, Seat}
use Rattle.play_core.specs.Sheets.{Scene}
use Rattle.play_core.specs.Wants.{intake, outlet}
use Rattle.play_core.proofs.Lists.{map_get, map_from, there_below}
use Rattle.std.proofs.lemmas.Option.{get_or_from_slice_get}
use Rattle.owner_law.specs.Things.{Window, Naming, buffer_of, buffer_at, is_named}
use Rattle.owner_law.specs.Pages.{as_page}
use Rattle.owner_law.proofs.Carrying.{get_first}
use Rattle.buffer_kit.specs.Entries.{addr_of}
use Rattle.buffer_kit.specs.Virtualising.{from_queues, to_queues}
use Rattle.buffer_kit.specs.declared.stock.Stock.{Stock}
use Rattle.net_virt_rx.specs.Sharing.{IsBuffer, lease_of, leases_for}
use Rattle.net_virt_rx.specs.Receiving.{RxRow}
use Rattle.net_virt_rx.specs.declared.NetVirtRx.{NetVirtRx}
use Rattle.owner_law.specs.Pools.Places.{by_address}
use Rattle.net_law.specs.Owners.Ends.{stock_window}
use Rattle.net_law.proofs.OwnersLemmas.Clients.{at_address}
use Rattle.net_law.specs.RxOwners.Virtualiser.{AreNet}
use Rattle.net_law.specs.Parts.Naming.{NamesPart}
use Rattle.net_law.specs.Parts.Parts.{Lessee}
use Rattle.net_law.specs.Parts.Playing.{receiver_part, stock_pool, lessees_of}
use Rattle.net_law.specs.Parts.Rows.{borrower_of}
use Rattle.net_law.specs.Parts.Table.{net_sheet, lessee_ends}
use Rattle.net_law.proofs.PartsLemmas.Leasing.{served_at}
use Rattle.owner_law.specs.Pools.Handing.{AllCarry, PutsPages, HandsOn}
use Rattle.net_quiet.proofs.PoolsLemmas.Carrying.{HasPage, HasNone, page_carries, none_carries, puts_none, puts_in, puts_out}

-- a page that is the buffer of a number is named by the address at which that begins
pub page_named : (w : Window) (item : Item) (page : Rattle.cargo_core.specs.Pages.Paged) → 0 < w.size → kind_of item ≡ Kind.Net → page.pool.0 ≡ w.pool → page.no < w.buffers → addr_of item ≡ w.base + page.no * w.size → HasPage (w ∷ []) (item, Carried.Page page)
page_named w (ItemOf.Net d) page some net pool lt address b =
    let name : buffer_of (w ∷ []) (ItemOf.Net d) ≡ Some (record { pool = w.pool; no = page.no }) = ap (buffer_at (w ∷ [])) address ∙ at_address w page.no some lt in
    ap (λ p. bit ((p == b.pool) && (page.no == b.no))) pool ∙ sym (ap (is_named b) name)
page_named w (ItemOf.Byte x) page some net pool lt address b = cc
page_named w (ItemOf.Req r) page some net pool lt address b = cc
page_named w (ItemOf.Resp r) page some net pool lt address b = cc

-- a buffer of a stock
buffer_page : (s : Stock) → 0 < s.size → (item : Item) (body : Body) → kind_of item ≡ Kind.Net → IsBuffer s (item, body) → HasPage (stock_window s ∷ []) (item, body)
buffer_page s some item (Carried.Page page) net is = page_named (stock_window s) item page some net (ap (λ (p : Rattle.cargo_core.specs.declared.item.PoolId.PoolId). p.0) is.0) is.1 is.2
buffer_page s some item Carried.Empty net is = absurd is
buffer_page s some item (Carried.Lease lease) net is = absurd is

-- a lease has no page
lease_none : (size : ℕ) (mac : Mac) (cs : List Cargo) (k : ℕ) (c : Cargo) → slice_get (leases_for size mac cs) k ≡ Some c → HasNone c
lease_none size mac cs k c at b =
    let x = map_from (lease_of size) (Rattle.std.specs.List.filter (λ d. Rattle.class_expect.specs.NetExpect.Expecting.is_for_client mac (Rattle.buffer_kit.specs.Entries.frame_of d)) cs) k c at in
    ap (λ (d : Cargo). as_page b d.1) (sym x.2)

module _ (naming : Naming) (scene : Scene) (passed : Passed) (m : Moved) (v : NetVirtRx) (names : NamesPart naming scene (receiver_part v)) (net : AreNet (passed.sent v.ends.output.queue.0)) (row : RxRow v passed) where
  abbrev s : Stock
  s = v.work.stock

  abbrev gave : List Cargo
  gave = passed.sent v.ends.output.queue.0

  window_is : stock_window s ≡ by_address (stock_pool s)
  window_is = refl

  own_carry : AllCarry naming m v.ends.output.queue.0 gave
  own_carry k c at =
      let is : IsBuffer s c = subst (IsBuffer s) (get_or_from_slice_get gave k c c at) (row.given_within k c (there_below gave k c at)) in
      let page : HasPage (stock_window s ∷ []) c = buffer_page s row.is_start.are_pool.some c.0 c.1 (net k c at) is in
      page_carries naming m (by_address (stock_pool s) ∷ []) v.ends.output.queue.0 (inl names.free) k c (subst (λ (w : Window). HasPage (w ∷ []) c) window_is page)

  lessees_on : (cs : List Lessee) → ((k : ℕ) (c : Lessee) → slice_get cs k ≡ Some c → AllCarry naming m c.active (passed.sent c.active)) → PutsPages naming m passed (flat_map lessee_ends cs)
  lessees_on [] each = puts_none naming m passed
  lessees_on (c ∷ cs) each =
      let rest : List Seat = flat_map lessee_ends cs in
      puts_out naming m passed c.active (intake c.free ∷ rest) (each 0 c refl) (puts_in naming m passed c.free rest (lessees_on cs (λ k d at. each (suc k) d at)))

  leases_carry : (k : ℕ) (c : Lessee) → slice_get (lessees_of v) k ≡ Some c → AllCarry naming m c.active (passed.sent c.active)
  leases_carry k c at j x x_at =
      let y = served_at v.work.macs.items (to_queues v.ends) (from_queues v.ends) k c at in
      let served = row.serves k c.mac y.0 y.1 y.2 y.3 y.4 in
      let whole = leases_for s.size c.mac (row.turn v.ends.input.queue.0) in
      let there : slice_get whole j ≡ Some x = ap (λ cs. slice_get cs j) (sym served.lends.1) ∙ get_first (passed.sent y.0.0) served.lends.0 j x (ap (λ n. slice_get (passed.sent n) j) y.5 ∙ x_at) in
      let named = names.leases k (borrower_of scene.frames c) (map_get (borrower_of scene.frames) (lessees_of v) k c at) in
      none_carries naming m c.active (_, inl named) j x (lease_none s.size c.mac (row.turn v.ends.input.queue.0) j x there)

  pub receiver_on : HandsOn naming m passed (net_sheet scene (receiver_part v)).ends
  receiver_on takes =
      let rest : List Seat = flat_map lessee_ends (lessees_of v) in
      puts_in naming m passed v.ends.input.queue.0 (outlet v.ends.output.queue.0 ∷ rest) (puts_out naming m passed v.ends.output.queue.0 rest own_carry (lessees_on (lessees_of v) leases_carry))
