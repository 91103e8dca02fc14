use Rattle.std.proofs.Common.{◌≡◌, ◌+◌, ◌≤◌, ℕ, Bool, true, false, cond, List, [], length, map, take, refl, sym, ap, ◌∙◌, subst, arith}
use Rattle.std.proofs.lemmas.List.{length-map}
use Rattle.cargo_core.specs.Lists.{IsPrefix}
use Rattle.cargo_core.specs.declared.item.Item.{Item}
use Rattle.wire_core.specs.declared.names.Event.{Event}
use Rattle.wire_core.specs.Deeds.{Cargo}
use Rattle.wire_core.specs.Ends.{Consumer}
use Rattle.wire_core.specs.Fates.{without, marked}
use Rattle.wire_core.specs.Lists.{Passed}
use Rattle.wire_core.specs.Queues.{items_of}
use Rattle.wire_core.proofs.Fating.{without_none, without-map}
use Rattle.play_core.specs.Moved.{Moved, gone_at}
use Rattle.play_core.specs.Sheets.{Scene}
use Rattle.buffer_kit.specs.Entries.{all_filled, len_of}
use Rattle.device_model.specs.Ethernet.Devices.{DeviceRow, DeviceStandsFor, accepted, frames_dropped, rx_free, rx_active, tx_active, tx_free}
use Rattle.device_model.specs.declared.ethernet.EthDevice.{EthDevice}
use Rattle.device_model.proofs.EthernetLemmas.Dropping.{none_dropped_held as no_frame_dropped}
use Rattle.net_copier.specs.Copying.{CopierRow, leases_dropped, leased_bytes}
use Rattle.net_copier.specs.declared.NetCopier.{NetCopier}
use Rattle.net_copier.proofs.Dropping.{none_dropped_held as no_lease_dropped}
use Rattle.net_law.specs.Dropped.{frame_marks, lease_marks, TellsDevice, TellsCopier}
use Rattle.net_law.specs.Parts.Playing.{device_part, copier_part, AreLeases}
use Rattle.net_law.specs.Parts.Rows.{FillsOut, CopiesOut, accepted_by, sized_items}
use Rattle.net_law.specs.Parts.Table.{net_sheet}
use Rattle.net_law.proofs.PartsLemmas.Items.{items_begin, items_long, sized_is, lens_are, none_strays}
use Rattle.net_law.proofs.PartsLemmas.Pairs.{carry}

-- the marks tell which frames are accepted
pub accepted_is : (d : EthDevice) (calls : List Event) → accepted_by d.drops (frame_marks d calls) d.frames ≡ accepted d calls
accepted_is d calls = by d.drops
  where
    by : (b : Bool) → accepted_by b (cond b (frames_dropped d calls) []) d.frames ≡ cond b (without (frames_dropped d calls) (take (length (frames_dropped d calls)) d.frames)) d.frames
    by true = refl
    by false = refl

-- and what is left of leases
pub left_is : {X : Type 0} (c : NetCopier) (calls : List Event) (xs : List X) → without (lease_marks c calls) xs ≡ without (leases_dropped c calls) xs
left_is {X} c calls xs = by c.drops refl
  where
    by : (b : Bool) → c.drops ≡ b → without (cond b (leases_dropped c calls) []) xs ≡ without (leases_dropped c calls) xs
    by true e = refl
    by false e = sym (without_none (leases_dropped c calls) xs (no_lease_dropped c e calls))

-- a device uses up no more frames than there are
pub used_up : (d : EthDevice) (passed : Passed) → DeviceStandsFor d passed → d.drops ≡ true → length (frames_dropped d passed.calls) ≤ length d.frames
used_up d passed st on =
    let u = (st.tells on).used in
    let n = st.next in
    omega (arith, u, n)

-- a device
module _ (d : EthDevice) (passed : Passed) (m : Moved) (tells : TellsDevice d passed m) (row : DeviceRow d passed) where
  abbrev frames : List (List ℕ)
  frames = accepted_by d.drops (frame_marks d passed.calls) d.frames

  abbrev free : List Cargo
  free = passed.taken (rx_free d)

  abbrev gone : ℕ
  gone = gone_at d.drops m Consumer (rx_free d)

  frames_are : accepted d passed.calls ≡ frames
  frames_are = sym (accepted_is d passed.calls)

  many_by : (b : Bool) → d.drops ≡ b → marked (cond b (frames_dropped d passed.calls) []) ≡ cond b (m.noes Consumer (rx_free d)) 0
  many_by true e = sym (row.each e) ∙ tells.noes
  many_by false e = refl

  all_many : (b : Bool) → d.drops ≡ b → marked (frames_dropped d passed.calls) ≡ marked (cond b (frames_dropped d passed.calls) [])
  all_many true e = refl
  all_many false e = no_frame_dropped d e passed.calls

  many : marked (frames_dropped d passed.calls) ≡ gone
  many = all_many d.drops refl ∙ many_by d.drops refl

  settled_by : (b : Bool) → d.drops ≡ b → length (cond b (frames_dropped d passed.calls) []) ≤ length d.frames
  settled_by true e = tells.settled e
  settled_by false e = omega arith

  device_said : FillsOut (frame_marks d passed.calls) d.drops gone d.frames (items_of free) (items_of (passed.sent (rx_active d))) (items_of (passed.taken (tx_active d))) (items_of (passed.sent (tx_free d)))
  device_said = record {
    filled = subst (IsPrefix (items_of (passed.sent (rx_active d)))) (sized_is frames free) (items_begin (passed.sent (rx_active d)) (all_filled frames free) (subst (λ fs. IsPrefix (passed.sent (rx_active d)) (all_filled fs free)) frames_are row.filled));
    takes = let t = row.takes in let e = ap length frames_are in let i = items_long free in omega (arith, t, e, i);
    used = let u = row.used in let i = items_long free in omega (arith, u, i, many);
    settled = settled_by d.drops refl;
    as_many = many_by d.drops refl;
    returns = items_begin (passed.sent (tx_free d)) (passed.taken (tx_active d)) row.returns;
  }

  pub told_device : FillsOut (frame_marks d passed.calls) d.drops gone d.frames (m.taken (rx_free d)) (m.sent (rx_active d)) (m.taken (tx_active d)) (m.sent (tx_free d))
  told_device = carry (λ x y z w. FillsOut (frame_marks d passed.calls) d.drops gone d.frames x y z w) (items_of free) (items_of (passed.sent (rx_active d))) (items_of (passed.taken (tx_active d))) (items_of (passed.sent (tx_free d))) (m.taken (rx_free d)) (m.sent (rx_active d)) (m.taken (tx_active d)) (m.sent (tx_free d)) (sym (tells.items 0 _ refl)) (sym (tells.items 1 _ refl)) (sym (tells.items 2 _ refl)) (sym (tells.items 3 _ refl)) device_said

pub device_row : (scene : Scene) (d : EthDevice) (passed : Passed) (m : Moved) → TellsDevice d passed m → DeviceRow d passed → (net_sheet scene (device_part d)).row m
device_row scene d passed m tells row = record { marks = frame_marks d passed.calls; out = told_device d passed m tells row }

-- the lengths of what wasn't dropped
lens_left : (bs : List Bool) (cs : List Cargo) → AreLeases cs → map (λ (f : List ℕ). length f) (map leased_bytes (without bs cs)) ≡ map len_of (without bs (items_of cs))
lens_left bs cs leases =
    ap (map (λ (f : List ℕ). length f)) (without-map leased_bytes bs cs)
    ∙ (without-map (λ (f : List ℕ). length f) bs (map leased_bytes cs)
    ∙ (ap (without bs) (lens_are cs leases) ∙ sym (without-map len_of bs (items_of cs))))

-- a copier
module _ (c : NetCopier) (passed : Passed) (m : Moved) (tells : TellsCopier c passed m) (leases : AreLeases (passed.taken c.lease_input.queue.0)) (row : CopierRow c passed) where
  abbrev taken : List Cargo
  taken = passed.taken c.lease_input.queue.0

  abbrev buffers : List Cargo
  buffers = passed.taken c.buffer_input.queue.0

  abbrev gave : List Cargo
  gave = passed.sent c.buffer_output.queue.0

  abbrev back : List Cargo
  back = passed.sent c.lease_output.queue.0

  abbrev marks : List Bool
  marks = lease_marks c passed.calls

  abbrev lost : ℕ
  lost = gone_at c.drops m Consumer c.buffer_input.queue.0

  same : row.leases ≡ taken
  same = sym (none_strays taken row.leases row.stray row.taken row.out_of_turn leases)

  lost_by : (b : Bool) → c.drops ≡ b → marked (cond b (leases_dropped c passed.calls) []) ≡ cond b (m.noes Consumer c.buffer_input.queue.0) 0
  lost_by true e = sym (row.each e) ∙ tells.noes
  lost_by false e = refl

  all_lost : (b : Bool) → c.drops ≡ b → marked (leases_dropped c passed.calls) ≡ marked (cond b (leases_dropped c passed.calls) [])
  all_lost true e = refl
  all_lost false e = no_lease_dropped c e passed.calls

  many_lost : marked (leases_dropped c passed.calls) ≡ lost
  many_lost = all_lost c.drops refl ∙ lost_by c.drops refl

  few_settled : (b : Bool) → c.drops ≡ b → length (cond b (leases_dropped c passed.calls) []) ≤ length (items_of taken)
  few_settled true e = let s = row.settled e in let n = ap length same in let i = items_long taken in omega (arith, s, n, i)
  few_settled false e = omega arith

  copied : IsPrefix (items_of gave) (sized_items (map len_of (without marks (items_of taken))) (items_of buffers))
  copied =
      let filled : IsPrefix gave (all_filled (map leased_bytes (without marks taken)) buffers) = subst (λ l. IsPrefix gave (all_filled (map leased_bytes l) buffers)) (ap (without (leases_dropped c passed.calls)) same ∙ sym (left_is c passed.calls taken)) row.copies in
      let sized = sized_is (map leased_bytes (without marks taken)) buffers ∙ ap (λ ns. sized_items ns (items_of buffers)) (lens_left marks taken leases) in
      subst (IsPrefix (items_of gave)) sized (items_begin gave (all_filled (map leased_bytes (without marks taken)) buffers) filled)

  copier_said : CopiesOut marks lost (items_of taken) (items_of buffers) (items_of gave) (items_of back)
  copier_said = record {
    copies = copied;
    takes_for = let t = row.takes_for in let n = ap length same in let i = items_long buffers in let k = items_long taken in omega (arith, t, n, i, k, many_lost);
    gives_back = items_begin back taken (subst (IsPrefix back) same row.gives_back);
    after_copy = let t = row.after_copy in let i = items_long back in let k = items_long gave in omega (arith, t, i, k, many_lost);
    settled = few_settled c.drops refl;
    as_many = lost_by c.drops refl;
  }

  pub told_copier : CopiesOut marks lost (m.taken c.lease_input.queue.0) (m.taken c.buffer_input.queue.0) (m.sent c.buffer_output.queue.0) (m.sent c.lease_output.queue.0)
  told_copier = carry (λ x y z w. CopiesOut marks lost x y z w) (items_of taken) (items_of buffers) (items_of gave) (items_of back) (m.taken c.lease_input.queue.0) (m.taken c.buffer_input.queue.0) (m.sent c.buffer_output.queue.0) (m.sent c.lease_output.queue.0) (sym (tells.items 0 _ refl)) (sym (tells.items 1 _ refl)) (sym (tells.items 2 _ refl)) (sym (tells.items 3 _ refl)) copier_said

pub copier_row : (scene : Scene) (c : NetCopier) (passed : Passed) (m : Moved) → TellsCopier c passed m → AreLeases (passed.taken c.lease_input.queue.0) → CopierRow c passed → (net_sheet scene (copier_part c)).row m
copier_row scene c passed m tells leases row = record { marks = lease_marks c passed.calls; out = told_copier c passed m tells leases row }
