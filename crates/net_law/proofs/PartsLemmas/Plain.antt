use Rattle.std.proofs.Common.{◌≡◌, ◌≢◌, ◌+◌, ◌++◌, ◌<◌, ◌≤◌, ℕ, zero, suc, Bool, true, cond, nat_lt, Some, List, length, map, slice_get, length-append, refl, sym, ap, ◌∙◌, subst, arith}
use Rattle.std.proofs.lemmas.Bool.{ltb-true, lt-ltb}
use Rattle.std.proofs.lemmas.List.{length-map}
use Rattle.cargo_core.specs.Lists.{IsPrefix}
use Rattle.cargo_core.specs.declared.item.Item.{Item}
use Rattle.frame_core.specs.declared.mac.Mac.{Mac}
use Rattle.class_expect.specs.NetExpect.Expecting.{Program}
use Rattle.wire_core.specs.Ends.{Consumer}
use Rattle.wire_core.specs.Fates.{without}
use Rattle.wire_core.proofs.Fating.{without_length}
use Rattle.play_core.specs.Moved.{Moved, AreAlike, LookAlike, gone_at, with_put}
use Rattle.play_core.specs.Wants.{intake, outlet, intake_want, outlet_want}
use Rattle.play_core.specs.Sheets.{Scene, Sheet, Due, CouldPut, IsOwn, NeedsFollow, AreApart, due_want}
use Rattle.play_core.proofs.Lists.{some_is, map_from}
use Rattle.play_core.proofs.Puts.{put_beside, copy_more, copy_shorter}
use Rattle.play_core.proofs.Walks.{begins_few}
use Rattle.buffer_kit.specs.Entries.{len_of}
use Rattle.owner_law.specs.Pools.Places.{PoolAt, by_offset, numbers_from}
use Rattle.net_law.specs.Parts.Parts.{NetDevice, NetDriver, NetCopier, NetClient, Way}
use Rattle.net_law.specs.Parts.Rows.{FillsOut, FillsSome, CopiesOut, CopiesSome, accepted_by, ServesClient, SendsItems, sent_lens, sized_items, given_item, given_items}
use Rattle.net_law.specs.Parts.Table.{net_sheet, is_short, way_wants, way_due, client_items}
use Rattle.net_law.proofs.PartsLemmas.Fits.{Fits, AllFit, intake_fits, outlet_fits, pairs_fit, sheet_follows}
use Rattle.net_law.proofs.PartsLemmas.Pairs.{twice, twice_same, pair_first, pair_second, pair_seats, flat_alike, each_owed, carry, put_length, sized_length}

-- what a device has filled is as long as the buffers
pub frames_long : (marks : List Bool) (drops : Bool) (gone : ℕ) (frames : List (List ℕ)) (buffers gave came back : List Item) → FillsOut marks drops gone frames buffers gave came back → length (sized_items (map (λ frame. length frame) (accepted_by drops marks frames)) buffers) ≡ length buffers
frames_long marks drops gone frames buffers gave came back row =
    let many : length (map (λ (frame : List ℕ). length frame) (accepted_by drops marks frames)) ≡ length (accepted_by drops marks frames) = length-map (accepted_by drops marks frames) (λ frame. length frame) in
    let t = row.takes in
    sized_length (map (λ frame. length frame) (accepted_by drops marks frames)) buffers (omega (arith, many, t))

-- what it put and dropped is no more than there are frames
pub fill_hops : (marks : List Bool) (drops : Bool) (gone : ℕ) (frames : List (List ℕ)) (buffers gave came back : List Item) → FillsOut marks drops gone frames buffers gave came back → length gave + gone ≤ length frames
fill_hops marks drops gone frames buffers gave came back row =
    let few = begins_few gave (sized_items (map (λ frame. length frame) (accepted_by drops marks frames)) buffers) row.filled in
    let long = frames_long marks drops gone frames buffers gave came back row in
    let t = row.used in
    omega (arith, few, long, t)

-- a device
module _ (scene : Scene) (rx_free rx_active tx_active tx_free : ℕ) (frames : List (List ℕ)) (drops : Bool) where
  abbrev Device : Sheet
  Device = net_sheet scene (NetDevice rx_free rx_active tx_active tx_free frames drops)

  device_same : (a b : Moved) → AreAlike Device.ends a b → LookAlike Device.ends a b → Device.row a → Device.row b
  device_same a b alike look row =
      let gone : gone_at drops a Consumer rx_free ≡ gone_at drops b Consumer rx_free = ap (λ n. cond drops n 0) (look 0 (intake rx_free) refl) in
      subst (λ g. FillsSome drops g frames (b.taken rx_free) (b.sent rx_active) (b.taken tx_active) (b.sent tx_free)) gone
      (carry (λ x y z w. FillsSome drops (gone_at drops a Consumer rx_free) frames x y z w) (a.taken rx_free) (a.sent rx_active) (a.taken tx_active) (a.sent tx_free) (b.taken rx_free) (b.sent rx_active) (b.taken tx_active) (b.sent tx_free) (alike 0 (intake rx_free) refl) (alike 1 (outlet rx_active) refl) (alike 2 (intake tx_active) refl) (alike 3 (outlet tx_free) refl) row)

  pub device_own : IsOwn Device
  device_own = record {
    row = device_same;
    wants = λ a b alike look.
        let e0 : a.taken rx_free ≡ b.taken rx_free = alike 0 (intake rx_free) refl in
        let e1 : a.sent rx_active ≡ b.sent rx_active = alike 1 (outlet rx_active) refl in
        let e2 : a.taken tx_active ≡ b.taken tx_active = alike 2 (intake tx_active) refl in
        let e3 : a.sent tx_free ≡ b.sent tx_free = alike 3 (outlet tx_free) refl in
        let eg : gone_at drops a Consumer rx_free ≡ gone_at drops b Consumer rx_free = ap (λ n. cond drops n 0) (look 0 (intake rx_free) refl) in
        rw (e0, e1, e2, e3, eg) refl;
    ends = λ m. refl;
  }

  module _ (m : Moved) (apart : AreApart Device.ends) (row : Device.row m) where
    abbrev sized : List Item
    sized = sized_items (map (λ frame. length frame) (accepted_by drops row.marks frames)) (m.taken rx_free)

    sized_long : length sized ≡ length (m.taken rx_free)
    sized_long = frames_long row.marks drops (gone_at drops m Consumer rx_free) frames (m.taken rx_free) (m.sent rx_active) (m.taken tx_active) (m.sent tx_free) row.out

    away : rx_active ≢ tx_free
    away same = let e : 1 ≡ 3 = apart 1 3 (outlet rx_active) refl (ap (λ n. Some (outlet n)) (sym same)) in omega (arith, e)

    fills : is_short (m.sent rx_active) (m.taken rx_free) ≡ true → CouldPut Device m rx_active
    fills lt =
        let more = copy_more m rx_active sized row.out.filled (subst (λ n. nat_lt (length (m.sent rx_active)) n ≡ true) (sym sized_long) lt) in (
          more.0,
          record {
            marks = row.marks;
            out = record {
              filled = more.1;
              takes = row.out.takes;
              used = row.out.used;
              settled = row.out.settled;
              as_many = row.out.as_many;
              returns = subst (λ l. IsPrefix l (m.taken tx_active)) (sym (put_beside m rx_active more.0 tx_free away)) row.out.returns;
            };
          },
        )

    fills_only : CouldPut Device m rx_active → is_short (m.sent rx_active) (m.taken rx_free) ≡ true
    fills_only put =
        let then = frames_long put.1.marks drops (gone_at drops m Consumer rx_free) frames (m.taken rx_free) ((with_put m rx_active put.0).sent rx_active) (m.taken tx_active) ((with_put m rx_active put.0).sent tx_free) put.1.out in
        subst (λ n. nat_lt (length (m.sent rx_active)) n ≡ true) then (copy_shorter m rx_active (sized_items (map (λ frame. length frame) (accepted_by drops put.1.marks frames)) (m.taken rx_free)) put.0 put.1.out.filled)

    gives : is_short (m.sent tx_free) (m.taken tx_active) ≡ true → CouldPut Device m tx_free
    gives lt =
        let more = copy_more m tx_free (m.taken tx_active) row.out.returns lt in (
          more.0,
          record {
            marks = row.marks;
            out = record {
              filled = subst (λ l. IsPrefix l sized) (sym (put_beside m tx_free more.0 rx_active (λ e. away (sym e)))) row.out.filled;
              takes = row.out.takes;
              used = row.out.used;
              settled = row.out.settled;
              as_many = row.out.as_many;
              returns = more.1;
            };
          },
        )

    gives_only : CouldPut Device m tx_free → is_short (m.sent tx_free) (m.taken tx_active) ≡ true
    gives_only put = copy_shorter m tx_free (m.taken tx_active) put.0 put.1.out.returns

    device_fits : AllFit Device m (Device.wants m)
    device_fits = (intake_fits Device m rx_free _, (outlet_fits Device m rx_active _ fills fills_only, (intake_fits Device m tx_active _, (outlet_fits Device m tx_free _ gives gives_only, tt))))

  device_due : (m : Moved) (i : ℕ) (d : Due) → slice_get (Device.dues m) i ≡ Some d → (k : ℕ) × (slice_get (Device.wants m) k ≡ Some (due_want m d))
  device_due m zero d at = (1, ap (λ (x : Due). Some (due_want m x)) (some_is at))
  device_due m (suc zero) d at = (3, ap (λ (x : Due). Some (due_want m x)) (some_is at))
  device_due m (suc (suc i)) d at = cc

  pub device_follows : NeedsFollow Device
  device_follows = sheet_follows Device (λ m apart row. device_fits m apart row) device_due

-- a driver
module _ (scene : Scene) (ways : List Way) where
  abbrev Driver : Sheet
  Driver = net_sheet scene (NetDriver ways)

  module _ (a b : Moved) (alike : AreAlike Driver.ends a b) (k : ℕ) (w : Way) (at : slice_get ways k ≡ Some w) where
    came : a.taken w.input ≡ b.taken w.input
    came = alike (twice k) (intake w.input) (pair_first (λ (v : Way). intake v.input) (λ v. outlet v.output) ways k w at)

    gone : a.sent w.output ≡ b.sent w.output
    gone = alike (suc (twice k)) (outlet w.output) (pair_second (λ (v : Way). intake v.input) (λ v. outlet v.output) ways k w at)

    way_same : way_wants a w ≡ way_wants b w
    way_same = let e = came in let f = gone in rw (e, f) refl

    way_row : IsPrefix (a.sent w.output) (a.taken w.input) → IsPrefix (b.sent w.output) (b.taken w.input)
    way_row h = subst (λ l. IsPrefix l (b.taken w.input)) gone (subst (IsPrefix (a.sent w.output)) came h)

  pub driver_own : IsOwn Driver
  driver_own = record {
    row = λ a b alike look h k w at. way_row a b alike k w at (h k w at);
    wants = λ a b alike look. flat_alike (way_wants a) (way_wants b) ways (way_same a b alike);
    ends = λ m. pair_seats (λ (w : Way). intake_want w.input (Rattle.std.specs.Prelude.not (is_short (m.sent w.output) (m.taken w.input)))) (λ w. outlet_want w.output (is_short (m.sent w.output) (m.taken w.input))) ways;
  }

  module _ (m : Moved) (apart : AreApart Driver.ends) (row : Driver.row m) where
    ways_apart : (j k : ℕ) (x y : Way) → slice_get ways j ≡ Some x → slice_get ways k ≡ Some y → x.output ≡ y.output → j ≡ k
    ways_apart j k x y at is same =
        let one = pair_second (λ (v : Way). intake v.input) (λ v. outlet v.output) ways j x at in
        let two = pair_second (λ (v : Way). intake v.input) (λ v. outlet v.output) ways k y is in
        let e : suc (twice j) ≡ suc (twice k) = apart (suc (twice j)) (suc (twice k)) (outlet x.output) one (two ∙ ap (λ n. Some (outlet n)) (sym same)) in
        twice_same j k (omega (arith, e))

    way_fits : (k : ℕ) (w : Way) → slice_get ways k ≡ Some w → Fits Driver m (intake_want w.input (Rattle.std.specs.Prelude.not (is_short (m.sent w.output) (m.taken w.input)))) × Fits Driver m (outlet_want w.output (is_short (m.sent w.output) (m.taken w.input)))
    way_fits k w at = (
      intake_fits Driver m w.input _,
      outlet_fits Driver m w.output _
          (λ lt. each_owed ways (λ (v : Way). v.output) (λ v. m.taken v.input) m row ways_apart k w at lt)
          (λ put. copy_shorter m w.output (m.taken w.input) put.0 (put.1 k w at)),
    )

    driver_fits : AllFit Driver m (Driver.wants m)
    driver_fits = pairs_fit Driver m _ _ ways way_fits

  driver_due : (m : Moved) (i : ℕ) (d : Due) → slice_get (Driver.dues m) i ≡ Some d → (k : ℕ) × (slice_get (Driver.wants m) k ≡ Some (due_want m d))
  driver_due m i d at =
      let f = map_from (way_due m) ways i d at in
      (suc (twice i), pair_second (λ (w : Way). intake_want w.input (Rattle.std.specs.Prelude.not (is_short (m.sent w.output) (m.taken w.input)))) (λ w. outlet_want w.output (is_short (m.sent w.output) (m.taken w.input))) ways i f.0 f.1 ∙ ap (λ (x : Due). Some (due_want m x)) f.2)

  pub driver_follows : NeedsFollow Driver
  driver_follows = sheet_follows Driver (λ m apart row. driver_fits m apart row) driver_due

-- what a copier has filled is as long as the buffers
pub filled_long : (marks : List Bool) (gone : ℕ) (leases buffers gave back : List Item) → CopiesOut marks gone leases buffers gave back → length (sized_items (map len_of (without marks leases)) buffers) ≡ length buffers
filled_long marks gone leases buffers gave back row =
    let left = without_length marks leases row.settled in
    let many = length-map (without marks leases) len_of in
    let t = row.takes_for in
    let g = row.as_many in
    sized_length (map len_of (without marks leases)) buffers (omega (arith, left, many, t, g))

-- what it put and dropped is no more than came
pub few_hops : (marks : List Bool) (gone : ℕ) (leases buffers gave back : List Item) → CopiesOut marks gone leases buffers gave back → length gave + gone ≤ length leases
few_hops marks gone leases buffers gave back row =
    let few = begins_few gave (sized_items (map len_of (without marks leases)) buffers) row.copies in
    let long = filled_long marks gone leases buffers gave back row in
    let t = row.takes_for in
    omega (arith, few, long, t)

-- a copier
module _ (scene : Scene) (lease_active lease_free rx_active rx_free : ℕ) (drops : Bool) where
  abbrev Copier : Sheet
  Copier = net_sheet scene (NetCopier lease_active lease_free rx_active rx_free drops)

  copier_same : (a b : Moved) → AreAlike Copier.ends a b → LookAlike Copier.ends a b → Copier.row a → Copier.row b
  copier_same a b alike look row =
      let gone : gone_at drops a Consumer rx_free ≡ gone_at drops b Consumer rx_free = ap (λ n. cond drops n 0) (look 1 (intake rx_free) refl) in
      subst (λ g. CopiesSome g (b.taken lease_active) (b.taken rx_free) (b.sent rx_active) (b.sent lease_free)) gone
      (carry (λ x y z w. CopiesSome (gone_at drops a Consumer rx_free) x y z w) (a.taken lease_active) (a.taken rx_free) (a.sent rx_active) (a.sent lease_free) (b.taken lease_active) (b.taken rx_free) (b.sent rx_active) (b.sent lease_free) (alike 0 (intake lease_active) refl) (alike 1 (intake rx_free) refl) (alike 2 (outlet rx_active) refl) (alike 3 (outlet lease_free) refl) row)

  pub copier_own : IsOwn Copier
  copier_own = record {
    row = copier_same;
    wants = λ a b alike look.
        let e0 : a.taken lease_active ≡ b.taken lease_active = alike 0 (intake lease_active) refl in
        let e1 : a.taken rx_free ≡ b.taken rx_free = alike 1 (intake rx_free) refl in
        let e2 : a.sent rx_active ≡ b.sent rx_active = alike 2 (outlet rx_active) refl in
        let e3 : a.sent lease_free ≡ b.sent lease_free = alike 3 (outlet lease_free) refl in
        let eg : gone_at drops a Consumer rx_free ≡ gone_at drops b Consumer rx_free = ap (λ n. cond drops n 0) (look 1 (intake rx_free) refl) in
        rw (e0, e1, e2, e3, eg) refl;
    ends = λ m. refl;
  }

  module _ (m : Moved) (apart : AreApart Copier.ends) (row : Copier.row m) where
    abbrev lost : ℕ
    lost = gone_at drops m Consumer rx_free

    abbrev filled : List Item
    filled = sized_items (map len_of (without row.marks (m.taken lease_active))) (m.taken rx_free)

    long : length filled ≡ length (m.taken rx_free)
    long = filled_long row.marks lost (m.taken lease_active) (m.taken rx_free) (m.sent rx_active) (m.sent lease_free) row.out

    two_outputs : rx_active ≢ lease_free
    two_outputs same = let e : 2 ≡ 3 = apart 2 3 (outlet rx_active) refl (ap (λ n. Some (outlet n)) (sym same)) in omega (arith, e)

    copies : is_short (m.sent rx_active) (m.taken rx_free) ≡ true → CouldPut Copier m rx_active
    copies lt =
        let more = copy_more m rx_active filled row.out.copies (subst (λ n. nat_lt (length (m.sent rx_active)) n ≡ true) (sym long) lt) in
        let beside = put_beside m rx_active more.0 lease_free two_outputs in
        let n = put_length m rx_active more.0 in
        let same = ap length beside in
        let t = row.out.after_copy in (
          more.0,
          record {
            marks = row.marks;
            out = record {
              settled = row.out.settled;
              as_many = row.out.as_many;
              copies = more.1;
              takes_for = row.out.takes_for;
              gives_back = subst (λ l. IsPrefix l (m.taken lease_active)) (sym beside) row.out.gives_back;
              after_copy = omega (arith, n, same, t);
            };
          },
        )

    copies_only : CouldPut Copier m rx_active → is_short (m.sent rx_active) (m.taken rx_free) ≡ true
    copies_only put =
        let then = filled_long put.1.marks lost (m.taken lease_active) (m.taken rx_free) ((with_put m rx_active put.0).sent rx_active) ((with_put m rx_active put.0).sent lease_free) put.1.out in
        subst (λ n. nat_lt (length (m.sent rx_active)) n ≡ true) then (copy_shorter m rx_active (sized_items (map len_of (without put.1.marks (m.taken lease_active))) (m.taken rx_free)) put.0 put.1.out.copies)

    returns : nat_lt (length (m.sent lease_free)) (length (m.sent rx_active) + lost) ≡ true → CouldPut Copier m lease_free
    returns lt =
        let less : length (m.sent lease_free) < length (m.sent rx_active) + lost = ltb-true (length (m.sent lease_free)) (length (m.sent rx_active) + lost) lt in
        let few = few_hops row.marks lost (m.taken lease_active) (m.taken rx_free) (m.sent rx_active) (m.sent lease_free) row.out in
        let more = copy_more m lease_free (m.taken lease_active) row.out.gives_back (lt-ltb (length (m.sent lease_free)) (length (m.taken lease_active)) (omega (arith, less, few))) in
        let beside = put_beside m lease_free more.0 rx_active (λ e. two_outputs (sym e)) in
        let n = put_length m lease_free more.0 in
        let same = ap length beside in (
          more.0,
          record {
            marks = row.marks;
            out = record {
              settled = row.out.settled;
              as_many = row.out.as_many;
              copies = subst (λ l. IsPrefix l filled) (sym beside) row.out.copies;
              takes_for = row.out.takes_for;
              gives_back = more.1;
              after_copy = omega (arith, n, same, less);
            };
          },
        )

    returns_only : CouldPut Copier m lease_free → nat_lt (length (m.sent lease_free)) (length (m.sent rx_active) + lost) ≡ true
    returns_only put =
        let beside = ap length (put_beside m lease_free put.0 rx_active (λ e. two_outputs (sym e))) in
        let n = put_length m lease_free put.0 in
        let t = put.1.out.after_copy in
        lt-ltb (length (m.sent lease_free)) (length (m.sent rx_active) + lost) (omega (arith, n, beside, t))

    copier_fits : AllFit Copier m (Copier.wants m)
    copier_fits = (intake_fits Copier m lease_active _, (intake_fits Copier m rx_free _, (outlet_fits Copier m rx_active _ copies copies_only, (outlet_fits Copier m lease_free _ returns returns_only, tt))))

  copier_due : (m : Moved) (i : ℕ) (d : Due) → slice_get (Copier.dues m) i ≡ Some d → (k : ℕ) × (slice_get (Copier.wants m) k ≡ Some (due_want m d))
  copier_due m zero d at = (2, ap (λ (x : Due). Some (due_want m x)) (some_is at))
  copier_due m (suc zero) d at = (3, ap (λ (x : Due). Some (due_want m x)) (some_is at))
  copier_due m (suc (suc i)) d at = cc

  pub copier_follows : NeedsFollow Copier
  copier_follows = sheet_follows Copier (λ m apart row. copier_fits m apart row) copier_due

pub numbers_length : (first count : ℕ) → length (numbers_from first count) ≡ count
numbers_length first zero = refl
numbers_length first (suc count) = let rest = numbers_length (first + 1) count in omega (arith, rest)

-- a client
module _ (scene : Scene) (program : Program) (mac : Mac) (rx_active rx_free tx_active tx_free : ℕ) (rx tx : PoolAt) where
  abbrev Client : Sheet
  Client = net_sheet scene (NetClient program mac rx_active rx_free tx_active tx_free rx tx)

  pub client_own : IsOwn Client
  client_own = record {
    row = λ a b alike look h. carry (λ x y z w. ServesClient program mac (by_offset rx) (by_offset tx) x y z w) (a.taken rx_active) (a.sent rx_free) (a.taken tx_free) (a.sent tx_active) (b.taken rx_active) (b.sent rx_free) (b.taken tx_free) (b.sent tx_active) (alike 0 (intake rx_active) refl) (alike 1 (outlet rx_free) refl) (alike 2 (intake tx_free) refl) (alike 3 (outlet tx_active) refl) h;
    wants = λ a b alike look.
        let e0 : a.taken rx_active ≡ b.taken rx_active = alike 0 (intake rx_active) refl in
        let e1 : a.sent rx_free ≡ b.sent rx_free = alike 1 (outlet rx_free) refl in
        let e2 : a.taken tx_free ≡ b.taken tx_free = alike 2 (intake tx_free) refl in
        let e3 : a.sent tx_active ≡ b.sent tx_active = alike 3 (outlet tx_active) refl in
        rw (e0, e1, e2, e3) refl;
    ends = λ m. refl;
  }

  module _ (m : Moved) (apart : AreApart Client.ends) (row : Client.row m) where
    abbrev due : List Item
    due = given_items (by_offset rx) ++ m.taken rx_active

    abbrev to_send : List Item
    to_send = client_items program mac (m.taken rx_active) tx (m.taken tx_free)

    due_long : length due ≡ rx.buffers + length (m.taken rx_active)
    due_long =
        let made : length (given_items (by_offset rx)) ≡ length (numbers_from 0 rx.buffers) = length-map (numbers_from 0 rx.buffers) (given_item (by_offset rx)) in
        omega (arith, length-append (given_items (by_offset rx)) (m.taken rx_active), made, numbers_length 0 rx.buffers)

    client_away : rx_free ≢ tx_active
    client_away same = let e : 1 ≡ 3 = apart 1 3 (outlet rx_free) refl (ap (λ n. Some (outlet n)) (sym same)) in omega (arith, e)

    hands : nat_lt (length (m.sent rx_free)) (rx.buffers + length (m.taken rx_active)) ≡ true → CouldPut Client m rx_free
    hands lt =
        let more = copy_more m rx_free due row.given (subst (λ n. nat_lt (length (m.sent rx_free)) n ≡ true) (sym due_long) lt) in
        let still = sym (put_beside m rx_free more.0 tx_active client_away) in (
          more.0,
          record {
            sized = row.sized;
            spare_sized = row.spare_sized;
            given = more.1;
            sends = subst (λ l. SendsItems (sent_lens program mac (m.taken rx_active)) (by_offset tx) (m.taken tx_free) l) still row.sends;
            answered = λ echo. subst (λ l. length (m.taken rx_active) ≤ length l + 1) still (row.answered echo);
          },
        )

    hands_only : CouldPut Client m rx_free → nat_lt (length (m.sent rx_free)) (rx.buffers + length (m.taken rx_active)) ≡ true
    hands_only put = subst (λ n. nat_lt (length (m.sent rx_free)) n ≡ true) due_long (copy_shorter m rx_free due put.0 put.1.given)

    sends : nat_lt (length (m.sent tx_active)) (length to_send) ≡ true → CouldPut Client m tx_active
    sends lt =
        let more = copy_more m tx_active to_send row.sends.filled lt in
        let longer = put_length m tx_active more.0 in (
          more.0,
          record {
            sized = row.sized;
            spare_sized = row.spare_sized;
            given = subst (λ l. IsPrefix l due) (sym (put_beside m tx_active more.0 rx_free (λ same. client_away (sym same)))) row.given;
            sends = record {
              filled = more.1;
              needed = row.sends.needed;
              none_in_hand = λ some. omega (arith, row.sends.none_in_hand some, longer);
            };
            answered = λ echo. omega (arith, row.answered echo, longer);
          },
        )

    sends_only : CouldPut Client m tx_active → nat_lt (length (m.sent tx_active)) (length to_send) ≡ true
    sends_only put = copy_shorter m tx_active to_send put.0 put.1.sends.filled

    client_fits : AllFit Client m (Client.wants m)
    client_fits = (intake_fits Client m rx_active _, (outlet_fits Client m rx_free _ hands hands_only, (intake_fits Client m tx_free _, (outlet_fits Client m tx_active _ sends sends_only, tt))))

  client_due : (m : Moved) (i : ℕ) (d : Due) → slice_get (Client.dues m) i ≡ Some d → (k : ℕ) × (slice_get (Client.wants m) k ≡ Some (due_want m d))
  client_due m zero d at = (1, ap (λ (x : Due). Some (due_want m x)) (some_is at))
  client_due m (suc zero) d at = (3, ap (λ (x : Due). Some (due_want m x)) (some_is at))
  client_due m (suc (suc i)) d at = cc

  pub client_follows : NeedsFollow Client
  client_follows = sheet_follows Client (λ m apart row. client_fits m apart row) client_due
