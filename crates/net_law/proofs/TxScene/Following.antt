-- What is said of the virtualiser speaks of its own ends alone, its needs follow, and it stays as
-- more names are told.
use Rattle.std.proofs.Common.{◌≡◌, ◌≢◌, ◌⊎◌, ◌++◌, ◌≤◌, ℕ, zero, suc, Bool, true, false, nat_lt, Some, List, [], ◌∷◌, length, flat_map, slice_get, refl, sym, ap, ap₂, ◌∙◌, subst, arith, ltb-true, inl, inr}
use Rattle.std.proofs.Math.Dec.{eqb}
use Rattle.std.proofs.lemmas.Bool.{lt-ltb}
use Rattle.std.proofs.lemmas.Bool.Decides.{eqb_tells}
use Rattle.std.proofs.lemmas.List.{length-append}
use Rattle.cargo_core.specs.Lists.{PrefixMerge}
use Rattle.cargo_core.specs.declared.item.Item.{Item}
use Rattle.play_core.specs.Moved.{Moved, Seat, AreAlike, with_put}
use Rattle.play_core.specs.Names.{Names, GrowsTo, Wild, by_sort, items_in, named}
use Rattle.play_core.specs.Growing.{Stays}
use Rattle.play_core.specs.Totals.{total}
use Rattle.play_core.specs.Wants.{Want, intake, outlet, intake_want, outlet_want}
use Rattle.play_core.specs.Sheets.{Sheet, Due, CouldPut, IsOwn, NeedsFollow, AreApart, due_want}
use Rattle.play_core.proofs.Lists.{map_alike, map_from, some_is}
use Rattle.play_core.proofs.Naming.{still_named}
use Rattle.play_core.proofs.Puts.{put_here, put_beside}
use Rattle.net_law.proofs.PartsLemmas.Fits.{AllFit, intake_fits, outlet_fits, pairs_fit, sheet_follows}
use Rattle.net_law.proofs.PartsLemmas.Pairs.{twice, twice_same, pair_first, pair_second, pair_seats, flat_alike}
use Rattle.net_law.specs.TxParts.Parts.{SendPart, Shipper}
use Rattle.net_law.specs.TxParts.Rows.{at_device, at_home}
use Rattle.net_law.specs.TxScene.Rows.{ServesBoth, all_goods, bad_in, good_in, goods, bads, bads_back, owed_back, back_due, goods_due}
use Rattle.net_law.specs.TxScene.Table.{both_sheet, both_wants, is_served, LiesWithin}
use Rattle.net_law.proofs.TxParts.Growing.{merge_few, merge_grows}

-- a row told otherwise, client by client
module _ (wild : Wild) (names grown : Names) (p : SendPart) (a b : Moved) (goods_same : (k : ℕ) (c : Shipper) → slice_get p.clients k ≡ Some c → goods wild names a c ≡ goods wild grown b c) (bads_same : (k : ℕ) (c : Shipper) → slice_get p.clients k ≡ Some c → bads wild names a c ≡ bads wild grown b c)
    (gave : a.sent p.active ≡ b.sent p.active) (came_back : a.taken p.free ≡ b.taken p.free) (went_back : (k : ℕ) (c : Shipper) → slice_get p.clients k ≡ Some c → a.sent c.free ≡ b.sent c.free) where
  pub sends_same : all_goods wild names p.clients a ≡ all_goods wild grown p.clients b
  sends_same = map_alike (λ (c : Shipper). at_device c.pool (goods wild names a c)) (λ (c : Shipper). at_device c.pool (goods wild grown b c)) p.clients (λ k c at. ap (at_device c.pool) (goods_same k c at))

  pub owed_same : (k : ℕ) (c : Shipper) → slice_get p.clients k ≡ Some c → owed_back wild names p a c ≡ owed_back wild grown p b c
  owed_same k c at = ap₂ (λ (xs ys : List Item). xs ∷ at_home c.pool ys ∷ []) (bads_same k c at) came_back

  pub row_told : ServesBoth wild names p a → ServesBoth wild grown p b
  row_told h = record {
    sized = h.sized;
    came = λ k c at j item is. h.came k c at j item (ap (λ xs. slice_get xs j) (goods_same k c at) ∙ is);
    merges = subst (λ xs. PrefixMerge (all_goods wild grown p.clients b) xs) gave (subst (λ ls. PrefixMerge ls (a.sent p.active)) sends_same h.merges);
    returns = λ k c at. subst (λ xs. PrefixMerge (owed_back wild grown p b c) xs) (went_back k c at) (subst (λ ls. PrefixMerge ls (a.sent c.free)) (owed_same k c at) (h.returns k c at));
  }

  module _ (back_same : (k : ℕ) (c : Shipper) → slice_get p.clients k ≡ Some c → bads_back wild names a c ≡ bads_back wild grown b c) where
    served_same : (k : ℕ) (c : Shipper) → slice_get p.clients k ≡ Some c → is_served wild names p a c ≡ is_served wild grown p b c
    served_same k c at = rw (gave, goods_same k c at, bads_same k c at, back_same k c at) refl

    pub wants_told : (both_sheet wild names p).wants a ≡ (both_sheet wild grown p).wants b
    wants_told =
        ap₂ (λ (xs : List Item) (n : ℕ). intake_want p.free true ∷ outlet_want p.active (nat_lt (length xs) n) ∷ flat_map (both_wants wild names p a) p.clients) gave (ap total sends_same)
        ∙ ap (λ ws. intake_want p.free true ∷ outlet_want p.active (nat_lt (length (b.sent p.active)) (goods_due wild grown p.clients b)) ∷ ws) (flat_alike (both_wants wild names p a) (both_wants wild grown p b) p.clients
        (λ k c at.
        ap₂ (λ (x : Bool) (n : ℕ). intake_want c.active x ∷ outlet_want c.free (nat_lt (length (a.sent c.free)) n) ∷ []) (served_same k c at) (ap total (owed_same k c at))
        ∙ ap (λ (xs : List Item). intake_want c.active (is_served wild grown p b c) ∷ outlet_want c.free (nat_lt (length xs) (back_due wild grown p b c)) ∷ []) (went_back k c at)))

    pub dues_told : (both_sheet wild names p).dues a ≡ (both_sheet wild grown p).dues b
    dues_told =
        ap₂ (λ (n : ℕ) (ds : List Due). let d : Due = record { queue = p.active; number = n } in d ∷ ds) (ap total sends_same)
        (map_alike (λ (c : Shipper). let d : Due = record { queue = c.free; number = back_due wild names p a c } in d) (λ (c : Shipper). let d : Due = record { queue = c.free; number = back_due wild grown p b c } in d) p.clients
        (λ k c at. ap (λ ls. let d : Due = record { queue = c.free; number = total ls } in d) (owed_same k c at)))

module _ (wild : Wild) (names : Names) (p : SendPart) where
  abbrev S : Sheet
  S = both_sheet wild names p

  abbrev from : Shipper → Seat
  from c = intake c.active

  abbrev back : Shipper → Seat
  back c = outlet c.free

  module _ (a b : Moved) (alike : AreAlike S.ends a b) where
    came_back : a.taken p.free ≡ b.taken p.free
    came_back = alike 0 (intake p.free) refl

    gave : a.sent p.active ≡ b.sent p.active
    gave = alike 1 (outlet p.active) refl

    came : (k : ℕ) (c : Shipper) → slice_get p.clients k ≡ Some c → a.taken c.active ≡ b.taken c.active
    came k c at = alike (suc (suc (twice k))) (from c) (pair_first from back p.clients k c at)

    went_back : (k : ℕ) (c : Shipper) → slice_get p.clients k ≡ Some c → a.sent c.free ≡ b.sent c.free
    went_back k c at = alike (suc (suc (suc (twice k)))) (back c) (pair_second from back p.clients k c at)

    goods_same : (k : ℕ) (c : Shipper) → slice_get p.clients k ≡ Some c → goods wild names a c ≡ goods wild names b c
    goods_same k c at = rw (came k c at) refl

    bads_same : (k : ℕ) (c : Shipper) → slice_get p.clients k ≡ Some c → bads wild names a c ≡ bads wild names b c
    bads_same k c at = rw (came k c at) refl

    back_same : (k : ℕ) (c : Shipper) → slice_get p.clients k ≡ Some c → bads_back wild names a c ≡ bads_back wild names b c
    back_same k c at = rw (went_back k c at) refl

    row_same : S.row a → S.row b
    row_same = row_told wild names names p a b goods_same bads_same gave came_back went_back

    wants_same : S.wants a ≡ S.wants b
    wants_same = wants_told wild names names p a b goods_same bads_same gave came_back went_back back_same

  abbrev want_in : Moved → Shipper → Want
  want_in m c = intake_want c.active (is_served wild names p m c)

  abbrev want_back : Moved → Shipper → Want
  want_back m c = outlet_want c.free (nat_lt (length (m.sent c.free)) (back_due wild names p m c))

  pub both_own : IsOwn S
  both_own = record {
    row = λ a b alike look h. row_same a b alike h;
    wants = λ a b alike look. wants_same a b alike;
    ends = λ m. ap (λ ss. intake p.free ∷ outlet p.active ∷ ss) (pair_seats (want_in m) (want_back m) p.clients);
  }

  module _ (m : Moved) (apart : AreApart S.ends) (row : S.row m) where
    frees_apart : (j k : ℕ) (x y : Shipper) → slice_get p.clients j ≡ Some x → slice_get p.clients k ≡ Some y → x.free ≡ y.free → j ≡ k
    frees_apart j k x y at is same =
        let one = pair_second from back p.clients j x at in
        let two = pair_second from back p.clients k y is in
        let e : suc (suc (suc (twice j))) ≡ suc (suc (suc (twice k))) = apart (suc (suc (suc (twice j)))) (suc (suc (suc (twice k)))) (back x) one (two ∙ ap (λ n. Some (outlet n)) (sym same)) in
        twice_same j k (omega (arith, e))

    beside : (k : ℕ) (c : Shipper) → slice_get p.clients k ≡ Some c → p.active ≢ c.free
    beside k c at same =
        let one = pair_second from back p.clients k c at in
        let e : 1 ≡ suc (suc (suc (twice k))) = apart 1 (suc (suc (suc (twice k)))) (outlet p.active) refl (one ∙ ap (λ n. Some (outlet n)) (sym same)) in
        omega (arith, e)

    sends : nat_lt (length (m.sent p.active)) (goods_due wild names p.clients m) ≡ true → CouldPut S m p.active
    sends lt =
        let short = ltb-true (length (m.sent p.active)) (goods_due wild names p.clients m) lt in
        let more = merge_grows (all_goods wild names p.clients m) (m.sent p.active) row.merges short in (
          more.0,
          record {
            sized = row.sized;
            came = row.came;
            merges = subst (λ xs. PrefixMerge (all_goods wild names p.clients m) xs) (sym (put_here m p.active more.0)) more.1;
            returns = λ k c at. subst (λ xs. PrefixMerge (owed_back wild names p m c) xs) (sym (put_beside m p.active more.0 c.free (beside k c at))) (row.returns k c at);
          },
        )

    sends_only : CouldPut S m p.active → nat_lt (length (m.sent p.active)) (goods_due wild names p.clients m) ≡ true
    sends_only put =
        let few = merge_few (all_goods wild names p.clients m) (m.sent p.active ++ put.0 ∷ []) (subst (λ xs. PrefixMerge (all_goods wild names p.clients m) xs) (put_here m p.active put.0) put.1.merges) in
        let long = length-append (m.sent p.active) (put.0 ∷ []) in
        lt-ltb (length (m.sent p.active)) (goods_due wild names p.clients m) (omega (arith, few, long))

    -- one more to one client leaves the others
    one_more : (k : ℕ) (c : Shipper) → slice_get p.clients k ≡ Some c → (item : Item) → PrefixMerge (owed_back wild names p m c) (m.sent c.free ++ item ∷ []) → (j : ℕ) (d : Shipper) → slice_get p.clients j ≡ Some d → PrefixMerge (owed_back wild names p m d) ((with_put m c.free item).sent d.free)
    one_more k c at item more j d is = by (eqb_tells c.free d.free)
      where
        by : ((eqb c.free d.free ≡ true) × (c.free ≡ d.free)) ⊎ ((eqb c.free d.free ≡ false) × (c.free ≢ d.free)) → PrefixMerge (owed_back wild names p m d) ((with_put m c.free item).sent d.free)
        by (inl e) =
            let place : k ≡ j = frees_apart k j c d at is e.1 in
            let same : c ≡ d = some_is (sym at ∙ (ap (slice_get p.clients) place ∙ is)) in
            subst (λ (z : Shipper). PrefixMerge (owed_back wild names p m z) ((with_put m c.free item).sent z.free)) same (subst (λ xs. PrefixMerge (owed_back wild names p m c) xs) (sym (put_here m c.free item)) more)
        by (inr e) = subst (λ xs. PrefixMerge (owed_back wild names p m d) xs) (sym (put_beside m c.free item d.free e.1)) (row.returns j d is)

    gives : (k : ℕ) (c : Shipper) → slice_get p.clients k ≡ Some c → nat_lt (length (m.sent c.free)) (back_due wild names p m c) ≡ true → CouldPut S m c.free
    gives k c at lt =
        let short = ltb-true (length (m.sent c.free)) (back_due wild names p m c) lt in
        let more = merge_grows (owed_back wild names p m c) (m.sent c.free) (row.returns k c at) short in (
          more.0,
          record {
            sized = row.sized;
            came = row.came;
            merges = subst (λ xs. PrefixMerge (all_goods wild names p.clients m) xs) (sym (put_beside m c.free more.0 p.active (λ e. beside k c at (sym e)))) row.merges;
            returns = one_more k c at more.0 more.1;
          },
        )

    gives_only : (k : ℕ) (c : Shipper) → slice_get p.clients k ≡ Some c → CouldPut S m c.free → nat_lt (length (m.sent c.free)) (back_due wild names p m c) ≡ true
    gives_only k c at put =
        let few = merge_few (owed_back wild names p m c) (m.sent c.free ++ put.0 ∷ []) (subst (λ xs. PrefixMerge (owed_back wild names p m c) xs) (put_here m c.free put.0) (put.1.returns k c at)) in
        let long = length-append (m.sent c.free) (put.0 ∷ []) in
        lt-ltb (length (m.sent c.free)) (back_due wild names p m c) (omega (arith, few, long))

    both_fits : AllFit S m (S.wants m)
    both_fits = (intake_fits S m p.free _, (outlet_fits S m p.active _ sends sends_only, pairs_fit S m (want_in m) (want_back m) p.clients (λ k c at. (intake_fits S m c.active _, outlet_fits S m c.free _ (gives k c at) (gives_only k c at)))))

  both_due : (m : Moved) (i : ℕ) (d : Due) → slice_get (S.dues m) i ≡ Some d → (k : ℕ) × (slice_get (S.wants m) k ≡ Some (due_want m d))
  both_due m zero d at = (1, ap (λ (x : Due). Some (due_want m x)) (some_is at))
  both_due m (suc i) d at =
      let f = map_from (λ (c : Shipper). let x : Due = record { queue = c.free; number = back_due wild names p m c } in x) p.clients i d at in
      (suc (suc (suc (twice i))), pair_second (want_in m) (want_back m) p.clients i f.0 f.1 ∙ ap (λ (x : Due). Some (due_want m x)) f.2)

  pub both_follows : NeedsFollow S
  both_follows = sheet_follows S (λ m apart row. both_fits m apart row) both_due

module _ (wild : Wild) (names grown : Names) (grows : GrowsTo names grown) (p : SendPart) (m : Moved) (within : LiesWithin wild names p m) where
  goods_by : (c : Shipper) (w : Bool) → (w ≡ true → length (m.taken c.active) ≤ length (names c.active)) → by_sort w (items_in (good_in c (named (m.taken c.active) (names c.active)))) (m.taken c.active) ≡ by_sort w (items_in (good_in c (named (m.taken c.active) (grown c.active)))) (m.taken c.active)
  goods_by c true few = ap (λ xs. items_in (good_in c xs)) (still_named names grown grows (m.taken c.active) c.active (few refl))
  goods_by c false few = refl

  bads_by : (c : Shipper) (w : Bool) (items : List Item) (n : ℕ) → (w ≡ true → length items ≤ length (names n)) → by_sort w (items_in (bad_in c (named items (names n)))) [] ≡ by_sort w (items_in (bad_in c (named items (grown n)))) []
  bads_by c true items n few = ap (λ xs. items_in (bad_in c xs)) (still_named names grown grows items n (few refl))
  bads_by c false items n few = refl

  goods_stay : (k : ℕ) (c : Shipper) → slice_get p.clients k ≡ Some c → goods wild names m c ≡ goods wild grown m c
  goods_stay k c at = goods_by c (wild c.active) (λ w. (within k c at w).0)

  bads_stay : (k : ℕ) (c : Shipper) → slice_get p.clients k ≡ Some c → bads wild names m c ≡ bads wild grown m c
  bads_stay k c at = bads_by c (wild c.active) (m.taken c.active) c.active (λ w. (within k c at w).0)

  back_stay : (k : ℕ) (c : Shipper) → slice_get p.clients k ≡ Some c → bads_back wild names m c ≡ bads_back wild grown m c
  back_stay k c at = bads_by c (wild c.active) (m.sent c.free) c.free (λ w. (within k c at w).1)

  pub row_stays : (both_sheet wild names p).row m → (both_sheet wild grown p).row m
  row_stays = row_told wild names grown p m m goods_stay bads_stay refl refl (λ k c at. refl)

  pub row_stood : (both_sheet wild grown p).row m → (both_sheet wild names p).row m
  row_stood = row_told wild grown names p m m (λ k c at. sym (goods_stay k c at)) (λ k c at. sym (bads_stay k c at)) refl refl (λ k c at. refl)

  pub wants_stay : (both_sheet wild names p).wants m ≡ (both_sheet wild grown p).wants m
  wants_stay = wants_told wild names grown p m m goods_stay bads_stay refl refl (λ k c at. refl) back_stay

  pub dues_stay : (both_sheet wild names p).dues m ≡ (both_sheet wild grown p).dues m
  dues_stay = dues_told wild names grown p m m goods_stay bads_stay refl refl (λ k c at. refl) back_stay

pub both_stays : (wild : Wild) → Stays (both_sheet wild) (LiesWithin wild)
both_stays wild = record {
  row = row_stays wild;
  back = row_stood wild;
  wants = wants_stay wild;
  dues = dues_stay wild;
}
