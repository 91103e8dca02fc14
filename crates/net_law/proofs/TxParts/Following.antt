-- What is said of the virtualiser speaks of its own ends, and its needs follow.
use Rattle.std.proofs.Common.{◌≡◌, ◌≢◌, ◌++◌, ℕ, zero, suc, true, not, nat_lt, Some, List, [], ◌∷◌, length, flat_map, slice_get, refl, sym, ap, ap₂, ◌∙◌, subst, arith, ltb-true}
use Rattle.std.proofs.lemmas.Bool.{lt-ltb}
use Rattle.std.proofs.lemmas.List.{length-append}
use Rattle.cargo_core.specs.Lists.{IsPrefix, PrefixMerge}
use Rattle.cargo_core.specs.declared.item.Item.{Item}
use Rattle.play_core.specs.Moved.{Moved, Seat, AreAlike}
use Rattle.play_core.specs.Totals.{total}
use Rattle.play_core.specs.Wants.{Want, intake, outlet, intake_want, outlet_want}
use Rattle.play_core.specs.Sheets.{Sheet, Due, CouldPut, IsOwn, NeedsFollow, AreApart, due_want}
use Rattle.play_core.proofs.Lists.{map_alike, map_from, some_is}
use Rattle.play_core.proofs.Puts.{put_here, put_beside, copy_shorter}
use Rattle.net_law.specs.Parts.Table.{is_short}
use Rattle.net_law.proofs.PartsLemmas.Fits.{AllFit, intake_fits, outlet_fits, pairs_fit, sheet_follows}
use Rattle.net_law.proofs.PartsLemmas.Pairs.{twice, twice_same, pair_first, pair_second, pair_seats, flat_alike, each_owed}
use Rattle.net_law.specs.TxParts.Parts.{SendPart, Shipper}
use Rattle.net_law.specs.TxParts.Rows.{all_sends, at_device, at_home, sends_due}
use Rattle.net_law.specs.TxParts.Table.{send_sheet, shipper_wants}
use Rattle.net_law.proofs.TxParts.Growing.{merge_few, merge_grows}

module _ (p : SendPart) where
  abbrev S : Sheet
  S = send_sheet p

  abbrev from : Shipper → Seat
  from c = intake c.active

  abbrev back : Shipper → Seat
  back c = outlet c.free

  module _ (a b : Moved) (alike : AreAlike S.ends a b) where
    came_back : a.taken p.free ≡ b.taken p.free
    came_back = alike 0 (intake p.free) refl

    gave : a.sent p.active ≡ b.sent p.active
    gave = alike 1 (outlet p.active) refl

    came : (k : ℕ) (c : Shipper) → slice_get p.clients k ≡ Some c → a.taken c.active ≡ b.taken c.active
    came k c at = alike (suc (suc (twice k))) (from c) (pair_first from back p.clients k c at)

    went_back : (k : ℕ) (c : Shipper) → slice_get p.clients k ≡ Some c → a.sent c.free ≡ b.sent c.free
    went_back k c at = alike (suc (suc (suc (twice k)))) (back c) (pair_second from back p.clients k c at)

    sends_same : all_sends p.clients a ≡ all_sends p.clients b
    sends_same = map_alike (λ (c : Shipper). at_device c.pool (a.taken c.active)) (λ (c : Shipper). at_device c.pool (b.taken c.active)) p.clients (λ k c at. ap (at_device c.pool) (came k c at))

    due_same : sends_due p.clients a ≡ sends_due p.clients b
    due_same = ap total sends_same

    wants_same : S.wants a ≡ S.wants b
    wants_same =
        ap₂ (λ xs n. intake_want p.free true ∷ outlet_want p.active (nat_lt (length xs) n) ∷ flat_map (shipper_wants p a) p.clients) gave due_same
        ∙ ap (λ ws. intake_want p.free true ∷ outlet_want p.active (nat_lt (length (b.sent p.active)) (sends_due p.clients b)) ∷ ws) (flat_alike (shipper_wants p a) (shipper_wants p b) p.clients
        (λ k c at.
        ap₂ (λ (xs ys : List Item). intake_want c.active (not (is_short (at_home c.pool xs) ys)) ∷ outlet_want c.free (is_short (a.sent c.free) (at_home c.pool (a.taken p.free))) ∷ []) gave (came k c at)
        ∙ ap₂ (λ (xs ys : List Item). intake_want c.active (not (is_short (at_home c.pool (b.sent p.active)) (b.taken c.active))) ∷ outlet_want c.free (is_short xs (at_home c.pool ys)) ∷ []) (went_back k c at) came_back))

    row_same : S.row a → S.row b
    row_same h = record {
      sized = h.sized;
      came = λ k c at j item is. h.came k c at j item (ap (λ xs. slice_get xs j) (came k c at) ∙ is);
      merges = subst (λ xs. PrefixMerge (all_sends p.clients b) xs) gave (subst (λ ls. PrefixMerge ls (a.sent p.active)) sends_same h.merges);
      returns = λ k c at. subst (λ xs. IsPrefix xs (at_home c.pool (b.taken p.free))) (went_back k c at) (subst (λ ys. IsPrefix (a.sent c.free) (at_home c.pool ys)) came_back (h.returns k c at));
    }

  abbrev want_in : Moved → Shipper → Want
  want_in m c = intake_want c.active (not (is_short (at_home c.pool (m.sent p.active)) (m.taken c.active)))

  abbrev want_back : Moved → Shipper → Want
  want_back m c = outlet_want c.free (is_short (m.sent c.free) (at_home c.pool (m.taken p.free)))

  pub send_own : IsOwn S
  send_own = record {
    row = λ a b alike look h. row_same a b alike h;
    wants = λ a b alike look. wants_same a b alike;
    ends = λ m. ap (λ ss. intake p.free ∷ outlet p.active ∷ ss) (pair_seats (want_in m) (want_back m) p.clients);
  }

  module _ (m : Moved) (apart : AreApart S.ends) (row : S.row m) where
    frees_apart : (j k : ℕ) (x y : Shipper) → slice_get p.clients j ≡ Some x → slice_get p.clients k ≡ Some y → x.free ≡ y.free → j ≡ k
    frees_apart j k x y at is same =
        let one = pair_second from back p.clients j x at in
        let two = pair_second from back p.clients k y is in
        let e : suc (suc (suc (twice j))) ≡ suc (suc (suc (twice k))) = apart (suc (suc (suc (twice j)))) (suc (suc (suc (twice k)))) (back x) one (two ∙ ap (λ n. Some (outlet n)) (sym same)) in
        twice_same j k (omega (arith, e))

    beside : (k : ℕ) (c : Shipper) → slice_get p.clients k ≡ Some c → p.active ≢ c.free
    beside k c at same =
        let one = pair_second from back p.clients k c at in
        let e : 1 ≡ suc (suc (suc (twice k))) = apart 1 (suc (suc (suc (twice k)))) (outlet p.active) refl (one ∙ ap (λ n. Some (outlet n)) (sym same)) in
        omega (arith, e)

    sends : nat_lt (length (m.sent p.active)) (sends_due p.clients m) ≡ true → CouldPut S m p.active
    sends lt =
        let short = ltb-true (length (m.sent p.active)) (sends_due p.clients m) lt in
        let more = merge_grows (all_sends p.clients m) (m.sent p.active) row.merges short in (
          more.0,
          record {
            sized = row.sized;
            came = row.came;
            merges = subst (λ xs. PrefixMerge (all_sends p.clients m) xs) (sym (put_here m p.active more.0)) more.1;
            returns = λ k c at. subst (λ xs. IsPrefix xs (at_home c.pool (m.taken p.free))) (sym (put_beside m p.active more.0 c.free (beside k c at))) (row.returns k c at);
          },
        )

    sends_only : CouldPut S m p.active → nat_lt (length (m.sent p.active)) (sends_due p.clients m) ≡ true
    sends_only put =
        let few = merge_few (all_sends p.clients m) (m.sent p.active ++ put.0 ∷ []) (subst (λ xs. PrefixMerge (all_sends p.clients m) xs) (put_here m p.active put.0) put.1.merges) in
        let long = length-append (m.sent p.active) (put.0 ∷ []) in
        lt-ltb (length (m.sent p.active)) (sends_due p.clients m) (omega (arith, few, long))

    gives : (k : ℕ) (c : Shipper) → slice_get p.clients k ≡ Some c → is_short (m.sent c.free) (at_home c.pool (m.taken p.free)) ≡ true → CouldPut S m c.free
    gives k c at lt =
        let more = each_owed p.clients (λ (d : Shipper). d.free) (λ d. at_home d.pool (m.taken p.free)) m row.returns frees_apart k c at lt in (
          more.0,
          record {
            sized = row.sized;
            came = row.came;
            merges = subst (λ xs. PrefixMerge (all_sends p.clients m) xs) (sym (put_beside m c.free more.0 p.active (λ e. beside k c at (sym e)))) row.merges;
            returns = more.1;
          },
        )

    gives_only : (k : ℕ) (c : Shipper) → slice_get p.clients k ≡ Some c → CouldPut S m c.free → is_short (m.sent c.free) (at_home c.pool (m.taken p.free)) ≡ true
    gives_only k c at put = copy_shorter m c.free (at_home c.pool (m.taken p.free)) put.0 (put.1.returns k c at)

    send_fits : AllFit S m (S.wants m)
    send_fits = (intake_fits S m p.free _, (outlet_fits S m p.active _ sends sends_only, pairs_fit S m (want_in m) (want_back m) p.clients (λ k c at. (intake_fits S m c.active _, outlet_fits S m c.free _ (gives k c at) (gives_only k c at)))))

  send_due : (m : Moved) (i : ℕ) (d : Due) → slice_get (S.dues m) i ≡ Some d → (k : ℕ) × (slice_get (S.wants m) k ≡ Some (due_want m d))
  send_due m zero d at = (1, ap (λ (x : Due). Some (due_want m x)) (some_is at))
  send_due m (suc i) d at =
      let f = map_from (λ (c : Shipper). let x : Due = record { queue = c.free; number = length (at_home c.pool (m.taken p.free)) } in x) p.clients i d at in
      (suc (suc (suc (twice i))), pair_second (want_in m) (want_back m) p.clients i f.0 f.1 ∙ ap (λ (x : Due). Some (due_want m x)) f.2)

  pub send_follows : NeedsFollow S
  send_follows = sheet_follows S (λ m apart row. send_fits m apart row) send_due
