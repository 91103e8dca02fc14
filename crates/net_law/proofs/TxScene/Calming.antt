-- Where no client is hostile, the table is the one without names.
use Rattle.std.proofs.Common.{◌≡◌, ◌&&◌, ℕ, zero, suc, Bool, true, false, not, nat_lt, Some, List, [], ◌∷◌, length, flat_map, slice_get, refl, sym, ap, ap₂, ◌∙◌, subst, arith}
use Rattle.cargo_core.specs.Lists.{IsPrefix, Merge, merge_none, merge_next, PrefixMerge}
use Rattle.cargo_core.specs.declared.item.Item.{Item}
use Rattle.play_core.specs.Moved.{Moved}
use Rattle.play_core.specs.Names.{Names, Wild, by_sort, items_in, named}
use Rattle.play_core.specs.Totals.{total}
use Rattle.play_core.specs.Sheets.{Due}
use Rattle.play_core.specs.Wants.{intake_want, outlet_want}
use Rattle.play_core.proofs.Lists.{map_alike, some_is}
use Rattle.net_law.specs.Parts.Table.{is_short}
use Rattle.net_law.specs.TxParts.Parts.{SendPart, Shipper}
use Rattle.net_law.specs.TxParts.Rows.{MergesSends, all_sends, at_device, at_home, sends_due}
use Rattle.net_law.specs.TxParts.Table.{send_sheet, shipper_wants}
use Rattle.net_law.specs.TxScene.Rows.{ServesBoth, all_goods, bad_in, bads, bads_back, back_due, good_in, goods, owed_back}
use Rattle.net_law.specs.TxScene.Table.{NoneWild, both_sheet, both_wants, is_served}
use Rattle.net_law.proofs.TxParts.Growing.{merge_alone}
use Rattle.net_law.proofs.PartsLemmas.Pairs.{flat_alike}

-- what is a beginning of a list is a merge of beginnings of it and of any other
whole_merge : {T : Type 0} (xs : List T) → Merge ([] ∷ xs ∷ []) xs
whole_merge {T} [] = merge_none ([] ∷ [] ∷ []) none
  where
    none : (k : ℕ) (l : List T) → slice_get ([] ∷ [] ∷ []) k ≡ Some l → l ≡ []
    none zero l at = sym (some_is at)
    none (suc zero) l at = sym (some_is at)
    none (suc (suc k)) l at = absurd cc
whole_merge (x ∷ xs) = merge_next ([] ∷ (x ∷ xs) ∷ []) 1 x xs xs refl (whole_merge xs)

alone_merge : {T : Type 0} (ys zs xs : List T) → IsPrefix xs zs → PrefixMerge (ys ∷ zs ∷ []) xs
alone_merge {T} ys zs xs h = record {
  parts = [] ∷ xs ∷ [];
  as_many = refl;
  begins = begins;
  merged = whole_merge xs;
}
  where
    begins : (k : ℕ) (p w : List T) → slice_get ([] ∷ xs ∷ []) k ≡ Some p → slice_get (ys ∷ zs ∷ []) k ≡ Some w → IsPrefix p w
    begins zero p w at at' = subst (λ q. IsPrefix q w) (some_is at) (w, refl)
    begins (suc zero) p w at at' = subst (λ q. IsPrefix q w) (some_is at) (subst (IsPrefix xs) (some_is at') h)
    begins (suc (suc k)) p w at at' = absurd cc

never_less : (n : ℕ) → nat_lt n 0 ≡ false
never_less n = grind (arith)

none_short : (xs : List Item) (b : Bool) → (b && not (is_short {U = Item} xs [])) ≡ b
none_short xs true = ap not (never_less (length xs))
none_short xs false = refl

module _ (wild : Wild) (names : Names) (p : SendPart) (m : Moved) (calm : NoneWild wild p) where
  module _ (k : ℕ) (c : Shipper) (at : slice_get p.clients k ≡ Some c) where
    goods_are : goods wild names m c ≡ m.taken c.active
    goods_are = ap (λ w. by_sort w (items_in (good_in c (named (m.taken c.active) (names c.active)))) (m.taken c.active)) (calm k c at)

    bads_are : bads wild names m c ≡ []
    bads_are = ap (λ w. by_sort w (items_in (bad_in c (named (m.taken c.active) (names c.active)))) []) (calm k c at)

    due_is : back_due wild names p m c ≡ length (at_home c.pool (m.taken p.free))
    due_is =
        let e = ap (λ (xs : List Item). length xs) bads_are in
        omega (arith, e)

    want_is : both_wants wild names p m c ≡ intake_want c.active (not (is_short (at_home c.pool (m.sent p.active)) (m.taken c.active))) ∷ outlet_want c.free (is_short (m.sent c.free) (at_home c.pool (m.taken p.free))) ∷ []
    want_is =
        let served : is_served wild names p m c ≡ not (is_short (at_home c.pool (m.sent p.active)) (m.taken c.active)) =
        ap₂ (λ (xs ys : List Item). not (is_short (at_home c.pool (m.sent p.active)) xs) && not (is_short (bads_back wild names m c) ys)) goods_are bads_are
        ∙ none_short (bads_back wild names m c) (not (is_short (at_home c.pool (m.sent p.active)) (m.taken c.active))) in
        ap₂ (λ (b : Bool) (n : ℕ). intake_want c.active b ∷ outlet_want c.free (nat_lt (length (m.sent c.free)) n) ∷ []) served due_is

    back_is : PrefixMerge (owed_back wild names p m c) (m.sent c.free) → IsPrefix (m.sent c.free) (at_home c.pool (m.taken p.free))
    back_is h = merge_alone (bads wild names m c) (at_home c.pool (m.taken p.free)) (m.sent c.free) bads_are h

  sends_are : all_goods wild names p.clients m ≡ all_sends p.clients m
  sends_are = map_alike (λ (c : Shipper). at_device c.pool (goods wild names m c)) (λ (c : Shipper). at_device c.pool (m.taken c.active)) p.clients (λ k c at. ap (at_device c.pool) (goods_are k c at))

  pub calm_row : ServesBoth wild names p m → MergesSends p m
  calm_row h = record {
    sized = h.sized;
    came = λ k c at j item is. h.came k c at j item (ap (λ xs. slice_get xs j) (goods_are k c at) ∙ is);
    merges = subst (λ ls. PrefixMerge ls (m.sent p.active)) sends_are h.merges;
    returns = λ k c at. back_is k c at (h.returns k c at);
  }

  pub row_calm : MergesSends p m → ServesBoth wild names p m
  row_calm h = record {
    sized = h.sized;
    came = λ k c at j item is. h.came k c at j item (ap (λ xs. slice_get xs j) (sym (goods_are k c at)) ∙ is);
    merges = subst (λ ls. PrefixMerge ls (m.sent p.active)) (sym sends_are) h.merges;
    returns = λ k c at. alone_merge (bads wild names m c) (at_home c.pool (m.taken p.free)) (m.sent c.free) (h.returns k c at);
  }

  pub calm_wants : (both_sheet wild names p).wants m ≡ (send_sheet p).wants m
  calm_wants =
      ap (λ n. intake_want p.free true ∷ outlet_want p.active (nat_lt (length (m.sent p.active)) n) ∷ flat_map (both_wants wild names p m) p.clients) (ap total sends_are)
      ∙ ap (λ ws. intake_want p.free true ∷ outlet_want p.active (nat_lt (length (m.sent p.active)) (sends_due p.clients m)) ∷ ws)
      (flat_alike (both_wants wild names p m) (shipper_wants p m) p.clients want_is)

  pub calm_dues : (both_sheet wild names p).dues m ≡ (send_sheet p).dues m
  calm_dues =
      ap₂ (λ (n : ℕ) (ds : List Due). let d : Due = record { queue = p.active; number = n } in d ∷ ds) (ap total sends_are)
      (map_alike (λ (c : Shipper). let d : Due = record { queue = c.free; number = back_due wild names p m c } in d) (λ (c : Shipper). let d : Due = record { queue = c.free; number = length (at_home c.pool (m.taken p.free)) } in d) p.clients
      (λ k c at. ap (λ (n : ℕ). let d : Due = record { queue = c.free; number = n } in d) (due_is k c at)))
