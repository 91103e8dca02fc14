-- How requests are judged is told by items and names.
use Rattle.std.proofs.Common.{◌≡◌, suc, Bool, true, false, cond, Option, List, [], ◌∷◌, map, refl, sym, ap, ap₂, ◌∙◌}
use Rattle.std.specs.List.{filter}
use Rattle.std.specs.Prelude.{if◌then◌else◌}
use Rattle.cargo_core.specs.declared.item.Body.TheVariants as Carried
use Rattle.cargo_core.specs.declared.item.Item.{Item}
use Rattle.wire_core.specs.Deeds.{Cargo}
use Rattle.wire_core.specs.Queues.{items_of}
use Rattle.play_core.specs.Names.{items_in, told}
use Rattle.blk_mbr.specs.declared.part.Part.{Part}
use Rattle.class_expect.specs.BlkExpect.Judging.{status_of}
use Rattle.blk_virt.specs.Requests.{for_disk, goes_on, is_ok, is_own, judged, passed_on, refusal, request_of}
use Rattle.blk_virt.specs.Serving.{answers_to}
use Rattle.blk_virt.specs.declared.requests.Holder.{Holder}
use Rattle.blk_law.specs.Sheets.Playing.{holder_pool}
use Rattle.blk_law.specs.Sheets.Rows.{item_for_disk, passed_item}
use Rattle.blk_law.specs.VirtScene.Rows.{Judged, all_answers, by_item, by_name, going_on, is_own_at, refused_item}
use Rattle.blk_law.proofs.SheetsLemmas.Virtual.{AreGood, judged_same}

-- an entry with how it is judged
abbrev pub by_entry : Holder → Option Part → Cargo → Judged
by_entry h part x = (x.0, judged h part x)

module _ (h : Holder) (part : Option Part) where
  own_same : (x : Cargo) → is_own_at (holder_pool h) (told x) ≡ is_own h x
  own_same (item, Carried.Page page) = refl
  own_same (item, Carried.Lease lease) = refl
  own_same (item, Carried.Empty) = refl

  pub names_judge : (xs : List Cargo) → map (by_name (holder_pool h) part) (map told xs) ≡ map (by_entry h part) xs
  names_judge [] = refl
  names_judge (x ∷ xs) = ap₂ (λ (own : Bool) (js : List Judged). let j : Judged = (x.0, status_of own part (request_of x.0).code (request_of x.0).block (request_of x.0).count) in j ∷ js) (own_same x) (names_judge xs)

  pub items_judge : (xs : List Cargo) → AreGood h xs → map (by_item part) (items_of xs) ≡ map (by_entry h part) xs
  items_judge [] good = refl
  items_judge (x ∷ xs) good = ap₂ (λ s (js : List Judged). let j : Judged = (x.0, s) in j ∷ js) (sym (judged_same h part x (good 0 x refl))) (items_judge xs (λ k y at. good (suc k) y at))

  -- of what is told, what is the client's own
  pub owns_told : (xs : List Cargo) → items_in (filter (is_own_at (holder_pool h)) (map told xs)) ≡ items_of (filter (is_own h) xs)
  owns_told [] = refl
  owns_told (x ∷ xs) = ap (λ b. items_in (cond b (told x ∷ filter (is_own_at (holder_pool h)) (map told xs)) (filter (is_own_at (holder_pool h)) (map told xs)))) (own_same x) ∙ by (is_own h x) (owns_told xs)
    where
      by : (t : Bool) → items_in (filter (is_own_at (holder_pool h)) (map told xs)) ≡ items_of (filter (is_own h) xs) → items_in (cond t (told x ∷ filter (is_own_at (holder_pool h)) (map told xs)) (filter (is_own_at (holder_pool h)) (map told xs))) ≡ items_of (cond t (x ∷ filter (is_own h) xs) (filter (is_own h) xs))
      by true rest = ap (λ l. x.0 ∷ l) rest
      by false rest = rest

  -- what goes on to the disk
  pub on_entries : (xs : List Cargo) → going_on h.base part (map (by_entry h part) xs) ≡ items_of (map (for_disk h part) (filter (goes_on h part) xs))
  on_entries [] = refl
  on_entries (x ∷ xs) = by (goes_on h part x) (on_entries xs)
    where
      by : (t : Bool) → going_on h.base part (map (by_entry h part) xs) ≡ items_of (map (for_disk h part) (filter (goes_on h part) xs))
          → map (λ (j : Judged). item_for_disk h.base part j.0) (cond t (by_entry h part x ∷ filter (λ (j : Judged). is_ok j.1) (map (by_entry h part) xs)) (filter (λ (j : Judged). is_ok j.1) (map (by_entry h part) xs))) ≡ items_of (map (for_disk h part) (cond t (x ∷ filter (goes_on h part) xs) (filter (goes_on h part) xs)))
      by true rest = ap (λ l. item_for_disk h.base part x.0 ∷ l) rest
      by false rest = rest

  none_items : (x : Cargo) (t : Bool) (xs : List Cargo) (ys : List Item) → ys ≡ items_of xs → (if t then [] else (refused_item (by_entry h part x) ∷ ys)) ≡ items_of (if t then [] else (refusal h part x ∷ xs))
  none_items x true xs ys rest = refl
  none_items x false xs ys rest = ap (λ l. refused_item (by_entry h part x) ∷ l) rest

  some_items : (x y : Cargo) (t : Bool) (xs zs : List Cargo) (ys ws : List Item) → ys ≡ items_of xs → ws ≡ items_of zs → (if t then (passed_item (request_of x.0).id y.0 ∷ ys) else (refused_item (by_entry h part x) ∷ ws)) ≡ items_of (if t then (passed_on (request_of x.0).id y ∷ xs) else (refusal h part x ∷ zs))
  some_items x y true xs zs ys ws one two = ap (λ l. passed_item (request_of x.0).id y.0 ∷ l) one
  some_items x y false xs zs ys ws one two = ap (λ l. refused_item (by_entry h part x) ∷ l) two

  -- and what is answered
  pub answers_entries : (xs back : List Cargo) → all_answers (map (by_entry h part) xs) (items_of back) ≡ items_of (answers_to h part xs back)
  answers_entries [] back = refl
  answers_entries (x ∷ xs) [] = none_items x (goes_on h part x) (answers_to h part xs []) (all_answers (map (by_entry h part) xs) []) (answers_entries xs [])
  answers_entries (x ∷ xs) (y ∷ back) = some_items x y (goes_on h part x) (answers_to h part xs back) (answers_to h part xs (y ∷ back)) (all_answers (map (by_entry h part) xs) (items_of back)) (all_answers (map (by_entry h part) xs) (items_of (y ∷ back))) (answers_entries xs back) (answers_entries xs (y ∷ back))
