-- Where no client is hostile, the table is the one without names.
use Rattle.std.proofs.Common.{◌≡◌, ◌+◌, ◌&&◌, ℕ, Bool, true, false, not, cond, nat_lt, Option, Some, List, [], ◌∷◌, length, map, flat_map, slice_get, refl, sym, ap, ap₂, ◌∙◌, subst}
use Rattle.std.specs.List.{filter}
use Rattle.std.specs.Prelude.{drop, if◌then◌else◌}
use Rattle.cargo_core.specs.Lists.{IsPrefix, PrefixMerge}
use Rattle.cargo_core.specs.declared.item.Item.{Item}
use Rattle.play_core.specs.Moved.{Moved}
use Rattle.play_core.specs.Names.{Names, Wild, by_sort, items_in, named}
use Rattle.play_core.specs.Sheets.{Due, Scene}
use Rattle.play_core.specs.Totals.{total}
use Rattle.play_core.specs.Wants.{intake_want, outlet_want}
use Rattle.play_core.proofs.Lists.{map_alike}
use Rattle.owner_law.specs.Pools.Places.{PoolAt}
use Rattle.net_law.proofs.PartsLemmas.Pairs.{flat_alike}
use Rattle.blk_mbr.specs.declared.part.Part.{Part}
use Rattle.class_expect.specs.BlkExpect.Replies.{partition_in}
use Rattle.blk_virt.specs.Requests.{is_ok, request_of}
use Rattle.blk_law.specs.Sheets.Parts.{BlkPart, DiskDevice, BlkDriver, BlkVirt, BlkClient, Sharer}
use Rattle.blk_law.specs.Sheets.Rows.{ServesRequests, all_requests, answer_items, answers_due, goes_on_item, item_for_disk, items_back, numbered_item, passed_item, refusal_item, requests_on}
use Rattle.blk_law.specs.Sheets.Table.{blk_sheet, sharer_wants}
use Rattle.blk_law.specs.VirtScene.Rows.{AnswersBoth, Judged, all_answers, all_told, answers_told, by_item, by_name, going_on, is_own_at, judge, owns, requests_told}
use Rattle.blk_law.specs.VirtScene.Table.{AreCalm, NoneWild, both_sheet, told_wants, virt_sheet}

-- what goes on of requests that are judged as their client's own
on_calm : (base : ℕ) (part : Option Part) (items : List Item) → going_on base part (map (by_item part) items) ≡ map (item_for_disk base part) (filter (goes_on_item part) items)
on_calm base part [] = refl
on_calm base part (i ∷ items) = by (goes_on_item part i) (on_calm base part items)
  where
    by : (t : Bool) → going_on base part (map (by_item part) items) ≡ map (item_for_disk base part) (filter (goes_on_item part) items)
        → map (λ (j : Judged). item_for_disk base part j.0) (cond t (by_item part i ∷ filter (λ (j : Judged). is_ok j.1) (map (by_item part) items)) (filter (λ (j : Judged). is_ok j.1) (map (by_item part) items))) ≡ map (item_for_disk base part) (cond t (i ∷ filter (goes_on_item part) items) (filter (goes_on_item part) items))
    by true rest = ap (λ l. item_for_disk base part i ∷ l) rest
    by false rest = rest

-- and what is answered
answers_calm : (part : Option Part) (items back : List Item) → all_answers (map (by_item part) items) back ≡ answer_items part items back
answers_calm part [] back = refl
answers_calm part (i ∷ items) [] = ap (λ (l : List Item). if goes_on_item part i then [] else (refusal_item part i ∷ l)) (answers_calm part items [])
answers_calm part (i ∷ items) (y ∷ back) = ap₂ (λ (l m : List Item). if goes_on_item part i then (passed_item (request_of i).id y ∷ l) else (refusal_item part i ∷ m)) (answers_calm part items back) (answers_calm part items (y ∷ back))

module _ (image : List ℕ) (wild : Wild) (names : Names) (req resp : ℕ) (pool : PoolAt) (clients : List Sharer) (m : Moved) (calm : AreCalm wild clients) where
  judge_is : (k : ℕ) (c : Sharer) → slice_get clients k ≡ Some c → judge image wild names c (m.taken c.req) ≡ map (by_item (partition_in image c.entry)) (m.taken c.req)
  judge_is k c at = ap (λ w. by_sort w (map (by_name c.pool (partition_in image c.entry)) (named (m.taken c.req) (names c.req))) (map (by_item (partition_in image c.entry)) (m.taken c.req))) (calm k c at)

  owns_is : (k : ℕ) (c : Sharer) → slice_get clients k ≡ Some c → owns wild names c (m.taken c.req) ≡ m.taken c.req
  owns_is k c at = ap (λ w. by_sort w (items_in (filter (is_own_at c.pool) (named (m.taken c.req) (names c.req)))) (m.taken c.req)) (calm k c at)

  told_is : all_told image wild names clients m ≡ all_requests image clients m
  told_is = map_alike (requests_told image wild names m) (requests_on image m) clients (λ k c at. ap (going_on c.pool.base (partition_in image c.entry)) (judge_is k c at) ∙ on_calm c.pool.base (partition_in image c.entry) (m.taken c.req))

  answers_is : (k : ℕ) (c : Sharer) → slice_get clients k ≡ Some c → answers_told image wild names req resp m c ≡ answers_due image req resp m c
  answers_is k c at = ap (λ js. all_answers js (items_back c.pool (drop 1 (m.sent req)) (drop 1 (m.taken resp)))) (judge_is k c at) ∙ answers_calm (partition_in image c.entry) (m.taken c.req) (items_back c.pool (drop 1 (m.sent req)) (drop 1 (m.taken resp)))

  virt_row : AnswersBoth image wild names req resp pool clients m → ServesRequests image req resp pool clients m
  virt_row h = record {
    first = h.first;
    numbers = h.numbers;
    merges = subst (λ ls. PrefixMerge ls (map (numbered_item 0) (drop 1 (m.sent req)))) told_is h.merges;
    answered = h.answered;
    waits = h.waits;
    gives = λ k c at. subst (IsPrefix (m.sent c.resp)) (answers_is k c at) (h.gives k c at);
    one = h.one;
    came = λ k c at j i i_at. h.came k c at j i (ap (λ xs. slice_get xs j) (owns_is k c at) ∙ i_at);
  }

  virt_back : ServesRequests image req resp pool clients m → AnswersBoth image wild names req resp pool clients m
  virt_back h = record {
    first = h.first;
    numbers = h.numbers;
    merges = subst (λ ls. PrefixMerge ls (map (numbered_item 0) (drop 1 (m.sent req)))) (sym told_is) h.merges;
    answered = h.answered;
    waits = h.waits;
    gives = λ k c at. subst (IsPrefix (m.sent c.resp)) (sym (answers_is k c at)) (h.gives k c at);
    one = h.one;
    came = λ k c at j i i_at. h.came k c at j i (ap (λ xs. slice_get xs j) (sym (owns_is k c at)) ∙ i_at);
  }

  virt_wants : (virt_sheet image wild names req resp pool clients).wants m ≡ intake_want resp true ∷ outlet_want req (nat_lt (length (m.sent req)) (1 + total (all_requests image clients m))) ∷ flat_map (sharer_wants image req resp m) clients
  virt_wants =
      ap (λ ls. intake_want resp true ∷ outlet_want req (nat_lt (length (m.sent req)) (1 + total ls)) ∷ flat_map (told_wants image wild names req resp m) clients) told_is
      ∙ ap (λ ws. intake_want resp true ∷ outlet_want req (nat_lt (length (m.sent req)) (1 + total (all_requests image clients m))) ∷ ws)
      (flat_alike (told_wants image wild names req resp m) (sharer_wants image req resp m) clients
      (λ k c at. ap (λ (l : List Item). intake_want c.req (nat_lt 0 (length (m.taken resp)) && not (nat_lt (length (m.sent c.resp)) (length (m.taken c.req)))) ∷ outlet_want c.resp (nat_lt (length (m.sent c.resp)) (length l)) ∷ []) (answers_is k c at)))

  virt_dues : (virt_sheet image wild names req resp pool clients).dues m ≡ (let d : Due = record { queue = req; number = 1 + total (all_requests image clients m) } in d ∷ map (λ (c : Sharer). let d : Due = record { queue = c.resp; number = length (answers_due image req resp m c) } in d) clients)
  virt_dues =
      ap₂ (λ (n : ℕ) (ds : List Due). let d : Due = record { queue = req; number = n } in d ∷ ds) (ap (λ l. 1 + total l) told_is)
      (map_alike (λ (c : Sharer). let d : Due = record { queue = c.resp; number = length (answers_told image wild names req resp m c) } in d) (λ (c : Sharer). let d : Due = record { queue = c.resp; number = length (answers_due image req resp m c) } in d) clients
      (λ k c at. ap (λ (l : List Item). let d : Due = record { queue = c.resp; number = length l } in d) (answers_is k c at)))

module _ (scene : Scene) (wild : Wild) (names : Names) where
  pub calm_row : (p : BlkPart) (m : Moved) → NoneWild wild p → (both_sheet scene wild names p).row m → (blk_sheet scene p).row m
  calm_row (DiskDevice req resp image) m calm h = h
  calm_row (BlkDriver ways) m calm h = h
  calm_row (BlkVirt req resp sectors pool clients) m calm h = virt_row scene.image wild names req resp pool clients m calm h
  calm_row (BlkClient req resp asks pool) m calm h = h

  pub row_calm : (p : BlkPart) (m : Moved) → NoneWild wild p → (blk_sheet scene p).row m → (both_sheet scene wild names p).row m
  row_calm (DiskDevice req resp image) m calm h = h
  row_calm (BlkDriver ways) m calm h = h
  row_calm (BlkVirt req resp sectors pool clients) m calm h = virt_back scene.image wild names req resp pool clients m calm h
  row_calm (BlkClient req resp asks pool) m calm h = h

  pub calm_wants : (p : BlkPart) (m : Moved) → NoneWild wild p → (both_sheet scene wild names p).wants m ≡ (blk_sheet scene p).wants m
  calm_wants (DiskDevice req resp image) m calm = refl
  calm_wants (BlkDriver ways) m calm = refl
  calm_wants (BlkVirt req resp sectors pool clients) m calm = virt_wants scene.image wild names req resp pool clients m calm
  calm_wants (BlkClient req resp asks pool) m calm = refl

  pub calm_dues : (p : BlkPart) (m : Moved) → NoneWild wild p → (both_sheet scene wild names p).dues m ≡ (blk_sheet scene p).dues m
  calm_dues (DiskDevice req resp image) m calm = refl
  calm_dues (BlkDriver ways) m calm = refl
  calm_dues (BlkVirt req resp sectors pool clients) m calm = virt_dues scene.image wild names req resp pool clients m calm
  calm_dues (BlkClient req resp asks pool) m calm = refl
