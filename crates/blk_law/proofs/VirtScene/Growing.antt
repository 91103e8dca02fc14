-- What is said of an actor stays as more names are told.
use Rattle.std.proofs.Common.{◌≡◌, ◌≤◌, ◌+◌, ◌&&◌, not, ℕ, Bool, true, false, Some, List, [], ◌∷◌, length, map, flat_map, nat_lt, slice_get, refl, sym, ap, ap₂, ◌∙◌, subst}
use Rattle.std.specs.List.{filter}
use Rattle.std.specs.Prelude.{drop}
use Rattle.cargo_core.specs.Lists.{IsPrefix, PrefixMerge}
use Rattle.cargo_core.specs.declared.item.Item.{Item}
use Rattle.play_core.specs.Growing.{Stays}
use Rattle.play_core.specs.Moved.{Moved}
use Rattle.play_core.specs.Names.{GrowsTo, Names, Wild, by_sort, items_in, named}
use Rattle.play_core.specs.Sheets.{Due, IsOwn, NeedsFollow, Scene}
use Rattle.play_core.specs.Totals.{total}
use Rattle.play_core.specs.Wants.{intake_want, outlet_want}
use Rattle.play_core.proofs.Lists.{map_alike}
use Rattle.play_core.proofs.Naming.{still_named}
use Rattle.owner_law.specs.Pools.Places.{PoolAt}
use Rattle.net_law.proofs.PartsLemmas.Pairs.{flat_alike}
use Rattle.class_expect.specs.BlkExpect.Replies.{partition_in}
use Rattle.blk_law.specs.Sheets.Parts.{BlkPart, DiskDevice, BlkDriver, BlkVirt, BlkClient, Sharer}
use Rattle.blk_law.specs.Sheets.Rows.{items_back, numbered_item}
use Rattle.blk_law.specs.VirtScene.Rows.{AnswersBoth, all_answers, all_told, answers_told, by_item, by_name, going_on, is_own_at, judge, owns, requests_told, told_due}
use Rattle.blk_law.specs.VirtScene.Table.{AreTold, LiesWithin, both_sheet, told_wants, virt_sheet}
use Rattle.blk_law.proofs.SheetsLemmas.Following.{blk_follows, blk_own}
use Rattle.blk_law.proofs.VirtScene.Following.{virt_follows, virt_own}

-- a row told otherwise, client by client
module _ (image : List ℕ) (wild : Wild) (names grown : Names) (req resp : ℕ) (pool : PoolAt) (clients : List Sharer) (m : Moved) (judged_same : (k : ℕ) (c : Sharer) → slice_get clients k ≡ Some c → judge image wild names c (m.taken c.req) ≡ judge image wild grown c (m.taken c.req)) where
  told_same : all_told image wild names clients m ≡ all_told image wild grown clients m
  told_same = map_alike (requests_told image wild names m) (requests_told image wild grown m) clients (λ k c at. ap (going_on c.pool.base (partition_in image c.entry)) (judged_same k c at))

  answers_same : (k : ℕ) (c : Sharer) → slice_get clients k ≡ Some c → answers_told image wild names req resp m c ≡ answers_told image wild grown req resp m c
  answers_same k c at = ap (λ js. all_answers js (items_back c.pool (drop 1 (m.sent req)) (drop 1 (m.taken resp)))) (judged_same k c at)

  pub wants_told : (virt_sheet image wild names req resp pool clients).wants m ≡ (virt_sheet image wild grown req resp pool clients).wants m
  wants_told =
      ap (λ n. intake_want resp true ∷ outlet_want req (nat_lt (length (m.sent req)) n) ∷ flat_map (told_wants image wild names req resp m) clients) (ap (λ l. 1 + total l) told_same)
      ∙ ap (λ ws. intake_want resp true ∷ outlet_want req (nat_lt (length (m.sent req)) (told_due image wild grown clients m)) ∷ ws)
      (flat_alike (told_wants image wild names req resp m) (told_wants image wild grown req resp m) clients
      (λ k c at. ap (λ (l : List Item). intake_want c.req (nat_lt 0 (length (m.taken resp)) && not (nat_lt (length (m.sent c.resp)) (length (m.taken c.req)))) ∷ outlet_want c.resp (nat_lt (length (m.sent c.resp)) (length l)) ∷ []) (answers_same k c at)))

  pub dues_told : (virt_sheet image wild names req resp pool clients).dues m ≡ (virt_sheet image wild grown req resp pool clients).dues m
  dues_told =
      ap₂ (λ (n : ℕ) (ds : List Due). let d : Due = record { queue = req; number = n } in d ∷ ds) (ap (λ l. 1 + total l) told_same)
      (map_alike (λ (c : Sharer). let d : Due = record { queue = c.resp; number = length (answers_told image wild names req resp m c) } in d) (λ (c : Sharer). let d : Due = record { queue = c.resp; number = length (answers_told image wild grown req resp m c) } in d) clients
      (λ k c at. ap (λ (l : List Item). let d : Due = record { queue = c.resp; number = length l } in d) (answers_same k c at)))

  pub row_told : ((k : ℕ) (c : Sharer) → slice_get clients k ≡ Some c → owns wild names c (m.taken c.req) ≡ owns wild grown c (m.taken c.req)) → AnswersBoth image wild names req resp pool clients m → AnswersBoth image wild grown req resp pool clients m
  row_told owns_same h = record {
    first = h.first;
    numbers = h.numbers;
    merges = subst (λ ls. PrefixMerge ls (map (numbered_item 0) (drop 1 (m.sent req)))) told_same h.merges;
    answered = h.answered;
    waits = h.waits;
    gives = λ k c at. subst (IsPrefix (m.sent c.resp)) (answers_same k c at) (h.gives k c at);
    one = h.one;
    came = λ k c at j i i_at. h.came k c at j i (ap (λ xs. slice_get xs j) (owns_same k c at) ∙ i_at);
  }

module _ (image : List ℕ) (wild : Wild) (names grown : Names) (grows : GrowsTo names grown) (req resp : ℕ) (pool : PoolAt) (clients : List Sharer) (m : Moved) (within : AreTold wild names clients m) where
  judge_by : (c : Sharer) (w : Bool) → (w ≡ true → length (m.taken c.req) ≤ length (names c.req)) → by_sort w (map (by_name c.pool (partition_in image c.entry)) (named (m.taken c.req) (names c.req))) (map (by_item (partition_in image c.entry)) (m.taken c.req)) ≡ by_sort w (map (by_name c.pool (partition_in image c.entry)) (named (m.taken c.req) (grown c.req))) (map (by_item (partition_in image c.entry)) (m.taken c.req))
  judge_by c true few = ap (map (by_name c.pool (partition_in image c.entry))) (still_named names grown grows (m.taken c.req) c.req (few refl))
  judge_by c false few = refl

  judge_stays : (k : ℕ) (c : Sharer) → slice_get clients k ≡ Some c → judge image wild names c (m.taken c.req) ≡ judge image wild grown c (m.taken c.req)
  judge_stays k c at = judge_by c (wild c.req) (within k c at)

  owns_by : (c : Sharer) (w : Bool) → (w ≡ true → length (m.taken c.req) ≤ length (names c.req)) → by_sort w (items_in (filter (is_own_at c.pool) (named (m.taken c.req) (names c.req)))) (m.taken c.req) ≡ by_sort w (items_in (filter (is_own_at c.pool) (named (m.taken c.req) (grown c.req)))) (m.taken c.req)
  owns_by c true few = ap (λ xs. items_in (filter (is_own_at c.pool) xs)) (still_named names grown grows (m.taken c.req) c.req (few refl))
  owns_by c false few = refl

  owns_stay : (k : ℕ) (c : Sharer) → slice_get clients k ≡ Some c → owns wild names c (m.taken c.req) ≡ owns wild grown c (m.taken c.req)
  owns_stay k c at = owns_by c (wild c.req) (within k c at)

  virt_row : (virt_sheet image wild names req resp pool clients).row m → (virt_sheet image wild grown req resp pool clients).row m
  virt_row = row_told image wild names grown req resp pool clients m judge_stays owns_stay

  virt_back : (virt_sheet image wild grown req resp pool clients).row m → (virt_sheet image wild names req resp pool clients).row m
  virt_back = row_told image wild grown names req resp pool clients m (λ k c at. sym (judge_stays k c at)) (λ k c at. sym (owns_stay k c at))

  virt_wants : (virt_sheet image wild names req resp pool clients).wants m ≡ (virt_sheet image wild grown req resp pool clients).wants m
  virt_wants = wants_told image wild names grown req resp pool clients m judge_stays

  virt_dues : (virt_sheet image wild names req resp pool clients).dues m ≡ (virt_sheet image wild grown req resp pool clients).dues m
  virt_dues = dues_told image wild names grown req resp pool clients m judge_stays

module _ (scene : Scene) (wild : Wild) where
  pub both_own : (names : Names) (p : BlkPart) → IsOwn (both_sheet scene wild names p)
  both_own names (DiskDevice req resp image) = blk_own scene (DiskDevice req resp image)
  both_own names (BlkDriver ways) = blk_own scene (BlkDriver ways)
  both_own names (BlkVirt req resp sectors pool clients) = virt_own scene.image wild names req resp pool clients
  both_own names (BlkClient req resp asks pool) = blk_own scene (BlkClient req resp asks pool)

  pub both_follows : (names : Names) (p : BlkPart) → NeedsFollow (both_sheet scene wild names p)
  both_follows names (DiskDevice req resp image) = blk_follows scene (DiskDevice req resp image)
  both_follows names (BlkDriver ways) = blk_follows scene (BlkDriver ways)
  both_follows names (BlkVirt req resp sectors pool clients) = virt_follows scene.image wild names req resp pool clients
  both_follows names (BlkClient req resp asks pool) = blk_follows scene (BlkClient req resp asks pool)

  row_stays : (names grown : Names) → GrowsTo names grown → (p : BlkPart) (m : Moved) → LiesWithin wild names p m → (both_sheet scene wild names p).row m → (both_sheet scene wild grown p).row m
  row_stays names grown grows (DiskDevice req resp image) m within h = h
  row_stays names grown grows (BlkDriver ways) m within h = h
  row_stays names grown grows (BlkVirt req resp sectors pool clients) m within h = virt_row scene.image wild names grown grows req resp pool clients m within h
  row_stays names grown grows (BlkClient req resp asks pool) m within h = h

  row_stood : (names grown : Names) → GrowsTo names grown → (p : BlkPart) (m : Moved) → LiesWithin wild names p m → (both_sheet scene wild grown p).row m → (both_sheet scene wild names p).row m
  row_stood names grown grows (DiskDevice req resp image) m within h = h
  row_stood names grown grows (BlkDriver ways) m within h = h
  row_stood names grown grows (BlkVirt req resp sectors pool clients) m within h = virt_back scene.image wild names grown grows req resp pool clients m within h
  row_stood names grown grows (BlkClient req resp asks pool) m within h = h

  wants_stay : (names grown : Names) → GrowsTo names grown → (p : BlkPart) (m : Moved) → LiesWithin wild names p m → (both_sheet scene wild names p).wants m ≡ (both_sheet scene wild grown p).wants m
  wants_stay names grown grows (DiskDevice req resp image) m within = refl
  wants_stay names grown grows (BlkDriver ways) m within = refl
  wants_stay names grown grows (BlkVirt req resp sectors pool clients) m within = virt_wants scene.image wild names grown grows req resp pool clients m within
  wants_stay names grown grows (BlkClient req resp asks pool) m within = refl

  dues_stay : (names grown : Names) → GrowsTo names grown → (p : BlkPart) (m : Moved) → LiesWithin wild names p m → (both_sheet scene wild names p).dues m ≡ (both_sheet scene wild grown p).dues m
  dues_stay names grown grows (DiskDevice req resp image) m within = refl
  dues_stay names grown grows (BlkDriver ways) m within = refl
  dues_stay names grown grows (BlkVirt req resp sectors pool clients) m within = virt_dues scene.image wild names grown grows req resp pool clients m within
  dues_stay names grown grows (BlkClient req resp asks pool) m within = refl

  pub both_stays : Stays (both_sheet scene wild) (LiesWithin wild)
  both_stays = record { row = row_stays; back = row_stood; wants = wants_stay; dues = dues_stay }
