-- The requests of a client, of either sort, by its entries.
use Rattle.std.proofs.Common.{◌≡◌, ℕ, Bool, true, false, Option, Some, List, map, slice_get, refl, sym, ap, ◌∙◌, subst}
use Rattle.std.specs.List.{filter}
use Rattle.std.proofs.lemmas.List.Elements.{filter_passes}
use Rattle.cargo_core.specs.Lists.{IsPrefix}
use Rattle.cargo_core.specs.declared.item.Item.{Item}
use Rattle.wire_core.specs.declared.names.QueueId.{QueueId}
use Rattle.wire_core.specs.Deeds.{Cargo}
use Rattle.wire_core.specs.Queues.{items_of}
use Rattle.play_core.specs.Names.{Names, Wild, by_sort, items_in, named, names_of, told}
use Rattle.play_core.proofs.Lists.{map_from}
use Rattle.play_core.proofs.Naming.{told_is}
use Rattle.net_law.proofs.PartsLemmas.Items.{all_at}
use Rattle.blk_mbr.specs.declared.part.Part.{Part}
use Rattle.class_expect.specs.BlkExpect.Replies.{partition_in}
use Rattle.blk_virt.specs.Requests.{is_own}
use Rattle.blk_virt.specs.declared.requests.Holder.{Holder}
use Rattle.blk_law.specs.Sheets.Parts.{Sharer}
use Rattle.blk_law.specs.Sheets.Playing.{holder_pool}
use Rattle.blk_law.specs.Sheets.Rows.{IsRequestIn}
use Rattle.blk_law.specs.VirtScene.Rows.{by_item, by_name, is_own_at, judge, owns}
use Rattle.blk_law.proofs.SheetsLemmas.Virtual.{AreGood, good_in, own_in}
use Rattle.blk_law.proofs.VirtScene.Telling.{by_entry, items_judge, names_judge, owns_told}

-- a client with these queues, as the table has it
abbrev pub sharer_of : Holder → QueueId → QueueId → Sharer
sharer_of h q r = record { req = q.0; resp = r.0; entry = h.partition; pool = holder_pool h }

module _ (image : List ℕ) (wild : Wild) (names : Names) (h : Holder) (q r : QueueId) (came : List Cargo) (tells : wild q.0 ≡ true → IsPrefix (names_of came) (names q.0)) (good : wild q.0 ≡ false → AreGood h came) where
  abbrev part : Option Part
  part = partition_in image h.partition

  told_here : wild q.0 ≡ true → named (items_of came) (names q.0) ≡ map told came
  told_here w = told_is came names q.0 (tells w)

  judge_by : (w : Bool) → wild q.0 ≡ w → by_sort w (map (by_name (holder_pool h) part) (named (items_of came) (names q.0))) (map (by_item part) (items_of came)) ≡ map (by_entry h part) came
  judge_by true w = ap (map (by_name (holder_pool h) part)) (told_here w) ∙ names_judge h part came
  judge_by false w = items_judge h part came (good w)

  pub judge_is : judge image wild names (sharer_of h q r) (items_of came) ≡ map (by_entry h part) came
  judge_is = judge_by (wild q.0) refl

  owns_by : (w : Bool) → wild q.0 ≡ w → (j : ℕ) (x : Item) → slice_get (by_sort w (items_in (filter (is_own_at (holder_pool h)) (named (items_of came) (names q.0)))) (items_of came)) j ≡ Some x → IsRequestIn (holder_pool h) x
  owns_by true w j x at =
      let kept = ap (λ l. items_in (filter (is_own_at (holder_pool h)) l)) (told_here w) ∙ owns_told h part came in
      let f = map_from (λ (y : Cargo). y.0) (filter (is_own h) came) j x (ap (λ l. slice_get l j) (sym kept) ∙ at) in
      let own = all_at (λ (y : Cargo). is_own h y ≡ true) (filter (is_own h) came) (filter_passes (is_own h) came) j f.0 f.1 in
      subst (IsRequestIn (holder_pool h)) f.2 (λ moves. own_in h f.0 own)
  owns_by false w j x at =
      let f = map_from (λ (y : Cargo). y.0) came j x at in
      subst (IsRequestIn (holder_pool h)) f.2 (good_in h f.0 (good w j f.0 f.1))

  pub owns_in : (j : ℕ) (x : Item) → slice_get (owns wild names (sharer_of h q r) (items_of came)) j ≡ Some x → IsRequestIn (holder_pool h) x
  owns_in = owns_by (wild q.0) refl
