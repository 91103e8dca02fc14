-- The good and the bad descriptors of a client, of either sort, by its entries.
use Rattle.std.proofs.Common.{◌≡◌, Bool, true, false, List, [], map, All, refl, sym, ap, ◌∙◌}
use Rattle.std.specs.List.{filter}
use Rattle.cargo_core.specs.Lists.{IsPrefix}
use Rattle.wire_core.specs.declared.names.QueueId.{QueueId}
use Rattle.wire_core.specs.Deeds.{Cargo}
use Rattle.wire_core.specs.Queues.{items_of}
use Rattle.play_core.specs.Moved.{Moved}
use Rattle.play_core.specs.Names.{Names, Wild, by_sort, items_in, named, names_of, told}
use Rattle.play_core.proofs.Naming.{told_is}
use Rattle.net_virt_tx.specs.declared.descriptors.Sender.{Sender}
use Rattle.net_virt_tx.specs.Serving.{bad_ones, is_good_of}
use Rattle.net_law.specs.TxScene.Rows.{bad_in, bads, good_in, goods}
use Rattle.net_law.proofs.TxParts.Items.{all_same, none_bad}
use Rattle.net_law.proofs.TxScene.Telling.{bads_told, goods_told, ship_of}

module _ (wild : Wild) (names : Names) (m : Moved) (s : Sender) (q r : QueueId) (came : List Cargo) (are : m.taken q.0 ≡ items_of came) (tells : wild q.0 ≡ true → IsPrefix (names_of came) (names q.0)) (calm : wild q.0 ≡ false → All (λ (c : Cargo). is_good_of s c ≡ true) came) where
  told_here : wild q.0 ≡ true → named (m.taken q.0) (names q.0) ≡ map told came
  told_here w = ap (λ xs. named xs (names q.0)) are ∙ told_is came names q.0 (tells w)

  goods_by : (w : Bool) → wild q.0 ≡ w → by_sort w (items_in (good_in (ship_of s q r) (named (m.taken q.0) (names q.0)))) (m.taken q.0) ≡ items_of (filter (is_good_of s) came)
  goods_by true w = ap (λ xs. items_in (good_in (ship_of s q r) xs)) (told_here w) ∙ goods_told s q r came
  goods_by false w = are ∙ ap items_of (sym (all_same s came (calm w)))

  pub goods_are : goods wild names m (ship_of s q r) ≡ items_of (filter (is_good_of s) came)
  goods_are = goods_by (wild q.0) refl

  bads_by : (w : Bool) → wild q.0 ≡ w → by_sort w (items_in (bad_in (ship_of s q r) (named (m.taken q.0) (names q.0)))) [] ≡ items_of (bad_ones s came)
  bads_by true w = ap (λ xs. items_in (bad_in (ship_of s q r) xs)) (told_here w) ∙ bads_told s q r came
  bads_by false w = ap items_of (sym (none_bad s came (calm w)))

  pub bads_are : bads wild names m (ship_of s q r) ≡ items_of (bad_ones s came)
  bads_are = bads_by (wild q.0) refl
