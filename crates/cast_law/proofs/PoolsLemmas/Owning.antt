-- The journal of a cast has one owner of each buffer, where each of its actors may put only what was
-- in its hand.
use Rattle.std.proofs.Common.{◌≡◌, ◌⊎◌, ◌+◌, ◌-◌, ◌*◌, ◌++◌, ◌<◌, ◌≤◌, ℕ, false, true, Option, None, Some, List, [], length, slice_get, refl, sym, ap, ◌∙◌, subst, arith, inl, inr}
use Rattle.std.proofs.lemmas.Bool.{cases_lt}
use Rattle.cargo_core.specs.Lists.{IsPrefix}
use Rattle.wire_core.specs.declared.names.QueueRow.{QueueRow}
use Rattle.wire_core.specs.declared.names.Entry.{Entry}
use Rattle.wire_core.specs.Ends.{Consumer}
use Rattle.wire_core.specs.Journal.{History, Hostiles, LegalJournal, QueuesFlow, EachMoment, start_history, owner_of}
use Rattle.play_core.specs.Moved.{Moved, moved}
use Rattle.play_core.specs.Sheets.{Scene, AreSeated, AreFilled, AreApart, RowsHold}
use Rattle.play_core.specs.Still.{Holds, IsPeopled}
use Rattle.play_core.specs.Wants.{intake}
use Rattle.play_core.proofs.Lists.{some_is, map_from, there_is, there_below}
use Rattle.play_core.proofs.Moments.{each_moment}
use Rattle.owner_law.specs.Things.{Window, NoBuffers, Answers, Naming}
use Rattle.owner_law.specs.Owners.{Table, AreCounted}
use Rattle.owner_law.specs.Keeping.{Keeper, keeper_of, Keeps, IsKept, IsNaming, IsOwned, IsShownBy, all_taken, all_put, is_lending, start_table}
use Rattle.owner_law.proofs.Casts.{cast_keepers}
use Rattle.owner_law.proofs.Starts.{start_shown}
use Rattle.net_law.specs.Parts.Numbers.{client_first}
use Rattle.net_law.specs.TxParts.Numbers.{NetPlace}
use Rattle.owner_law.specs.Pools.Places.{AreNumbered}
use Rattle.net_quiet.proofs.PoolsLemmas.Listing.{layout_names, past}
use Rattle.owner_law.proofs.PoolsLemmas.Sizing.{spread_dealt}
use Rattle.blk_law.specs.Sheets.Numbers.{BlkPlace}
use Rattle.blk_law.specs.Owners.Answering.{IsInOrder, PutsItsOwnInOrder}
use Rattle.blk_quiet.proofs.PoolsLemmas.Sizing.{IsAnswer, blk_past, blk_keeps}
use Rattle.actor_set.specs.Parts.{Part}
use Rattle.actor_set.specs.Laws.Kinds.{AllCalm, sheet, scene_of, hostiles}
use Rattle.actor_set.proofs.LawsLemmas.Calm.{calm_row}
use Rattle.wired_law.specs.Wiring.{HasBlk}
use Rattle.cast_law.specs.Pools.Places.{HasNetAt, HasBlkAt, first_naming, behind, pools_first, pools_behind}
use Rattle.cast_law.specs.Pools.Pooling.{keepers_at, IsKindly, AreKindly}
use Rattle.cast_law.proofs.PoolsLemmas.Table.{at_receiver, lease_back}
use Rattle.cast_law.proofs.PoolsLemmas.Blocks.{blk_ends}
use Rattle.cast_law.proofs.PoolsLemmas.Naming.{before_is, from_is}
use Rattle.cast_law.proofs.PoolsLemmas.Ordering.{no_answer, answers_behind, in_order}
use Rattle.cast_law.proofs.PoolsLemmas.Dealing.{owner, are_spread}

module _ (rows : List QueueRow) (cast : List Part) (calm : AllCalm cast) (seated : AreSeated (sheet (scene_of cast)) rows cast) where
  abbrev scene : Scene
  scene = scene_of cast

  abbrev hostile : Hostiles
  hostile = hostiles cast

  -- the actor that lends: the receiving virtualiser
  abbrev pub lender_at : (n : Option NetPlace) → HasNetAt rows n cast → ℕ
  lender_at None none = 0
  lender_at (Some net) has = (at_receiver rows net cast calm has.0 has.1).0

  pub net_many : (net : NetPlace) → HasNetAt rows (Some net) cast → 8 + 6 * length net.pools ≤ length rows
  net_many net has =
      let last = has.0.kinds (7 + 6 * length net.macs) (omega arith) in
      let below = there_below rows (net.first + (7 + 6 * length net.macs)) last.0 last.1 in
      omega (arith, below, has.0.pools_many)

  pub blk_many : (blk : BlkPlace) → HasBlk rows blk cast → blk.first + 4 + 2 * length blk.pools ≤ length rows
  blk_many blk has =
      let n = blk.first + 3 + 2 * length blk.pools in
      let x = blk_ends rows blk cast calm has n Consumer (omega arith) (omega arith) in
      let seat = seated x.0 _ x.3 x.2 (intake n) x.4 in
      let below = there_below rows n seat.0 seat.1 in
      omega (arith, below)

  net_is : (net : NetPlace) (has : HasNetAt rows (Some net) cast) → IsNaming (first_naming scene (Some net)) (lender_at (Some net) has) hostile rows
  net_is net has =
      layout_names scene net.pool net.macs net.pools (lender_at (Some net) has) hostile rows (net_many net has)
      (λ q row at. calm_row cast calm row)
      (λ row at. let seat = seated (lender_at (Some net) has) _ (at_receiver rows net cast calm has.0 has.1).1 0 (intake 4) refl in ap (λ r. owner_of r Consumer) (some_is (sym at ∙ seat.1)) ∙ seat.2)
      (λ k row lt at. back k row (omega (arith, lt, has.0.pools_many)) at)
    where
      back : (k : ℕ) (row : QueueRow) → k < length net.macs → slice_get rows (client_first 0 k + 1) ≡ Some row → owner_of row Consumer ≡ lender_at (Some net) has
      back k row lt at =
          let e = lease_back rows net cast calm has.0 has.1 k lt in
          let seat = seated (lender_at (Some net) has) _ (at_receiver rows net cast calm has.0 has.1).1 e.0 (intake (client_first 0 k + 1)) e.1 in
          ap (λ r. owner_of r Consumer) (some_is (sym at ∙ seat.1)) ∙ seat.2

  module _ (n : Option NetPlace) (b : Option BlkPlace) (has_net : HasNetAt rows n cast) (has_blk : HasBlkAt rows b cast) where
    abbrev naming : Naming
    naming = behind (first_naming scene n) b

    -- nothing is named past the rows
    first_past : (o : Option NetPlace) → HasNetAt rows o cast → (q : ℕ) → length rows ≤ q → first_naming scene o q ≡ NoBuffers
    first_past None none q le = refl
    first_past (Some net) has q le = let many = net_many net has in past scene net.pool net.macs net.pools q (omega (arith, le, many))

    all_past : (o : Option BlkPlace) → HasBlkAt rows o cast → (q : ℕ) → length rows ≤ q → behind (first_naming scene n) o q ≡ NoBuffers
    all_past None none q le = first_past n has_net q le
    all_past (Some blk) has q le =
        let many = blk_many blk has.0 in
        from_is (first_naming scene n) blk q (omega (arith, le, many)) ∙ blk_past blk (q - blk.first) (omega (arith, le, many))

    -- one actor lends
    first_lends : (o : Option NetPlace) (has : HasNetAt rows o cast) (q : ℕ) (row : QueueRow) → slice_get rows q ≡ Some row → is_lending (first_naming scene o q) ≡ true → owner_of row Consumer ≡ lender_at o has
    first_lends None none q row at is = cc
    first_lends (Some net) has q row at is = (net_is net has).lends q row at is

    all_lend : (o : Option BlkPlace) (q : ℕ) (row : QueueRow) → slice_get rows q ≡ Some row → is_lending (behind (first_naming scene n) o q) ≡ true → owner_of row Consumer ≡ lender_at n has_net
    all_lend None q row at is = first_lends n has_net q row at is
    all_lend (Some blk) q row at is = by (cases_lt q blk.first)
      where
        by : (q < blk.first) ⊎ (blk.first ≤ q) → owner_of row Consumer ≡ lender_at n has_net
        by (inl lt) = first_lends n has_net q row at (ap is_lending (sym (before_is (first_naming scene n) blk q lt)) ∙ is)
        by (inr le) =
            let off : is_lending (behind (first_naming scene n) (Some blk) q) ≡ false = ap is_lending (from_is (first_naming scene n) blk q le) ∙ blk_keeps blk (q - blk.first) in
            cc

    no_self : (o : Option BlkPlace) (q r : ℕ) (ws : List Window) → behind (first_naming scene n) o q ≡ Answers r ws → q ≡ r → ⊥
    no_self None q r ws is same = no_answer scene n q r ws is
    no_self (Some blk) q r ws is same = let x = answers_behind (first_naming scene n) blk q r ws (no_answer scene n) is in by x.0 x.1 x.2
      where
        by : (i : ℕ) → q ≡ blk.first + i → IsAnswer blk i r → ⊥
        by i e (inl h) = let a = h.0 in let c = h.1 in omega (arith, same, e, a, c)
        by i e (inr (inl h)) = let a = h.0 in let c = h.1 in omega (arith, same, e, a, c)
        by i e (inr (inr x)) = let a = x.2 in let c = x.3 in omega (arith, same, e, a, c)

    pub naming_is : IsNaming naming (lender_at n has_net) hostile rows
    naming_is = record {
      calm = λ q. here q (cases_lt q (length rows));
      lends = all_lend b;
      answers = no_self b;
    }
      where
        here : (q : ℕ) → (q < length rows) ⊎ (length rows ≤ q) → (naming q ≡ NoBuffers) ⊎ Holds hostile rows q 0
        here q (inl lt) =
            let row = there_is rows q lt in
            inr (record { row = row.0; there = row.1; calm = calm_row cast calm row.0; enough = omega arith })
        here q (inr le) = inl (all_past b has_blk q le)

    -- a journal of actors that may put only what was in their hands
    module _ (lender : ℕ) (is : IsNaming naming lender hostile rows) (history : History) (start : Table) (journal : List Entry) (filled : AreFilled (sheet scene) rows cast) (peopled : IsPeopled rows (length cast)) (apart : (k : ℕ) (p : Part) → slice_get cast k ≡ Some p → AreApart (sheet scene p).ends) (own : (k : ℕ) (p : Part) → slice_get cast k ≡ Some p → PutsItsOwnInOrder naming (sheet scene p))
        (legal : LegalJournal hostile history rows journal) (flows : EachMoment (QueuesFlow history rows) journal) (rows_hold : EachMoment (λ j. RowsHold (sheet scene) hostile cast (moved history j)) journal) (kindly : EachMoment (AreKindly history rows) journal) (counted : AreCounted start) (shown : IsShownBy naming lender (keepers_at cast) (moved history []) start) where
      over : (j : List Entry) → QueuesFlow history rows j → AreKindly history rows j → (q : ℕ) → IsPrefix ((moved history j).taken q) ((moved history j).sent q)
      over j flow kindly q = by (slice_get rows q) refl (kindly q)
        where
          by : (o : Option QueueRow) → slice_get rows q ≡ o → IsKindly o ((moved history j).sent q) ((moved history j).taken q) → IsPrefix ((moved history j).taken q) ((moved history j).sent q)
          by (Some row) at kinds = (flow q row at).begins
          by None at kinds = kinds

      kept_at : (j : List Entry) → RowsHold (sheet scene) hostile cast (moved history j) → QueuesFlow history rows j × AreKindly history rows j → IsKept naming hostile history rows (keepers_at cast) j
      kept_at j hold both =
          let m : Moved = moved history j in
          let order : IsInOrder naming m = in_order rows n cast calm m hold (over j both.0 both.1) b has_blk (λ q row at. subst (λ o. IsKindly o (m.sent q) (m.taken q)) at (both.1 q)) in
          record {
            keeps = λ k p calm at.
                let x = map_from (λ y. keeper_of (sheet scene y)) cast k p at in
                subst (λ (y : Keeper). Keeps y.hand (all_taken naming m y.ends) (all_put naming m y.ends)) x.2 (own k x.0 x.1 m order (apart k x.0 x.1) (hold k x.0 calm x.1));
            flows = both.0;
            answers = order.answered;
          }

      pub owned : IsOwned naming lender hostile history rows (keepers_at cast) start journal
      owned = record {
        naming_is = is;
        keepers_are = cast_keepers (sheet scene) cast apart rows seated filled peopled;
        legal = legal;
        kept = each_moment (λ j. RowsHold (sheet scene) hostile cast (moved history j)) (λ j. QueuesFlow history rows j × AreKindly history rows j) (IsKept naming hostile history rows (keepers_at cast)) kept_at journal rows_hold
            (each_moment (QueuesFlow history rows) (AreKindly history rows) (λ j. QueuesFlow history rows j × AreKindly history rows j) (λ j f k. (f, k)) journal flows kindly);
        counted = counted;
        shown = shown;
      }

    -- at the start state, where each pool's buffers are in its owner's hand, the lists show that
    pub shown_anew : AreNumbered (pools_first n ++ pools_behind b) → IsShownBy naming (lender_at n has_net) (keepers_at cast) (moved (start_history rows) []) (start_table (keepers_at cast))
    shown_anew numbered = start_shown naming (lender_at n has_net) rows (keepers_at cast) (spread_dealt _ (owner rows cast calm seated n b has_net has_blk numbered) (keepers_at cast) (are_spread rows cast calm seated n b has_net has_blk numbered))
