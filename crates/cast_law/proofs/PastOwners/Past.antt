-- A cast at play before its journal begins: by its actors' lists each buffer has one place.
use Rattle.std.proofs.Common.{◌≡◌, ◌⊎◌, ◌<◌, ◌≤◌, ℕ, Option, None, Some, List, [], ◌∷◌, length, map, slice_get, refl, sym, ◌∙◌, subst, arith, inl, inr}
use Rattle.std.proofs.lemmas.Bool.{cases_lt}
use Rattle.std.proofs.lemmas.List.{length-map}
use Rattle.cargo_core.specs.Lists.{IsPrefix}
use Rattle.wire_core.specs.declared.names.PoolRow.{PoolRow}
use Rattle.wire_core.specs.declared.names.QueueRow.{QueueRow}
use Rattle.wire_core.specs.Journal.{History, Hostiles}
use Rattle.wire_core.specs.Lists.{Passed}
use Rattle.wire_core.specs.Queues.{Queue, end_at}
use Rattle.play_core.specs.Moved.{Moved, moved}
use Rattle.play_core.specs.Sheets.{Scene, AreApart}
use Rattle.play_core.specs.Still.{IsPeopled}
use Rattle.play_core.proofs.Lists.{map_get, map_from, there_below}
use Rattle.owner_law.specs.Things.{Naming}
use Rattle.owner_law.specs.Keeping.{Keeper, keeper_of, Keeps, all_taken, all_put, start_table, AreDealt, IsNaming, IsShownBy}
use Rattle.owner_law.specs.Shown.{shown_table}
use Rattle.owner_law.proofs.Casts.{cast_keepers}
use Rattle.owner_law.proofs.Starts.{start_counted}
use Rattle.owner_law.specs.Counts.Keeping.{KeepTheirs}
use Rattle.owner_law.proofs.CountsLemmas.Tables.{pools_stay, nobody_shown, table_past}
use Rattle.net_law.specs.TxParts.Numbers.{NetPlace}
use Rattle.owner_law.proofs.PoolsLemmas.Sizing.{spread_dealt}
use Rattle.blk_law.specs.Owners.Answering.{IsInOrder, PutsItsOwnInOrder}
use Rattle.actor_set.specs.Parts.{Part}
use Rattle.actor_set.specs.Actors.{part_of}
use Rattle.actor_set.specs.declared.actor.Actor.{Actor}
use Rattle.actor_set.specs.Laws.Kinds.{sheet, scene_of, hostiles}
use Rattle.actor_set.proofs.LawsLemmas.Calm.{calm_actor}
use Rattle.cast_law.specs.Pools.Places.{PoolPlace, HasNetAt, IsPlaced, HasPools, cast_naming, place_sizes}
use Rattle.cast_law.specs.Pools.Pooling.{keepers_at, AreAtPlay, HasOwners, IsKindly, AreKindly}
use Rattle.cast_law.proofs.PoolsLemmas.Table.{at_receiver}
use Rattle.cast_law.proofs.PoolsLemmas.Apart.{ends_apart}
use Rattle.cast_law.proofs.PoolsLemmas.Naming.{names_at, own_at}
use Rattle.cast_law.proofs.PoolsLemmas.Ordering.{in_order}
use Rattle.cast_law.proofs.PoolsLemmas.Dealing.{owner, are_spread}
use Rattle.cast_law.proofs.PoolsLemmas.Owning.{lender_at, naming_is}
use Rattle.cast_law.proofs.PoolsLemmas.Playing.{play_kinds, all_there}

no_more : {X : Type 0} (xs : List X) → length xs ≡ 0 → xs ≡ []
no_more [] none = refl
no_more (x ∷ xs) none = absurd (omega (arith, none))

module _ (history : History) (rows : List QueueRow) (pools : List PoolRow) (place : PoolPlace) (actors : List Actor) (passed : Passed) (world : List Queue) (placed : IsPlaced rows place (map part_of actors)) (has : HasPools pools place) (play : AreAtPlay history rows actors [] passed world) where
  abbrev cast : List Part
  cast = map part_of actors

  abbrev scene : Scene
  scene = scene_of cast

  abbrev naming : Naming
  naming = cast_naming scene place

  abbrev hostile : Hostiles
  hostile = hostiles cast

  abbrev keepers : List Keeper
  keepers = keepers_at cast

  abbrev m : Moved
  m = moved history []

  abbrev lender : ℕ
  lender = lender_at rows cast play.calm play.over.seated place.net placed.net

  named : IsNaming naming lender hostile rows
  named = naming_is rows cast play.calm play.over.seated place.net place.blk placed.net placed.blk

  actor_at : (k : ℕ) (p : Part) → slice_get cast k ≡ Some p → (x : Actor) × (slice_get actors k ≡ Some x) × (part_of x ≡ p)
  actor_at k p at = map_from part_of actors k p at

  apart : (k : ℕ) (p : Part) → slice_get cast k ≡ Some p → AreApart (sheet scene p).ends
  apart k p at = let x = actor_at k p at in subst (λ q. AreApart (sheet scene q).ends) x.2 (ends_apart (end_at world) scene x.0 (play.over.fits k x.0 x.1))

  own : (k : ℕ) (p : Part) → slice_get cast k ≡ Some p → PutsItsOwnInOrder naming (sheet scene p)
  own k p at =
      let x = actor_at k p at in
      subst (λ q. PutsItsOwnInOrder naming (sheet scene q)) x.2 (own_at rows cast play.calm play.over.seated place.net place.blk placed.net placed.blk passed x.0 (names_at rows cast play.calm play.over.seated place.net place.blk placed.net placed.blk k (part_of x.0) (map_get part_of actors k x.0 x.1)) (play.over.stands k x.0 x.1))

  kindly : AreKindly history rows []
  kindly = (play_kinds history rows actors [] passed world play).0

  over : (q : ℕ) → IsPrefix (m.taken q) (m.sent q)
  over q = by (slice_get rows q) refl (kindly q)
    where
      by : (o : Option QueueRow) → slice_get rows q ≡ o → IsKindly o (m.sent q) (m.taken q) → IsPrefix (m.taken q) (m.sent q)
      by (Some row) at kinds = (play.flows.0 q row at).begins
      by None at kinds = kinds

  order : IsInOrder naming m
  order = in_order rows place.net cast play.calm m play.rows_hold.0 over place.blk placed.blk (λ q row at. subst (λ o. IsKindly o (m.sent q) (m.taken q)) at (kindly q))

  -- each actor put only what was in its hand
  keeps : (k : ℕ) (p : Keeper) → slice_get keepers k ≡ Some p → Keeps p.hand (all_taken naming m p.ends) (all_put naming m p.ends)
  keeps k p at =
      let x = map_from (λ y. keeper_of (sheet scene y)) cast k p at in
      subst (λ (y : Keeper). Keeps y.hand (all_taken naming m y.ends) (all_put naming m y.ends)) x.2 (own k x.0 x.1 m order (apart k x.0 x.1) (play.rows_hold.0 k x.0 (calm_actor cast play.calm k) x.1))

  theirs : KeepTheirs naming lender hostile history rows keepers []
  theirs = record {
    naming_is = named;
    keepers_are = cast_keepers (sheet scene) cast apart rows play.over.seated play.over.filled play.over.peopled;
    flows = play.flows.0;
    keeps = keeps;
  }

  dealt : AreDealt keepers
  dealt = spread_dealt (place_sizes place) (owner rows cast play.calm play.over.seated place.net place.blk placed.net placed.blk has.numbered) keepers (are_spread rows cast play.calm play.over.seated place.net place.blk placed.net placed.blk has.numbered)

  same : length keepers ≡ length cast
  same = length-map cast (λ p. keeper_of (sheet scene p))

  -- the lender is one of the actors, where there are any
  nobody : (n : Option NetPlace) (at : HasNetAt rows n cast) → length keepers ≤ lender_at rows cast play.calm play.over.seated n at → length cast ≡ 0
  nobody None none le = omega (arith, le, same)
  nobody (Some net) net_has le =
      let receiver = at_receiver rows net cast play.calm net_has.0 net_has.1 in
      absurd (omega (arith, le, same, there_below cast receiver.0 _ receiver.1))

  pub past_owned : HasOwners history rows place cast
  past_owned = by (cases_lt lender (length keepers))
    where
      by : (lender < length keepers) ⊎ (length keepers ≤ lender) → HasOwners history rows place cast
      by (inl there) =
          let shows = table_past naming lender hostile history rows keepers theirs dealt there in
          record {
            table = shown_table naming lender keepers (length rows) m;
            begins = record { lender = lender; naming_is = named; counted = shows.1; shown = shows.0 };
            pools = λ k. pools_stay naming lender hostile history rows keepers [] theirs k (place_sizes place k) (all_there rows cast play.calm play.over.seated place placed has.numbered k);
          }
      by (inr le) =
          let empty : length cast ≡ 0 = nobody place.net placed.net le in
          let none : keepers ≡ [] = no_more keepers (same ∙ empty) in
          record {
            table = start_table keepers;
            begins = record {
              lender = lender;
              naming_is = named;
              counted = start_counted keepers;
              shown = subst (λ ks. IsShownBy naming lender ks m (start_table ks)) (sym none) (nobody_shown naming lender hostile rows m named (subst (IsPeopled rows) empty play.over.peopled));
            };
            pools = all_there rows cast play.calm play.over.seated place placed has.numbered;
          }
