-- A cast that has been at work: by its actors' lists each buffer of the other pools has one place.
use Rattle.std.proofs.Common.{◌≡◌, ◌⊎◌, ◌<◌, ◌≤◌, ℕ, Bool, true, false, List, [], ◌∷◌, Some, length, map, slice_get, refl, sym, ◌∙◌, subst, arith, inl, inr}
use Rattle.std.proofs.lemmas.Bool.{cases_lt}
use Rattle.std.proofs.lemmas.List.{length-map}
use Rattle.wire_core.specs.declared.names.PoolRow.{PoolRow}
use Rattle.wire_core.specs.declared.names.QueueRow.{QueueRow}
use Rattle.wire_core.specs.Journal.{History, Hostiles, QueuesFlow}
use Rattle.wire_core.specs.Lists.{Passed}
use Rattle.wire_core.specs.Queues.{Queue, end_at}
use Rattle.play_core.specs.Moved.{Moved, moved}
use Rattle.play_core.specs.Names.{wild_in}
use Rattle.play_core.specs.Sheets.{AreApart, Scene}
use Rattle.play_core.specs.Still.{IsPeopled}
use Rattle.play_core.proofs.Lists.{map_from, some_is}
use Rattle.owner_law.specs.Things.{Naming}
use Rattle.owner_law.specs.Keeping.{IsNaming, IsShownBy, Keeper, Keeps, all_put, all_taken, start_table}
use Rattle.owner_law.specs.Shown.{shown_table}
use Rattle.owner_law.specs.Counts.Keeping.{KeepTheirs}
use Rattle.owner_law.proofs.Starts.{start_counted}
use Rattle.owner_law.proofs.CountsLemmas.Tables.{nobody_shown, pools_stay, table_past}
use Rattle.owner_law.proofs.PoolsLemmas.Casting.{nothing_kept}
use Rattle.actor_set.specs.Parts.{HostilePart, Part}
use Rattle.actor_set.specs.Actors.{part_of}
use Rattle.actor_set.specs.declared.actor.Actor.{Actor}
use Rattle.actor_set.specs.Laws.Kinds.{hostiles, scene_of, sheet}
use Rattle.cast_law.specs.Pools.Beside.{CastCarries, is_rogues}
use Rattle.cast_law.specs.Pools.Owning.{HasOwnersBeside, keeper_beside, owner_keepers, owner_naming}
use Rattle.cast_law.specs.Pools.Places.{HasPools, PoolPlace, place_sizes}
use Rattle.cast_law.specs.Pools.Pooling.{AreOverQueues}
use Rattle.cast_law.proofs.PoolsLemmas.Apart.{ends_apart}
use Rattle.cast_law.proofs.BesideLemmas.Around.{Around}
use Rattle.cast_law.proofs.BesideLemmas.Queues.{hostile_there}
use Rattle.cast_law.proofs.OwningLemmas.Beginning.{dealt, keepers_are, pools_beside}
use Rattle.cast_law.proofs.OwningLemmas.Hiding.{lender as lender_of, nobody, owner_named, rogue_none}
use Rattle.cast_law.proofs.OwningLemmas.Keeping.{keeps_part}

no_more : {X : Type 0} (xs : List X) → length xs ≡ 0 → xs ≡ []
no_more [] none = refl
no_more (x ∷ xs) none = absurd (omega (arith, none))

module _ (history : History) (rows : List QueueRow) (pools : List PoolRow) (place : PoolPlace) (actors : List Actor) (passed : Passed) (world : List Queue) (has : HasPools pools place) (over : AreOverQueues rows actors passed world) (a : Around rows place actors passed (moved history [])) (carry : CastCarries rows place actors (moved history []) passed) (flows : QueuesFlow history rows []) where
  abbrev cast : List Part
  cast = map part_of actors

  abbrev scene : Scene
  scene = scene_of cast

  abbrev hostile : Hostiles
  hostile = hostiles cast

  abbrev naming : Naming
  naming = owner_naming rows place cast

  abbrev keepers : List Keeper
  keepers = owner_keepers rows place cast

  abbrev off : ℕ → Bool
  off = is_rogues (wild_in (hostiles cast) rows) place

  abbrev m : Moved
  m = moved history []

  abbrev lender : ℕ
  lender = lender_of rows place cast a.placed a.seated a.filled

  named : IsNaming naming lender hostile rows
  named = owner_named rows place cast a.placed a.seated a.filled

  abbrev KeepsIts : Part → Type 0
  KeepsIts p = Keeps (keeper_beside off (sheet scene p)).hand (all_taken naming m (sheet scene p).ends) (all_put naming m (sheet scene p).ends)

  -- each actor put only what was in its hand; a hostile client has none of these
  each_keeps : (k : ℕ) (p : Part) → slice_get cast k ≡ Some p → KeepsIts p
  each_keeps k p at = by (hostile k) refl
    where
      by : (t : Bool) → hostile k ≡ t → KeepsIts p
      by false calm = keeps_part rows place actors passed m a carry k p at calm
      by true off_ =
          let r = hostile_there cast k off_ in
          let same : HostilePart r.0 ≡ p = some_is (sym r.1 ∙ at) in
          subst KeepsIts same (nothing_kept naming (keeper_beside off (sheet scene (HostilePart r.0))).hand (sheet scene (HostilePart r.0)).ends (rogue_none rows place cast a.placed a.seated a.filled k r.0 r.1) m)

  theirs : KeepTheirs naming lender hostile history rows keepers []
  theirs = record {
    naming_is = named;
    keepers_are = keepers_are rows place cast over.seated over.filled over.peopled (λ k p at.
        let x = map_from part_of actors k p at in
        subst (λ q. AreApart (sheet scene q).ends) x.2 (ends_apart (end_at world) scene x.0 (over.fits k x.0 x.1)));
    flows = flows;
    keeps = λ k p at.
        let x = map_from (λ y. keeper_beside off (sheet scene y)) cast k p at in
        subst (λ (y : Keeper). Keeps y.hand (all_taken naming m y.ends) (all_put naming m y.ends)) x.2 (each_keeps k x.0 x.1);
  }

  same : length keepers ≡ length cast
  same = length-map cast (λ p. keeper_beside off (sheet scene p))

  pub past_beside : HasOwnersBeside history rows place cast
  past_beside = by (cases_lt lender (length keepers))
    where
      by : (lender < length keepers) ⊎ (length keepers ≤ lender) → HasOwnersBeside history rows place cast
      by (inl there) =
          let shows = table_past naming lender hostile history rows keepers theirs (dealt rows place cast pools a.placed has a.seated a.filled) there in
          record {
            table = shown_table naming lender keepers (length rows) m;
            begins = record { lender = lender; naming_is = named; counted = shows.1; shown = shows.0 };
            pools = λ k free. pools_stay naming lender hostile history rows keepers [] theirs k (place_sizes place k) (pools_beside rows place cast pools a.placed has a.seated a.filled k free);
          }
      by (inr le) =
          let empty : length cast ≡ 0 = nobody rows place cast a.placed a.seated a.filled (omega (arith, le, same)) in
          let none : keepers ≡ [] = no_more keepers (same ∙ empty) in
          record {
            table = start_table keepers;
            begins = record {
              lender = lender;
              naming_is = named;
              counted = start_counted keepers;
              shown = subst (λ ks. IsShownBy naming lender ks m (start_table ks)) (sym none) (nobody_shown naming lender hostile rows m named (subst (IsPeopled rows) empty over.peopled));
            };
            pools = λ k free. pools_beside rows place cast pools a.placed has a.seated a.filled k free;
          }
