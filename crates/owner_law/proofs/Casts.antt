use Rattle.std.proofs.Common.{◌≡◌, ℕ, false, Some, List, length, map, slice_get, sym, subst}
use Rattle.std.proofs.lemmas.List.{length-map}
use Rattle.wire_core.specs.declared.names.QueueRow.{QueueRow}
use Rattle.wire_core.specs.Journal.{Hostiles}
use Rattle.play_core.specs.Moved.{Moved}
use Rattle.play_core.specs.Sheets.{Sheet, AreApart, AreSeated, AreFilled, RowsHold}
use Rattle.play_core.specs.Still.{IsPeopled}
use Rattle.play_core.proofs.Lists.{map_from}
use Rattle.owner_law.specs.Things.{Naming}
use Rattle.owner_law.specs.Keeping.{Keeper, keeper_of, Keeps, PutsItsOwn, all_taken, all_put, AreKeepers}

-- the actors of a cast that is told by its sheets
module _ {P : Type 0} (sheet : P → Sheet) (cast : List P) (apart : (k : ℕ) (p : P) → slice_get cast k ≡ Some p → AreApart (sheet p).ends) where
  abbrev pub keepers : List Keeper
  keepers = map (λ p. keeper_of (sheet p)) cast

  -- have just the ends that the rows give them
  pub cast_keepers : (rows : List QueueRow) → AreSeated sheet rows cast → AreFilled sheet rows cast → IsPeopled rows (length cast) → AreKeepers rows keepers
  cast_keepers rows seated filled peopled = record {
    seated = λ k p at i s end.
        let x = map_from (λ y. keeper_of (sheet y)) cast k p at in
        seated k x.0 x.1 i s (subst (λ (q : Keeper). slice_get q.ends i ≡ Some s) (sym x.2) end);
    filled = λ k p at s its.
        let x = map_from (λ y. keeper_of (sheet y)) cast k p at in
        let place = filled k x.0 x.1 s its in
        (place.0, subst (λ (q : Keeper). slice_get q.ends place.0 ≡ Some s) x.2 place.1);
    apart = λ k p at.
        let x = map_from (λ y. keeper_of (sheet y)) cast k p at in
        subst (λ (q : Keeper). AreApart q.ends) x.2 (apart k x.0 x.1);
    peopled = let same : length keepers ≡ length cast = simp length-map in subst (λ n. IsPeopled rows n) (sym same) peopled;
  }

  -- and where their rows hold, and let them put only what was in their hands, they do so
  pub cast_keeps : (naming : Naming) (hostile : Hostiles) (m : Moved) → ((k : ℕ) (p : P) → hostile k ≡ false → slice_get cast k ≡ Some p → PutsItsOwn naming (sheet p)) → RowsHold sheet hostile cast m → (k : ℕ) (p : Keeper) → hostile k ≡ false → slice_get keepers k ≡ Some p → Keeps p.hand (all_taken naming m p.ends) (all_put naming m p.ends)
  cast_keeps naming hostile m own rows k p calm at =
      let x = map_from (λ y. keeper_of (sheet y)) cast k p at in
      subst (λ (q : Keeper). Keeps q.hand (all_taken naming m q.ends) (all_put naming m q.ends)) x.2 (own k x.0 calm x.1 m (apart k x.0 x.1) (rows k x.0 calm x.1))
