-- The actors of a class of whose queues none has a hostile end: each plays the sheet that asks no
-- names, whoever else is hostile.
use Rattle.std.proofs.Common.{◌≡◌, ◌&&◌, not, ℕ, false, Option, Some, List, map, slice_get, ap, ◌∙◌, subst}
use Rattle.std.specs.Option.{option_map_or}
use Rattle.wire_core.specs.declared.names.QueueRow.{QueueRow}
use Rattle.wire_core.specs.Ends.{Role, End}
use Rattle.wire_core.specs.Journal.{Hostiles}
use Rattle.wire_core.specs.Lists.{Passed}
use Rattle.play_core.specs.Manners.{Calm}
use Rattle.play_core.specs.Moved.{Moved}
use Rattle.play_core.specs.Names.{Names, Wild, carries_pages, is_wild, wild_in}
use Rattle.play_core.specs.Rests.Showing.{HaveItems}
use Rattle.play_core.specs.Sheets.{Scene, RowsHold, needful}
use Rattle.play_core.specs.Still.{Holds, Plays}
use Rattle.play_core.proofs.Lists.{map_from, map_get}
use Rattle.actor_set.specs.Parts.{Part}
use Rattle.actor_set.specs.Actors.{part_of}
use Rattle.actor_set.specs.declared.actor.Actor.{Actor}
use Rattle.actor_set.specs.Laws.Kinds.{hostiles, manner_of, sheet}
use Rattle.actor_set.specs.Laws.Scenes.{NoneWild}
use Rattle.actor_set.specs.Laws.Turning.{InTurn}
use Rattle.actor_set.proofs.LawsLemmas.Calm.{calm_at}
use Rattle.actor_set.proofs.LawsLemmas.Rows.{actor_row}
use Rattle.actor_set.proofs.LawsLemmas.Told.{calm_row, calm_wants}
use Rattle.wired_law.specs.Wiring.{AreAtWork, HasPart, told_in}

-- of a queue that has no hostile end no names are kept
pub calm_queue : (hostile : Hostiles) (rows : List QueueRow) (n least : ℕ) → Holds hostile rows n least → wild_in hostile rows n ≡ false
calm_queue hostile rows n least h = ap (λ (o : Option QueueRow). option_map_or (is_wild hostile) o false) h.there ∙ ap (λ b. not b && carries_pages h.row.kind) h.calm

module _ (scene : Scene) (rows : List QueueRow) (cast : List Part) (names : Names) (m : Moved) where
  abbrev wild : Wild
  wild = wild_in (hostiles cast) rows

  -- the row that asks no names
  pub plain_row : RowsHold (told_in scene rows cast names) (hostiles cast) cast m → (k : ℕ) (p : Part) → manner_of p ≡ Calm → NoneWild wild p → slice_get cast k ≡ Some p → (sheet scene p).row m
  plain_row holds k p calm none at = calm_row scene wild names p m none (holds k p (calm_at cast k p at calm) at)

  -- an actor of whose clients none is hostile plays its sheet
  pub plays_plain : (p : Part) → manner_of p ≡ Calm → NoneWild wild p → (has : HasPart cast p) → (sheet scene p).row m → Plays (hostiles cast) (needful (told_in scene rows cast names) cast m) m (sheet scene p)
  plays_plain p calm none has row = record {
    acts = record {
      actor = has.0;
      calm = calm_at cast has.0 p has.1 calm;
      there = map_get (λ q. (told_in scene rows cast names q).wants m) cast has.0 p has.1 ∙ ap (λ ws. Some ws) (calm_wants scene wild names p m none);
    };
    row = row;
  }

-- the row of a part whose actor took nothing out of turn
module _ (scene : Scene) (ends : Role → ℕ → End) (rows : List QueueRow) (actors : List Actor) (passed : Passed) (m : Moved) (work : AreAtWork ends rows actors passed) (items : HaveItems passed m) where
  pub row_there : (k : ℕ) (p : Part) → ((x : Actor) → slice_get actors k ≡ Some x → part_of x ≡ p → InTurn scene x passed) → slice_get (map part_of actors) k ≡ Some p → (sheet scene p).row m
  row_there k p turn at =
      let x = map_from part_of actors k p at in
      subst (λ q. (sheet scene q).row m) x.2 (actor_row scene passed m items x.0 (turn x.0 x.1 x.2) (work.stands k x.0 x.1))
