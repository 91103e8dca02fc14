use Rattle.std.proofs.Common.{◌≡◌, ◌≤◌, ◌-◌, ℕ, List, length}
use Rattle.decision_core.specs.ShelfCore.Outside.{also_opened}
use Rattle.decision_core.proofs.ShelfCore.ReadLemmas.{HasRead}
use Rattle.decision_core.proofs.shelf_core.reading.read_text.Given as goal

abbrev pub invariant-loop-text : goal.invariant-loop-text
invariant-loop-text g l = record {
  texts : (n : List ℕ) → g.F.Shelf.text l.shelf n ≡ g.F.Shelf.text l.fn.shelf n;
  opens : g.F.Shelf.opens l.shelf ≡ also_opened (g.F.Shelf.opens l.fn.shelf) l.name;
  calm : g.F.Shelf.faults l.shelf ≡ g.F.Shelf.faults l.fn.shelf;
  read : HasRead (g.F.Shelf.text l.fn.shelf l.name) (g.F.Shelf.left l.shelf) l.text;
  within : length l.text ≤ 16777217;
}

abbrev pub decreases-loop-text : goal.decreases-loop-text
decreases-loop-text g l = 16777217 - length l.text
