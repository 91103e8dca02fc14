use Rattle.std.proofs.Common.{sym, ap, ◌∙◌, drop}
use Rattle.std.proofs.lemmas.List.{drop-drop}
use Rattle.decision_core.specs.ShelfCore.Names.{Shelved, left_of}
use Rattle.decision_core.proofs.shelf_core.memory_shelf.MemShelf.skip.Goals as goal

pub returns-clause-left : goal.returns-clause-left
returns-clause-left c =
    sym (drop-drop c.args.n c.self.inside.at _) ∙ ap (λ (s : Shelved). drop c.args.n (left_of s.kept s.opened s.at)) c.self.view_is
