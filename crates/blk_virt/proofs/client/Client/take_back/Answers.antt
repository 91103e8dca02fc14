use Rattle.std.proofs.Common.{Some, None, Option, [], ◌∷◌, sym, ap, ◌∙◌, subst}
use Rattle.blk_virt.specs.declared.client.Current.{Current}
use Rattle.wire_core.specs.Deeds.{Cargo}
use Rattle.blk_virt.specs.Clients.{Moved, brought}
use Rattle.blk_virt.proofs.Moving.{came_back, away_parts}
use Rattle.blk_virt.proofs.client.Client.take_back.Goals as goal

pub returns-clause-moved : goal.returns-clause-moved
returns-clause-moved c = λ part.
    let a = away_parts c.args.self.now.current c.args.self.now.leaving c.requires.away in
    subst (λ (x : Cargo). Moved part c.args.self.now (record c.args.self.now { current = None; held = Some x }) [] [] (c.args.entry ∷ []) []) (sym c.passed_on.ensures)
    (came_back c.args.self.now c.requires.work part a.0.0 a.0.1 a.1 c.args.entry (ap (λ (o : Option Current). brought o c.args.entry.1) (sym a.0.1) ∙ c.requires.brings) c.id_of-id.result (c.id_of-id.ensures a.0.0 a.0.1))
