use Rattle.std.proofs.Common.{arith, ◌≡◌, ◌∷◌, ◌∙◌, List, get_or, sym, ap, subst, length}
use Rattle.wire_core.specs.Deeds.{Cargo}
use Rattle.wire_core.specs.Queues.{Queue}
use Rattle.std.specs.Prelude.{All}
use Rattle.std.proofs.lemmas.List.Elements.{All-drop}
use Rattle.cargo_core.specs.Items.{kind_of}
use Rattle.plain_wires.proofs.queue.PlainQueue.take.Goals as goal

pub invariant_of-self : goal.invariant_of-self
invariant_of-self c = record {
  seen = λ h. cc;
  roomed = λ h. let r = c.self.invariant.roomed h in let l = ap length c.pop.ensures.first in let n = c.pop.ensures.capacity in omega (arith, r, l, n);
  kinds = All-drop (λ x. kind_of x.0 ≡ c.self.inside.kind) 1 (c.pop.result ∷ c.pop.new.self.entries) (subst (All (λ x. kind_of x.0 ≡ c.self.inside.kind)) c.pop.ensures.first c.self.invariant.kinds);
}

pub returns-clause-kind : goal.returns-clause-kind
returns-clause-kind c = ap (λ (l : List Cargo). kind_of (get_or l 0 c.pop.result).0) (sym c.pop.ensures.first) ∙ (c.self.invariant.kinds 0 c.pop.result (let l = ap length c.pop.ensures.first in omega (arith, l)) ∙ ap (λ (q : Queue). q.kind) c.self.view_is)
