use Rattle.std.proofs.Common.{◌≡◌, arith, refl, sym, ap, ◌∙◌, subst, drop, length}
use Rattle.std.specs.Prelude.{All}
use Rattle.std.proofs.Math.Seq.{drop-append_seam}
use Rattle.std.proofs.lemmas.List.Elements.{All-drop}
use Rattle.cargo_core.specs.declared.item.QueueKind.TheVariants as Kind
use Rattle.cargo_core.specs.Items.{kind_of}
use Rattle.base_rows.proofs.wires_tests.ended_ring.Goals as goal

pub open-requires : goal.open-requires
open-requires c = (2, omega arith, refl)

pub returns-clause-kinds : goal.returns-clause-kinds
returns-clause-kinds c =
    let taken = c.get.new.consumer.knows.entries in
    let rest = ap (drop (length taken)) c.in_ok-finish.ensures.rest.0 ∙ drop-append_seam taken c.in_ok-finish.field-0.left in
    subst (All (λ x. kind_of x.0 ≡ Kind.Byte)) rest (All-drop (λ x. kind_of x.0 ≡ Kind.Byte) (length taken) c.give-3.new.producer.knows.entries
    (subst (λ k. All (λ x. kind_of x.0 ≡ k) c.give-3.new.producer.knows.entries) c.in_ok-ring.ensures.ring.0 c.in_ok-finish.ensures.kinds.2))
