use Rattle.std.proofs.Common.{◌∙◌, List, [], ◌∷◌, sym, subst}
use Rattle.wire_core.specs.declared.names.QueueRow.{QueueRow}
use Rattle.small_system.specs.Standing.{Begins}
use Rattle.library_examples.specs.declared.class_example.member.Member.{Member}
use Rattle.library_examples.specs.ClassExample.Members.{member_means}
use Rattle.library_examples.proofs.ClassExample.Beginning.{pair_begins}
use Rattle.library_examples.proofs.class_example.class.play_pair.Goals as goal

pub new-requires : goal.new-requires
new-requires c =
    let rows : List QueueRow = c.in_ok-from_first.from_first ∷ c.in_ok-from_second.from_second ∷ [] in
    subst (λ (rows : List QueueRow). Begins member_means rows c.in_ok-actors.actors.items) (sym (c.deref.ensures.value ∙ c.in_ok-rows.ensures.items))
    (subst (λ (actors : List Member). Begins member_means rows actors) (sym c.in_ok-actors.ensures.items)
    (pair_begins _ _ _ _ _ _ _ c.in_ok-from_first.ensures c.in_ok-from_second.ensures c.new-first.ensures c.new-second.ensures c.new-joiner.ensures))
