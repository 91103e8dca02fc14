use Rattle.std.proofs.Common.{◌+◌, ◌*◌, ◌<◌, ◌≤◌, length, subst, arith}
use Rattle.wire_core.specs.Journal.{start_history}
use Rattle.wire_core.specs.Marks.{all_sent}
use Rattle.small_system.specs.Tales.{journal_of}
use Rattle.switched_law.specs.SwitchMoment.Puts.{puts_most}
use Rattle.switched_law.proofs.Standing.{Laws, ends, passed, switch_at, switched_at}
use Rattle.switched_law.proofs.Bounding.{put_is, ends_most}
use Rattle.switched_law.proofs.hops_law.Goals as goal

pub returns-clause-put : goal.returns-clause-put
returns-clause-put c = λ ports rows start turns p.
    let laws : Laws = record {
      last = c.tale_law.ensures.last;
      count = c.tale_law.ensures.count;
      parts = c.tale_law.ensures.parts;
    } in
    let is = put_is laws ports rows start turns p in
    let few = c.put_law.ensures ports (ends laws ports rows start turns p) (switch_at laws ports rows start turns p).0 (passed laws ports rows start turns p) (switched_at laws ports rows start turns p) in
    omega (arith, is, few)

pub returns-clause-ends : goal.returns-clause-ends
returns-clause-ends c = λ ports rows are a. ends_most (length ports.macs) rows are a

pub returns-clause-bound : goal.returns-clause-bound
returns-clause-bound c = λ ports rows start turns p.
    let laws : Laws = record {
      last = c.tale_law.ensures.last;
      count = c.tale_law.ensures.count;
      parts = c.tale_law.ensures.parts;
    } in
    let is = put_is laws ports rows start turns p in
    let few = c.put_law.ensures ports (ends laws ports rows start turns p) (switch_at laws ports rows start turns p).0 (passed laws ports rows start turns p) (switched_at laws ports rows start turns p) in
    let put : all_sent (start_history rows) rows (journal_of turns) ≤ puts_most ports = omega (arith, is, few) in
    subst (λ many. length (journal_of turns) < 32 * (puts_most ports + many + 1) * (4 * length ports.macs + 1)) p.made.many
    (c.bound_law.ensures rows start turns (puts_most ports) (4 * length ports.macs) p.begins p.tale (ends_most (length ports.macs) rows p.queues) put)
