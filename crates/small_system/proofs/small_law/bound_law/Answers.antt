use Rattle.std.proofs.Common.{refl, length}
use Rattle.wire_core.specs.Journal.{nobody, start_history}
use Rattle.wire_core.specs.Marks.{no_drops, all_sent}
use Rattle.small_system.specs.Tales.{journal_of}
use Rattle.small_system.proofs.SmallLaw.Bounding.{none_dropped}
use Rattle.small_system.proofs.small_law.bound_law.Goals as goal

pub returns : goal.returns
returns g c = λ rows start turns hops ends begins tale few put.
    let lawful = c.tale_law.ensures.lawful rows start turns begins tale in
    c.brisk_law.ensures.bounded nobody no_drops (start_history rows) rows (journal_of turns) hops (length start) ends (λ n row at. refl) lawful.bells_hold.0 lawful.flows.0 lawful.legal lawful.brisk begins.peopled few
    (none_dropped (journal_of turns) (all_sent (start_history rows) rows (journal_of turns)) hops put)
