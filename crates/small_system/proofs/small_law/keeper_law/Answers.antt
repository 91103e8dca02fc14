use Rattle.wire_core.specs.Journal.{nobody, start_history}
use Rattle.small_system.specs.Tales.{journal_of}
use Rattle.owner_law.specs.Keeping.{start_table, IsShownBy}
use Rattle.owner_law.specs.Owners.{replay}
use Rattle.play_core.specs.Moved.{moved}
use Rattle.play_core.proofs.Moments.{last_moment}
use Rattle.small_system.proofs.SmallLaw.Keeping.{owned}
use Rattle.small_system.proofs.small_law.keeper_law.Goals as goal

pub returns-clause-owners : goal.returns-clause-owners
returns-clause-owners g c = λ naming lender rows start turns keepers begins tale have.
    c.owner_law.ensures.owners naming lender nobody (start_history rows) rows keepers (start_table keepers) (journal_of turns) (owned g.A.SmallActor.means g.met.A.SmallActor.lawful naming lender rows start keepers have turns begins tale (c.start_law.ensures.counted keepers) (c.start_law.ensures.shown naming lender rows keepers have.dealt))

pub returns-clause-shown : goal.returns-clause-shown
returns-clause-shown g c = λ naming lender rows start turns keepers begins tale have.
    last_moment (λ j. IsShownBy naming lender keepers (moved (start_history rows) j) (replay naming (start_history rows) (start_table keepers) j)) (journal_of turns)
    (c.owner_law.ensures.shown naming lender nobody (start_history rows) rows keepers (start_table keepers) (journal_of turns) (owned g.A.SmallActor.means g.met.A.SmallActor.lawful naming lender rows start keepers have turns begins tale (c.start_law.ensures.counted keepers) (c.start_law.ensures.shown naming lender rows keepers have.dealt)))
