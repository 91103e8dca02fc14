use Rattle.std.proofs.Common.{length}
use Rattle.wire_core.specs.Journal.{start_history, nobody}
use Rattle.owner_law.specs.Keeping.{start_table}
use Rattle.owner_law.specs.Census.{IsPool}
use Rattle.small_system.specs.Tales.{start_of, after_tale, journal_of, passed_by}
use Rattle.switched_law.specs.SwitchOwners.Owning.{switch_naming, switch_keepers}
use Rattle.switched_law.proofs.SwitchOwners.Spread.{sizes_at, half, spread}
use Rattle.switched_law.proofs.SwitchOwners.Counted.{are_lines, is_line, below_half}
use Rattle.switched_law.proofs.switch_owners.switch_owner_law.Goals as goal

pub returns-clause-owners : goal.returns-clause-owners
returns-clause-owners c = λ ports rows start turns can q made begins tale.
    let n = length ports.macs in
    c.keeper_law.ensures.owners (switch_naming n) n rows start turns (switch_keepers n) begins tale (c.keepers_law.ensures ports rows start can q made begins)

pub returns-clause-lines : goal.returns-clause-lines
returns-clause-lines c = λ ports rows start turns can q made begins tale pool lt.
    let n = length ports.macs in
    let have = c.keepers_law.ensures ports rows start can q made begins in
    let lines = are_lines ports rows start turns can q made begins tale have (c.spread_law.ensures.within (sizes_at n) half (switch_keepers n) (spread n)) in
    let world = (after_tale (start_of rows start) turns).world in
    let whole : IsPool (start_table (switch_keepers n)) pool (sizes_at n pool) = c.spread_law.ensures.pools (sizes_at n) half (switch_keepers n) (spread n) pool (below_half pool n lt) in
    is_line ports rows start turns can q made begins tale have pool lt
    (c.line_law.ensures.queues (switch_naming n) n nobody (start_history rows) rows (sizes_at n) _ (start_table (switch_keepers n)) (journal_of turns) (passed_by turns) world lines (record { 0 = pool }))
    (c.line_law.ensures.lent (switch_naming n) n nobody (start_history rows) rows (sizes_at n) _ (start_table (switch_keepers n)) (journal_of turns) (passed_by turns) world lines (record { 0 = pool }))
    (c.census_law.ensures.whole (switch_naming n) (start_history rows) (start_table (switch_keepers n)) pool (sizes_at n pool) whole (journal_of turns))
