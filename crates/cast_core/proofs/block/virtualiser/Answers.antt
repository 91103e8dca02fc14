use Rattle.std.proofs.Common.{◌+◌, ◌/◌, ℕ, List, length, refl, ap, ◌∙◌}
use Rattle.trace_text.specs.Traces.{per_client}
use Rattle.blk_law.specs.Sheets.Parts.{BlkVirt as VirtPart}
use Rattle.blk_law.specs.Sheets.Numbers.{sharers_from}
use Rattle.expect_core.specs.Expected.{client_entry}
use Rattle.cast_core.specs.Sources.{first_blk, first_blk_pool, pool_at}
use Rattle.cast_core.specs.Making.{new_page}
use Rattle.cast_core.proofs.Blocks.{rows_enough, clients_fit, virt_new, virt_is}
use Rattle.cast_core.proofs.block.virtualiser.Goals as goal

pub blk_ends-requires-clause-rows : goal.blk_ends-requires-clause-rows
blk_ends-requires-clause-rows c = rows_enough c.args.plan.now c.args.pools.now c.args.clients c.requires.pools

pub new-requires-2-clause-clients : goal.new-requires-2-clause-clients
new-requires-2-clause-clients c = clients_fit c.args.plan.now c.args.pools.now c.args.clients c.in_ok-ends.ends.items c.in_ok-ends.ensures c.requires.pools c.requires.few c.requires.entries

pub returns-clause-new : goal.returns-clause-new
returns-clause-new c =
    let page = c.in_ok-page.ensures ∙ ap (λ n. new_page 32768 n 0) c.first_blk_pool-own.ensures in
    virt_new c.args.plan.now c.args.pools.now c.args.clients c.pool_row.result.now.base _ c.in_ok-ends.ends.items _ c.in_ok-new.field-0 c.in_ok-ends.ensures page _ _ c.in_ok-new.ensures.new c.requires.few c.in_ok-new.ensures.work c.in_ok-new.ensures.stands

pub returns-clause-part : goal.returns-clause-part
returns-clause-part c =
    let plan = c.args.plan.now in
    let rows = c.args.pools.now in
    let page = c.in_ok-page.ensures ∙ ap (λ n. new_page 32768 n 0) c.first_blk_pool-own.ensures in
    let base = c.pool_row.ensures.base ∙ ap (λ n. (pool_at rows n).base) c.first_blk_pool-own.ensures in
    virt_is plan rows c.args.clients c.pool_row.result.now.base _ c.in_ok-ends.ends.items _ c.in_ok-new.field-0 c.in_ok-ends.ensures page _ _ c.in_ok-new.ensures.new c.requires.pools c.first_blk-first.result c.first_blk-first.ensures refl refl base c.requires.pools.single
    ∙ ap (λ (image : List ℕ). VirtPart (first_blk plan + 2) (first_blk plan + 3) (length image / 512) (pool_at rows (first_blk_pool plan)) (sharers_from (first_blk plan) 0 (per_client c.args.clients (client_entry plan)) (per_client c.args.clients (λ k. pool_at rows (first_blk_pool plan + 1 + k))))) c.image.ensures
