use Rattle.std.proofs.Common.{◌+◌, ◌*◌, ℕ, ap, ap₂, ◌∙◌}
use Rattle.blk_virt.specs.declared.virtualiser.BlkEnds.{BlkEnds}
use Rattle.cast_core.specs.Sources.{first_blk, first_blk_pool, pool_at}
use Rattle.cast_core.specs.Making.{blk_ends}
use Rattle.cast_core.proofs.Listing.{one_more}
use Rattle.cast_core.proofs.block.blk_ends.Goals as goal

pub loop-c-preserved : goal.loop-c-preserved
loop-c-preserved c =
    let k = c.loop-c.c in
    let plan = c.args.plan.now in
    let rows = c.args.rows.now in
    let made : ℕ → ℕ → ℕ → ℕ → ℕ → BlkEnds = λ base many first number entry. record { base = base; buffers = many; req = record { 0 = first + 4 + 2 * k }; resp = record { 0 = first + 5 + 2 * k }; pool = record { 0 = number + 1 + k }; partition = entry } in
    let f = c.first_blk-first.result in
    let p = c.first_blk_pool-first_pool.result in
    let e = c.client_entry.result in
    let base = c.pool_row-row.ensures.base ∙ ap (λ n. (pool_at rows (n + 1 + k)).base) c.first_blk_pool-first_pool.ensures in
    let many = c.pool_row-row.ensures.buffers ∙ ap (λ n. (pool_at rows (n + 1 + k)).buffers) c.first_blk_pool-first_pool.ensures in
    let b = (pool_at rows (first_blk_pool plan + 1 + k)).base in
    let m = (pool_at rows (first_blk_pool plan + 1 + k)).buffers in
    one_more k (blk_ends plan rows) c.loop-c.ends.items c.push.new.self.items _ c.loop-c.invariant c.in_ok-push.ensures.items
    (ap₂ (λ x y. made x y f p e) base many ∙ (ap₂ (λ x y. made b m x y e) c.first_blk-first.ensures c.first_blk_pool-first_pool.ensures ∙ ap (made b m (first_blk plan) (first_blk_pool plan)) c.client_entry.ensures))
