use Rattle.std.proofs.Common.{◌≡◌, ◌+◌, [], length, refl, sym, ap, ap₂, ◌∙◌, subst, arith, unwrap_or}
use Rattle.blk_law.specs.Sheets.Numbers.{blk_client_at}
use Rattle.cast_core.specs.Sources.{first_blk, first_blk_pool, pool_at}
use Rattle.cast_core.specs.Making.{new_page, HasPool}
use Rattle.cast_core.proofs.Listing.{value_count}
use Rattle.cast_core.proofs.Making.{pages_are}
use Rattle.cast_core.proofs.Blocks.{block_fits, block_size, asker_is}
use Rattle.cast_core.proofs.block.client.Goals as goal

pub new-requires-clause-pool : goal.new-requires-clause-pool
new-requires-clause-pool c =
    let rows = c.args.pools.now in
    let n = c.first_blk_pool.result + 1 + c.args.client in
    let e : n ≡ first_blk_pool c.args.plan.now + 1 + c.args.client = ap (λ p. p + 1 + c.args.client) c.first_blk_pool.ensures in
    let many = c.pool_row.result.now.buffers in
    let fits = block_fits rows n (pool_at rows n).base many (subst (HasPool 32768 rows) (sym e) c.requires.pool) refl c.pool_row.ensures.buffers in
    let few = fits.1 in
    (record { 0 = n }, pages_are 32768 n many 0 c.in_ok-pages.pages.items (omega arith) c.in_ok-pages.ensures few (omega (arith, few)))

pub new-requires-clause-few : goal.new-requires-clause-few
new-requires-clause-few c =
    let rows = c.args.pools.now in
    let n = c.first_blk_pool.result + 1 + c.args.client in
    let e : n ≡ first_blk_pool c.args.plan.now + 1 + c.args.client = ap (λ p. p + 1 + c.args.client) c.first_blk_pool.ensures in
    let many = c.pool_row.result.now.buffers in
    let fits = block_fits rows n (pool_at rows n).base many (subst (HasPool 32768 rows) (sym e) c.requires.pool) refl c.pool_row.ensures.buffers in
    let few = fits.1 in
    let long : length c.in_ok-pages.pages.items ≡ many = ap length c.in_ok-pages.ensures ∙ value_count many (new_page 32768 n) in
    let asks : length c.in_ok-asks.asks.items ≡ length c.asks.result.now = ap length c.in_ok-asks.ensures in
    let most = c.requires.asks c.asks.result.now c.asks.ensures in
    omega (arith, few, long, asks, most)

pub returns-clause-part : goal.returns-clause-part
returns-clause-part c =
    let rows = c.args.pools.now in
    let k = c.args.client in
    let n = c.first_blk_pool.result + 1 + k in
    let e : n ≡ first_blk_pool c.args.plan.now + 1 + k = ap (λ p. p + 1 + k) c.first_blk_pool.ensures in
    let many = c.pool_row.result.now.buffers in
    let fits = block_fits rows n (pool_at rows n).base many (subst (HasPool 32768 rows) (sym e) c.requires.pool) refl c.pool_row.ensures.buffers in
    let script = c.in_ok-asks.ensures ∙ sym (ap (λ o. unwrap_or o []) c.asks.ensures) in
    let first = c.first_blk-first.result in
    asker_is rows n many _ _ c.in_ok-pages.pages.items c.in_ok-asks.asks.items c.new.result c.in_ok-pages.ensures fits.0 c.new.ensures.new first k refl (omega arith) refl c.pool_row.ensures.buffers (block_size rows n (subst (HasPool 32768 rows) (sym e) c.requires.pool))
    ∙ (ap (λ f. blk_client_at f k c.in_ok-asks.asks.items (pool_at rows n)) c.first_blk-first.ensures
    ∙ ap₂ (λ l m. blk_client_at (first_blk c.args.plan.now) k l (pool_at rows m)) script e)
