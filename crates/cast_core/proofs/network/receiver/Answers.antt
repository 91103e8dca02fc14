use Rattle.std.proofs.Common.{length, refl, sym, ap, ◌∙◌, subst, arith}
use Rattle.cast_core.specs.Making.{lease_ends, HasPool}
use Rattle.cast_core.proofs.Listing.{value_count}
use Rattle.cast_core.proofs.Making.{pages_are, pool_fits, rx_new, rx_part}
use Rattle.cast_core.proofs.network.receiver.Goals as goal

pub new-requires-clause-pool : goal.new-requires-clause-pool
new-requires-clause-pool c =
    let row = c.pool_row-row.result.now in
    let pool = subst (λ z. HasPool z c.args.pools.now 0) (sym c.pool_row-row.ensures.size) c.requires.pool in
    let fits = pool_fits c.args.pools.now row.size 0 row.base row.buffers pool c.pool_row-row.ensures.base c.pool_row-row.ensures.buffers in
    (record { 0 = 0 }, row.size, pages_are row.size 0 row.buffers row.base c.in_ok-pages.pages.items pool.large c.in_ok-pages.ensures fits.1 fits.2)

pub new-requires-clause-few : goal.new-requires-clause-few
new-requires-clause-few c =
    let long = ap length c.in_ok-ends.ensures ∙ value_count c.args.clients (lease_ends c.args.plan.now) in
    let few = c.requires.few in
    omega (arith, long, few)

pub returns-clause-new : goal.returns-clause-new
returns-clause-new c =
    let row = c.pool_row-row.result.now in
    let pool = subst (λ z. HasPool z c.args.pools.now 0) (sym c.pool_row-row.ensures.size) c.requires.pool in
    let fits = pool_fits c.args.pools.now row.size 0 row.base row.buffers pool c.pool_row-row.ensures.base c.pool_row-row.ensures.buffers in
    rx_new c.args.plan.now c.args.pools.now c.args.clients row.size row.buffers row.base c.in_ok-ends.ends.items c.in_ok-pages.pages.items c.in_ok-new.field-0 c.in_ok-ends.ensures c.in_ok-pages.ensures fits.0
    c.pool_row-row.ensures.base c.pool_row-row.ensures.buffers c.pool_row-row.ensures.size _ _ refl refl c.in_ok-new.ensures.new c.in_ok-new.ensures.stands

pub returns-clause-part : goal.returns-clause-part
returns-clause-part c =
    let row = c.pool_row-row.result.now in
    let pool = subst (λ z. HasPool z c.args.pools.now 0) (sym c.pool_row-row.ensures.size) c.requires.pool in
    let fits = pool_fits c.args.pools.now row.size 0 row.base row.buffers pool c.pool_row-row.ensures.base c.pool_row-row.ensures.buffers in
    rx_part c.args.plan.now c.args.pools.now c.args.clients row.size row.buffers row.base c.in_ok-ends.ends.items c.in_ok-pages.pages.items c.in_ok-new.field-0 c.in_ok-ends.ensures c.in_ok-pages.ensures fits.0
    c.pool_row-row.ensures.base c.pool_row-row.ensures.buffers c.pool_row-row.ensures.size (record { 0 = 4 }) (record { 0 = 5 }) refl refl c.in_ok-new.ensures.new
