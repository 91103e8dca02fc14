use Rattle.std.proofs.Common.{◌+◌, ◌*◌, [], refl, sym, ap, ap₂, ◌∙◌, subst, arith, unwrap_or}
use Rattle.client_programs.specs.Net.Programs.{program_with}
use Rattle.net_law.specs.Parts.Numbers.{client_at}
use Rattle.net_law.specs.TxParts.Numbers.{own_pools}
use Rattle.cast_core.specs.Sources.{pools_at}
use Rattle.cast_core.specs.Making.{AreShort, HasPool}
use Rattle.cast_core.proofs.Making.{pages_are, pool_fits, client_new, client_is}
use Rattle.cast_core.proofs.network.client.Goals as goal

pub new-requires-clause-rx_pool : goal.new-requires-clause-rx_pool
new-requires-clause-rx_pool c =
    let row = c.pool_row-rx_row.result.now in
    let pool = subst (λ z. HasPool z c.args.pools.now (1 + 2 * c.args.client)) (sym c.pool_row-rx_row.ensures.size) c.requires.rx in
    let fits = pool_fits c.args.pools.now row.size (1 + 2 * c.args.client) row.base row.buffers pool c.pool_row-rx_row.ensures.base c.pool_row-rx_row.ensures.buffers in
    let ends = fits.2 in
    (record { 0 = 1 + 2 * c.args.client }, row.size, pages_are row.size (1 + 2 * c.args.client) row.buffers 0 c.in_ok-rx_pages.rx_pages.items pool.large c.in_ok-rx_pages.ensures fits.1 (omega (arith, ends)))

pub new-requires-clause-tx_pool : goal.new-requires-clause-tx_pool
new-requires-clause-tx_pool c =
    let row = c.pool_row-tx_row.result.now in
    let pool = subst (λ z. HasPool z c.args.pools.now (2 + 2 * c.args.client)) (sym c.pool_row-tx_row.ensures.size) c.requires.tx in
    let fits = pool_fits c.args.pools.now row.size (2 + 2 * c.args.client) row.base row.buffers pool c.pool_row-tx_row.ensures.base c.pool_row-tx_row.ensures.buffers in
    let ends = fits.2 in
    (record { 0 = 2 + 2 * c.args.client }, row.size, pages_are row.size (2 + 2 * c.args.client) row.buffers 0 c.in_ok-tx_pages.tx_pages.items pool.large c.in_ok-tx_pages.ensures fits.1 (omega (arith, ends)))

pub returns-clause-new : goal.returns-clause-new
returns-clause-new c =
    let rx = c.pool_row-rx_row.result.now in
    let tx = c.pool_row-tx_row.result.now in
    let fits = pool_fits c.args.pools.now _ (1 + 2 * c.args.client) rx.base rx.buffers c.requires.rx c.pool_row-rx_row.ensures.base c.pool_row-rx_row.ensures.buffers in
    let spare = pool_fits c.args.pools.now _ (2 + 2 * c.args.client) tx.base tx.buffers c.requires.tx c.pool_row-tx_row.ensures.base c.pool_row-tx_row.ensures.buffers in
    let short : AreShort c.in_ok-script.script = rw c.in_ok-script.ensures (c.requires.short c.sends.result.now c.sends.ensures) in
    client_new c.args.pools.now c.args.client rx.size tx.size rx.buffers tx.buffers c.client_kind.result c.client_mac.result _ _ _ _ c.in_ok-rx_pages.rx_pages.items c.in_ok-tx_pages.tx_pages.items c.in_ok-script.script c.new.result
    c.in_ok-rx_pages.ensures c.in_ok-tx_pages.ensures fits.0 spare.0 (c.new.ensures.new _ _ _ _ refl refl) short fits.1 spare.1

pub returns-clause-part : goal.returns-clause-part
returns-clause-part c =
    let k = c.args.client in
    let rx = c.pool_row-rx_row.result.now in
    let tx = c.pool_row-tx_row.result.now in
    let fits = pool_fits c.args.pools.now _ (1 + 2 * k) rx.base rx.buffers c.requires.rx c.pool_row-rx_row.ensures.base c.pool_row-rx_row.ensures.buffers in
    let spare = pool_fits c.args.pools.now _ (2 + 2 * k) tx.base tx.buffers c.requires.tx c.pool_row-tx_row.ensures.base c.pool_row-tx_row.ensures.buffers in
    let script = c.in_ok-script.ensures ∙ sym (ap (λ o. unwrap_or o []) c.sends.ensures) in
    client_is c.args.pools.now k rx.size tx.size rx.buffers tx.buffers c.client_kind.result c.client_mac.result _ _ _ _ c.in_ok-rx_pages.rx_pages.items c.in_ok-tx_pages.tx_pages.items c.in_ok-script.script c.new.result
    c.in_ok-rx_pages.ensures c.in_ok-tx_pages.ensures fits.0 spare.0 (c.new.ensures.new _ _ _ _ refl refl) refl refl refl refl c.pool_row-rx_row.ensures.buffers c.pool_row-tx_row.ensures.buffers c.pool_row-rx_row.ensures.size c.pool_row-tx_row.ensures.size
    ∙ ap₂ (λ p m. client_at 0 k p m (own_pools (pools_at c.args.pools.now k))) (ap₂ program_with c.client_kind.ensures script) c.client_mac.ensures
