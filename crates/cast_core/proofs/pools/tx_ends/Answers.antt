use Rattle.std.proofs.Common.{◌+◌, ◌*◌, ℕ, ap, ap₂, ◌∙◌}
use Rattle.net_virt_tx.specs.declared.TxEnds.{TxEnds}
use Rattle.net_law.specs.Parts.Numbers.{client_first}
use Rattle.cast_core.specs.Sources.{pool_at}
use Rattle.cast_core.specs.Making.{tx_ends}
use Rattle.cast_core.proofs.Listing.{one_more}
use Rattle.cast_core.proofs.pools.tx_ends.Goals as goal

pub loop-c-preserved : goal.loop-c-preserved
loop-c-preserved c =
    let k = c.loop-c.c in
    let made : ℕ → ℕ → ℕ → TxEnds = λ many base size. record { active = record { 0 = client_first 0 k + 4 }; free = record { 0 = client_first 0 k + 5 }; pool = record { 0 = 2 + 2 * k }; buffers = many; base = base; size = size } in
    one_more k (tx_ends c.args.rows.now) c.loop-c.ends.items c.push.new.self.items _ c.loop-c.invariant c.in_ok-push.ensures.items (ap₂ (λ many base. made many base c.pool_row-row.result.now.size) c.pool_row-row.ensures.buffers c.pool_row-row.ensures.base ∙ ap (made (pool_at c.args.rows.now (2 + 2 * k)).buffers (pool_at c.args.rows.now (2 + 2 * k)).base) c.pool_row-row.ensures.size)
