use Rattle.std.specs.Prelude.{codes, []}
use Rattle.export_text.specs.ConfigText.Config.{decimal_of}
use Rattle.export_text.proofs.ConfigText.LineLemmas.{four-written}
use Rattle.export_text.proofs.config_text.row.push_pool.Goals as goal

pub returns : goal.returns
returns c =
    four-written _ _ _ _ _
    (decimal_of (codes "SDDF_POOL_") c.args.pool.now.name [] c.args.number)
    (decimal_of (codes "SDDF_POOL_") c.args.pool.now.name (codes "_REGION") c.args.pool.now.region)
    (decimal_of (codes "SDDF_POOL_") c.args.pool.now.name (codes "_BUFFERS") c.args.pool.now.buffers)
    (decimal_of (codes "SDDF_POOL_") c.args.pool.now.name (codes "_BUFFER_SIZE") c.args.pool.now.size)
    (rw c.as_str.ensures at c.in_ok-push_decimal.ensures)
    (rw (c.as_str.ensures, c.from.ensures) at c.in_ok-push_decimal-2.ensures)
    (rw (c.as_str.ensures, c.from-2.ensures) at c.in_ok-push_decimal-3.ensures)
    (rw (c.as_str.ensures, c.from-3.ensures) at c.in_ok-push_decimal-4.ensures)
