use Rattle.std.specs.Prelude.{codes, []}
use Rattle.export_text.specs.ConfigText.Lines.{if_there}
use Rattle.export_text.specs.ConfigText.Config.{decimal_of, hex_of, kind_number}
use Rattle.export_text.proofs.ConfigText.LineLemmas.{seven-written}
use Rattle.export_text.proofs.config_text.row.push_queue.Goals as goal

pub returns : goal.returns
returns c =
    seven-written _ _ _ _ _ _ _ _
    (decimal_of (codes "SDDF_QUEUE_") c.args.queue.now.name [] c.args.number)
    (decimal_of (codes "SDDF_QUEUE_") c.args.queue.now.name (codes "_KIND") (kind_number c.args.queue.now.kind))
    (decimal_of (codes "SDDF_QUEUE_") c.args.queue.now.name (codes "_PRODUCER") c.args.queue.now.producer.0)
    (decimal_of (codes "SDDF_QUEUE_") c.args.queue.now.name (codes "_CONSUMER") c.args.queue.now.consumer.0)
    (decimal_of (codes "SDDF_QUEUE_") c.args.queue.now.name (codes "_CAPACITY") c.args.queue.now.capacity)
    (if_there (decimal_of (codes "SDDF_QUEUE_") c.args.queue.now.name (codes "_REGION")) c.args.queue.now.region)
    (hex_of (codes "SDDF_QUEUE_") c.args.queue.now.name (codes "_OFFSET") c.args.queue.now.offset)
    (rw c.as_str.ensures at c.in_ok-push_decimal.ensures)
    (rw (c.as_str.ensures, c.kind_number.ensures) at c.in_ok-push_decimal-2.ensures)
    (rw (c.as_str.ensures, c.from.ensures) at c.in_ok-push_decimal-3.ensures)
    (rw (c.as_str.ensures, c.from-2.ensures) at c.in_ok-push_decimal-4.ensures)
    (rw (c.as_str.ensures, c.from-3.ensures) at c.in_ok-push_decimal-5.ensures)
    (rw c.as_str.ensures at c.in_ok-push_decimal_if.ensures)
    (rw c.as_str.ensures at c.in_ok-push_hex.ensures)
