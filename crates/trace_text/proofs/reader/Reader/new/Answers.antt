use Rattle.trace_text.proofs.NewReader.{new_reader}
use Rattle.trace_text.proofs.reader.Reader.new.Goals as goal

pub returns : goal.returns
returns c =
    new_reader c.args.plan.now _ _ _ _ _ _ _ _ _ c.new.ensures c.new-2.ensures c.new-3.ensures
    (rw c.net_client_count.ensures at c.in_ok-no_frames.ensures)
    (rw c.serial_client_count.ensures at c.in_ok-no_bytes.ensures)
    (rw c.blk_client_count.ensures at c.in_ok-no_items.ensures)
    (rw c.net_client_count-2.ensures at c.in_ok-no_items-2.ensures)
    (rw c.serial_client_count-2.ensures at c.in_ok-no_items-3.ensures)
    (rw c.blk_client_count-2.ensures at c.in_ok-no_items-4.ensures)
