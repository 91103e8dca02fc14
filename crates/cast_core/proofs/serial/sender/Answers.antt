use Rattle.cast_core.proofs.SerialStarts.{tx_new, tx_part}
use Rattle.cast_core.proofs.serial.sender.Goals as goal

pub returns-clause-new : goal.returns-clause-new
returns-clause-new c = tx_new _ _ c.in_ok-new.field-0 c.in_ok-new.ensures.new

pub returns-clause-part : goal.returns-clause-part
returns-clause-part c = tx_part _ _ c.in_ok-new.field-0 _ c.in_ok-new.ensures.new c.in_ok-queues.ensures
