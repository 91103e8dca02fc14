use Rattle.buffer_kit.specs.Virtualising.{from_queues, to_queues}
use Rattle.i2c_virt.proofs.Rows.{row_of}
use Rattle.i2c_virt.proofs.virtualiser.virt_law.Goals as goal

pub returns : goal.returns
returns c = λ v passed h. row_of v.ends.input.queue.0 v.ends.output.queue.0 (from_queues v.ends) (to_queues v.ends) v.work passed h
