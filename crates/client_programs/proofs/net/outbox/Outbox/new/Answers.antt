use Rattle.std.proofs.Common.{refl}
use Rattle.client_programs.proofs.NetLemmas.Sending.{outbox_starts}
use Rattle.client_programs.proofs.net.outbox.Outbox.new.Goals as goal

pub returns-clause-stands : goal.returns-clause-stands
returns-clause-stands c = λ frames. outbox_starts _ c.args.pages.items frames (record { load = refl; next = refl; is_start = c.new.ensures.start; base = c.new.ensures.base; stock = c.new.ensures.list; ready = c.new.ensures.stock })
