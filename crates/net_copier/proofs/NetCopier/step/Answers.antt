use Rattle.std.proofs.Common.{sym, ◌∙◌}
use Rattle.net_copier.proofs.Turns.{buffer_turned}
use Rattle.net_copier.proofs.NetCopier.step.Goals as goal

pub returns-in-1-clause-turned : goal.returns-in-1-clause-turned
returns-in-1-clause-turned g c = buffer_turned c.args.self.now c.choose.new.self c.step_buffer_input.new.self c.step_buffer_input.result c.choose.ensures.after (sym c.in-1.is ∙ c.choose.ensures.place) c.step_buffer_input.ensures.posted c.step_buffer_input.ensures.still c.step_buffer_input.ensures.others
