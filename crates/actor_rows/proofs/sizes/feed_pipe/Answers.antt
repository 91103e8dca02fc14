use Rattle.std.proofs.Common.{◌∙◌, sym}
use Rattle.actor_rows.proofs.Sizing.{after_pipe, pipe_there}
use Rattle.actor_rows.proofs.sizes.feed_pipe.Goals as goal

pub put_in-requires-clause-there : goal.put_in-requires-clause-there
put_in-requires-clause-there c = pipe_there _ _ c.requires.pipe c.requires.fed

pub put_in-requires-clause-kind : goal.put_in-requires-clause-kind
put_in-requires-clause-kind c = c.descriptor.ensures ∙ sym (c.requires.fed.hands _ c.requires.pipe)

pub returns : goal.returns
returns c = after_pipe _ _ _ c.requires.pipe c.requires.fed c.put_in.ensures
