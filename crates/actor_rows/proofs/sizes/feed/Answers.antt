use Rattle.std.proofs.Common.{◌∙◌, sym}
use Rattle.actor_rows.proofs.Sizing.{after_feed, feed_there}
use Rattle.actor_rows.proofs.sizes.feed.Goals as goal

pub put_in-requires-clause-there : goal.put_in-requires-clause-there
put_in-requires-clause-there c = feed_there _ _ c.requires.input c.requires.fed

pub put_in-requires-clause-kind : goal.put_in-requires-clause-kind
put_in-requires-clause-kind c = c.descriptor.ensures ∙ sym (c.requires.fed.hands _ c.requires.input)

pub returns : goal.returns
returns c = after_feed _ _ _ c.requires.input c.requires.fed c.put_in.ensures
