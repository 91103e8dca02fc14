use Rattle.actor_rows.proofs.sizes.next.Goals as goal

pub returns : goal.returns
returns c = c.get_entry.ensures.long
