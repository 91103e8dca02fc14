use Rattle.std.proofs.Common.{◌∙◌, sym}
use Rattle.actor_rows.proofs.Sizing.{in_there}
use Rattle.actor_rows.proofs.Beside.{copier_given}
use Rattle.actor_rows.proofs.drops.lend.Goals as goal

pub put_in-given-requires-clause-there : goal.put_in-given-requires-clause-there
put_in-given-requires-clause-there c = in_there _ _ c.requires.input c.requires.stands.long

pub put_in-given-requires-clause-kind : goal.put_in-given-requires-clause-kind
put_in-given-requires-clause-kind c = c.requires.kind ∙ sym (c.requires.stands.hands _ c.requires.input)

pub settle-requires : goal.settle-requires
settle-requires c = copier_given _ _ c.args.copier.now _ c.requires.input c.requires.stands c.put_in-given.ensures
