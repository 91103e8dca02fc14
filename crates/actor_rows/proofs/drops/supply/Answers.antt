use Rattle.std.proofs.Common.{refl, sym, ◌∙◌, inl}
use Rattle.actor_rows.proofs.Sizing.{in_there}
use Rattle.actor_rows.proofs.Beside.{device_given}
use Rattle.actor_rows.proofs.drops.supply.Goals as goal

pub put_in-requires-clause-there : goal.put_in-requires-clause-there
put_in-requires-clause-there c = in_there _ _ (inl refl) c.requires.long

pub put_in-requires-clause-kind : goal.put_in-requires-clause-kind
put_in-requires-clause-kind c = c.descriptor.ensures ∙ sym (c.requires.hands _ (inl refl))

pub returns : goal.returns
returns c = device_given _ _ c.args.device.now _ (inl refl) c.requires c.put_in.ensures
