use Rattle.std.proofs.Common.{◌∙◌}
use Rattle.std.proofs.lemmas.Nat.{and_mask}
use Rattle.cargo_core.proofs.slot.slot_of.Goals as goal

pub returns : goal.returns
returns c = c.from.ensures ∙ rw c.requires.2 (and_mask c.args.index c.requires.0)
