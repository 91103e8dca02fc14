use Rattle.actor_rows.proofs.Sizing.{after_try}
use Rattle.actor_rows.proofs.alone.NetClientAlone.call.Goals as goal

pub returns : goal.returns
returns c = record { fits = c.step-called.ensures.fits; long = after_try _ _ _ c.args.self.now c.step-called.new.self c.step-called.result c.step-called.ensures.stepped c.step-called.ensures.no_call c.requires.long }
