use Rattle.actor_rows.proofs.Sizing.{after_call}
use Rattle.actor_rows.proofs.alone.EthDriverAlone.call.Goals as goal

pub returns : goal.returns
returns c = record { fits = c.step.ensures.fits; long = after_call _ _ _ _ _ c.step.new.event c.step.ensures.stepped c.requires.long }
