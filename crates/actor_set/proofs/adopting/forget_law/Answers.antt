use Rattle.actor_set.proofs.AdoptingLemmas.Looks.{fits_anew}
use Rattle.actor_set.proofs.adopting.forget_law.Goals as goal

pub returns : goal.returns
returns c = λ ends other old new f same fits. fits_anew ends other old new f same fits
