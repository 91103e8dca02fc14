use Rattle.pictures.proofs.PlayPicture.PartnerLemmas.{partners}
use Rattle.pictures.proofs.play_picture.law.pair_law.Goals as goal

pub returns : goal.returns
returns c = partners
