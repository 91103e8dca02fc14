use Rattle.blk_quiet.proofs.CastLemmas.Turning.{virt_in_turn, responses_few, sector_is, disk_in_turn}
use Rattle.blk_quiet.proofs.cast.turn_law.Goals as goal

pub returns-clause-virtualiser : goal.returns-clause-virtualiser
returns-clause-virtualiser c = virt_in_turn

pub returns-clause-answered : goal.returns-clause-answered
returns-clause-answered c = responses_few

pub returns-clause-sector : goal.returns-clause-sector
returns-clause-sector c = sector_is

pub returns-clause-disk : goal.returns-clause-disk
returns-clause-disk c = λ wild place passed h ask whole. disk_in_turn place passed h wild ask whole
