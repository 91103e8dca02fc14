use Rattle.turn_kit.proofs.Pacing.{paced_anew}
use Rattle.turn_kit.proofs.Playing.{pace_own, pace_beside, pace_few}
use Rattle.turn_kit.proofs.laws.pace_law.Goals as goal

pub returns-clause-begins : goal.returns-clause-begins
returns-clause-begins c = paced_anew

pub returns-clause-own : goal.returns-clause-own
returns-clause-own c = pace_own

pub returns-clause-beside : goal.returns-clause-beside
returns-clause-beside c = pace_beside

pub returns-clause-few : goal.returns-clause-few
returns-clause-few c = pace_few
