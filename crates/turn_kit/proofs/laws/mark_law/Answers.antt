use Rattle.turn_kit.proofs.Turning.{round_next}
use Rattle.turn_kit.proofs.Waking.{rest_stays, two_rounds}
use Rattle.turn_kit.proofs.Marking.{seven_calls, six_calls}
use Rattle.turn_kit.proofs.Pacing.{since_kept, since_claims}
use Rattle.turn_kit.proofs.laws.mark_law.Goals as goal

pub returns-clause-seven : goal.returns-clause-seven
returns-clause-seven c = seven_calls

pub returns-clause-six : goal.returns-clause-six
returns-clause-six c = six_calls

pub returns-clause-rest : goal.returns-clause-rest
returns-clause-rest c r new es u rest = rest_stays es r new u rest

pub returns-clause-wake : goal.returns-clause-wake
returns-clause-wake c r new es ok rest u h k p at = two_rounds r new es ok rest u h k p at

pub returns-clause-next : goal.returns-clause-next
returns-clause-next c r m e ok t = round_next r e m t ok

pub returns-clause-since : goal.returns-clause-since
returns-clause-since c = since_kept

pub returns-clause-claims : goal.returns-clause-claims
returns-clause-claims c = since_claims
