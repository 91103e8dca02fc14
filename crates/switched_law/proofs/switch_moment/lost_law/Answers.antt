use Rattle.switched_law.proofs.SwitchMoment.Leaving.{left_out, kept_by}
use Rattle.switched_law.proofs.switch_moment.lost_law.Goals as goal

pub returns-clause-left_out : goal.returns-clause-left_out
returns-clause-left_out c = left_out

pub returns-clause-kept : goal.returns-clause-kept
returns-clause-kept c = kept_by
