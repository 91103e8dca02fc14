use Rattle.switched_law.proofs.SwitchMoment.Records.{log_told, sent_first, frames_few, lost_is}
use Rattle.switched_law.proofs.switch_moment.take_law.Goals as goal

pub returns-clause-log : goal.returns-clause-log
returns-clause-log c = λ ports ends v passed h. log_told ports ends v passed h

pub returns-clause-first : goal.returns-clause-first
returns-clause-first c = λ ports ends v passed h port frames at. sent_first ports ends v passed h port frames at

pub returns-clause-few : goal.returns-clause-few
returns-clause-few c = λ ports ends v passed h. frames_few ports ends v passed h

pub returns-clause-lost : goal.returns-clause-lost
returns-clause-lost c = λ ports ends v passed h. lost_is ports ends v passed h
