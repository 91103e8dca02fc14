use Rattle.switched_law.proofs.SwitchMoment.Records.{record_first, record_merges}
use Rattle.switched_law.proofs.switch_moment.record_law.Goals as goal

pub returns-clause-first : goal.returns-clause-first
returns-clause-first c = λ ports ends v passed h port client is stands. record_first ports ends v passed h port client is stands

pub returns-clause-merges : goal.returns-clause-merges
returns-clause-merges c = λ ports ends v passed h port mac at client is stands. record_merges ports ends v passed h c.ports_law.ensures.merges port mac at client is stands
