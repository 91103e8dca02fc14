use Rattle.switched_law.proofs.SwitchMoment.Still.{took_whole, record_all, record_merged}
use Rattle.switched_law.proofs.switch_moment.whole_law.Goals as goal

pub returns-clause-taken : goal.returns-clause-taken
returns-clause-taken c = λ ports ends v passed h rests port frames at. took_whole ports ends v passed h rests port frames at

pub returns-clause-records : goal.returns-clause-records
returns-clause-records c = λ ports ends v passed h rests port client is stands. record_all ports ends v passed h rests port client is stands

pub returns-clause-merges : goal.returns-clause-merges
returns-clause-merges c = λ ports ends v passed h rests port mac at client is stands. record_merged ports ends v passed h rests c.ports_law.ensures.whole port mac at client is stands
