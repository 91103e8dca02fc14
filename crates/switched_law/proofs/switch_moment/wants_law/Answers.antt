use Rattle.switched_law.proofs.SwitchMoment.Wanting.{client_met, switch_met}
use Rattle.switched_law.proofs.switch_moment.wants_law.Goals as goal

pub returns-clause-client : goal.returns-clause-client
returns-clause-client c = λ ports world passed m items port client is fits stands. client_met ports world passed m items port client is fits stands

pub returns-clause-switch : goal.returns-clause-switch
returns-clause-switch c = λ ports ends v passed h m items. switch_met ports ends v passed h m items
