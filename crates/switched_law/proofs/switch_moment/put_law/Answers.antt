use Rattle.switched_law.proofs.SwitchMoment.Putting.{put_few}
use Rattle.switched_law.proofs.switch_moment.put_law.Goals as goal

pub returns : goal.returns
returns c = λ ports ends v passed h. put_few ports ends v passed h
