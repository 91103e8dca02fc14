use Rattle.text_limits.proofs.FrameLimits.{frames_short}
use Rattle.text_limits.proofs.limits.ports_frames_law.Goals as goal

pub returns : goal.returns
returns c = frames_short
