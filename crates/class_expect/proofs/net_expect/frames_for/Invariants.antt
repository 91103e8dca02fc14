use Rattle.std.proofs.Common.{◌≡◌, take}
use Rattle.class_expect.specs.NetExpect.Expecting.{frames_for}
use Rattle.class_expect.proofs.net_expect.frames_for.Given as goal

abbrev pub invariant-loop-at : goal.invariant-loop-at
invariant-loop-at l = l.log ≡ frames_for l.mac (take l.at l.frames)
