use Rattle.std.proofs.Common.{◌≡◌, take}
use Rattle.class_expect.specs.NetExpect.Expecting.{answers_for}
use Rattle.class_expect.proofs.net_expect.answers_for.Given as goal

abbrev pub invariant-loop-at : goal.invariant-loop-at
invariant-loop-at l = l.log ≡ answers_for l.mac (take l.at l.frames)
