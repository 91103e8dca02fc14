use Rattle.std.proofs.Common.{◌≡◌, ◌++◌, map, take, drop}
use Rattle.frame_core.specs.declared.mac.Mac.{Mac}
use Rattle.class_expect.specs.NetExpect.Expecting.{is_for_client}
use Rattle.net_virt_rx.proofs.receivers.mark.Given as goal

abbrev pub invariant-loop-k : goal.invariant-loop-k
invariant-loop-k l = l.marks ≡ map (λ (mac : Mac). is_for_client mac l.frame) (take l.k l.macs) ++ drop l.k l.initial.marks
