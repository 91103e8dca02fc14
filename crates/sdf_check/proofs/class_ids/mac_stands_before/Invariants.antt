use Rattle.std.proofs.Common.{◌≡◌, ℕ, ◌<◌, map, Some}
use Rattle.std.specs.List.{slice_get}
use Rattle.frame_core.specs.Macs.{mac_of}
use Rattle.sdf_plan.specs.declared.plan.NetClient.{NetClient}
use Rattle.sdf_check.proofs.class_ids.mac_stands_before.Given as goal

abbrev pub invariant-loop-at : goal.invariant-loop-at
invariant-loop-at l = (k : ℕ) → k < l.at → slice_get (map (λ (other : NetClient). mac_of other.mac) l.clients) k ≡ Some (Some l.mac) → ⊥
