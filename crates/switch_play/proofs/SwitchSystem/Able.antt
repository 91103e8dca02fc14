-- Actors can be made of ports that were read.
use Rattle.std.proofs.Common.{◌≡◌, ◌≤◌, ℕ, Some, List, All, length, slice_get, arith}
use Rattle.line_text.specs.declared.ports_text.ports.Ports.{Ports}
use Rattle.text_limits.specs.Limits.{KeepsPortLimits}
use Rattle.switched_law.specs.SwitchClass.Casting.{CanBeMade}

pub can_be_made : (ports : Ports) → KeepsPortLimits ports → ((port : ℕ) (frames : List (List ℕ)) → slice_get ports.sends port ≡ Some frames → All (λ frame. length frame ≤ 1514) frames) → CanBeMade ports
can_be_made ports limits short = record {
  some = let e = limits.enough in omega (arith, e);
  few = limits.few;
  lists = limits.lists;
  short = λ port frames at k d lt. let one = short port frames at k d lt in omega (arith, one);
}
