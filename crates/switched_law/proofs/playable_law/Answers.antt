use Rattle.std.proofs.Common.{◌≡◌, ◌≤◌, ℕ, zero, suc, Some, List, [], ◌∷◌, length, slice_get, subst, arith}
use Rattle.std.specs.List.{All}
use Rattle.play_core.proofs.Lists.{some_is}
use Rattle.switched_law.proofs.playable_law.Goals as goal

all_at : {T : Type 0} (P : T → Type 0) (xs : List T) → All P xs → (k : ℕ) (x : T) → slice_get xs k ≡ Some x → P x
all_at P [] h k x at = cc
all_at P (y ∷ xs) h zero x at = subst P (some_is at) (h 0 y (omega arith))
all_at P (y ∷ xs) h (suc k) x at = all_at P xs (λ i d lt. h (suc i) d (omega (arith, lt))) k x at

pub returns : goal.returns
returns c = λ ports are.
    let limits = c.ports_limits_law.ensures ports are in
    record {
      as_many = limits.lists;
      short = λ port frames at k frame there. (let few = all_at (λ (f : List ℕ). length f ≤ 1514) frames (c.ports_frames_law.ensures ports are port frames at) k frame there in omega (arith, few));
      few = (let few = limits.sends in omega (arith, few));
    }
