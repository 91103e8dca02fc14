-- What holds of the elements of a valid plan.
use Rattle.std.proofs.Common.{ℕ, zero, suc, ◌≡◌, ◌≤◌, List, [], ◌∷◌, map, Some, slice_get, refl}
use Rattle.std.specs.List.{All}
use Rattle.std.proofs.lemmas.List.Elements.{All-nil, All-cons}
use Rattle.sdf_plan.specs.declared.plan.Plan.{Plan}
use Rattle.sdf_plan.specs.ClassTable.Table.{table_of}
use Rattle.sdf_plan.proofs.ClassTable.Everywhere.{all-table}
use Rattle.sdf_check.specs.Valid.{Valid, BreaksByRows, first_rule, last_rule}
use Rattle.region_layout.proofs.KeptLemmas.{net_keeps, net_client_keeps, serial_keeps, serial_client_keeps, blk_keeps, blk_client_keeps}

-- none breaks a rule by its rows
pub kept-table : (plan : Plan) (rule : ℕ) → Valid plan → first_rule ≤ rule → rule ≤ last_rule → All (λ e. BreaksByRows plan rule e → ⊥) (table_of plan)
kept-table plan rule valid from to =
    all-table (λ e. BreaksByRows plan rule e → ⊥) plan (net_keeps plan rule valid from to) (net_client_keeps plan rule valid from to) (serial_keeps plan rule valid from to)
    (serial_client_keeps plan rule valid from to) (blk_keeps plan rule valid from to) (blk_client_keeps plan rule valid from to)

-- what holds of each row that is made
pub all-rows : {X Y : Type 0} (P : Y → Type 0) (make : X → Y) (xs : List X) → ((k : ℕ) (x : X) → slice_get xs k ≡ Some x → P (make x)) → All P (map make xs)
all-rows P make [] h = All-nil P
all-rows P make (x ∷ xs) h = All-cons P (make x) (map make xs) (h 0 x refl) (all-rows P make xs (λ k. h (suc k)))
