-- What each client of a class gives by its number.
use Rattle.std.proofs.Common.{◌≡◌, ℕ, ◌+◌, List, [], ◌∷◌, flat_map, refl}
use Rattle.sdf_plan.specs.ClassTable.Table.{numbered}
use Rattle.region_layout.specs.Rows.{each_client}

pub flat-numbered : {C X T : Type 0} (give : X → List T) (element : ℕ → C → X) (rows : ℕ → C → List T) (c : ℕ) (clients : List C)
    → ((k : ℕ) (client : C) → rows k client ≡ give (element k client)) → each_client rows c clients ≡ flat_map give (numbered element c clients)
flat-numbered give element rows c [] same = refl
flat-numbered give element rows c (client ∷ rest) same = rw (same c client, flat-numbered give element rows (c + 1) rest same) refl
