-- What each element of a table gives, class by class and client by client.
use Rattle.std.proofs.Common.{◌≡◌, ℕ, ◌+◌, List, [], ◌∷◌, ◌++◌, flat_map, Option, Some, None, refl, sym, ap, ◌∙◌, append_assoc}
use Rattle.std.specs.Option.{option_map_or}
use Rattle.sdf_plan.specs.declared.plan.Plan.{Plan}
use Rattle.sdf_plan.specs.ClassTable.Table.{Element, numbered, table_of, net_elements, serial_elements, blk_elements}

-- of two lists
pub flat-both : {X T : Type 0} (give : X → List T) (xs ys : List X) → flat_map give (xs ++ ys) ≡ flat_map give xs ++ flat_map give ys
flat-both give [] ys = refl
flat-both give (x ∷ xs) ys = rw (flat-both give xs ys, append_assoc (give x) (flat_map give xs) (flat_map give ys)) refl

-- of the clients of a class, whatever their numbers
pub flat-names : {C X T : Type 0} (give : X → List T) (element : ℕ → C → X) (names : C → List T) (c : ℕ) (clients : List C)
    → ((k : ℕ) (client : C) → names client ≡ give (element k client)) → flat_map names clients ≡ flat_map give (numbered element c clients)
flat-names give element names c [] same = refl
flat-names give element names c (client ∷ rest) same = rw (same c client, flat-names give element names (c + 1) rest same) refl

-- clients that give nothing
pub flat-nothing : {C X T : Type 0} (give : X → List T) (element : ℕ → C → X) (c : ℕ) (clients : List C)
    → ((k : ℕ) (client : C) → give (element k client) ≡ []) → flat_map give (numbered element c clients) ≡ []
flat-nothing give element c [] none = refl
flat-nothing give element c (client ∷ rest) none = rw (none c client, flat-nothing give element (c + 1) rest none) refl

-- of a class that may be there
pub flat-class : {C X T : Type 0} (give : X → List T) (elements : C → List X) (rows : C → List T) (class : Option C)
    → ((x : C) → rows x ≡ flat_map give (elements x)) → option_map_or rows class [] ≡ flat_map give (option_map_or elements class [])
flat-class give elements rows None same = refl
flat-class give elements rows (Some x) same = same x

-- of a table, class by class
pub flat-three : {T : Type 0} (give : Element → List T) (plan : Plan) (net serial blk : List T)
    → net ≡ flat_map give (option_map_or net_elements plan.net []) → serial ≡ flat_map give (option_map_or serial_elements plan.serial [])
    → blk ≡ flat_map give (option_map_or blk_elements plan.blk []) → net ++ serial ++ blk ≡ flat_map give (table_of plan)
unfolding table_of
flat-three give plan net serial blk one two other =
    let n = option_map_or net_elements plan.net [] in
    let s = option_map_or serial_elements plan.serial [] in
    let b = option_map_or blk_elements plan.blk [] in
    rw (one, two, other) (sym (flat-both give (n ++ s) b ∙ ap (λ rows. rows ++ flat_map give b) (flat-both give n s)))
