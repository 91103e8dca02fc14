-- Which names of variables can be exported: the identifiers of C.
use Rattle.std.specs.Prelude.{ℕ, ◌+◌, ◌==◌, ◌&&◌, ◌||◌, not, nat_lt, Bool, true, false, Option}
use Rattle.std.specs.Prelude.{Some, None, List, [], ◌∷◌, if◌then◌else◌}
use Rattle.std.specs.List.{list_all}
use Rattle.sdf_plan.specs.declared.place.Place.{Place}
use Rattle.sdf_plan.specs.declared.place.Place.TheVariants as At
use Rattle.sdf_plan.specs.declared.plan.Plan.{Plan}
use Rattle.sdf_plan.specs.declared.plan.Domain.{Domain}
use Rattle.sdf_plan.specs.declared.plan.Map.{Map}
use Rattle.picture_kit.specs.XmlText.Reading.{is_from_to, is_name_byte}

-- whether a text is an identifier of C: letters, digits and `_`, and no digit in front
abbrev pub is_identifier : List ℕ → Bool
is_identifier [] = false
is_identifier (b ∷ rest) =
    not (is_from_to 48 57 b) && (is_name_byte b && list_all is_name_byte rest)

-- whether the name of a map's variable is one, or there is none
abbrev pub is_symbol : Option (List ℕ) → Bool
is_symbol None = true
is_symbol (Some text) = is_identifier text

-- the first of some maps whose variable has no such name: the maps of a domain, by their numbers
-- from one on
abbrev pub bad_map : ℕ → ℕ → List Map → Option Place
bad_map domain number [] = None
bad_map domain number (m ∷ rest) =
    if is_symbol m.setvar_vaddr then bad_map domain (number + 1) rest
    else Some (At.Map domain number)

-- the first of two, if there is one
abbrev pub first_of_two : Option Place → Option Place → Option Place
first_of_two None second = second
first_of_two (Some place) second = Some place

-- the first map of some domains whose variable has no such name
abbrev pub bad_domain : ℕ → List Domain → Option Place
bad_domain number [] = None
bad_domain number (domain ∷ rest) =
    first_of_two (bad_map number 0 domain.map) (bad_domain (number + 1) rest)

-- the first map of a plan whose variable has no such name
abbrev pub bad_symbol : Plan → Option Place
bad_symbol plan = bad_domain 0 plan.protection_domain
