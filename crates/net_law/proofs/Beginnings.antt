use Rattle.std.proofs.Common.{◌++◌, List, map, Bool, sym, ap, ◌∙◌, append_assoc}
use Rattle.std.specs.List.{filter}
use Rattle.std.proofs.lemmas.List.{map-append}
use Rattle.std.proofs.lemmas.List.Elements.{filter-append}
use Rattle.cargo_core.specs.Lists.{IsPrefix}

-- a beginning of a beginning
pub begins_on : {T : Type 0} (xs ys zs : List T) → IsPrefix xs ys → IsPrefix ys zs → IsPrefix xs zs
begins_on xs ys zs a b = (a.0 ++ b.0, sym (append_assoc xs a.0 b.0) ∙ (ap (λ l. l ++ b.0) a.1 ∙ b.1))

-- of what is made of each element, and of those that are chosen
pub begins_map : {S T : Type 0} (f : S → T) (xs ys : List S) → IsPrefix xs ys → IsPrefix (map f xs) (map f ys)
begins_map f xs ys a = (map f a.0, sym (map-append f xs a.0) ∙ ap (map f) a.1)

pub begins_filter : {T : Type 0} (p : T → Bool) (xs ys : List T) → IsPrefix xs ys → IsPrefix (filter p xs) (filter p ys)
begins_filter p xs ys a = (filter p a.0, sym (filter-append p xs a.0) ∙ ap (filter p) a.1)
