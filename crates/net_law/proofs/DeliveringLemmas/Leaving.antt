use Rattle.std.proofs.Common.{◌≡◌, ◌⊎◌, ◌≤◌, ℕ, Bool, true, false, cond, List, [], ◌∷◌, ◌++◌, length, map, take, drop, refl, sym, ap, ◌∙◌}
use Rattle.std.specs.List.{filter}
use Rattle.std.proofs.lemmas.List.{take-append-drop}
use Rattle.cargo_core.specs.Lists.{IsPrefix}
use Rattle.wire_core.specs.Fates.{without, marked}
use Rattle.wire_core.proofs.Fating.{without-map, without_past}
use Rattle.net_law.specs.Delivering.{IsSubsequence}

-- marks of what the first marks leave
together : List Bool → List Bool → List Bool
together [] cs = cs
together (true ∷ bs) cs = true ∷ together bs cs
together (false ∷ bs) [] = false ∷ together bs []
together (false ∷ bs) (a ∷ cs) = a ∷ together bs cs

without-nil : {T : Type 0} (bs : List Bool) → without {X = T} bs [] ≡ []
without-nil [] = refl
without-nil (b ∷ bs) = refl

twice_without : {T : Type 0} (cs bs : List Bool) (zs : List T) → without (together bs cs) zs ≡ without cs (without bs zs)
unfolding together
twice_without cs [] zs = refl
twice_without cs (true ∷ bs) [] = sym (without-nil cs)
twice_without cs (true ∷ bs) (z ∷ zs) = twice_without cs bs zs
twice_without [] (false ∷ bs) [] = refl
twice_without (a ∷ cs) (false ∷ bs) [] = refl
twice_without [] (false ∷ bs) (z ∷ zs) = ap (λ l. z ∷ l) (twice_without [] bs zs)
twice_without (true ∷ cs) (false ∷ bs) (z ∷ zs) = twice_without cs bs zs
twice_without (false ∷ cs) (false ∷ bs) (z ∷ zs) = ap (λ l. z ∷ l) (twice_without cs bs zs)

pub part_same : {T : Type 0} (xs : List T) → IsSubsequence xs xs
part_same xs = ([], refl)

pub part_on : {T : Type 0} (xs ys zs : List T) → IsSubsequence xs ys → IsSubsequence ys zs → IsSubsequence xs zs
part_on xs ys zs a b = (together b.0 a.0, twice_without a.0 b.0 zs ∙ (ap (without a.0) b.1 ∙ a.1))

-- all marked
all_marked : {T : Type 0} → List T → List Bool
all_marked [] = []
all_marked (x ∷ xs) = true ∷ all_marked xs

none_left : {T : Type 0} (xs : List T) → without (all_marked xs) xs ≡ []
unfolding all_marked
none_left [] = refl
none_left (x ∷ xs) = none_left xs

-- a beginning is one
front_marks : {T : Type 0} → List T → List T → List Bool
front_marks [] rest = all_marked rest
front_marks (x ∷ xs) rest = false ∷ front_marks xs rest

front_left : {T : Type 0} (xs rest : List T) → without (front_marks xs rest) (xs ++ rest) ≡ xs
unfolding front_marks
front_left [] rest = none_left rest
front_left (x ∷ xs) rest = ap (λ l. x ∷ l) (front_left xs rest)

pub part_begins : {T : Type 0} (xs ys : List T) → IsPrefix xs ys → IsSubsequence xs ys
part_begins xs ys a = (front_marks xs a.0, ap (without (front_marks xs a.0)) (sym a.1) ∙ front_left xs a.0)

pub part_take : {T : Type 0} (n : ℕ) (xs : List T) → IsSubsequence (take n xs) xs
part_take n xs = part_begins (take n xs) xs (drop n xs, take-append-drop n xs)

-- of what is made of each element, and of those that are chosen
pub part_map : {S T : Type 0} (f : S → T) (xs ys : List S) → IsSubsequence xs ys → IsSubsequence (map f xs) (map f ys)
part_map f xs ys a = (a.0, sym (without-map f a.0 ys) ∙ ap (map f) a.1)

chosen_marks : {T : Type 0} → (T → Bool) → List Bool → List T → List Bool
chosen_marks p [] ys = []
chosen_marks p (b ∷ bs) [] = []
chosen_marks p (b ∷ bs) (y ∷ ys) = cond (p y) (b ∷ chosen_marks p bs ys) (chosen_marks p bs ys)

-- one element more
one : {T : Type 0} (p : T → Bool) (b : Bool) (bs rest : List Bool) (y : T) (ys : List T) (q : Bool) → p y ≡ q → without rest (filter p ys) ≡ filter p (without bs ys) → without (cond q (b ∷ rest) rest) (cond q (y ∷ filter p ys) (filter p ys)) ≡ filter p (without (b ∷ bs) (y ∷ ys))
one p true bs rest y ys true is all = all
one p true bs rest y ys false is all = all
one p false bs rest y ys true is all = rw is (ap (λ l. y ∷ l) all)
one p false bs rest y ys false is all = rw is all

chosen_left : {T : Type 0} (p : T → Bool) (bs : List Bool) (ys : List T) → without (chosen_marks p bs ys) (filter p ys) ≡ filter p (without bs ys)
unfolding chosen_marks
chosen_left p [] ys = refl
chosen_left p (b ∷ bs) [] = refl
chosen_left p (b ∷ bs) (y ∷ ys) = one p b bs (chosen_marks p bs ys) y ys (p y) refl (chosen_left p bs ys)

pub part_filter : {T : Type 0} (p : T → Bool) (xs ys : List T) → IsSubsequence xs ys → IsSubsequence (filter p xs) (filter p ys)
part_filter p xs ys a = (chosen_marks p a.0 ys, chosen_left p a.0 ys ∙ ap (filter p) a.1)

-- what stands behind the marks stays
pub begins_without : {T : Type 0} (bs : List Bool) (xs ys : List T) → (length bs ≤ length xs) ⊎ (marked bs ≡ 0) → IsPrefix xs ys → IsPrefix (without bs xs) (without bs ys)
begins_without bs xs ys fits a = (a.0, sym (without_past bs xs a.0 fits) ∙ ap (without bs) a.1)
