-- The elements of the table as the program has them, behind references.
use Rattle.std.proofs.Common.{◌≡◌, ℕ, ◌<◌, ◌≤◌, List, [], ◌∷◌, length, map, take, get_or, flat_map, slice_get, Some, sym, ap, ◌∙◌, refl, subst}
use Rattle.std.specs.List.{All}
use Rattle.std.proofs.lemmas.List.{take_all}
use Rattle.std.proofs.lemmas.List.Elements.{All-nil, All-cons, All-head, All-tail}
use Rattle.std.proofs.lemmas.List.Folds.{flat_map-map}
use Rattle.std.proofs.lemmas.Option.{slice_get-map, slice_get-get_or}
use denote.Ref.{Bor}
use Rattle.sdf_plan.specs.declared.class_table.uses.ClassElement.{ClassElement}
use Rattle.sdf_plan.specs.declared.class_table.uses.QueueUse.{QueueUse}
use Rattle.sdf_plan.specs.declared.class_table.uses.PoolUse.{PoolUse}
use Rattle.sdf_plan.specs.ClassTable.Numbers.{seen}
use Rattle.sdf_plan.specs.ClassTable.Rows.{Name}
use Rattle.sdf_plan.specs.ClassTable.Shown.{Shelved, queue_shown, pool_shown}
use Rattle.sdf_plan.specs.ClassTable.Table.{Element}
use Rattle.sdf_plan.proofs.ClassTable.Everywhere.{all-at}
use Rattle.region_layout.specs.Uses.{IsSmallQueue, IsSmallPool, IsSmallElement}

-- what holds of all that a function gives
all-given : {X Y : Type 0} (P : Y → Type 0) (give : X → Y) (xs : List X) → All P (map give xs) → All (λ x. P (give x)) xs
all-given P give [] h = All-nil (λ x. P (give x))
all-given P give (x ∷ xs) h =
    All-cons (λ y. P (give y)) x xs (All-head P (give x) (map give xs) h) (all-given P give xs (All-tail P (give x) (map give xs) h))

-- an element behind a reference, at its place
small-at : (elements : List (Bor (ClassElement Shelved))) (table : List Element) → map seen elements ≡ table → All IsSmallElement table → (n : ℕ) (item : Bor (ClassElement Shelved))
    → n < length elements → item ≡ get_or elements n item → IsSmallElement (seen item)
small-at elements table are small n item less is =
    let there : slice_get (map seen elements) n ≡ Some (seen item) = slice_get-map seen elements n ∙ rw (slice_get-get_or elements n item less, ← is) refl in
    all-at IsSmallElement table small n (seen item) (subst (λ (t : List Element). slice_get t n ≡ Some (seen item)) are there)

pub small-queues : (elements : List (Bor (ClassElement Shelved))) (table : List Element) → map seen elements ≡ table → All IsSmallElement table → (n : ℕ) (item : Bor (ClassElement Shelved))
    → n < length elements → item ≡ get_or elements n item → All IsSmallQueue item.now.queues
small-queues elements table are small n item less is = all-given (λ (q : QueueUse Name). IsSmallQueue q) queue_shown item.now.queues (small-at elements table are small n item less is).0

pub small-pools : (elements : List (Bor (ClassElement Shelved))) (table : List Element) → map seen elements ≡ table → All IsSmallElement table → (n : ℕ) (item : Bor (ClassElement Shelved))
    → n < length elements → item ≡ get_or elements n item → All IsSmallPool item.now.pools
small-pools elements table are small n item less is = all-given (λ (p : PoolUse Name). IsSmallPool p) pool_shown item.now.pools (small-at elements table are small n item less is).1

-- the rows of all elements are those of the table
pub rows-of-table : {T : Type 0} (rows : Element → List T) (elements : List (Bor (ClassElement Shelved))) (n : ℕ) (table : List Element) (made : List T) → length elements ≤ n
    → map seen elements ≡ table → made ≡ flat_map (λ e. rows (seen e)) (take n elements) → made ≡ flat_map rows table
rows-of-table rows elements n table made past are was =
    was ∙ (ap (flat_map (λ e. rows (seen e))) (take_all n elements past) ∙ (sym (flat_map-map rows seen elements) ∙ ap (flat_map rows) are))
