use Rattle.std.proofs.Common.{◌≡◌, ◌+◌, ◌++◌, ℕ, Some, List, [], ◌∷◌, take, slice_get, ap, ◌∙◌, ◌≢◌, ◌⊎◌, ◌<◌, ◌≤◌, ◌==◌, Bool, true, false, not, ◌||◌, length, slice_set, refl, sym, arith, inl, inr, zero, suc, ◌&&◌, length-append, length-take, min}
use Rattle.std.proofs.lemmas.List.{take_more, take_all, append-nil}
use Rattle.std.proofs.lemmas.Option.{get_or_from_slice_get}
use Rattle.play_core.proofs.Lists.{there_below, some_is}
use Rattle.play_core.specs.Runs.{places_from, runnable, if_so}
use Rattle.player_kit.specs.Runnings.{removed_if, with_number}
use Rattle.player_kit.proofs.Places.{places_clear, places_so, places_below, places_few}
use Rattle.player_kit.proofs.Rising.{with_above}

-- one more of the first elements
take_with : {T : Type 0} (xs : List T) (k : ℕ) (x : T) → slice_get xs k ≡ Some x → take (k + 1) xs ≡ take k xs ++ x ∷ []
take_with xs k x h = take_more xs k x (there_below xs k x h) ∙ ap (λ y. take k xs ++ y ∷ []) (get_or_from_slice_get xs k x x h)

pub set_same : {X : Type 0} (xs : List X) (k : ℕ) (b : X) → slice_get xs k ≡ Some b → slice_set xs k b ≡ xs
set_same [] k b h = refl
set_same (x ∷ xs) zero b h = ap (λ y. y ∷ xs) (sym (some_is h))
set_same (x ∷ xs) (suc k) b h = ap (λ ys. x ∷ ys) (set_same xs k b h)

pub get_case : {X : Type 0} (xs : List X) (i : ℕ) → ((y : X) × (slice_get xs i ≡ Some y)) ⊎ (length xs ≤ i)
get_case [] i = inr (omega arith)
get_case (x ∷ xs) zero = inl (x, refl)
get_case (x ∷ xs) (suc i) = elim (get_case xs i) [ inl h ↦ inl h | inr h ↦ inr (omega arith) ]

pub not_not : (b : Bool) → b ≡ not (not b)
not_not true = refl
not_not false = refl

-- the actors' places after one of them is idle or not
pub cleared : (bs : List Bool) (k place : ℕ) (idle : Bool) → slice_get (places_from 0 bs) place ≡ Some k → places_from 0 (slice_set bs k (not idle)) ≡ removed_if idle (places_from 0 bs) place
cleared bs k place true at = places_clear 0 k k place bs (omega arith) (let h = places_below 0 place k bs at in let lt : k < 0 + length bs = h.1 in omega arith) at
cleared bs k place false at = ap (places_from 0) (set_same bs k true (places_so 0 k k place bs (omega arith) at))

-- all of them are below m
abbrev Below : ℕ → List ℕ → Type 0
Below m [] = Unit {0}
Below m (x ∷ xs) = (x < m) × Below m xs

with_last : (m : ℕ) (xs : List ℕ) → Below m xs → with_number m xs ≡ xs ++ m ∷ []
with_last m [] h = refl
with_last m (x ∷ xs) h = with_above x m xs h.0 ∙ ap (λ ys. x ∷ ys) (with_last m xs h.1)

places_under : (k m : ℕ) (bs : List Bool) → k + length bs ≤ m → Below m (places_from k bs)
places_under k m [] le = tt
places_under k m (true ∷ bs) le = (omega arith, places_under (k + 1) m bs (omega arith))
places_under k m (false ∷ bs) le = places_under (k + 1) m bs (omega arith)

places_push : (k m : ℕ) (bs : List Bool) (b : Bool) → m ≡ k + length bs → places_from k (bs ++ b ∷ []) ≡ places_from k bs ++ if_so b m []
places_push k m [] true e = let f : k ≡ m = omega arith in ap (λ x. x ∷ []) f
places_push k m [] false e = refl
places_push k m (true ∷ bs) b e = ap (λ xs. k ∷ xs) (places_push (k + 1) m bs b (omega arith))
places_push k m (false ∷ bs) b e = places_push (k + 1) m bs b (omega arith)

take_count : (bs : List Bool) (k : ℕ) (b : Bool) → slice_get bs k ≡ Some b → length (take k bs) ≡ k
take_count bs k b h = let lt : k < length bs = there_below bs k b h in length-take k bs ∙ least k (length bs) (omega arith)
  where
    least : (m n : ℕ) → m ≤ n → min m n ≡ m
    least m n le = omega arith

-- one more runnable actor, or one more that isn't
pub list_added : (bs : List Bool) (k : ℕ) (list : List ℕ) → slice_get bs k ≡ Some true → list ≡ places_from 0 (take k bs) → with_number k list ≡ places_from 0 (take (k + 1) bs)
list_added bs k list at is =
    let n : length (take k bs) ≡ k = take_count bs k true at in
    ap (with_number k) is ∙ (with_last k (places_from 0 (take k bs)) (places_under 0 k (take k bs) (omega arith)) ∙ (sym (places_push 0 k (take k bs) true (omega arith)) ∙ ap (places_from 0) (sym (take_with bs k true at))))

pub list_skipped : (bs : List Bool) (k : ℕ) (list : List ℕ) → slice_get bs k ≡ Some false → list ≡ places_from 0 (take k bs) → list ≡ places_from 0 (take (k + 1) bs)
list_skipped bs k list at is =
    let n : length (take k bs) ≡ k = take_count bs k false at in
    is ∙ (sym (places_push 0 k (take k bs) false (omega arith) ∙ append-nil (places_from 0 (take k bs))) ∙ ap (places_from 0) (sym (take_with bs k false at)))

pub list_room : (bs : List Bool) (k : ℕ) (list : List ℕ) (room : ℕ) (b : Bool) → slice_get bs k ≡ Some b → list ≡ places_from 0 (take k bs) → length bs ≤ room → length (with_number k list) ≤ room
list_room bs k list room b at is le =
    let n : length (take k bs) ≡ k = take_count bs k b at in
    let lt : k < length bs = there_below bs k b at in
    let f : length (places_from 0 (take k bs)) ≤ length (take k bs) = places_few 0 (take k bs) in
    let w : with_number k (places_from 0 (take k bs)) ≡ places_from 0 (take k bs) ++ k ∷ [] = with_last k (places_from 0 (take k bs)) (places_under 0 k (take k bs) (omega arith)) in
    let m : length (places_from 0 (take k bs) ++ k ∷ []) ≡ length (places_from 0 (take k bs)) + 1 = length-append (places_from 0 (take k bs)) (k ∷ []) in
    rw (is, w) (omega arith)

pub list_whole : (bs : List Bool) (k : ℕ) (list : List ℕ) → length bs ≤ k → list ≡ places_from 0 (take k bs) → list ≡ places_from 0 bs
list_whole bs k list le is = is ∙ ap (places_from 0) (take_all k bs le)
