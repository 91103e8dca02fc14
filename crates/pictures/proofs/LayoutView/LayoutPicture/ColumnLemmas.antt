use Rattle.std.proofs.Common.{◌≡◌, refl, sym, ◌∙◌, ap, ℕ, ◌+◌, ◌≤◌, Bool, true, false, List, [], ◌∷◌, length, drop, slice_get, Some, arith}
use Rattle.std.specs.Prelude.{bytes_eq, if◌then◌else◌}
use Rattle.std.proofs.lemmas.List.{drop_all}
use Rattle.pictures.specs.declared.layout_view.layout_picture.cards.Card.{Card}
use Rattle.pictures.specs.LayoutView.LayoutPicture.Cards.{column_of}
use Rattle.pictures.proofs.LayoutView.LayoutPicture.DrawLemmas.{drop_at}

first : (name : List ℕ) (card : Card) (cards : List Card) → bytes_eq card.name name ≡ true → column_of name (card ∷ cards) ≡ 0
first name card cards h = rw h refl

other : (name : List ℕ) (card : Card) (cards : List Card) → bytes_eq card.name name ≡ false → column_of name (card ∷ cards) ≡ column_of name cards + 1
other name card cards h = rw h refl

-- the box at this place has the name
pub column_here : (name : List ℕ) (cards : List Card) (k : ℕ) (card : Card) → slice_get cards k ≡ Some card → bytes_eq card.name name ≡ true
    → column_of name cards ≡ k + column_of name (drop k cards) → k ≡ column_of name cards
column_here name cards k card at is so =
    let here : column_of name (drop k cards) ≡ 0 = ap (column_of name) (drop_at cards k card at) ∙ first name card (drop (k + 1) cards) is in
    omega (arith, so, here)

-- it has another
pub column_past : (name : List ℕ) (cards : List Card) (k : ℕ) (card : Card) → slice_get cards k ≡ Some card → bytes_eq card.name name ≡ false
    → column_of name cards ≡ k + column_of name (drop k cards) → column_of name cards ≡ (k + 1) + column_of name (drop (k + 1) cards)
column_past name cards k card at isnt so =
    let here : column_of name (drop k cards) ≡ column_of name (drop (k + 1) cards) + 1 = ap (column_of name) (drop_at cards k card at) ∙ other name card (drop (k + 1) cards) isnt in
    omega (arith, so, here)

-- no box has it
pub column_none : (name : List ℕ) (cards : List Card) (k : ℕ) → length cards ≤ k → k ≤ length cards
    → column_of name cards ≡ k + column_of name (drop k cards) → length cards ≡ column_of name cards
column_none name cards k past within so =
    let rest : column_of name (drop k cards) ≡ 0 = ap (column_of name) (drop_all k cards past) in
    omega (arith, so, rest)
