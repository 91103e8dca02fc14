use Rattle.std.proofs.Common.{◌≡◌, ℕ, ◌+◌, ◌<◌, List, [], ◌∷◌, ◌++◌, length, get_or, drop, map, Bor, sym, ap, ◌∙◌, append_assoc, BTreeMap, String, Global}
use Rattle.std.proofs.lemmas.List.{drop-map, drop_more}
use Rattle.toml.specs.declared.value.Value.{Value}
use Rattle.toml.specs.Data.{Members}
use Rattle.toml.specs.View.{table_view}
use Rattle.sdf_model.specs.declared.element.Element.{Element}
use Rattle.sdf_model.specs.Elements.{Seen, place_and_members}

abbrev pub Tables : Type 0
Tables = List (Bor (BTreeMap (String Global) Value))

abbrev pub views : Tables → List Members
views ts = map (λ t. table_view t.now) ts

-- what was added for the first tables, and what is still to add, are all that is to add
abbrev pub Adds : (ℕ → List Members → List Seen) → List Element → List Element → Tables → ℕ → Type 0
Adds all start now ts at = map place_and_members now ++ all at (drop at (views ts)) ≡ map place_and_members start ++ all 0 (views ts)

-- what is left begins with the table at the index
views-front : (ts : Tables) (at : ℕ) (t : Bor (BTreeMap (String Global) Value)) → at < length ts → t ≡ get_or ts at t
    → drop at (views ts) ≡ table_view t.now ∷ drop (at + 1) (views ts)
views-front ts at t h is =
    let f : Bor (BTreeMap (String Global) Value) → Members = λ t. table_view t.now in
    drop-map f at ts ∙ ap (map f) (drop_more ts at t h) ∙ ap (λ x. f x ∷ map f (drop (at + 1) ts)) (sym is) ∙ ap (λ x. f t ∷ x) (sym (drop-map f (at + 1) ts))

-- one step of a loop that adds the elements of each table
pub adds-step : (all : ℕ → List Members → List Seen) (here : List Seen) (start now next : List Element) (ts : Tables) (at : ℕ) (t : Bor (BTreeMap (String Global) Value))
    → at < length ts → t ≡ get_or ts at t
    → all at (table_view t.now ∷ drop (at + 1) (views ts)) ≡ here ++ all (at + 1) (drop (at + 1) (views ts))
    → map place_and_members next ≡ map place_and_members now ++ here
    → Adds all start now ts at → Adds all start next ts (at + 1)
adds-step all here start now next ts at t h is one added so =
    let left : all at (drop at (views ts)) ≡ here ++ all (at + 1) (drop (at + 1) (views ts)) = ap (all at) (views-front ts at t h is) ∙ one in
    ap (λ x. x ++ all (at + 1) (drop (at + 1) (views ts))) added ∙ append_assoc (map place_and_members now) here _ ∙ ap (λ x. map place_and_members now ++ x) (sym left) ∙ so

-- one more element
pub seen-push : (es : List Element) (e : Element) (s : Seen) → place_and_members e ≡ s → map place_and_members (es ++ e ∷ []) ≡ map place_and_members es ++ s ∷ []
seen-push [] e s is = ap (λ x. x ∷ []) is
seen-push (x ∷ es) e s is = ap (λ x'. place_and_members x ∷ x') (seen-push es e s is)

-- two additions, one after the other
pub join : (a b c : List Seen) (x y : List Seen) → b ≡ a ++ x → c ≡ b ++ y → c ≡ a ++ (x ++ y)
join a b c x y one two = two ∙ ap (λ l. l ++ y) one ∙ append_assoc a x y
