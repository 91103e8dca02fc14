-- What each client gives with its number: one after another, and the places of all.
use Rattle.std.proofs.Common.{◌≡◌, ℕ, ◌+◌, ◌<◌, List, [], ◌∷◌, ◌++◌, length, map, drop, get_or, refl, ap, ◌∙◌, subst, append_assoc, drop-cons, add-one}
use Rattle.sdf_plan.specs.declared.place.Place.{Place}
use Rattle.sdf_plan.specs.Places.{places_from}
use Rattle.sdf_plan.specs.declared.class_table.uses.ClassElement.{ClassElement}
use Rattle.sdf_plan.specs.ClassTable.Table.{Element, numbered}
use Rattle.sdf_plan.specs.ClassTable.Shown.{Shelved, element_shown}

-- a loop pushes what the first of the clients that are left gives
pub numbered-step : {C T : Type 0} (give : ℕ → C → T) (old new all : List T) (row : T) (clients : List C) (client : C) (at number : ℕ) → at < length clients
    → client ≡ get_or clients at client → number ≡ at → row ≡ give number client → new ≡ old ++ row ∷ []
    → old ++ numbered give at (drop at clients) ≡ all → new ++ numbered give (at + 1) (drop (at + 1) clients) ≡ all
numbered-step {C} {T} give old new all row clients client at number less is same gives pushed was =
    let here : drop at clients ≡ client ∷ drop (at + 1) clients = rw (add-one, drop-cons clients at client, ← is) refl in
    let was' : old ++ numbered give at (client ∷ drop (at + 1) clients) ≡ all = subst (λ (cs : List C). old ++ numbered give at cs ≡ all) here was in
    rw (pushed, gives, same, append_assoc old (give at client ∷ []) _) was'

pub shown-push : (es : List (ClassElement Shelved)) (e : ClassElement Shelved) → map element_shown (es ++ e ∷ []) ≡ map element_shown es ++ element_shown e ∷ []
shown-push [] e = refl
shown-push (x ∷ es) e = ap (λ l. element_shown x ∷ l) (shown-push es e)

-- the places of the clients of a class
pub numbered-places : {C : Type 0} (give : ℕ → C → Element) (place : ℕ → Place) (c : ℕ) (clients : List C) → ((k : ℕ) (client : C) → (give k client).place ≡ place k)
    → map (λ (e : Element). e.place) (numbered give c clients) ≡ places_from place c (length clients)
numbered-places give place c [] is = refl
numbered-places give place c (client ∷ rest) is = rw (is c client) (ap (λ ps. place c ∷ ps) (numbered-places give place (c + 1) rest is))

-- a class is pushed, and then its clients
pub class-joined : (old pushed new : List (ClassElement Shelved)) (e : ClassElement Shelved) (first : Element) (rest : List Element) → pushed ≡ old ++ e ∷ [] → element_shown e ≡ first
    → map element_shown new ≡ map element_shown pushed ++ rest → map element_shown new ≡ map element_shown old ++ first ∷ rest
class-joined old pushed new e first rest one same more =
    more ∙ (ap (λ es. map element_shown es ++ rest) one ∙ (ap (λ es. es ++ rest) (shown-push old e) ∙ (append_assoc (map element_shown old) (element_shown e ∷ []) rest ∙ ap (λ x. map element_shown old ++ x ∷ rest) same)))
