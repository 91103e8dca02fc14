-- The full example keeps the rules on texts.
use Rattle.std.proofs.Common.{◌≡◌, refl, ap, sym, ◌∙◌, ℕ, zero, suc, ◌≤◌, inl, inr, Bool, true, false, not, ltb, List, [], ◌∷◌, Option, Some, None, slice_get, subst, arith}
use Rattle.std.specs.List.{list_all}
use Rattle.std.specs.Str.{IsAscii}
use Rattle.std.proofs.lemmas.Bool.{and_parts, ltb-true}
use Rattle.std.proofs.lemmas.Option.{same_Some}
use Rattle.std.proofs.lemmas.Str.{IsUtf8-from_ascii}
use Rattle.toml.specs.Data.{Members}
use Rattle.sdf_plan.specs.declared.place.Place.{Place}
use Rattle.sdf_plan.specs.Places.{walk, KeepsRules}
use Rattle.sdf_model.specs.Keys.{breaks_with}
use Rattle.sdf_model.specs.Tree.{IsDocument, BreaksText, places_in, places_of, outline_of, element_at, breaks, version_of}
use Rattle.workload.specs.declared.description.TheConstants.{FULL_EXAMPLE}
use Rattle.workload.proofs.WorkloadLaw.Example.{root, whole_example, full_document}

ascii_all : (xs : List ℕ) → list_all (λ b. ltb b 128) xs ≡ true → IsAscii xs
ascii_all [] h i = omega arith
ascii_all (x ∷ xs) h zero = ltb-true x 128 (and_parts (ltb x 128) (list_all (λ b. ltb b 128) xs) h).0
ascii_all (x ∷ xs) h (suc i) = ascii_all xs (and_parts (ltb x 128) (list_all (λ b. ltb b 128) xs) h).1 i

pub is_document : IsDocument FULL_EXAMPLE.now root
is_document = (IsUtf8-from_ascii FULL_EXAMPLE.now (ascii_all FULL_EXAMPLE.now refl), full_document)

all_at : {T : Type 0} (p : T → Bool) (xs : List T) → list_all p xs ≡ true → (k : ℕ) (x : T) → slice_get xs k ≡ Some x → p x ≡ true
all_at p [] h k x is = cc
all_at p (y ∷ ys) h zero x is =
    let same : y ≡ x = same_Some y x is in
    subst (λ z. p z ≡ true) same (and_parts (p y) (list_all p ys) h).0
all_at p (y ∷ ys) h (suc k) x is = all_at p ys (and_parts (p y) (list_all p ys) h).1 k x is

-- whether the element at a place keeps a rule
abbrev keeps_at : ℕ → Place → Option Members → Bool
keeps_at rule place None = true
keeps_at rule place (Some t) = not (breaks (version_of root) rule place t)

abbrev keeps : ℕ → Bool
keeps rule = list_all (λ place. keeps_at rule place (element_at root place)) (walk (outline_of root))

keeps_2 : keeps 2 ≡ true
unfolding breaks_with whole_example version_of
keeps_2 = refl

keeps_3 : keeps 3 ≡ true
unfolding breaks_with whole_example version_of
keeps_3 = refl

keeps_4 : keeps 4 ≡ true
unfolding breaks_with whole_example version_of
keeps_4 = refl

never_1 : (place : Place) (t : Members) → breaks (version_of root) 1 place t ≡ true → ⊥
unfolding breaks_with
never_1 place t h = cc

not_both : (b : Bool) → not b ≡ true → b ≡ true → ⊥
not_both true h k = cc
not_both false h k = cc

kept_by : (rule : ℕ) → keeps rule ≡ true → (k : ℕ) (place : Place) (t : Members) → slice_get (walk (outline_of root)) k ≡ Some place → element_at root place ≡ Some t → breaks (version_of root) rule place t ≡ true → ⊥
kept_by rule kept k place t there is broken =
    let passed = all_at (λ place. keeps_at rule place (element_at root place)) (walk (outline_of root)) kept k place there in
    not_both (breaks (version_of root) rule place t) (subst (λ o. keeps_at rule place o ≡ true) is passed) broken

kept_each : (rule : ℕ) → 1 ≤ rule → rule ≤ 4 → (k : ℕ) (place : Place) (t : Members) → slice_get (walk (outline_of root)) k ≡ Some place → element_at root place ≡ Some t → breaks (version_of root) rule place t ≡ true → ⊥
kept_each zero least most k place t there is broken = absurd (omega (arith, least))
kept_each (suc zero) least most k place t there is broken = never_1 place t broken
kept_each (suc (suc zero)) least most k place t there is broken = kept_by 2 keeps_2 k place t there is broken
kept_each (suc (suc (suc zero))) least most k place t there is broken = kept_by 3 keeps_3 k place t there is broken
kept_each (suc (suc (suc (suc zero)))) least most k place t there is broken = kept_by 4 keeps_4 k place t there is broken
kept_each (suc (suc (suc (suc (suc n))))) least most k place t there is broken = absurd (omega (arith, most))

places_are : places_of FULL_EXAMPLE.now ≡ walk (outline_of root)
places_are = ap places_in full_document

kept_text : (rule : ℕ) → 1 ≤ rule → rule ≤ 4 → (k : ℕ) (place : Place) → slice_get (walk (outline_of root)) k ≡ Some place → BreaksText FULL_EXAMPLE.now rule place → ⊥
kept_text rule least most k place there (inl (one, system, none)) = none root is_document
kept_text rule least most k place there (inr (other, t, parsed, is, broken)) =
    let same : root ≡ other = same_Some root other (sym full_document ∙ parsed) in
    kept_each rule least most k place t there (subst (λ r. element_at r place ≡ Some t) (sym same) is) (subst (λ r. breaks (version_of r) rule place t ≡ true) (sym same) broken)

pub rules_kept : KeepsRules (BreaksText FULL_EXAMPLE.now) (places_of FULL_EXAMPLE.now) 1 4
rules_kept rule least most k place there broken =
    kept_text rule least most k place (subst (λ places. slice_get places k ≡ Some place) places_are there) broken
