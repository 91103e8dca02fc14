use Rattle.std.proofs.Common.{◌≡◌, inl, inr, ◌<◌, ℕ, Some, List, sym, ap, ◌∙◌, subst, arith}
use Rattle.std.specs.Prelude.{slice_get}
use Rattle.std.proofs.lemmas.Bool.{cases_lt}
use Rattle.sdf_plan.specs.declared.place.Place.{Place}
use Rattle.sdf_plan.specs.declared.place.Refusal.{Refusal}
use Rattle.sdf_plan.specs.declared.plan.Plan.{Plan}
use Rattle.sdf_plan.specs.Places.{walk, IsFirstBroken, KeepsRules, IsRefusal}
use Rattle.sdf_model.specs.Spelled.{plan_of}
use Rattle.sdf_model.specs.Tree.{places_of, BreaksText}
use Rattle.sdf_plan.specs.Elements.{outline_of}
use Rattle.sdf_check.specs.Valid.{IsRefused, broken, first_rule, last_rule}
use Rattle.decision_core.specs.Judged.{SpellsPlan, IsAccepted, IsRefusedText}

module _ (broken : Place → Type 0) (elements : List Place) where
  -- there is one first element that breaks a rule
  pub first-once : (p q : Place) (h : IsFirstBroken broken elements p) (i : IsFirstBroken broken elements q) → h.at < i.at → ⊥
  first-once p q h i lt = i.before h.at p lt h.there h.here

  pub same-place : (p q : Place) → IsFirstBroken broken elements p → IsFirstBroken broken elements q → p ≡ q
  same-place p q h i = elim (cases_lt h.at i.at) [
    | inl lt ↦ absurd (first-once p q h i lt)
    | inr ge ↦ elim (cases_lt i.at h.at) [
      | inl lt ↦ absurd (first-once q p i h lt)
      | inr le ↦ let e : h.at ≡ i.at = omega arith in let f : Some p ≡ Some q = sym h.there ∙ ap (λ k. slice_get elements k) e ∙ i.there in cc
    ]
  ]

module _ (broken : ℕ → Place → Type 0) (elements : List Place) (first last : ℕ) where
  -- rules that are kept refuse nothing
  pub kept-or-refused : (r : Refusal) → KeepsRules broken elements first last → IsRefusal broken elements first last r → ⊥
  kept-or-refused r k h = k r.rule h.from h.to h.broken_at.at r.place h.broken_at.there h.broken_at.here

  refused-once : (r s : Refusal) → IsRefusal broken elements first last r → IsRefusal broken elements first last s → r.rule < s.rule → ⊥
  refused-once r s h i lt = i.kept r.rule h.from lt h.broken_at.at r.place h.broken_at.there h.broken_at.here

  same-rule : (r s : Refusal) → IsRefusal broken elements first last r → IsRefusal broken elements first last s → r.rule ≡ s.rule
  same-rule r s h i = elim (cases_lt r.rule s.rule) [
    | inl lt ↦ absurd (refused-once r s h i lt)
    | inr ge ↦ elim (cases_lt s.rule r.rule) [ inl lt ↦ absurd (refused-once s r i h lt) | inr le ↦ omega arith ]
  ]

  -- there is one refusal
  pub same-refusal : (r s : Refusal) → IsRefusal broken elements first last r → IsRefusal broken elements first last s → r ≡ s
  same-refusal r s h i =
      let rule : r.rule ≡ s.rule = same-rule r s h i in
      let place : r.place ≡ s.place = same-place (broken s.rule) elements r.place s.place (subst (λ n. IsFirstBroken (broken n) elements r.place) rule h.broken_at) i.broken_at in
      ap (λ n. record { rule = n; place = r.place }) rule ∙ ap (λ p. record { rule = s.rule; place = p }) place

-- a text spells one plan
pub same-plan : (text : List ℕ) (p q : Plan) → SpellsPlan text p → SpellsPlan text q → p ≡ q
same-plan text p q h i =
    let e : Some h.root ≡ Some i.root = sym h.document.1 ∙ i.document.1 in
    let root : h.root ≡ i.root = cc in
    h.plan_is ∙ ap plan_of root ∙ sym i.plan_is

pub same-accepted : (text : List ℕ) (p q : Plan) → IsAccepted text p → IsAccepted text q → p ≡ q
same-accepted text p q h i = same-plan text p q h.spelled i.spelled

-- a text is accepted or refused, and refused once
pub accepted-or-refused : (text : List ℕ) (p : Plan) (r : Refusal) → IsAccepted text p → IsRefusedText text r → ⊥
accepted-or-refused text p r h (inl i) = kept-or-refused (BreaksText text) (places_of text) 1 4 r h.spelled.kept i
accepted-or-refused text p r h (inr i) =
    kept-or-refused (broken p) (walk (outline_of p)) first_rule last_rule r h.valid (subst (λ q. IsRefused q r) (same-plan text i.0 p i.1 h.spelled) i.2)

pub same-refused : (text : List ℕ) (r s : Refusal) → IsRefusedText text r → IsRefusedText text s → r ≡ s
same-refused text r s (inl h) (inl i) = same-refusal (BreaksText text) (places_of text) 1 4 r s h i
same-refused text r s (inl h) (inr i) = absurd (kept-or-refused (BreaksText text) (places_of text) 1 4 r i.1.kept h)
same-refused text r s (inr h) (inl i) = absurd (kept-or-refused (BreaksText text) (places_of text) 1 4 s h.1.kept i)
same-refused text r s (inr h) (inr i) =
    same-refusal (broken i.0) (walk (outline_of i.0)) first_rule last_rule r s (subst (λ q. IsRefused q r) (same-plan text h.0 i.0 h.1 i.1) h.2) i.2
