use Rattle.std.proofs.Common.{◌≡◌, ℕ, zero, suc, ◌<◌, ◌≤◌, ◌⊎◌, inl, inr, Bool, true, false, cond, List, [], ◌∷◌, Option, Some, None, option_map, Result, Ok, Err, IfOk, IfErr, refl, sym, ap, ◌∙◌, arith}
use Rattle.std.specs.List.{slice_get, find}
use Rattle.std.proofs.lemmas.Option.{same_Some}
use Rattle.toml.specs.Data.{Members}
use Rattle.toml.specs.Parse.{parse_document}
use Rattle.sdf_plan.specs.declared.place.Place.{Place}
use Rattle.sdf_plan.specs.declared.place.Place.TheVariants as At
use Rattle.sdf_plan.specs.declared.place.Refusal.{Refusal}
use Rattle.sdf_plan.specs.declared.place.SdfFault.{SdfFault}
use Rattle.sdf_plan.specs.declared.place.SdfFault.TheVariants as Fault
use Rattle.sdf_plan.specs.Places.{IsKept, KeepsRules, IsRefusal}
use Rattle.sdf_model.specs.Keys.{breaks_with}
use Rattle.sdf_model.specs.Tree.{element_at, IsDocument, places_of, places_in, breaks, IsNoDocument, BreaksText, IfRefused, version_of}
use Rattle.sdf_model.specs.Elements.{Seen, elements_of, first_broken, Judged}
use Rattle.sdf_model.proofs.Found.{places, elements-walk, Every, every-at, Stands, elements-stand}

-- ---- the first element of a list that passes a test

none-step : (test : Seen → Bool) (x : Seen) (es : List Seen) (b : Bool) → test x ≡ b → cond b (Some x) (find test es) ≡ None
    → (find test es ≡ None → Every (λ e. test e ≡ false) es) → Every (λ e. test e ≡ false) (x ∷ es)
none-step test x es true t h more = cc
none-step test x es false t h more = (t, more h)

pub none-found : (test : Seen → Bool) (es : List Seen) → find test es ≡ None → Every (λ e. test e ≡ false) es
none-found test [] h = tt
none-found test (x ∷ es) h = none-step test x es (test x) refl h (none-found test es)

record First (test : Seen → Bool) (es : List Seen) (e : Seen) : Type 0 where
  at : ℕ
  there : slice_get es at ≡ Some e
  here : test e ≡ true
  before : (k : ℕ) (f : Seen) → k < at → slice_get es k ≡ Some f → test f ≡ false

before-next : (test : Seen → Bool) (x : Seen) (es : List Seen) (at : ℕ) → test x ≡ false → ((k : ℕ) (f : Seen) → k < at → slice_get es k ≡ Some f → test f ≡ false)
    → (k : ℕ) (f : Seen) → k < suc at → slice_get (x ∷ es) k ≡ Some f → test f ≡ false
before-next test x es at t so zero f below h = rw (← same_Some _ _ h) t
before-next test x es at t so (suc k) f below h = so k f (omega arith) h

first-step : (test : Seen → Bool) (x : Seen) (es : List Seen) (e : Seen) (b : Bool) → test x ≡ b → cond b (Some x) (find test es) ≡ Some e
    → (find test es ≡ Some e → First test es e) → First test (x ∷ es) e
first-step test x es e true t h more = record {
  at = 0;
  there = h;
  here = rw (← same_Some _ _ h) t;
  before = λ k f below at. absurd (omega (arith, below));
}
first-step test x es e false t h more =
    let f = more h in
    record { at = suc f.at; there = f.there; here = f.here; before = before-next test x es f.at t f.before }

first-found : (test : Seen → Bool) (es : List Seen) (e : Seen) → find test es ≡ Some e → First test es e
first-found test [] e h = cc
first-found test (x ∷ es) e h = first-step test x es e (test x) refl h (first-found test es e)

-- ---- elements and places

at-place : (es : List Seen) (k : ℕ) (p : Place) → slice_get (places es) k ≡ Some p → (e : Seen) × (slice_get es k ≡ Some e) × (e.0 ≡ p)
at-place [] k p h = cc
at-place (x ∷ es) zero p h = (x, refl, same_Some _ _ h)
at-place (x ∷ es) (suc k) p h = at-place es k p h

place-at : (es : List Seen) (k : ℕ) (e : Seen) → slice_get es k ≡ Some e → slice_get (places es) k ≡ Some e.0
place-at [] k e h = cc
place-at (x ∷ es) zero e h = ap (λ o. option_map (λ s. s.0) o) h
place-at (x ∷ es) (suc k) e h = place-at es k e h

mapped : (o : Option Seen) (p : Place) → option_map (λ e. e.0) o ≡ Some p → (e : Seen) × (o ≡ Some e) × (e.0 ≡ p)
mapped None p h = cc
mapped (Some e) p h = (e, refl, same_Some _ _ h)

pub unmapped : (o : Option Seen) → option_map (λ e. e.0) o ≡ None → o ≡ None
unmapped None h = refl
unmapped (Some e) h = cc

-- the places of a document are those of its elements
document-places : (text : List ℕ) (root : Members) → IsDocument text root → places (elements_of root) ≡ places_of text
document-places text root doc = elements-walk root ∙ ap places_in (sym doc.1)

-- ---- the rules on a text

-- an element of a document that breaks rule 2, 3 or 4 is one whose table does
broken-element : (text : List ℕ) (root : Members) → IsDocument text root → (n : ℕ) → 2 ≤ n → (k : ℕ) (p : Place) → slice_get (places_of text) k ≡ Some p
    → BreaksText text n p → (e : Seen) × (slice_get (elements_of root) k ≡ Some e) × (breaks (version_of root) n e.0 e.1 ≡ true)
broken-element text root doc n two k p at (inl b) = absurd (omega (arith, two, b.0))
broken-element text root doc n two k p at (inr b) =
    let (e, there, same) = at-place (elements_of root) k p (ap (λ l. slice_get l k) (document-places text root doc) ∙ at) in
    let stands : element_at root e.0 ≡ Some e.1 = every-at (Stands (element_at root)) (elements_of root) k e there (elements-stand root) in
    let root-same : b.0 ≡ root = same_Some _ _ (sym b.2 ∙ doc.1) in
    let t-same : b.1 ≡ e.1 = same_Some _ _ (sym b.3 ∙ ap (λ r. element_at r p) root-same ∙ ap (element_at root) (sym same) ∙ stands) in
    (e, there, ap (λ q. breaks (version_of root) n q e.1) same ∙ ap (breaks (version_of root) n p) (sym t-same) ∙ ap (λ x. breaks (version_of x) n p b.1) (sym root-same) ∙ b.4)

-- rule 1 is kept by a document
first-kept : (text : List ℕ) (root : Members) → IsDocument text root → (p : Place) → BreaksText text 1 p → ⊥
unfolding breaks_with
first-kept text root doc p (inl b) = b.2 root doc
first-kept text root doc p (inr b) = cc b.4

one-or-more : (n : ℕ) → 1 ≤ n → (n ≡ 1) ⊎ (2 ≤ n)
one-or-more zero h = absurd (omega (arith, h))
one-or-more (suc zero) h = inl refl
one-or-more (suc (suc n)) h = inr (omega arith)

-- a rule that no element breaks is kept by the text
rule-kept : (text : List ℕ) (root : Members) → IsDocument text root → (n : ℕ) → 2 ≤ n → first_broken (version_of root) n (elements_of root) ≡ None → IsKept (BreaksText text n) (places_of text)
rule-kept text root doc n two none = λ k p at broken.
    let (e, there, is) = broken-element text root doc n two k p at broken in
    let not : breaks (version_of root) n e.0 e.1 ≡ false = every-at _ (elements_of root) k e there (none-found (λ e. breaks (version_of root) n e.0 e.1) (elements_of root) (unmapped _ none)) in
    cc (is, not)

kept-below : (text : List ℕ) (root : Members) → IsDocument text root → (n : ℕ) → 1 ≤ n → (2 ≤ n → first_broken (version_of root) n (elements_of root) ≡ None) → IsKept (BreaksText text n) (places_of text)
kept-below text root doc n one none =
    elim (one-or-more n one) [
      | inl is ↦ rw is (λ k p at broken. first-kept text root doc p broken)
      | inr two ↦ rule-kept text root doc n two (none two)
    ]

-- a document of which no element breaks rule 2, 3 or 4 keeps the first four rules
pub kept-text : (text : List ℕ) (root : Members) → IsDocument text root → ((n : ℕ) → 2 ≤ n → n ≤ 4 → first_broken (version_of root) n (elements_of root) ≡ None)
    → KeepsRules (BreaksText text) (places_of text) 1 4
kept-text text root doc none = λ n one four. kept-below text root doc n one (λ two. none n two four)

-- what is judged of the elements of a document is the refusal of the text
pub judged-text : (text : List ℕ) (root : Members) → IsDocument text root → (r : Refusal) → Judged (version_of root) (elements_of root) r → IsRefusal (BreaksText text) (places_of text) 1 4 r
judged-text text root doc r j =
    let (e, is, same) = mapped _ r.place j.0 in
    let first = first-found (λ e. breaks (version_of root) r.rule e.0 e.1) (elements_of root) e is in
    let stands : element_at root e.0 ≡ Some e.1 = every-at (Stands (element_at root)) (elements_of root) first.at e first.there (elements-stand root) in
    record {
      from = omega (arith, j.1);
      to = j.2;
      broken_at = record {
        at = first.at;
        there = ap (λ l. slice_get l first.at) (sym (document-places text root doc)) ∙ place-at (elements_of root) first.at e first.there ∙ ap Some same;
        here = inr (root, e.1, doc.1, ap (element_at root) (sym same) ∙ stands, ap (λ q. breaks (version_of root) r.rule q e.1) (sym same) ∙ first.here);
        before = λ k p below at broken.
            let (f, there, is') = broken-element text root doc r.rule j.1 k p at broken in
            cc (is', first.before k f below there);
      };
      kept = λ n one below. kept-below text root doc n one (λ two. j.3 n two below);
    }

-- the first of the places is the system
first-place : (o : Option Members) → slice_get (places_in o) 0 ≡ Some At.System
first-place None = refl
first-place (Some root) = refl

-- a text that is no document breaks rule 1
pub no-document : (text : List ℕ) → IsNoDocument text → IsRefusal (BreaksText text) (places_of text) 1 4 (record { rule = 1; place = At.System })
no-document text not = record {
  from = omega arith;
  to = omega arith;
  broken_at = record {
    at = 0;
    there = first-place (parse_document text);
    here = inl (refl, refl, not);
    before = λ k p below at broken. absurd (omega (arith, below));
  };
  kept = λ n one below. absurd (omega (arith, one, below));
}

-- ---- answers

pub ok-along : {T E : Type 0} (P Q : T → Type 0) → ((x : T) → P x → Q x) → (r : Result T E) → IfOk r P → IfOk r Q
ok-along P Q so (Ok x) h = so x h
ok-along P Q so (Err e) h = tt

pub refused-along : {T : Type 0} (P Q : Refusal → Type 0) → ((x : Refusal) → P x → Q x) → (r : Result T SdfFault)
    → IfErr r (λ fault. IfRefused fault P) → IfErr r (λ fault. IfRefused fault Q)
refused-along P Q so (Ok x) h = tt
refused-along P Q so (Err (Fault.Refused x)) h = so x h
refused-along P Q so (Err (Fault.Memory memory)) h = tt
