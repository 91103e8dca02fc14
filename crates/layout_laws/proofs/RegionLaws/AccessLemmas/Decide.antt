use Rattle.std.proofs.Common.{◌≡◌, ℕ, zero, suc, ◌<◌, ◌≤◌, ◌⊎◌, inl, inr, ⊎_elim, List, [], ◌∷◌, Bool, true, false, Option, Some, None, slice_get, length, refl, sym, ◌∙◌, arith}
use Rattle.std.specs.Prelude.{⊤}
use Rattle.std.specs.Bool.{MatchBool}
use Rattle.std.specs.Str.{bytes_eq}
use Rattle.std.specs.Option.{IsSomeAnd}
use Rattle.std.proofs.lemmas.Bool.{cases_lt}
use Rattle.std.proofs.lemmas.Slice.Eq.{bytes_eq-Decides}
use Rattle.sdf_plan.specs.declared.plan.Plan.{Plan}
use Rattle.sdf_plan.specs.declared.plan.Channel.{Channel}
use Rattle.sdf_plan.specs.declared.plan.End.{End}
use Rattle.sdf_plan.specs.declared.plan.Domain.{Domain}
use Rattle.sdf_plan.specs.declared.plan.Map.{Map}
use Rattle.sdf_check.specs.Rules.{count_of}
use Rattle.sdf_check.specs.ClassRules.{SomeOf, the_domain, Joins, AreJoined, HasInterrupt, AllowUse, Grants, IsGranted}

-- this holds or it doesn't
abbrev pub Decided : Type 0 → Type 0
Decided P = P ⊎ (P → ⊥)

-- what isn't false holds, where it is decided
pub not-false : (P : Type 0) → Decided P → ((P → ⊥) → ⊥) → P
not-false P (inl p) never = p
not-false P (inr denied) never = absurd (never denied)

same-text : (a b : List ℕ) (v : Bool) → bytes_eq a b ≡ v → Decided (a ≡ b)
same-text a b true e = inl ((bytes_eq-Decides a b).0 e)
same-text a b false e = inr (λ same. let yes : bytes_eq a b ≡ true = (bytes_eq-Decides a b).1 same in let denied : true ≡ false = sym yes ∙ e in cc)

pub text : (a b : List ℕ) → Decided (a ≡ b)
text a b = same-text a b (bytes_eq a b) refl

pub some-one : (n : ℕ) → Decided (0 < n)
some-one n = ⊎_elim (λ (more : 0 < n). inl more) (λ (none : n ≤ 0). inr (λ more. let denied : ⊥ = omega (arith, more, none) in denied)) (cases_lt 0 n)

pub both : (A B : Type 0) → Decided A → Decided B → Decided (A × B)
both A B (inl a) (inl b) = inl (a, b)
both A B (inl a) (inr denied) = inr (λ h. denied h.1)
both A B (inr denied) d = inr (λ h. denied h.0)

pub either : (A B : Type 0) → Decided A → Decided B → Decided (A ⊎ B)
either A B (inl a) d = inl (inl a)
either A B (inr denied) (inl b) = inl (inr b)
either A B (inr denied) (inr never) = inr (λ h. ⊎_elim denied never h)

pub asked : (writes : Bool) (A : Type 0) → Decided A → Decided (MatchBool writes A ⊤)
asked true A d = d
asked false A d = inl tt

pub here : {X : Type 0} (o : Option X) (P : X → Type 0) → ((x : X) → Decided (P x)) → Decided (IsSomeAnd o P)
here None P d = inr (λ h. h)
here (Some x) P d = d x

not-first : {X : Type 0} (P : X → Type 0) (x : X) (xs : List X) → (P x → ⊥) → (SomeOf P xs → ⊥) → (k : ℕ) → IsSomeAnd (slice_get (x ∷ xs) k) P → ⊥
not-first P x xs denied none zero h = denied h
not-first P x xs denied none (suc k) h = none (k, h)

pub some-of : {X : Type 0} (P : X → Type 0) → ((x : X) → Decided (P x)) → (xs : List X) → Decided (SomeOf P xs)
some-of P d [] = inr (λ h. h.1)
some-of {X} P d (x ∷ xs) =
    ⊎_elim (λ (p : P x). inl (0, p))
    (λ (denied : P x → ⊥).
    ⊎_elim (λ (s : SomeOf P xs). inl (suc s.0, s.1)) (λ (none : SomeOf P xs → ⊥). inr (λ h. not-first P x xs denied none h.0 h.1)) (some-of P d xs)) (d x)

-- two domains are joined or not
pub joined : (plan : Plan) (link : List ℕ × List ℕ) → Decided (AreJoined plan link)
joined plan link =
    some-of (Joins link) (λ (channel : Channel).
    here (slice_get channel.end 0) _ (λ (first : End).
    here (slice_get channel.end 1) _ (λ (second : End).
    either ((first.pd ≡ link.0) × (second.pd ≡ link.1)) ((first.pd ≡ link.1) × (second.pd ≡ link.0))
    (both (first.pd ≡ link.0) (second.pd ≡ link.1) (text first.pd link.0) (text second.pd link.1))
    (both (first.pd ≡ link.1) (second.pd ≡ link.0) (text first.pd link.1) (text second.pd link.0))))) plan.channel

-- a right is granted or not
pub granted : (plan : Plan) (right : List ℕ × List ℕ × Bool) → Decided (IsGranted plan right)
granted plan right =
    here (the_domain plan right.0) _ (λ (domain : Domain).
    some-of (Grants right.1 right.2) (λ (m : Map).
    both (m.mr ≡ right.1) (AllowUse m.perms right.2) (text m.mr right.1)
    (both (0 < count_of 114 m.perms) (MatchBool right.2 (0 < count_of 119 m.perms) ⊤) (some-one (count_of 114 m.perms))
    (asked right.2 (0 < count_of 119 m.perms) (some-one (count_of 119 m.perms))))) domain.map)

-- a domain has an interrupt or not
pub interrupted : (plan : Plan) (name : List ℕ) → Decided (HasInterrupt plan name)
interrupted plan name = here (the_domain plan name) _ (λ (domain : Domain). some-one (length domain.irq))
