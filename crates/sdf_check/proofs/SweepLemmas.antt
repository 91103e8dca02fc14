use Rattle.std.proofs.Common.{◌≡◌, ℕ, ◌+◌, ◌<◌, ◌≤◌, List, Bool, true, false, cond, nat_eq, Option, Some, None, refl, sym, ◌∙◌, ap, subst, arith, inl, inr, ◌⊎◌, ⊎_elim}
use Rattle.std.specs.Bool.{MatchBool}
use Rattle.std.specs.List.{slice_get}
use Rattle.std.specs.BTreeMap.{BTreeMap, get, is_at}
use Rattle.std.specs.Ordering.{nat_cmp, is_lt}
use Rattle.std.specs.Option.{IsSome}
use Rattle.std.proofs.Common.{Less}
use Rattle.std.proofs.lemmas.Grind.{common_steps}
use Rattle.std.proofs.lemmas.Bool.{cases_lt, cases_eq}
use Rattle.sdf_check.specs.Rules.{Range, MeetsEarlier}
use Rattle.sdf_check.specs.Sweeps.{Holds}

-- nothing is kept of no range
pub holds-none : (kept : ℕ → Option ℕ) (ranges : List (Option Range)) → ((base : ℕ) → kept base ≡ None) → Holds kept ranges 0
holds-none kept ranges none = record {
  known = λ base end is. let no : Some end ≡ None = sym is ∙ none base in cc;
  all = λ k base end less. let no : ⊥ = omega (arith, less) in absurd no;
  apart = λ base end other last is. let no : Some end ≡ None = sym is ∙ none base in cc;
}

pub some-inj : {X : Type 0} {a b : X} → Some a ≡ Some b → a ≡ b
some-inj {X} {a} {b} e = ap (λ (o : Option X). elim o [ Some x ↦ x | None ↦ a ]) e

-- a range that is not there, or is empty, is not kept
pub holds-skip : (kept : ℕ → Option ℕ) (ranges : List (Option Range)) (at : ℕ) (range : Option Range) → slice_get ranges at ≡ Some range
    → ((base end : ℕ) → range ≡ Some (base, end) → end ≤ base) → Holds kept ranges at → Holds kept ranges (at + 1) × (MeetsEarlier ranges at → ⊥)
holds-skip kept ranges at range is empty holds = (
  record {
    known = λ base end got. let k = holds.known base end got in let less : k.1.0 < at + 1 = omega (arith, k.1.1) in (k.0, (k.1.0, less, k.1.2));
    all = λ k base end less there some.
        ⊎_elim (λ (same : k ≡ at).
        let here : Some range ≡ Some (Some (base, end)) = sym is ∙ subst (λ j. slice_get ranges j ≡ Some (Some (base, end))) same there in
        let none : end ≤ base = empty base end (some-inj here) in
        let no : ⊥ = omega (arith, none, some) in absurd no)
        (λ (other : k ≡ at → ⊥). holds.all k base end (let less' : k < at = omega (arith, less, other) in less') there some) (cases_eq k at);
    apart = holds.apart;
  },
  λ m.
      let here : Some range ≡ Some (Some m.2) = sym is ∙ m.5 in
      let none : m.2.1 ≤ m.2.0 = empty m.2.0 m.2.1 (some-inj here) in
      let x = m.6 in
      let no : ⊥ = omega (arith, none, x.3, x.4) in no,
)

-- a look-up after an insertion
new-at : (kept new : ℕ → Option ℕ) (base end : ℕ) → ((q : ℕ) → new q ≡ cond (nat_eq base q) (Some end) (kept q))
    → (q last : ℕ) → new q ≡ Some last → ((q ≡ base) × (last ≡ end)) ⊎ ((q ≡ base → ⊥) × (kept q ≡ Some last))
new-at kept new base end updated q last is =
    ⊎_elim (λ (same : q ≡ base).
    let hit : nat_eq base q ≡ true = grind (arith, same) in
    let got : Some end ≡ Some last = sym (updated q ∙ ap (λ b. cond b (Some end) (kept q)) hit) ∙ is in
    inl (same, sym (some-inj got)))
    (λ (other : q ≡ base → ⊥).
    let miss : nat_eq base q ≡ false = grind (arith, other) in
    inr (other, sym (updated q ∙ ap (λ b. cond b (Some end) (kept q)) miss) ∙ is)) (cases_eq q base)

new-here : (kept new : ℕ → Option ℕ) (base end : ℕ) → ((q : ℕ) → new q ≡ cond (nat_eq base q) (Some end) (kept q)) → new base ≡ Some end
new-here kept new base end updated =
    let hit : nat_eq base base ≡ true = grind arith in updated base ∙ ap (λ b. cond b (Some end) (kept base)) hit

new-there : (kept new : ℕ → Option ℕ) (base end q : ℕ) → ((q : ℕ) → new q ≡ cond (nat_eq base q) (Some end) (kept q)) → (q ≡ base → ⊥) → new q ≡ kept q
new-there kept new base end q updated other =
    let miss : nat_eq base q ≡ false = grind (arith, other) in updated q ∙ ap (λ b. cond b (Some end) (kept q)) miss

-- a range that meets none of those kept meets no earlier one
free-meets : (kept : ℕ → Option ℕ) (ranges : List (Option Range)) (at base end : ℕ) → slice_get ranges at ≡ Some (Some (base, end))
    → ((a b : ℕ) → kept a ≡ Some b → (b ≤ base) ⊎ (end ≤ a)) → Holds kept ranges at → MeetsEarlier ranges at → ⊥
free-meets kept ranges at base end is free holds m =
    let here : m.2 ≡ (base, end) = some-inj (some-inj (sym m.5 ∙ is)) in
    let x = m.6 in
    let from : base ≤ x.0 = subst (λ (r : Range). r.0 ≤ x.0) here x.3 in
    let to : x.0 < end = subst (λ (r : Range). x.0 < r.1) here x.4 in
    let some : m.1.0 < m.1.1 = omega (arith, x.1, x.2) in
    ⊎_elim (λ (h : m.1.1 ≤ base). let no : ⊥ = omega (arith, h, x.2, from) in no) (λ (h : end ≤ m.1.0). let no : ⊥ = omega (arith, h, x.1, to) in no)
    (free m.1.0 m.1.1 (holds.all m.0 m.1.0 m.1.1 m.3 m.4 some))

-- and it is kept
pub holds-add : (kept new : ℕ → Option ℕ) (ranges : List (Option Range)) (at base end : ℕ) → slice_get ranges at ≡ Some (Some (base, end))
    → base < end → ((a b : ℕ) → kept a ≡ Some b → (b ≤ base) ⊎ (end ≤ a)) → ((q : ℕ) → new q ≡ cond (nat_eq base q) (Some end) (kept q))
    → Holds kept ranges at → Holds new ranges (at + 1) × (MeetsEarlier ranges at → ⊥)
holds-add kept new ranges at base end is some free updated holds = (
  record {
    known = λ b e got.
        ⊎_elim (λ (h : (b ≡ base) × (e ≡ end)).
        let less : at < at + 1 = omega arith in
        let order : b < e = omega (arith, some, h.0, h.1) in
        let there : slice_get ranges at ≡ Some (Some (b, e)) = rw (h.0, h.1) is in (order, (at, less, there)))
        (λ (h : (b ≡ base → ⊥) × (kept b ≡ Some e)).
        let k = holds.known b e h.1 in let less : k.1.0 < at + 1 = omega (arith, k.1.1) in (k.0, (k.1.0, less, k.1.2)))
        (new-at kept new base end updated b e got);
    all = λ k b e less there order.
        ⊎_elim (λ (same : k ≡ at).
        let here : (b, e) ≡ (base, end) = some-inj (some-inj (sym (subst (λ j. slice_get ranges j ≡ Some (Some (b, e))) same there) ∙ is)) in
        let eb : b ≡ base = ap (λ (r : Range). r.0) here in
        let ee : e ≡ end = ap (λ (r : Range). r.1) here in
        rw (eb, ee) (new-here kept new base end updated))
        (λ (other : k ≡ at → ⊥).
        let less' : k < at = omega (arith, less, other) in
        let was : kept b ≡ Some e = holds.all k b e less' there order in
        let differs : b ≡ base → ⊥ = λ eb. ⊎_elim (λ (h : e ≤ base). let no : ⊥ = omega (arith, h, eb, order) in no)
        (λ (h : end ≤ b). let no : ⊥ = omega (arith, h, eb, some) in no) (free b e was) in
        new-there kept new base end b updated differs ∙ was) (cases_eq k at);
    apart = λ b e o l one two less.
        ⊎_elim (λ (h : (b ≡ base) × (e ≡ end)).
        ⊎_elim (λ (g : (o ≡ base) × (l ≡ end)). let no : ⊥ = omega (arith, h.0, g.0, less) in absurd no)
        (λ (g : (o ≡ base → ⊥) × (kept o ≡ Some l)).
        ⊎_elim (λ (f : l ≤ base). let order : o < l = (holds.known o l g.1).0 in let no : ⊥ = omega (arith, f, order, less, h.0) in absurd no)
        (λ (f : end ≤ o). let goal : e ≤ o = omega (arith, f, h.1) in goal) (free o l g.1)) (new-at kept new base end updated o l two))
        (λ (h : (b ≡ base → ⊥) × (kept b ≡ Some e)).
        ⊎_elim (λ (g : (o ≡ base) × (l ≡ end)).
        ⊎_elim (λ (f : e ≤ base). let goal : e ≤ o = omega (arith, f, g.0) in goal)
        (λ (f : end ≤ b). let no : ⊥ = omega (arith, f, less, g.0, some) in absurd no) (free b e h.1))
        (λ (g : (o ≡ base → ⊥) × (kept o ≡ Some l)). holds.apart b e o l h.1 g.1 less) (new-at kept new base end updated o l two))
        (new-at kept new base end updated b e one);
  },
  free-meets kept ranges at base end is free holds,
)

-- the last range that begins before the end of another shows whether any meets it
pub meets-kept : (kept : ℕ → Option ℕ) (ranges : List (Option Range)) (at base end start last : ℕ) → slice_get ranges at ≡ Some (Some (base, end))
    → base < end → kept start ≡ Some last → start < end → base < last → Holds kept ranges at → MeetsEarlier ranges at
meets-kept kept ranges at base end start last is some got before after holds =
    let k = holds.known start last got in
    ⊎_elim (λ (h : start < base).
    let le : start ≤ base = omega (arith, h) in let same : base ≤ base = omega arith in
    (k.1.0, (start, last), (base, end), k.1.1, k.1.2, is, (base, le, after, same, some)))
    (λ (h : base ≤ start).
    let same : start ≤ start = omega arith in
    (k.1.0, (start, last), (base, end), k.1.1, k.1.2, is, (start, same, k.0, h, before))) (cases_lt start base)

pub free-kept : (kept : ℕ → Option ℕ) (ranges : List (Option Range)) (at base end : ℕ) → base < end
    → ((start last : ℕ) → kept start ≡ Some last → start < end → (top : ℕ) × (limit : ℕ) × (kept top ≡ Some limit) × (start ≤ top) × (limit ≤ base))
    → Holds kept ranges at → (a b : ℕ) → kept a ≡ Some b → (b ≤ base) ⊎ (end ≤ a)
free-kept kept ranges at base end some top holds a b got =
    ⊎_elim (λ (h : a < end).
    let t = top a b got h in
    ⊎_elim (λ (same : a ≡ t.0).
    let e : b ≡ t.1 = some-inj (sym got ∙ ap kept same ∙ t.2) in let le : b ≤ base = omega (arith, e, t.4) in inl le)
    (λ (other : a ≡ t.0 → ⊥).
    let less : a < t.0 = omega (arith, t.3, other) in
    let far : b ≤ t.0 = holds.apart a b t.0 t.1 got t.2 less in
    let order : t.0 < t.1 = (holds.known t.0 t.1 t.2).0 in
    let le : b ≤ base = omega (arith, far, order, t.4) in inl le) (cases_eq a t.0))
    (λ (h : end ≤ a). inr h) (cases_lt a end)

-- the order of two numbers, and what `cmp` answers
pub less-from-cmp : (a b : ℕ) → nat_cmp a b ≡ Less → a < b
less-from-cmp a b e = grind (arith, e)

pub cmp-from-less : (a b : ℕ) → a < b → nat_cmp a b ≡ Less
cmp-from-less a b e = grind (arith, e)

pub at-most-from-cmp : (a b : ℕ) → is_lt (nat_cmp a b) ≡ false → b ≤ a
at-most-from-cmp a b e = grind (arith, e)

pub some-is : {X : Type 0} (o : Option X) (x : X) → o ≡ Some x → IsSome o
some-is o x e = rw e refl

pub none-is-some : {X : Type 0} {x : X} → None ≡ Some x → ⊥
none-is-some {X} {x} e = let no : None ≡ Some x = e in cc

-- what an insertion says of a look-up, by equality of numbers
pub get-new : (old new : BTreeMap ℕ ℕ) (base end q : ℕ) → get nat_cmp new q ≡ cond (is_at (nat_cmp base) q) (Some end) (get nat_cmp old q)
    → get nat_cmp new q ≡ cond (nat_eq base q) (Some end) (get nat_cmp old q)
get-new old new base end q updated =
    let same : is_at (nat_cmp base) q ≡ nat_eq base q = grind (arith, common_steps) in
    updated ∙ ap (λ b. cond b (Some end) (get nat_cmp old q)) same

pub match-true : (P Q : Type 0) (b : Bool) → b ≡ true → MatchBool b P Q → P
match-true P Q true e m = m
match-true P Q false e m = let no : false ≡ true = e in cc

pub match-false : (P Q : Type 0) (b : Bool) → b ≡ false → MatchBool b P Q → Q
match-false P Q false e m = m
match-false P Q true e m = let no : true ≡ false = e in cc
