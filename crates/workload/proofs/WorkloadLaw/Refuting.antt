-- Refutations and proofs that are found by computing: none where the search fails.
use Rattle.std.proofs.Common.{◌≡◌, refl, sym, ◌∙◌, ℕ, zero, suc, ◌^◌, ◌<◌, ◌≤◌, ◌⊎◌, inl, inr, Bool, true, false, leb, ltb, eqb, List, [], ◌∷◌, Option, Some, None, is_some, arith}
use Rattle.std.specs.Prelude.{slice_get, IsSomeAnd, IsNone, MatchBool, ⊤, bytes_eq}
use Rattle.std.proofs.lemmas.Bool.{ltb-true, ltb-false, leb-true, leb-false, eqb-true, eqb-false}
use Rattle.std.proofs.lemmas.Option.{same_Some}
use Rattle.std.proofs.lemmas.Slice.Eq.{bytes_eq-Decides}
use Rattle.sdf_check.specs.ClassRules.{SomeOf}
use Rattle.sdf_check.specs.Names.{StandsBefore}

-- a proof that was found, or none
abbrev pub Yes : Type 0 → Type 0
Yes P = Option P

-- a refutation that was found, or none
abbrev pub No : Type 0 → Type 0
No P = Option (P → ⊥)

pub taken : {T : Type 0} (o : Option T) → is_some o ≡ true → T
taken (Some x) h = x
taken None h = cc

abbrev pub Lazy : Type 0 → Type 0
Lazy T = Unit {0} → T

abbrev pub never : No ⊥
never = Some (λ h. h)

abbrev pub found : {A B : Type 0} → (A → B) → Option A → Option B
found f (Some a) = Some (f a)
found f None = None

abbrev pub found_both : {A B C : Type 0} → (A → B → C) → Option A → Option B → Option C
found_both f (Some a) (Some b) = Some (f a b)
found_both f None b = None
found_both f (Some a) None = None

-- ---- connectives

abbrev pub no_sum : {P Q : Type 0} → No P → No Q → No (P ⊎ Q)
no_sum (Some p) (Some q) = Some (λ h. elim h [ inl a ↦ p a | inr b ↦ q b ])
no_sum None q = None
no_sum (Some p) None = None

abbrev pub yes_sum : {P Q : Type 0} → Yes P → Yes Q → Yes (P ⊎ Q)
yes_sum (Some p) q = Some (inl p)
yes_sum None (Some q) = Some (inr q)
yes_sum None None = None

abbrev pub no_both : {P Q : Type 0} → No P → No Q → No (P × Q)
no_both (Some p) q = Some (λ h. p h.0)
no_both None (Some q) = Some (λ h. q h.1)
no_both None None = None

abbrev pub yes_both : {P Q : Type 0} → Yes P → Yes Q → Yes (P × Q)
yes_both (Some p) (Some q) = Some (p, q)
yes_both None q = None
yes_both (Some p) None = None

abbrev pub yes_three : {P Q R : Type 0} → Yes P → Yes Q → Yes R → Yes (P × Q × R)
yes_three (Some p) (Some q) (Some r) = Some (p, q, r)
yes_three None q r = None
yes_three (Some p) None r = None
yes_three (Some p) (Some q) None = None

abbrev pub no_not : {P : Type 0} → Yes P → No (¬ P)
no_not (Some p) = Some (λ h. h p)
no_not None = None

abbrev pub no_match : {P Q : Type 0} (b : Bool) → Lazy (No P) → Lazy (No Q) → No (MatchBool b P Q)
no_match true p q = p tt
no_match false p q = q tt

abbrev pub yes_match : {P Q : Type 0} (b : Bool) → Yes P → Yes Q → Yes (MatchBool b P Q)
yes_match true p q = p
yes_match false p q = q

abbrev pub yes_true : Yes ⊤
yes_true = Some tt

-- ---- options and lists

abbrev pub no_and : {T : Type 0} {P : T → Type 0} (o : Option T) → ((t : T) → No (P t)) → No (IsSomeAnd o P)
no_and None f = Some (λ h. h)
no_and (Some t) f = f t

abbrev pub yes_and : {T : Type 0} {P : T → Type 0} (o : Option T) → ((t : T) → Yes (P t)) → Yes (IsSomeAnd o P)
yes_and None f = None
yes_and (Some t) f = f t

abbrev pub no_none : {T : Type 0} (o : Option T) → No (IsNone o)
no_none None = None
no_none (Some t) = Some (λ h. let e : true ≡ false = h in cc)

-- this holds of one of the elements, told with its place
abbrev pub Keyed : {T : Type 0} → List T → (ℕ → T → Type 0) → Type 0
Keyed values P = (key : ℕ) × IsSomeAnd (slice_get values key) (P key)

pub no_first : {T : Type 0} (x : T) (xs : List T) (P : ℕ → T → Type 0) → (P 0 x → ⊥) → (Keyed xs (λ key. P (suc key)) → ⊥) → Keyed (x ∷ xs) P → ⊥
no_first x xs P here there (zero, h) = here h
no_first x xs P here there (suc key, h) = there (key, h)

abbrev pub no_keyed : {T : Type 0} {P : ℕ → T → Type 0} (xs : List T) → ((key : ℕ) (t : T) → No (P key t)) → No (Keyed xs P)
no_keyed [] f = Some (λ h. h.1)
no_keyed {T} {P} (x ∷ xs) f = found_both (no_first x xs P) (f 0 x) (no_keyed {P = (λ key. P (suc key))} xs (λ key t. f (suc key) t))

abbrev pub no_some : {T : Type 0} {P : T → Type 0} (xs : List T) → ((t : T) → No (P t)) → No (SomeOf P xs)
no_some {T} {P} xs f = no_keyed {P = (λ key. P)} xs (λ key t. f t)

pub yes_later : {T : Type 0} (x : T) (xs : List T) (P : T → Type 0) → SomeOf P xs → SomeOf P (x ∷ xs)
yes_later x xs P h = (suc h.0, h.1)

pub yes_here : {T : Type 0} (x : T) (xs : List T) (P : T → Type 0) → P x → SomeOf P (x ∷ xs)
yes_here x xs P h = (0, h)

abbrev pub yes_either : {A B C : Type 0} → (A → C) → (B → C) → Option A → Option B → Option C
yes_either f g (Some a) b = Some (f a)
yes_either f g None (Some b) = Some (g b)
yes_either f g None None = None

abbrev pub yes_some : {T : Type 0} {P : T → Type 0} (xs : List T) → ((t : T) → Yes (P t)) → Yes (SomeOf P xs)
yes_some [] f = None
yes_some {T} {P} (x ∷ xs) f = yes_either (yes_here x xs P) (yes_later x xs P) (f x) (yes_some {P = P} xs f)

pub not_first : {T : Type 0} (v x : T) (xs : List T) (at : ℕ) → (x ≡ v → ⊥) → (StandsBefore v xs at → ⊥) → StandsBefore v (x ∷ xs) (suc at) → ⊥
not_first v x xs at here there (zero, less, is) = here (same_Some x v is)
not_first v x xs at here there (suc earlier, less, is) = there (earlier, (omega (arith, less)), is)

pub not_before_all : {T : Type 0} (v : T) (xs : List T) → StandsBefore v xs 0 → ⊥
not_before_all v xs (earlier, less, is) = omega (arith, less)

pub not_in_none : {T : Type 0} (v : T) (at : ℕ) → StandsBefore v [] at → ⊥
not_in_none v at (earlier, less, is) = cc is

abbrev pub no_before : {T : Type 0} → ((a b : T) → No (a ≡ b)) → (v : T) (xs : List T) (at : ℕ) → No (StandsBefore v xs at)
no_before differ v xs zero = Some (not_before_all v xs)
no_before differ v [] (suc at) = Some (not_in_none v (suc at))
no_before differ v (x ∷ xs) (suc at) = found_both (not_first v x xs at) (differ x v) (no_before differ v xs at)

-- ---- numbers and texts

abbrev pub found_if : {P : Type 0} (t : Bool) → (t ≡ true → P) → Option P
found_if true f = Some (f refl)
found_if false f = None

abbrev pub found_unless : {P : Type 0} (t : Bool) → (t ≡ false → P) → Option P
found_unless false f = Some (f refl)
found_unless true f = None

pub not_less : (a b : ℕ) → ltb a b ≡ false → a < b → ⊥
not_less a b isnt h = let e = ltb-false a b isnt in omega arith

pub not_least : (a b : ℕ) → leb a b ≡ false → a ≤ b → ⊥
not_least a b isnt h = let e = leb-false a b isnt in omega arith

abbrev pub no_less : (a b : ℕ) → No (a < b)
no_less a b = found_unless (ltb a b) (not_less a b)

abbrev pub yes_less : (a b : ℕ) → Yes (a < b)
yes_less a b = found_if (ltb a b) (ltb-true a b)

abbrev pub no_least : (a b : ℕ) → No (a ≤ b)
no_least a b = found_unless (leb a b) (not_least a b)

abbrev pub yes_least : (a b : ℕ) → Yes (a ≤ b)
yes_least a b = found_if (leb a b) (leb-true a b)

abbrev pub no_equal : (a b : ℕ) → No (a ≡ b)
no_equal a b = found_unless (eqb a b) (eqb-false a b)

abbrev pub yes_equal : (a b : ℕ) → Yes (a ≡ b)
yes_equal a b = found_if (eqb a b) (eqb-true a b)

pub not_text : (a b : List ℕ) → bytes_eq a b ≡ false → a ≡ b → ⊥
not_text a b isnt h = let e = (bytes_eq-Decides a b).1 h in cc (sym e ∙ isnt)

pub is_text : (a b : List ℕ) → bytes_eq a b ≡ true → a ≡ b
is_text a b h = (bytes_eq-Decides a b).0 h

abbrev pub no_text : (a b : List ℕ) → No (a ≡ b)
no_text a b = found_unless (bytes_eq a b) (not_text a b)

abbrev pub yes_text : (a b : List ℕ) → Yes (a ≡ b)
yes_text a b = found_if (bytes_eq a b) (is_text a b)

-- a power of two among those up to one
abbrev pub IsPower : ℕ → ℕ → Type 0
IsPower n k = (power : ℕ) × (power ≤ k) × (n ≡ 2 ^ power)

pub power_here : (n k : ℕ) → n ≡ 2 ^ k → IsPower n k
power_here n k h = (k, omega arith, h)

pub power_below : (n k : ℕ) → IsPower n k → IsPower n (suc k)
power_below n k (power, low, is) = (power, (omega (arith, low)), is)

abbrev pub yes_power : (n k : ℕ) → Yes (IsPower n k)
yes_power n zero = found (power_here n 0) (yes_equal n (2 ^ 0))
yes_power n (suc k) = yes_either (power_here n (suc k)) (power_below n k) (yes_equal n (2 ^ (suc k))) (yes_power n k)
