use Rattle.std.proofs.Common.{◌≡◌, ◌==◌, ◌&&◌, ◌||◌, ◌++◌, ℕ, Bool, true, false, cond, Option, Some, None, List, [], ◌∷◌, map, refl, sym, ap, ap₂, ◌∙◌, eq-eqb, eqb-true}
use Rattle.std.specs.List.{list_any}
use Rattle.std.proofs.lemmas.Map.Views.{any-filter_same}
use Rattle.i2c_virt.specs.declared.i2c_kit.alone.Request.{Request}
use Rattle.i2c_virt.specs.I2cKit.Devices.{address_of}
use Rattle.i2c_virt.specs.I2cKit.Grants.{is_claim, claims, owner_after, is_free_for, is_owner, granted_to}
use Rattle.i2c_virt.specs.I2cKit.Replies.{is_claimed}
use Rattle.bus_law.specs.I2cLaw.Shares.{asks_of}

-- Who has an address, by all requests and by those of one client.

pub or-true : (b : Bool) → (b || true) ≡ true
or-true true = refl
or-true false = refl

pub and-true : (b : Bool) → b ≡ (b && true)
and-true true = refl
and-true false = refl

pub and-false : (b : Bool) → (b && false) ≡ false
and-false true = refl
and-false false = refl

some_of : {x y : ℕ} → Some x ≡ Some y → x ≡ y
some_of h = cc

-- the first owner counts
abbrev pub owner_or : Option ℕ → Option ℕ → Option ℕ
owner_or (Some c) other = Some c
owner_or None other = other

pub owner_append : (xs ys : List Request) (a : ℕ) → owner_after (xs ++ ys) a ≡ owner_or (owner_after xs a) (owner_after ys a)
owner_append [] ys a = refl
owner_append (x ∷ xs) ys a = by (claims x.ask a) refl (owner_append xs ys a)
  where
    by : (t : Bool) → claims x.ask a ≡ t → owner_after (xs ++ ys) a ≡ owner_or (owner_after xs a) (owner_after ys a) → owner_after ((x ∷ xs) ++ ys) a ≡ owner_or (owner_after (x ∷ xs) a) (owner_after ys a)
    by true e rest = ap (λ t. cond t (Some x.client) (owner_after (xs ++ ys) a)) e ∙ sym (ap (λ t. owner_or (cond t (Some x.client) (owner_after xs a)) (owner_after ys a)) e)
    by false e rest = ap (λ t. cond t (Some x.client) (owner_after (xs ++ ys) a)) e ∙ (rest ∙ sym (ap (λ t. owner_or (cond t (Some x.client) (owner_after xs a)) (owner_after ys a)) e))

module _ (c : ℕ) where
  pub asks_append : (xs ys : List Request) → asks_of c (xs ++ ys) ≡ asks_of c xs ++ asks_of c ys
  asks_append [] ys = refl
  asks_append (x ∷ xs) ys = by (x.client == c) refl (asks_append xs ys)
    where
      by : (t : Bool) → (x.client == c) ≡ t → asks_of c (xs ++ ys) ≡ asks_of c xs ++ asks_of c ys → asks_of c ((x ∷ xs) ++ ys) ≡ asks_of c (x ∷ xs) ++ asks_of c ys
      by true e rest = ap (λ t. cond t (x.ask ∷ asks_of c (xs ++ ys)) (asks_of c (xs ++ ys))) e ∙ (ap (λ l. x.ask ∷ l) rest ∙ sym (ap (λ t. cond t (x.ask ∷ asks_of c xs) (asks_of c xs) ++ asks_of c ys) e))
      by false e rest = ap (λ t. cond t (x.ask ∷ asks_of c (xs ++ ys)) (asks_of c (xs ++ ys))) e ∙ (rest ∙ sym (ap (λ t. cond t (x.ask ∷ asks_of c xs) (asks_of c xs) ++ asks_of c ys) e))

  module _ (a : ℕ) where
    -- whether it claimed the address
    abbrev pub claimed : List Request → Bool
    claimed xs = list_any (λ q. claims q a) (asks_of c xs)

    here : (x : Request) (xs : List Request) (t : Bool) → (x.client == c) ≡ t → claimed (x ∷ xs) ≡ list_any (λ q. claims q a) (cond t (x.ask ∷ asks_of c xs) (asks_of c xs))
    here x xs t e = ap (λ t. list_any (λ q. claims q a) (cond t (x.ask ∷ asks_of c xs) (asks_of c xs))) e

    rest_of : (x : Request) (xs : List Request) (o : Option ℕ) → claims x.ask a ≡ false → owner_after (x ∷ xs) a ≡ o → owner_after xs a ≡ o
    rest_of x xs o e h = sym (ap (λ t. cond t (Some x.client) (owner_after xs a)) e) ∙ h

    first_of : (x : Request) (xs : List Request) (o : Option ℕ) → claims x.ask a ≡ true → owner_after (x ∷ xs) a ≡ o → Some x.client ≡ o
    first_of x xs o e h = sym (ap (λ t. cond t (Some x.client) (owner_after xs a)) e) ∙ h

    -- where nobody has it, it wasn't claimed
    pub claim_none : (xs : List Request) → owner_after xs a ≡ None → claimed xs ≡ false
    claim_none [] h = refl
    claim_none (x ∷ xs) h = by (claims x.ask a) refl (x.client == c) refl (λ more. claim_none xs more)
      where
        by : (t : Bool) → claims x.ask a ≡ t → (s : Bool) → (x.client == c) ≡ s → (owner_after xs a ≡ None → claimed xs ≡ false) → claimed (x ∷ xs) ≡ false
        by true e s f rest = let bad : Some x.client ≡ None = first_of x xs None e h in cc
        by false e true f rest = here x xs true f ∙ (ap (λ t. t || claimed xs) e ∙ rest (rest_of x xs None e h))
        by false e false f rest = here x xs false f ∙ rest (rest_of x xs None e h)

    -- where the client has it, the client claimed it
    pub claim_own : (xs : List Request) → owner_after xs a ≡ Some c → claimed xs ≡ true
    claim_own [] h = cc
    claim_own (x ∷ xs) h = by (claims x.ask a) refl (x.client == c) refl (λ more. claim_own xs more)
      where
        by : (t : Bool) → claims x.ask a ≡ t → (s : Bool) → (x.client == c) ≡ s → (owner_after xs a ≡ Some c → claimed xs ≡ true) → claimed (x ∷ xs) ≡ true
        by true e true f rest = here x xs true f ∙ ap (λ t. t || claimed xs) e
        by true e false f rest = let same : x.client ≡ c = some_of (first_of x xs (Some c) e h) in let bad : true ≡ false = sym (eq-eqb x.client c same) ∙ f in cc
        by false e true f rest = here x xs true f ∙ (ap (λ t. t || claimed xs) e ∙ rest (rest_of x xs (Some c) e h))
        by false e false f rest = here x xs false f ∙ rest (rest_of x xs (Some c) e h)

-- each request's address is named
abbrev named : List Request → List ℕ
named log = map (λ (r : Request). address_of r.ask) log

named_in : (before more : List Request) (r : Request) → list_any (λ g. g == address_of r.ask) (named (before ++ r ∷ more)) ≡ true
named_in [] more r = ap (λ t. t || list_any (λ g. g == address_of r.ask) (named more)) (eq-eqb (address_of r.ask) (address_of r.ask) refl)
named_in (x ∷ before) more r = ap (λ t. (address_of x.ask == address_of r.ask) || t) (named_in before more r) ∙ or-true (address_of x.ask == address_of r.ask)

module _ (c : ℕ) (log before more : List Request) (r : Request) (is : before ++ r ∷ more ≡ log) where
  abbrev a : ℕ
  a = address_of r.ask

  abbrev granted : List ℕ
  granted = granted_to c log

  -- its address is granted exactly where the client has it in the end
  in_granted : list_any (λ g. g == a) granted ≡ (is_owner (owner_after log a) c && true)
  in_granted =
      any-filter_same (λ g. g == a) (λ g. is_owner (owner_after log g) c) (is_owner (owner_after log a) c) (λ g h. ap (λ z. is_owner (owner_after log z) c) (eqb-true g a h)) (named log)
      ∙ ap (λ t. is_owner (owner_after log a) c && t) (ap (λ l. list_any (λ g. g == a) (named l)) (sym is) ∙ named_in before more r)

  whole : owner_after log a ≡ owner_or (owner_after before a) (owner_after (r ∷ more) a)
  whole = ap (λ l. owner_after l a) (sym is) ∙ owner_append before (r ∷ more) a

  -- a claim is good exactly where the address is granted
  pub may_is : r.client ≡ c → is_claim r.ask ≡ true → is_free_for (owner_after before a) c ≡ list_any (λ g. g == a) granted
  may_is same claim =
      let claims_it : claims r.ask a ≡ true = ap₂ (λ x y. x && y) claim (eq-eqb a a refl) in
      let next : owner_after (r ∷ more) a ≡ Some c = ap (λ t. cond t (Some r.client) (owner_after more a)) claims_it ∙ ap (λ n. Some n) same in
      by (owner_after before a) ∙ sym (in_granted ∙ ap (λ o. is_owner o c && true) (whole ∙ ap (owner_or (owner_after before a)) next))
    where
      by : (o : Option ℕ) → is_free_for o c ≡ (is_owner (owner_or o (Some c)) c && true)
      by None = sym (ap (λ t. t && true) (eq-eqb c c refl))
      by (Some d) = and-true (d == c)

  abbrev w : Option ℕ
  w = owner_after (r ∷ more) a

  -- the client has it exactly where it is granted and was claimed
  pub has_is : is_owner (owner_after before a) c ≡ is_claimed granted (asks_of c before) a
  has_is = go (owner_after before a) refl ∙ sym (ap (λ t. t && claimed c a before) (in_granted ∙ ap (λ o. is_owner o c && true) whole))
    where
      go : (o : Option ℕ) → owner_after before a ≡ o → is_owner o c ≡ ((is_owner (owner_or (owner_after before a) w) c && true) && claimed c a before)
      go None e = sym (ap (λ t. (is_owner (owner_or (owner_after before a) w) c && true) && t) (claim_none c a before e) ∙ and-false (is_owner (owner_or (owner_after before a) w) c && true))
      go (Some d) e = by (d == c) refl
        where
          kept : (is_owner (owner_or (owner_after before a) w) c && true) ≡ ((d == c) && true)
          kept = ap (λ o. is_owner (owner_or o w) c && true) e

          by : (t : Bool) → (d == c) ≡ t → (d == c) ≡ ((is_owner (owner_or (owner_after before a) w) c && true) && claimed c a before)
          by true f =
              let same : d ≡ c = eqb-true d c f in
              and-true (d == c) ∙ (and-true ((d == c) && true) ∙ sym (ap₂ (λ x y. x && y) kept (claim_own c a before (e ∙ ap (λ n. Some n) same))))
          by false f = f ∙ sym (ap (λ t. t && claimed c a before) (kept ∙ ap (λ t. t && true) f))
