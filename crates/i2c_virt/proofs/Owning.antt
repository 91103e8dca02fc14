use Rattle.std.proofs.Common.{◌≡◌, ◌≢◌, ◌⊎◌, ◌<◌, ℕ, zero, suc, Bool, true, false, cond, Option, Some, None, List, [], ◌∷◌, ◌++◌, length, get_or, set, replicate, slice_get, slice_set, refl, sym, ap, ◌∙◌, subst, arith, inl, inr}
use Rattle.std.proofs.Math.Dec.{eqb}
use Rattle.std.proofs.lemmas.Bool.{eq-eqb}
use Rattle.std.proofs.lemmas.Bool.Decides.{eqb_tells}
use Rattle.std.proofs.lemmas.List.{length-replicate, length-set}
use Rattle.std.proofs.lemmas.Option.{slice_get-get_or}
use Rattle.wire_core.proofs.Places.{slice_get_written, slice_get_beside}
use Rattle.wire_core.proofs.Sinces.{eqb_apart}
use Rattle.i2c_virt.specs.declared.i2c_kit.alone.Request.{Request}
use Rattle.i2c_virt.specs.declared.i2c_kit.page.Operation.{Operation}
use Rattle.i2c_virt.specs.declared.i2c_kit.page.Operation.TheVariants as Does
use Rattle.i2c_virt.specs.I2cKit.Grants.{claims, owner_after}
use Rattle.i2c_virt.specs.I2cKit.Pages.{asked}
use Rattle.i2c_virt.specs.Owners.{KnowsOwners, verdict, judged, owner_then}

-- What the virtualiser knows of the owners goes on with a request.

owner_or : Option ℕ → Option ℕ → Option ℕ
owner_or None y = y
owner_or (Some c) y = Some c

owner_step : (x r : Request) (xs : List Request) (a : ℕ) (b : Bool) → claims x.ask a ≡ b
    → owner_after (xs ++ r ∷ []) a ≡ owner_or (owner_after xs a) (cond (claims r.ask a) (Some r.client) None)
    → owner_after ((x ∷ xs) ++ r ∷ []) a ≡ owner_or (owner_after (x ∷ xs) a) (cond (claims r.ask a) (Some r.client) None)
unfolding owner_or
owner_step x r xs a true is more = rw is refl
owner_step x r xs a false is more = rw is more

-- one request more
owner_more : (xs : List Request) (r : Request) (a : ℕ) → owner_after (xs ++ r ∷ []) a ≡ owner_or (owner_after xs a) (cond (claims r.ask a) (Some r.client) None)
unfolding owner_or
owner_more [] r a = refl
owner_more (x ∷ xs) r a = owner_step x r xs a (claims x.ask a) refl (owner_more xs r a)

-- the request of a head
abbrev pub request : ℕ → Operation → (a n : ℕ) → List ℕ → Request
request client o a n bytes = record { client = client; ask = asked o a n bytes }

then_here : (owner : Option ℕ) (client : ℕ) (o : Operation) (a n : ℕ) (bytes : List ℕ) → owner_then owner client o ≡ owner_or owner (cond (claims (asked o a n bytes) a) (Some client) None)
unfolding owner_or
then_here (Some c) client o a n bytes = refl
then_here None client Does.Claim a n bytes = rw (eq-eqb a a refl) refl
then_here None client Does.Read a n bytes = refl
then_here None client Does.Write a n bytes = refl

claims_other : (o : Operation) (a n b : ℕ) (bytes : List ℕ) → (a ≡ b → ⊥) → claims (asked o a n bytes) b ≡ false
claims_other Does.Claim a n b bytes h = eqb_apart a b h
claims_other Does.Read a n b bytes h = refl
claims_other Does.Write a n b bytes h = refl

or_none : (o : Option ℕ) → owner_or o None ≡ o
unfolding owner_or
or_none None = refl
or_none (Some c) = refl

other_stays : (rs : List Request) (client : ℕ) (o : Operation) (a n b : ℕ) (bytes : List ℕ) → (a ≡ b → ⊥) → owner_after (rs ++ request client o a n bytes ∷ []) b ≡ owner_after rs b
other_stays rs client o a n b bytes h =
    owner_more rs (request client o a n bytes) b
    ∙ (ap (λ t. owner_or (owner_after rs b) (cond t (Some client) None)) (claims_other o a n b bytes h) ∙ or_none (owner_after rs b))

module _ (clients : List (Option ℕ)) (rs : List Request) (client : ℕ) (o : Operation) (a n : ℕ) (bytes : List ℕ) (owner : Option ℕ)
    (k : KnowsOwners clients rs) (within : a < 128) (there : slice_get clients a ≡ Some owner) where
  owner_is : owner ≡ owner_after rs a
  owner_is = let both : Some owner ≡ Some (owner_after rs a) = sym there ∙ k.each a within in cc

  now_here : slice_get (slice_set clients a (owner_then owner client o)) a ≡ Some (owner_after (rs ++ request client o a n bytes ∷ []) a)
  now_here =
      slice_get_written clients a owner (owner_then owner client o) there
      ∙ ap Some (ap (λ w. owner_then w client o) owner_is ∙ (then_here (owner_after rs a) client o a n bytes ∙ sym (owner_more rs (request client o a n bytes) a)))

  now_at : (b : ℕ) → b < 128 → ((eqb b a ≡ true) × (b ≡ a)) ⊎ ((eqb b a ≡ false) × (b ≢ a)) → slice_get (slice_set clients a (owner_then owner client o)) b ≡ Some (owner_after (rs ++ request client o a n bytes ∷ []) b)
  now_at b lt (inl same) = subst (λ x. slice_get (slice_set clients a (owner_then owner client o)) x ≡ Some (owner_after (rs ++ request client o a n bytes ∷ []) x)) (sym same.1) now_here
  now_at b lt (inr other) = slice_get_beside clients a b (owner_then owner client o) other.1 ∙ (k.each b lt ∙ ap Some (sym (other_stays rs client o a n b bytes (λ e. other.1 (sym e)))))

  pub knows_more : KnowsOwners (slice_set clients a (owner_then owner client o)) (rs ++ request client o a n bytes ∷ [])
  knows_more = record {
    size = length-set clients a (owner_then owner client o) ∙ k.size;
    each = λ b lt. now_at b lt (eqb_tells b a);
  }

  by_owner : (w : Option ℕ) (p : Operation) → w ≡ owner_after rs a → judged w client p ≡ verdict rs (request client p a n bytes)
  by_owner w Does.Claim is = ap (λ x. judged x client Does.Claim) is
  by_owner w Does.Read is = ap (λ x. judged x client Does.Read) is
  by_owner w Does.Write is = ap (λ x. judged x client Does.Write) is

  pub judged_is : judged owner client o ≡ verdict rs (request client o a n bytes)
  judged_is = by_owner owner o owner_is

-- at the start nobody has any
none_there : (n a : ℕ) → a < n → slice_get (replicate n (let none : Option ℕ = None in none)) a ≡ Some None
none_there zero a h = absurd (omega arith)
none_there (suc n) zero h = refl
none_there (suc n) (suc a) h = none_there n a (omega arith)

pub knows_none : (clients : List (Option ℕ)) → clients ≡ replicate 128 None → KnowsOwners clients []
knows_none clients is = record {
  size = ap length is ∙ length-replicate {A = Option ℕ} 128 None;
  each = λ a h. ap (λ cs. slice_get cs a) is ∙ none_there 128 a h;
}

-- the client that was read at an address
pub read_there : (clients : List (Option ℕ)) (a b : ℕ) (owner : Option ℕ) → length clients ≡ 128 → b ≡ a → a < 128 → owner ≡ get_or clients b owner → slice_get clients a ≡ Some owner
read_there clients a b owner size same lt is = slice_get-get_or clients a owner (omega (arith, size, lt)) ∙ ap Some (ap (λ n. get_or clients n owner) (sym same) ∙ sym is)

pub written_at : (clients : List (Option ℕ)) (a b : ℕ) (rs : List Request) (x y : Option ℕ) → b ≡ a → x ≡ y → KnowsOwners (slice_set clients a y) rs → KnowsOwners (set clients b x) rs
written_at clients a b rs x y same is k = rw (same, is) k
