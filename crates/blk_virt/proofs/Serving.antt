-- The answers to a client's requests, one more at a time.
use Rattle.std.proofs.Common.{◌≡◌, ℕ, suc, Bool, true, false, cond, ◌⊎◌, inl, inr, ◌==◌, eq-eqb, if◌then◌else◌, Option, List, [], ◌∷◌, ◌++◌, length, refl, sym, ap, ◌∙◌, arith}
use Rattle.std.specs.List.{filter}
use Rattle.std.proofs.lemmas.List.{append-nil}
use Rattle.std.proofs.lemmas.List.Elements.{filter-append}
use Rattle.std.proofs.lemmas.Bool.{cases_Bool, and_from}
use Rattle.cargo_core.specs.declared.item.Body.TheVariants as Carried
use Rattle.cargo_core.specs.declared.item.Code.{Code}
use Rattle.cargo_core.specs.declared.item.Code.TheVariants as Asked
use Rattle.cargo_core.specs.declared.item.Item.TheVariants as ItemOf
use Rattle.wire_core.specs.Deeds.{Cargo}
use Rattle.blk_mbr.specs.declared.part.Part.{Part}
use Rattle.blk_virt.specs.declared.requests.Holder.{Holder}
use Rattle.blk_virt.specs.Requests.{request_of, asked_of_disk, first_block, goes_on, for_disk, numbered, refusal, passed_on, page_named, brings, is_at}
use Rattle.blk_virt.specs.Serving.{own_of, answers_to, AllBring}

-- one element more passes, or doesn't
pub filter_yes : (p : Cargo → Bool) (xs : List Cargo) (x : Cargo) → p x ≡ true → filter p (xs ++ x ∷ []) ≡ filter p xs ++ x ∷ []
filter_yes p xs x h = filter-append p xs (x ∷ []) ∙ ap (λ b. filter p xs ++ cond b (x ∷ []) []) h

pub filter_no : (p : Cargo → Bool) (xs : List Cargo) (x : Cargo) → p x ≡ false → filter p (xs ++ x ∷ []) ≡ filter p xs
filter_no p xs x h = filter-append p xs (x ∷ []) ∙ (ap (λ b. filter p xs ++ cond b (x ∷ []) []) h ∙ append-nil (filter p xs))

module _ (h : Holder) (part : Option Part) where
  on : (x : Cargo) (xs : List Cargo) (y : Cargo) (back : List Cargo) → goes_on h part x ≡ true → answers_to h part (x ∷ xs) (y ∷ back) ≡ passed_on (request_of x.0).id y ∷ answers_to h part xs back
  on x xs y back e = ap (λ b. if b then (passed_on (request_of x.0).id y ∷ answers_to h part xs back) else (refusal h part x ∷ answers_to h part xs (y ∷ back))) e

  off : (x : Cargo) (xs back : List Cargo) → goes_on h part x ≡ false → answers_to h part (x ∷ xs) back ≡ refusal h part x ∷ answers_to h part xs back
  off x xs [] e = ap (λ b. if b then [] else (refusal h part x ∷ answers_to h part xs [])) e
  off x xs (y ∷ back) e = ap (λ b. if b then (passed_on (request_of x.0).id y ∷ answers_to h part xs back) else (refusal h part x ∷ answers_to h part xs (y ∷ back))) e

  longer : (x : Cargo) (xs : List Cargo) → goes_on h part x ≡ true → length (filter (goes_on h part) (x ∷ xs)) ≡ suc (length (filter (goes_on h part) xs))
  longer x xs e = ap (λ b. length (cond b (x ∷ filter (goes_on h part) xs) (filter (goes_on h part) xs))) e

  as_long : (x : Cargo) (xs : List Cargo) → goes_on h part x ≡ false → length (filter (goes_on h part) (x ∷ xs)) ≡ length (filter (goes_on h part) xs)
  as_long x xs e = ap (λ b. length (cond b (x ∷ filter (goes_on h part) xs) (filter (goes_on h part) xs))) e

  -- where the disk answered just what was sent on, later answers come behind
  pub answers_more : (xs back ys more : List Cargo) → length back ≡ length (filter (goes_on h part) xs) → answers_to h part (xs ++ ys) (back ++ more) ≡ answers_to h part xs back ++ answers_to h part ys more
  answers_more [] [] ys more e = refl
  answers_more [] (b ∷ back) ys more e = absurd (omega (arith, e))
  answers_more (x ∷ xs) [] ys more e = by (cases_Bool (goes_on h part x)) (λ k. answers_more xs [] ys more k)
    where
      by : (goes_on h part x ≡ true) ⊎ (goes_on h part x ≡ false) → (0 ≡ length (filter (goes_on h part) xs) → answers_to h part (xs ++ ys) more ≡ answers_to h part xs [] ++ answers_to h part ys more) → answers_to h part (x ∷ (xs ++ ys)) more ≡ answers_to h part (x ∷ xs) [] ++ answers_to h part ys more
      by (inl t) rec = let no = longer x xs t in absurd (omega (arith, e, no))
      by (inr f) rec = let same = as_long x xs f in off x (xs ++ ys) more f ∙ (ap (λ l. refusal h part x ∷ l) (rec (e ∙ same)) ∙ ap (λ l. l ++ answers_to h part ys more) (sym (off x xs [] f)))
  answers_more (x ∷ xs) (b ∷ back) ys more e = by (cases_Bool (goes_on h part x)) (λ k. answers_more xs back ys more k) (λ k. answers_more xs (b ∷ back) ys more k)
    where
      by : (goes_on h part x ≡ true) ⊎ (goes_on h part x ≡ false) → (length back ≡ length (filter (goes_on h part) xs) → answers_to h part (xs ++ ys) (back ++ more) ≡ answers_to h part xs back ++ answers_to h part ys more)
          → (length (b ∷ back) ≡ length (filter (goes_on h part) xs) → answers_to h part (xs ++ ys) (b ∷ (back ++ more)) ≡ answers_to h part xs (b ∷ back) ++ answers_to h part ys more) → answers_to h part (x ∷ (xs ++ ys)) (b ∷ (back ++ more)) ≡ answers_to h part (x ∷ xs) (b ∷ back) ++ answers_to h part ys more
      by (inl t) rec later =
          let one = longer x xs t in
          on x (xs ++ ys) b (back ++ more) t ∙ (ap (λ l. passed_on (request_of x.0).id b ∷ l) (rec (omega (arith, e, one))) ∙ ap (λ l. l ++ answers_to h part ys more) (sym (on x xs b back t)))
      by (inr f) rec later =
          let same = as_long x xs f in
          off x (xs ++ ys) (b ∷ (back ++ more)) f ∙ (ap (λ l. refusal h part x ∷ l) (later (e ∙ same)) ∙ ap (λ l. l ++ answers_to h part ys more) (sym (off x xs (b ∷ back) f)))

  -- a request that is refused, and one that the disk answers
  pub refused_more : (xs back : List Cargo) (x : Cargo) → length back ≡ length (filter (goes_on h part) xs) → goes_on h part x ≡ false → answers_to h part (xs ++ x ∷ []) back ≡ answers_to h part xs back ++ refusal h part x ∷ []
  refused_more xs back x e f = ap (answers_to h part (xs ++ x ∷ [])) (sym (append-nil back)) ∙ (answers_more xs back (x ∷ []) [] e ∙ ap (λ l. answers_to h part xs back ++ l) (off x [] [] f))

  pub answered_more : (xs back : List Cargo) (x y : Cargo) → length back ≡ length (filter (goes_on h part) xs) → goes_on h part x ≡ true → answers_to h part (xs ++ x ∷ []) (back ++ y ∷ []) ≡ answers_to h part xs back ++ passed_on (request_of x.0).id y ∷ []
  answered_more xs back x y e t = answers_more xs back (x ∷ []) (y ∷ []) e ∙ ap (λ l. answers_to h part xs back ++ l) (on x [] y [] t)

  -- answers to later requests come behind
  pub answers_front : (xs back ys : List Cargo) → length back ≡ length (filter (goes_on h part) xs) → answers_to h part (xs ++ ys) back ≡ answers_to h part xs back ++ answers_to h part ys []
  answers_front xs back ys e = ap (answers_to h part (xs ++ ys)) (sym (append-nil back)) ∙ answers_more xs back ys [] e

-- buffers of answers
pub bring_more : (xs ys : List Cargo) (x y : Cargo) → length ys ≡ length xs → AllBring xs ys → brings (page_named x.1) y.1 ≡ true → AllBring (xs ++ x ∷ []) (ys ++ y ∷ [])
bring_more [] [] x y e h one = (one, tt)
bring_more [] (b ∷ ys) x y e h one = absurd h
bring_more (a ∷ xs) [] x y e h one = absurd (omega (arith, e))
bring_more (a ∷ xs) (b ∷ ys) x y e h one = (h.0, bring_more xs ys x y (omega (arith, e)) h.1 one)

pub bring_front : (xs ys zs ws : List Cargo) → AllBring xs (ys ++ zs) → AllBring (xs ++ ws) ys
bring_front xs [] zs ws h = tt
bring_front [] (y ∷ ys) zs ws h = absurd h
bring_front (x ∷ xs) (y ∷ ys) zs ws h = (h.0, bring_front xs ys zs ws h.1)

-- a body brings its own page
pub own_page : (x : Cargo) → brings (page_named x.1) x.1 ≡ true
own_page (item, Carried.Page page) = and_from (page.pool.0 == page.pool.0) (page.no == page.no) (eq-eqb page.pool.0 page.pool.0 refl) (eq-eqb page.no page.no refl)
own_page (item, Carried.Lease lease) = refl
own_page (item, Carried.Empty) = refl

-- what goes to the disk, its number aside, has the number 0
pub numbered_disk : (h : Holder) (part : Option Part) (x : Cargo) → numbered 0 (for_disk h part x) ≡ for_disk h part x
numbered_disk h part x = by (request_of x.0).code
  where
    by : (c : Code) → numbered 0 (ItemOf.Req (asked_of_disk c h.base (first_block part) (request_of x.0)), x.1) ≡ (ItemOf.Req (asked_of_disk c h.base (first_block part) (request_of x.0)), x.1)
    by Asked.Read = refl
    by Asked.Write = refl
    by Asked.Flush = refl
    by Asked.Barrier = refl

-- a number on a number
pub numbered_again : (n : ℕ) (x : Cargo) → numbered 0 (numbered n x) ≡ numbered 0 x
numbered_again n x = refl

-- one more at the client's buffers, and one elsewhere
pub own_more : (h : Holder) (xs : List Cargo) (x : Cargo) → is_at h x ≡ true → own_of h (xs ++ x ∷ []) ≡ own_of h xs ++ x ∷ []
own_more h xs x e = filter_yes (is_at h) xs x e

pub own_beside : (h : Holder) (xs : List Cargo) (x : Cargo) → is_at h x ≡ false → own_of h (xs ++ x ∷ []) ≡ own_of h xs
own_beside h xs x e = filter_no (is_at h) xs x e
