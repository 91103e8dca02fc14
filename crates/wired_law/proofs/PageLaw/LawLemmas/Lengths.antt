-- Where none of another length is counted, each buffer of a pool has its length.
use Rattle.std.proofs.Common.{◌≡◌, ◌==◌, ◌&&◌, ◌⊎◌, ℕ, Bool, true, false, not, if◌then◌else◌, List, [], ◌∷◌, length, sym, ap, ◌∙◌, arith, eq-eqb, ne_eqb, inl, inr}
use Rattle.std.proofs.lemmas.Bool.{cases_eq}
use Rattle.cargo_core.specs.declared.item.PoolId.{PoolId}
use Rattle.cargo_core.specs.declared.item.Body.{Body}
use Rattle.cargo_core.specs.declared.item.Body.TheVariants as Carried
use Rattle.buffer_kit.specs.Conserving.{counted, weight, of_other_length}
use Rattle.wired_law.specs.PageLaw.Holders.{HasLength, HaveLength}

abbrev pick : Bool → Bool → ℕ
pick a b = if a && not b then 1 else 0

one_length : (pool : PoolId) (size : ℕ) (b : Body) → weight (of_other_length pool size) b ≡ 0 → HasLength pool size b
one_length pool size Carried.Empty none = tt
one_length pool size (Carried.Lease lease) none = tt
one_length pool size (Carried.Page page) none = λ same. by same (cases_eq (length page.bytes) size)
  where
    by : page.pool.0 ≡ pool.0 → (length page.bytes ≡ size) ⊎ (length page.bytes ≡ size → ⊥) → length page.bytes ≡ size
    by same (inl e) = e
    by same (inr ne) =
        let clash : pick true false ≡ 0 = sym (ap (λ t. pick t (length page.bytes == size)) (eq-eqb page.pool.0 pool.0 same) ∙ ap (pick true) (ne_eqb (length page.bytes) size ne)) ∙ none in
        absurd (omega (arith, clash))

pub have_length : (pool : PoolId) (size : ℕ) (bs : List Body) → counted (of_other_length pool size) bs ≡ 0 → HaveLength pool size bs
have_length pool size [] none = tt
have_length pool size (b ∷ bs) none = (one_length pool size b (omega (arith, none)), have_length pool size bs (omega (arith, none)))
