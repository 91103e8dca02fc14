-- The table of uses: for each domain and id, the first end of a channel that has them.
use Rattle.std.specs.Prelude.{◌≡◌, ℕ, Option, Some, None}
use Rattle.std.specs.Ordering.{nat_cmp, ordering_then}
use Rattle.std.specs.declared.cmp.Ordering.{Ordering}
use Rattle.sdf_plan.specs.declared.plan.Plan.{Plan}
use Rattle.sdf_plan.specs.Elements.{OfEnd}
use Rattle.sdf_check.specs.Names.{domain_named}
use Rattle.sdf_check.specs.Rules.{IsEarlierEnd}

-- the order of the keys of a table of uses: by the domain, and then by the id
abbrev pub use_cmp : ℕ × ℕ → ℕ × ℕ → Ordering
use_cmp a b = ordering_then (nat_cmp a.0 b.0) (nat_cmp a.1 b.1)

-- this end has this id in this domain
abbrev pub HasUse : Plan → ℕ → ℕ → ℕ → ℕ → Type 0
HasUse plan d id c e = OfEnd plan c e (λ end. (domain_named plan end.pd ≡ Some d) × (end.id ≡ id))

-- of the ends before this one, the table has the first one for each domain and id
pub record UsesUpTo (find : ℕ × ℕ → Option (ℕ × ℕ)) (plan : Plan) (channel at : ℕ) : Type 0 where
  pub found : (d id c e : ℕ) → find (d, id) ≡ Some (c, e)
      → HasUse plan d id c e × IsEarlierEnd c e channel at
      × ((c' e' : ℕ) → IsEarlierEnd c' e' c e → HasUse plan d id c' e' → ⊥)
  pub none : (d id : ℕ) → find (d, id) ≡ None → (c e : ℕ) → IsEarlierEnd c e channel at
      → HasUse plan d id c e → ⊥
