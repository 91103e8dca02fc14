use Rattle.std.proofs.Common.{◌≡◌, ◌↔◌, ℕ, List, IsTrue, Bor, subst, inl}
use Rattle.sdf_plan.specs.declared.class_table.uses.Grant.{Grant}
use Rattle.sdf_plan.specs.ClassTable.Shown.{Shelved}
use Rattle.sdf_check.specs.ClassRules.{SomeOf}
use Rattle.sdf_check.specs.Lookups.{names_shown}
use Rattle.sdf_check.proofs.RowLemmas.{allowed-iff, second-asked}
use Rattle.sdf_check.proofs.rows.allows.Goals as goal

pub returns-then-must_map : goal.returns-then-must_map
returns-then-must_map c = (
  λ t. (allowed-iff c.args.name.now c.args.pool.now).0 (inl (subst (λ (gs : List (Grant Shelved)). SomeOf (λ g. g.domain.now ≡ c.args.name.now) gs) c.as_slice.ensures
      (c.must_map.ensures.0 c.if-must_map.true))),
  λ s. c.if-must_map.true,
)

pub returns-else-must_map : goal.returns-else-must_map
returns-else-must_map c =
    let both = second-asked c.must_map.result c.is_among.result
    (subst (λ (gs : List (Grant Shelved)). IsTrue c.must_map.result ↔ SomeOf (λ g. g.domain.now ≡ c.args.name.now) gs) c.as_slice.ensures c.must_map.ensures) c.if-must_map.false
    (subst (λ (ns : List (Bor (List ℕ))). IsTrue c.is_among.result ↔ SomeOf (λ other. other ≡ c.args.name.now) (names_shown ns)) c.as_slice-else-must_map.ensures c.is_among.ensures) in
    (λ t. (allowed-iff c.args.name.now c.args.pool.now).0 (both.0 t), λ s. both.1 ((allowed-iff c.args.name.now c.args.pool.now).1 s))
