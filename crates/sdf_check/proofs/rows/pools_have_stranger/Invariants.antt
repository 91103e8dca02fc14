use Rattle.std.proofs.Common.{ℕ, ◌<◌}
use Rattle.std.specs.List.{slice_get}
use Rattle.std.specs.Option.{IsSomeAnd}
use Rattle.sdf_plan.specs.ClassTable.Shown.{pool_shown}
use Rattle.sdf_check.specs.ClassRules.{PoolHasStranger}
use Rattle.sdf_check.proofs.rows.pools_have_stranger.Given as goal

abbrev pub invariant-loop-pool : goal.invariant-loop-pool
invariant-loop-pool l = (k : ℕ) → k < l.pool-index → IsSomeAnd (slice_get l.pools k) (λ p. PoolHasStranger l.judge.plan.now (pool_shown p)) → ⊥
