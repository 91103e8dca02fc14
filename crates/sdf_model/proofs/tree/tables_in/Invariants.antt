use Rattle.std.proofs.Common.{map}
use Rattle.toml.specs.View.{table_view}
use Rattle.sdf_model.proofs.Trees.{Gathers}
use Rattle.sdf_model.proofs.tree.tables_in.Given as goal

abbrev pub invariant-loop-item : goal.invariant-loop-item
invariant-loop-item l = Gathers l.items l.item-index (map (λ t. table_view t.now) l.tables.items)
