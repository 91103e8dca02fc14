use Rattle.std.proofs.Common.{◌≡◌, ◌++◌, map, drop}
use Rattle.toml.specs.View.{table_view}
use Rattle.sdf_model.proofs.field.read_parts.Given as goal

abbrev pub invariant-loop-table : goal.invariant-loop-table
invariant-loop-table g l =
    l.parts.items ++ map g.T.Part.spelled (map (λ t. table_view t.now) (drop l.table-index l.tables)) ≡ map g.T.Part.spelled (map (λ t. table_view t.now) l.tables)
