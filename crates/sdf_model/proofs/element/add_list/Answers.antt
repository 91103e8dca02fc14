use Rattle.std.proofs.Common.{◌^◌}
use Rattle.toml.specs.View.{table_view}
use Rattle.sdf_model.proofs.TableCounts.{list-fits}
use Rattle.sdf_model.proofs.element.add_list.Goals as goal

pub add_parts-requires : goal.add_parts-requires
add_parts-requires c =
    rw c.deref.ensures.value (list-fits c.in_ok-tables_at.field-0.items c.args.key.now (table_view c.args.table.now) (2 ^ 32) c.in_ok-tables_at.ensures c.requires)
