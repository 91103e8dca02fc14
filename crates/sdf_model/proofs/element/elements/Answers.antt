use Rattle.std.proofs.Common.{◌^◌, codes}
use Rattle.toml.specs.View.{table_view}
use Rattle.sdf_model.proofs.TableCounts.{lists-fit, class-fits}
use Rattle.sdf_model.proofs.element.elements.Goals as goal

pub add_domains-requires : goal.add_domains-requires
add_domains-requires c =
    rw c.deref.ensures.value (lists-fit c.in_ok-tables_at.field-0.items (codes "protection_domain") (table_view c.args.root.now) (2 ^ 32) c.in_ok-tables_at.ensures c.requires)

pub add_channels-requires : goal.add_channels-requires
add_channels-requires c =
    rw c.deref-2.ensures.value (lists-fit c.in_ok-tables_at-2.field-0.items (codes "channel") (table_view c.args.root.now) (2 ^ 32) c.in_ok-tables_at-2.ensures c.requires)

pub add_class-requires : goal.add_class-requires
add_class-requires c = class-fits c.table_at.result (codes "net") (table_view c.args.root.now) (2 ^ 32) c.table_at.ensures c.requires

pub add_class-requires-2 : goal.add_class-requires-2
add_class-requires-2 c = class-fits c.table_at-2.result (codes "serial") (table_view c.args.root.now) (2 ^ 32) c.table_at-2.ensures c.requires

pub add_class-requires-3 : goal.add_class-requires-3
add_class-requires-3 c = class-fits c.table_at-3.result (codes "blk") (table_view c.args.root.now) (2 ^ 32) c.table_at-3.ensures c.requires
