use Rattle.std.proofs.Common.{sym, ◌∙◌}
use Rattle.sdf_model.proofs.Trees.{pair-tables}
use Rattle.sdf_model.proofs.kind.is_pair.Goals as goal

pub returns-then-are_tables : goal.returns-then-are_tables
returns-then-are_tables c = pair-tables c.args.items.now (sym c.are_tables.ensures ∙ c.if-are_tables.true)
