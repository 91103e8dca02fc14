use Rattle.std.proofs.Common.{◌∙◌}
use Rattle.toml.specs.View.{table_view}
use Rattle.sdf_model.specs.Keys.{breaks_with, is_lacking, is_misfit}
use Rattle.sdf_model.proofs.Rows.{also-rows, unknown-rows}
use Rattle.sdf_model.proofs.rules.breaks_with.Goals as goal

pub returns-in-2 : goal.returns-in-2
unfolding breaks_with
returns-in-2 c = rw c.in-2.is (c.has_unknown_key.ensures ∙ unknown-rows c.args.keys.now c.args.more.now c.args.table.now.entries)

pub returns-in-3 : goal.returns-in-3
unfolding breaks_with
returns-in-3 c = rw c.in-3.is (c.lacks_key.ensures ∙ also-rows (is_lacking (table_view c.args.table.now)) c.args.keys.now c.args.more.now)

pub returns-in-4 : goal.returns-in-4
unfolding breaks_with
returns-in-4 c = rw c.in-4.is (c.has_misfit.ensures ∙ also-rows (is_misfit (table_view c.args.table.now)) c.args.keys.now c.args.more.now)
