-- The names of queues and pools, as texts.
use Rattle.std.specs.Prelude.{List, [], ◌++◌}
use Rattle.std.specs.Option.{option_map_or}
use Rattle.std.specs.Fmt.{decimal}
use Rattle.sdf_plan.specs.declared.class_table.uses.UseName.{UseName}
use Rattle.sdf_plan.specs.ClassTable.Rows.{Name}

-- the text of a name: a client's number stands between its two parts
abbrev pub text_of : UseName Name → Name
text_of name = name.first ++ (option_map_or decimal name.client [] ++ name.rest)
