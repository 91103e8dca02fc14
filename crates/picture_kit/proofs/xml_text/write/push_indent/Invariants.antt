use Rattle.std.proofs.Common.{◌≡◌, ◌++◌, ◌-◌}
use Rattle.picture_kit.specs.XmlText.Spelling.{indent}
use Rattle.picture_kit.proofs.xml_text.write.push_indent.Given as goal

abbrev pub invariant-loop : goal.invariant-loop
invariant-loop l = l.to ++ indent (l.depth - l.counter) ≡ l.fn.to ++ indent l.depth
