use Rattle.std.proofs.Common.{◌≡◌, ◌≤◌, ◌++◌, drop}
use Rattle.picture_kit.specs.XmlText.Spelling.{lines_text}
use Rattle.picture_kit.proofs.xml_text.write.push_lines.Given as goal

abbrev pub invariant-loop-tag : goal.invariant-loop-tag
invariant-loop-tag l = (l.to ++ lines_text l.depth (drop l.tag-index l.tags) ≡ l.fn.to ++ lines_text 0 l.tags) × (l.depth ≤ l.tag-index)
