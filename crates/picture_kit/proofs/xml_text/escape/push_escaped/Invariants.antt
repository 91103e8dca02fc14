use Rattle.std.proofs.Common.{◌≡◌, ◌++◌, take}
use Rattle.picture_kit.specs.XmlText.Spelling.{escaped}
use Rattle.picture_kit.proofs.xml_text.escape.push_escaped.Given as goal

abbrev pub invariant-loop-byte : goal.invariant-loop-byte
invariant-loop-byte l = l.to ≡ l.fn.to ++ escaped (take l.byte-index l.text)
