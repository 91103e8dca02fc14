use Rattle.std.proofs.Common.{◌≡◌, ◌++◌, take}
use Rattle.picture_kit.specs.XmlText.Spelling.{attributes_text}
use Rattle.picture_kit.proofs.xml_text.write.push_attributes.Given as goal

abbrev pub invariant-loop-attribute : goal.invariant-loop-attribute
invariant-loop-attribute l = l.to ≡ l.fn.to ++ attributes_text (take l.attribute-index l.attributes)
