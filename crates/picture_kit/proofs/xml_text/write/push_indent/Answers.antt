use Rattle.picture_kit.proofs.XmlText.WriteLemmas.{indent-step}
use Rattle.picture_kit.proofs.xml_text.write.push_indent.Goals as goal

pub loop-preserved : goal.loop-preserved
loop-preserved c = indent-step _ _ _ c.args.depth c.loop.counter c.loop-test.true c.in_ok-extend_from_slice.ensures.ok c.loop.invariant
