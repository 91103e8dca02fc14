use Rattle.picture_kit.proofs.XmlText.ReadLemmas.{read-written}
use Rattle.picture_kit.proofs.xml_text.law.xml_law.Goals as goal

pub returns : goal.returns
returns c = read-written
