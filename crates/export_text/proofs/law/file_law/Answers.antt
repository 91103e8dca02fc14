use Rattle.export_text.proofs.FileLemmas.{file-read}
use Rattle.export_text.proofs.law.file_law.Goals as goal

pub returns : goal.returns
returns c = file-read c.xml_law.ensures
