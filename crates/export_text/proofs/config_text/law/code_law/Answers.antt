use Rattle.export_text.proofs.ConfigText.CodeLemmas.{code-read, code-injective}
use Rattle.export_text.proofs.config_text.law.code_law.Goals as goal

pub returns-clause-read : goal.returns-clause-read
returns-clause-read c = code-read

pub returns-clause-injective : goal.returns-clause-injective
returns-clause-injective c = code-injective
