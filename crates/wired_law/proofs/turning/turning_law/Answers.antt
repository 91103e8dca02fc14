use Rattle.wired_law.proofs.TurningLemmas.{beside, sender_free, sender_returns, disk_in}
use Rattle.wired_law.proofs.turning.turning_law.Goals as goal

pub returns-clause-sends : goal.returns-clause-sends
returns-clause-sends c = λ scene ends rows actors passed net whole work each k v at. sender_free scene ends rows actors passed work net whole k v at each

pub returns-clause-returns : goal.returns-clause-returns
returns-clause-returns c = λ scene ends rows actors passed net whole work k v at wild. sender_returns scene ends rows actors passed work net whole k v at wild

pub returns-clause-disk : goal.returns-clause-disk
returns-clause-disk c = λ scene ends rows actors passed place has work each k d at. disk_in scene ends rows actors passed work place has each k d at

pub returns-clause-beside : goal.returns-clause-beside
returns-clause-beside c = λ scene ends rows actors passed wired work each wild. beside scene ends rows actors passed work wired each wild
