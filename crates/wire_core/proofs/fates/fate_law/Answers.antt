use Rattle.wire_core.proofs.Fating.{fate_more, few_dropped, none_dropped}
use Rattle.wire_core.proofs.Reasons.{why_dropped, fate_others, fate_own}
use Rattle.wire_core.proofs.fates.fate_law.Goals as goal

pub returns-clause-more : goal.returns-clause-more
returns-clause-more c = λ word calls e. fate_more word calls e

pub returns-clause-few : goal.returns-clause-few
returns-clause-few c = λ word r n vain calls. few_dropped word r n vain calls

pub returns-clause-none : goal.returns-clause-none
returns-clause-none c = λ word never calls. none_dropped word never calls

pub returns-clause-why : goal.returns-clause-why
returns-clause-why c = why_dropped

pub returns-clause-others : goal.returns-clause-others
returns-clause-others c = λ word calls more other. fate_others word calls more other

pub returns-clause-own : goal.returns-clause-own
returns-clause-own c = λ word own silent same calls. fate_own word own silent same calls
