use Rattle.order_law.proofs.ActorParts.Apart.{are_apart, have_nothing, as_opened, same_cast}
use Rattle.order_law.proofs.actor_parts.laws.opened_law.Goals as goal

pub returns-clause-apart : goal.returns-clause-apart
returns-clause-apart c = λ rows actors rings parts opened ready. are_apart rows actors rings parts opened ready

pub returns-clause-nothing : goal.returns-clause-nothing
returns-clause-nothing c = λ rows actors rings parts opened. have_nothing rows actors rings parts opened

pub returns-clause-opened : goal.returns-clause-opened
returns-clause-opened c = λ rows actors rings parts opened. as_opened rows actors rings parts opened

pub returns-clause-cast : goal.returns-clause-cast
returns-clause-cast c = λ rows actors rings parts opened. same_cast rows actors rings parts opened
