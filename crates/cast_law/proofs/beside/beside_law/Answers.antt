use Rattle.std.proofs.Common.{sym}
use Rattle.cast_law.proofs.BesideLemmas.Carrying.{beside_carries, call_carries, calm_asks, plain_carries}
use Rattle.cast_law.proofs.beside.beside_law.Goals as goal

pub returns-clause-starts : goal.returns-clause-starts
returns-clause-starts c = λ rows place actors m items. record { sent = λ n. sym (items.sent n); taken = λ n. sym (items.taken n); bodies = λ n calm k c at b. cc; others = λ n wild k c at b off. cc }

pub returns-clause-carries : goal.returns-clause-carries
returns-clause-carries c = λ rows place olds news passed d k m m' call was items carried. call_carries rows place olds news passed d k m m' call was items carried

pub returns-clause-plain : goal.returns-clause-plain
returns-clause-plain c = plain_carries

pub returns-clause-beside : goal.returns-clause-beside
returns-clause-beside c = beside_carries

pub returns-clause-asks : goal.returns-clause-asks
returns-clause-asks c = λ rows place cast passed calm. calm_asks rows place cast passed calm
