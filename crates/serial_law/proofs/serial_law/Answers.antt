use Rattle.serial_law.proofs.Arrivals.{arrives_in_part, arrives_beside, said_calm}
use Rattle.serial_law.proofs.Wholes.{arrives_whole}
use Rattle.serial_law.proofs.serial_law.Goals as goal

pub returns-clause-part : goal.returns-clause-part
returns-clause-part c = arrives_in_part

pub returns-clause-whole : goal.returns-clause-whole
returns-clause-whole c = arrives_whole

pub returns-clause-beside : goal.returns-clause-beside
returns-clause-beside c = arrives_beside

pub returns-clause-all_say : goal.returns-clause-all_say
returns-clause-all_say c rogues class m calm many = said_calm rogues m calm 0 class.client_tx class.scripts many
