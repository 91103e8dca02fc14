use Rattle.wired_law.proofs.page_law.actors.block_law.Goals as goal

pub returns-clause-server : goal.returns-clause-server
returns-clause-server c = λ v passed h. h.conserves

pub returns-clause-client : goal.returns-clause-client
returns-clause-client c = λ v passed h. h.conserves
