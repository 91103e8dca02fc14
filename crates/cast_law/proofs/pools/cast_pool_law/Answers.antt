use Rattle.cast_law.proofs.PoolsLemmas.Playing.{carry_call, play_lines, play_whole, play_kinds, begins_anew, all_there, pools_few}
use Rattle.cast_law.proofs.pools.cast_pool_law.Goals as goal

pub returns-clause-carries : goal.returns-clause-carries
returns-clause-carries c = carry_call

pub returns-clause-lines : goal.returns-clause-lines
returns-clause-lines c = play_lines

pub returns-clause-whole : goal.returns-clause-whole
returns-clause-whole c = play_whole

pub returns-clause-anew : goal.returns-clause-anew
returns-clause-anew c = λ rows pools place cast calm placed has seated. (begins_anew rows cast calm seated place placed has.numbered, all_there rows cast calm seated place placed has.numbered)

pub returns-clause-few : goal.returns-clause-few
returns-clause-few c = pools_few

pub returns-clause-kinds : goal.returns-clause-kinds
returns-clause-kinds c = play_kinds
