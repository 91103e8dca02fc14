use Rattle.net_quiet.proofs.Wholes.{cast_record, cast_wire}
use Rattle.net_quiet.proofs.whole_law.Goals as goal

pub returns-clause-records : goal.returns-clause-records
returns-clause-records c = cast_record

pub returns-clause-wire : goal.returns-clause-wire
returns-clause-wire c = λ wild hostile history rows actors journal scene frames net passed still w items whole. cast_wire hostile history rows actors journal scene frames net passed still w items whole wild
