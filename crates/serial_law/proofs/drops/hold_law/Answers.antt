use Rattle.serial_law.proofs.Keeping.{shares_hold, hold_shares, due_whole, part_holds, whole_holds, beside_holds}
use Rattle.serial_law.proofs.drops.hold_law.Goals as goal

pub returns-clause-holds : goal.returns-clause-holds
returns-clause-holds c = shares_hold

pub returns-clause-held : goal.returns-clause-held
returns-clause-held c = hold_shares

pub returns-clause-due : goal.returns-clause-due
returns-clause-due c = due_whole

pub returns-clause-part : goal.returns-clause-part
returns-clause-part c = λ class marks m all out. part_holds class marks m all out

pub returns-clause-whole : goal.returns-clause-whole
returns-clause-whole c = λ class marks m all out. whole_holds class marks m all out

pub returns-clause-beside : goal.returns-clause-beside
returns-clause-beside c = λ rogues class marks m all out. beside_holds class marks m all out rogues
