use Rattle.std.proofs.Common.{Result, Ok, Err, IfOk}
use Rattle.bus_law.proofs.I2cActors.Making.{are_made}
use Rattle.bus_law.proofs.I2cActors.Beginning.{members_begin}
use Rattle.bus_law.proofs.i2c_actors.cast.bus_members.Goals as goal

-- what holds of a result that is good
good : {V E : Type 0} (P Q : V → Type 0) → ((v : V) → P v → Q v) → (r : Result V E) → IfOk r P → IfOk r Q
good P Q f (Ok v) h = f v h
good P Q f (Err e) h = tt

pub returns-clause-made : goal.returns-clause-made
returns-clause-made c = good _ _ (λ ms n. are_made c.args.bus.now ms.items n) c.members.result c.members.ensures

pub returns-clause-begins : goal.returns-clause-begins
returns-clause-begins c = λ rows are. good _ _ (λ ms n. members_begin c.args.bus.now ms.items n rows are c.requires.few) c.members.result c.members.ensures
