use Rattle.std.proofs.Common.{◌+◌, arith}
use Rattle.turn_kit.specs.Lowests.{found}
use Rattle.i2c_virt.proofs.Loosening.{first_on, looked_on, last_on}
use Rattle.i2c_virt.proofs.virtualiser.I2cVirt.find.Goals as goal

pub loop-place-init : goal.loop-place-init
loop-place-init c =
    let a = c.len.ensures.len in
    let b = c.len-2.ensures.len in
    first_on c.args.self.now c.next-place.result (2 + c.len.result + c.len-2.result) (found c.none-lowest.result) (omega (arith, a, b)) (omega arith) c.requires.loose c.next-place.ensures.between c.none-lowest.ensures

pub loop-place-preserved : goal.loop-place-preserved
loop-place-preserved c =
    let a = c.len.ensures.len in
    let b = c.len-2.ensures.len in
    looked_on c.args.self.now c.end_at-at.result c.loop-place.loose c.unless_settled-loose.result c.loop-place.place c.next-place-in-loop-place.result (2 + c.len.result + c.len-2.result) (found c.loop-place.lowest) (found c.unless_settled-lowest.result) c.is_settled_at-settled.result c.queue_at.result.0
    (omega (arith, a, b)) (omega arith) (omega arith) c.end_at-at.ensures.place c.end_at-at.ensures.there c.next-place-in-loop-place.ensures.on c.is_settled_at-settled.ensures c.queue_at.ensures c.unless_settled-lowest.ensures c.unless_settled-loose.ensures.less c.next-place-in-loop-place.ensures.between c.loop-place.invariant

pub returns-clause-lowest : goal.returns-clause-lowest
returns-clause-lowest c =
    let a = c.len.ensures.len in
    let b = c.len-2.ensures.len in
    last_on c.args.self.now c.loop-place.place (2 + c.len.result + c.len-2.result) (found c.loop-place.lowest) (omega (arith, a, b)) (omega arith) c.loop-place.invariant.1
