use Rattle.std.proofs.Common.{ap, ◌∙◌, arith}
use Rattle.turn_kit.specs.Turns.{chosen_place, last_after}
use Rattle.turn_kit.proofs.Unsettled.{first_chosen, last_stays, first_within}
use Rattle.pipe_driver.proofs.Counting.{pipes_choice, pipes_count, pipes_first}
use Rattle.i2c_virt.specs.Drivers.{pipes_of, driver_round}
use Rattle.i2c_virt.proofs.driver.BusDriver.choose.Goals as goal

pub pass-requires : goal.pass-requires
pass-requires c =
    let e = pipes_count (pipes_of c.args.self.now) c.args.self.now.driver.turn.last c.ends.result c.begin-choice.result c.offer-choice.result c.ends.ensures.two c.begin-choice.ensures c.offer-choice.ensures in
    omega (arith, e, c.ends.ensures.some)

pub returns-in-Some-clause-place : goal.returns-in-Some-clause-place
returns-in-Some-clause-place c = first_chosen (driver_round c.args.self.now) c.in-Some.end (pipes_first (pipes_of c.args.self.now) _ _ c.in-Some.end c.none.ensures c.unsettled-lowest.ensures c.in-Some.ensures)

pub returns-in-Some-clause-within : goal.returns-in-Some-clause-within
returns-in-Some-clause-within c = first_within (driver_round c.args.self.now) c.in-Some.end (pipes_first (pipes_of c.args.self.now) _ _ c.in-Some.end c.none.ensures c.unsettled-lowest.ensures c.in-Some.ensures)

pub returns-in-Some-clause-last : goal.returns-in-Some-clause-last
returns-in-Some-clause-last c = last_stays (driver_round c.args.self.now) c.in-Some.end (pipes_first (pipes_of c.args.self.now) _ _ c.in-Some.end c.none.ensures c.unsettled-lowest.ensures c.in-Some.ensures)

pub returns-clause-place : goal.returns-clause-place
returns-clause-place c = c.pass.ensures.place ∙ ap chosen_place (pipes_choice (pipes_of c.args.self.now) c.args.self.now.driver.turn.last c.ends.result c.begin-choice.result c.offer-choice.result c.ends.ensures.two c.begin-choice.ensures c.offer-choice.ensures)

pub returns-clause-within : goal.returns-clause-within
returns-clause-within c =
    let e = pipes_count (pipes_of c.args.self.now) c.args.self.now.driver.turn.last c.ends.result c.begin-choice.result c.offer-choice.result c.ends.ensures.two c.begin-choice.ensures c.offer-choice.ensures in
    omega (arith, e, c.pass.ensures.within, c.ends.ensures.two)

pub returns-clause-last : goal.returns-clause-last
returns-clause-last c = c.pass.ensures.last ∙ ap last_after (pipes_choice (pipes_of c.args.self.now) c.args.self.now.driver.turn.last c.ends.result c.begin-choice.result c.offer-choice.result c.ends.ensures.two c.begin-choice.ensures c.offer-choice.ensures)
