use Rattle.std.proofs.Common.{None, sym, ap, ◌∙◌, arith}
use Rattle.turn_kit.specs.Turns.{chosen_place, last_after}
use Rattle.turn_kit.proofs.Unsettled.{first_chosen, last_stays, first_within}
use Rattle.pipe_driver.specs.Drivers.{pipes_round}
use Rattle.pipe_driver.proofs.Counting.{pipes_choice, pipes_count, pipes_first, post_count}
use Rattle.pipe_driver.proofs.driver.PipeDriver.choose.Goals as goal

pub pass-requires : goal.pass-requires
pass-requires g c =
    let e = pipes_count (g.P.PipeList.list c.args.self.now.pipes) c.args.self.now.turn.last c.ends.result c.begin-choice.result c.offer-choice.result c.ends.ensures.two c.begin-choice.ensures c.offer-choice.ensures in
    omega (arith, e, c.ends.ensures.some)

pub returns-in-Some-clause-place : goal.returns-in-Some-clause-place
returns-in-Some-clause-place g c = first_chosen (pipes_round (g.P.PipeList.list c.args.self.now.pipes) c.args.self.now.turn.last) c.in-Some.end (pipes_first (g.P.PipeList.list c.args.self.now.pipes) _ _ c.in-Some.end c.none.ensures c.unsettled-lowest.ensures c.in-Some.ensures)

pub returns-in-Some-clause-within : goal.returns-in-Some-clause-within
returns-in-Some-clause-within g c =
    let ps = g.P.PipeList.list c.args.self.now.pipes in
    let w = first_within (pipes_round ps c.args.self.now.turn.last) c.in-Some.end (pipes_first ps _ _ c.in-Some.end c.none.ensures c.unsettled-lowest.ensures c.in-Some.ensures) in
    let two = post_count ps in
    omega (arith, w, two)

pub returns-in-Some-clause-last : goal.returns-in-Some-clause-last
returns-in-Some-clause-last g c = last_stays (pipes_round (g.P.PipeList.list c.args.self.now.pipes) c.args.self.now.turn.last) c.in-Some.end (pipes_first (g.P.PipeList.list c.args.self.now.pipes) _ _ c.in-Some.end c.none.ensures c.unsettled-lowest.ensures c.in-Some.ensures)

pub returns-clause-place : goal.returns-clause-place
returns-clause-place g c = c.pass.ensures.place ∙ ap chosen_place (pipes_choice (g.P.PipeList.list c.args.self.now.pipes) c.args.self.now.turn.last c.ends.result c.begin-choice.result c.offer-choice.result c.ends.ensures.two c.begin-choice.ensures c.offer-choice.ensures)

pub returns-clause-within : goal.returns-clause-within
returns-clause-within g c =
    let e = pipes_count (g.P.PipeList.list c.args.self.now.pipes) c.args.self.now.turn.last c.ends.result c.begin-choice.result c.offer-choice.result c.ends.ensures.two c.begin-choice.ensures c.offer-choice.ensures in
    omega (arith, e, c.pass.ensures.within, c.ends.ensures.two)

pub returns-clause-last : goal.returns-clause-last
returns-clause-last g c = c.pass.ensures.last ∙ ap last_after (pipes_choice (g.P.PipeList.list c.args.self.now.pipes) c.args.self.now.turn.last c.ends.result c.begin-choice.result c.offer-choice.result c.ends.ensures.two c.begin-choice.ensures c.offer-choice.ensures)
