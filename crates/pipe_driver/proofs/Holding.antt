use Rattle.std.proofs.Common.{◌≡◌, ◌+◌, List, [], ◌∷◌, option_to_list, refl, sym, ap, ◌∙◌, arith}
use Rattle.cargo_core.specs.Bodies.{buffers_of}
use Rattle.wire_core.specs.Lists.{Passed}
use Rattle.turn_kit.specs.Hands.{bodies_of}
use Rattle.turn_kit.proofs.Holding.{buffers-append, cargo-append, at_more}
use Rattle.turn_kit.specs.declared.pipe.Pipe.{Pipe}
use Rattle.pipe_driver.specs.Drivers.{PipesStandFor, PipesRow, PipesBalance, inputs_of, outputs_of, pipes_hand}

-- what each pipe put is a beginning of what it took
pub row_of : (ps : List Pipe) (passed : Passed) → PipesStandFor ps passed → PipesRow ps passed
row_of [] passed h = tt
row_of (p ∷ ps) passed h = ((option_to_list p.load, sym h.0), row_of ps passed h.1)

-- what came is what went and what is loaded
pub balance_of : (ps : List Pipe) (passed : Passed) → PipesStandFor ps passed → PipesBalance ps passed
balance_of [] passed h pool = refl
balance_of (p ∷ ps) passed h pool =
    let rest = balance_of ps passed h.1 pool in
    let came = at_more pool passed.taken p.input.queue.0 (inputs_of ps) in
    let went = at_more pool passed.sent p.output.queue.0 (outputs_of ps) in
    let hand = buffers-append pool (bodies_of (option_to_list p.load)) (pipes_hand ps) in
    let here : buffers_of pool (bodies_of (passed.taken p.input.queue.0)) ≡ buffers_of pool (bodies_of (passed.sent p.output.queue.0)) + buffers_of pool (bodies_of (option_to_list p.load)) = ap (λ cs. buffers_of pool (bodies_of cs)) h.0 ∙ cargo-append pool (passed.sent p.output.queue.0) (option_to_list p.load) in
    omega (arith, rest, came, went, hand, here)
