use Rattle.std.proofs.Common.{[]}
use Rattle.turn_kit.specs.Hands.{bodies_at}
use Rattle.buffer_kit.specs.Pools.{page_bodies}
use Rattle.buffer_kit.proofs.Conserving.{conserves_balances}
use Rattle.client_programs.specs.Rogue.Clients.{numbers}
use Rattle.client_programs.proofs.rogue.laws.hand_law.Goals as goal

pub returns : goal.returns
returns c r passed h = conserves_balances (page_bodies r.start.value.items) (bodies_at passed.taken (numbers r.inputs.items)) (bodies_at passed.sent (numbers r.outputs.items)) r.kept.items [] h
