use Rattle.std.proofs.Common.{◌∙◌, sym, arith}
use Rattle.net_virt_rx.proofs.Steps.{returned_bare}
use Rattle.net_virt_rx.proofs.sharer.Sharer.take_back.Goals as goal

pub returns-in-Some-clause-held : goal.returns-in-Some-clause-held
returns-in-Some-clause-held c pool =
    let none = returned_bare c.args.self.now c.args.client c.args.entry c.in-Some.no (sym c.returned.ensures ∙ c.in-Some.is) pool in
    let held = c.give_back.ensures.held pool in
    omega (arith, held, none)
