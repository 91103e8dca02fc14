use Rattle.std.proofs.Common.{◌≡◌, sym, subst}
use Rattle.net_copier.specs.Copying.{IsNewCopier}
use Rattle.actor_rows.specs.Standings.{queue}
use Rattle.actor_rows.proofs.Sizing.{new_copier}
use Rattle.actor_rows.proofs.drops.copying.Goals as goal

pub returns : goal.returns
returns c =
    let new = c.new-copier.ensures.new in
    new_copier c.in_ok-wires.wires c.in_ok-wires.ensures c.new-copier.result
    (subst (λ d. IsNewCopier (queue 0) (queue 1) (queue 3) (queue 2) d c.new-copier.result) (sym new.drop) new)
    c.new-copier.ensures.stands
