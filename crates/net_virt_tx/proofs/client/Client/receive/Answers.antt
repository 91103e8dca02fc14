use Rattle.std.proofs.Common.{[], ◌∷◌, sym, ◌∙◌, subst}
use Rattle.net_virt_tx.specs.declared.client.Client.{Client}
use Rattle.net_virt_tx.specs.Clients.{Moved}
use Rattle.net_virt_tx.proofs.Counting.{idle_parts, in_turn_parts}
use Rattle.net_virt_tx.proofs.Moving.{came_good, came_bad}
use Rattle.net_virt_tx.proofs.client.Client.receive.Goals as goal

pub returns-then-is_good : goal.returns-then-is_good
returns-then-is_good c =
    let idle = idle_parts c.args.self.now.leaving c.args.self.now.bad c.requires.idle in
    let good = sym c.is_good.ensures ∙ c.if-is_good.true in
    subst (λ (n : Client). Moved c.args.self.now n (c.args.entry ∷ []) [] [] []) (sym c.accept.ensures) (came_good c.args.self.now c.requires.work c.args.entry idle.0 c.requires.kind good (in_turn_parts _ _ c.requires.turn good))

pub returns-else-is_good : goal.returns-else-is_good
returns-else-is_good c =
    let idle = idle_parts c.args.self.now.leaving c.args.self.now.bad c.requires.idle in
    came_bad c.args.self.now c.requires.work c.args.entry idle.1 c.requires.kind (sym c.is_good.ensures ∙ c.if-is_good.false) _ c.saturating_add-self.ensures
