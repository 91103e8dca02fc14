use Rattle.std.proofs.Common.{[], ◌∷◌, Option, None, sym, subst}
use Rattle.wire_core.specs.Deeds.{put_of, Cargo}
use Rattle.net_virt_tx.specs.Clients.{Moved}
use Rattle.net_virt_tx.proofs.Moving.{went, stayed, load_went, load_stays, is_nothing, is_something, the_load}
use Rattle.net_virt_tx.proofs.client.Client.send.Goals as goal

pub returns-then-is_none-clause-moved : goal.returns-then-is_none-clause-moved
returns-then-is_none-clause-moved g c =
    let u = the_load c.args.self.now.leaving c.requires.some in
    let gone = is_nothing c.step_output-event.new.load c.is_none.result c.is_none.ensures c.if-is_none.true in
    let list = load_went c.args.self.now.leaving (put_of c.step_output-event.result c.args.self.now.leaving) c.step_output-event.new.load u.0 c.step_output-event.ensures.load gone u.1 in
    subst (λ l. Moved c.args.self.now (record c.args.self.now { leaving = c.step_output-event.new.load; away = c.set.new.self }) [] l [] []) (sym list)
    (subst (λ (o : Option Cargo). Moved c.args.self.now (record c.args.self.now { leaving = o; away = c.set.new.self }) [] (u.0 ∷ []) [] []) (sym gone)
    (subst (λ a. Moved c.args.self.now (record c.args.self.now { leaving = None; away = a }) [] (u.0 ∷ []) [] []) (sym c.set.ensures) (went c.args.self.now c.requires.work u.0 u.1)))

pub returns-else-is_none-clause-moved : goal.returns-else-is_none-clause-moved
returns-else-is_none-clause-moved g c =
    let some = is_something c.step_output-event.new.load c.is_none.result c.is_none.ensures c.if-is_none.false in
    let s = load_stays c.args.self.now.leaving (put_of c.step_output-event.result c.args.self.now.leaving) c.step_output-event.new.load c.step_output-event.ensures.load some in
    subst (λ l. Moved c.args.self.now (record c.args.self.now { leaving = c.step_output-event.new.load }) [] l [] []) (sym s.1)
    (subst (λ (o : Option Cargo). Moved c.args.self.now (record c.args.self.now { leaving = o }) [] [] [] []) (sym s.0) (stayed c.args.self.now c.requires.work))
