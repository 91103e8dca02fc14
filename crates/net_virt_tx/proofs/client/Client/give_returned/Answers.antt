use Rattle.std.proofs.Common.{◌<◌, ◌++◌, [], ◌∷◌, Option, false, slice_set, length, sym, ap, ◌∙◌, subst}
use Rattle.std.specs.Option.{option_to_list}
use Rattle.wire_core.specs.Deeds.{put_of, Cargo}
use Rattle.net_virt_tx.specs.Clients.{Moved}
use Rattle.net_virt_tx.proofs.Moving.{gave_back, y_kind, o_inside, stayed, load_went, load_stays, is_nothing, is_something, the_load}
use Rattle.net_virt_tx.proofs.client.Client.give_returned.Goals as goal

pub step_to_client-event-requires-clause-kind : goal.step_to_client-event-requires-clause-kind
step_to_client-event-requires-clause-kind g c x is = y_kind c.args.self.now c.requires.work x is

pub set-requires : goal.set-requires
set-requires g c =
    let y = the_load c.args.self.now.returns.next c.requires.some in
    subst (λ n. n < length c.args.self.now.inside) (sym (c.returned_number-number.ensures y.0 y.1)) (o_inside c.args.self.now c.requires.work y.0 y.1)

pub returns-then-is_none-clause-moved : goal.returns-then-is_none-clause-moved
returns-then-is_none-clause-moved g c =
    let y = the_load c.args.self.now.returns.next c.requires.some in
    let gone = is_nothing c.step_to_client-event.new.load c.is_none.result c.is_none.ensures c.if-is_none.true in
    let list = load_went c.args.self.now.returns.next (put_of c.step_to_client-event.result c.args.self.now.returns.next) c.step_to_client-event.new.load y.0 c.step_to_client-event.ensures.load gone y.1 in
    let rest = c.refill.ensures.list ∙ ap (λ (o : Option Cargo). option_to_list o ++ c.args.self.now.returns.later.shown) gone in
    let marks = c.set.ensures ∙ ap (λ n. slice_set c.args.self.now.inside n false) (c.returned_number-number.ensures y.0 y.1) in
    subst (λ l. Moved c.args.self.now (record c.args.self.now { returns = c.refill.new.self; inside = c.set.new.self }) [] [] [] l) (sym list)
    (subst (λ a. Moved c.args.self.now (record c.args.self.now { returns = c.refill.new.self; inside = a }) [] [] [] (y.0 ∷ [])) (sym marks)
    (gave_back c.args.self.now c.requires.work y.0 y.1 c.refill.new.self c.refill.ensures.ready rest c.refill.ensures.places))

pub returns-else-is_none-clause-moved : goal.returns-else-is_none-clause-moved
returns-else-is_none-clause-moved g c =
    let some = is_something c.step_to_client-event.new.load c.is_none.result c.is_none.ensures c.if-is_none.false in
    let s = load_stays c.args.self.now.returns.next (put_of c.step_to_client-event.result c.args.self.now.returns.next) c.step_to_client-event.new.load c.step_to_client-event.ensures.load some in
    subst (λ l. Moved c.args.self.now (record c.args.self.now { returns = record c.args.self.now.returns { next = c.step_to_client-event.new.load } }) [] [] [] l) (sym s.1)
    (subst (λ (o : Option Cargo). Moved c.args.self.now (record c.args.self.now { returns = record c.args.self.now.returns { next = o } }) [] [] [] []) (sym s.0) (stayed c.args.self.now c.requires.work))
