use Rattle.std.proofs.Common.{◌≡◌, [], Option, Some, None, is_some, true, false, refl, sym, ◌∙◌, subst}
use Rattle.std.specs.Option.{option_to_list}
use Rattle.wire_core.specs.Deeds.{put_of, Cargo}
use Rattle.net_virt_tx.specs.Clients.{Moved, first_of}
use Rattle.net_virt_tx.proofs.client.Client.give.Goals as goal

first_some : (b next : Option Cargo) → is_some b ≡ true → b ≡ first_of b next
first_some None next e = absurd cc
first_some (Some x) next e = refl

first_none : (b next : Option Cargo) → is_some b ≡ false → next ≡ first_of b next
first_none None next e = refl
first_none (Some x) next e = absurd cc

pub returns-then-is_some-clause-moved : goal.returns-then-is_some-clause-moved
returns-then-is_some-clause-moved g c = subst (λ (l : Option Cargo). Moved c.args.self.now c.give_bad.new.self [] [] [] (option_to_list (put_of c.give_bad.result l))) (first_some c.args.self.now.bad c.args.self.now.returns.next (sym c.is_some.ensures ∙ c.if-is_some.true)) c.give_bad.ensures.moved

pub returns-else-is_some-clause-moved : goal.returns-else-is_some-clause-moved
returns-else-is_some-clause-moved g c = subst (λ (l : Option Cargo). Moved c.args.self.now c.give_returned.new.self [] [] [] (option_to_list (put_of c.give_returned.result l))) (first_none c.args.self.now.bad c.args.self.now.returns.next (sym c.is_some.ensures ∙ c.if-is_some.false)) c.give_returned.ensures.moved
