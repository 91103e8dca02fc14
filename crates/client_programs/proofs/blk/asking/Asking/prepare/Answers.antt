use Rattle.std.proofs.Common.{◌≡◌, Some, None, Option, slice_get, sym, ap, ◌∙◌, arith}
use Rattle.std.specs.Option.{option_to_list}
use Rattle.wire_core.specs.Deeds.{Cargo}
use Rattle.buffer_kit.specs.Conserving.{weighed}
use Rattle.client_programs.proofs.BlkLemmas.Asks.{stands_prepared, found_at, no_next, hand_count}
use Rattle.client_programs.proofs.blk.asking.Asking.prepare.Goals as goal

none_was : (c : goal.Joined-self-next_request) → c.args.self.now.next ≡ None
none_was c = no_next c.args.self.now.next (sym c.is_some.ensures ∙ c.if-is_some.false)

ask_at : (c : goal.Joined-self-next_request) → slice_get c.args.self.now.script.items c.args.self.now.sent ≡ Some c.in-Some.ask.now
ask_at c = found_at c.deref.result.now c.args.self.now.script.items c.args.self.now.sent c.in-Some.ask.now c.deref.ensures.value c.in-Some.ensures.lookup.0 (c.in-Some.ensures.lookup.3.1 c.in-Some.ask.now)

pub returns-in-Some-clause-stands : goal.returns-in-Some-clause-stands
returns-in-Some-clause-stands c = λ start came put h. stands_prepared c.args.self.now start came put c.next_request.new.kept c.next_request.result c.in-Some.ask.now (none_was c) (ask_at c) c.next_request.ensures.some c.next_request.ensures.none c.next_request.ensures.shown h

pub returns-in-Some-clause-held : goal.returns-in-Some-clause-held
returns-in-Some-clause-held c = λ f.
    let was = hand_count f c.args.self.now in
    let now = hand_count f (record c.args.self.now { next = c.next_request.result; kept = c.next_request.new.kept }) in
    let none = ap (λ (o : Option Cargo). weighed f (option_to_list o)) (none_was c) in
    let more = c.next_request.ensures.held f in
    omega (arith, was, now, none, more)
