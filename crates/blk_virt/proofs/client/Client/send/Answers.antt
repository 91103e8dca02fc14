use Rattle.std.proofs.Common.{◌≡◌, ◌⊎◌, ◌∷◌, ◌++◌, [], Some, None, Option, sym, ap, ◌∙◌, subst}
use Rattle.std.specs.Option.{option_map, option_to_list}
use Rattle.wire_core.specs.Deeds.{Cargo, put_of}
use Rattle.blk_virt.specs.declared.client.Client.{Client}
use Rattle.blk_virt.specs.Requests.{numbered}
use Rattle.blk_virt.specs.Clients.{Moved, WentOff, leaving_as, is_away}
use Rattle.blk_virt.proofs.Moving.{send_moved, send_went, send_stays, put_cases, there_is}
use Rattle.blk_virt.proofs.client.Client.send.Given as given
use Rattle.blk_virt.proofs.client.Client.send.Goals as goal

leaves : (g : given.Over) (c : goal.After-step_output g) → (l : Cargo) × (c.args.self.now.leaving ≡ Some l)
leaves g c = there_is c.args.self.now.leaving c.requires.some

load : (g : given.Over) (c : goal.After-step_output g) → option_to_list (leaving_as c.args.number c.args.self.now) ≡ option_to_list (put_of c.step_output.result (leaving_as c.args.number c.args.self.now)) ++ option_to_list c.step_output.new.load
load g c = subst (λ (o : Option Cargo). option_to_list o ≡ option_to_list (put_of c.step_output.result o) ++ option_to_list c.step_output.new.load) (ap (λ (v : Client). v.leaving) c.number.ensures) c.step_output.ensures.load

cases : (g : given.Over) (c : goal.After-step_output g) → ((c.step_output.new.load ≡ None) × (option_to_list (put_of c.step_output.result (leaving_as c.args.number c.args.self.now)) ≡ numbered c.args.number (leaves g c).0 ∷ []))
    ⊎ ((c.step_output.new.load ≡ Some (numbered c.args.number (leaves g c).0)) × (option_to_list (put_of c.step_output.result (leaving_as c.args.number c.args.self.now)) ≡ []))
cases g c = put_cases (leaving_as c.args.number c.args.self.now) (put_of c.step_output.result (leaving_as c.args.number c.args.self.now)) c.step_output.new.load (numbered c.args.number (leaves g c).0) (ap (option_map (numbered c.args.number)) (leaves g c).1) (load g c)

pub returns-clause-moved : goal.returns-clause-moved
returns-clause-moved g c = λ part.
    subst (λ (v : Client). Moved part c.args.self.now (record v { leaving = c.step_output.new.load }) [] (option_to_list (put_of c.step_output.result (leaving_as c.args.number c.args.self.now))) [] []) (sym c.number.ensures)
    (send_moved c.args.self.now c.requires.work (leaves g c).0 (leaves g c).1 c.args.number part c.step_output.new.load (put_of c.step_output.result (leaving_as c.args.number c.args.self.now)) (cases g c))

pub returns-clause-went : goal.returns-clause-went
returns-clause-went g c = λ none.
    subst (λ (v : Client). WentOff c.args.self.now (record v { leaving = c.step_output.new.load }) c.args.number (option_to_list (put_of c.step_output.result (leaving_as c.args.number c.args.self.now)))) (sym c.number.ensures)
    (send_went c.args.self.now c.requires.work (leaves g c).0 (leaves g c).1 c.args.number c.step_output.new.load (put_of c.step_output.result (leaving_as c.args.number c.args.self.now)) none (cases g c))

pub returns-clause-stays : goal.returns-clause-stays
returns-clause-stays g c = λ some.
    let h = send_stays c.args.self.now c.requires.work (leaves g c).0 (leaves g c).1 c.args.number c.step_output.new.load (put_of c.step_output.result (leaving_as c.args.number c.args.self.now)) some (cases g c) in
    (ap (λ (v : Client). is_away (record v { leaving = c.step_output.new.load })) c.number.ensures ∙ h.0, h.1)
