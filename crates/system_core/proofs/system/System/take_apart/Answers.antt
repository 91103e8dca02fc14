use Rattle.std.proofs.Common.{List, map, sym, ap, ◌∙◌, subst}
use Rattle.std.proofs.lemmas.Result.{IfOk-weaker}
use Rattle.wire_core.specs.declared.names.QueueRow.{QueueRow}
use Rattle.order_law.specs.ActorParts.Given.{apart_of}
use Rattle.order_law.specs.ActorParts.Opened.{AreAsOpened}
use Rattle.order_law.specs.ActorParts.Parting.{AreApart}
use Rattle.order_law.specs.ActorParts.Ready.{AreReady}
use Rattle.system_core.specs.Builds.{BeginsAnew}
use Rattle.system_core.specs.Shows.{Shown}
use Rattle.system_core.proofs.Parting.{acts_left, all_anew, are_ready, rings_fit}
use Rattle.system_core.proofs.system.System.take_apart.Goals as goal

pub open_apart-requires-clause-sized : goal.open_apart-requires-clause-sized
open_apart-requires-clause-sized c = rw c.deref.ensures.value (rings_fit c.self.inside c.self.invariant)

pub open_apart-requires-clause-peers : goal.open_apart-requires-clause-peers
open_apart-requires-clause-peers c = rw c.deref.ensures.value c.self.invariant.holds.peers

pub returns-clause-apart : goal.returns-clause-apart
returns-clause-apart c =
    let anew = subst (λ (s : Shown). BeginsAnew s.setting) (sym c.self.view_is) c.requires.anew in
    let none = ap (λ (s : Shown). s.journal) c.self.view_is ∙ c.requires.unplayed in
    let ready : AreReady c.deref.result.now c.self.inside.actors.items = rw c.deref.ensures.value (are_ready c.self.inside c.self.invariant anew none) in
    IfOk-weaker c.open_apart.result _ _ (λ p opened. subst (λ (rows : List QueueRow). AreApart rows p.rings.items (map apart_of p.actors.items)) (c.deref.ensures.value ∙ ap (λ (s : Shown). s.setting.rows) c.self.view_is) (c.opened_law.ensures.apart c.deref.result.now c.self.inside.actors.items p.rings.items p.actors.items opened ready)) c.open_apart.ensures

pub returns-clause-nothing : goal.returns-clause-nothing
returns-clause-nothing c = IfOk-weaker c.open_apart.result _ _ (λ p opened. c.opened_law.ensures.nothing c.deref.result.now c.self.inside.actors.items p.rings.items p.actors.items opened) c.open_apart.ensures

pub returns-clause-opened : goal.returns-clause-opened
returns-clause-opened c = IfOk-weaker c.open_apart.result _ _ (λ p opened. subst (λ (rows : List QueueRow). AreAsOpened rows (map apart_of p.actors.items)) (c.deref.ensures.value ∙ ap (λ (s : Shown). s.setting.rows) c.self.view_is) (c.opened_law.ensures.opened c.deref.result.now c.self.inside.actors.items p.rings.items p.actors.items opened)) c.open_apart.ensures

pub returns-clause-cast : goal.returns-clause-cast
returns-clause-cast c =
    let none = ap (λ (s : Shown). s.journal) c.self.view_is ∙ c.requires.unplayed in
    IfOk-weaker c.open_apart.result _ _ (λ p opened. c.opened_law.ensures.cast c.deref.result.now c.self.inside.actors.items p.rings.items p.actors.items opened ∙ (all_anew c.self.inside.actors.items (acts_left c.self.inside c.self.invariant none) ∙ ap (λ (s : Shown). s.setting.cast) c.self.view_is)) c.open_apart.ensures
