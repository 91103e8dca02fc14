use Rattle.std.proofs.Common.{◌≡◌, ◌≤◌, ℕ, List, length, map, sym, ap, subst, ◌∙◌}
use Rattle.wire_core.specs.declared.names.QueueRow.{QueueRow}
use Rattle.order_law.specs.ActorParts.Given.{apart_of}
use Rattle.order_law.specs.ActorParts.Parting.{AreApart}
use Rattle.system_core.proofs.Built.{layout_queues}
use Rattle.system_core.proofs.Together.{ended}
use Rattle.sddf_top.proofs.SystemRun.Running.{come, first_moment, is_ran}
use Rattle.sddf_top.proofs.system_run.ran.Goals as goal

pub take_apart-requires-clause-anew : goal.take_apart-requires-clause-anew
take_apart-requires-clause-anew g c = c.in_ok-system.ensures.built.begins

pub take_apart-requires-clause-unplayed : goal.take_apart-requires-clause-unplayed
take_apart-requires-clause-unplayed g c = c.in_ok-system.ensures.built.journal

pub run_threads-requires-clause-apart : goal.run_threads-requires-clause-apart
run_threads-requires-clause-apart g c κs within = subst (λ (rs : List QueueRow). AreApart rs c.in_ok-parts.parts.rings.items (map apart_of c.in_ok-parts.parts.actors.items)) (sym (layout_queues c.args.plan.now c.args.layout.now c.requires.layout ∙ sym c.in_ok-system.ensures.built.cast.rows)) c.in_ok-parts.ensures.apart

pub run_threads-requires-clause-few : goal.run_threads-requires-clause-few
run_threads-requires-clause-few g c κs within = subst (λ (rs : List QueueRow). length rs ≤ 65536) (sym (layout_queues c.args.plan.now c.args.layout.now c.requires.layout ∙ sym c.in_ok-system.ensures.built.cast.rows)) c.in_ok-system.ensures.stands.fitted.numbered

pub adopt-requires-clause-came : goal.adopt-requires-clause-came
adopt-requires-clause-came g c = (c.args.trace.now, c.in_ok-system.system.setting, c.in_ok-system.ensures.built.cast, come c.args.plan.now c.args.trace.now c.in_ok-system.system c.in_ok-system.ensures.built c.in_ok-system.ensures.stands c.in_ok-parts.parts.rings.items c.in_ok-parts-2.parts.rings.items c.in_ok-parts-2.ensures.rings c.in_ok-parts.parts.actors.items c.in_ok-parts-2.parts.actors.items c.in_ok-parts.ensures.apart c.in_ok-parts.ensures.nothing c.in_ok-parts.ensures.opened c.in_ok-parts.ensures.cast c.in_ok-parts-2.ensures.many c.args.layout.now.queues (layout_queues c.args.plan.now c.args.layout.now c.requires.layout ∙ sym c.in_ok-system.ensures.built.cast.rows) c.in_ok-parts-2.ensures.apart c.args.limit c.in_ok-parts-2.ensures.came)

pub returns-clause-ran : goal.returns-clause-ran
returns-clause-ran g c =
    let came = come c.args.plan.now c.args.trace.now c.in_ok-system.system c.in_ok-system.ensures.built c.in_ok-system.ensures.stands c.in_ok-parts.parts.rings.items c.in_ok-parts-2.parts.rings.items c.in_ok-parts-2.ensures.rings c.in_ok-parts.parts.actors.items c.in_ok-parts-2.parts.actors.items c.in_ok-parts.ensures.apart c.in_ok-parts.ensures.nothing c.in_ok-parts.ensures.opened c.in_ok-parts.ensures.cast c.in_ok-parts-2.ensures.many c.args.layout.now.queues (layout_queues c.args.plan.now c.args.layout.now c.requires.layout ∙ sym c.in_ok-system.ensures.built.cast.rows) c.in_ok-parts-2.ensures.apart c.args.limit c.in_ok-parts-2.ensures.came in
    let adopted = c.in_ok-system-2.ensures.adopted c.args.trace.now c.in_ok-system.system.setting c.in_ok-system.ensures.built.cast came in
    is_ran c.args.plan.now c.args.trace.now c.args.limit c.in_ok-system.system.setting (map apart_of c.in_ok-parts-2.parts.actors.items) c.in_ok-system-2.system c.play.new.self c.in_ok-system-2.ensures.stands adopted
    (first_moment c.args.plan.now c.args.trace.now c.in_ok-system.system c.in_ok-system.ensures.built c.in_ok-system.ensures.stands c.in_ok-parts.parts.rings.items c.in_ok-parts-2.parts.rings.items c.in_ok-parts-2.ensures.rings c.in_ok-parts.parts.actors.items c.in_ok-parts-2.parts.actors.items c.in_ok-parts.ensures.apart c.in_ok-parts.ensures.nothing c.in_ok-parts.ensures.opened c.in_ok-parts.ensures.cast c.in_ok-parts-2.ensures.many c.args.layout.now.queues (layout_queues c.args.plan.now c.args.layout.now c.requires.layout ∙ sym c.in_ok-system.ensures.built.cast.rows) c.in_ok-parts-2.ensures.apart c.args.limit c.in_ok-parts-2.ensures.came c.in_ok-system-2.system adopted c.in_ok-parts-2.ensures.ends)
    c.in_ok-ending.ensures.played
    (c.in_ok-ending.ensures.system c.args.plan.now c.args.trace.now c.requires.valid c.requires.trace (c.in_ok-system-2.ensures.system c.args.trace.now c.in_ok-system.system.setting c.requires.trace c.in_ok-system.ensures.built.cast came))

pub returns-clause-ended : goal.returns-clause-ended
returns-clause-ended g c =
    let came = come c.args.plan.now c.args.trace.now c.in_ok-system.system c.in_ok-system.ensures.built c.in_ok-system.ensures.stands c.in_ok-parts.parts.rings.items c.in_ok-parts-2.parts.rings.items c.in_ok-parts-2.ensures.rings c.in_ok-parts.parts.actors.items c.in_ok-parts-2.parts.actors.items c.in_ok-parts.ensures.apart c.in_ok-parts.ensures.nothing c.in_ok-parts.ensures.opened c.in_ok-parts.ensures.cast c.in_ok-parts-2.ensures.many c.args.layout.now.queues (layout_queues c.args.plan.now c.args.layout.now c.requires.layout ∙ sym c.in_ok-system.ensures.built.cast.rows) c.in_ok-parts-2.ensures.apart c.args.limit c.in_ok-parts-2.ensures.came in
    let adopted = c.in_ok-system-2.ensures.adopted c.args.trace.now c.in_ok-system.system.setting c.in_ok-system.ensures.built.cast came in
    ended c.args.limit c.in_ok-system-2.system c.play.new.self c.in_ok-ending.ending adopted.journal c.in_ok-ending.ensures.quiet c.in_ok-ending.ensures.spent
