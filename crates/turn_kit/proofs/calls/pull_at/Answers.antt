use Rattle.std.proofs.Common.{◌≡◌, ◌<◌, refl, sym, ap, ◌∙◌, subst, Some, slice_get}
use Rattle.std.proofs.lemmas.List.{length-map}
use Rattle.std.proofs.lemmas.Option.{slice_get_read}
use Rattle.wire_core.specs.Ends.{Consumer}
use Rattle.turn_kit.specs.Table.{Agrees}
use Rattle.turn_kit.specs.Posts.{intake_post}
use Rattle.turn_kit.proofs.Offers.{posted_at}
use Rattle.turn_kit.specs.declared.ends.Intake.{Intake}
use Rattle.turn_kit.proofs.ManyEnds.{queue_of, same_queues, all_agree}
use Rattle.turn_kit.proofs.calls.pull_at.Goals as goal

at_k : (g : _) (c : goal.After-inputs-1 g) → slice_get c.args.inputs.now.ends.items c.args.k ≡ Some c.index_mut-end.result.now
at_k g c = slice_get_read c.args.inputs.now.ends.items _ c.args.k c.index_mut-end.result.now refl (subst (λ n. c.args.k < n) (simp length-map) c.requires.there) c.index_mut-end.ensures.value

pub returns-clause-queues : goal.returns-clause-queues
returns-clause-queues g c = same_queues (λ (i : Intake). i.queue) c.args.inputs.now.ends.items c.args.k c.index_mut-end.result.now c.pull.new.input (at_k g c) c.pull.ensures.queue

pub returns-clause-on : goal.returns-clause-on
returns-clause-on g c = queue_of (λ (i : Intake). i.queue) c.args.inputs.now.ends.items c.args.k c.index_mut-end.result.now (at_k g c) ∙ ap (λ q. Some q) (sym c.pull.ensures.on)

pub returns-clause-fits : goal.returns-clause-fits
returns-clause-fits g c = record {
  agrees = all_agree Consumer (λ (i : Intake). i.queue) (λ (i : Intake). i.state) (g.W.Wires.ends c.args.wires.now) (g.W.Wires.ends c.pull.new.wires) c.args.inputs.now.ends.items c.args.k c.index_mut-end.result.now c.pull.new.input (at_k g c) c.pull.ensures.queue c.requires.fits.apart (λ r n away. c.pull.ensures.moves.others r n (λ a b. away (a ∙ c.pull.ensures.role) (b ∙ ap (λ q. q.0) c.pull.ensures.on))) c.requires.fits.agrees (subst (λ q. Agrees (g.W.Wires.ends c.pull.new.wires Consumer q.0) c.pull.new.input.state) (sym c.pull.ensures.queue) c.pull.ensures.agrees);
  apart = rw (same_queues (λ (i : Intake). i.queue) c.args.inputs.now.ends.items c.args.k c.index_mut-end.result.now c.pull.new.input (at_k g c) c.pull.ensures.queue) c.requires.fits.apart;
}

pub returns-clause-posted : goal.returns-clause-posted
returns-clause-posted g c = posted_at intake_post c.args.inputs.now.ends.items c.args.k c.index_mut-end.result.now c.pull.new.input c.args.need c.pull.new.event (at_k g c) c.pull.ensures.posted
