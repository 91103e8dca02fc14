use Rattle.std.proofs.Common.{◌≡◌, ◌<◌, refl, sym, ap, ◌∙◌, subst, Some, slice_get, is_some}
use Rattle.std.proofs.lemmas.List.{length-map}
use Rattle.std.proofs.lemmas.Option.{slice_get_read}
use Rattle.wire_core.specs.Ends.{Producer}
use Rattle.turn_kit.specs.Table.{Agrees}
use Rattle.turn_kit.specs.Posts.{outlet_post}
use Rattle.turn_kit.proofs.Offers.{posted_at}
use Rattle.turn_kit.specs.declared.ends.Outlet.{Outlet}
use Rattle.turn_kit.proofs.ManyEnds.{queue_of, same_queues, all_agree}
use Rattle.turn_kit.proofs.calls.push_at.Goals as goal

at_k : (g : _) (c : goal.After-outputs-1 g) → slice_get c.args.outputs.now.ends.items c.args.k ≡ Some c.index_mut-end.result.now
at_k g c = slice_get_read c.args.outputs.now.ends.items _ c.args.k c.index_mut-end.result.now refl (subst (λ n. c.args.k < n) (simp length-map) c.requires.there) c.index_mut-end.ensures.value

pub returns-clause-queues : goal.returns-clause-queues
returns-clause-queues g c = same_queues (λ (i : Outlet). i.queue) c.args.outputs.now.ends.items c.args.k c.index_mut-end.result.now c.push.new.output (at_k g c) c.push.ensures.queue

pub returns-clause-on : goal.returns-clause-on
returns-clause-on g c = queue_of (λ (i : Outlet). i.queue) c.args.outputs.now.ends.items c.args.k c.index_mut-end.result.now (at_k g c) ∙ ap (λ q. Some q) (sym c.push.ensures.on)

pub returns-clause-fits : goal.returns-clause-fits
returns-clause-fits g c = record {
  agrees = all_agree Producer (λ (i : Outlet). i.queue) (λ (i : Outlet). i.state) (g.W.Wires.ends c.args.wires.now) (g.W.Wires.ends c.push.new.wires) c.args.outputs.now.ends.items c.args.k c.index_mut-end.result.now c.push.new.output (at_k g c) c.push.ensures.queue c.requires.fits.apart (λ r n away. c.push.ensures.moves.others r n (λ a b. away (a ∙ c.push.ensures.role) (b ∙ ap (λ q. q.0) c.push.ensures.on))) c.requires.fits.agrees (subst (λ q. Agrees (g.W.Wires.ends c.push.new.wires Producer q.0) c.push.new.output.state) (sym c.push.ensures.queue) c.push.ensures.agrees);
  apart = rw (same_queues (λ (i : Outlet). i.queue) c.args.outputs.now.ends.items c.args.k c.index_mut-end.result.now c.push.new.output (at_k g c) c.push.ensures.queue) c.requires.fits.apart;
}

pub returns-clause-posted : goal.returns-clause-posted
returns-clause-posted g c = posted_at outlet_post c.args.outputs.now.ends.items c.args.k c.index_mut-end.result.now c.push.new.output (is_some c.args.load.now) c.push.new.event (at_k g c) c.push.ensures.posted
