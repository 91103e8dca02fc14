use Rattle.std.proofs.Common.{◌≡◌, ◌<◌, refl, sym, ap, ◌∙◌, subst, Some, map, slice_get, is_some}
use Rattle.std.proofs.lemmas.List.{length-map}
use Rattle.std.proofs.lemmas.Option.{slice_get_read}
use Rattle.wire_core.specs.Ends.{Producer}
use Rattle.turn_kit.specs.Table.{Agrees}
use Rattle.turn_kit.specs.Posts.{outlet_post}
use Rattle.turn_kit.specs.Turns.{is_mark_at}
use Rattle.turn_kit.proofs.Offers.{get_map}
use Rattle.turn_kit.proofs.Dropped.{posted_drops, drops_get, some_same}
use Rattle.turn_kit.specs.declared.ends.Outlet.{Outlet}
use Rattle.turn_kit.proofs.ManyEnds.{queue_of, same_queues, all_agree}
use Rattle.turn_kit.proofs.drops.put_or_drop_at.Goals as goal

at_k : (g : _) (c : goal.After-ends-1 g) → slice_get c.args.ends.now.ends.items c.args.k ≡ Some c.index_mut-end.result.now
at_k g c = slice_get_read c.args.ends.now.ends.items _ c.args.k c.index_mut-end.result.now refl (subst (λ n. c.args.k < n) (simp length-map) c.requires.there) c.index_mut-end.ensures.value

pub returns-clause-queues : goal.returns-clause-queues
returns-clause-queues g c = same_queues (λ (i : Outlet). i.queue) c.args.ends.now.ends.items c.args.k c.index_mut-end.result.now c.put_or_drop.new.end (at_k g c) c.put_or_drop.ensures.queue

pub returns-clause-on : goal.returns-clause-on
returns-clause-on g c = queue_of (λ (i : Outlet). i.queue) c.args.ends.now.ends.items c.args.k c.index_mut-end.result.now (at_k g c) ∙ ap (λ q. Some q) (sym c.put_or_drop.ensures.on)

pub returns-clause-fits : goal.returns-clause-fits
returns-clause-fits g c = record {
  agrees = all_agree Producer (λ (i : Outlet). i.queue) (λ (i : Outlet). i.state) (g.W.Wires.ends c.args.wires.now) (g.W.Wires.ends c.put_or_drop.new.wires) c.args.ends.now.ends.items c.args.k c.index_mut-end.result.now c.put_or_drop.new.end (at_k g c) c.put_or_drop.ensures.queue c.requires.fits.apart (λ r n away. c.put_or_drop.ensures.moves.others r n (λ a b. away (a ∙ c.put_or_drop.ensures.role) (b ∙ ap (λ q. q.0) c.put_or_drop.ensures.on))) c.requires.fits.agrees (subst (λ q. Agrees (g.W.Wires.ends c.put_or_drop.new.wires Producer q.0) c.put_or_drop.new.end.state) (sym c.put_or_drop.ensures.queue) c.put_or_drop.ensures.agrees);
  apart = rw (same_queues (λ (i : Outlet). i.queue) c.args.ends.now.ends.items c.args.k c.index_mut-end.result.now c.put_or_drop.new.end (at_k g c) c.put_or_drop.ensures.queue) c.requires.fits.apart;
}

pub returns-clause-posted : goal.returns-clause-posted
returns-clause-posted g c = λ ds at. posted_drops outlet_post ds c.args.ends.now.ends.items c.args.k c.index_mut-end.result.now c.put_or_drop.new.end c.args.drops (is_some c.args.load.now) c.put_or_drop.new.event at (at_k g c) c.put_or_drop.ensures.posted

pub returns-clause-still : goal.returns-clause-still
returns-clause-still g c = λ ds at p there no. c.put_or_drop.ensures.still (ap (λ x. is_mark_at x c.put_or_drop.new.event) (some_same (sym (drops_get ds (map outlet_post c.args.ends.now.ends.items) c.args.k c.args.drops (outlet_post c.index_mut-end.result.now) at (get_map outlet_post c.args.ends.now.ends.items c.args.k c.index_mut-end.result.now (at_k g c))) ∙ there)) ∙ no)
