use Rattle.std.proofs.Common.{rules, ℕ, ◌≤◌, sym, ap, ◌∙◌, subst, slice_get, Some}
use Rattle.seat_wires.specs.Places.Are.{SeatsAre}
use Rattle.seat_wires.specs.Places.{stands_at}
use Rattle.seat_wires.proofs.Adding.{sets_on, sets_end, length_set}
use Rattle.seat_wires.proofs.seats.Seats.add_consumer.Goals as goal

pub invariant_of-self-2 : goal.invariant_of-self-2
invariant_of-self-2 c = record {
  consumers = sets_on c.self.inside.rings.now c.self.inside.consumers.items c.reach.new.ends.items c.args.q.0 c.args.end c.self.invariant.consumers c.reach.ensures.others (c.requires.on.0, ap (λ (s : SeatsAre). slice_get s.rings c.args.q.0) c.self.view_is ∙ c.requires.on.1, c.requires.on.2);
  producers = c.self.invariant.producers;
  few_consumers = subst (λ (z : ℕ). z ≤ 65536) (sym (length_set c.reach.new.ends.items c.args.q.0 (Some c.args.end))) (c.reach.ensures.few 65536 (search rules) c.self.invariant.few_consumers);
  few_producers = c.self.invariant.few_producers;
}

pub returns-clause-ok : goal.returns-clause-ok
returns-clause-ok c = let put = sets_end c.self.inside.consumers.items c.reach.new.ends.items c.args.q.0 (Some c.args.end) c.reach.ensures.others (search rules) in (
  put.0,
  λ n away. put.1 n away ∙ ap (λ (s : SeatsAre). stands_at s.consumers n) c.self.view_is,
)
