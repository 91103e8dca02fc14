use Rattle.std.proofs.Common.{◌≤◌, List, length, map, sym, subst}
use Rattle.spsc_queue.specs.Known.Ends.{RingIs}
use Rattle.order_law.specs.ActorParts.Given.{apart_of}
use Rattle.pd_runner.specs.Each.{Every}
use Rattle.pd_runner.specs.Ends.{LawfulOf}
use Rattle.pd_runner.specs.Running.{IsReady}
use Rattle.pd_runner.specs.Seated.{IsApart, IsSeated, HasNumbers}
use Rattle.pd_runner.proofs.Eaches.{every_right}
use Rattle.pd_runner.proofs.Faced.{all_apart, few_rings, has_numbers, as_many, still_all, no_wants, all_came, all_end}
use Rattle.pd_runner.proofs.face.run_apart.Goals as goal

pub seat_all-requires-clause-apart : goal.seat_all-requires-clause-apart
seat_all-requires-clause-apart g c = subst (λ (z : List RingIs). Every (IsApart z) c.args.parts.actors.items) (sym c.as_slice-shared.ensures.value) (all_apart c.args.layout.now.queues c.args.parts.rings.items c.args.parts.actors.items c.requires.apart)

pub seat_all-requires-clause-few : goal.seat_all-requires-clause-few
seat_all-requires-clause-few g c = subst (λ (z : List RingIs). length z ≤ 65536) (sym c.as_slice-shared.ensures.value) (few_rings c.args.layout.now.queues c.args.parts.rings.items (map apart_of c.args.parts.actors.items) c.requires.apart c.requires.few)

pub run_seated-requires-after_bounds : goal.run_seated-requires-after_bounds
run_seated-requires-after_bounds g c κs within = every_right (IsSeated c.as_slice-shared.result.now) (IsReady c.as_slice-shared.result.now) (λ k p h. h.ready) c.args.parts.actors.items c.in_ok-seated.seated.items c.in_ok-seated.ensures

pub number_all-requires : goal.number_all-requires
number_all-requires g c = every_right (LawfulOf c.as_slice-shared.result.now c.args.limit) HasNumbers (has_numbers c.as_slice-shared.result.now c.args.limit) c.in_ok-seated.seated.items c.in_ok-seated-2.seated.items c.in_ok-seated-2.ensures.came

pub returns-clause-many : goal.returns-clause-many
returns-clause-many g c = as_many c.args.parts.rings.items c.as_slice-shared.result.now c.as_slice-shared.ensures.value c.args.limit c.args.parts.actors.items c.in_ok-seated.seated.items c.in_ok-seated-2.seated.items c.in_ok-actors.actors.items c.in_ok-seated.ensures c.in_ok-seated-2.ensures.came c.in_ok-actors.ensures

pub returns-clause-apart : goal.returns-clause-apart
returns-clause-apart g c = still_all c.args.parts.rings.items c.as_slice-shared.result.now c.as_slice-shared.ensures.value c.args.limit c.args.parts.actors.items c.in_ok-seated.seated.items c.in_ok-seated-2.seated.items c.in_ok-actors.actors.items c.in_ok-seated.ensures c.in_ok-seated-2.ensures.came c.in_ok-actors.ensures c.args.layout.now.queues c.requires.apart

pub returns-clause-memory : goal.returns-clause-memory
returns-clause-memory g c = no_wants c.args.layout.now.queues c.args.parts.rings.items (map apart_of c.in_ok-actors.actors.items) (still_all c.args.parts.rings.items c.as_slice-shared.result.now c.as_slice-shared.ensures.value c.args.limit c.args.parts.actors.items c.in_ok-seated.seated.items c.in_ok-seated-2.seated.items c.in_ok-actors.actors.items c.in_ok-seated.ensures c.in_ok-seated-2.ensures.came c.in_ok-actors.ensures c.args.layout.now.queues c.requires.apart)

pub returns-clause-came : goal.returns-clause-came
returns-clause-came g c = all_came c.args.parts.rings.items c.as_slice-shared.result.now c.as_slice-shared.ensures.value c.args.limit c.args.parts.actors.items c.in_ok-seated.seated.items c.in_ok-seated-2.seated.items c.in_ok-actors.actors.items c.in_ok-seated.ensures c.in_ok-seated-2.ensures.came c.in_ok-actors.ensures

pub returns-clause-ends : goal.returns-clause-ends
returns-clause-ends g c = all_end c.args.parts.rings.items c.as_slice-shared.result.now c.as_slice-shared.ensures.value c.args.limit c.args.parts.actors.items c.in_ok-seated.seated.items c.in_ok-seated-2.seated.items c.in_ok-actors.actors.items c.in_ok-seated.ensures c.in_ok-seated-2.ensures.came c.in_ok-actors.ensures c.in_ok-seated-2.ensures.ends
