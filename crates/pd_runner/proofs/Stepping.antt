-- An actor comes on by one step of its own.
use Rattle.std.proofs.Common.{◌≡◌, ◌∙◌, ◌≤◌, ℕ, ◌+◌, true, false, refl, sym, ap, subst, List, [], ◌∷◌, ◌++◌, length}
use Rattle.spsc_queue.specs.Known.Ends.{RingIs}
use Rattle.wire_core.specs.Lists.{Passed, Stepped, with_deed}
use Rattle.wire_core.specs.declared.names.Event.{Event}
use Rattle.wire_core.specs.Deeds.{Deed}
use Rattle.seat_wires.specs.Places.Are.{SeatsAre}
use Rattle.seat_wires.specs.Places.{EndsOn, SeatDid, seat_end}
use Rattle.seat_wires.proofs.Listing.{taken_grow, sent_grow}
use Rattle.seat_wires.proofs.Going.{went_none, went_one, went_then}
use Rattle.actor_set.specs.Actors.{FitsActor, ActorStandsFor, ActorRow, ActorTurned, IsActorCall, actor_rests, part_of}
use Rattle.actor_set.specs.declared.actor.Actor.{Actor}
use Rattle.order_law.specs.Tales.{Call, Goes, is_waiting}
use Rattle.order_law.proofs.Telling.{goes_on}
use Rattle.pd_runner.specs.declared.part.Part.{Part}
use Rattle.pd_runner.specs.Running.{Sits, Comes, Came, AreAtWork, CameAtWork, part_seats, passed_at}

pub comes_none : (a : Actor) (s : SeatsAre) → Sits a s → Comes a s 0 a s
comes_none a s h = record { same = refl; sits = h; went = went_none s; calls = []; goes = (refl, refl) }

-- what passed at its ends grows by what the call moved
passed_on : (s : SeatsAre) (d : Deed) (t : SeatsAre) (calls : List Event) → SeatDid s d t → passed_at t (calls ++ d.event ∷ []) ≡ with_deed (passed_at s calls) d
passed_on s d t calls h = λ i. record { taken = taken_grow s d t h i; sent = sent_grow s d t h i; calls = calls ++ d.event ∷ [] }

pub comes_on : (a : Actor) (s : SeatsAre) (n : ℕ) (b : Actor) (t : SeatsAre) (c : Actor) (u : SeatsAre) (e : Event)
    → Comes a s n b t → FitsActor (seat_end u) c → part_of c ≡ part_of b → Stepped ActorStandsFor SeatDid t u b c e → IsActorCall b e → ActorTurned b e c → (actor_rests b ≡ true → is_waiting e.op ≡ true) → Comes a s (n + 1) c u
comes_on a s n b t c u e h fits same st own turned due =
    let d : Deed = record { event = e; body = st.body } in
    record {
      same = same ∙ h.same;
      sits = record { fits = fits; lists = (h.sits.lists.0 ++ e ∷ [], subst (ActorStandsFor c) (sym (passed_on t d u h.sits.lists.0 st.happened)) (st.kept (passed_at t h.sits.lists.0) h.sits.lists.1)) };
      went = went_then s n t 1 u h.went (went_one t d u st.happened);
      calls = h.calls ++ record { deed = d; actor = c; seats = u } ∷ [];
      goes = goes_on a s h.calls b t (record { deed = d; actor = c; seats = u }) h.goes record { did = st.happened; own = own; turned = turned; due = due; part = same; kept = st.kept; fits = fits };
    }

pub comes_same : (a : Actor) (s : SeatsAre) (n : ℕ) (b : Actor) (t : SeatsAre) (c : Actor) (u : SeatsAre) → c ≡ b → u ≡ t → Comes a s n b t → Comes a s n c u
comes_same a s n b t c u is there h = subst (λ (z : Actor × SeatsAre). Comes a s n z.0 z.1) (λ i. (sym is i, sym there i)) h

-- none of its calls was made at rest
pub record Worked (a : Actor) (s : SeatsAre) (n : ℕ) (b : Actor) (t : SeatsAre) : Type 0 where
  pub comes : Comes a s n b t
  pub at_work : AreAtWork a comes.calls

at_work_on : (a : Actor) (s : SeatsAre) (cs : List Call) (b : Actor) (t : SeatsAre) (c : Call) → Goes a s cs b t → AreAtWork a cs → actor_rests b ≡ false → AreAtWork a (cs ++ c ∷ [])
at_work_on a s [] b t c g h busy = (ap actor_rests (sym g.0) ∙ busy, tt)
at_work_on a s (d ∷ cs) b t c g h busy = (h.0, at_work_on d.actor d.seats cs b t c g.1 h.1 busy)

pub worked_none : (a : Actor) (s t : SeatsAre) → t ≡ s → Sits a s → Worked a s 0 a t
unfolding comes_none
worked_none a s t is h = subst (λ (z : SeatsAre). Worked a s 0 a z) (sym is) (record { comes = comes_none a s h; at_work = tt })

pub worked_on : (a : Actor) (s : SeatsAre) (n : ℕ) (b : Actor) (t : SeatsAre) (c : Actor) (u : SeatsAre) (e : Event)
    → Worked a s n b t → FitsActor (seat_end u) c → part_of c ≡ part_of b → Stepped ActorStandsFor SeatDid t u b c e → IsActorCall b e → ActorTurned b e c → (actor_rests b ≡ true → is_waiting e.op ≡ true) → actor_rests b ≡ false → Worked a s (n + 1) c u
unfolding comes_on
worked_on a s n b t c u e h fits same st own turned due busy = record {
  comes = comes_on a s n b t c u e h.comes fits same st own turned due;
  at_work = at_work_on a s h.comes.calls b t (record { deed = record { event = e; body = st.body }; actor = c; seats = u }) h.comes.goes h.at_work busy;
}

-- the seats are taken apart
module _ (rings : List RingIs) (old : Part) (n : ℕ) (new : Part) (s : SeatsAre)
    (ps : (new.producers.items ≡ s.producers) × EndsOn s.rings new.producers.items × (length new.producers.items ≤ 65536)) (cs : (new.consumers.items ≡ s.consumers) × EndsOn s.rings new.consumers.items × (length new.consumers.items ≤ 65536))
    (rows : (a : Actor) (passed : Passed) → ActorStandsFor a passed → ActorRow a passed) where
  there_is : s.rings ≡ rings → s ≡ part_seats rings new
  there_is is = λ i. record { rings = is i; producers = sym ps.0 i; consumers = sym cs.0 i }

  came_there : s.rings ≡ rings → Comes old.worker.actor (part_seats rings old) n new.worker.actor (part_seats rings new) → Came rings old n new
  came_there is there = record {
    stands = record {
      producers = subst (λ (z : List RingIs). EndsOn z new.producers.items) is ps.1;
      consumers = subst (λ (z : List RingIs). EndsOn z new.consumers.items) is cs.1;
      few_producers = ps.2;
      few_consumers = cs.2;
      sits = there.sits;
    };
    comes = there;
    row = (there.sits.lists.0, rows new.worker.actor (passed_at (part_seats rings new) there.sits.lists.0) there.sits.lists.1);
  }

  pub came_of : Comes old.worker.actor (part_seats rings old) n new.worker.actor s → Came rings old n new
  came_of h = came_there h.went.rings (subst (λ (z : SeatsAre). Comes old.worker.actor (part_seats rings old) n new.worker.actor z) (there_is h.went.rings) h)

  pub worked_of : Worked old.worker.actor (part_seats rings old) n new.worker.actor s → CameAtWork rings old n new
  unfolding came_there
  worked_of h =
      let there : Worked old.worker.actor (part_seats rings old) n new.worker.actor (part_seats rings new) = subst (λ (z : SeatsAre). Worked old.worker.actor (part_seats rings old) n new.worker.actor z) (there_is h.comes.went.rings) h in
      record { came = came_there h.comes.went.rings there.comes; at_work = there.at_work }
