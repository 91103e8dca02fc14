-- A hostile actor may be stepped at its ends: their rings are wild, and stay so.
use Rattle.std.proofs.Common.{◌≡◌, ◌⊎◌, ◌∙◌, ℕ, true, false, List, refl, sym, ap, subst, inl, inr, Option, Some, None}
use Rattle.std.proofs.lemmas.List.Elements.{All-append}
use Rattle.wire_core.specs.declared.names.QueueId.{QueueId}
use Rattle.wire_core.specs.Ends.{Consumer, Producer}
use Rattle.spsc_queue.specs.Known.Ends.{EndIs, RingIs}
use Rattle.seat_wires.specs.Places.Are.{SeatsAre}
use Rattle.seat_wires.specs.Places.{IsWildRing, IsWildSeat, ends_of, end_known, seat_end, stands_at}
use Rattle.play_core.specs.Manners.{Calm, is_hostile}
use Rattle.client_programs.specs.declared.rogue.Rogue.{Rogue}
use Rattle.client_programs.specs.Rogue.Clients.{FitsRogue}
use Rattle.actor_set.specs.Actors.{FitsActor, MayStep, actor_rests, part_of}
use Rattle.actor_set.specs.Laws.Kinds.{manner_of}
use Rattle.actor_set.specs.declared.actor.Actor.{Actor}
use Rattle.actor_set.specs.declared.actor.Actor.TheVariants as Kinds
use Rattle.actor_set.proofs.LawsLemmas.Rounds.{calm_or_rogue, may_is}
use Rattle.pd_runner.specs.Running.{AreWild, Comes}
use Rattle.pd_runner.proofs.Facing.{known_there}

-- they stay so while the actor is at work
pub wild_on : (a : Actor) (s : SeatsAre) (n : ℕ) (b : Actor) (t : SeatsAre) → Comes a s n b t → AreWild a s → AreWild b t
wild_on a s n b t come wild hostile r k e at =
    let was = known_there (stands_at (ends_of t r) k) (stands_at (ends_of s r) k) e (sym (come.went.ends r k)) at in
    subst (λ (rings : List RingIs). IsWildRing rings k) (sym come.went.rings) (wild (ap (λ p. is_hostile (manner_of p)) (sym come.same) ∙ hostile) r k was.0 was.1)

there_owned : (o : Option EndIs) → (end_known o).owned ≡ true → (e : EndIs) × (o ≡ Some e)
there_owned None owned = cc
there_owned (Some e) owned = (e, refl)

-- a step may be asked of an actor that isn't a hostile one at rest
pub may_seated : (x : Actor) (s : SeatsAre) → FitsActor (seat_end s) x → AreWild x s → (is_hostile (manner_of (part_of x)) ≡ true → actor_rests x ≡ false) → MayStep (IsWildSeat s) x
may_seated x s fits wild busy = by (calm_or_rogue x)
  where
    rogue : (r : Rogue) → FitsRogue (seat_end s) r → AreWild (Kinds.Rogue r) s → actor_rests (Kinds.Rogue r) ≡ false → MayStep (IsWildSeat s) (Kinds.Rogue r)
    rogue r fits wild busy = (
      busy,
      All-append (λ (q : QueueId). IsWildSeat s q.0) r.inputs.items r.outputs.items
          (λ m d lt. let own = (fits.inputs m d lt).owned in let e = there_owned _ own in (wild refl Consumer _ e.0 e.1, inl own))
          (λ m d lt. let own = (fits.outputs m d lt).0.owned in let e = there_owned _ own in (wild refl Producer _ e.0 e.1, inr own)),
    )

    by : (manner_of (part_of x) ≡ Calm) ⊎ ((r : Rogue) × (x ≡ Kinds.Rogue r)) → MayStep (IsWildSeat s) x
    by (inl calm) = may_is (IsWildSeat s) x calm
    by (inr r) = subst (MayStep (IsWildSeat s)) (sym r.1) (rogue r.0 (subst (FitsActor (seat_end s)) r.1 fits) (subst (λ (y : Actor). AreWild y s) r.1 wild) (ap actor_rests (sym r.1) ∙ busy (ap (λ (y : Actor). is_hostile (manner_of (part_of y))) r.1)))
