-- Actors that are cast are seated at the rows.
use Rattle.std.proofs.Common.{◌≡◌, ◌<◌, ◌≤◌, ℕ, Option, Some, List, length, map, slice_get, sym, ap, ◌∙◌, subst, arith}
use Rattle.wire_core.specs.declared.names.QueueRow.{QueueRow}
use Rattle.wire_core.specs.Ends.{Role, Consumer, Producer}
use Rattle.wire_core.specs.Journal.{owner_of}
use Rattle.sdf_plan.specs.declared.plan.Plan.{Plan}
use Rattle.sdf_check.specs.Valid.{Valid}
use Rattle.trace_text.specs.declared.trace.Trace.{Trace}
use Rattle.region_layout.specs.Rows.{actors_of, queues_of}
use Rattle.layout_laws.specs.Sound.{IsSoundQueue, IsOwned}
use Rattle.layout_laws.proofs.Lists.{all-at}
use Rattle.layout_laws.proofs.Queues.{queues_sound}
use Rattle.layout_laws.proofs.Owners.{queues_owned}
use Rattle.play_core.proofs.Lists.{map_get, there_is}
use Rattle.actor_set.specs.Actors.{ActorEnd, IsWhole, part_of}
use Rattle.actor_set.specs.Parts.{Part}
use Rattle.actor_set.specs.StartStates.{HasApartEnds, HasSeat, kind_at}
use Rattle.actor_set.specs.declared.actor.Actor.{Actor}
use Rattle.actor_set.proofs.LawsLemmas.Starts.{new_whole}
use Rattle.layout_laws.specs.Jobs.Jobs.{Job, HasJob}
use Rattle.layout_laws.proofs.JobsLemmas.Having.{same_job, job_below}
use Rattle.cast_core.specs.Casts.{job_part, IsCastBy, AreCastBy, AreCast}
use Rattle.layout_laws.proofs.SeatsLemmas.Having.{job_is_of}
use Rattle.layout_laws.proofs.SeatsLemmas.Seats.{has_seat, has_end, not_both}
use Rattle.wired_law.specs.Wiring.{IsWired}
use Rattle.cast_law.specs.Seats.{AreSeated}
use Rattle.cast_law.proofs.Parting.{end_is, is_end, kind_is}
use Rattle.cast_law.proofs.Apart.{cast_apart}

-- the actor of a job has the job's part
pub part_there : (parts : Job → Option Part) (plan : Plan) (actors : List Actor) → Valid plan → AreCastBy parts plan actors → (job : Job) (k : ℕ) → HasJob plan job k → slice_get (map part_of actors) k ≡ parts job
part_there parts plan actors valid cast job k has =
    let below = job_below plan valid job k has in
    let many = cast.count_is in
    let x = there_is actors k (omega (arith, below, many)) in
    let c = cast.each k x.0 x.1 in
    map_get part_of actors k x.0 x.1 ∙ (sym c.part ∙ ap parts (same_job plan valid c.job job k c.has has))

module _ (plan : Plan) (trace : Trace) (actors : List Actor) (valid : Valid plan) (cast : AreCast plan trace actors) where
  -- the ends of an actor are those of its job
  module _ (k : ℕ) (x : Actor) (at : slice_get actors k ≡ Some x) where
    abbrev own : IsCastBy (job_part plan trace) plan k x
    own = cast.each k x at

    whole : IsWhole x
    whole = new_whole x own.new

    seat : (r : Role) (n : ℕ) → ActorEnd x r n → HasSeat (queues_of plan) (kind_at x r n) k r n
    seat r n end =
        let e = end_is plan trace own.job x own.part whole r n end in
        let s = has_seat plan own.job k own.has e.0 (record { queue = n; role = r }) e.1 in
        record { row = s.0; there = s.1; owner = s.2; carries = s.3 ∙ sym (kind_is plan trace own.job x own.part r n) }

    end_there : (n : ℕ) (row : QueueRow) → slice_get (queues_of plan) n ≡ Some row → (r : Role) → owner_of row r ≡ k → ActorEnd x r n
    end_there n row there r owns =
        let e = has_end plan valid n row there r own.job (subst (HasJob plan own.job) (sym owns) own.has) in
        is_end plan trace own.job x own.part r n e.0 e.1

    no_loop : (n : ℕ) → ActorEnd x Consumer n → ActorEnd x Producer n → ⊥
    no_loop n a b =
        let i = end_is plan trace own.job x own.part whole Consumer n a in
        let j = end_is plan trace own.job x own.part whole Producer n b in
        not_both plan valid own.job (job_is_of plan own.job k own.has) i.0 j.0 n i.1 j.1

    apart : HasApartEnds x
    apart = cast_apart plan trace own.job x own.part whole

  owner_below : (n : ℕ) (row : QueueRow) → slice_get (queues_of plan) n ≡ Some row → (r : Role) → owner_of row r < length actors
  owner_below n row at r =
      let owned = all-at (IsOwned plan) (queues_of plan) (queues_owned plan valid) n row at in
      by r owned.producer owned.consumer
    where
      by : (r : Role) → row.producer.0 < length (actors_of plan) → row.consumer.0 < length (actors_of plan) → owner_of row r < length actors
      by Producer p c = (let many = cast.count_is in omega (arith, p, many))
      by Consumer p c = (let many = cast.count_is in omega (arith, c, many))

  pub seated : IsWired (queues_of plan) (map part_of actors) → length (queues_of plan) ≤ 65536 → length (actors_of plan) ≤ 65536 → AreSeated (queues_of plan) actors
  seated wired numbered few = record {
    new = λ k x at. (cast.each k x at).new;
    apart = apart;
    seats = seat;
    ends = end_there;
    split = no_loop;
    wired = wired;
    places = λ n row at. (all-at (IsSoundQueue plan) (queues_of plan) (queues_sound plan valid) n row at).capacity;
    numbered = numbered;
    peers = owner_below;
    few = let many = cast.count_is in omega (arith, few, many);
  }
