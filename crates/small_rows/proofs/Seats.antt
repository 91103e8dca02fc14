use Rattle.std.proofs.Common.{◌≡◌, ◌<◌, ◌≤◌, ℕ, zero, suc, false, Some, List, [], ◌∷◌, length, map, slice_get, refl, sym, ap, ◌∙◌, subst}
use Rattle.std.specs.List.{All}
use Rattle.std.proofs.lemmas.List.{length-map}
use Rattle.std.proofs.lemmas.List.Elements.{All-nil, All-cons}
use Rattle.cargo_core.specs.Capacities.{IsCapacity}
use Rattle.wire_core.specs.declared.names.QueueRow.{QueueRow}
use Rattle.wire_core.specs.Ends.{Role, waiting_role}
use Rattle.wire_core.specs.Journal.{owner_of}
use Rattle.play_core.specs.Sheets.{IsSeat}
use Rattle.play_core.proofs.Lists.{map_get, map_from}
use Rattle.turn_kit.specs.Dropping.{dropping}
use Rattle.turn_kit.specs.Turns.{Post, IsRound}
use Rattle.wire_core.specs.Queues.{end_at, starts}
use Rattle.actor_set.specs.Actors.{part_of, ActorEnd, actor_round}
use Rattle.actor_set.specs.declared.actor.Actor.{Actor}
use Rattle.actor_set.proofs.LawsLemmas.Paces.{post_end}
use Rattle.actor_set.specs.Laws.Kinds.{AllCalm, manner_of}
use Rattle.play_core.specs.Manners.{Calm}
use Rattle.cast_law.specs.Seats as Seated
use Rattle.system_core.proofs.Seating.{seated_start}
use Rattle.small_system.specs.Meanings.{Own}
use Rattle.small_system.specs.Standing.{Begins}
use Rattle.small_rows.specs.declared.wrapping.Wrapped.{Wrapped}
use Rattle.small_rows.proofs.Acting.{round_waits}
use Rattle.small_rows.specs.Wrappings.{wrapped_means, AreWrapped, AreWaiting}
use Rattle.small_rows.specs.WrappingLaws.{own_end}

-- Seated actors may begin in their wrappings.

all_places : (P : QueueRow → Type 0) (rows : List QueueRow) → ((n : ℕ) (row : QueueRow) → slice_get rows n ≡ Some row → P row) → All P rows
all_places P [] h = All-nil P
all_places P (r ∷ rs) h = All-cons P r rs (h zero r refl) (all_places P rs (λ n row. h (suc n) row))

module _ (rows : List QueueRow) (actors : List Actor) (wrapped : List Wrapped) (s : Seated.AreSeated rows actors) (nobody : AllCalm (map part_of actors)) (wait : AreWaiting actors) (are : AreWrapped actors wrapped) where
  bare : (k : ℕ) (x : Wrapped) → slice_get wrapped k ≡ Some x → slice_get actors k ≡ Some x.actor
  bare k x at = ap (λ xs. slice_get xs k) (sym are) ∙ map_get (λ (y : Wrapped). y.actor) wrapped k x at

  calm : (k : ℕ) (x : Wrapped) → slice_get wrapped k ≡ Some x → manner_of (part_of x.actor) ≡ Calm
  calm k x at = nobody k (part_of x.actor) (map_get part_of actors k x.actor (bare k x at))

  many : length actors ≡ length wrapped
  many = ap length (sym are) ∙ length-map wrapped (λ (y : Wrapped). y.actor)

  given : (k : ℕ) (x : Wrapped) → slice_get wrapped k ≡ Some x → (r : Role) (n : ℕ) → Own wrapped_means x r n → IsSeat rows k (record { queue = n; role = r })
  given k x at r n o =
      let was = map_from (dropping false) (actor_round x.actor).posts o.place o.post o.there in
      let here : ActorEnd x.actor (waiting_role o.post.side) o.post.queue = subst (λ (p : Post). ActorEnd x.actor (waiting_role p.side) p.queue) was.2 (post_end x.actor o.place was.0 was.1) in
      let end : ActorEnd x.actor r n = subst (ActorEnd x.actor r) o.queue (subst (λ q. ActorEnd x.actor q o.post.queue) o.role here) in
      let seat = s.seats k x.actor (bare k x at) r n end in
      (seat.row, seat.there, seat.owner)

  all : (k : ℕ) (x : Wrapped) → slice_get wrapped k ≡ Some x → (r : Role) (n : ℕ) → IsSeat rows k (record { queue = n; role = r }) → Own wrapped_means x r n
  all k x at r n seat = own_end x (calm k x at) r n (s.ends k x.actor (bare k x at) n seat.0 seat.1 r seat.2)

  pub wrapped_begin : Begins wrapped_means rows wrapped
  wrapped_begin =
      let start = seated_start rows actors s in
      record {
        sized = record { few = s.numbered; capacities = all_places (λ (row : QueueRow). IsCapacity row.capacity) rows s.places };
        peopled = λ n row at r. subst (λ m. owner_of row r < m) many (s.peers n row at r);
        few = subst (λ m. m ≤ 65536) many s.few;
        seated = record { given = given; all = all };
        fits = λ k x at. (start.fits k x.actor (bare k x at), calm k x at, wait k x.actor (bare k x at));
        rounds = λ k x at. subst IsRound (sym (round_waits (end_at (starts rows)) x.actor (start.fits k x.actor (bare k x at)) (wait k x.actor (bare k x at)))) (start.rounds k x.actor (bare k x at) (calm k x at));
        stands = λ k x at. start.stands k x.actor (bare k x at);
      }
