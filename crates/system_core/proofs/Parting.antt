-- A system before its first step may be taken apart: its queues show their ends what they do in
-- their start state, where nothing passed, and its actors are ready.
use Rattle.std.proofs.Common.{◌≡◌, ◌⊎◌, ℕ, zero, suc, false, inl, inr, nat_lt, Some, List, [], ◌∷◌, length, map, slice_get, refl, sym, ap, ◌∙◌, subst, arith}
use Rattle.std.proofs.lemmas.List.{length-map}
use Rattle.wire_core.specs.declared.names.QueueRow.{QueueRow}
use Rattle.wire_core.specs.Deeds.{Cargo}
use Rattle.wire_core.specs.Ends.{Role, End}
use Rattle.wire_core.specs.Queues.{Queue, queue_at, end_at, end_of, items_of, start_queue, starts}
use Rattle.wire_core.specs.Journal.{History, Track, IsShown, start_track, start_history}
use Rattle.wire_core.specs.Sizes.{AreSized}
use Rattle.wire_core.proofs.BellTheorem.{start_is}
use Rattle.play_core.specs.Names.{Noted}
use Rattle.play_core.proofs.Lists.{map_get}
use Rattle.actor_set.specs.Parts.{HostilePart, Part}
use Rattle.actor_set.specs.Actors.{FitsActor, IsWhole, part_anew, part_of, rogue_part}
use Rattle.actor_set.specs.declared.actor.Actor.{Actor}
use Rattle.actor_set.specs.declared.actor.Actor.TheVariants as Kinds
use Rattle.actor_set.specs.Laws.Kinds.{manner_of, scene_of}
use Rattle.actor_set.specs.Rogues.{KeepsActs}
use Rattle.client_programs.specs.declared.rogue.Rogue.{Rogue}
use Rattle.client_programs.specs.Rogue.Acts.{Left}
use Rattle.client_programs.specs.Rogue.Clients.{left_at_start, left_of}
use Rattle.play_core.specs.Manners.{Calm}
use Rattle.actor_set.proofs.LawsLemmas.Rounds.{anew_is, calm_or_rogue}
use Rattle.actor_set.proofs.LawsLemmas.Beside.{stands_anew}
use Rattle.actor_set.proofs.LawsLemmas.Starts.{fits_whole}
use Rattle.actor_set.proofs.LawsLemmas.PartEnds.{to_part, end_seat}
use Rattle.order_law.specs.ActorParts.Ready.{AreReady}
use Rattle.system_core.specs.Systems.{Holds}
use Rattle.system_core.specs.Inside.{setting_of, IsSystem}
use Rattle.system_core.specs.declared.system.System.TheInside.{Inside}
use Rattle.system_core.proofs.Fitting.{are_sized}

-- where no item is shown there is no entry
no_entry : (xs : List Cargo) → items_of xs ≡ [] → xs ≡ []
no_entry [] none = refl
no_entry (x ∷ xs) none = cc

-- where each queue shows that nothing happened, all show their ends what they do at the start
same_kept : (rows : List QueueRow) (world : List Queue) → length world ≡ length rows → ((n : ℕ) (row : QueueRow) → slice_get rows n ≡ Some row → IsShown row (queue_at world n) start_track) → (n : ℕ) → ((queue_at world n).kind ≡ (queue_at (starts rows) n).kind) × ((queue_at world n).bells ≡ (queue_at (starts rows) n).bells)
same_kept [] [] size each n = (refl, refl)
same_kept [] (q ∷ world) size each n = absurd (omega (arith, size))
same_kept (row ∷ rows) [] size each n = absurd (omega (arith, size))
same_kept (row ∷ rows) (q ∷ world) size each zero = let is = each 0 row refl in (is.kind, is.bells)
same_kept (row ∷ rows) (q ∷ world) size each (suc n) = same_kept rows world (omega (arith, size)) (λ m r at. each (suc m) r at) n

-- nothing passed before the first step
module _ (rows : List QueueRow) (world : List Queue) (actors : List Actor) (names : List Noted) (h : Holds (start_history rows) rows names world actors []) where
  none_taken : (n : ℕ) → h.passed.taken n ≡ []
  none_taken n = no_entry (h.passed.taken n) (h.shows_taken n ∙ ap (λ (t : Track). t.taken) (start_is rows n))

  none_sent : (n : ℕ) → h.passed.sent n ≡ []
  none_sent n = no_entry (h.passed.sent n) (h.shows_sent n ∙ ap (λ (t : Track). t.sent) (start_is rows n))

  start_ends : end_at world ≡ end_at (starts rows)
  start_ends =
      let long : length world ≡ length (starts rows) = h.size ∙ sym (length-map rows start_queue) in
      let kept = same_kept rows world h.size (λ n row at. subst (IsShown row (queue_at world n)) (start_is rows n) (h.queues n row at)) in
      λ i. λ r n. end_of (nat_lt n (long i)) ((kept n).0 i) ((kept n).1 i) r

module _ (a : Inside) (i : IsSystem a) (anew : (setting_of a).history ≡ start_history a.rows.items) (none : a.journal.items ≡ []) where
  holds : Holds (start_history a.rows.items) a.rows.items (setting_of a).names a.wires.world a.actors.items []
  holds = subst (Holds (start_history a.rows.items) a.rows.items (setting_of a).names a.wires.world a.actors.items) none (subst (λ (h : History). Holds h a.rows.items (setting_of a).names a.wires.world a.actors.items a.journal.items) anew i.holds)

  whole : (k : ℕ) (x : Actor) → slice_get a.actors.items k ≡ Some x → IsWhole x
  whole k x at = fits_whole (end_at a.wires.world) x (i.holds.fits k x at)

  -- its actors fit the queues in their start state, and own the ends that they have there
  pub are_ready : AreReady a.rows.items a.actors.items
  are_ready = record {
    fits = λ k x at. subst (λ (e : Role → ℕ → End). FitsActor e x) (start_ends a.rows.items a.wires.world a.actors.items (setting_of a).names holds) (holds.fits k x at);
    stands = λ k x at. stands_anew holds.passed x (whole k x at) (λ n e. none_taken a.rows.items a.wires.world a.actors.items (setting_of a).names holds n) (λ n e. none_sent a.rows.items a.wires.world a.actors.items (setting_of a).names holds n) (holds.stands k x at);
    owners = λ k x at r n own.
        let e = end_seat (scene_of (map part_of a.actors.items)) (part_of x) r n (to_part x r n (whole k x at) own) in
        i.fitted.seated k (part_of x) (map_get part_of a.actors.items k x at) e.0 (record { queue = n; role = r }) e.1;
  }

-- what its actors are made of stays where they forget their looks: a hostile client has all its acts
-- before it
anew_same : (x : Actor) → ((r : Rogue) → x ≡ Kinds.Rogue r → left_of r ≡ left_at_start r) → part_anew x ≡ part_of x
anew_same x whole = by (calm_or_rogue x)
  where
    rogue : (r : Rogue) → left_of r ≡ left_at_start r → part_anew (Kinds.Rogue r) ≡ part_of (Kinds.Rogue r)
    rogue r same = ap (λ (l : Left). HostilePart (rogue_part r (record { acts = l.acts; looked = false; kept = l.kept }))) same

    by : (manner_of (part_of x) ≡ Calm) ⊎ ((r : Rogue) × (x ≡ Kinds.Rogue r)) → part_anew x ≡ part_of x
    by (inl calm) = anew_is x calm
    by (inr r) = subst (λ (y : Actor). part_anew y ≡ part_of y) (sym r.1) (rogue r.0 (whole r.0 r.1))

pub all_anew : (actors : List Actor) → ((k : ℕ) (r : Rogue) → slice_get actors k ≡ Some (Kinds.Rogue r) → left_of r ≡ left_at_start r) → map part_anew actors ≡ map part_of actors
all_anew [] whole = refl
all_anew (x ∷ actors) whole = ap (λ (p : Part). p ∷ map part_anew actors) (anew_same x (λ r is. whole 0 r (ap Some is))) ∙ ap (λ (ps : List Part). part_of x ∷ ps) (all_anew actors (λ k r at. whole (suc k) r at))

-- before the first step a hostile client has done nothing
pub acts_left : (a : Inside) → IsSystem a → a.journal.items ≡ [] → (k : ℕ) (r : Rogue) → slice_get a.actors.items k ≡ Some (Kinds.Rogue r) → left_of r ≡ left_at_start r
acts_left a i none k r at = (subst (KeepsActs k r) none (i.holds.acts k r at)).left

-- rings can be opened for its queues
pub rings_fit : (a : Inside) → IsSystem a → AreSized a.rows.items
rings_fit a i = are_sized a.rows.items i.fitted.numbered i.fitted.places
