use Rattle.std.proofs.Common.{◌≡◌, ◌⊎◌, ◌<◌, ◌+◌, ℕ, Bool, true, false, not, ◌&&◌, ◌||◌, Some, List, map, slice_get, get_or, inl, inr, subst, refl, sym, ap, ◌∙◌, arith}
use Rattle.std.proofs.lemmas.Option.{slice_get-get_or}
use Rattle.wire_core.specs.declared.names.PoolRow.{PoolRow}
use Rattle.wire_core.specs.declared.names.QueueRow.{QueueRow}
use Rattle.wire_core.specs.declared.names.Entry.{Entry}
use Rattle.wire_core.specs.Queues.{Queue, queue_at, end_at, is_pending}
use Rattle.wire_core.specs.Journal.{History, IsShown, track}
use Rattle.play_core.specs.Moved.{moved}
use Rattle.play_core.specs.Names.{Noted, Wild, told_by, wild_in}
use Rattle.play_core.specs.Wants.{all_settled}
use Rattle.play_core.specs.Runs.{called_from, is_runnable}
use Rattle.play_core.specs.Sheets.{RowsHold, Scene}
use Rattle.play_core.proofs.Lists.{map_from}
use Rattle.client_programs.specs.declared.rogue.Rogue.{Rogue}
use Rattle.client_programs.specs.Rogue.Acts.{is_done}
use Rattle.client_programs.specs.Rogue.Clients.{left_of}
use Rattle.actor_set.specs.Parts.{Part}
use Rattle.actor_set.specs.Actors.{part_of, actor_rests}
use Rattle.actor_set.specs.declared.actor.Actor.{Actor}
use Rattle.actor_set.specs.declared.actor.Actor.TheVariants as Kinds
use Rattle.actor_set.specs.Laws.Kinds.{AllCalm, hostiles, scene_of, manner_of, idles}
use Rattle.actor_set.specs.Laws.Scenes.{LiesWithin, ToldInTurn, told_sheet}
use Rattle.actor_set.specs.Laws.Turning.{InTurn}
use Rattle.play_core.specs.Rests.Showing.{HaveItems, HaveBells}
use Rattle.actor_set.proofs.LawsLemmas.Rounds.{calm_or_rogue}
use Rattle.actor_set.proofs.LawsLemmas.Told.{none_wild}
use Rattle.actor_set.proofs.LawsLemmas.ToldRows.{told_row, told_rests}
use Rattle.actor_set.proofs.RogueLemmas.Playing.{runs as acts_run}
use Rattle.wired_law.specs.Wiring.{AreAtWork}
use Rattle.wired_law.proofs.Wiring.{turns_calm}
use Rattle.cast_law.specs.Pools.Places.{IsInPlace}
use Rattle.cast_law.proofs.TurnsLemmas.{all_within, noted_tell}
use Rattle.play_core.specs.Manners.{Calm}
use Rattle.system_core.specs.Systems.{Holds}
use Rattle.player_kit.proofs.Listing.{not_not}
use Rattle.player_kit.proofs.Showing.{no_row, called_queues}

both : {a b c d : Bool} → a ≡ b → c ≡ d → (a && c) ≡ (b && d)
both e f = cc

module _ (history : History) (rows : List QueueRow) (names : List Noted) (w : List Queue) (actors : List Actor) (journal : List Entry) (h : Holds history rows names w actors journal) where
  pub items_here : HaveItems h.passed (moved history journal)
  items_here = record { taken = h.shows_taken; sent = h.shows_sent; noes = h.shows_noes }

  bells_here : HaveBells w history journal
  bells_here n lt = (h.queues n (get_or rows n no_row) (slice_get-get_or rows n no_row (subst (λ m. n < m) h.size lt))).bells

  -- its actors are at work
  pub at_work : AreAtWork (end_at w) rows actors h.passed
  at_work = record { fits = h.fits; stands = h.stands; hands_over = λ n. ((queue_at w n).entries, sym (h.stands_there n)); kinds = h.kinds }

  -- the names that are kept tell all that is asked of what passed
  pub tells_now : (pools : List PoolRow) → IsInPlace rows pools (map part_of actors) → (k : ℕ) (p : Part) → slice_get (map part_of actors) k ≡ Some p → LiesWithin (wild_in (hostiles (map part_of actors)) rows) (told_by names) p (moved history journal)
  tells_now pools in_place = all_within (end_at w) rows pools actors h.passed in_place at_work h.sends (told_by names) (noted_tell (wild_in (hostiles (map part_of actors)) rows) names h.passed h.noted) (moved history journal) items_here

  -- where nobody is hostile no name is asked
  pub calm_turn : AllCalm (map part_of actors) → (k : ℕ) (x : Actor) → slice_get actors k ≡ Some x → InTurn (scene_of (map part_of actors)) x h.passed
  calm_turn calm k x at = turns_calm (scene_of (map part_of actors)) (wild_in (hostiles (map part_of actors)) rows) (told_by names) x h.passed (none_wild (map part_of actors) calm rows) (h.in_turn k x at)

-- by a cast that is that of the actors
module _ (cast : List Part) (history : History) (rows : List QueueRow) (names : List Noted) (w : List Queue) (actors : List Actor) (journal : List Entry) (h : Holds history rows names w actors journal) (same : map part_of actors ≡ cast) where
  abbrev scene : Scene
  scene = scene_of cast

  abbrev wild : Wild
  wild = wild_in (hostiles cast) rows

  turns_here : (k : ℕ) (x : Actor) → slice_get actors k ≡ Some x → ToldInTurn scene wild (told_by names) x h.passed
  turns_here k x at = subst (λ c. ToldInTurn (scene_of c) (wild_in (hostiles c) rows) (told_by names) x h.passed) same (h.in_turn k x at)

  -- each actor's row holds now, but those of hostile ones
  pub rows_now : RowsHold (told_sheet scene wild (told_by names)) (hostiles cast) cast (moved history journal)
  rows_now k p calm at =
      let m = map_from part_of actors k p (ap (λ c. slice_get c k) same ∙ at) in
      subst (λ q. (told_sheet scene wild (told_by names) q).row (moved history journal)) m.2 (told_row scene wild (told_by names) h.passed (moved history journal) (items_here history rows names w actors journal h) m.0 (turns_here k m.0 m.1) (h.stands k m.0 m.1))

  -- an actor that isn't hostile is at rest where its part is
  pub rests_here : (k : ℕ) (x : Actor) → slice_get actors k ≡ Some x → manner_of (part_of x) ≡ Calm → actor_rests x ≡ all_settled history journal ((told_sheet scene wild (told_by names) (part_of x)).wants (moved history journal))
  rests_here k x at calm = told_rests scene wild (told_by names) h.passed history journal w (bells_here history rows names w actors journal h) (items_here history rows names w actors journal h) x calm (turns_here k x at) (h.fits k x at) (h.stands k x at)

  pub called_here : (actor : ℕ) → is_pending actor w ≡ called_from actor 0 history rows journal
  called_here actor = called_queues actor 0 history journal rows w h.size (λ m row at. let e : m ≡ 0 + m = omega arith in subst (λ i. IsShown row (queue_at w m) (track history i journal)) e (h.queues m row at))

  -- a hostile client is idle where it made all its calls
  rogue_idle : (k : ℕ) (r : Rogue) → slice_get actors k ≡ Some (Kinds.Rogue r) → is_done (left_of r) ≡ not (is_runnable (manner_of (part_of (Kinds.Rogue r))) k ((told_sheet scene wild (told_by names) (part_of (Kinds.Rogue r))).wants (moved history journal)) history rows journal)
  rogue_idle k r at = not_not (is_done (left_of r)) ∙ ap not (sym (acts_run k r journal ((told_sheet scene wild (told_by names) (part_of (Kinds.Rogue r))).wants (moved history journal)) history rows (h.acts k r at)))

  -- whether an actor is idle is what the journal says of its part
  pub idle_here : (k : ℕ) (x : Actor) → slice_get actors k ≡ Some x → idles (manner_of (part_of x)) (actor_rests x) (is_pending k w) ≡ not (is_runnable (manner_of (part_of x)) k ((told_sheet scene wild (told_by names) (part_of x)).wants (moved history journal)) history rows journal)
  idle_here k x at = by (calm_or_rogue x)
    where
      turned : (a b : Bool) → (a && not b) ≡ not (not a || b)
      turned true b = refl
      turned false b = refl

      by : (manner_of (part_of x) ≡ Calm) ⊎ ((r : Rogue) × (x ≡ Kinds.Rogue r)) → idles (manner_of (part_of x)) (actor_rests x) (is_pending k w) ≡ not (is_runnable (manner_of (part_of x)) k ((told_sheet scene wild (told_by names) (part_of x)).wants (moved history journal)) history rows journal)
      by (inl calm) = rw calm (both (rests_here k x at calm) (ap not (called_here k)) ∙ turned (all_settled history journal ((told_sheet scene wild (told_by names) (part_of x)).wants (moved history journal))) (called_from k 0 history rows journal))
      by (inr r) = subst (λ y. idles (manner_of (part_of y)) (actor_rests y) (is_pending k w) ≡ not (is_runnable (manner_of (part_of y)) k ((told_sheet scene wild (told_by names) (part_of y)).wants (moved history journal)) history rows journal)) (sym r.1) (rogue_idle k r.0 (at ∙ ap Some r.1))
