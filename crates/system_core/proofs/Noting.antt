-- A step over queues of which names are kept: that it may be made, and which name it adds.
use Rattle.std.proofs.Common.{◌≡◌, ◌⊎◌, ◌<◌, ◌++◌, ℕ, Bool, true, false, not, is_some, Option, Some, None, List, [], length, map, slice_get, inl, inr, refl, sym, ap, ap₂, ◌∙◌, subst}
use Rattle.std.proofs.lemmas.Bool.{ltb-true}
use Rattle.std.proofs.lemmas.List.Elements.{All-append}
use Rattle.wire_core.specs.declared.names.Event.{Event}
use Rattle.wire_core.specs.declared.names.QueueId.{QueueId}
use Rattle.wire_core.specs.Deeds.{Cargo, Deed, cargo_of}
use Rattle.wire_core.specs.Lists.{Stepped, if_put}
use Rattle.wire_core.specs.Queues.{Happens, end_at}
use Rattle.play_core.specs.Manners.{Calm}
use Rattle.play_core.specs.Moved.{moved}
use Rattle.play_core.specs.Names.{Name, Noted, Wild, notes_of, wild_in}
use Rattle.play_core.proofs.Noting.{notes_none}
use Rattle.play_core.specs.Runs.{is_runnable}
use Rattle.play_core.proofs.Lists.{map_get}
use Rattle.client_programs.specs.declared.rogue.Rogue.{Rogue}
use Rattle.client_programs.specs.Rogue.Acts.{is_done}
use Rattle.client_programs.specs.Rogue.Clients.{FitsRogue, left_of}
use Rattle.actor_set.specs.Actors.{ActorStandsFor, MayStep, part_of}
use Rattle.actor_set.specs.declared.actor.Actor.{Actor}
use Rattle.actor_set.specs.declared.actor.Actor.TheVariants as Kinds
use Rattle.actor_set.specs.Laws.Kinds.{AllCalm, manner_of}
use Rattle.actor_set.proofs.LawsLemmas.Rounds.{calm_or_rogue, may_is}
use Rattle.actor_set.proofs.LawsLemmas.Told.{none_wild}
use Rattle.actor_set.proofs.RogueLemmas.Playing.{runs as acts_run}
use Rattle.player_kit.specs.Calls.Noting.{NotedHappens, kept_at, last_put, notes_in}
use Rattle.player_kit.specs.declared.noted_wires.wires.NotedWires.{NotedWires}
use Rattle.player_kit.proofs.Calls.Lasting.{last_notes}
use Rattle.system_core.specs.Inside.{setting_of, IsSystem}
use Rattle.system_core.specs.Lawful.{IsFitted}
use Rattle.system_core.specs.Shows.{Setting, hostile_in}
use Rattle.system_core.specs.Systems.{HoldsBefore}
use Rattle.system_core.specs.declared.system.System.TheInside.{Inside}
use Rattle.system_core.proofs.Stepping.{run_flag, told}

-- a step over queues of which names are kept is one over these queues
abbrev pub plain_step : (w v : NotedWires) (x x' : Actor) (e : Event) → Stepped ActorStandsFor NotedHappens w v x x' e → Stepped ActorStandsFor Happens w.world v.world x x' e
plain_step w v x x' e st = record { body = st.body; happened = st.happened.happened; kept = st.kept }

-- the last name after it is the one that it adds
pub names_then : (names : List Noted) (wild : Wild) (w v : NotedWires) (x x' : Actor) (e : Event) (st : Stepped ActorStandsFor NotedHappens w v x x' e) → ((n : ℕ) → kept_at w.kept.items n ≡ wild n) → w.last ≡ None → names ++ notes_in e.queue.0 v.last ≡ names ++ notes_of wild (record { event = e; body = st.body })
names_then names wild w v x x' e st kept none =
    let d : Deed = record { event = e; body = st.body } in
    ap (λ ns. names ++ ns) (last_notes wild d v.last (st.happened.last ∙ ap₂ (λ (b : Bool) (l : Option Name). last_put b (if_put e.op (cargo_of d)) l) (kept e.queue.0) none))

-- there is one only where names are kept
some_kept : (b : Bool) (cs : List Cargo) → is_some (last_put b cs None) ≡ true → b ≡ true
some_kept true cs is = refl
some_kept false cs is = cc

pub kept_there : (w v : NotedWires) (x x' : Actor) (e : Event) → Stepped ActorStandsFor NotedHappens w v x x' e → w.last ≡ None → is_some v.last ≡ true → kept_at w.kept.items e.queue.0 ≡ true
kept_there w v x x' e st none is =
    let d : Deed = record { event = e; body = st.body } in
    some_kept (kept_at w.kept.items e.queue.0) (if_put e.op (cargo_of d)) (ap is_some (sym (st.happened.last ∙ ap (last_put (kept_at w.kept.items e.queue.0) (if_put e.op (cargo_of d))) none)) ∙ is)

not_done : (b : Bool) → not b ≡ true → b ≡ false
not_done true h = cc
not_done false h = refl

-- a step may be asked of an actor that is runnable
pub may_here : (a : Inside) (i : IsSystem a) (place k : ℕ) (x : Actor) → slice_get a.running.list place ≡ Some k → slice_get a.actors.items k ≡ Some x → MayStep (λ n. n < length a.wires.world) x
may_here a i place k x at here = by (calm_or_rogue x)
  where
    rogue : (r : Rogue) → slice_get a.actors.items k ≡ Some (Kinds.Rogue r) → MayStep (λ n. n < length a.wires.world) (Kinds.Rogue r)
    rogue r there =
        let part : slice_get (map part_of a.actors.items) k ≡ Some (part_of (Kinds.Rogue r)) = map_get part_of a.actors.items k (Kinds.Rogue r) there in
        let cast = map part_of a.actors.items in
        let history = (setting_of a).history in
        let wants = (told history a.rows.items (setting_of a).names cast (part_of (Kinds.Rogue r))).wants (moved history a.journal.items) in
        let flag : is_runnable (manner_of (part_of (Kinds.Rogue r))) k wants history a.rows.items a.journal.items ≡ true = run_flag history a.rows.items (setting_of a).names cast a.journal.items place k (part_of (Kinds.Rogue r)) part (rw i.running at at) in
        let done : is_done (left_of r) ≡ false = not_done (is_done (left_of r)) (sym (acts_run k r a.journal.items wants history a.rows.items (i.holds.acts k r there)) ∙ flag) in
        let fits : FitsRogue (end_at a.wires.world) r = i.holds.fits k (Kinds.Rogue r) there in
        (done, All-append (λ (q : QueueId). q.0 < length a.wires.world) r.inputs.items r.outputs.items (λ m d lt. ltb-true _ _ (fits.inputs m d lt).owned) (λ m d lt. ltb-true _ _ (fits.outputs m d lt).0.owned))

    by : (manner_of (part_of x) ≡ Calm) ⊎ ((r : Rogue) × (x ≡ Kinds.Rogue r)) → MayStep (λ n. n < length a.wires.world) x
    by (inl calm) = may_is (λ n. n < length a.wires.world) x calm
    by (inr r) = subst (MayStep (λ n. n < length a.wires.world)) (sym r.1) (rogue r.0 (here ∙ ap Some r.1))

-- a setting goes on to fit with more names, where there are none of a cast in which nobody is
-- hostile
pub refitted : (s : Setting) (ns : List Noted) → IsFitted s → (AllCalm s.cast → ns ≡ []) → IsFitted (record s { names = ns })
refitted s ns fitted none = record {
  scene_is = fitted.scene_is;
  names_are = none;
  peopled = fitted.peopled;
  seated = fitted.seated;
  ends = fitted.ends;
  split = fitted.split;
  wired = fitted.wired;
  pooled = fitted.pooled;
  owners = fitted.owners;
  numbered = fitted.numbered;
  places = fitted.places;
}

pub before_on : (s : Setting) (ns : List Noted) → HoldsBefore s → HoldsBefore (record s { names = ns })
before_on s ns before = record { bells_hold = before.bells_hold; flows = before.flows }

-- a step in which nobody is hostile adds none
pub none_more : (s : Setting) (d : Deed) → IsFitted s → AllCalm s.cast → s.names ++ notes_of (wild_in (hostile_in s) s.rows) d ≡ []
none_more s d fitted calm = ap₂ (λ (xs ys : List Noted). xs ++ ys) (fitted.names_are calm) (notes_none (wild_in (hostile_in s) s.rows) d (none_wild s.cast calm s.rows))
