-- What threads left is where the journal of the system begins that takes it over.
use Rattle.std.proofs.Common.{◌≡◌, ◌<◌, ◌≤◌, ◌⊎◌, ◌+◌, ◌==◌, ◌≢◌, ℕ, Bool, true, false, if◌then◌else◌, Option, Some, None, List, [], ◌∷◌, length, map, slice_get, refl, sym, ap, ◌∙◌, subst, arith, inl, inr, eq-eqb}
use Rattle.std.proofs.Math.Dec.{eqb}
use Rattle.std.proofs.lemmas.Bool.Decides.{eqb_tells}
use Rattle.std.proofs.lemmas.List.{length-map}
use Rattle.wire_core.specs.declared.names.QueueRow.{QueueRow}
use Rattle.wire_core.specs.Ends.{Role, Consumer, Producer}
use Rattle.wire_core.specs.Journal.{History, Tally, Track, history_at, owner_of}
use Rattle.wire_core.specs.Marks.{sum_below}
use Rattle.spsc_queue.specs.Known.Ends.{EndIs, RingIs}
use Rattle.seat_wires.specs.Places.{stands_at, ends_of}
use Rattle.seat_wires.specs.Places.Are.{SeatsAre}
use Rattle.seat_wires.specs.Went.{end_steps, seats_steps}
use Rattle.spsc_queue.specs.Steps.{steps_made}
use Rattle.owner_law.proofs.Counting.{below_plus, below_same}
use Rattle.play_core.proofs.Lists.{some_is, map_get, map_from, there_is, there_below}
use Rattle.actor_set.specs.Actors.{part_anew, part_of, actor_rests}
use Rattle.actor_set.specs.Parts.{Part}
use Rattle.order_law.specs.ActorParts.Given.{Kept, apart_of}
use Rattle.order_law.specs.ActorParts.Opened.{HaveNothing, AreAsOpened}
use Rattle.order_law.specs.ActorParts.Parting.{Apart, AreApart, HasItsEnds, ends_at, end_in}
use Rattle.order_law.specs.ActorParts.Finished.{OwnEnd}
use Rattle.order_law.specs.ActorParts.Going.{AreSeatsOf, HasGone}
use Rattle.order_law.proofs.ActorParts.Standing.{found}
use Rattle.order_law.specs.Ended.Tracks.{TellsEnds}
use Rattle.pd_runner.specs.Facing.{CameApart, CameWithin, HasSpent, IsResting}
use Rattle.sdf_plan.specs.declared.plan.Plan.{Plan}
use Rattle.trace_text.specs.declared.trace.Trace.{Trace}
use Rattle.system_core.proofs.Growing.{keeps_rests}
use Rattle.system_core.proofs.Telling.{keeps_spent}
use Rattle.system_core.specs.Shows.{Setting, Shown}
use Rattle.sdf_check.specs.Valid.{Valid}
use Rattle.system_core.specs.Lawful.{StandsLawful}
use Rattle.system_core.specs.Plays.{Played}
use Rattle.system_core.specs.Builds.{IsBuilt}
use Rattle.system_core.specs.PlanPlays.{IsSystemOf}
use Rattle.system_core.proofs.Together.{played_on}
use Rattle.sddf_top.specs.SystemRun.Ran.{IsRan}
use Rattle.system_core.specs.Adopting.{HaveComeFrom, IsAdopted, rests_first, own_steps, steps_first, AllRest, OneSpent}
use Rattle.sddf_top.proofs.SystemRun.Counting.{steps_below}

module _ (s : Setting) (rings : List RingIs) (parts : List Apart) (come : HaveComeFrom s rings parts) (t : Shown) (is : IsAdopted s parts t) where
  abbrev rows : List QueueRow
  rows = s.rows

  cast_long : length t.setting.cast ≡ length parts
  cast_long = ap length is.cast ∙ length-map parts (λ (p : Apart). part_anew p.actor)

  rows_are : t.setting.rows ≡ s.rows
  rows_are = ap (λ (z : Setting). z.rows) is.setting

  -- where all rested, all rest where the journal begins
  pub all_rest : ((k : ℕ) (p : Apart) → slice_get parts k ≡ Some p → IsResting p) → AllRest t.setting
  all_rest rest k part at =
      let x = map_from (λ (p : Apart). part_anew p.actor) parts k part (ap (λ (c : List Part). slice_get c k) (sym is.cast) ∙ at) in
      subst (λ (q : Part). rests_first t.setting q ≡ true) x.2 (is.rests k x.0 x.1 ∙ rest k x.0 x.1)

  -- the steps of an actor's ends are those that its history tells
  module _ (k : ℕ) (p : Apart) (here : slice_get parts k ≡ Some p) where
    has : HasItsEnds rows k p
    has = come.after.ends k p here

    abbrev end_ : Role → ℕ → Option EndIs
    end_ r n = end_in (ends_at p r) n

    -- an end is its own by the rows
    own_row : (r : Role) (n : ℕ) (e : EndIs) → end_ r n ≡ Some e → (row : QueueRow) × (slice_get rows n ≡ Some row) × (owner_of row r ≡ k)
    own_row r n e at = let f = found (ends_at p r) n e at in let o = has.own r f.0 f.1 f.2 in (o.0, ap (slice_get rows) (sym f.3) ∙ o.1, o.2)

    none_past : (r : Role) (n : ℕ) → length rows ≤ n → end_ r n ≡ None
    none_past r n le = by (end_ r n) refl
      where
        by : (o : Option EndIs) → end_ r n ≡ o → o ≡ None
        by None e = refl
        by (Some x) e = absurd (let row = own_row r n x e in let lt = there_below rows n row.0 row.1 in omega (arith, le, lt))

    own_is : (r : Role) (n : ℕ) (e : EndIs) (row : QueueRow) → end_ r n ≡ Some e → owner_of row r ≡ k → OwnEnd parts row r n e
    own_is r n e row at owner = record { owner = p; there = ap (slice_get parts) owner ∙ here; end = at }

    other_end : (r : Role) (n : ℕ) (row : QueueRow) → slice_get rows n ≡ Some row → (e : EndIs) × OwnEnd parts row r n e
    other_end r n row at =
        let q = there_is parts (owner_of row r) (subst (λ (m : ℕ). owner_of row r < m) (sym (sym (length-map parts (λ (x : Apart). part_of x.actor)) ∙ ap length is.was)) (come.fitted.peopled n row at r)) in
        let e = (come.after.ends (owner_of row r) q.0 q.1).all r n row at refl in
        (e.0, record { owner = q.0; there = q.1; end = e.1 })

    -- what the history tells of an end of a queue, where it is this actor's, and else nothing
    shares : (r : Role) (n : ℕ) (row : QueueRow) → slice_get rows n ≡ Some row → (told : ℕ) → ((e : EndIs) → OwnEnd parts row r n e → told ≡ steps_made e.knows) → end_steps (end_ r n) ≡ (if owner_of row r == k then told else 0)
    shares r n row at told tells = by (eqb_tells (owner_of row r) k)
      where
        by : ((eqb (owner_of row r) k ≡ true) × (owner_of row r ≡ k)) ⊎ ((eqb (owner_of row r) k ≡ false) × (owner_of row r ≢ k)) → end_steps (end_ r n) ≡ (if owner_of row r == k then told else 0)
        by (inl own) =
            let e = has.all r n row at own.1 in
            ap end_steps e.1 ∙ (sym (tells e.0 (own_is r n e.0 row e.1 own.1)) ∙ sym (ap (λ (b : Bool). if b then told else 0) own.0))
        by (inr away) = ap end_steps (none (end_ r n) refl) ∙ sym (ap (λ (b : Bool). if b then told else 0) away.0)
          where
            none : (o : Option EndIs) → end_ r n ≡ o → end_ r n ≡ None
            none None e = e
            none (Some x) e = absurd (let o = own_row r n x e in away.1 (ap (λ (w : QueueRow). owner_of w r) (some_is (sym at ∙ o.1)) ∙ o.2))

    abbrev told_at : ℕ → Track
    told_at n = history_at t.setting.history n

    at_queue : (n : ℕ) → n < length rows → end_steps (end_ Producer n) + end_steps (end_ Consumer n) ≡ own_steps k (slice_get rows n) (told_at n)
    at_queue n lt =
        let row = there_is rows n lt in
        let p' = other_end Producer n row.0 row.1 in
        let c' = other_end Consumer n row.0 row.1 in
        let sent = shares Producer n row.0 row.1 (told_at n).producer.steps (λ e own. ap (λ (y : Tally). y.steps) (is.keeps n row.0 row.1 e c'.0 own c'.1).producer) in
        let took = shares Consumer n row.0 row.1 (told_at n).consumer.steps (λ e own. ap (λ (y : Tally). y.steps) (is.keeps n row.0 row.1 p'.0 e p'.1 own).consumer) in
        let told : own_steps k (slice_get rows n) (told_at n) ≡ own_steps k (Some row.0) (told_at n) = ap (λ (o : Option QueueRow). own_steps k o (told_at n)) row.1 in
        omega (arith, sent, took, told)

    pub all_steps : (after : SeatsAre) → AreSeatsOf rings p after → seats_steps after ≡ steps_first t.setting k
    all_steps after are =
        let put = steps_below after.producers (length rows) (λ n le. are.same Producer n ∙ none_past Producer n le) in
        let took = steps_below after.consumers (length rows) (λ n le. are.same Consumer n ∙ none_past Consumer n le) in
        let both = below_plus (λ n. end_steps (stands_at after.producers n)) (λ n. end_steps (stands_at after.consumers n)) (length rows) in
        let each = below_same (λ n. end_steps (stands_at after.producers n) + end_steps (stands_at after.consumers n)) (λ n. own_steps k (slice_get rows n) (told_at n)) (length rows)
        (λ n lt. (let p_is = ap end_steps (are.same Producer n) in let c_is = ap end_steps (are.same Consumer n) in let q = at_queue n lt in omega (arith, p_is, c_is, q))) in
        let told : steps_first t.setting k ≡ sum_below (λ n. own_steps k (slice_get rows n) (told_at n)) (length rows) = ap (λ (rs : List QueueRow). sum_below (λ n. own_steps k (slice_get rs n) (told_at n)) (length rs)) rows_are in
        omega (arith, put, took, both, each, told)

    pub one_spent : (limit : ℕ) (old : Apart) → HasSpent rings limit old p → OneSpent t.setting limit
    one_spent limit old spent =
        let steps = spent.2.comes.went.least in
        let all = all_steps spent.2.after spent.2.ended in
        let le = spent.1 in
        (k, subst (λ (m : ℕ). k < m) (sym cast_long) (there_below parts k p here), omega (arith, steps, all, le))

map_twice : (ps : List Kept) → map (λ (p : Apart). part_of p.actor) (map apart_of ps) ≡ map (λ (p : Kept). part_of p.0.actor) ps
map_twice [] = refl
map_twice (p ∷ ps) = ap (λ (l : List Part). part_of p.0.actor ∷ l) (map_twice ps)

-- what the threads answered came from the system that was built
module _ (plan : Plan) (trace : Trace) (built : Shown) (is : IsBuilt plan trace built) (stands : StandsLawful built) (rings rings' : List RingIs) (same : rings' ≡ rings) (olds news : List Kept) (apart : AreApart built.setting.rows rings (map apart_of olds)) (nothing : HaveNothing (map apart_of olds)) (opened : AreAsOpened built.setting.rows (map apart_of olds)) (cast : map (λ (p : Kept). part_of p.0.actor) olds ≡ built.setting.cast) (many : length news ≡ length olds) (rows : List QueueRow) (rows_is : rows ≡ built.setting.rows) (apart' : AreApart rows rings' (map apart_of news)) (limit : ℕ)
    (came : (k : ℕ) (old new : Apart) → slice_get (map apart_of olds) k ≡ Some old → slice_get (map apart_of news) k ≡ Some new → CameWithin rings limit old new) where
  pub come : HaveComeFrom built.setting rings' (map apart_of news)
  come = record {
    begins = is.begins;
    fitted = stands.fitted;
    olds = map apart_of olds;
    before = subst (λ (rs : List RingIs). AreApart built.setting.rows rs (map apart_of olds)) (sym same) apart;
    nothing = nothing;
    opened = opened;
    cast = map_twice olds ∙ cast;
    many = length-map news apart_of ∙ (many ∙ sym (length-map olds apart_of));
    after = subst (λ (rs : List QueueRow). AreApart rs rings' (map apart_of news)) rows_is apart';
    gone = λ k old new at_old at_new. subst (λ (rs : List RingIs). HasGone rs old new) (sym same) (went old new (came k old new at_old at_new));
  }
    where
      went : (old new : Apart) → CameWithin rings limit old new → HasGone rings old new
      went old new c = record { before = c.2.before; after = c.2.after; began = c.2.began; ended = c.2.ended; calls = c.2.comes.calls; goes = c.2.comes.goes }

  -- where its journal begins all rest, or one has spent its steps
  pub first_moment : (t : Shown) → IsAdopted built.setting (map apart_of news) t → ((k : ℕ) (new : Apart) → slice_get (map apart_of news) k ≡ Some new → IsResting new) ⊎ ((k : ℕ) × (old : Apart) × (new : Apart) × (slice_get (map apart_of olds) k ≡ Some old) × (slice_get (map apart_of news) k ≡ Some new) × HasSpent rings limit old new) → AllRest t.setting ⊎ OneSpent t.setting limit
  first_moment t adopted (inl rest) = inl (all_rest built.setting rings' (map apart_of news) come t adopted rest)
  first_moment t adopted (inr spent) = inr (one_spent built.setting rings' (map apart_of news) come t adopted spent.0 spent.2 spent.4 limit spent.1 (subst (λ (rs : List RingIs). HasSpent rs limit spent.1 spent.2) (sym same) spent.5))

-- so the system that was played on is what a run shows
pub is_ran : (plan : Plan) (trace : Trace) (limit : ℕ) (s : Setting) (parts : List Apart) (t new : Shown) → StandsLawful t → IsAdopted s parts t → AllRest t.setting ⊎ OneSpent t.setting limit → Played t new 0 limit → IsSystemOf plan trace new → IsRan plan trace limit new
is_ran plan trace limit s parts t new stands adopted first played system = record {
  played = played_on t new 0 limit adopted.journal played plan trace system;
  first = goes_on first;
}
  where
    goes_on : AllRest t.setting ⊎ OneSpent t.setting limit → AllRest new.setting ⊎ OneSpent new.setting limit
    goes_on (inl rest) = inl (keeps_rests t.setting new.setting stands.lawful.names_tell.0 played.setting rest)
    goes_on (inr spent) = inr (keeps_spent t.setting new.setting limit played.setting spent)
