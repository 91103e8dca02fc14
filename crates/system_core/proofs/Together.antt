use Rattle.std.proofs.Common.{◌≡◌, ◌≤◌, ◌++◌, ℕ, List, [], length, map, sym, ap, ◌∙◌, subst, arith, refl, Result, Ok, Err, IfOk}
use Rattle.wire_core.specs.Picks.{PickedFrom}
use Rattle.wire_core.specs.Journal.{History}
use Rattle.sdf_plan.specs.declared.plan.Plan.{Plan}
use Rattle.sdf_check.specs.Valid.{Valid}
use Rattle.trace_text.specs.declared.trace.Trace.{Trace}
use Rattle.trace_text.specs.Traces.{IsReadFor}
use Rattle.play_core.specs.Names.{Noted}
use Rattle.actor_set.specs.Laws.Kinds.{AllCalm}
use Rattle.system_core.specs.Shows.{Setting, Shown, runs}
use Rattle.system_core.specs.Plays.{Played, IsSpent, runnable_now}
use Rattle.system_core.specs.declared.system.Ending.{Ending}
use Rattle.system_core.specs.declared.system.Ending.TheVariants as Ends
use Rattle.system_core.specs.Lawful.{StandsLawful}
use Rattle.order_law.specs.ActorParts.Parting.{Apart}
use Rattle.cast_core.specs.Casts.{net_place, blk_place}
use Rattle.actor_set.specs.Parts.{Part}
use Rattle.cast_law.specs.Places.{pool_place}
use Rattle.cast_law.specs.Restarting.{AreAlike, disarmed}
use Rattle.cast_law.proofs.Restarted.{as_many, blk_alike, plays_alike, rogues_alike, whole_alike}
use Rattle.system_core.specs.Adopting.{IsAdopted}
use Rattle.system_core.proofs.Adopting.{apart_disarmed}
use Rattle.cast_core.specs.Hostile.{HasNoRogue}
use Rattle.system_core.specs.Builds.{IsBuilt, IsCastOf, BeginsAnew}
use Rattle.system_core.specs.PlanPlays.{IsSystemOf, IsOfItsPlan, StaysOfItsPlan, IsPlayed, IsPlayedOn, HasEnded}
use Rattle.system_core.specs.Dropped.{calls_by}
use Rattle.system_core.proofs.Leasing.{net_anew, net_drops_so}
use Rattle.system_core.proofs.Networking.{sends_are, shows_frames, wild_is}
use Rattle.system_core.proofs.Quieting.{none_there, shows_whole_net, shows_whole_blk}
use Rattle.system_core.proofs.Bounded.{bounded}
use Rattle.system_core.proofs.Replying.{shows_replies}
use Rattle.system_core.proofs.PoolsLemmas.Placing.{cast_calm}
use Rattle.system_core.proofs.PoolsLemmas.Showing.{tells_owners}
use Rattle.system_core.proofs.Arriving.{LawBeside, LawWhole, class_there, serial_anew, serial_arrives, serial_drops_so, serial_scripts, serial_shows, serial_whole}
use Rattle.system_core.proofs.Marking.{past_looks}

-- a system of a plan and a trace, whatever its queues had before its journal begins
module _ (plan : Plan) (trace : Trace) (valid : Valid plan) (read : IsReadFor plan trace) (s : Shown) (cast_is : IsCastOf plan trace s.setting) (stands : StandsLawful s) (beside : LawBeside) (whole : LawWhole) where
  calm : HasNoRogue plan → AllCalm s.setting.cast
  calm none = cast_calm plan trace valid none s.setting cast_is

  pub is_system : IsSystemOf plan trace s
  is_system = record {
    cast = cast_is;
    calm = calm;
    bounded = λ none. bounded plan trace valid none s cast_is stands (λ serial has. class_there plan trace read s cast_is stands serial has none.serial);
    stands = stands;
    owners = tells_owners plan trace s valid cast_is stands;
    arrives = λ serial has. serial_arrives plan trace read s cast_is stands serial has beside;
    drops = λ serial has. serial_drops_so plan trace read s cast_is stands serial has beside;
    past = past_looks s stands;
    anew = λ begins serial has. serial_anew plan trace read s cast_is stands serial has begins;
    shows = λ serial has. serial_shows plan trace read s cast_is stands serial has beside;
    scripts = λ gives serial has. serial_scripts plan trace read s cast_is stands serial has gives;
    drops_net = λ net has. net_drops_so plan trace s cast_is stands net has;
    anew_net = λ begins net has. net_anew plan trace s cast_is stands net has begins;
    shows_net = λ net has. shows_frames plan net trace s cast_is has stands.told (calls_by stands.calls.past s.journal) stands.calls.calls_are;
    plain = λ gives net has. sends_are plan net trace s cast_is has stands.told (calls_by stands.calls.past s.journal) stands.calls.calls_are (none_there plan trace s.setting valid gives net has cast_is);
    wild_net = λ net has. wild_is plan net trace s cast_is has stands.told (calls_by stands.calls.past s.journal) stands.calls.calls_are;
    shows_blk = λ blk has. shows_replies plan blk trace s cast_is has stands.told;
    whole = λ quiet calm serial has. serial_whole plan trace read s cast_is stands serial has beside whole quiet calm;
    whole_net = λ quiet gives net has. shows_whole_net s stands quiet plan valid gives net has trace cast_is;
    whole_blk = λ quiet gives blk has. shows_whole_blk s stands quiet plan valid gives blk has trace cast_is;
  }

-- of each plan and trace of which it has the cast
pub of_plan : (s : Shown) → StandsLawful s → LawBeside → LawWhole → IsOfItsPlan s
of_plan s stands beside whole plan trace valid read cast_is = is_system plan trace valid read s cast_is stands beside whole

-- who acts in a system doesn't depend on its history
same_cast : (plan : Plan) (trace : Trace) (s : Setting) (h : History) → IsCastOf plan trace s → IsCastOf plan trace (record s { history = h })
same_cast plan trace s h is = record {
  rows = is.rows;
  pools = is.pools;
  count = is.count;
  scene = is.scene;
  parts = is.parts;
  whole = is.whole;
  whole_block = is.whole_block;
  rogues = is.rogues;
  net = is.net;
  serial = is.serial;
  blk = is.blk;
}

-- nor on the names that are kept
named_cast : (plan : Plan) (trace : Trace) (s : Setting) (ns : List Noted) → IsCastOf plan trace s → IsCastOf plan trace (record s { names = ns })
named_cast plan trace s ns is = record {
  rows = is.rows;
  pools = is.pools;
  count = is.count;
  scene = is.scene;
  parts = is.parts;
  whole = is.whole;
  whole_block = is.whole_block;
  rogues = is.rogues;
  net = is.net;
  serial = is.serial;
  blk = is.blk;
}

-- a play keeps the cast
pub stays_of_plan : (old new : Shown) (seed limit : ℕ) → Played old new seed limit → IsOfItsPlan new → StaysOfItsPlan old new
stays_of_plan old new seed limit played of plan trace valid read was = of plan trace valid read (subst (IsCastOf plan trace) (sym played.setting.stays) (named_cast plan trace old.setting new.setting.names was.cast))

-- one play that began with nothing picked its whole journal
pub played_on : (old new : Shown) (seed limit : ℕ) → old.journal ≡ [] → Played old new seed limit → (plan : Plan) (trace : Trace) → IsSystemOf plan trace new → IsPlayedOn plan trace seed limit new
played_on old new seed limit none played plan trace system =
    let more_is : played.more ≡ new.journal = sym (played.journal ∙ ap (λ j. j ++ played.more) none) in
    record {
      system = system;
      picked = subst (λ j. PickedFrom (runs new.setting) seed [] j) more_is (subst (λ j. PickedFrom (runs new.setting) seed j played.more) none played.picked);
      within = subst (λ j. length j ≤ limit) more_is played.within;
    }

-- and so did one of a system that was built
pub together : (old new : Shown) (seed limit : ℕ) → Played old new seed limit → (plan : Plan) (trace : Trace) → IsBuilt plan trace old → IsSystemOf plan trace new → IsPlayed plan trace seed limit new
together old new seed limit played plan trace built system = record {
  begins = subst BeginsAnew (sym played.setting.stays) built.begins;
  played = played_on old new seed limit built.journal played plan trace system;
}

-- nor on what its hostile clients have yet to do
restarted : (plan : Plan) (trace : Trace) (s : Setting) (h : History) (c : List Part) (ns : List Noted) → AreAlike s.cast c → IsCastOf plan trace s → IsCastOf plan trace (record s { history = h; cast = c; names = ns })
restarted plan trace s h c ns alike is = record {
  rows = is.rows;
  pools = is.pools;
  count = as_many s.cast c alike ∙ is.count;
  scene = is.scene;
  parts = plays_alike s.cast c alike plan trace is.parts;
  whole = λ net has. whole_alike s.cast c alike s.scene s.rows (net_place plan trace) (is.whole net has);
  whole_block = λ blk has. blk_alike s.cast c alike s.scene s.rows (blk_place plan trace) (is.whole_block blk has);
  rogues = rogues_alike s.cast c alike s.rows (pool_place plan trace).net (pool_place plan trace).blk is.rogues;
  net = is.net;
  serial = is.serial;
  blk = is.blk;
}

-- so a system that goes on from what actors left has the cast that these came from
pub adopted_cast : (plan : Plan) (trace : Trace) (s : Setting) (parts : List Apart) (t : Shown) → IsCastOf plan trace s → IsAdopted s parts t → IsCastOf plan trace t.setting
adopted_cast plan trace s parts t cast adopted =
    let alike : AreAlike s.cast t.setting.cast = ap (map disarmed) adopted.cast ∙ (apart_disarmed parts ∙ ap (map disarmed) adopted.was) in
    subst (IsCastOf plan trace) (sym adopted.setting) (restarted plan trace s t.setting.history t.setting.cast t.setting.names alike cast)

-- what follows from two facts of a value, where there is one
pub both_ok : {X Y : Type 0} (r : Result X Y) (P Q R : X → Type 0) → ((x : X) → P x → Q x → R x) → IfOk r P → IfOk r Q → IfOk r R
both_ok (Ok x) P Q R f p q = f x p q
both_ok (Err y) P Q R f p q = tt

-- how a play ended that began with nothing
pub ended : (limit : ℕ) (old new : Shown) (e : Ending) → old.journal ≡ [] → (e ≡ Ends.Quiet → runnable_now new ≡ []) → (e ≡ Ends.Spent → IsSpent old new limit) → HasEnded limit new e
ended limit old new Ends.Quiet none quiet spent = quiet refl
ended limit old new Ends.Spent none quiet spent = let s = spent refl in (omega (arith, s.0, ap length none), s.1)
