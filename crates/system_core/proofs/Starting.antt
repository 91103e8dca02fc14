use Rattle.std.proofs.Common.{◌≡◌, ◌<◌, ℕ, Bool, not, Some, List, [], length, map, slice_get, slice_index_or, refl, sym, ap, ◌∙◌, subst, arith}
use Rattle.std.proofs.lemmas.List.{length-map}
use Rattle.std.proofs.lemmas.Option.{slice_get_read}
use Rattle.wire_core.specs.declared.names.PoolRow.{PoolRow}
use Rattle.wire_core.specs.declared.names.QueueRow.{QueueRow}
use Rattle.wire_core.specs.Lists.{nothing_passed}
use Rattle.wire_core.specs.Queues.{Queue, starts, queue_at, end_at, is_pending}
use Rattle.wire_core.specs.Ends.{Role, Consumer, Producer}
use Rattle.wire_core.specs.Journal.{History, start_history, start_track, IsShown}
use Rattle.wire_core.proofs.BellTheorem.{start_is}
use Rattle.turn_kit.specs.Pace.{pendings}
use Rattle.turn_kit.proofs.Pacing.{paced_anew}
use Rattle.actor_set.specs.Actors.{actor_round, actor_rests, part_of}
use Rattle.actor_set.specs.declared.actor.Actor.{Actor}
use Rattle.play_core.specs.Names.{Noted, Wild, told_by, wild_in}
use Rattle.play_core.specs.Runs.{is_runnable, flags_from}
use Rattle.play_core.specs.Moved.{moved, noes_of}
use Rattle.play_core.specs.Wants.{Needful, Want}
use Rattle.play_core.specs.Sheets.{needful}
use Rattle.play_core.proofs.Noting.{nothing_noted}
use Rattle.actor_set.specs.Parts.{Part}
use Rattle.play_core.specs.Manners.{Manner}
use Rattle.actor_set.specs.Laws.Kinds.{hostiles, scene_of, manner_of, manners, idles}
use Rattle.actor_set.specs.Laws.Scenes.{told_sheet}
use Rattle.actor_set.proofs.LawsLemmas.Calm.{manner_at}
use Rattle.actor_set.proofs.RogueLemmas.Playing.{begins}
use Rattle.wired_law.specs.Wiring.{AreAtWork, TellsKept}
use Rattle.wired_law.proofs.Wiring.{nothing_sent}
use Rattle.cast_law.specs.Pools.Places.{IsInPlace}
use Rattle.cast_law.proofs.TurnsLemmas.{noted_tell, told_turns}
use Rattle.system_core.specs.Starts.{AreStarting}
use Rattle.system_core.specs.Systems.{Holds}
use Rattle.play_core.proofs.Lists.{map_get}
use Rattle.play_core.proofs.Flags.{flag_at, flags_length}
use Rattle.system_core.proofs.Hosts.{calm_there}
use Rattle.system_core.proofs.Marking.{told_anew}
use Rattle.system_core.proofs.RunsNow.{idle_here}
use Rattle.player_kit.proofs.Listing.{not_not}
use Rattle.player_kit.proofs.Showing.{starts_shown, nothing_there, none_stored}

-- nobody looked in vain yet
none_looked : (r : Role) → 0 ≡ noes_of r start_track
none_looked Consumer = refl
none_looked Producer = refl

-- a start state holds
module _ (rows : List QueueRow) (pools : List PoolRow) (actors : List Actor) (in_place : IsInPlace rows pools (map part_of actors)) (s : AreStarting rows actors) where
  abbrev wild : Wild
  wild = wild_in (hostiles (map part_of actors)) rows

  work : AreAtWork (end_at (starts rows)) rows actors nothing_passed
  work = record { fits = s.fits; stands = s.stands; hands_over = λ n. ([], refl); kinds = λ n row at k c there. cc }

  kept : TellsKept wild (told_by []) nothing_passed
  kept = noted_tell wild [] nothing_passed (nothing_noted wild)

  none_here : (r : Role) (n : ℕ) → 0 ≡ (moved (start_history rows) []).noes r n
  none_here r n = none_looked r ∙ ap (noes_of r) (sym (start_is rows n))

  pub start_holds : Holds (start_history rows) rows [] (starts rows) actors []
  start_holds = record {
    passed = nothing_passed;
    stands_there = λ n. sym (nothing_there rows n);
    shows_taken = λ n. ap (λ t. t.taken) (sym (start_is rows n));
    shows_sent = λ n. ap (λ t. t.sent) (sym (start_is rows n));
    shows_noes = none_here;
    told = told_anew (start_history rows) actors nothing_passed (record { taken = λ n. ap (λ t. t.taken) (sym (start_is rows n)); sent = λ n. ap (λ t. t.sent) (sym (start_is rows n)); noes = none_here }) s.stands;
    kinds = λ n row at k c there. cc;
    size = simp length-map;
    queues = λ n row at. subst (IsShown row (queue_at (starts rows) n)) (sym (start_is rows n)) (starts_shown rows n row at);
    fits = s.fits;
    stands = s.stands;
    carry = λ place placed. record { sent = λ n. ap (λ t. t.sent) (start_is rows n); taken = λ n. ap (λ t. t.taken) (start_is rows n); bodies = λ n calm k c at b. cc; others = λ n is_wild k c at b off. cc };
    asks = λ place placed blk is k q at is_wild. tt;
    sends = nothing_sent rows (map part_of actors);
    noted = nothing_noted wild;
    in_turn = told_turns (end_at (starts rows)) rows pools actors nothing_passed in_place work (nothing_sent rows (map part_of actors)) (told_by []) kept;
    acts = λ k r at. begins k r (s.acts k r at);
    owners = s.owners;
    unstored = λ n row at calm. none_stored rows n;
    paced = λ k x at calm. paced_anew (pendings (start_history rows) []) (actor_round x) (s.rounds k x at (calm_there (map part_of actors) k x (map_get part_of actors k x at) calm.calm));
    peers = s.peers;
    few = s.few;
    legal = tt;
  }

-- with what the actors want before the first call
module _ (history : History) (rows : List QueueRow) (names : List Noted) (actors : List Actor) where
  abbrev pub cast : List Part
  cast = map part_of actors

  abbrev wants : Part → List Want
  wants p = (told_sheet (scene_of cast) (wild_in (hostiles cast) rows) (told_by names) p).wants (moved history [])

  abbrev pub wanted : Needful
  wanted = needful (told_sheet (scene_of cast) (wild_in (hostiles cast) rows) (told_by names)) cast (moved history [])

  abbrev pub flags : List Bool
  flags = flags_from (manners cast) 0 history rows wanted []

  pub flags_many : length flags ≡ length actors
  flags_many = flags_length (manners cast) 0 history rows wanted [] ∙ simp length-map

  -- whether an actor is runnable then
  pub flag_start : (world : List Queue) (k : ℕ) (x : Actor) (idle : Bool) → Holds history rows names world actors [] → k < length actors → x ≡ slice_index_or actors k x → idle ≡ idles (manner_of (part_of x)) (actor_rests x) (is_pending k world) → slice_get flags k ≡ Some (not idle)
  flag_start world k x idle holds lt at is =
      let here : slice_get actors k ≡ Some x = slice_get_read actors _ k x refl lt at in
      let runs : Manner → Bool = λ m. is_runnable m k (wants (part_of x)) history rows [] in
      let said : idle ≡ not (runs (manner_of (part_of x))) = is ∙ idle_here cast history rows names world actors [] holds refl k x here in
      flag_at (manners cast) 0 history rows wanted [] k k (wants (part_of x)) (omega arith) (map_get wants cast k (part_of x) (map_get part_of actors k x here)) ∙ ap Some (ap runs (manner_at cast k (part_of x) (map_get part_of actors k x here)) ∙ (not_not (runs (manner_of (part_of x))) ∙ ap not (sym said)))
