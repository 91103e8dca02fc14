use Rattle.std.proofs.Common.{◌≡◌, ◌<◌, arith, length, ℕ, Option, Some, None, is_some, List, [], map, slice_get, refl, sym, ap, ◌∙◌}
use Rattle.std.specs.Option.{option_map, option_map_or}
use Rattle.std.proofs.lemmas.Option.{slice_get-map}
use Rattle.wire_core.specs.Queues.{Queue}
use Rattle.wire_core.specs.declared.names.QueueRow.{QueueRow}
use Rattle.wire_core.specs.declared.names.Entry.{Entry}
use Rattle.wire_core.specs.Journal.{History}
use Rattle.wire_core.proofs.BellTheorem.{bells_hold, queues_flow}
use Rattle.play_core.specs.Moved.{moved}
use Rattle.play_core.specs.Names.{Noted, told_by, wild_in}
use Rattle.play_core.proofs.Lists.{map_alike}
use Rattle.actor_set.specs.Actors.{part_of}
use Rattle.actor_set.specs.declared.actor.Actor.{Actor}
use Rattle.actor_set.specs.Laws.Kinds.{hostiles, scene_of}
use Rattle.actor_set.specs.Laws.Records.{record_of, record_by}
use Rattle.system_core.specs.Shows.{hostile_in}
use Rattle.system_core.specs.States.{record_from, frames_from, replies_from}
use Rattle.system_core.specs.Lawful.{record_at, IsTold, StandsLawful}
use Rattle.system_core.specs.Systems.{Holds}
use Rattle.system_core.specs.Inside.{shown_of, setting_of, IsSystem}
use Rattle.system_core.specs.declared.system.System.TheInside.{Inside}
use Rattle.std.proofs.lemmas.List.{length-map}
use Rattle.system_core.proofs.Stepping.{runs_below}
use Rattle.actor_set.proofs.LawsLemmas.Rows.{heard_here}
use Rattle.system_core.proofs.RunsNow.{items_here}
use Rattle.system_core.proofs.Recording.{blk_silent, net_silent, records_at, replies_at, sends_plain, wire_here}
use Rattle.system_core.proofs.BadOnes.{bad_ones_told}
use Rattle.system_core.proofs.Lining.{kinds_hold, lines_add, lines_stand, lines_unlent, one_owner, pool_lines, pool_lines_anew, without_pools, buffers_told, nothing_bad}

module _ (history : History) (rows : List QueueRow) (names : List Noted) (w : List Queue) (actors : List Actor) (journal : List Entry) (h : Holds history rows names w actors journal) where
  pub same_heard : (k : ℕ) → record_from actors k ≡ option_map_or (record_by (moved history journal)) (slice_get (map part_of actors) k) []
  same_heard k = go (slice_get actors k) refl ∙ ap (λ o. option_map_or (record_by (moved history journal)) o []) (sym (slice_get-map part_of actors k))
    where
      go : (o : Option Actor) → slice_get actors k ≡ o → option_map_or record_of o [] ≡ option_map_or (record_by (moved history journal)) (option_map part_of o) []
      go None at = refl
      go (Some x) at = heard_here h.passed (moved history journal) (items_here history rows names w actors journal h) x (h.stands k x at)

module _ (a : Inside) (i : IsSystem a) where
  heard : (k : ℕ) → record_from a.actors.items k ≡ record_at (shown_of a) k
  heard k = same_heard (setting_of a).history a.rows.items (setting_of a).names a.wires.world a.actors.items a.journal.items i.holds k

  told : IsTold (shown_of a)
  told = record {
    passed = i.holds.passed;
    items = items_here (setting_of a).history a.rows.items (setting_of a).names a.wires.world a.actors.items a.journal.items i.holds;
    line = line a.serial.device;
    serial = map_alike (record_from a.actors.items) (record_at (shown_of a)) a.serial.clients (λ c k at. heard k);
    wire = wire a.net.device;
    net = length-map a.net.clients (frames_from a.actors.items);
    frames = λ net whole. record {
      records = records_at (setting_of a).history a.rows.items (setting_of a).names a.wires.world a.actors.items a.journal.items i.holds net whole a.net.clients;
      wire = wire_here (setting_of a).history a.rows.items (setting_of a).names a.wires.world a.actors.items a.journal.items i.holds net whole a.net.device;
      plain = sends_plain (setting_of a).history a.rows.items (setting_of a).names a.wires.world a.actors.items a.journal.items i.holds net whole;
    };
    net_silent = net_silent (setting_of a).history a.rows.items (setting_of a).names a.wires.world a.actors.items a.journal.items i.holds a.net.clients;
    blk = length-map a.blk.clients (replies_from a.actors.items);
    replies = λ blk whole. replies_at (setting_of a).history a.rows.items (setting_of a).names a.wires.world a.actors.items a.journal.items i.holds blk whole a.blk.clients;
    blk_silent = blk_silent (setting_of a).history a.rows.items (setting_of a).names a.wires.world a.actors.items a.journal.items i.holds a.blk.clients;
    pools = pool_lines a i;
    pools_anew = pool_lines_anew a i;
    no_pools = without_pools a i;
    unlent = lines_unlent a i;
    standing = lines_stand a i;
    adds = lines_add a i;
    buffers = buffers_told a i;
    bad = bad_ones_told (scene_of (map part_of a.actors.items)) (wild_in (hostiles (map part_of a.actors.items)) a.rows.items) (told_by (setting_of a).names) a.actors.items i.holds.passed i.holds.in_turn i.holds.stands;
    none_bad = nothing_bad a i;
  }
    where
      line : (device : Option ℕ) → option_map (record_from a.actors.items) device ≡ option_map (record_at (shown_of a)) device
      line None = refl
      line (Some k) = ap Some (heard k)

      wire : (device : Option ℕ) → is_some (option_map (frames_from a.actors.items) device) ≡ is_some device
      wire None = refl
      wire (Some k) = refl

  -- a runnable actor is one of its actors
  pub runner_there : (place k : ℕ) → slice_get a.running.list place ≡ Some k → k < length a.actors.items
  runner_there place k at =
      let below = runs_below (setting_of a).history a.rows.items (setting_of a).names (map part_of a.actors.items) a.journal.items place k (rw i.running at at) in
      let size = length-map a.actors.items part_of in
      omega (arith, below, size)

  -- all that holds of a system
  pub stands_lawful : StandsLawful (shown_of a)
  unfolding told
  stands_lawful = record {
    fitted = i.fitted;
    lawful = record {
      legal = i.holds.legal;
      bells_hold = bells_hold (hostile_in (setting_of a)) (setting_of a).history a.rows.items a.journal.items i.before.bells_hold i.holds.legal;
      flows = queues_flow (hostile_in (setting_of a)) (setting_of a).history a.rows.items a.journal.items i.before.flows i.holds.legal;
      rows_hold = i.rows_hold;
      names_tell = i.names_tell;
      kinds = kinds_hold a i;
      brisk = i.brisk;
      owners = one_owner a i;
    };
    told = told;
    calls = i.holds.told;
  }
