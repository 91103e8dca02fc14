-- What a system keeps: its view, and the invariant that each of its calls needs and keeps.
use Rattle.std.specs.Prelude.{◌≡◌, ◌≤◌, ◌++◌, ℕ, None, length}
use Rattle.wire_core.specs.Journal.{EachMoment}
use Rattle.wire_core.specs.Marks.{Brisk}
use Rattle.player_kit.specs.Calls.Noting.{kept_at}
use Rattle.play_core.specs.Names.{wild_in}
use Rattle.cast_bound.specs.Dropping.{drops_in}
use Rattle.system_core.specs.Shows.{Setting, Shown, hostile_in, runs, NamesTell, RowsStand}
use Rattle.system_core.specs.States.{state_of, history_of, begun, names_left}
use Rattle.system_core.specs.Lawful.{IsFitted}
use Rattle.system_core.specs.Systems.{Holds, HoldsBefore, PutTheirOwn}
use Rattle.system_core.specs.declared.system.System.TheInside.{Inside}

-- what stays the same, with the names that are kept: of what was put before the journal begins, and
-- of what was put since
abbrev pub setting_of : Inside → Setting
setting_of a = record (begun (history_of a.rows.items a.past.value.items) a.rows.items
    a.pools.items a.actors.items a.net a.serial a.blk) {
      names = names_left 0 a.past.value.items ++ a.names.items;
    }

-- the view
abbrev pub shown_of : Inside → Shown
shown_of a = record {
  setting = setting_of a;
  journal = a.journal.items;
  state = state_of a.wires.world a.pools.items a.actors.items a.net a.serial
      a.blk;
}

-- the parts of a system belong together, and which actors are runnable is kept
pub record IsSystem (a : Inside) : Type 0 where
  pub fitted : IsFitted (setting_of a)
  pub before : HoldsBefore (setting_of a)
  pub holds : Holds (setting_of a).history a.rows.items (setting_of a).names a.wires.world
      a.actors.items a.journal.items
  pub rows_hold : EachMoment (RowsStand (setting_of a)) a.journal.items
  pub names_tell : EachMoment (NamesTell (setting_of a)) a.journal.items
  pub brisk : Brisk (hostile_in (setting_of a)) (setting_of a).rows (drops_in (setting_of a).cast)
      a.journal.items
  pub own : PutTheirOwn (setting_of a) a.journal.items
  -- of which queues names are kept is kept, and each name that was put is among those that are
  pub kept : (n : ℕ) → kept_at a.wires.kept.items n
      ≡ wild_in (hostile_in (setting_of a)) (setting_of a).rows n
  pub none_last : a.wires.last ≡ None
  -- the runnable actors are kept
  pub running : a.running.list ≡ runs (setting_of a) a.journal.items
  pub room : length a.actors.items ≤ a.running.room
