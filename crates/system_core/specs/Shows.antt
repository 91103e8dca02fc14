-- What a system shows: what stays the same while it is played, its one journal, and what can be
-- seen of it as it is.
use Rattle.std.specs.Prelude.{◌≡◌, ℕ, Option, List, [], ◌∷◌, ◌++◌}
use Rattle.cargo_core.specs.declared.item.Body.{Body}
use Rattle.cargo_core.specs.declared.item.Reply.{Reply}
use Rattle.cargo_core.specs.Lists.{IsPrefix}
use Rattle.wire_core.specs.declared.names.PoolRow.{PoolRow}
use Rattle.wire_core.specs.declared.names.QueueRow.{QueueRow}
use Rattle.wire_core.specs.declared.names.Event.{Event}
use Rattle.wire_core.specs.declared.names.Entry.{Entry}
use Rattle.wire_core.specs.Journal.{History, Hostiles}
use Rattle.cargo_core.specs.declared.census.Census.{Census}
use Rattle.play_core.specs.Growing.{AllWithin}
use Rattle.play_core.specs.Moved.{Moved, moved}
use Rattle.play_core.specs.Sheets.{Scene, Sheet, needful, RowsHold}
use Rattle.play_core.specs.Manners.{Manners}
use Rattle.play_core.specs.Names.{Noted, Wild, told_by, wild_in}
use Rattle.play_core.specs.Runs.{runnable}
use Rattle.actor_set.specs.Parts.{Part}
use Rattle.actor_set.specs.Laws.Kinds.{manners, hostiles}
use Rattle.actor_set.specs.Laws.Scenes.{LiesWithin, told_sheet}

-- which of the actors are the device and the clients of a class, these in their order
pub record Crew : Type 0 where
  pub device : Option ℕ
  pub clients : List ℕ

-- what stays the same while a system is played, but for the names that are kept of what was put to
-- queues with a hostile end, which grow: what its queues had before its journal begins, its queues,
-- its pools by their numbers, its actors' parts, the scene in which needs and rows are said, and
-- who is who in the classes
pub record Setting : Type 0 where
  pub history : History
  pub rows : List QueueRow
  pub pools : List PoolRow
  pub cast : List Part
  pub scene : Scene
  pub names : List Noted
  pub net : Crew
  pub serial : Crew
  pub blk : Crew

-- what can be seen of a system: the wire, the line, what each client of each class recorded, where
-- the pages are, what stands in queues, in hands and is lent, and what the virtualisers counted as
-- bad; of a class that isn't there, nothing
pub record State : Type 0 where
  pub wire : Option (List (List ℕ))
  pub net : List (List (List ℕ))
  pub line : Option (List ℕ)
  pub serial : List (List ℕ)
  pub blk : List (List Reply)
  pub pools : List Census
  pub bodies : List Body
  pub bad : ℕ

-- what a system shows: what stays the same, the one journal, and what can be seen of it
pub record Shown : Type 0 where
  pub setting : Setting
  pub journal : List Entry
  pub state : State

-- how each of the actors goes about
abbrev pub manner_in : Setting → Manners
manner_in s = manners s.cast

-- which of the actors are hostile
abbrev pub hostile_in : Setting → Hostiles
hostile_in s = hostiles s.cast

-- which of the queues that carry pages have a hostile end
abbrev pub wild_by : Setting → Wild
wild_by s = wild_in (hostile_in s) s.rows

-- what is said of each part there, by these names
abbrev pub sheet_in : Setting → Part → Sheet
sheet_in s = told_sheet s.scene (wild_in (hostile_in s) s.rows) (told_by s.names)

-- what went through the queues, by a journal
abbrev pub moved_in : Setting → List Entry → Moved
moved_in s journal = moved s.history journal

-- the actors that are runnable after a journal
abbrev pub runs : Setting → List Entry → List ℕ
runs s journal =
    runnable (manner_in s) s.history s.rows
    (needful (sheet_in s) s.cast (moved_in s journal)) journal

-- the row of each actor that isn't hostile holds after a journal
abbrev pub RowsStand : Setting → List Entry → Type 0
RowsStand s journal = RowsHold (sheet_in s) (hostile_in s) s.cast (moved_in s journal)

-- the names that are kept tell all that needs and rows ask of what passed by a journal
abbrev pub NamesTell : Setting → List Entry → Type 0
NamesTell s journal = AllWithin (LiesWithin (wild_in (hostile_in s) s.rows)) (told_by s.names)
    s.history s.cast journal

-- the setting stays but for the names that are kept, and these grew at their end
pub record KeepsSetting (old new : Setting) : Type 0 where
  pub names : IsPrefix old.names new.names
  pub stays : new ≡ record old { names = new.names }

-- actor k made one call more
pub record Appends (k : ℕ) (old new : Shown) : Type 0 where
  pub event : Event
  pub setting : KeepsSetting old.setting new.setting
  pub journal : new.journal ≡ old.journal ++ record { actor = record { 0 = k }; event = event } ∷ []
