-- The name of what was put last to a queue of which names are kept.
use Rattle.std.specs.Prelude.{◌≡◌, ℕ, Bool, true, false, Option, Some, None, List, [], ◌∷◌}
use Rattle.std.specs.Prelude.{slice_index_or}
use Rattle.wire_core.specs.Deeds.{Cargo, Deed, cargo_of}
use Rattle.wire_core.specs.Lists.{if_put}
use Rattle.wire_core.specs.Queues.{Happens}
use Rattle.play_core.specs.Names.{Name, Noted, name_of}
use Rattle.player_kit.specs.declared.noted_wires.wires.NotedWires.{NotedWires}

-- whether names of a queue's entries are kept, where this says so of the first ones
abbrev pub kept_at : List Bool → ℕ → Bool
kept_at kept n = slice_index_or kept n false

-- the last name, after these entries were put to a queue of which names are kept or not
abbrev pub last_put : Bool → List Cargo → Option Name → Option Name
last_put false cs last = last
last_put true [] last = last
last_put true (c ∷ cs) last = Some (name_of c.1)

-- a call happened, and the last name is that of the entry that it put where names are kept
pub record NotedHappens (old : NotedWires) (d : Deed) (new : NotedWires) : Type 0 where
  pub happened : Happens old.world d new.world
  pub kept : new.kept ≡ old.kept
  pub last : new.last ≡ last_put (kept_at old.kept.items d.event.queue.0)
      (if_put d.event.op (cargo_of d)) old.last

-- a last name as the one that is kept of this queue, if there is one
abbrev pub notes_in : ℕ → Option Name → List Noted
notes_in queue None = []
notes_in queue (Some name) = record { queue = queue; name = name } ∷ []
