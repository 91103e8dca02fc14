-- The frames on the wire as items tell them: an item has a buffer and a length and no frame, but it
-- is told whose buffer that is, and a client's frames come in their order.
use Rattle.std.specs.Prelude.{◌++◌, ℕ, if◌then◌else◌, List, [], ◌∷◌, length}
use Rattle.std.specs.List.{filter}
use Rattle.cargo_core.specs.declared.item.Item.{Item}
use Rattle.owner_law.specs.Pools.Places.{PoolAt}
use Rattle.net_law.specs.Parts.Rows.{frame_at}
use Rattle.net_law.specs.TxParts.Rows.{in_range}

-- by the clients' pools and what each client sends, the frame of an item before which these came:
-- that of its place among the items in the range of the same pool
abbrev pub told_frame : List PoolAt → (sends : List (List (List ℕ))) → (before : List Item) → Item
    → List ℕ
told_frame [] sends before item = []
told_frame (p ∷ pools) [] before item = []
told_frame (p ∷ pools) (frames ∷ sends) before item = if in_range p item then
    frame_at frames (length (filter (in_range p) before)) else told_frame pools sends before item

-- the frames of items that come after these
abbrev pub told_after : List PoolAt → (sends : List (List (List ℕ))) → (before items : List Item)
    → List (List ℕ)
told_after pools sends before [] = []
told_after pools sends before (item ∷ items) = told_frame pools sends before item
    ∷ told_after pools sends (before ++ item ∷ []) items

-- the frames of all items that came, in their order
abbrev pub told_frames : List PoolAt → (sends : List (List (List ℕ))) → List Item → List (List ℕ)
told_frames pools sends items = told_after pools sends [] items
