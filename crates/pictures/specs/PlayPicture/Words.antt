-- Calls in words, and the inks of marks.
use Rattle.std.specs.Prelude.{ℕ, ◌/◌, Option, Some, None, List, [], ◌++◌, codes}
use Rattle.cargo_core.specs.Items.{kind_of}
use Rattle.cargo_core.specs.declared.item.Item.{Item}
use Rattle.cargo_core.specs.declared.item.Item.TheVariants as Carried
use Rattle.wire_core.specs.declared.names.Answer.{Answer}
use Rattle.wire_core.specs.declared.names.Answer.TheVariants as Told
use Rattle.wire_core.specs.declared.names.Op.{Op}
use Rattle.wire_core.specs.declared.names.Op.TheVariants as Do
use Rattle.wire_core.specs.declared.names.Side.{Side}
use Rattle.wire_core.specs.declared.names.Side.TheVariants as Bell
use Rattle.picture_kit.specs.declared.ink.Ink.{Ink}
use Rattle.picture_kit.specs.declared.ink.Ink.TheVariants as In
use Rattle.picture_kit.specs.Inks.{kind_ink}

-- what tells the bells apart
abbrev pub side_text : Side → List ℕ
side_text Bell.Forward = []
side_text Bell.Backward = codes " back"

-- a call in words
abbrev pub op_text : Op → List ℕ
op_text Do.See = codes "see"
op_text Do.Take = codes "take"
op_text Do.Put = codes "put"
op_text Do.Room = codes "room"
op_text (Do.Ask side) = codes "ask" ++ side_text side
op_text (Do.Waive side) = codes "waive" ++ side_text side
op_text (Do.Wanted side) = codes "wanted" ++ side_text side
op_text (Do.Settle side) = codes "settle" ++ side_text side
op_text (Do.Ring side) = codes "ring" ++ side_text side
op_text (Do.Wake side) = codes "wake" ++ side_text side
op_text (Do.Store word value) = codes "store"

-- the ink of the mark for a call: an asking, a ringing, a waking, and a look that is answered no
abbrev pub bell_ink : Op → Answer → Option Ink
bell_ink (Do.Ask side) _ = Some In.Asked
bell_ink (Do.Ring side) _ = Some In.Rung
bell_ink (Do.Wake side) _ = Some In.Woken
bell_ink Do.See Told.No = Some In.Refused
bell_ink Do.Room Told.No = Some In.Refused
bell_ink _ _ = None

-- the ink by which a buffer is followed
abbrev pub buffer_ink : Item → Ink
buffer_ink (Carried.Net d) = In.Shade (d.addr / 2048)
buffer_ink (Carried.Req r) = In.Shade (r.addr / 2048)
buffer_ink item = kind_ink (kind_of item)
