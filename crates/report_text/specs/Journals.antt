-- The lines of a journal, field by field.
use Rattle.std.specs.Prelude.{ℕ, Option, Some, None, List, [], ◌∷◌, ◌++◌, map, slice_get, codes}
use Rattle.std.specs.Option.{option_map_or}
use Rattle.std.specs.Fmt.{decimal}
use Rattle.hex.specs.Hex.{encode_lower}
use Rattle.cargo_core.specs.Items.{code_number, status_number}
use Rattle.cargo_core.specs.declared.act.Word.{Word}
use Rattle.cargo_core.specs.declared.act.Word.TheVariants as Words
use Rattle.cargo_core.specs.declared.item.Item.{Item}
use Rattle.cargo_core.specs.declared.item.Item.TheVariants as Carried
use Rattle.wire_core.specs.declared.names.Answer.{Answer}
use Rattle.wire_core.specs.declared.names.Answer.TheVariants as Told
use Rattle.wire_core.specs.declared.names.Entry.{Entry}
use Rattle.wire_core.specs.declared.names.Op.{Op}
use Rattle.wire_core.specs.declared.names.Op.TheVariants as Do
use Rattle.wire_core.specs.declared.names.QueueRow.{QueueRow}
use Rattle.wire_core.specs.declared.names.Side.{Side}
use Rattle.wire_core.specs.declared.names.Side.TheVariants as Bell
use Rattle.region_layout.specs.declared.layout.Layout.{Layout}
use Rattle.report_text.specs.Layouts.{name_at}
use Rattle.report_text.specs.Lines.{text_of}

-- a call on the backward bell is told apart by its ending
abbrev pub side_text : Side → List ℕ
side_text Bell.Forward = []
side_text Bell.Backward = codes "_back"

-- the name of a word
abbrev pub word_text : Word → List ℕ
word_text Words.Head = codes "head"
word_text Words.Tail = codes "tail"
word_text Words.Flag = codes "flag"
word_text Words.FlagBack = codes "flag_back"
word_text Words.Pending = codes "pending"
word_text Words.PendingBack = codes "pending_back"

-- the name of a call
abbrev pub op_text : Op → List ℕ
op_text Do.See = codes "see"
op_text Do.Take = codes "take"
op_text Do.Put = codes "put"
op_text Do.Room = codes "room"
op_text (Do.Ask side) = codes "ask" ++ side_text side
op_text (Do.Waive side) = codes "waive" ++ side_text side
op_text (Do.Wanted side) = codes "wanted" ++ side_text side
op_text (Do.Settle side) = codes "settle" ++ side_text side
op_text (Do.Ring side) = codes "ring" ++ side_text side
op_text (Do.Wake side) = codes "wake" ++ side_text side
op_text (Do.Store word value) = codes "store_" ++ word_text word

-- the value of a store, behind a space
abbrev pub stored_text : Op → List ℕ
stored_text (Do.Store word value) = codes " " ++ decimal value
stored_text Do.See = []
stored_text Do.Take = []
stored_text Do.Put = []
stored_text Do.Room = []
stored_text (Do.Ask side) = []
stored_text (Do.Waive side) = []
stored_text (Do.Wanted side) = []
stored_text (Do.Settle side) = []
stored_text (Do.Ring side) = []
stored_text (Do.Wake side) = []

-- what a call answers: nothing where it only acts
abbrev pub answer_text : Answer → List ℕ
answer_text Told.Done = codes "-"
answer_text Told.Yes = codes "yes"
answer_text Told.No = codes "no"

-- an item: a descriptor's address and length, a byte in two digits, the fields of a request or of a
-- response
abbrev pub item_text : Item → List ℕ
item_text (Carried.Net d) = decimal d.addr ++ (codes " " ++ decimal d.len)
item_text (Carried.Byte b) = encode_lower (b ∷ [])
item_text (Carried.Req r) =
    decimal (code_number r.code) ++ (codes " " ++ (decimal r.addr
    ++ (codes " " ++ (decimal r.block ++ (codes " " ++ (decimal r.count
    ++ (codes " " ++ decimal r.id)))))))
item_text (Carried.Resp r) =
    decimal (status_number r.status) ++ (codes " " ++ (decimal r.count
    ++ (codes " " ++ decimal r.id)))

-- an item that is there, behind a space
abbrev pub carried_text : Option Item → List ℕ
carried_text None = []
carried_text (Some item) = codes " " ++ item_text item

-- the name of the queue at a place
abbrev pub queue_name : List QueueRow → ℕ → List ℕ
queue_name queues q = option_map_or (λ (queue : QueueRow). queue.name) (slice_get queues q) []

-- an entry of the journal: who called, on which queue, which call, what it answered, the value that
-- was stored, and the item that was put or taken
abbrev pub entry_line : Layout → Entry → List ℕ
entry_line layout e =
    name_at layout.actors e.actor.0 ++ (codes " " ++ (queue_name layout.queues e.event.queue.0
    ++ (codes " " ++ (op_text e.event.op
    ++ (codes " " ++ (answer_text e.event.answer ++ (stored_text e.event.op
    ++ carried_text e.event.item)))))))

-- the text of a journal
abbrev pub journal_text : Layout → List Entry → List ℕ
journal_text layout journal = text_of (map (entry_line layout) journal)
