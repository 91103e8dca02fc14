-- A block that is read through the virtualiser, and a flush: how responses name the buffers of
-- their requests.
use Rattle.std.specs.Prelude.{◌==◌, ℕ, if◌then◌else◌, Some, List, [], ◌∷◌, ◌++◌}
use Rattle.cargo_core.specs.declared.item.Item.{Item}
use Rattle.cargo_core.specs.declared.item.Item.TheVariants as ItemOf
use Rattle.cargo_core.specs.declared.item.Code.{Code}
use Rattle.cargo_core.specs.declared.item.Code.TheVariants as Asked
use Rattle.cargo_core.specs.declared.item.BlkStatus.TheVariants as Answered
use Rattle.wire_core.specs.declared.names.Entry.{Entry}
use Rattle.wire_core.specs.declared.names.Op.{Op}
use Rattle.wire_core.specs.declared.names.Op.TheVariants as Do
use Rattle.wire_core.specs.declared.names.Answer.TheVariants.{Done}
use Rattle.owner_law.specs.Things.{Window, Buffers, Answers, Naming, naming_of}
use Rattle.owner_law.specs.Owners.{Table, replay}
use Rattle.owner_law.specs.Keeping.{Keeper, start_table}
use Rattle.owner_law.specs.Census.{Census, census}
use Rattle.actor_rows.specs.Owners.Broadcast.{two, empty}

-- the virtualiser's one buffer and the client's two by device addresses
abbrev pub devices : List Window
devices = record { pool = 0; base = 0x50000000; size = 32768; buffers = 1 }
    ∷ record { pool = 1; base = 0x60000000; size = 32768; buffers = 2 } ∷ []

-- the client's two by offsets
abbrev pub offsets : List Window
offsets = record { pool = 1; base = 0; size = 32768; buffers = 2 } ∷ []

-- requests and responses at the disk, at its driver and at the client
abbrev pub block_naming : Naming
block_naming = naming_of (Buffers devices ∷ Answers 0 devices ∷ Buffers devices ∷ Answers 2 devices
    ∷ Buffers offsets ∷ Answers 4 offsets ∷ [])

-- 0 is the driver, 1 the virtualiser with its buffer, 2 the client with two, and 3 the disk
abbrev pub block_actors : List Keeper
block_actors = empty ∷ record { ends = []; hand = λ pool. if pool == 0 then 0 ∷ [] else [] }
    ∷ record { ends = []; hand = λ pool. if pool == 1 then two else [] } ∷ empty ∷ []

-- an actor moves an item at a queue
abbrev pub moves : Op → (actor queue : ℕ) → Item → Entry
moves op actor queue item = record {
  actor = record { 0 = actor };
  event = record { queue = record { 0 = queue }; op = op; answer = Done; item = Some item };
}

-- a request with this code and address
abbrev pub request : Code → ℕ → Item
request code address =
    ItemOf.Req (record { code = code; addr = address; block = 1; count = 1; id = 0 })

-- a response that says yes to it
abbrev pub response : Item
response = ItemOf.Resp (record { status = Answered.Ok; count = 1; id = 0 })

-- an item passes from the actor that has it through a queue to another one
abbrev pub passes : (from queue to : ℕ) → Item → List Entry
passes from queue to item = moves Do.Put from queue item ∷ moves Do.Take to queue item ∷ []

-- the virtualiser reads the first block with its own buffer; the client asks for a flush, which is
-- answered, and then to read into its second buffer, of which the request is at the disk
abbrev pub asked : List Entry
asked = passes 1 2 0 (request Asked.Read 0x50000000) ++ passes 0 0 3 (request Asked.Read 0x50000000)
    ++ passes 3 1 0 response ++ passes 0 3 1 response
    ++ passes 2 4 1 (request Asked.Flush 0) ++ passes 1 2 0 (request Asked.Flush 0x60000000)
    ++ passes 0 0 3 (request Asked.Flush 0x60000000)
    ++ passes 3 1 0 response ++ passes 0 3 1 response ++ passes 1 5 2 response
    ++ passes 2 4 1 (request Asked.Read 32768) ++ passes 1 2 0 (request Asked.Read 0x60008000)
    ++ passes 0 0 3 (request Asked.Read 0x60008000)

-- the disk puts its response
abbrev pub responded : List Entry
responded = asked ++ moves Do.Put 3 1 response ∷ []

-- the response is back at the client
abbrev pub replied : List Entry
replied = responded ++ moves Do.Take 0 1 response ∷ passes 0 3 1 response ++ passes 1 5 2 response

-- the table after these entries
abbrev pub block_table : List Entry → Table
block_table journal = replay block_naming [] (start_table block_actors) journal

-- a pool's line
abbrev pub block_line : List Entry → (pool buffers : ℕ) → Census
block_line journal pool buffers = census (block_table journal) pool buffers
