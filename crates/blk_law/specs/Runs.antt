-- A run of a disk's blocks, such as a partition, that the requests of one client alone touch: to
-- that client it is a disk of its own.
use Rattle.std.specs.Prelude.{◌≡◌, ◌+◌, ◌≤◌, ◌<◌, ℕ, Bool, false, Some, if◌then◌else◌, List, []}
use Rattle.std.specs.Prelude.{◌∷◌, All}
use Rattle.std.specs.List.{AllZip, filter}
use Rattle.cargo_core.specs.declared.item.BlkReq.{BlkReq}
use Rattle.cargo_core.specs.declared.item.Code.{Code}
use Rattle.cargo_core.specs.declared.item.Code.TheVariants as Asked
use Rattle.cargo_core.specs.declared.item.Item.{Item}
use Rattle.cargo_core.specs.declared.item.Item.TheVariants as ItemOf
use Rattle.wire_core.specs.Deeds.{Cargo}
use Rattle.class_expect.specs.BlkExpect.BlkKit.Blocks.{blocks_at}
use Rattle.blk_mbr.specs.declared.part.Part.{Part}
use Rattle.blk_mbr.specs.Partitions.{part_of}
use Rattle.device_model.specs.Disk.Serving.{answer_to, answers_to, done}

-- of a disk's answers to the entries that it takes, those to the entries that pass a test
abbrev pub answers_for : (Cargo → Bool) → List ℕ → List Cargo → List Cargo
answers_for own image [] = []
answers_for own image (x ∷ xs) =
    if own x then (answer_to image x ∷ answers_for own (done image x) xs)
    else answers_for own (done image x) xs

-- a response with another id
abbrev pub item_with_id : ℕ → Item → Item
item_with_id id (ItemOf.Resp r) = ItemOf.Resp (record r { id = id })
item_with_id id (ItemOf.Req r) = ItemOf.Req r
item_with_id id (ItemOf.Net d) = ItemOf.Net d
item_with_id id (ItemOf.Byte b) = ItemOf.Byte b

-- the id of a request
abbrev pub id_of : Item → ℕ
id_of (ItemOf.Req r) = r.id
id_of (ItemOf.Resp r) = 0
id_of (ItemOf.Net d) = 0
id_of (ItemOf.Byte b) = 0

-- responses with the ids of these requests, in their order
abbrev pub with_ids : List Cargo → List Cargo → List Cargo
with_ids [] zs = []
with_ids (y ∷ ys) [] = []
with_ids (y ∷ ys) (z ∷ zs) = (item_with_id (id_of y.0) z.0, z.1) ∷ with_ids ys zs

-- a write touches none of the blocks of a run
abbrev pub TouchesNone : Code → ℕ → ℕ → BlkReq → Type 0
TouchesNone Asked.Write first count r =
    (b : ℕ) → r.block ≤ b → b < r.block + r.count → first ≤ b → b < first + count → ⊥
TouchesNone Asked.Read first count r = Unit {0}
TouchesNone Asked.Flush first count r = Unit {0}
TouchesNone Asked.Barrier first count r = Unit {0}

-- an entry leaves the blocks of a run as they are
abbrev pub IsBeside : ℕ → ℕ → Cargo → Type 0
IsBeside first count (ItemOf.Req r, body) = TouchesNone r.code first count r
IsBeside first count (ItemOf.Net d, body) = Unit {0}
IsBeside first count (ItemOf.Byte b, body) = Unit {0}
IsBeside first count (ItemOf.Resp r, body) = Unit {0}

-- a read or a write is all in a run
abbrev pub StaysIn : Code → ℕ → ℕ → BlkReq → Type 0
StaysIn Asked.Read first count r = (first ≤ r.block) × (r.block + r.count ≤ first + count)
StaysIn Asked.Write first count r = (first ≤ r.block) × (r.block + r.count ≤ first + count)
StaysIn Asked.Flush first count r = Unit {0}
StaysIn Asked.Barrier first count r = Unit {0}

-- an entry asks for blocks of a run alone
abbrev pub IsInside : ℕ → ℕ → Cargo → Type 0
IsInside first count (ItemOf.Req r, body) = StaysIn r.code first count r
IsInside first count (ItemOf.Net d, body) = Unit {0}
IsInside first count (ItemOf.Byte b, body) = Unit {0}
IsInside first count (ItemOf.Resp r, body) = Unit {0}

-- all that others ask of the disk leaves the run as it is
abbrev pub OthersBeside : (Cargo → Bool) → ℕ → ℕ → List Cargo → Type 0
OthersBeside own first count xs = All (λ (x : Cargo). own x ≡ false → IsBeside first count x) xs

-- a request of the disk asks for the blocks that another asks of the run: a read or a write is all
-- in the run
abbrev pub IsMoved : Code → ℕ → ℕ → BlkReq → BlkReq → Type 0
IsMoved Asked.Read first count r q =
    (r.block ≡ first + q.block) × (r.count ≡ q.count) × (q.block + q.count ≤ count)
IsMoved Asked.Write first count r q =
    (r.block ≡ first + q.block) × (r.count ≡ q.count) × (q.block + q.count ≤ count)
IsMoved Asked.Flush first count r q = Unit {0}
IsMoved Asked.Barrier first count r q = Unit {0}

-- an entry that the disk takes is what another asks of the run, with the same body
abbrev pub IsFor : ℕ → ℕ → Cargo → Cargo → Type 0
IsFor first count (ItemOf.Req r, body) (ItemOf.Req q, other) =
    (body ≡ other) × (r.code ≡ q.code) × IsMoved q.code first count r q
IsFor first count x y = ⊥

-- what a disk answers to those whose requests alone touch a run is what a disk that has only the
-- bytes of the run answers to the same requests, whatever else is asked of the disk in between
abbrev pub IsItsOwnDisk : (own : Cargo → Bool) (first count : ℕ) (image : List ℕ) → Type 0
IsItsOwnDisk own first count image =
    (taken asked : List Cargo) → OthersBeside own first count taken
    → AllZip (IsFor first count) (filter own taken) asked
    → with_ids asked (answers_for own image taken) ≡ answers_to (blocks_at image first count) asked

-- what stays in the partition of one entry of a table leaves that of another as it is
abbrev pub ArePartsApart : (sector : List ℕ) (disk_sectors : ℕ) → Type 0
ArePartsApart sector disk_sectors = (j k : ℕ) (one other : Part) → j < 4 → k < 4 → (j ≡ k → ⊥)
    → part_of sector disk_sectors j ≡ Some one → part_of sector disk_sectors k ≡ Some other
    → (x : Cargo) → IsInside other.first_block other.blocks x
    → IsBeside one.first_block one.blocks x
