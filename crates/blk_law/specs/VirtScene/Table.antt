-- The table of the block class where clients of the virtualiser may be hostile: all that is said of
-- an actor, by the names that are told of the pages of the hostile clients' requests.
use Rattle.std.specs.Prelude.{◌≡◌, ◌≤◌, ◌&&◌, ℕ, true, false, not, nat_lt, Some, List, [], ◌∷◌}
use Rattle.std.specs.Prelude.{length, map, flat_map, slice_get}
use Rattle.owner_law.specs.Pools.Places.{PoolAt, pool_hand}
use Rattle.play_core.specs.Moved.{Moved}
use Rattle.play_core.specs.Names.{Names, Wild}
use Rattle.play_core.specs.Sheets.{Scene, Sheet}
use Rattle.play_core.specs.Wants.{Want, intake, outlet, intake_want, outlet_want}
use Rattle.net_law.specs.Parts.Table.{is_short}
use Rattle.blk_law.specs.Sheets.Parts.{BlkPart, DiskDevice, BlkDriver, BlkVirt, BlkClient, Sharer}
use Rattle.blk_law.specs.Sheets.Table.{blk_sheet, sharer_ends}
use Rattle.blk_law.specs.VirtScene.Rows.{AnswersBoth, answers_told, told_due}

-- the client's next request is needed once a response came from the driver, while none of its
-- requests is without an answer; and its answers are owed to it
abbrev pub told_wants : List ℕ → Wild → Names → (req resp : ℕ) → Moved → Sharer → List Want
told_wants image wild names req resp m c =
    intake_want c.req (nat_lt 0 (length (m.taken resp))
    && not (is_short (m.sent c.resp) (m.taken c.req)))
    ∷ outlet_want c.resp (is_short (m.sent c.resp) (answers_told image wild names req resp m c))
    ∷ []

-- what is said of a virtualiser, whoever its clients are
abbrev pub virt_sheet : List ℕ → Wild → Names → (req resp : ℕ) → PoolAt → List Sharer → Sheet
virt_sheet image wild names req resp pool clients = record {
  ends = intake resp ∷ outlet req ∷ flat_map sharer_ends clients;
  row = AnswersBoth image wild names req resp pool clients;
  wants = λ m. intake_want resp true
      ∷ outlet_want req (nat_lt (length (m.sent req)) (told_due image wild names clients m))
      ∷ flat_map (told_wants image wild names req resp m) clients;
  dues = λ m. record { queue = req; number = told_due image wild names clients m }
      ∷ map (λ (c : Sharer). record {
        queue = c.resp;
        number = length (answers_told image wild names req resp m c);
      }) clients;
  hand = pool_hand pool;
}

-- what is said of an actor of the class: of a disk, a driver and a client no name is asked
abbrev pub both_sheet : Scene → Wild → Names → BlkPart → Sheet
both_sheet scene wild names (DiskDevice req resp image) =
    blk_sheet scene (DiskDevice req resp image)
both_sheet scene wild names (BlkDriver ways) = blk_sheet scene (BlkDriver ways)
both_sheet scene wild names (BlkVirt req resp sectors pool clients) =
    virt_sheet scene.image wild names req resp pool clients
both_sheet scene wild names (BlkClient req resp asks pool) =
    blk_sheet scene (BlkClient req resp asks pool)

-- each request that came from these clients, where they are hostile, has a name that is told
abbrev pub AreTold : Wild → Names → List Sharer → Moved → Type 0
AreTold wild names clients m = (k : ℕ) (c : Sharer) → slice_get clients k ≡ Some c
    → wild c.req ≡ true → length (m.taken c.req) ≤ length (names c.req)

-- the same of the clients of an actor
abbrev pub LiesWithin : Wild → Names → BlkPart → Moved → Type 0
LiesWithin wild names (DiskDevice req resp image) m = Unit {0}
LiesWithin wild names (BlkDriver ways) m = Unit {0}
LiesWithin wild names (BlkVirt req resp sectors pool clients) m = AreTold wild names clients m
LiesWithin wild names (BlkClient req resp asks pool) m = Unit {0}

-- none of these clients is hostile
abbrev pub AreCalm : Wild → List Sharer → Type 0
AreCalm wild clients =
    (k : ℕ) (c : Sharer) → slice_get clients k ≡ Some c → wild c.req ≡ false

-- no client of an actor is hostile
abbrev pub NoneWild : Wild → BlkPart → Type 0
NoneWild wild (DiskDevice req resp image) = Unit {0}
NoneWild wild (BlkDriver ways) = Unit {0}
NoneWild wild (BlkVirt req resp sectors pool clients) = AreCalm wild clients
NoneWild wild (BlkClient req resp asks pool) = Unit {0}
