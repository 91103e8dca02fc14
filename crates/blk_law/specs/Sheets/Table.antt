-- The table of the block class: all that is said of one of its actors, one case for each kind.
use Rattle.std.specs.Prelude.{◌&&◌, ℕ, true, not, nat_lt, List, [], ◌∷◌, length, map, flat_map}
use Rattle.cargo_core.specs.Lists.{IsPrefix}
use Rattle.play_core.specs.Moved.{Moved, Seat}
use Rattle.play_core.specs.Wants.{Want, intake, outlet, intake_want, outlet_want}
use Rattle.play_core.specs.Sheets.{Scene, Sheet}
use Rattle.net_law.specs.Parts.Parts.{NetDriver}
use Rattle.owner_law.specs.Pools.Places.{pool_hand}
use Rattle.net_law.specs.Parts.Table.{is_short, net_sheet}
use Rattle.blk_law.specs.Sheets.Parts.{BlkPart, DiskDevice, BlkDriver, BlkVirt, BlkClient, Sharer}
use Rattle.blk_law.specs.Sheets.Rows.{answer_item, AsksInOrder, client_requests, ServesRequests}
use Rattle.blk_law.specs.Sheets.Rows.{answers_due, requests_due}

-- the ends at a client's queues
abbrev pub sharer_ends : Sharer → List Seat
sharer_ends c = intake c.req ∷ outlet c.resp ∷ []

-- the client's next request is needed once a response came from the driver, while none of its
-- requests is without an answer; and its answers are owed to it
abbrev pub sharer_wants : List ℕ → (req resp : ℕ) → Moved → Sharer → List Want
sharer_wants image req resp m c =
    intake_want c.req (nat_lt 0 (length (m.taken resp))
    && not (is_short (m.sent c.resp) (m.taken c.req)))
    ∷ outlet_want c.resp (is_short (m.sent c.resp) (answers_due image req resp m c)) ∷ []

-- what is said of an actor. A disk needs a request while it owes no response; a driver copies; a
-- virtualiser needs what the driver answers and owes it requests; and a client needs responses, and
-- owes a request where it has one that can be put
abbrev pub blk_sheet : Scene → BlkPart → Sheet
blk_sheet scene (DiskDevice req resp image) = record {
  ends = intake req ∷ outlet resp ∷ [];
  row = λ m. IsPrefix (m.sent resp) (map answer_item (m.taken req));
  wants = λ m. intake_want req (not (is_short (m.sent resp) (m.taken req)))
      ∷ outlet_want resp (is_short (m.sent resp) (m.taken req)) ∷ [];
  dues = λ m. record { queue = resp; number = length (m.taken req) } ∷ [];
  hand = λ pool. [];
}
blk_sheet scene (BlkDriver ways) = net_sheet scene (NetDriver ways)
blk_sheet scene (BlkVirt req resp sectors pool clients) = record {
  ends = intake resp ∷ outlet req ∷ flat_map sharer_ends clients;
  row = ServesRequests scene.image req resp pool clients;
  wants = λ m. intake_want resp true
      ∷ outlet_want req (nat_lt (length (m.sent req)) (requests_due scene.image clients m))
      ∷ flat_map (sharer_wants scene.image req resp m) clients;
  dues = λ m. record { queue = req; number = requests_due scene.image clients m }
      ∷ map (λ (c : Sharer). record {
        queue = c.resp;
        number = length (answers_due scene.image req resp m c);
      }) clients;
  hand = pool_hand pool;
}
blk_sheet scene (BlkClient req resp asks pool) = record {
  ends = intake resp ∷ outlet req ∷ [];
  row = λ m. AsksInOrder asks pool (m.taken resp) (m.sent req);
  wants = λ m. intake_want resp true
      ∷ outlet_want req
      (is_short (m.sent req) (client_requests asks pool (length (m.taken resp)))) ∷ [];
  dues = λ m. record {
    queue = req;
    number = length (client_requests asks pool (length (m.taken resp)));
  } ∷ [];
  hand = pool_hand pool;
}
