-- The table of the network's receive half: all that is said of one of its actors, one case for each
-- kind.
use Rattle.std.specs.Prelude.{◌+◌, ◌&&◌, ◌||◌, ℕ, Bool, not, false, nat_lt, List, [], ◌∷◌, ◌++◌}
use Rattle.std.specs.Prelude.{length, map, flat_map}
use Rattle.cargo_core.specs.declared.item.Item.{Item}
use Rattle.wire_core.specs.Bells.{bit}
use Rattle.wire_core.specs.Marks.{sum_below}
use Rattle.wire_core.specs.Ends.{Consumer}
use Rattle.play_core.specs.Moved.{Moved, Seat, gone_at}
use Rattle.play_core.specs.Wants.{Want, intake, outlet, intake_want, outlet_want}
use Rattle.play_core.specs.Sheets.{Scene, Sheet, Due}
use Rattle.frame_core.specs.declared.mac.Mac.{Mac}
use Rattle.class_expect.specs.NetExpect.Expecting.{Program}
use Rattle.owner_law.specs.Pools.Places.{PoolAt, by_offset, pool_hand}
use Rattle.net_law.specs.Owners.Lending.{Lender}
use Rattle.net_law.specs.Parts.Parts.{NetPart, NetDevice, NetDriver, NetReceiver, NetCopier}
use Rattle.net_law.specs.Parts.Parts.{NetClient, Way, Lessee}
use Rattle.net_law.specs.Parts.Rows.{FillsSome, AllCopy, CopiesSome, ServesClient}
use Rattle.net_law.specs.Parts.Rows.{sent_lens, sent_items, is_answering, SharesFrames}
use Rattle.net_law.specs.Parts.Rows.{leases_from, lender_of, is_lent}

-- the first list is shorter than the second
abbrev pub is_short : {T U : Type 0} → List T → List U → Bool
is_short xs ys = nat_lt (length xs) (length ys)

-- the ends of a way
abbrev pub way_ends : Way → List Seat
way_ends w = intake w.input ∷ outlet w.output ∷ []

-- what came in at a way is still to be put, or more is needed
abbrev pub way_wants : Moved → Way → List Want
way_wants m w = intake_want w.input (not (is_short (m.sent w.output) (m.taken w.input)))
    ∷ outlet_want w.output (is_short (m.sent w.output) (m.taken w.input)) ∷ []

-- as many entries are due to its output as came in
abbrev pub way_due : Moved → Way → Due
way_due m w = record { queue = w.output; number = length (m.taken w.input) }

-- how many of a pool's buffers aren't lent
abbrev pub home_count : PoolAt → Lender → Moved → ℕ
home_count pool l m =
    sum_below (λ k. bit (not (is_lent pool l m (record { pool = pool.number; no = k }))))
    pool.buffers

-- as many buffers are due to the queue of free ones as came with frames or were there at the start,
-- but for those that are lent
abbrev pub frees_due : PoolAt → Lender → Moved → ℕ
frees_due pool l m = length (m.taken l.frames) + home_count pool l m

-- the leases that are due to a client
abbrev pub leases_of : List (List ℕ) → PoolAt → (active : ℕ) → Moved → Lessee → List Item
leases_of frames pool active m c = leases_from frames pool.base c.mac 0 (m.taken active)

-- some client is owed a lease
abbrev pub some_owed : List (List ℕ) → PoolAt → (active : ℕ) → Moved → List Lessee → Bool
some_owed frames pool active m [] = false
some_owed frames pool active m (c ∷ cs) =
    is_short (m.sent c.active) (leases_of frames pool active m c)
    || some_owed frames pool active m cs

-- the receiving virtualiser has a lease or a buffer in its hand
abbrev pub is_busy : List (List ℕ) → (active free : ℕ) → PoolAt → List Lessee → Moved → Bool
is_busy frames active free pool clients m = some_owed frames pool active m clients
    || nat_lt (length (m.sent free)) (frees_due pool (lender_of frames active free pool clients) m)

-- the ends at a client's queues of leases
abbrev pub lessee_ends : Lessee → List Seat
lessee_ends c = outlet c.active ∷ intake c.free ∷ []

-- what is due to the client is owed, and a lease is needed while nothing is in hand
abbrev pub lessee_wants : List (List ℕ) → PoolAt → (active : ℕ) → (busy : Bool) → Moved → Lessee
    → List Want
lessee_wants frames pool active busy m c =
    outlet_want c.active (is_short (m.sent c.active) (leases_of frames pool active m c))
    ∷ intake_want c.free (not busy) ∷ []

-- the items by which a client sends, where these came to it and those buffers came back
abbrev pub client_items : Program → Mac → (came : List Item) → PoolAt → (back : List Item)
    → List Item
client_items program mac came tx back =
    sent_items (sent_lens program mac came) (by_offset tx) back

-- what is said of an actor: what it puts is what the frames that the device accepted and what it
-- took allow; it needs room for what it still has to put, and an input while nothing that came
-- there is still to be put. What was dropped counts as what was put
abbrev pub net_sheet : Scene → NetPart → Sheet
net_sheet scene (NetDevice rx_free rx_active tx_active tx_free frames drops) = record {
  ends = intake rx_free ∷ outlet rx_active ∷ intake tx_active ∷ outlet tx_free ∷ [];
  row = λ m. FillsSome drops (gone_at drops m Consumer rx_free) frames (m.taken rx_free)
      (m.sent rx_active) (m.taken tx_active) (m.sent tx_free);
  wants = λ m.
      intake_want rx_free (nat_lt (length (m.taken rx_free) + gone_at drops m Consumer rx_free)
      (length frames) && not (is_short (m.sent rx_active) (m.taken rx_free)))
      ∷ outlet_want rx_active (is_short (m.sent rx_active) (m.taken rx_free))
      ∷ intake_want tx_active (not (is_short (m.sent tx_free) (m.taken tx_active)))
      ∷ outlet_want tx_free (is_short (m.sent tx_free) (m.taken tx_active)) ∷ [];
  dues = λ m. record { queue = rx_active; number = length (m.taken rx_free) }
      ∷ record { queue = tx_free; number = length (m.taken tx_active) } ∷ [];
  hand = λ pool. [];
}
net_sheet scene (NetDriver ways) = record {
  ends = flat_map way_ends ways;
  row = AllCopy ways;
  wants = λ m. flat_map (way_wants m) ways;
  dues = λ m. map (way_due m) ways;
  hand = λ pool. [];
}
net_sheet scene (NetReceiver active free pool clients) = record {
  ends = intake active ∷ outlet free ∷ flat_map lessee_ends clients;
  row = SharesFrames scene.frames active free pool clients;
  wants = λ m.
      intake_want active (not (is_busy scene.frames active free pool clients m))
      ∷ outlet_want free (nat_lt (length (m.sent free))
      (frees_due pool (lender_of scene.frames active free pool clients) m))
      ∷ flat_map (lessee_wants scene.frames pool active
      (is_busy scene.frames active free pool clients m) m) clients;
  dues = λ m. record {
    queue = free;
    number = frees_due pool (lender_of scene.frames active free pool clients) m;
  }
      ∷ map (λ c. record {
        queue = c.active;
        number = length (leases_of scene.frames pool active m c);
      }) clients;
  hand = pool_hand pool;
}
net_sheet scene (NetCopier lease_active lease_free rx_active rx_free drops) = record {
  ends = intake lease_active ∷ intake rx_free ∷ outlet rx_active ∷ outlet lease_free ∷ [];
  row = λ m. CopiesSome (gone_at drops m Consumer rx_free) (m.taken lease_active)
      (m.taken rx_free) (m.sent rx_active) (m.sent lease_free);
  wants = λ m.
      intake_want lease_active (not (is_short (m.sent lease_free) (m.taken lease_active)))
      ∷ intake_want rx_free (nat_lt (length (m.taken rx_free)
      + gone_at drops m Consumer rx_free) (length (m.taken lease_active)))
      ∷ outlet_want rx_active (is_short (m.sent rx_active) (m.taken rx_free))
      ∷ outlet_want lease_free (nat_lt (length (m.sent lease_free))
      (length (m.sent rx_active) + gone_at drops m Consumer rx_free)) ∷ [];
  dues = λ m. record { queue = rx_active; number = length (m.taken rx_free) }
      ∷ record {
        queue = lease_free;
        number = length (m.sent rx_active) + gone_at drops m Consumer rx_free;
      } ∷ [];
  hand = λ pool. [];
}
net_sheet scene (NetClient program mac rx_active rx_free tx_active tx_free rx tx) = record {
  ends = intake rx_active ∷ outlet rx_free ∷ intake tx_free ∷ outlet tx_active ∷ [];
  row = λ m. ServesClient program mac (by_offset rx) (by_offset tx) (m.taken rx_active)
      (m.sent rx_free) (m.taken tx_free) (m.sent tx_active);
  wants = λ m.
      intake_want rx_active (not (nat_lt 0 (length (m.taken rx_active))
      && nat_lt (length (m.sent rx_free)) (rx.buffers + length (m.taken rx_active)))
      && not (is_answering program && is_short (m.sent tx_active) (m.taken rx_active)))
      ∷ outlet_want rx_free
      (nat_lt (length (m.sent rx_free)) (rx.buffers + length (m.taken rx_active)))
      ∷ intake_want tx_free (is_short (m.sent tx_active)
      (sent_lens program mac (m.taken rx_active))
      && not (nat_lt (length (m.sent tx_active)) (tx.buffers + length (m.taken tx_free))))
      ∷ outlet_want tx_active (is_short (m.sent tx_active)
      (client_items program mac (m.taken rx_active) tx (m.taken tx_free))) ∷ [];
  dues = λ m.
      record { queue = rx_free; number = rx.buffers + length (m.taken rx_active) }
      ∷ record {
        queue = tx_active;
        number = length (client_items program mac (m.taken rx_active) tx (m.taken tx_free));
      } ∷ [];
  hand = λ pool. pool_hand rx pool ++ pool_hand tx pool;
}
