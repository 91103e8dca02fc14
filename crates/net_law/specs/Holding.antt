-- The network where its device and its copiers wait for buffers: what is then said of them, and of
-- a client by the frames that are for it.
use Rattle.std.specs.Prelude.{◌≡◌, ◌+◌, ◌&&◌, ◌<◌, ◌≤◌, ℕ, true, not, nat_lt, List, [], ◌∷◌}
use Rattle.std.specs.Prelude.{◌++◌, length, map, take}
use Rattle.cargo_core.specs.Lists.{IsPrefix}
use Rattle.cargo_core.specs.declared.item.Item.{Item}
use Rattle.frame_core.specs.declared.mac.Mac.{Mac}
use Rattle.play_core.specs.Moved.{Moved}
use Rattle.play_core.specs.Wants.{intake, outlet, intake_want, outlet_want}
use Rattle.play_core.specs.Sheets.{Sheet}
use Rattle.owner_law.specs.Things.{Window}
use Rattle.owner_law.specs.Pools.Places.{PoolAt, by_offset, pool_hand}
use Rattle.class_expect.specs.NetExpect.Expecting.{Program, Sink, Source, Echo, answers_for}
use Rattle.buffer_kit.specs.Entries.{len_of}
use Rattle.net_law.specs.Parts.Rows.{sized_items, given_items, is_answering}
use Rattle.net_law.specs.Parts.Table.{is_short}

-- what a device may have put: the buffers that it took, in their order and each with the length of
-- the frame of its place, of which it took no more than there are frames; and what was sent, as it
-- came
pub record HoldingFills (frames : List (List ℕ)) (buffers gave came back : List Item) :
    Type 0 where
  pub filled : IsPrefix gave (sized_items (map (λ frame. length frame) frames) buffers)
  pub takes : length buffers ≤ length frames
  pub returns : IsPrefix back came

-- what a copier may have put: the buffers that it took, in their order and each with the length of
-- the lease of its place, of which it took no more than leases; and the leases as they came, no
-- more of them than buffers
pub record HoldingCopies (leases buffers gave back : List Item) : Type 0 where
  pub copies : IsPrefix gave (sized_items (map len_of leases) buffers)
  pub takes_for : length buffers ≤ length leases
  pub gives_back : IsPrefix back leases
  pub after_copy : length back ≤ length gave

-- what is said of a device
abbrev pub holding_device_sheet : (rx_free rx_active tx_active tx_free : ℕ) → List (List ℕ) → Sheet
holding_device_sheet rx_free rx_active tx_active tx_free frames = record {
  ends = intake rx_free ∷ outlet rx_active ∷ intake tx_active ∷ outlet tx_free ∷ [];
  row = λ m. HoldingFills frames (m.taken rx_free) (m.sent rx_active) (m.taken tx_active)
      (m.sent tx_free);
  wants = λ m.
      intake_want rx_free (is_short (m.taken rx_free) frames
      && not (is_short (m.sent rx_active) (m.taken rx_free)))
      ∷ outlet_want rx_active (is_short (m.sent rx_active) (m.taken rx_free))
      ∷ intake_want tx_active (not (is_short (m.sent tx_free) (m.taken tx_active)))
      ∷ outlet_want tx_free (is_short (m.sent tx_free) (m.taken tx_active)) ∷ [];
  dues = λ m. record { queue = rx_active; number = length (m.taken rx_free) }
      ∷ record { queue = tx_free; number = length (m.taken tx_active) } ∷ [];
  hand = λ pool. [];
}

-- what is said of a copier
abbrev pub holding_copier_sheet : (lease_active lease_free rx_active rx_free : ℕ) → Sheet
holding_copier_sheet lease_active lease_free rx_active rx_free = record {
  ends = intake lease_active ∷ intake rx_free ∷ outlet rx_active ∷ outlet lease_free ∷ [];
  row = λ m. HoldingCopies (m.taken lease_active) (m.taken rx_free) (m.sent rx_active)
      (m.sent lease_free);
  wants = λ m. intake_want lease_active (not (is_short (m.sent lease_free) (m.taken lease_active)))
      ∷ intake_want rx_free (is_short (m.taken rx_free) (m.taken lease_active))
      ∷ outlet_want rx_active (is_short (m.sent rx_active) (m.taken rx_free))
      ∷ outlet_want lease_free (is_short (m.sent lease_free) (m.sent rx_active)) ∷ [];
  dues = λ m. record { queue = rx_active; number = length (m.taken rx_free) }
      ∷ record { queue = lease_free; number = length (m.sent rx_active) } ∷ [];
  hand = λ pool. [];
}

-- the frames that the client of an address sends by its program where so many came, of those that
-- the device receives
abbrev pub sent_where : Program → Mac → List (List ℕ) → (came : ℕ) → List (List ℕ)
sent_where Sink mac frames came = []
sent_where (Source script) mac frames came = script
sent_where Echo mac frames came = take came (answers_for mac frames)

-- the items by which it sends these frames: its own buffers in rising number and then those that
-- came back, each with the length of the frame of its place
abbrev pub holding_items : List (List ℕ) → Window → List Item → List Item
holding_items frames own back =
    sized_items (map (λ frame. length frame) frames) (given_items own ++ back)

-- what a client may have put to be sent: the first of those items; and it takes a buffer only where
-- it has a frame to send and no buffer in its hand
pub record HoldingSends (frames : List (List ℕ)) (own : Window) (back put : List Item) :
    Type 0 where
  pub filled : IsPrefix put (holding_items frames own back)
  pub needed : 0 < length back → own.buffers + length back ≤ length frames
  pub none_in_hand : 0 < length back → own.buffers + length back ≤ length put + 1

-- what a client may have put: its own buffers in rising number and then those that it took, as they
-- came; and the frames of its program, where an echo takes a frame only after its answer to the one
-- before. No buffer is empty
pub record HoldingServes (program : Program) (mac : Mac) (frames : List (List ℕ)) (rx tx : Window)
    (came gave back put : List Item) : Type 0 where
  pub sized : 0 < rx.size
  pub spare_sized : 0 < tx.size
  pub given : IsPrefix gave (given_items rx ++ came)
  pub sends : HoldingSends (sent_where program mac frames (length came)) tx back put
  pub answered : is_answering program ≡ true → length came ≤ length put + 1

-- the items by which a client sends, where these came to it and those buffers came back
abbrev pub holding_client_items : Program → Mac → List (List ℕ) → (came : List Item) → PoolAt
    → (back : List Item) → List Item
holding_client_items program mac frames came tx back =
    holding_items (sent_where program mac frames (length came)) (by_offset tx) back

-- what is said of a client, by the frames that the device receives
abbrev pub holding_client_sheet : List (List ℕ) → Program → Mac
    → (rx_active rx_free tx_active tx_free : ℕ) → (rx tx : PoolAt) → Sheet
holding_client_sheet frames program mac rx_active rx_free tx_active tx_free rx tx = record {
  ends = intake rx_active ∷ outlet rx_free ∷ intake tx_free ∷ outlet tx_active ∷ [];
  row = λ m. HoldingServes program mac frames (by_offset rx) (by_offset tx)
      (m.taken rx_active) (m.sent rx_free) (m.taken tx_free) (m.sent tx_active);
  wants = λ m.
      intake_want rx_active (not (nat_lt 0 (length (m.taken rx_active))
      && nat_lt (length (m.sent rx_free)) (rx.buffers + length (m.taken rx_active)))
      && not (is_answering program && is_short (m.sent tx_active) (m.taken rx_active)))
      ∷ outlet_want rx_free
      (nat_lt (length (m.sent rx_free)) (rx.buffers + length (m.taken rx_active)))
      ∷ intake_want tx_free (is_short (m.sent tx_active)
      (sent_where program mac frames (length (m.taken rx_active)))
      && not (nat_lt (length (m.sent tx_active)) (tx.buffers + length (m.taken tx_free))))
      ∷ outlet_want tx_active (is_short (m.sent tx_active)
      (holding_client_items program mac frames (m.taken rx_active) tx (m.taken tx_free))) ∷ [];
  dues = λ m.
      record { queue = rx_free; number = rx.buffers + length (m.taken rx_active) }
      ∷ record {
        queue = tx_active;
        number = length (holding_client_items program mac frames (m.taken rx_active) tx
            (m.taken tx_free));
      } ∷ [];
  hand = λ pool. pool_hand rx pool ++ pool_hand tx pool;
}
