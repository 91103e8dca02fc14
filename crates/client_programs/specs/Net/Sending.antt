-- The sending side of a network client: its buffers, and what it puts in them.
use Rattle.std.specs.Prelude.{◌≡◌, ◌+◌, ◌<◌, ◌≤◌, ◌&&◌, ◌||◌, ℕ, Bool, nat_lt, not, None, is_none}
use Rattle.std.specs.Prelude.{is_some, List, ◌++◌, length, map, option_to_list}
use Rattle.std.specs.Option.{ForSome}
use Rattle.cargo_core.specs.declared.item.Body.{Body}
use Rattle.cargo_core.specs.declared.item.QueueKind.TheVariants as Kind
use Rattle.cargo_core.specs.Items.{kind_of}
use Rattle.cargo_core.specs.Lists.{IsPrefix}
use Rattle.cargo_core.specs.Pages.{Paged}
use Rattle.wire_core.specs.Deeds.{Cargo}
use Rattle.turn_kit.specs.Hands.{bodies_of}
use Rattle.buffer_kit.specs.Entries.{all_filled}
use Rattle.buffer_kit.specs.Pools.{given_entry}
use Rattle.buffer_kit.specs.Stocks.{stock_list, stock_hand, IsStock, IsStart}
use Rattle.client_programs.specs.declared.net.outbox.Outbox.{Outbox}

-- a buffer is filled with each of these frames in turn: what it filled so far are the first of
-- them, and its entries are of the network
pub record FitsOutbox (o : Outbox) (frames : List (List ℕ)) : Type 0 where
  pub stock : IsStock o.stock
  pub load : ForSome o.load (λ c. kind_of c.0 ≡ Kind.Net)
  pub next : o.next ≤ length frames

-- something is to be put: a buffer that is filled, or one at hand with a frame to be sent
abbrev pub is_sending : Outbox → (frames : ℕ) → Bool
is_sending o frames = is_some o.load || (is_some o.stock.next && nat_lt o.next frames)

-- a frame is to be sent, and no buffer is in its hand
abbrev pub needs_buffer : Outbox → (frames : ℕ) → Bool
needs_buffer o frames = is_none o.load && (is_none o.stock.next && nat_lt o.next frames)

-- each of so many frames was put
abbrev pub is_through : Outbox → (frames : ℕ) → Bool
is_through o frames = is_none o.load && not (nat_lt o.next frames)

-- what it put are the first of these frames, in their order, each in the next of the buffers that
-- it had and then of those that came back; and it took one only where it had a frame to send and no
-- buffer in its hand
pub record SendsFrames (frames : List (List ℕ)) (had back put : List Cargo) : Type 0 where
  pub filled : IsPrefix put (all_filled frames (had ++ back))
  pub needed : 0 < length back → length had + length back ≤ length frames
  pub none_in_hand : 0 < length back → length had + length back ≤ length put + 1

-- it filled buffers with the first of these frames, and put them or has the last one in its hand;
-- its other buffers follow
pub record OutboxStandsFor (o : Outbox) (frames : List (List ℕ))
    (back put : List Cargo) : Type 0 where
  pub start : List Paged
  pub is_start : IsStart o.stock start
  pub used : List Cargo
  pub had : map (given_entry o.stock.base o.stock.size) start ++ back ≡ used ++ stock_list o.stock
  pub filled : put ++ option_to_list o.load ≡ all_filled frames used
  pub many : length used ≡ o.next
  pub few : o.next ≤ length frames
  pub needed : 0 < length back → length start + length back ≤ length frames
  pub none_in_hand : 0 < length back → length start + length back ≤ length put + 1

-- a sending side in its start state, with these buffers
pub record IsNewOutbox (pages : List Paged) (o : Outbox) : Type 0 where
  pub load : o.load ≡ None
  pub next : o.next ≡ 0
  pub is_start : IsStart o.stock pages
  pub base : o.stock.base ≡ 0
  pub stock : stock_list o.stock ≡ map (given_entry 0 o.stock.size) pages
  pub ready : IsStock o.stock

-- the bodies that it has: the buffer that it filled, and those that it keeps for later
abbrev pub outbox_hand : Outbox → List Body
outbox_hand o = bodies_of (option_to_list o.load) ++ stock_hand o.stock
