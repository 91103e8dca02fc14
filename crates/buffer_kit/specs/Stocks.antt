-- Buffers that are still to be given, in their order.
use Rattle.std.specs.Prelude.{◌≡◌, ◌+◌, ◌*◌, ◌<◌, ◌^◌, None, List, [], ◌++◌, All, length, map}
use Rattle.std.specs.Prelude.{reverse, option_to_list}
use Rattle.cargo_core.specs.declared.item.Body.{Body}
use Rattle.cargo_core.specs.Items.{kind_of}
use Rattle.cargo_core.specs.declared.item.QueueKind.TheVariants as Kind
use Rattle.cargo_core.specs.Pages.{Paged}
use Rattle.std.specs.Option.{ForSome}
use Rattle.wire_core.specs.Deeds.{Cargo}
use Rattle.turn_kit.specs.Hands.{bodies_of}
use Rattle.buffer_kit.specs.Pools.{ArePool, given_entry, page_bodies}
use Rattle.buffer_kit.specs.declared.stock.Stock.{Stock}

-- the entries that are still to be given
abbrev pub stock_list : Stock → List Cargo
stock_list s = option_to_list s.next ++ map (given_entry s.base s.size) (reverse s.rest.items)

-- the bodies that it has
abbrev pub stock_hand : Stock → List Body
stock_hand s = bodies_of (option_to_list s.next) ++ page_bodies s.rest.items

-- the next one is ready where any is left, it is an entry of the network, and each buffer has an
-- address
pub record IsStock (s : Stock) : Type 0 where
  pub ready : s.next ≡ None → s.rest.items ≡ []
  pub kind : ForSome s.next (λ c. kind_of c.0 ≡ Kind.Net)
  pub addresses : All (λ (p : Paged). s.base + p.no * s.size < 2 ^ 64) s.rest.items

-- these are the buffers of which it is the stock, in rising number
pub record IsStart (s : Stock) (pages : List Paged) : Type 0 where
  pub are_pool : ArePool s.base s.pool s.size pages
  pub many : length pages ≡ s.buffers

-- a stock of the same buffers
pub record SameStock (old new : Stock) : Type 0 where
  pub same_pool : new.pool ≡ old.pool
  pub buffers : new.buffers ≡ old.buffers
  pub base : new.base ≡ old.base
  pub size : new.size ≡ old.size
