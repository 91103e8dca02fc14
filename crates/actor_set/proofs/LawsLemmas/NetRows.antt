-- The rows of the network's actors, of entries, from what they stand for; and of items.
use Rattle.std.proofs.Common.{◌≡◌, List, [], ◌∷◌, sym, arith}
use Rattle.std.specs.Option.{option_to_list}
use Rattle.wire_core.specs.Ends.{Role, Consumer, Producer}
use Rattle.wire_core.specs.Lists.{Passed}
use Rattle.wire_core.specs.Queues.{items_of}
use Rattle.turn_kit.specs.declared.pipe.Pipe.{Pipe}
use Rattle.pipe_driver.specs.Drivers.{PipesStandFor, PipesRow}
use Rattle.play_core.specs.Moved.{Moved, Seat, went}
use Rattle.net_law.specs.Owners.Ends.{AreItemsOf, passed_at}
use Rattle.play_core.specs.Rests.Showing.{HaveItems}

pub pipes_row_of : (ps : List Pipe) (passed : Passed) → PipesStandFor ps passed → PipesRow ps passed
pipes_row_of [] passed st = tt
pipes_row_of (p ∷ ps) passed st = ((option_to_list p.load, sym st.0), pipes_row_of ps passed st.1)

-- the items at each end are those of the entries that passed there
pub items_at : (seats : List Seat) (passed : Passed) (m : Moved) → HaveItems passed m → AreItemsOf seats passed m
items_at seats passed m h i s at = by s.role
  where
    by : (r : Role) → went m r s.queue ≡ items_of (passed_at passed r s.queue)
    by Consumer = sym (h.taken s.queue)
    by Producer = sym (h.sent s.queue)
