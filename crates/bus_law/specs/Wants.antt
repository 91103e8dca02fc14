-- What the actors of a bus want of their ends, by the items that went through the queues, the order
-- of all calls and what the clients ask: nothing of it is asked of the actors.
use Rattle.std.specs.Prelude.{◌+◌, ◌*◌, ◌==◌, ◌&&◌, ◌||◌, ℕ, zero, suc, nat_le, nat_lt, Bool, true}
use Rattle.std.specs.Prelude.{false, not, if◌then◌else◌, List, [], ◌∷◌, ◌++◌, length}
use Rattle.std.specs.List.{filter}
use Rattle.cargo_core.specs.declared.item.Item.{Item}
use Rattle.wire_core.specs.declared.names.Event.{Event}
use Rattle.play_core.specs.Moved.{Moved}
use Rattle.play_core.specs.Wants.{Want, intake_want, outlet_want}
use Rattle.small_system.specs.Wants.{Wanting}
use Rattle.i2c_text.specs.declared.bus.Bus.{Bus}
use Rattle.i2c_virt.specs.declared.i2c_kit.page.TheConstants.{BUFFERS}
use Rattle.i2c_virt.specs.I2cKit.Entries.{names, shared_place}
use Rattle.bus_law.specs.I2cLaw.Judging.{transfers_of}
use Rattle.bus_law.specs.Takes.{script_of, requests_by}

-- whether a client has a request to put and a buffer in hand: it doesn't await as many replies as
-- it has buffers
abbrev pub owes_request : Bus → Moved → (client : ℕ) → Bool
owes_request bus m c = nat_lt (length (m.sent (2 * c))) (length (script_of bus c))
    && nat_lt (length (m.sent (2 * c))) (length (m.taken (2 * c + 1)) + BUFFERS)

-- what a client wants: replies, and room for a request that it has to put
abbrev pub client_wants : Bus → Moved → (client : ℕ) → List Want
client_wants bus m c =
    intake_want (2 * c + 1) true ∷ outlet_want (2 * c) (owes_request bus m c) ∷ []

-- whether an item of the driver's queues names one of the two buffers of a client
abbrev pub is_item_of : (client : ℕ) → Item → Bool
is_item_of c item =
    names item (shared_place (record { 0 = c }) 0) || names item (shared_place (record { 0 = c }) 1)

-- how many of these items are a client's
abbrev pub items_many : (client : ℕ) → List Item → ℕ
items_many c items = length (filter (is_item_of c) items)

-- how many of a client's requests that were taken are transfers for the driver
abbrev pub transfers_many : Bus → List Event → (client : ℕ) → ℕ
transfers_many bus calls c = length (transfers_of c [] (requests_by bus calls))

-- a client's transfer is on its way to the driver
abbrev pub is_leaving : Bus → Moved → List Event → (client : ℕ) → Bool
is_leaving bus m calls c =
    nat_lt (items_many c (m.sent (2 * bus.clients))) (transfers_many bus calls c)

-- all transfers of a client that were taken came back from the driver
abbrev pub are_back : Bus → Moved → List Event → (client : ℕ) → Bool
are_back bus m calls c =
    nat_le (transfers_many bus calls c) (items_many c (m.taken (2 * bus.clients + 1)))

-- each request that was taken from a client was answered
abbrev pub are_answered : Moved → (client : ℕ) → Bool
are_answered m c = nat_le (length (m.taken (2 * c))) (length (m.sent (2 * c + 1)))

-- the answer to a client's last request is there, and was not given yet
abbrev pub is_held : Bus → Moved → List Event → (client : ℕ) → Bool
is_held bus m calls c = not (are_answered m c) && are_back bus m calls c

-- whether it is so of one of so many clients, from a number on
abbrev pub is_so_of_any : (ℕ → Bool) → (first count : ℕ) → Bool
is_so_of_any test first zero = false
is_so_of_any test first (suc count) = test first || is_so_of_any test (first + 1) count

-- what is wanted of each of so many clients, from a number on
abbrev pub of_each : (ℕ → Want) → (first count : ℕ) → List Want
of_each want first zero = []
of_each want first (suc count) = want first ∷ of_each want (first + 1) count

-- what the virtualiser wants: responses; room at the driver while a transfer is on its way there;
-- the requests of each client whose last one was answered; and room for each answer that it holds
abbrev pub virt_wants : Bus → Moved → List Event → List Want
virt_wants bus m calls =
    intake_want (2 * bus.clients + 1) true
    ∷ outlet_want (2 * bus.clients) (is_so_of_any (is_leaving bus m calls) 0 bus.clients)
    ∷ (of_each (λ c. intake_want (2 * c) (are_answered m c)) 0 bus.clients
    ++ of_each (λ c. outlet_want (2 * c + 1) (is_held bus m calls c)) 0 bus.clients)

-- whether an entry was taken on one queue for which none was put on another yet
abbrev pub holds_one : Moved → (from to : ℕ) → Bool
holds_one m from to = nat_lt (length (m.sent to)) (length (m.taken from))

-- what is wanted by who puts an entry on one queue for each that it takes from another: entries
-- while it holds none, and room while it holds one
abbrev pub hands_on : Moved → (from to : ℕ) → List Want
hands_on m from to =
    intake_want from (not (holds_one m from to)) ∷ outlet_want to (holds_one m from to) ∷ []

-- what the driver wants: the same of requests, and of answers
abbrev pub driver_wants : (clients : ℕ) → Moved → List Want
driver_wants n m =
    hands_on m (2 * n) (2 * n + 2) ++ hands_on m (2 * n + 3) (2 * n + 1)

-- what each actor wants, by its number: the clients come first, and then the virtualiser, the
-- driver and the bus
abbrev pub bus_wants : Bus → Wanting
bus_wants bus k m calls =
    if nat_lt k bus.clients then client_wants bus m k
    else if k == bus.clients then virt_wants bus m calls
    else if k == bus.clients + 1 then driver_wants bus.clients m
    else if k == bus.clients + 2
    then hands_on m (2 * bus.clients + 2) (2 * bus.clients + 3)
    else []
