-- Which lines are bad, and the bus that the others give.
use Rattle.std.specs.Prelude.{◌≡◌, ℕ, zero, suc, ◌+◌, ◌<◌, ◌==◌, ◌&&◌, ◌||◌, nat_le, nat_lt, Bool}
use Rattle.std.specs.Prelude.{true, false, if◌then◌else◌, List, [], ◌∷◌, length, take, sum_by}
use Rattle.std.specs.Prelude.{count_by, slice_get, Option, Some, None}
use Rattle.std.specs.List.{flat_map, filter_map, list_any}
use Rattle.i2c_text.specs.declared.bus.Bus.{Bus}
use Rattle.i2c_text.specs.declared.bus.BusAsk.{BusAsk}
use Rattle.i2c_text.specs.declared.line.Line.{Line}
use Rattle.i2c_text.specs.declared.line.Line.TheVariants as Says
use Rattle.line_text.specs.Texts.{lines_of}
use Rattle.line_text.specs.Lists.{per_client}
use Rattle.i2c_text.specs.Lines.{meaning}

-- how many requests there may be
abbrev pub asks_most : ℕ
asks_most = 1024

-- how many clients a line names
abbrev pub clients_said : Line → ℕ
clients_said (Says.Clients n) = n
clients_said _ = 0

-- the device that a line names
abbrev pub devices_said : Line → List ℕ
devices_said (Says.Device a) = a ∷ []
devices_said _ = []

-- what a line gives to the requests of a client
abbrev pub asks_said : ℕ → Line → List BusAsk
asks_said client (Says.Ask c ask) = if c == client then ask ∷ [] else []
asks_said client _ = []

-- the line gives a request
abbrev pub is_ask : Line → Bool
is_ask (Says.Ask c ask) = true
is_ask _ = false

-- the line isn't skipped
abbrev pub is_said : Line → Bool
is_said Says.Skipped = false
is_said _ = true

-- how many clients there are: those of the one `clients` line, and none where there is no such line
abbrev pub clients_in : List Line → ℕ
clients_in lines = sum_by clients_said lines

-- the addresses of the devices
abbrev pub devices_in : List Line → List ℕ
devices_in lines = flat_map devices_said lines

-- the bus that lines give
unfoldable pub bus_from : List Line → Bus
bus_from lines = record {
  clients = clients_in lines;
  devices = devices_in lines;
  asks = per_client (clients_in lines) (λ c. flat_map (asks_said c) lines);
}

-- whether a line is bad after the lines before it: it names clients and isn't the first that isn't
-- skipped, it names a device again, or it asks for a client that isn't there or passes the limit
abbrev pub is_out_of_place : List Line → Line → Bool
is_out_of_place before Says.Skipped = false
is_out_of_place before (Says.Clients n) = nat_lt 0 (count_by is_said before)
is_out_of_place before (Says.Device a) = list_any (λ d. d == a) (devices_in before)
is_out_of_place before (Says.Ask c ask) =
    nat_le (clients_in before) c || nat_le asks_most (count_by is_ask before)

-- whether a line of this meaning is bad after these lines
abbrev pub is_bad_after : List Line → Option Line → Bool
is_bad_after before None = true
is_bad_after before (Some line) = is_out_of_place before line

-- what the first lines of a text say
unfoldable pub lines_before : List ℕ → ℕ → List Line
lines_before text k = filter_map meaning (take k (lines_of text))

-- whether the line at a place, counted from 0, is bad; after the last line stands one that is bad
-- where there are no clients
abbrev pub place_is_bad : List ℕ → ℕ → Option (List ℕ) → Bool
place_is_bad text k (Some line) = is_bad_after (lines_before text k) (meaning line)
place_is_bad text k None =
    k == length (lines_of text) && clients_in (lines_before text k) == 0

-- the line at a place, counted from 0, is bad
unfoldable pub is_bad : List ℕ → ℕ → Bool
is_bad text k = place_is_bad text k (slice_get (lines_of text) k)

-- no line is bad
abbrev pub HasNoBadLine : List ℕ → Type 0
HasNoBadLine text = (k : ℕ) → is_bad text k ≡ false

-- this line, counted from 1, is bad, and no earlier one
pub record IsLeastBadLine (text : List ℕ) (number : ℕ) : Type 0 where
  pub at : ℕ
  pub counted : number ≡ at + 1
  pub bad : is_bad text at ≡ true
  pub before : (k : ℕ) → k < at → is_bad text k ≡ false

-- the bus that a text gives
unfoldable pub bus_of : List ℕ → Bus
bus_of text = bus_from (lines_before text (length (lines_of text)))

-- the bus is what a text without a bad line gives
pub record IsReadBus (bus : Bus) : Type 0 where
  pub text : List ℕ
  pub good : HasNoBadLine text
  pub given : bus ≡ bus_of text
