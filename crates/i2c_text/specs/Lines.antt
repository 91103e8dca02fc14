-- What each line of a bus's text says.
use Rattle.std.specs.Prelude.{ℕ, if◌then◌else◌, List, [], ◌∷◌, codes, Option, Some, None}
use Rattle.std.specs.Option.{option_and_then, option_map}
use Rattle.i2c_text.specs.declared.bus.BusAsk.{BusAsk}
use Rattle.i2c_text.specs.declared.bus.BusAsk.TheVariants as Asks
use Rattle.i2c_text.specs.declared.line.Line.{Line}
use Rattle.i2c_text.specs.declared.line.Line.TheVariants as Says
use Rattle.line_text.specs.Texts.{words_of, same_text, is_skipped, number_from}
use Rattle.i2c_text.specs.Texts.{bytes_of}

-- the number of a client that a word spells: there are at most 8
abbrev pub client_of : List ℕ → Option ℕ
client_of word = number_from 0 7 word

-- the address of a device that a word spells: those of seven bits that aren't reserved
abbrev pub address_of : List ℕ → Option ℕ
address_of word = number_from 8 119 word

-- `claim C A`
abbrev pub claim_said : (client address : List ℕ) → Option Line
claim_said client address =
    option_and_then (λ c. option_map (λ a. Says.Ask c (Asks.Claim a)) (address_of address))
    (client_of client)

-- `read C A N`: from 1 to 32 bytes
unfoldable pub read_said : (client address count : List ℕ) → Option Line
read_said client address count =
    option_and_then (λ c. option_and_then (λ a. option_map (λ n. Says.Ask c (Asks.Read a n))
    (number_from 1 32 count)) (address_of address)) (client_of client)

-- `write C A HEX`: from 1 to 32 bytes
unfoldable pub write_said : (client address bytes : List ℕ) → Option Line
write_said client address bytes =
    option_and_then (λ c. option_and_then (λ a. option_map (λ b. Says.Ask c (Asks.Write a b))
    (bytes_of bytes)) (address_of address)) (client_of client)

-- what the words of a line say: none where the line is bad by itself
unfoldable pub words_say : List (List ℕ) → Option Line
words_say (name ∷ n ∷ []) =
    if same_text name (codes "clients") then option_map (λ count. Says.Clients count)
    (number_from 1 8 n)
    else if same_text name (codes "device") then option_map (λ a. Says.Device a) (address_of n)
    else None
words_say (name ∷ c ∷ a ∷ []) =
    if same_text name (codes "claim") then claim_said c a else None
words_say (name ∷ c ∷ a ∷ x ∷ []) =
    if same_text name (codes "read") then read_said c a x
    else if same_text name (codes "write") then write_said c a x
    else None
words_say _ = None

-- what a line says: none where it is bad by itself
unfoldable pub meaning : List ℕ → Option Line
meaning line = if is_skipped line then Some Says.Skipped else words_say (words_of line)
