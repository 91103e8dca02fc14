-- The bytes of a word; the other words of a line are those of every text.
use Rattle.std.specs.Prelude.{ℕ, ◌&&◌, nat_le, if◌then◌else◌, List, length, Option, Some, None}
use Rattle.std.specs.Option.{option_and_then}
use Rattle.line_text.specs.Texts.{digits_meaning}

-- the bytes that a word spells, where there are 1 to 32
unfoldable pub bytes_of : List ℕ → Option (List ℕ)
bytes_of word =
    option_and_then (λ bytes. if nat_le 1 (length bytes) && nat_le (length bytes) 32
    then Some bytes else None) (digits_meaning word)
