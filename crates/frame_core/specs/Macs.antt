-- The addresses that texts spell, place by place.
use Rattle.std.specs.Prelude.{ℕ, ◌+◌, ◌-◌, ◌*◌, ◌%◌, ◌==◌, ◌&&◌, ◌||◌, nat_le, Bool, if◌then◌else◌}
use Rattle.std.specs.Prelude.{List, [], ◌∷◌, length, slice_index, Option, Some, None}
use Rattle.frame_core.specs.declared.mac.Mac.{Mac}

-- whether a byte is a hexadecimal digit, of either case
abbrev pub is_digit : ℕ → Bool
is_digit c =
    (nat_le 48 c && nat_le c 57) || (nat_le 65 c && nat_le c 70) || (nat_le 97 c && nat_le c 102)

-- the number that a hexadecimal digit stands for, and 0 for any other byte
abbrev pub digit_value : ℕ → ℕ
digit_value c =
    if nat_le 48 c && nat_le c 57 then c - 48
    else if nat_le 65 c && nat_le c 70 then c - 55
    else if nat_le 97 c && nat_le c 102 then c - 87
    else 0

-- whether two digits stand at a place
abbrev pub has_pair : List ℕ → ℕ → Bool
has_pair text at = is_digit (slice_index text at) && is_digit (slice_index text (at + 1))

-- the byte that the two digits at a place stand for
abbrev pub byte_at : List ℕ → ℕ → ℕ
byte_at text at = 16 * digit_value (slice_index text at) + digit_value (slice_index text (at + 1))

-- whether a colon stands at a place
abbrev pub has_colon : List ℕ → ℕ → Bool
has_colon text at = slice_index text at == 58

-- whether a text is six pairs of digits that are joined by colons
unfoldable pub is_mac_text : List ℕ → Bool
is_mac_text text =
    length text == 17 && has_pair text 0 && has_colon text 2 && has_pair text 3 && has_colon text 5
    && has_pair text 6 && has_colon text 8 && has_pair text 9 && has_colon text 11
    && has_pair text 12 && has_colon text 14 && has_pair text 15

-- the six bytes of such a text
unfoldable pub mac_bytes : List ℕ → List ℕ
mac_bytes text =
    byte_at text 0 ∷ byte_at text 3 ∷ byte_at text 6
    ∷ byte_at text 9 ∷ byte_at text 12 ∷ byte_at text 15 ∷ []

-- the address that a text spells: none where the text has another form, or where the low bit of the
-- first byte is 1, as in the address of a group
unfoldable pub mac_of : List ℕ → Option Mac
mac_of text =
    if is_mac_text text && byte_at text 0 % 2 == 0 then Some (record { 0 = mac_bytes text })
    else None
