-- The first sector of a disk: its signature, and the four entries of its partition table. From the
-- master boot record as disks have it.
use Rattle.std.specs.Prelude.{ℕ, ◌+◌, ◌*◌, ◌==◌, ◌&&◌, ◌||◌, not, Bool, List, [], ◌∷◌, map}
use Rattle.std.specs.Prelude.{slice_index}
use Rattle.std.specs.Int.{w32, from_le_bytes}
use Rattle.blk_mbr.specs.declared.entry.Entry.{Entry}

-- the number that stands at a place of the sector in four bytes, the lowest first
abbrev pub number_at : List ℕ → ℕ → ℕ
number_at sector at = from_le_bytes w32 (slice_index sector at ∷ slice_index sector (at + 1)
    ∷ slice_index sector (at + 2) ∷ slice_index sector (at + 3) ∷ [])

-- an entry of the table has 16 bytes: a byte of status, three of an old address, the type, three
-- more of an old address, the first sector, and the number of sectors; the first begins at 446
abbrev pub entry_of : List ℕ → ℕ → Entry
entry_of sector n = record {
  kind = slice_index sector (446 + 16 * n + 4);
  first = number_at sector (446 + 16 * n + 8);
  sectors = number_at sector (446 + 16 * n + 12);
}

-- its four entries
abbrev pub entries_of : List ℕ → List Entry
entries_of sector = map (entry_of sector) (0 ∷ 1 ∷ 2 ∷ 3 ∷ [])

-- the last two bytes are 0x55 and 0xAA
abbrev pub is_signed : List ℕ → Bool
is_signed sector = slice_index sector 510 == 85 && slice_index sector 511 == 170

-- an entry of type 0 is empty
abbrev pub is_used : Entry → Bool
is_used entry = not (entry.kind == 0)

-- type 0xEE says that another table rules the disk
abbrev pub is_protective : Entry → Bool
is_protective entry = entry.kind == 238

-- types 0x05 and 0x0F say that another table stands in the entry's sectors
abbrev pub is_extended : Entry → Bool
is_extended entry = entry.kind == 5 || entry.kind == 15
