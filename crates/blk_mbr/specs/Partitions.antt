-- Which partitions a table gives: all are refused where the table can't be trusted, and one where
-- its own entry can't be used.
use Rattle.std.specs.Prelude.{◌≡◌, ℕ, ◌+◌, ◌*◌, ◌/◌, ◌%◌, ◌<◌, ◌≤◌, ◌==◌, ◌&&◌, not, max, min}
use Rattle.std.specs.Prelude.{nat_le, nat_lt, Bool, true, Option, Some, None, if◌then◌else◌, List}
use Rattle.std.specs.Prelude.{[], ◌∷◌, map}
use Rattle.std.specs.List.{list_all, list_any}
use Rattle.blk_mbr.specs.declared.entry.Entry.{Entry}
use Rattle.blk_mbr.specs.declared.part.Part.{Part}
use Rattle.blk_mbr.specs.Sectors.{entry_of, entries_of, is_signed, is_used, is_protective}
use Rattle.blk_mbr.specs.Sectors.{is_extended}

-- the sectors of an entry begin at its first one, and end before this one
abbrev pub end_of : Entry → ℕ
end_of entry = entry.first + entry.sectors

-- two entries that aren't empty share a sector: the later of their first sectors comes before the
-- earlier of their ends
abbrev pub do_clash : Entry → Entry → Bool
do_clash one other = is_used one && (is_used other
    && nat_lt (max one.first other.first) (min (end_of one) (end_of other)))

-- no two entries clash
abbrev pub are_apart : List Entry → Bool
are_apart [] = true
are_apart (entry ∷ entries) = list_all (λ other. not (do_clash entry other)) entries
    && are_apart entries

-- a table can be trusted: it is signed, no entry is protective, and no two clash
abbrev pub is_trusted : Bool → List Entry → Bool
is_trusted signed entries = signed && (not (list_any is_protective entries) && are_apart entries)

-- the table of a sector can be trusted
abbrev pub is_table : List ℕ → Bool
is_table sector = is_trusted (is_signed sector) (entries_of sector)

-- an entry of a disk can be used: it is neither empty nor extended, it begins at a block that isn't
-- the disk's first, and it ends on the disk; a block is eight sectors
abbrev pub is_usable : ℕ → Entry → Bool
is_usable disk_sectors entry = is_used entry && (not (is_extended entry)
    && (nat_le 8 entry.first && (entry.first % 8 == 0 && nat_le (end_of entry) disk_sectors)))

-- the whole blocks of an entry
abbrev pub blocks_of : Entry → Part
blocks_of entry = record { first_block = entry.first / 8; blocks = entry.sectors / 8 }

-- an entry's partition, if its table can be trusted and the entry be used
abbrev pub given_part : Bool → ℕ → Entry → Option Part
given_part trusted disk_sectors entry =
    if trusted && is_usable disk_sectors entry then Some (blocks_of entry) else None

-- the partition of an entry, by its number, of a disk with this first sector and so many sectors
abbrev pub part_of : List ℕ → ℕ → ℕ → Option Part
part_of sector disk_sectors n = given_part (is_table sector) disk_sectors (entry_of sector n)

-- the partitions of the four entries
abbrev pub partitions_of : List ℕ → ℕ → List (Option Part)
partitions_of sector disk_sectors = map (part_of sector disk_sectors) (0 ∷ 1 ∷ 2 ∷ 3 ∷ [])

-- a sector is one of an entry's
abbrev pub Holds : Entry → ℕ → Type 0
Holds entry s = (entry.first ≤ s) × (s < entry.first + entry.sectors)

-- a partition as the table tells it: what must hold of the sector, of the entry and of the disk
pub record IsPartition (sector : List ℕ) (disk_sectors n : ℕ) (part : Part) : Type 0 where
  pub signed : is_signed sector ≡ true
  pub unprotected : (k : ℕ) → k < 4 → (entry_of sector k).kind ≡ 238 → ⊥
  pub apart : (j k s : ℕ) → j < 4 → k < 4 → (j ≡ k → ⊥) → is_used (entry_of sector j) ≡ true
      → is_used (entry_of sector k) ≡ true → Holds (entry_of sector j) s
      → Holds (entry_of sector k) s → ⊥
  pub used : is_used (entry_of sector n) ≡ true
  pub plain : is_extended (entry_of sector n) ≡ true → ⊥
  pub after_first : 8 ≤ (entry_of sector n).first
  pub begins : (entry_of sector n).first ≡ 8 * part.first_block
  pub whole : (rest : ℕ) × (rest < 8)
      × ((entry_of sector n).sectors ≡ 8 * part.blocks + rest)
  pub on_disk : (entry_of sector n).first + (entry_of sector n).sectors ≤ disk_sectors
