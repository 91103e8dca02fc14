-- The lines of a generated trace, each with its end; d is a number that was drawn.
use Rattle.std.specs.Prelude.{ℕ, ◌+◌, ◌%◌, ◌==◌, if◌then◌else◌, List, [], ◌∷◌, ◌++◌, map, replicate}
use Rattle.std.specs.Prelude.{codes}
use Rattle.std.specs.Fmt.{decimal}
use Rattle.hex.specs.Hex.{encode_lower}
use Rattle.frame_core.specs.Frames.{broadcast}

-- the station 02:00:00:00:00:xx: 01 and 02 are the full example's clients, 63 and 99 are none
abbrev pub station : ℕ → List ℕ
station last = 2 ∷ 0 ∷ 0 ∷ 0 ∷ 0 ∷ last ∷ []

-- a frame of the type 08 00, with so many bytes of one value behind its header
abbrev pub frame : List ℕ → List ℕ → ℕ → ℕ → List ℕ
frame destination source many value = destination ++ source ++ 8 ∷ 0 ∷ replicate many value

-- where the received frames go, in turn: to the first client, to the second, to all, to nobody
abbrev pub destination : ℕ → List ℕ
destination i =
    if i % 4 == 0 then station 1
    else if i % 4 == 1 then station 2
    else if i % 4 == 2 then broadcast
    else station 0x63

-- the line of received frame i, with up to 63 bytes of value i
unfoldable pub rx_line : ℕ → ℕ → List ℕ
rx_line i d =
    codes "rx " ++ (encode_lower (frame (destination i) (station 0x99) (d % 64) i) ++ codes "\n")

-- the line of frame i that client 0 sends
unfoldable pub send_line : ℕ → ℕ → List ℕ
send_line i d =
    codes "send 0 "
    ++ (encode_lower (frame (station 0x99) (station 1) (d % 64) i) ++ codes "\n")

-- small letters, one for each draw
abbrev pub letters : List ℕ → List ℕ
letters ds = map (λ d. 97 + d % 26) ds

-- the line of the input: letters for client 0, the selection of client 1, and letters for that one
unfoldable pub in_line : List ℕ → List ℕ → List ℕ
in_line ds ds' =
    codes "in " ++ (encode_lower (letters ds ++ 28 ∷ 49 ∷ 13 ∷ letters ds') ++ codes "\n")

-- the line of what client 0 says
unfoldable pub say_line : List ℕ → List ℕ
say_line ds = codes "say 0 " ++ (encode_lower (letters ds) ++ codes "\n")

-- the lines of the disk, with a partition of 16 sectors from sector 8 on for client 0 and one of 8
-- sectors from sector 24 on for client 1
unfoldable pub disk_lines : List ℕ
disk_lines =
    codes "disk 64\n"
    ++ (codes "bytes 446 00000000830000000800000010000000\n"
    ++ (codes "bytes 462 00000000830000001800000008000000\n" ++ codes "bytes 510 55aa\n"))

-- the line of a request of client 0: it writes a block with bytes of one value
unfoldable pub write_line : ℕ → ℕ → List ℕ
write_line block value =
    codes "blk 0 write "
    ++ (decimal block ++ (codes " 1 4096*" ++ (encode_lower (value ∷ []) ++ codes "\n")))

-- the line of another: it reads a block
unfoldable pub read_line : ℕ → List ℕ
read_line block = codes "blk 0 read " ++ (decimal block ++ codes " 1\n")

-- the lines of three requests: client 0 writes one of its first two blocks with bytes of value i
-- and reads it, and client 1 reads its block
unfoldable pub blk_lines : ℕ → ℕ → List ℕ
blk_lines i d = write_line (d % 2) i ++ (read_line (d % 2) ++ codes "blk 1 read 0 1\n")
