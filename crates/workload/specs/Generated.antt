-- The trace that a number generates, as a text.
use Rattle.std.specs.Prelude.{ℕ, ◌+◌, List, [], ◌∷◌, ◌++◌}
use Rattle.workload.specs.Draws.{drawn_behind}
use Rattle.workload.specs.Lines.{rx_line, send_line, in_line, say_line, disk_lines, blk_lines}

-- the texts of numbers that were drawn, one behind another: each by its place, counted from i on,
-- and the number
unfoldable pub numbered : (ℕ → ℕ → List ℕ) → ℕ → List ℕ → List ℕ
numbered text i [] = []
numbered text i (d ∷ ds) = text i d ++ numbered text (i + 1) ds

-- the generated trace: 256 received frames, 32 frames that are sent, 2,048 letters of input and 512
-- that are said, and a disk with 96 requests; its 2,880 draws begin with x
unfoldable pub generated_text : ℕ → List ℕ
generated_text x =
    numbered rx_line 0 (drawn_behind 0 x 256)
    ++ (numbered send_line 0 (drawn_behind 256 x 32)
    ++ (in_line (drawn_behind 288 x 1024) (drawn_behind 1312 x 1024)
    ++ (say_line (drawn_behind 2336 x 512)
    ++ (disk_lines ++ numbered blk_lines 0 (drawn_behind 2848 x 32)))))
