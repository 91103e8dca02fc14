use Rattle.std.proofs.Common.{◌≡◌, ◌+◌, ◌-◌, ◌*◌, ◌≤◌, ℕ, true, List, length, take, drop, ap, ◌∙◌, arith}
use Rattle.std.proofs.lemmas.Bool.{leb-true}
use Rattle.cargo_core.specs.Lists.{replaced}
use Rattle.class_expect.specs.BlkExpect.BlkKit.Blocks.{has_blocks, blocks_at, with_blocks}
use Rattle.class_expect.proofs.BlkExpect.BlkKit.Windows.{run_inside, replaced_inside, replaced_above, replaced_below}

-- blocks of a run, by their place in it
pub read_inside : (image : List ℕ) (first count block n : ℕ) → block + n ≤ count → blocks_at image (first + block) n ≡ blocks_at (blocks_at image first count) block n
read_inside image first count block n h =
    let at : (first + block) * 4096 ≡ first * 4096 + block * 4096 = omega arith in
    ap (λ k. take (n * 4096) (drop k image)) at ∙ run_inside image (first * 4096) (count * 4096) (block * 4096) (n * 4096) (omega arith)

pub write_inside : (image bytes : List ℕ) (first count block : ℕ) → block * 4096 + length bytes ≤ count * 4096 → has_blocks image first count ≡ true → blocks_at (with_blocks image (first + block) bytes) first count ≡ with_blocks (blocks_at image first count) block bytes
write_inside image bytes first count block h has =
    let long : (first + count) * 4096 ≤ length image = leb-true ((first + count) * 4096) (length image) has in
    let at : (first + block) * 4096 ≡ first * 4096 + block * 4096 = omega arith in
    ap (λ k. take (count * 4096) (drop (first * 4096) (replaced image k bytes))) at ∙ replaced_inside image bytes (first * 4096) (count * 4096) (block * 4096) h (omega arith)

pub write_above : (image bytes : List ℕ) (first count block : ℕ) → first + count ≤ block → has_blocks image first count ≡ true → blocks_at (with_blocks image block bytes) first count ≡ blocks_at image first count
write_above image bytes first count block h has =
    let long : (first + count) * 4096 ≤ length image = leb-true ((first + count) * 4096) (length image) has in
    let at : block * 4096 ≡ first * 4096 + count * 4096 + (block * 4096 - (first * 4096 + count * 4096)) = omega arith in
    ap (λ k. take (count * 4096) (drop (first * 4096) (replaced image k bytes))) at ∙ replaced_above image bytes (first * 4096) (count * 4096) (block * 4096 - (first * 4096 + count * 4096)) (omega arith)

pub write_below : (image bytes : List ℕ) (first count block : ℕ) → block * 4096 + length bytes ≤ first * 4096 → has_blocks image first count ≡ true → blocks_at (with_blocks image block bytes) first count ≡ blocks_at image first count
write_below image bytes first count block h has =
    let long : (first + count) * 4096 ≤ length image = leb-true ((first + count) * 4096) (length image) has in
    replaced_below image bytes (first * 4096) (count * 4096) (block * 4096) h (omega arith)
