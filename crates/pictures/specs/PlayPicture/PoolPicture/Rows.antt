-- The row of a pool.
use Rattle.std.specs.Prelude.{ℕ, ◌+◌, ◌-◌, ◌*◌, ◌/◌, List, [], ◌∷◌, ◌++◌, max, codes}
use Rattle.std.specs.Fmt.{decimal}
use Rattle.cargo_core.specs.declared.census.Census.{Census}
use Rattle.picture_kit.specs.declared.ink.Ink.{Ink}
use Rattle.picture_kit.specs.declared.ink.Ink.TheVariants as In
use Rattle.picture_kit.specs.declared.shape.Form.TheVariants as As
use Rattle.picture_kit.specs.declared.shape.Shape.{Shape}
use Rattle.picture_kit.specs.Shapes.{area, noted, words}

-- where a row is
abbrev pub row_y : ℕ → ℕ
row_y k = 56 + 24 * k

-- how long the part of a bar for so many of a pool's buffers is, where the whole is 480 pixels
unfoldable pub part_width : ℕ → ℕ → ℕ
part_width buffers count = 480 * count / max buffers 1

-- a part of a bar
unfoldable pub part_shapes : Ink → ℕ → ℕ → ℕ → List ℕ → List Shape
part_shapes ink x y width note = noted ink (As.Block (area x (y - 8) width 16)) note ∷ []

-- the parts of a bar, one behind the other: the buffers in queues, in hands, and lent
abbrev pub parts : ℕ → ℕ → Census → List Shape
parts left y pool =
    let queues = part_width pool.buffers pool.queues in
    let hands = part_width pool.buffers pool.hands in
    let lent = part_width pool.buffers pool.lent in
    part_shapes (In.Shade 0) left y queues (codes "in queues")
    ++ (part_shapes (In.Shade 1) (left + queues) y hands (codes "in hands")
    ++ part_shapes (In.Shade 2) (left + queues + hands) y lent (codes "lent"))

-- where the buffers of a pool are, in words
abbrev pub held_text : Census → List ℕ
held_text pool =
    decimal pool.queues ++ (codes " in queues, " ++ (decimal pool.hands ++ codes " in hands, "))

-- the same with those that are lent, and all
abbrev pub words_of : Census → List ℕ
words_of pool =
    held_text pool ++ (decimal pool.lent ++ (codes " lent, of " ++ decimal pool.buffers))

-- the bar of a pool: a frame as long as the whole pool, and its parts
abbrev pub bar : ℕ → ℕ → Census → List Shape
bar left y pool = part_shapes In.Region left y 480 pool.name ++ parts left y pool

-- a row: the name of the pool, its bar, and the bar's parts in words
abbrev pub row_shapes : ℕ → ℕ → Census → List Shape
row_shapes left k pool =
    words In.Label 16 (row_y k + 4) pool.name
    ∷ bar left (row_y k) pool
    ++ words In.Label (left + 496) (row_y k + 4) (words_of pool) ∷ []

-- what each element of a list is drawn as, in turn, counted from a number on
abbrev pub draw_each : {T A : Type 0} → (ℕ → T → List A) → ℕ → List T → List A
draw_each shapes k [] = []
draw_each shapes k (x ∷ xs) = shapes k x ++ draw_each shapes (k + 1) xs
