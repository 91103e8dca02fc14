-- The whole picture of pools.
use Rattle.std.specs.Prelude.{ℕ, ◌+◌, ◌*◌, List, [], ◌∷◌, ◌++◌, length, min, max, codes}
use Rattle.std.specs.List.{fold}
use Rattle.cargo_core.specs.declared.census.Census.{Census}
use Rattle.picture_kit.specs.declared.ink.Ink.TheVariants as In
use Rattle.picture_kit.specs.declared.shape.Picture.{Picture}
use Rattle.picture_kit.specs.declared.shape.Shape.{Shape}
use Rattle.picture_kit.specs.Shapes.{words}
use Rattle.pictures.specs.PlayPicture.PoolPicture.Rows.{row_y, row_shapes, draw_each}

-- how long the longest name of a pool is; names past 1,000 count as 1,000
abbrev pub longest_name : ℕ → List Census → ℕ
longest_name least pools =
    fold (λ most (pool : Census). max most (min (length pool.name) 1000)) least pools

-- where the bars begin: behind the names
abbrev pub left : List Census → ℕ
left pools = 8 * longest_name 0 pools + 32

-- all shapes: a row for each pool
unfoldable pub shapes_of : List Census → List Shape
shapes_of pools =
    (words In.Heading 16 28 (codes "Buffers") ∷ []) ++ draw_each (row_shapes (left pools)) 0 pools

-- the picture of pools
abbrev pub picture_of : List Census → Picture
picture_of pools = record {
  width = left pools + 960;
  height = row_y (length pools);
  title = codes "Buffers";
  about = codes "where the buffers of each pool are";
  shapes = shapes_of pools;
}
