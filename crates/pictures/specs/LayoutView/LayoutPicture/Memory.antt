-- The rows of regions, and the pools in them.
use Rattle.std.specs.Prelude.{ℕ, ◌+◌, ◌-◌, ◌*◌, ◌/◌, false, List, [], ◌∷◌, ◌++◌, min, max, codes}
use Rattle.std.specs.List.{fold}
use Rattle.std.specs.Fmt.{decimal, digits}
use Rattle.wire_core.specs.declared.names.PoolRow.{PoolRow}
use Rattle.sdf_plan.specs.declared.plan.Region.{Region}
use Rattle.picture_kit.specs.declared.ink.Ink.TheVariants as In
use Rattle.picture_kit.specs.declared.shape.Form.TheVariants as As
use Rattle.picture_kit.specs.declared.shape.Shape.{Shape}
use Rattle.picture_kit.specs.Shapes.{area, noted, words}
use Rattle.pictures.specs.declared.layout_view.layout_picture.cards.Card.{Card}
use Rattle.pictures.specs.declared.layout_view.layout_picture.grid.Grid.{Grid}
use Rattle.pictures.specs.LayoutView.LayoutPicture.Cards.{column_of}
use Rattle.pictures.specs.LayoutView.LayoutPicture.Grid.{left, region_y}

-- the size of the largest region
abbrev pub largest : List Region → ℕ
largest regions = fold (λ most (region : Region). max most region.size) 0 regions

-- how many bytes a pixel of a bar stands for: so many that the largest region fits 320 pixels
abbrev pub scale_of : List Region → ℕ
scale_of regions = largest regions / 320 + 1

-- how long the bar for so many bytes is: two pixels at least
abbrev pub bar_width : ℕ → ℕ → ℕ
bar_width scale bytes = min (bytes / scale) 320 + 2

-- a range of addresses: the first, and how many bytes
abbrev pub range_text : ℕ → ℕ → List ℕ
range_text base size =
    codes "0x" ++ (digits 16 false base ++ (codes ", 0x" ++ (digits 16 false size
    ++ codes " bytes")))

-- a region: its name, its bar, its address and its size
abbrev pub region_shapes : Grid → ℕ → ℕ → ℕ → Region → List Shape
region_shapes g scale base r region =
    words In.Label 16 (region_y g r + 4) region.name
    ∷ noted In.Region
    (As.Block (area (left g) (region_y g r - 8) (bar_width scale region.size) 16)) region.name
    ∷ words In.Label (left g + 336) (region_y g r + 4) (range_text base region.size) ∷ []

-- how many bytes the buffers of a pool have
abbrev pub pool_bytes : PoolRow → ℕ
pool_bytes pool = pool.buffers * pool.size

-- what is said of a pool: its name, its buffers and their size, and its owner
abbrev pub pool_text : List ℕ → PoolRow → List ℕ
pool_text owner pool =
    codes "pool " ++ (pool.name ++ (codes " " ++ (decimal pool.buffers
    ++ (codes " x " ++ (decimal pool.size ++ (codes " of " ++ owner))))))

-- a pool: its bar in its region's, in the colour of its owner's box, and what is said of it
abbrev pub pool_shapes : Grid → ℕ → List Card → List ℕ → PoolRow → List Shape
pool_shapes g scale cards owner pool =
    noted (In.Shade (column_of owner cards))
    (As.Block (area (left g) (region_y g pool.region - 5) (bar_width scale (pool_bytes pool)) 10))
    (pool_text owner pool)
    ∷ words In.Label (left g + 640) (region_y g pool.region + 4) (pool_text owner pool) ∷ []
